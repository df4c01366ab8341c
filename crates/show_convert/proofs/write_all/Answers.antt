use lib.Seq.{length-take-le}
use Prim.Native.Nat.{◌<◌, ◌-◌, ◌+◌}
use mathlib.Core.Path.{refl}
use lib.ListN.{length}
use native.Mathlib.Omega.{arith}
use Rattle.base_values.proofs.Fronts.{lent_length}
use Rattle.show_file.specs.Show.{insn_at}
use Rattle.convert_spec.specs.OldStarts.{first_copy}
use Rattle.convert_laws.proofs.Ranges.{times_within}
use Rattle.convert_laws.proofs.Written.{copies_below}
use Rattle.convert_passes.proofs.Laws.{copies_next}
use Rattle.show_convert.proofs.Writing.{up_to_more, begun, begun_length, ended}
use borrow.Author.Rules.{rules}
use Rattle.show_convert.proofs.write_all.Goals as goal

pub slice_bounds-head-end : goal.slice_bounds-head-end
slice_bounds-head-end c =
    let l = c.requires.0.show.its_length in
    search rules

pub put-requires : goal.put-requires
put-requires c =
    let b = c in
    let f = c.args.file.now in
    let h = c.args.header in
    let t = length-take-le 7 f (omega (arith, c.requires.0.show.its_length)) in
    let l = c.requires.3 in
    omega arith

pub bounds-out-7 : goal.bounds-out-7
bounds-out-7 c =
    let b = c in
    let f = c.args.file.now in
    let h = c.args.header in
    let l = c.requires.3 in
    search rules

pub bounds-out-8 : goal.bounds-out-8
bounds-out-8 c =
    let l = c.requires.3 in
    let w : 8 < length c.args.out.now = omega arith in
    search rules

pub loop-k-init : goal.loop-k-init
unfolding first_copy
loop-k-init c =
    let b = c in
    let f = c.args.file.now in
    let h = c.args.header in
    (begun f h c.requires.0.show c.args.out.now _ _ c.args.c c.requires.1 c.requires.3 refl c.put.ensures, refl, rw (begun_length f h c.requires.0.show c.args.out.now _ _ c.args.c c.requires.1 c.requires.3 refl c.put.ensures) c.requires.3)

pub slice_bounds-part-count : goal.slice_bounds-part-count
slice_bounds-part-count c =
    let b = c in
    let f = c.args.file.now in
    let h = c.args.header in
    let o = c.loop-k in
    let r = o.invariant.2 in
    let e = o.invariant.0.same in
    let a = o.invariant.1 in
    let m = copies_below f o.k h.count o.auto.k-end in
    let z = c.requires.1 in
    let y = c.requires.2 in
    omega arith

pub slice_bounds-part-start : goal.slice_bounds-part-start
slice_bounds-part-start c =
    let b = c in
    let f = c.args.file.now in
    let h = c.args.header in
    let o = c.loop-k in
    let r = o.invariant.2 in
    let e = o.invariant.0.same in
    let a = o.invariant.1 in
    let m = copies_below f o.k h.count o.auto.k-end in
    let z = c.requires.1 in
    let y = c.requires.2 in
    omega arith

pub write_record-t-requires : goal.write_record-t-requires
write_record-t-requires c =
    let b = c in
    let f = c.args.file.now in
    let h = c.args.header in
    let o = c.loop-k in
    let n = copies_next f o.k in
    let m = copies_below f (o.k + 1) h.count (omega (arith, c.loop-k-test.true)) in
    let r = o.invariant.2 in
    let e = o.invariant.0.same in
    let a = o.invariant.1 in
    let z = c.requires.1 in
    let y = c.requires.2 in
    let l = lent_length o.out o.at in
    (c.requires.0, c.loop-k-test.true, omega arith)

pub overflow_mul-at : goal.overflow_mul-at
overflow_mul-at c =
    let b = c in
    let f = c.args.file.now in
    let h = c.args.header in
    let o = c.loop-k in
    let t = c.write_record-t.ensures.value in
    let w = (times_within (insn_at f o.k) (c.requires.0.convertible.counts.counted o.k c.loop-k-test.true)).1 in
    omega arith

pub overflow_add-at : goal.overflow_add-at
overflow_add-at c =
    let b = c in
    let f = c.args.file.now in
    let h = c.args.header in
    let o = c.loop-k in
    let n = copies_next f o.k in
    let m = copies_below f (o.k + 1) h.count (omega (arith, c.loop-k-test.true)) in
    let r = o.invariant.2 in
    let e = o.invariant.0.same in
    let a = o.invariant.1 in
    let z = c.requires.1 in
    let y = c.requires.2 in
    let t = c.write_record-t.ensures.value in
    let w = (times_within (insn_at f o.k) (c.requires.0.convertible.counts.counted o.k c.loop-k-test.true)).1 in
    omega arith

pub loop-k-preserved : goal.loop-k-preserved
loop-k-preserved c =
    let b = c in
    let f = c.args.file.now in
    let h = c.args.header in
    let o = c.loop-k in
    let l = c.loop-k-test.true in
    let n = copies_next f o.k in
    let m = copies_below f (o.k + 1) h.count (omega (arith, l)) in
    let r = o.invariant.2 in
    let e = o.invariant.0.same in
    let a = o.invariant.1 in
    let z = c.requires.1 in
    let y = c.requires.2 in
    let w = c.write_record-t.ensures in
    let t = c.write_record-t.ensures.value in
    (up_to_more f h c.requires.0.show o.k l _ o.out _ o.at o.invariant.0 o.invariant.1 (omega arith) c.write_record-t.ensures.out_after, omega arith, r)

pub returns : goal.returns
returns c =
    let b = c in
    let f = c.args.file.now in
    let h = c.args.header in
    let o = c.loop-k in
    ended f h c.requires.0.show c.args.out.now _ _ c.args.c c.requires.1 c.requires.3 refl c.put.ensures o.out o.k (omega (arith, o.auto.k-end, c.loop-k-test.false)) o.invariant.0
