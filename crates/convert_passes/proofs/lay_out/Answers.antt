use Prim.Native.Nat.{◌-◌}
use mathlib.Core.Path.{◌≡◌, refl, ◌∙◌}
use lib.ListN.{length-set}
use native.Mathlib.Omega.{arith}
use Rattle.show_file.proofs.Laws.{from_start, from_no}
use Rattle.convert_spec.specs.OldStarts.{is_refused, old_start, old_offset, old_answer, gain as gainOf}
use Rattle.convert_laws.proofs.Ranges.{gain_below}
use Rattle.convert_passes.proofs.Laws.{table_start, table_next, lay_taken, lay_short, lay_some, lay_next, gain_next, lay_stop, lay_all, old_bytes_small}
use Rattle.convert_passes.proofs.lay_out.Goals as goal

pub loop-k-init : goal.loop-k-init
unfolding old_start gainOf
loop-k-init c =
    let a = c.args in
    (refl, omega arith, refl, refl, refl, table_start _ _, table_start _ _, from_start (λ i. is_refused (old_answer a.file.now a.origin i)) a.n)

pub bounds-starts-k : goal.bounds-starts-k
bounds-starts-k c = let e = c.loop-k.invariant.3 in let p = c.requires.2.0 in omega arith

pub bounds-gains-k : goal.bounds-gains-k
bounds-gains-k c = let e = c.loop-k.invariant.4 in let p = c.requires.2.1 in omega arith

pub returns-in-Err-clause-value : goal.returns-in-Err-clause-value
returns-in-Err-clause-value c =
    let a = c.args in
    let pre = c.requires in
    let o = c.loop-k in
    let taken = c.loop-k-test.true in
    let f = a.file.now in
    let i = c.insn_at-insn.ensures in
    let r = c.encoded_length-length.result in
    let q = rw (c.by_one-one.ensures, i, c.offset_behind-offset.ensures) at c.encoded_length-length.ensures in
    lay_stop f a.origin o.k o.at o.invariant.0 r q _ a.n c.in-Err.is taken o.invariant.7

pub old_bytes-at-requires : goal.old_bytes-at-requires
old_bytes-at-requires c =
    let a = c.args in
    let pre = c.requires in
    let o = c.loop-k in
    let taken = c.loop-k-test.true in
    let f = a.file.now in
    let i = c.insn_at-insn.ensures in
    let r = c.encoded_length-length.result in
    let q = rw (c.by_one-one.ensures, i, c.offset_behind-offset.ensures) at c.encoded_length-length.ensures in
    lay_short f a.origin o.k o.at o.invariant.0 r q _ c.in-Ok.is

pub overflow_add-at : goal.overflow_add-at
overflow_add-at c =
    let a = c.args in
    let pre = c.requires in
    let o = c.loop-k in
    let taken = c.loop-k-test.true in
    let f = a.file.now in
    let i = c.insn_at-insn.ensures in
    let r = c.encoded_length-length.result in
    let q = rw (c.by_one-one.ensures, i, c.offset_behind-offset.ensures) at c.encoded_length-length.ensures in
    let s = lay_short f a.origin o.k o.at o.invariant.0 r q _ c.in-Ok.is in
    let b = old_bytes_small c.insn_at-insn.result c.in-Ok.m in
    let e = c.old_bytes-at.ensures in
    omega arith

pub gained_by-requires : goal.gained_by-requires
gained_by-requires c =
    let a = c.args in
    let pre = c.requires in
    let o = c.loop-k in
    let taken = c.loop-k-test.true in
    let f = a.file.now in
    let i = c.insn_at-insn.ensures in
    let r = c.encoded_length-length.result in
    let q = rw (c.by_one-one.ensures, i, c.offset_behind-offset.ensures) at c.encoded_length-length.ensures in
    (rw i (pre.3.counted o.k taken), lay_some f a.origin o.k o.at o.invariant.0 r q _ c.in-Ok.is, lay_short f a.origin o.k o.at o.invariant.0 r q _ c.in-Ok.is)

pub overflow_add-gain : goal.overflow_add-gain
overflow_add-gain c =
    let a = c.args in
    let pre = c.requires in
    let o = c.loop-k in
    let taken = c.loop-k-test.true in
    let f = a.file.now in
    let i = c.insn_at-insn.ensures in
    let r = c.encoded_length-length.result in
    let q = rw (c.by_one-one.ensures, i, c.offset_behind-offset.ensures) at c.encoded_length-length.ensures in
    let b = gain_below f a.origin a.n pre.3 o.k (omega arith) in
    let g = o.invariant.2 in
    let s = c.gained_by.ensures.small in
    omega arith

pub loop-k-preserved : goal.loop-k-preserved
loop-k-preserved c =
    let a = c.args in
    let pre = c.requires in
    let o = c.loop-k in
    let taken = c.loop-k-test.true in
    let f = a.file.now in
    let i = c.insn_at-insn.ensures in
    let r = c.encoded_length-length.result in
    let q = rw (c.by_one-one.ensures, i, c.offset_behind-offset.ensures) at c.encoded_length-length.ensures in
    let s = lay_short f a.origin o.k o.at o.invariant.0 r q _ c.in-Ok.is in
    let b = old_bytes_small c.insn_at-insn.result c.in-Ok.m in
    let e = c.old_bytes-at.ensures in
    let x = lay_next f a.origin o.k o.at o.invariant.0 r q _ c.in-Ok.is in
    let y = gain_next f a.origin o.k o.at o.invariant.0 r q _ c.in-Ok.is o.gain o.invariant.2 in
    let t = lay_taken f a.origin o.k o.at o.invariant.0 r q _ c.in-Ok.is in
    let d = c.offset_behind-offset.ensures in (
      rw (e, i) x,
      omega arith,
      rw (c.gained_by.ensures.value, i) y,
      simp length-set o.invariant.3,
      simp length-set o.invariant.4,
      table_next (old_offset f a.origin) o.k _ o.starts o.invariant.5 (let h = o.invariant.3 in let p = pre.2.0 in omega arith) (d ∙ rw o.invariant.0),
      table_next (gainOf f a.origin) o.k o.gain o.gains o.invariant.6 (let h = o.invariant.4 in let p = pre.2.1 in omega arith) o.invariant.2,
      from_no (λ j. is_refused (old_answer f a.origin j)) a.n o.k taken o.invariant.7 t,
    )

pub bounds-starts-n : goal.bounds-starts-n
bounds-starts-n c = let e = c.loop-k.invariant.3 in let p = c.requires.2.0 in omega arith

pub bounds-gains-n : goal.bounds-gains-n
bounds-gains-n c = let e = c.loop-k.invariant.4 in let p = c.requires.2.1 in omega arith

pub returns : goal.returns
returns c =
    let a = c.args in
    let pre = c.requires in
    let o = c.loop-k in
    let f = a.file.now in
    let e : o.k ≡ a.n = omega arith in
    record { value = lay_all f a.origin a.n o.k o.auto.k-end (omega arith) o.invariant.7; table = table_next (old_offset f a.origin) a.n _ o.starts (rw e at o.invariant.5) (let h = o.invariant.3 in let p = pre.2.0 in omega arith) (c.offset_behind.ensures ∙ rw (o.invariant.0, e)); table_2 = table_next (gainOf f a.origin) a.n o.gain o.gains (rw e at o.invariant.6) (let h = o.invariant.4 in let p = pre.2.1 in omega arith) (o.invariant.2 ∙ rw e) }
