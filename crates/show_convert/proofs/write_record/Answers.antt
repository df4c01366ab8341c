use mathlib.Core.Path.{◌∙◌, ap}
use lib.ListN.{length}
use Rattle.show_file.specs.Show.{insn_at}
use Rattle.convert_spec.specs.Counts.{times}
use Rattle.convert_laws.proofs.Ranges.{times_within}
use Rattle.convert_laws.proofs.Written.{record_length, new_length}
use Rattle.show_convert.proofs.Writing.{record_part}
use Rattle.show_convert.proofs.Patched.{patch_is, copied}
use Rattle.convert_passes.proofs.Measuring.{exact, movable}
use native.Mathlib.Omega.{arith}
use Rattle.show_convert.proofs.write_record.Goals as goal

pub insn_at-insn-requires : goal.insn_at-insn-requires
insn_at-insn-requires c =
    let b = c in
    (exact c.args.file.now c.args.header c.requires.0.show, omega (arith, c.requires.0.show.few), c.requires.1)

pub overflow_mul-from : goal.overflow_mul-from
overflow_mul-from c = let p = c.requires in let f = p.0.show.few in let l = p.0.show.its_length in let k = p.1 in omega arith

pub overflow_add-from : goal.overflow_add-from
overflow_add-from c = let p = c.requires in let f = p.0.show.few in let l = p.0.show.its_length in let k = p.1 in omega arith

pub overflow_add-from-2 : goal.overflow_add-from-2
overflow_add-from-2 c = let p = c.requires in let f = p.0.show.few in let l = p.0.show.its_length in let k = p.1 in omega arith

pub slice_bounds-copy_from_slice-start : goal.slice_bounds-copy_from_slice-start
slice_bounds-copy_from_slice-start c = let p = c.requires in let f = p.0.show.few in let l = p.0.show.its_length in let k = p.1 in omega arith

pub slice_bounds-copy_from_slice-end-2 : goal.slice_bounds-copy_from_slice-end-2
slice_bounds-copy_from_slice-end-2 c = let p = c.requires in let f = p.0.show.few in let l = p.0.show.its_length in let k = p.1 in omega arith

pub patch-requires : goal.patch-requires
patch-requires c =
    let b = c in
    let f = c.args.file.now in
    let h = c.args.header in
    let s = c.args.starts.now in
    let g = c.args.gains.now in
    let F = c.requires.0 in
    let k = c.args.k in
    let l = c.requires.1 in
    let p = c.copy_from_slice.ensures.after ∙ record_part f h F.show k in
    (F.show.few, F.room, rw c.insn_at-insn.ensures (movable f h s g F k l), ap length p ∙ record_length f h F.show k l)

pub put_copies-requires : goal.put_copies-requires
put_copies-requires c =
    let b = c in
    let f = c.args.file.now in
    let h = c.args.header in
    let s = c.args.starts.now in
    let g = c.args.gains.now in
    let F = c.requires.0 in
    let k = c.args.k in
    let l = c.requires.1 in
    let p = c.copy_from_slice.ensures.after ∙ record_part f h F.show k in
    let q = patch_is f h s g F k l _ _ _ c.insn_at-insn.ensures p c.patch.ensures in
    let t = c.times_of-t.ensures ∙ ap times c.insn_at-insn.ensures in
    (ap length q ∙ new_length f h F.show k l, rw t (times_within (insn_at f k) (F.convertible.counts.counted k l)).1, rw t c.requires.2)

pub returns : goal.returns
returns c =
    let b = c in
    let f = c.args.file.now in
    let h = c.args.header in
    let s = c.args.starts.now in
    let g = c.args.gains.now in
    let F = c.requires.0 in
    let k = c.args.k in
    let l = c.requires.1 in
    let p = c.copy_from_slice.ensures.after ∙ record_part f h F.show k in
    let q = patch_is f h s g F k l _ _ _ c.insn_at-insn.ensures p c.patch.ensures in
    let t = c.times_of-t.ensures ∙ ap times c.insn_at-insn.ensures in
    record { value = t; out_after = copied _ _ _ _ _ _ t q c.put_copies.ensures }
