use native.Mathlib.Omega.{arith}
use borrow.Author.Tests.{le-leb, lt-leb}
use Rattle.text_form.proofs.Laws.{ground_length, ground_holds}
use Rattle.encode_form.specs.Ground.{ground}
use Rattle.text_form.proofs.write_ground.Goals as goal

pub returns-then-out-lt-MOST_LINE : goal.returns-then-out-lt-MOST_LINE
returns-then-out-lt-MOST_LINE c =
    let e = lt-leb _ _ c.if-out-lt-MOST_LINE.true in
    record { value = rw e; out_after = rw e }

pub write_line-n-requires : goal.write_line-n-requires
write_line-n-requires c =
    let a = c.args in
    let h = ground_holds _ (ground a.insn a.offset) a.insn c.empty_line.ensures (rw c.ground_of-ground.ensures at c.push_ground-line.ensures) in
    let l = ground_length (ground a.insn a.offset) a.insn in
    let n = h.count in
    (omega arith, omega arith)

pub returns : goal.returns
returns c =
    let a = c.args in
    let h = ground_holds _ (ground a.insn a.offset) a.insn c.empty_line.ensures (rw c.ground_of-ground.ensures at c.push_ground-line.ensures) in
    let e = le-leb _ _ c.if-out-lt-MOST_LINE.false in
    let w = c.write_line-n in
    record { value = rw (e, ← h.count, w.ensures.value); out_after = rw e (rw (h.shown, h.count) at w.ensures.out_after) }
