use native.Mathlib.Omega.{arith}
use borrow.Author.Tests.{le-leb, lt-leb}
use Rattle.sum_text.proofs.Laws.{answer_length, answer_holds}
use Rattle.sum_text.specs.Lines.{answered, slice_after}
use Rattle.sum_text.proofs.write_answer.Goals as goal

pub returns-then-out-lt-MOST_ANSWER : goal.returns-then-out-lt-MOST_ANSWER
unfolding answered slice_after
returns-then-out-lt-MOST_ANSWER c =
    let e = lt-leb _ _ c.if-out-lt-MOST_ANSWER.true in
    record { value = rw e; fits = tt; out_after = rw e }

pub write_line-requires : goal.write_line-requires
write_line-requires c =
    let a = c.evaluate.result in
    let h = answer_holds a _ (rw c.empty_line.ensures at c.push_answer-line.ensures) in
    let l = answer_length a in
    let n = h.count in
    let m = c.if-out-lt-MOST_ANSWER.false in
    (omega arith, omega arith)

pub returns : goal.returns
unfolding answered slice_after
returns c =
    let v = c.evaluate in
    let h = answer_holds v.result _ (rw c.empty_line.ensures at c.push_answer-line.ensures) in
    let e = le-leb _ _ c.if-out-lt-MOST_ANSWER.false in
    let w = c.write_line in
    let n = h.count in
    let l = answer_length v.result in
    let m = c.if-out-lt-MOST_ANSWER.false in
    record { value = rw (e, ← v.ensures, ← h.count, w.ensures.value); fits = omega (arith, w.ensures.value); out_after = rw (e, ← v.ensures) (rw (h.shown, h.count) at w.ensures.out_after) }
