use mathlib.Core.Path.{sym, ◌∙◌}
use native.Mathlib.Omega.{arith}
use borrow.Author.Tests.{le-leb, lt-leb}
use Rattle.show_text.proofs.Shown.{text_is}
use Rattle.show_text.proofs.Laws.{pick_most, refused_text_length, refused_holds}
use Rattle.show_text.specs.Text.{listed, slice_after}
use Rattle.show_load.proofs.Laws.{accepted_image}
use Rattle.show_text.proofs.write.Goals as goal

pub returns-then-out-most : goal.returns-then-out-most
unfolding listed slice_after
returns-then-out-most c =
    let e = lt-leb _ _ (rw c.most_of-most.ensures at c.if-out-most.true) in
    record { value = rw e; out_after = rw e }

pub push_question_of-text-requires : goal.push_question_of-text-requires
push_question_of-text-requires c = sym c.accept.ensures ∙ c.in-Err.is

pub write_line-requires : goal.write_line-requires
write_line-requires c =
    let a = c.args in
    let q = sym c.accept.ensures ∙ c.in-Err.is in
    let h = refused_holds a.forms a.file.now _ q c.refused_line.ensures c.push_question_of-text.ensures in
    let l = refused_text_length a.forms a.file.now c.in-Err.e in
    let m = rw c.most_of-most.ensures at c.if-out-most.false in
    let n = h.count in
    let p = pick_most a.forms in
    (omega arith, omega arith)

pub write_show-requires : goal.write_show-requires
write_show-requires c =
    let a = c.args in
    let x = accepted_image _ a.file.now _ _ (sym c.accept.ensures ∙ c.in-Ok.is) in
    (x.exact.its_length, x.exact.its_limit, x.all_in, rw c.most_of-most.ensures at c.if-out-most.false)

pub returns-in-Err : goal.returns-in-Err
unfolding listed slice_after
returns-in-Err c =
    let a = c.args in
    let q = sym c.accept.ensures ∙ c.in-Err.is in
    let h = refused_holds a.forms a.file.now _ q c.refused_line.ensures c.push_question_of-text.ensures in
    let e = le-leb _ _ (rw c.most_of-most.ensures at c.if-out-most.false) in
    let t = text_is a.forms a.file.now _ q in
    let w = c.write_line in
    record { value = rw (e, t, ← h.count, w.ensures.value); out_after = rw (e, t) (rw (h.shown, h.count) at w.ensures.out_after) }

pub returns-in-Ok : goal.returns-in-Ok
unfolding listed slice_after
returns-in-Ok c =
    let a = c.args in
    let e = le-leb _ _ (rw c.most_of-most.ensures at c.if-out-most.false) in
    let t = text_is a.forms a.file.now _ (sym c.accept.ensures ∙ c.in-Ok.is) in
    let w = c.write_show in
    record { value = rw (e, t, ← w.ensures.value); out_after = rw (e, t) w.ensures.out_after }
