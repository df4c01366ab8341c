use Rattle.base_values.proofs.Fronts.{lent_length}
use Rattle.show_load.proofs.Laws.{ran, answered_all, within_seven}
use Rattle.show_text.proofs.Laws.{lines_start, lines_in, text_short, text_in_line, lines_more}
use native.Mathlib.Omega.{arith}
use Prim.Native.Nat.{◌-◌}
use mathlib.Core.Path.{refl}
use Rattle.show_text.proofs.write_lines.Goals as goal

pub loop-k-init : goal.loop-k-init
loop-k-init c = let a = c.args in lines_start a.forms a.file.now a.origin a.out.now

pub unwrap-run-requires : goal.unwrap-run-requires
unwrap-run-requires c =
    let o = c.loop-k in
    let (bs, e) = answered_all c.args.file.now c.args.origin o.k o.at o.invariant.upto c.args.n c.requires.2 c.loop-k-test.true in
    rw (c.run_at.ensures, e) refl

pub line_of-line-requires : goal.line_of-line-requires
line_of-line-requires c =
    let a = c.args in
    let o = c.loop-k in
    let r = ran a.file.now a.origin o.k o.at c.run_at.ensures c.unwrap-run.ensures in
    (omega arith, r.whole)

pub write_line-to-requires : goal.write_line-to-requires
write_line-to-requires c =
    let b = c in
    let o = c.loop-k in
    let t = c.loop-k-test.true in
    let hl = rw c.offset_behind-offset.ensures at c.line_of-line.ensures in
    let s = text_short _ _ _ _ _ _ _ _ o.invariant c.run_at.ensures c.unwrap-run.ensures c.args.n c.requires.2 t hl c.push_form_at-text.ensures in
    let w = text_in_line _ _ _ _ _ _ _ _ o.invariant c.run_at.ensures c.unwrap-run.ensures c.args.n c.requires.2 t hl c.push_form_at-text.ensures in
    let h = lines_in _ _ _ _ _ _ _ _ o.invariant c.args.n t c.requires.3 in
    let l = lent_length o.out o.to in
    (w, omega arith)

pub overflow_add-at : goal.overflow_add-at
overflow_add-at c =
    let a = c.args in
    let o = c.loop-k in
    let r = ran a.file.now a.origin o.k o.at c.run_at.ensures c.unwrap-run.ensures in
    let e = o.invariant.upto.ends in
    let w = within_seven a.file.now a.origin o.k in
    let t = c.loop-k-test.true in
    let p = c.requires.1 in
    omega arith

pub overflow_add-to : goal.overflow_add-to
overflow_add-to c =
    let b = c in
    let o = c.loop-k in
    let t = c.loop-k-test.true in
    let hl = rw c.offset_behind-offset.ensures at c.line_of-line.ensures in
    let s = text_short _ _ _ _ _ _ _ _ o.invariant c.run_at.ensures c.unwrap-run.ensures c.args.n c.requires.2 t hl c.push_form_at-text.ensures in
    let h = lines_in _ _ _ _ _ _ _ _ o.invariant c.args.n t c.requires.3 in
    let m = c.write_line-to.ensures.value in
    omega arith

pub loop-k-preserved : goal.loop-k-preserved
loop-k-preserved c =
    let b = c in
    let o = c.loop-k in
    let t = c.loop-k-test.true in
    let hl = rw c.offset_behind-offset.ensures at c.line_of-line.ensures in
    let w = c.write_line-to in
    lines_more _ _ _ _ _ _ _ _ o.invariant c.run_at.ensures c.unwrap-run.ensures c.args.n c.requires.2 t hl c.push_form_at-text.ensures c.requires.3 _ w.result w.ensures.value w.ensures.out_after
