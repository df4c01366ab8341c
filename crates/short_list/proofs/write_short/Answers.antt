use native.Mathlib.Omega.{arith}
use lib.ListN.{length}
use Rattle.short_list.proofs.Laws.{count_length, count_holds}
use Rattle.short_list.proofs.Counts.{lines_are}
use Rattle.short_list.proofs.Texts.{holds, holds_not, behind_in, whole_text}
use Rattle.short_list.specs.Text.{written, slice_after}
use Rattle.short_list.proofs.write_short.Goals as goal

pub returns-then-out-lt-SHORT_LENGTH : goal.returns-then-out-lt-SHORT_LENGTH
unfolding written slice_after
returns-then-out-lt-SHORT_LENGTH c =
    let e = holds_not (length c.args.out.now) (omega (arith, c.if-out-lt-SHORT_LENGTH.true)) in
    record { value = rw e; out_after = rw e }

pub write_lines-lines-requires : goal.write_lines-lines-requires
unfolding written slice_after
write_lines-lines-requires c = omega (arith, lines_are)

pub slice_bounds-write_line-count : goal.slice_bounds-write_line-count
unfolding written slice_after
slice_bounds-write_line-count c =
    let w = c.write_lines-lines in
    let b = c in
    (behind_in c.args.out.now (omega (arith, c.if-out-lt-SHORT_LENGTH.false)) _ _ _ w.ensures.count_value w.ensures.end_value w.ensures.out_after).0

pub slice_bounds-write_line-start : goal.slice_bounds-write_line-start
unfolding written slice_after
slice_bounds-write_line-start c =
    let w = c.write_lines-lines in
    let b = c in
    (behind_in c.args.out.now (omega (arith, c.if-out-lt-SHORT_LENGTH.false)) _ _ _ w.ensures.count_value w.ensures.end_value w.ensures.out_after).0

pub write_line-m-requires : goal.write_line-m-requires
unfolding written slice_after
write_line-m-requires c =
    let w = c.write_lines-lines in
    let b = c in
    let i = (behind_in c.args.out.now (omega (arith, c.if-out-lt-SHORT_LENGTH.false)) _ _ _ w.ensures.count_value w.ensures.end_value w.ensures.out_after).1 in
    let h = count_holds _ _ c.count_line-last.ensures in
    let n = h.count in
    let l = count_length w.result.count in
    (omega arith, omega arith)

pub overflow_add-result : goal.overflow_add-result
unfolding written slice_after
overflow_add-result c =
    let a = c in
    let w = c.write_lines-lines in
    let b = c in
    let i = (behind_in c.args.out.now (omega (arith, c.if-out-lt-SHORT_LENGTH.false)) _ _ _ w.ensures.count_value w.ensures.end_value w.ensures.out_after).2 in
    let h = count_holds _ _ c.count_line-last.ensures in
    let n = h.count in
    let l = count_length w.result.count in
    let m = c.write_line-m.ensures.value in
    omega arith

pub returns : goal.returns
unfolding written slice_after
returns c =
    let a = c in
    let w = c.write_lines-lines in
    let b = c in
    let h = count_holds _ _ c.count_line-last.ensures in
    let v = c.write_line-m in
    let e = holds (length c.args.out.now) (omega (arith, c.if-out-lt-SHORT_LENGTH.false)) in
    let t = whole_text c.args.out.now (omega (arith, c.if-out-lt-SHORT_LENGTH.false)) _ _ _ w.ensures.count_value w.ensures.end_value w.ensures.out_after _ v.result (rw h.count at v.ensures.value) (rw (h.shown, h.count) at v.ensures.out_after) in
    record { value = rw (e, ← t.0); out_after = rw e t.1 }
