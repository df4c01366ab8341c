use Rattle.base_values.proofs.Fronts.{front_start, front_next, lent_length}
use Rattle.short_list.proofs.Laws.{none_yet, lines_next, count_next, lines_fit, count_fits}
use Rattle.short_list.proofs.Counts.{count_is, lines_are}
use Rattle.short_list.specs.Short.{string_at, strings, short_of}
use Rattle.short_list.specs.Text.{line_of, lines_of}
use lib.ListN.{length, length-append}
use native.Mathlib.Omega.{arith}
use Prim.Native.Nat.{◌+◌, ◌-◌}
use mathlib.Core.Path.{◌≡◌, refl, sym, ◌∙◌}
use mathlib.Core.Bool.{true, false}
use mathlib.Core.List.{append-nil}
use Rattle.short_list.proofs.write_lines.Goals.{then-string_reads, else-string_reads}
use Rattle.short_list.proofs.write_lines.Goals as goal

pub loop-k-init : goal.loop-k-init
loop-k-init c = record { count_is = rw none_yet refl; end_is = rw none_yet refl; front = rw none_yet (front_start _) }

pub slice_bounds-write_string-count : goal.slice_bounds-write_string-count
slice_bounds-write_string-count c =
    let o = c.loop-k in
    let l = lines_fit o.k strings _ c.string_reads.ensures (omega arith) in
    let e = o.invariant.end_is in
    let s = o.invariant.front.same in
    let p = c.requires in
    omega arith

pub slice_bounds-write_string-start : goal.slice_bounds-write_string-start
slice_bounds-write_string-start c =
    let o = c.loop-k in
    let l = lines_fit o.k strings _ c.string_reads.ensures (omega arith) in
    let e = o.invariant.end_is in
    let s = o.invariant.front.same in
    let p = c.requires in
    omega arith

pub write_string-end-requires : goal.write_string-end-requires
write_string-end-requires c =
    let o = c.loop-k in
    let l = lines_fit o.k strings true (sym c.if-string_reads.true ∙ c.string_reads.ensures) (omega arith) in
    let e = o.invariant.end_is in
    let s = o.invariant.front.same in
    let p = c.requires in
    let m = lent_length o.out o.end in
    (omega arith, omega arith)

pub overflow_add-end : goal.overflow_add-end
overflow_add-end c =
    let o = c.loop-k in
    let l = lines_fit o.k strings true (sym c.if-string_reads.true ∙ c.string_reads.ensures) (omega arith) in
    let e = o.invariant.end_is in
    let a = lines_are in
    let w = c.write_string-end.ensures.value in
    omega arith

pub overflow_add-count : goal.overflow_add-count
overflow_add-count c =
    let o = c.loop-k in
    let l = count_fits o.k strings true (sym c.if-string_reads.true ∙ c.string_reads.ensures) (omega arith) in
    let e = o.invariant.count_is in
    let a = count_is in
    omega arith

pub loop-k-preserved : goal.loop-k-preserved
loop-k-preserved c =
    let o = c.loop-k in
    let lines = lines_of (short_of o.k) in
    let p = c.requires in
    elim c.if-string_reads.branch [
      | then-string_reads w ↦
          let t = sym w.if-string_reads.true ∙ c.string_reads.ensures in
          let l = lines_fit o.k strings true t (omega (arith, c.loop-k-test.true)) in
          let n = lines_next o.k true t in
          let m : length (lines_of (short_of (o.k + 1))) ≡ length lines + length (line_of (string_at o.k)) = rw n (length-append lines (line_of (string_at o.k))) in
          record {
            count_is = omega (arith, w.count-is, o.invariant.count_is, count_next o.k true t);
            end_is = omega (arith, w.end-is, w.write_string-end.ensures.value, o.invariant.end_is, m);
            front = rw (w.out-is, n) (front_next lines _ _ o.out _ o.end o.invariant.front o.invariant.end_is (omega (arith, o.invariant.end_is)) w.write_string-end.ensures.out_after);
          }
      | else-string_reads w ↦
          let t = sym w.if-string_reads.false ∙ c.string_reads.ensures in
          let n = lines_next o.k false t ∙ append-nil lines in
          record {
            count_is = omega (arith, w.count-is, o.invariant.count_is, count_next o.k false t);
            end_is = rw (w.end-is, n) o.invariant.end_is;
            front = rw (w.out-is, n) o.invariant.front;
          }
    ]

pub returns : goal.returns
returns c =
    let o = c.loop-k in
    let e : o.k ≡ strings = omega (arith, o.auto.k-end, c.loop-k-test.false) in
    rw (← e) (record { count_value = o.invariant.count_is; end_value = o.invariant.end_is; out_after = o.invariant.front.is })
