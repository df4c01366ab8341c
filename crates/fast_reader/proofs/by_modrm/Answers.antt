use Prim.Native.Nat.{◌+◌}
use Rattle.x86.specs.Reading.{prefix}
use native.Mathlib.Omega.{arith}
use lib.ListN.{get_or}
use Rattle.fast_reader.proofs.Placing.{pre_prefix}
use Rattle.fast_reader.proofs.Modrm.{placed_small, one_or_none, register_first, register_second, digit_reads}
use Rattle.fast_reader.proofs.by_modrm.Goals as goal

pub returns-then-bytes-i : goal.returns-then-bytes-i
returns-then-bytes-i c = λ off h. absurd (omega (arith, c.no_words.ensures))

pub place_at-place-requires : goal.place_at-place-requires
place_at-place-requires c = pre_prefix (get_or c.args.bytes.now 0 0) c.args.prefix (c.shared_slice_known-1.given 0).fits c.requires.2

pub returns-then-place-eq0 : goal.returns-then-place-eq0
returns-then-place-eq0 c = λ off h. absurd (omega (arith, c.no_words-then-place-eq0.ensures))

pub returns-then-bytes-n : goal.returns-then-bytes-n
returns-then-bytes-n c = λ off h. absurd (omega (arith, c.no_words-then-bytes-n.ensures))

pub overflow_cast-x : goal.overflow_cast-x
overflow_cast-x c = omega (arith, (c.shared_slice_known-1.given (c.args.start + 1)).fits)

pub overflow_add-mode : goal.overflow_add-mode
overflow_add-mode c = omega (arith, (c.shared_slice_known-1.given (c.args.start + 1)).fits)

pub returns-then-mode-x-eq4 : goal.returns-then-mode-x-eq4
returns-then-mode-x-eq4 c = λ off h. absurd (omega (arith, c.no_words-then-mode-x-eq4.ensures))

pub overflow_cast-head : goal.overflow_cast-head
overflow_cast-head c = omega (arith, one_or_none (prefix (get_or c.args.bytes.now 0 0)) c.args.start c.requires.1, placed_small c.args.prefix (get_or c.args.bytes.now (c.args.start + 1) 0) _ (c.place_at-place.ensures (omega (arith, c.if-place-eq0.false))))

pub overflow_add-head : goal.overflow_add-head
overflow_add-head c = omega (arith, one_or_none (prefix (get_or c.args.bytes.now 0 0)) c.args.start c.requires.1, placed_small c.args.prefix (get_or c.args.bytes.now (c.args.start + 1) 0) _ (c.place_at-place.ensures (omega (arith, c.if-place-eq0.false))))

pub returns-then-plan-eq0 : goal.returns-then-plan-eq0
returns-then-plan-eq0 c = λ off h. register_second off c.args.start c.args.prefix c.args.bytes.now (λ i. (c.shared_slice_known-1.given i).fits) c.if-bytes-i.false c.requires.1 c.requires.2 c.args.plan _ c.requires.3 (c.place_at-place.ensures (omega (arith, c.if-place-eq0.false))) c.if-bytes-n.false c.if-plan-eq2.true _ c.displacement_at-displacement.ensures c.if-plan-eq0.true

pub returns-then-plan-eq2 : goal.returns-then-plan-eq2
returns-then-plan-eq2 c = λ off h. register_first off c.args.start c.args.prefix c.args.bytes.now (λ i. (c.shared_slice_known-1.given i).fits) c.if-bytes-i.false c.requires.1 c.requires.2 c.args.plan _ c.requires.3 (c.place_at-place.ensures (omega (arith, c.if-place-eq0.false))) c.if-bytes-n.false c.if-plan-eq2.true _ c.displacement_at-displacement.ensures c.if-plan-eq0.false c.if-mode-x-eq4.false

pub overflow_cast-result : goal.overflow_cast-result
overflow_cast-result c = omega (arith, one_or_none (prefix (get_or c.args.bytes.now 0 0)) c.args.start c.requires.1, placed_small c.args.prefix (get_or c.args.bytes.now (c.args.start + 1) 0) _ (c.place_at-place.ensures (omega (arith, c.if-place-eq0.false))))

pub overflow_add-result-then-operation-lt99 : goal.overflow_add-result-then-operation-lt99
overflow_add-result-then-operation-lt99 c = omega (arith, one_or_none (prefix (get_or c.args.bytes.now 0 0)) c.args.start c.requires.1, placed_small c.args.prefix (get_or c.args.bytes.now (c.args.start + 1) 0) _ (c.place_at-place.ensures (omega (arith, c.if-place-eq0.false))))

pub returns-then-operation-lt99 : goal.returns-then-operation-lt99
returns-then-operation-lt99 c = λ off h. digit_reads off c.args.start c.args.prefix c.args.bytes.now (λ i. (c.shared_slice_known-1.given i).fits) c.if-bytes-i.false c.requires.1 c.requires.2 c.args.plan _ c.requires.3 (c.place_at-place.ensures (omega (arith, c.if-place-eq0.false))) c.if-bytes-n.false (omega (arith, c.requires.4, c.if-plan-eq2.false)) _ c.displacement_at-displacement.ensures _ (c.operation_of-operation.ensures c.if-operation-lt99.true) c.if-operation-lt99.true _ c.value_by-value.ensures

pub returns : goal.returns
returns c = λ off h. absurd (omega (arith, c.no_words-2.ensures))
