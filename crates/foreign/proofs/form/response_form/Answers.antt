use Rattle.foreign.proofs.Laws.{is_record_lem, not_record}
use Rattle.foreign.specs.EncodeRecord.{record_of, response_of, left_by}
use Rattle.std.proofs.Common.{sym, ◌∙◌}
use Rattle.foreign.proofs.form.response_form.Goals as goal

pub instruction_at-insn-requires : goal.instruction_at-insn-requires
instruction_at-insn-requires c = (is_record_lem _ (sym c.record_number-number.ensures ∙ c.if-number-eq0.true)).0

pub returns-then-number-eq0 : goal.returns-then-number-eq0
unfolding response_of left_by
returns-then-number-eq0 c =
    let n = c.record_number-number in
    let e = (is_record_lem _ (sym n.ensures ∙ c.if-number-eq0.true)).1 in
    let i = c.instruction_at-insn.ensures in
    let w = c.write_ground in
    record { value = rw e (rw (w.ensures.value, i) at c.response_encoded.ensures); out_after = rw e (rw i at w.ensures.out_after) }

pub returns-else-number-eq0 : goal.returns-else-number-eq0
returns-else-number-eq0 c =
    let n = c.record_number-number in
    let r = record_of c.args.rec.now in
    let h = not_record r (λ q. c.if-number-eq0.false (n.ensures ∙ q)) in
    record { value = rw n.ensures at c.response_alone.ensures ∙ h.tells _; out_after = h.leaves _ _ }
