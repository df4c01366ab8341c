use Rattle.encode_lines.specs.Lines.{immediate}
use Rattle.fast_rows.specs.Rows.{data_of}
use Rattle.std.proofs.Common.{arith}
use Rattle.fast_run.proofs.Laws.{ne_positive}
use Rattle.fast_forms.proofs.Laws.{rm_then, bit_is, first_operand}
use Rattle.fast_forms.proofs.rm_imm.Goals as goal

pub returns-then-size-eq0 : goal.returns-then-size-eq0
returns-then-size-eq0 c = λ off h. absurd (omega arith)

pub returns-then-value-ge-NONE : goal.returns-then-value-ge-NONE
returns-then-value-ge-NONE c = λ off h. absurd (omega arith)

pub rm_form-requires : goal.rm_form-requires
rm_form-requires c = (c.requires.0, (first_operand _ c.requires.0, (c.requires.1.1.1, (c.imm_value-value.ensures c.if-value-ge-NONE.false 0).valued)))

pub returns : goal.returns
returns c =
    λ off h. let p = ne_positive _ c.if-size-eq0.false in
    (p, rw (bit_is _ p c.requires.1.0) (rm_then _ c.requires.0 off (immediate (data_of c.args.size)) c.args.size c.imm_value-value.result (c.imm_value-value.ensures c.if-value-ge-NONE.false off).is _ _ _ c.rm_form.ensures))
