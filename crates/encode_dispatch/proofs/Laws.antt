-- What the group of a record's operation decides is what the questions choose.
-- Assumes nothing.
use mathlib.Core.Path.{◌≡◌, sym, subst}
use Prim.Native.Nat.{ℕ, ◌<◌}
use mathlib.Core.List.{List, Memᴰ}
use lib.Dec.{ltb, ltb→lt}
use Rattle.mrc_compiler.specs.declared.encoder.InstructionData.{InstructionData}
use Rattle.mrc_compiler.specs.declared.operations.Operation.{Operation}
use Rattle.mrc_compiler.specs.Choose.{both}
use Rattle.mrc_compiler.specs.Operations.{same_operation}
use Rattle.x86.specs.Forms.{Form, forms}
use Rattle.x86.proofs.Tests.{both_parts, each_at, kept}
use Rattle.x86.proofs.Unambiguous.{digit_ok, all_bytes}
use Rattle.encode_groups.specs.Grouping.{group_of, base_of}
use Rattle.encode_spec.specs.Records.{dst, src}
use Rattle.encode_spec.specs.Choice.{forms_of}
use Rattle.encode_spec.specs.Blocks.{block}
use Rattle.encode_spec.proofs.Operations.{in_table}
use Rattle.encode_lines.specs.Lines.{planned}
use Rattle.encode_plans.specs.Plans.{plan_of}
use Rattle.encode_plans.specs.Decisions.{decision_in}
use Rattle.encode_plans.proofs.Decided.{decided}

-- every opcode of an operation's block is a byte
opcodes : (op : Operation) (f : Form) → Memᴰ f (block (group_of op) (base_of op) op) → f.opcode < 256
unfolding forms_of
opcodes op f m =
    let l = subst (λ (fs : List Form). Memᴰ f fs) (sym (in_table op).forms_are) m in
    let t = each_at (λ f. both (ltb f.opcode 256) (digit_ok f.extension)) forms all_bytes (kept (λ f. same_operation f.operation op) forms l) in
    ltb→lt _ 256 (both_parts (ltb f.opcode 256) (digit_ok f.extension) t).0

pub planned_of : (insn : InstructionData)
    → planned (decision_in (group_of insn.operation) insn.num_opers (dst insn) (src insn)) (base_of insn.operation) ≡ plan_of insn
unfolding plan_of
planned_of insn =
    let op = insn.operation in
    rw (in_table op).forms_are (decided (group_of op) (base_of op) op insn.num_opers (dst insn) (src insn) (opcodes op))
