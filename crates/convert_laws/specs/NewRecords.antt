-- The instructions of a written file. Nobody has to believe them: proofs/Written shows that its records are theirs.
-- Definitions only.
use Rattle.std.specs.Prelude.{ℕ, List, ℤ}
use Rattle.mrc_compiler.specs.declared.encoder.InstructionData.{InstructionData}
use Rattle.mrc_compiler.specs.Choose.{pick}
use Rattle.encode_spec.specs.Records.{dst, src}
use Rattle.show_file.specs.Show.{insn_at}
use Rattle.convert_spec.specs.Counts.{with_imm, with_operands, with_count_one}
use Rattle.convert_spec.specs.Targets.{branch_of, is_branch}
use Rattle.convert_spec.specs.Written.{new_imm}

-- with another first immediate
abbrev pub with_first : InstructionData → ℤ → InstructionData
with_first insn z = with_operands insn (with_imm (dst insn) z) (src insn)

-- each record written for record k of n
unfoldable pub new_insn : List ℕ → ℕ → ℕ → ℕ → InstructionData
new_insn file origin n k =
    let insn = insn_at file k in
    pick (is_branch (branch_of insn)) (with_first insn (new_imm file origin n insn)) (with_count_one insn)
