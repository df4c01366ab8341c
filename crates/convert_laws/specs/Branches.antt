-- Which records are branches, by group, kind and jump kind. Nobody has to believe it: proofs/Branches shows that it is what the form chosen says.
-- Definitions only.
use Rattle.std.specs.Prelude.{None, Option, Some}
use Rattle.mrc_compiler.specs.declared.encoder.JumpKind.{JumpKind}
use Rattle.mrc_compiler.specs.declared.encoder.OperandData.{OperandData}
use Rattle.mrc_compiler.specs.Choose.{by_kind, by_jump}
use Rattle.encode_groups.specs.declared.Group.{Group}
use Rattle.encode_groups.specs.declared.Group.TheVariants as G
use Rattle.convert_spec.specs.declared.Branch.{Branch}
use Rattle.convert_spec.specs.declared.Branch.TheVariants as B

-- with an immediate of this jump kind
abbrev pub near_in : Group → Option JumpKind → Option Branch
near_in G.Arithmetic j = None
near_in G.Unary j = None
near_in G.Mov j = None
near_in G.Test j = None
near_in G.Xchg j = None
near_in G.IncDec j = None
near_in G.Push j = None
near_in G.Pop j = None
near_in G.Ret j = None
near_in G.Lea j = None
near_in G.LesLds j = None
near_in G.Shift j = None
near_in G.Call j = by_jump j (Some B.Near) None (Some B.Near) None
near_in G.Jmp j = by_jump j (Some B.Near) None (Some B.Near) (Some B.Short)
near_in G.Jcc j = by_jump j (Some B.Short) None None (Some B.Short)
near_in G.Loopc j = by_jump j (Some B.Short) None None (Some B.Short)
near_in G.NoOperands j = None
near_in G.Prefixes j = None
near_in G.Int j = None
near_in G.Aam j = None
near_in G.Aad j = None
near_in G.Xlat j = None
near_in G.In j = None
near_in G.Out j = None
near_in G.Unsupported j = None

abbrev pub branch_in : Group → OperandData → Option Branch
branch_in g o = by_kind o.kind (near_in g o.jmp_kind) None None None
