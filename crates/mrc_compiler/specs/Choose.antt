-- Choices by a test and by the port's enums, as functions.
-- Definitions only.
use Rattle.std.specs.Prelude.{Bool, true, false, None, Option, Some}
use Rattle.mrc_compiler.specs.declared.encoder.OperandKind.{OperandKind}
use Rattle.mrc_compiler.specs.declared.encoder.OperandKind.TheVariants as K
use Rattle.mrc_compiler.specs.declared.encoder.OperandSize.{OperandSize}
use Rattle.mrc_compiler.specs.declared.encoder.OperandSize.TheVariants as S
use Rattle.mrc_compiler.specs.declared.encoder.JumpKind.{JumpKind}
use Rattle.mrc_compiler.specs.declared.encoder.JumpKind.TheVariants as J

-- the first where the test holds, else the second
abbrev pub pick : {A : Type 0} → Bool → A → A → A
pick true a b = a
pick false a b = b

abbrev pub both : Bool → Bool → Bool
both true b = b
both false b = false

abbrev pub either : Bool → Bool → Bool
either true b = true
either false b = b

abbrev pub isnt : Bool → Bool
isnt true = false
isnt false = true

-- by the size: unspecified, byte, word
abbrev pub by_size : {A : Type 0} → OperandSize → A → A → A → A
by_size S.Unspecified u b w = u
by_size S.Byte u b w = b
by_size S.Word u b w = w

-- by the kind: immediate, register, segment register, memory
abbrev pub by_kind : {A : Type 0} → OperandKind → A → A → A → A → A
by_kind K.Imm i r s m = i
by_kind K.Reg i r s m = r
by_kind K.Seg i r s m = s
by_kind K.Mem i r s m = m

-- by the jump kind: none, far, near, short
abbrev pub by_jump : {A : Type 0} → Option JumpKind → A → A → A → A → A
by_jump None n f r s = n
by_jump (Some J.Far) n f r s = f
by_jump (Some J.Near) n f r s = r
by_jump (Some J.Short) n f r s = s
