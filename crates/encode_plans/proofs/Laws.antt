-- What the answer of common_operand_size says of questions 3 and 4, and of a single operand's size; small laws of tests.
-- Assumes nothing.
use mathlib.Core.Path.{◌≡◌, refl}
use mathlib.Core.Bool.{Bool, true, false}
use Rattle.std.specs.Prelude.{Result, Ok, Err}
use Rattle.mrc_compiler.specs.declared.ast.DataSize.{DataSize}
use Rattle.mrc_compiler.specs.declared.encoder.OperandKind.{OperandKind}
use Rattle.mrc_compiler.specs.declared.encoder.OperandKind.TheVariants as K
use Rattle.mrc_compiler.specs.declared.encoder.OperandSize.{OperandSize}
use Rattle.mrc_compiler.specs.declared.encoder.OperandSize.TheVariants as S
use Rattle.mrc_compiler.specs.Builders.{is_specified, size_from_some}
use Rattle.mrc_compiler.specs.Choose.{both, either, by_kind}
use Rattle.encode_spec.specs.Records.{stated_of}
use Rattle.encode_spec.specs.Questions.{agree}
use Rattle.mrc_compiler.specs.declared.encoder.generate.NoForm.{NoForm}
use Rattle.encode_lines.specs.Lines.{size_not_specified, sizes_do_not_match}
use Rattle.encode_plans.specs.Sizes.{common_of}

-- what the answer says of two sizes: both questions get yes and the size is z, question 3 gets no, or question 4
pub data CommonIs (s t : OperandSize) : Result DataSize NoForm → Type 0 where
  shared : (z : DataSize) → either (is_specified s) (is_specified t) ≡ true → agree s t ≡ true → stated_of s t ≡ size_from_some z → CommonIs s t (Ok z)
  not_stated : either (is_specified s) (is_specified t) ≡ false → CommonIs s t (Err size_not_specified)
  unequal : either (is_specified s) (is_specified t) ≡ true → agree s t ≡ false → CommonIs s t (Err sizes_do_not_match)

pub common_is : (s t : OperandSize) → CommonIs s t (common_of s t)
common_is S.Unspecified S.Unspecified = not_stated refl
common_is S.Unspecified S.Byte = shared _ refl refl refl
common_is S.Unspecified S.Word = shared _ refl refl refl
common_is S.Byte S.Unspecified = shared _ refl refl refl
common_is S.Byte S.Byte = shared _ refl refl refl
common_is S.Byte S.Word = unequal refl refl
common_is S.Word S.Unspecified = shared _ refl refl refl
common_is S.Word S.Byte = unequal refl refl
common_is S.Word S.Word = shared _ refl refl refl

-- a conjunction whose second part fails
pub both_no : (t : Bool) → both t false ≡ false
both_no true = refl
both_no false = refl

pub both_swap : (s t : Bool) → both s t ≡ both t s
both_swap true true = refl
both_swap true false = refl
both_swap false true = refl
both_swap false false = refl

-- a kind that is looked at for nothing
pub kind_no : (k : OperandKind) → by_kind k false false false false ≡ false
kind_no K.Imm = refl
kind_no K.Reg = refl
kind_no K.Seg = refl
kind_no K.Mem = refl
