-- Questions 6 and 7: the ranges of what a form holds.
-- Definitions only.
use Rattle.std.specs.Prelude.{ℕ, Bool, true, List, [], ◌∷◌, ◌++◌, ℤ, pos, negsuc}
use Rattle.mrc_compiler.specs.declared.encoder.EncodeError.{EncodeError}
use Rattle.mrc_compiler.specs.declared.encoder.EncodeError.TheVariants as E
use Rattle.mrc_compiler.specs.declared.encoder.OperandData.{OperandData}
use Rattle.mrc_compiler.specs.declared.encoder.OperandSize.TheVariants as S
use Rattle.mrc_compiler.specs.Values.{within}
use Rattle.base_values.specs.Distances.{distance_of, wrapped}
use Rattle.x86.specs.Forms.{Slot, rm, rm_near, mem, mem_far, reg, sreg, sreg_not_cs, acc, low3, bits34, bits34_not_cs, cl, dx, one, moffs, xlat, ib, iw, ib_sx, cb, cw, ptr, nil, Form}
use Rattle.encode_groups.specs.declared.Group.{Group}
use Rattle.encode_spec.specs.Rules.{Immediate, number, rule}
use Rattle.encode_spec.specs.Rules as R

-- what an immediate is
pub data Kind : Type 0 where
  data_byte : Kind
  data_word : Kind
  sign_extended : Kind  -- under 83
  vector : Kind
  port : Kind
  popped : Kind  -- of RET
  address : Kind
  target : Kind
  segment : Kind

pub record Range : Type 0 where
  pub low : ℤ
  pub high : ℤ

abbrev pub to : ℤ → ℤ → Range
to l h = record { low = l; high = h }

-- 83 is chosen by its limits (Choice), so that no refusal names them
abbrev pub limits : Kind → Range
limits data_byte = to (negsuc 127) (pos 255)
limits data_word = to (negsuc 32767) (pos 65535)
limits sign_extended = to (negsuc 127) (pos 127)
limits vector = to (pos 0) (pos 255)
limits port = to (pos 0) (pos 255)
limits popped = to (pos 0) (pos 65535)
limits address = to (pos 0) (pos 65535)
limits target = to (pos 0) (pos 65535)
limits segment = to (pos 0) (pos 65535)

-- a shift's count, by which its form is chosen (Choice)
abbrev pub shift_count : Range
shift_count = to (pos 1) (pos 1)

-- what the immediate byte of a group's form is, and its immediate word
abbrev pub byte_by : Immediate → Kind
byte_by number = data_byte
byte_by R.vector = vector
byte_by R.port = port
byte_by R.popped = popped

abbrev pub word_by : Immediate → Kind
word_by number = data_word
word_by R.vector = vector
word_by R.port = port
word_by R.popped = popped

abbrev pub byte_kind : Group → Kind
byte_kind g = byte_by (rule g).immediate

abbrev pub word_kind : Group → Kind
word_kind g = word_by (rule g).immediate

-- one thing asked: is the answer yes, and the refusal where it is no
pub record Asked : Type 0 where
  pub number : ℕ
  pub yes : Bool
  pub refusal : EncodeError

abbrev pub asked : ℕ → Bool → EncodeError → Asked
asked n t e = record { number = n; yes = t; refusal = e }

-- question 6 for a value of the operand o
abbrev pub in_limits : Kind → ℤ → OperandData → Asked
in_limits k z o =
    asked 6 (within (limits k).low (limits k).high z) (E.ImmediateOutOfRange o.span z (limits k).low (limits k).high)

-- question 7
abbrev pub short_distance : ℕ → OperandData → Asked
short_distance off o =
    let d = distance_of o.imm off 2 in
    asked 7 (within (negsuc 127) (pos 127) d) (E.RelativeJumpOutOfRange o.span S.Byte true (wrapped d))

-- what is asked of the operand in a slot of a form of group g
abbrev pub of_slot : Group → Slot → ℕ → OperandData → List Asked
of_slot g (rm w) off o = []
of_slot g rm_near off o = []
of_slot g mem off o = []
of_slot g mem_far off o = []
of_slot g (reg w) off o = []
of_slot g sreg off o = []
of_slot g sreg_not_cs off o = []
of_slot g (acc w) off o = []
of_slot g (low3 w) off o = []
of_slot g bits34 off o = []
of_slot g bits34_not_cs off o = []
of_slot g cl off o = []
of_slot g dx off o = []
of_slot g one off o = []
of_slot g (moffs w) off o = in_limits address o.displacement o ∷ []
of_slot g xlat off o = []
of_slot g ib off o = in_limits (byte_kind g) o.imm o ∷ []
of_slot g iw off o = in_limits (word_kind g) o.imm o ∷ []
of_slot g ib_sx off o = in_limits sign_extended o.imm o ∷ []
of_slot g cb off o = short_distance off o ∷ []
of_slot g cw off o = in_limits target o.imm o ∷ []
of_slot g ptr off o = in_limits target o.imm o ∷ in_limits segment o.displacement o ∷ []
of_slot g nil off o = []

-- what is asked of the operands in a form's slots
abbrev pub of_form : Group → Form → ℕ → OperandData → OperandData → List Asked
of_form g f off a b = of_slot g f.first off a ++ of_slot g f.second off b
