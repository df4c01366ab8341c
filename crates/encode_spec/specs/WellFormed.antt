-- Well-formed operands, and the repeat (REFERENCE 3).
-- Definitions only.
use Rattle.std.specs.Prelude.{ℕ, Bool, true, false, List, [], ◌∷◌, eqb, ltb, pos, negsuc}
use Rattle.mrc_compiler.specs.declared.encoder.OperandData.{OperandData}
use Rattle.mrc_compiler.specs.declared.encoder.OperandSize.{OperandSize}
use Rattle.mrc_compiler.specs.declared.operations.Operation.{Operation}
use Rattle.mrc_compiler.specs.Choose.{both, either, by_size, by_kind}
use Rattle.mrc_compiler.specs.Operations.{is_string}
use Rattle.mrc_compiler.specs.Values.{within}
use Rattle.x86.specs.Reading.{displacement_length, prefix, is_repeat}

-- do all of these hold?
abbrev pub all : List Bool → Bool
all [] = true
all (t ∷ ts) = both t (all ts)

-- bytes of a displacement of this size
abbrev pub bytes_of : OperandSize → ℕ
bytes_of size = by_size size 0 1 2

-- none has the value 0, a Byte is -128 to 127, a Word -32,768 to 65,535
abbrev pub displacement_in : OperandData → Bool
displacement_in o =
    by_size o.displacement_size
    (within (pos 0) (pos 0) o.displacement)
    (within (negsuc 127) (pos 127) o.displacement)
    (within (negsuc 32767) (pos 65535) o.displacement)

-- the size is the one that the manual gives for mode and r/m
abbrev pub displacement_fits : OperandData → Bool
displacement_fits o = eqb (bytes_of o.displacement_size) (displacement_length o.mode o.rm)

abbrev pub is_prefix : ℕ → Bool
is_prefix p = either (eqb p 0) (prefix p)

-- the four kinds
abbrev pub immediate_formed : OperandData → Bool
immediate_formed o =
    all (eqb o.segment_prefix 0 ∷ eqb o.mode 0 ∷ eqb o.rm 0 ∷ by_size o.displacement_size true false false ∷ [])

abbrev pub register_formed : OperandData → Bool
register_formed o =
    all (eqb o.segment_prefix 0 ∷ eqb o.mode 3 ∷ ltb o.rm 8 ∷ displacement_fits o ∷ displacement_in o ∷ [])

abbrev pub segment_formed : OperandData → Bool
segment_formed o =
    all (eqb o.segment_prefix 0 ∷ eqb o.mode 3 ∷ ltb o.rm 4 ∷ displacement_fits o ∷ displacement_in o ∷ by_size o.size false false true ∷ [])

abbrev pub memory_formed : OperandData → Bool
memory_formed o =
    all (is_prefix o.segment_prefix ∷ ltb o.mode 3 ∷ ltb o.rm 8 ∷ displacement_fits o ∷ displacement_in o ∷ [])

unfoldable pub well_formed : OperandData → Bool
well_formed o = by_kind o.kind (immediate_formed o) (register_formed o) (segment_formed o) (memory_formed o)

-- 0, or F2 or F3 before a string operation
abbrev pub repeat_formed : ℕ → Operation → Bool
repeat_formed repeat op = either (eqb repeat 0) (both (is_repeat repeat) (is_string op))
