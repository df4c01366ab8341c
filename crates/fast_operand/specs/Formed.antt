-- What is known of an operand that is well formed, with known codes, in the bytes of its record.
-- Definitions only.
use Rattle.std.specs.Prelude.{ℕ, ◌+◌, ◌<◌, ◌≡◌, Bool, true, List, ℤ, pos, negsuc}
use Rattle.mrc_compiler.specs.declared.encoder.OperandSize.{OperandSize}
use Rattle.mrc_compiler.specs.Choose.{by_size}
use Rattle.mrc_compiler.specs.Values.{within}
use Rattle.x86.specs.Reading.{displacement_length}
use Rattle.encode_spec.specs.WellFormed.{is_prefix, well_formed}
use Rattle.show_record.specs.Record.{kind_place, size_place, prefix_place, displacement_size_place, jump_kind_place, mode_place, rm_place, displacement_place, byte_at, i32_at, size_at, operand_at, operand_known}

-- a displacement in the range of its size
abbrev pub is_in_size : OperandSize → ℤ → Bool
is_in_size size z =
    by_size size (within (pos 0) (pos 0) z) (within (negsuc 127) (pos 127) z) (within (negsuc 32767) (pos 65535) z)

pub record Formed (s : List ℕ) (at : ℕ) : Type 0 where
  pub known : operand_known s at ≡ true
  pub formed : well_formed (operand_at s at) ≡ true
  pub kind : byte_at s (at + kind_place) < 4
  pub size : byte_at s (at + size_place) < 3
  pub displacement_size : byte_at s (at + displacement_size_place) < 3
  pub jump : byte_at s (at + jump_kind_place) < 4
  pub mode : byte_at s (at + mode_place) < 4
  pub rm : byte_at s (at + rm_place) < 8
  pub segment : byte_at s (at + kind_place) ≡ 2 → byte_at s (at + rm_place) < 4

-- what is asked of memory beside its size and its jump kind
pub record Memory (s : List ℕ) (at : ℕ) : Type 0 where
  pub prefix : is_prefix (byte_at s (at + prefix_place)) ≡ true
  pub mode : byte_at s (at + mode_place) < 3
  pub rm : byte_at s (at + rm_place) < 8
  pub length_is : byte_at s (at + displacement_size_place) ≡ displacement_length (byte_at s (at + mode_place)) (byte_at s (at + rm_place))
  pub in_size : is_in_size (size_at s (at + displacement_size_place)) (i32_at s (at + displacement_place)) ≡ true
