-- What a conversion leaves in the lent slice, by its answer. Nobody has to believe it: the proof of `convert` ties it to convert_spec's definition.
-- Definitions only.
use Rattle.std.specs.Prelude.{ℕ, ◌+◌, ◌≡◌, false, List, ◌++◌, ltb, drop, Err, Ok, Result}
use Rattle.show_file.specs.declared.Header.{Header}
use Rattle.show_file.specs.Show.{insn_at, first_unknown}
use Rattle.convert_spec.specs.declared.ConvertError.{ConvertError}
use Rattle.convert_spec.specs.OldStarts.{old_offset, gain}
use Rattle.convert_spec.specs.Targets.{first_stray}
use Rattle.convert_spec.specs.Converting.{first_miscounted, first_refused}
use Rattle.convert_laws.specs.Passed.{Show1, Table}
use Rattle.convert_passes.specs.Passes.{Room}

-- the file `to` at the front, or what it was
abbrev pub placed_as : List ℕ → List ℕ → Result ℕ ConvertError → List ℕ
placed_as to out (Ok m) = to ++ drop m out
placed_as to out (Err e) = out

-- the first branch to no place
abbrev pub stray_of : List ℕ → Header → ℕ
stray_of file h = first_stray (old_offset file h.origin) (insn_at file) h.count

-- every question before that about targets got yes, and the lists are filled
pub record Ready (file : List ℕ) (h : Header) (starts gains : List ℕ) : Type 0 where
  pub show : Show1 file h
  pub known : ltb (first_unknown file h.count) h.count ≡ false
  pub counted : ltb (first_miscounted file h.count) h.count ≡ false
  pub taken : ltb (first_refused file h.origin h.count) h.count ≡ false
  pub starts_are : Table (old_offset file h.origin) (h.count + 1) starts
  pub gains_are : Table (gain file h.origin) (h.count + 1) gains
  pub room : Room h.count starts gains
