-- Which of the questions about the file comes first, and which record is named (REFERENCE 8).
-- Assumes nothing.
use Rattle.std.specs.Prelude.{Err, Ok, Result}
use mathlib.Core.Path.{◌≡◌, refl}
use mathlib.Core.List.{List, [], ◌∷◌, ◌++◌}
use Prim.Native.Nat.{ℕ, ◌*◌, ◌/◌, ◌%◌}
use lib.ListN.{replicate, set}
use Rattle.mrc_compiler.specs.Operations.{operations}
use Rattle.show_record.specs.Record.{operand_known, codes_known}
use Rattle.show_file.specs.declared.Header.{Header}
use Rattle.show_file.specs.declared.LoadError.{LoadError}
use Rattle.show_file.specs.declared.LoadError.TheVariants as E
use Rattle.show_file.specs.Show.{most_records, has_mark, u16_at, record_bytes, is_count, headed, opened, is_unknown, first_unknown}

-- version, origin 0x1234, count
abbrev pub front : ℕ → ℕ → List ℕ
front v n = 0x46 ∷ 0x53 ∷ 0x51 ∷ v ∷ 0 ∷ 0x34 ∷ 0x12 ∷ n ∷ 0 ∷ []

-- an operation without operands, of the span s to s
abbrev pub plain : ℕ → ℕ → List ℕ
plain op s = op ∷ 0 ∷ s ∷ 0 ∷ 0 ∷ 0 ∷ s ∷ 0 ∷ 0 ∷ 0 ∷ replicate 46 0

-- the same of version 3, with a repeat
abbrev pub longer : ℕ → ℕ → ℕ → List ℕ
longer op repeat s = op ∷ 0 ∷ repeat ∷ s ∷ 0 ∷ 0 ∷ 0 ∷ s ∷ 0 ∷ 0 ∷ 0 ∷ replicate 46 0

-- the loader's limit
abbrev opens : List ℕ → Result Header LoadError
opens = opened most_records

-- a file of this version with n records of so many zeros
abbrev of : ℕ → ℕ → ℕ → List ℕ
of each v n = (0x46 ∷ 0x53 ∷ 0x51 ∷ v ∷ 0 ∷ 0 ∷ 0 ∷ n % 256 ∷ n / 256 ∷ []) ++ replicate (each * n) 0

abbrev zeros : ℕ → ℕ → List ℕ
zeros v n = of 56 v n

record Rows : Type 0 where
  empty : opens [] ≡ Err E.NoMark
  mark_alone : opens (0x46 ∷ 0x53 ∷ 0x51 ∷ []) ≡ Err E.WrongLength
  no_records : opens (front 1 0) ≡ Ok (record { version = 1; origin = 0x1234; count = 0 })
  -- the mark before the version, and before the nine bytes
  mark_before_version : opens (0x46 ∷ 0x53 ∷ 0x50 ∷ 4 ∷ 0 ∷ 0 ∷ 0 ∷ 0 ∷ 0 ∷ []) ≡ Err E.NoMark
  mark_before_nine : opens (0x46 ∷ 0x53 ∷ 0x50 ∷ []) ≡ Err E.NoMark
  -- nine bytes before the version
  nine_before_version : opens (0x46 ∷ 0x53 ∷ 0x51 ∷ 4 ∷ 0 ∷ 0 ∷ 0 ∷ 0 ∷ []) ≡ Err E.WrongLength
  -- the version before the length
  version_before_length : opens (front 4 1) ≡ Err E.WrongVersion
  version_0 : opens (front 0 0) ≡ Err E.WrongVersion
  one_short : opens (front 1 2 ++ plain 97 1) ≡ Err E.WrongLength
  one_over : opens (front 1 0 ++ (0 ∷ [])) ≡ Err E.WrongLength
  -- of two unknown codes the first
  first_unknown_lem : first_unknown (front 1 3 ++ (plain 97 1 ++ (plain 99 2 ++ plain 100 3))) 3 ≡ 1
  none_unknown : first_unknown (front 1 1 ++ plain 98 1) 1 ≡ 1
  -- of version 3, whose records are a byte longer: a repeat is no code, and an operand's kind stands a byte further
  repeat_99 : first_unknown (front 3 2 ++ (longer 97 99 1 ++ longer 98 99 2)) 2 ≡ 2
  first_unknown_3 : first_unknown (front 3 2 ++ (longer 97 0 1 ++ longer 99 0 2)) 2 ≡ 1
  kind_3 : first_unknown (front 3 1 ++ set (longer 97 0 1) 11 4) 1 ≡ 0
  kind_56 : first_unknown (front 3 1 ++ set (longer 97 0 1) 10 4) 1 ≡ 1

rows : Rows
unfolding record_bytes opened headed is_count has_mark u16_at is_unknown codes_known operand_known operations
rows = record {
  empty = refl;
  mark_alone = refl;
  no_records = refl;
  mark_before_version = refl;
  mark_before_nine = refl;
  nine_before_version = refl;
  version_before_length = refl;
  version_0 = refl;
  one_short = refl;
  one_over = refl;
  first_unknown_lem = refl;
  none_unknown = refl;
  repeat_99 = refl;
  first_unknown_3 = refl;
  kind_3 = refl;
  kind_56 = refl;
}

-- both sides of each version's counts (document 02, Nos. 5 and 11), in files of the right length
record Counts : Type 0 where
  one_1000 : opens (zeros 1 1000) ≡ Ok (record { version = 1; origin = 0; count = 1000 })
  one_1001 : opens (zeros 1 1001) ≡ Err E.WrongLength
  two_0 : opens (zeros 2 0) ≡ Err E.WrongLength
  two_1000 : opens (zeros 2 1000) ≡ Err E.WrongLength
  two_1001 : opens (zeros 2 1001) ≡ Ok (record { version = 2; origin = 0; count = 1001 })
  two_8000 : opens (zeros 2 8000) ≡ Ok (record { version = 2; origin = 0; count = 8000 })
  two_8001 : opens (zeros 2 8001) ≡ Err E.WrongLength
  three_0 : opens (of 57 3 0) ≡ Ok (record { version = 3; origin = 0; count = 0 })
  three_1 : opens (of 57 3 1) ≡ Ok (record { version = 3; origin = 0; count = 1 })
  three_1001 : opens (of 57 3 1001) ≡ Ok (record { version = 3; origin = 0; count = 1001 })
  three_8000 : opens (of 57 3 8000) ≡ Ok (record { version = 3; origin = 0; count = 8000 })
  three_8001 : opens (of 57 3 8001) ≡ Err E.WrongLength
  -- the other length of a record is 14
  three_of_56 : opens (of 56 3 1) ≡ Err E.WrongLength
  one_of_57 : opens (of 57 1 1) ≡ Err E.WrongLength
  two_of_57 : opens (of 57 2 1001) ≡ Err E.WrongLength
  four_1 : opens (of 57 4 1) ≡ Err E.WrongVersion
  -- a lower limit is the count's too
  three_above_limit : opened 1000 (of 57 3 1001) ≡ Err E.WrongLength
  two_above_limit : opened 1000 (zeros 2 1001) ≡ Err E.WrongLength

counts : Counts
unfolding record_bytes opened headed is_count has_mark u16_at
counts = record {
  one_1000 = refl;
  one_1001 = refl;
  two_0 = refl;
  two_1000 = refl;
  two_1001 = refl;
  two_8000 = refl;
  two_8001 = refl;
  three_0 = refl;
  three_1 = refl;
  three_1001 = refl;
  three_8000 = refl;
  three_8001 = refl;
  three_of_56 = refl;
  one_of_57 = refl;
  two_of_57 = refl;
  four_1 = refl;
  three_above_limit = refl;
  two_above_limit = refl;
}
