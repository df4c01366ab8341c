-- Laws of codes and of a record's length.
-- Assumes nothing.
use Rattle.std.specs.Prelude.{None, Some}
use mathlib.Core.Path.{◌≡◌, refl, sym, ◌∙◌, ap}
use mathlib.Core.Bool.{Bool, true, false}
use mathlib.Core.List.{List, [], ◌∷◌}
use Prim.Native.Nat.{ℕ, zero, suc, ◌+◌, ◌-◌, ◌*◌, ◌≤◌, ◌<◌}
use native.Mathlib.Omega.{arith}
use lib.Dec.{eqb, ltb}
use lib.ListN.{length, get_or, get_or-eq_default}
use borrow.Author.Tests.{ltb-true, ltb-false, eqb-true}
use Rattle.std.specs.List.{slice_get}
use Rattle.std.specs.Option.{is_some}
use Rattle.std.proofs.lemmas.Option.{slice_get_past}
use Rattle.mrc_compiler.specs.declared.operations.Operation.{Operation}
use Rattle.mrc_compiler.specs.declared.operations.Operation.TheVariants as Op
use Rattle.mrc_compiler.specs.Choose.{pick}
use Rattle.mrc_compiler.specs.Operations.{operations, operation_numbered}
use Rattle.show_record.specs.Record.{kinds, sizes, jump_kinds, kind_place, size_place, displacement_size_place, jump_kind_place, repeat_in, is_record, byte_at, known, operand_known}

-- a code past the list counts as the first
pub past : {A : Type 0} (codes : List A) (d : A) (n : ℕ) → length codes ≤ n → d ≡ get_or codes n d
past codes d n h = sym (get_or-eq_default codes d h)

has : {A : Type 0} (codes : List A) (n : ℕ) → n < length codes → is_some (slice_get codes n) ≡ true
has [] n h = absurd (omega arith)
has (c ∷ codes) zero h = refl
has (c ∷ codes) (suc n) h = has codes n (omega arith)

-- a code is known where the list has it
pub known_is : {A : Type 0} (codes : List A) (n : ℕ) → is_some (slice_get codes n) ≡ known codes n
known_is codes n = go (ltb n (length codes)) refl
  where
    go : (b : Bool) → ltb n (length codes) ≡ b → is_some (slice_get codes n) ≡ b
    go true e = has codes n (ltb-true n (length codes) e)
    go false e = rw (slice_get_past codes n (ltb-false n (length codes) e)) refl

-- the codes of an operand, the last of which is asked where the others are known
module _ (s : List ℕ) (i : ℕ) where
  pub all_known : {r : Bool} → is_some (slice_get kinds (byte_at s (i + kind_place))) ≡ true → is_some (slice_get sizes (byte_at s (i + size_place))) ≡ true
      → is_some (slice_get sizes (byte_at s (i + displacement_size_place))) ≡ true → r ≡ is_some (slice_get jump_kinds (byte_at s (i + jump_kind_place)))
      → r ≡ operand_known s i
  unfolding operand_known
  all_known a b d e =
      rw (
        sym (known_is kinds (byte_at s (i + kind_place))) ∙ a,
        sym (known_is sizes (byte_at s (i + size_place))) ∙ b,
        sym (known_is sizes (byte_at s (i + displacement_size_place))) ∙ d,
      )
      (e ∙ known_is jump_kinds (byte_at s (i + jump_kind_place)))

-- a record with d bytes of repeat
pub record_length : (n d : ℕ) → is_record n ≡ true → d ≡ repeat_in n → n ≡ 56 + d
record_length n d h e = eqb-true n (56 + repeat_in n) h ∙ ap (λ (k : ℕ). 56 + k) (sym e)

-- a byte times one or none
pub times_bit : (x d : ℕ) → d ≤ 1 → x * d ≡ pick (eqb d 0) 0 x
times_bit x zero h = omega arith
times_bit x (suc zero) h = omega arith
times_bit x (suc (suc d)) h = omega arith

pub times_bit_fits : (x d : ℕ) → d ≤ 1 → x < 256 → x * d < 256
times_bit_fits x zero h f = omega arith
times_bit_fits x (suc zero) h f = omega arith
times_bit_fits x (suc (suc d)) h f = omega arith

-- ---- the operation of a number, or the first
pub numbered_some : (n : ℕ) (op : Operation) → operation_numbered n ≡ Some op → op ≡ get_or operations n Op.MOV
numbered_some n op e = go (ltb n (length operations)) e
  where
    go : (b : Bool) → pick b (Some (get_or operations n Op.MOV)) None ≡ Some op → op ≡ get_or operations n Op.MOV
    go true e = cc
    go false e = cc

pub numbered_none : (n : ℕ) → operation_numbered n ≡ None → Op.MOV ≡ get_or operations n Op.MOV
numbered_none n e = go (ltb n (length operations)) refl e
  where
    go : (b : Bool) → ltb n (length operations) ≡ b → pick b (Some (get_or operations n Op.MOV)) None ≡ None → Op.MOV ≡ get_or operations n Op.MOV
    go true p e = cc
    go false p e = past operations Op.MOV n (ltb-false n (length operations) p)
