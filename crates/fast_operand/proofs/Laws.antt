-- What the tests of a record's bytes say of its operand.
-- Assumes nothing.
use Prim.Native.Nat.{ℕ, zero, suc, ◌+◌, ◌%◌, ◌≤◌, ◌<◌}
use mathlib.Core.Path.{◌≡◌, refl, sym, ◌∙◌}
use mathlib.Core.Bool.{Bool, true, false}
use mathlib.Core.List.{List}
use native.Mathlib.Omega.{arith}
use lib.Dec.{T, eqb, ltb, leb}
use lib.ListN.{length, get_or}
use borrow.Author.Tests.{lt-ltb, le-leb, eq-eqb}
use Rattle.mrc_compiler.specs.declared.encoder.OperandSize.TheVariants as S
use Rattle.mrc_compiler.specs.Choose.{pick, both, either, isnt}
use Rattle.x86.specs.Reading.{prefix, displacement_length}
use Rattle.x86.proofs.Tests.{up_to, up_to_at, is_true}
use Rattle.encode_spec.specs.WellFormed.{is_prefix, bytes_of, well_formed}
use Rattle.show_record.specs.Record.{operand_length, first_place, second_place, record_length, kind_place, size_place, prefix_place, displacement_size_place, jump_kind_place, mode_place, rm_place, displacement_place, sizes, byte_at, u32_at, operand_at, operand_known}
use Rattle.fast_operand.specs.Formed.{Formed, Memory}

-- ---- the four prefixes
abbrev eighth : ℕ → Bool
eighth p = either (isnt (both (leb 0x26 p) (both (leb p 0x3E) (eqb (p % 8) 6)))) (is_prefix p)

eighths : T (up_to 64 eighth)
unfolding prefix
eighths = tt

pub prefix_eighth : (p : ℕ) → 0x26 ≤ p → p ≤ 0x3E → p % 8 ≡ 6 → is_prefix p ≡ true
prefix_eighth p l h e =
    is_true (is_prefix p) (rw (le-leb 0x26 p l, le-leb p 0x3E h, eq-eqb (p % 8) 6 e) at (up_to_at 64 eighth eighths p (omega arith)))

-- ---- the size of a displacement
pub displacement_short : (m l : ℕ) → displacement_length m l < 3
displacement_short m l = go (eqb m 0) (eqb l 6) (eqb m 1) (eqb m 2)
  where
    go : (a b c d : Bool) → pick a (pick b 2 0) (pick c 1 (pick d 2 0)) < 3
    go true true c d = omega arith
    go true false c d = omega arith
    go false b true d = omega arith
    go false b false true = omega arith
    go false b false false = omega arith

bytes_of_lem : (n : ℕ) → n < 3 → bytes_of (get_or sizes n S.Unspecified) ≡ n
bytes_of_lem zero h = refl
bytes_of_lem (suc zero) h = refl
bytes_of_lem (suc (suc zero)) h = refl
bytes_of_lem (suc (suc (suc n))) h = absurd (omega arith)

-- ---- the four kinds
module _ (s : List ℕ) (at : ℕ) (z : byte_at s (at + size_place) < 3) (j : byte_at s (at + jump_kind_place) < 4) where
  pub immediate : byte_at s (at + kind_place) ≡ 0 → byte_at s (at + prefix_place) ≡ 0 → byte_at s (at + displacement_size_place) ≡ 0
      → byte_at s (at + mode_place) ≡ 0 → byte_at s (at + rm_place) ≡ 0 → Formed s at
  unfolding operand_known well_formed operand_at
  immediate k p d m l = record {
    known = rw (k, lt-ltb _ 3 z, d, lt-ltb _ 4 j);
    formed = rw (k, p, d, m, l);
    kind = omega arith;
    size = z;
    displacement_size = omega arith;
    jump = j;
    mode = omega arith;
    rm = omega arith;
    segment = λ e. omega arith;
  }

  module _ (p : byte_at s (at + prefix_place) ≡ 0) (d : byte_at s (at + displacement_size_place) ≡ 0)
      (m : byte_at s (at + mode_place) ≡ 3) (n : u32_at s (at + displacement_place) ≡ 0) where
    pub register : byte_at s (at + kind_place) ≡ 1 → byte_at s (at + rm_place) < 8 → Formed s at
    unfolding operand_known well_formed operand_at
    register k l = record {
      known = rw (k, lt-ltb _ 3 z, d, lt-ltb _ 4 j);
      formed = rw (k, p, d, m, n, lt-ltb _ 8 l);
      kind = omega arith;
      size = z;
      displacement_size = omega arith;
      jump = j;
      mode = omega arith;
      rm = l;
      segment = λ e. omega arith;
    }

    pub segment : byte_at s (at + kind_place) ≡ 2 → byte_at s (at + size_place) ≡ 2 → byte_at s (at + rm_place) < 4 → Formed s at
    unfolding operand_known well_formed operand_at
    segment k w l = record {
      known = rw (k, w, d, lt-ltb _ 4 j);
      formed = rw (k, w, p, d, m, n, lt-ltb _ 4 l);
      kind = omega arith;
      size = z;
      displacement_size = omega arith;
      jump = j;
      mode = omega arith;
      rm = omega arith;
      segment = λ e. l;
    }

  pub memory : byte_at s (at + kind_place) ≡ 3 → Memory s at → Formed s at
  unfolding operand_known well_formed operand_at
  memory k h =
      let d : byte_at s (at + displacement_size_place) < 3 = omega (arith, h.length_is, displacement_short (byte_at s (at + mode_place)) (byte_at s (at + rm_place))) in
      let fits : eqb (bytes_of (get_or sizes (byte_at s (at + displacement_size_place)) S.Unspecified)) (displacement_length (byte_at s (at + mode_place)) (byte_at s (at + rm_place))) ≡ true =
      eq-eqb _ _ (bytes_of_lem _ d ∙ h.length_is) in
      record {
        known = rw (k, lt-ltb _ 3 z, lt-ltb _ 3 d, lt-ltb _ 4 j);
        formed = rw (k, h.prefix, lt-ltb _ 3 h.mode, lt-ltb _ 8 h.rm, fits, h.in_size);
        kind = omega arith;
        size = z;
        displacement_size = d;
        jump = j;
        mode = omega (arith, h.mode);
        rm = h.rm;
        segment = λ e. omega arith;
      }

-- ---- the operands one by one: those before a place are well formed
pub data Before (s : List ℕ) : ℕ → Type 0 where
  none : Before s first_place
  one : Formed s first_place → Before s second_place
  two : Formed s first_place → Formed s second_place → Before s record_length

pub one_more : {s : List ℕ} {at : ℕ} → Before s at → at < record_length → Formed s at → Before s (at + operand_length)
one_more none l f = one f
one_more (one a) l f = two a f
one_more (two a b) l f = absurd (omega arith)

pub is_inside : {s : List ℕ} {at : ℕ} → Before s at → at < record_length → at + operand_length ≤ record_length
is_inside none l = omega arith
is_inside (one a) l = omega arith
is_inside (two a b) l = omega arith

pub both_formed : {s : List ℕ} {at : ℕ} → Before s at → record_length ≤ at → Formed s first_place × Formed s second_place
both_formed none l = absurd (omega arith)
both_formed (one a) l = absurd (omega arith)
both_formed (two a b) l = (a, b)
