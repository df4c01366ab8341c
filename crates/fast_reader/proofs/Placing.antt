-- The operand in the r/m field, computed over all second bytes.
-- Assumes nothing.
use mathlib.Core.Path.{◌≡◌, refl, sym, ◌∙◌, ap}
use Prim.Native.Nat.{ℕ, ◌+◌, ◌-◌, ◌*◌, ◌/◌, ◌%◌, ◌≤◌, ◌<◌}
use native.Mathlib.Omega.{arith}
use mathlib.Core.Bool.{Bool, true, false}
use mathlib.Core.List.{List, [], ◌∷◌}
use lib.Dec.{T, eqb, ltb}
use lib.ListN.{get_or}
use borrow.Author.Tests.{eqb-true, eq-eqb, lt-ltb, ltb-true, ltb-false}
use Rattle.mrc_compiler.specs.Choose.{pick, both, either, isnt}
use Rattle.x86.specs.Listing.{Bytes}
use Rattle.x86.specs.Reading.{mode, low, displacement_length, displacement_at, sign_extended, word_at, rm_at, prefix, is_repeat}
use Rattle.x86.proofs.Tests.{both_left, both_right, is_true, up_to, up_to_at}
use Rattle.fast_reader.specs.Words.{operand_head, operand_values, Placed}
use Rattle.fast_reader.specs.Plans.{places}
use Rattle.fast_reader.proofs.Slots.{extended_below}

abbrev place_of : ℕ → ℕ
place_of x = get_or places (x / 64 * 8 + x % 8) 0

-- behind the prefix p
abbrev behind_prefix : ℕ → ℕ → ℕ
behind_prefix p x = place_of x / 0x1000000 * 0x1000000 + 65536 * ((p - 0x26) / 8) + place_of x % 65536

abbrev place_ok : ℕ → ℕ → ℕ → Bool
place_ok p x r = both (eqb (r % 0x1000000) (operand_head (rm_at p x []))) (eqb (r / 0x1000000) (displacement_length (mode x) (low x)))

abbrev bare_ok : ℕ → Bool
bare_ok x = place_ok 0 x (place_of x)

abbrev prefix_ok : ℕ → ℕ → Bool
prefix_ok p x = pick (ltb (mode x) 3) (place_ok p x (behind_prefix p x)) true

bare_places : T (up_to 256 bare_ok)
unfolding operand_head
bare_places = tt

prefix_places : T (up_to 256 (λ p. pick (prefix p) (up_to 256 (prefix_ok p)) true))
unfolding operand_head prefix
prefix_places = tt

ok_placed : (p x r : ℕ) → T (place_ok p x r) → either (eqb p 0) (ltb (mode x) 3) ≡ true → Placed p x r
ok_placed p x r t e =
    record {
      head = eqb-true _ _ (is_true _ (both_left (eqb (r % 0x1000000) (operand_head (rm_at p x []))) (eqb (r / 0x1000000) (displacement_length (mode x) (low x))) t));
      displacement = eqb-true _ _ (is_true _ (both_right (eqb (r % 0x1000000) (operand_head (rm_at p x []))) (eqb (r / 0x1000000) (displacement_length (mode x) (low x))) t));
      stands = e;
    }

pub bare_placed : (p x r : ℕ) → x < 256 → r ≡ place_of x → p ≡ 0 → Placed p x r
bare_placed p x r h e z = rw (z, e) (ok_placed 0 x (place_of x) (up_to_at 256 bare_ok bare_places x h) refl)

pub prefix_placed : (p x r : ℕ) → x < 256 → p < 256 → prefix p ≡ true → (x / 64 ≡ 3 → ⊥) → r ≡ behind_prefix p x → Placed p x r
prefix_placed p x r h l e m z =
    let q : ltb (mode x) 3 ≡ true = lt-ltb (mode x) 3 (omega arith) in
    let t : T (pick (prefix p) (up_to 256 (prefix_ok p)) true) = up_to_at 256 (λ p. pick (prefix p) (up_to 256 (prefix_ok p)) true) prefix_places p l in
    let k : T (prefix_ok p x) = up_to_at 256 (prefix_ok p) (rw e at t) x h in
    rw z (ok_placed p x (behind_prefix p x) (pick_true (ltb (mode x) 3) (place_ok p x (behind_prefix p x)) q k) (either_right (eqb p 0) (ltb (mode x) 3) q))
  where
    pick_true : (b a : Bool) → b ≡ true → T (pick b a true) → T a
    pick_true true a e t = t
    pick_true false a e t = let z : ◌≡◌ {A = ℕ} 0 1 = cc in absurd (omega arith)

    either_right : (a b : Bool) → b ≡ true → either a b ≡ true
    either_right true b e = refl
    either_right false b e = e

-- no prefix is a repeat, or 0
prefixes : T (up_to 256 (λ p. pick (prefix p) (both (isnt (is_repeat p)) (isnt (eqb p 0))) true))
unfolding prefix is_repeat
prefixes = tt

pub prefix_repeats : (p : ℕ) → p < 256 → prefix p ≡ true → is_repeat p ≡ false
prefix_repeats p h e =
    let t : T (pick (prefix p) (both (isnt (is_repeat p)) (isnt (eqb p 0))) true) = up_to_at 256 (λ p. pick (prefix p) (both (isnt (is_repeat p)) (isnt (eqb p 0))) true) prefixes p h in
    isnt_true (is_repeat p) (both_left (isnt (is_repeat p)) (isnt (eqb p 0)) (rw e at t))
  where
    isnt_true : (b : Bool) → T (isnt b) → b ≡ false
    isnt_true true t = absurd t
    isnt_true false t = refl

pub prefix_some : (p : ℕ) → p < 256 → prefix p ≡ true → eqb p 0 ≡ false
prefix_some p h e =
    let t : T (pick (prefix p) (both (isnt (is_repeat p)) (isnt (eqb p 0))) true) = up_to_at 256 (λ p. pick (prefix p) (both (isnt (is_repeat p)) (isnt (eqb p 0))) true) prefixes p h in
    isnt_true (eqb p 0) (both_right (isnt (is_repeat p)) (isnt (eqb p 0)) (rw e at t))
  where
    isnt_true : (b : Bool) → T (isnt b) → b ≡ false
    isnt_true true t = absurd t
    isnt_true false t = refl

-- ---- its words do not hang on the bytes behind, but for the displacement
pub rm_head : (p x : ℕ) (t : List ℕ) → operand_head (rm_at p x t) ≡ operand_head (rm_at p x [])
unfolding operand_head
rm_head p x t = go (ltb (mode x) 3) refl
  where
    go : (b : Bool) → ltb (mode x) 3 ≡ b → operand_head (rm_at p x t) ≡ operand_head (rm_at p x [])
    go true e = rw e refl
    go false e = rw e refl

displaced_below : (n : ℕ) (t : List ℕ) → Bytes t → displacement_at n t < 65536
displaced_below n t bs = go (eqb n 0) (eqb n 1)
  where
    go : (a b : Bool) → pick a 0 (pick b (sign_extended (get_or t 0 0)) (word_at 0 t)) < 65536
    go true b = omega arith
    go false true = extended_below (get_or t 0 0) (bs 0)
    go false false = omega (arith, bs 0, bs 1)

pub rm_value : (p x : ℕ) (t : List ℕ) → x < 256 → Bytes t → operand_values (rm_at p x t) ≡ displacement_at (displacement_length (mode x) (low x)) t
unfolding operand_values
rm_value p x t h bs = go (ltb (mode x) 3) refl
  where
    go : (b : Bool) → ltb (mode x) 3 ≡ b → operand_values (rm_at p x t) ≡ displacement_at (displacement_length (mode x) (low x)) t
    go true e = rw e (omega (arith, displaced_below (displacement_length (mode x) (low x)) t bs))
    go false e = let m : x / 64 ≡ 3 = omega (arith, ltb-false (mode x) 3 e) in rw (e, m) refl

-- the prefix before an opcode is none, or one
pub pre_prefix : (b p : ℕ) → b < 256 → p ≡ pick (prefix b) b 0 → pick (eqb p 0) true (prefix p) ≡ true
pre_prefix b p h e = go (prefix b) refl
  where
    go : (k : Bool) → prefix b ≡ k → pick (eqb p 0) true (prefix p) ≡ true
    go true z = let y : p ≡ b = rw z at e in rw (y, prefix_some b h z) z
    go false z = let y : p ≡ 0 = rw z at e in rw y refl
