-- A number of 32 bits, and the signed value with these bits: its range, and what it leaves in a byte or a word.
-- Assumes nothing.
use Rattle.std.proofs.Common.{◌≡◌, ℕ, zero, suc, ◌+◌, ◌-◌, ◌*◌, ◌/◌, ◌%◌, ◌<◌, ◌≤◌, Bool, true, false, ◌&&◌, ltb, leb, ℤ, pos, negsuc, ◌-ℤ◌, sym, refl, ap, ◌∙◌, arith, ltb-false, ltb-true, le-ltb, lt-ltb, le-leb, leb-false, leb-true}
use lib.Signed.{le_z}
use borrow.Author.Tests.{lt-leb}
use Rattle.mrc_compiler.specs.Choose.{pick}
use Rattle.mrc_compiler.specs.Values.{within, mod_z}
use Rattle.base_values.specs.Distances.{as_i_32}
use Rattle.fast_value.specs.Signs.{minus}

-- ---- the range
not_below : (lo n : ℕ) → le_z (minus lo) (pos n) ≡ true
not_below zero n = le-leb 0 n (omega arith)
not_below (suc k) n = refl

same_tests : (a b c d : ℕ) → (a ≤ b → c < d) → (b < a → d ≤ c) → leb a b ≡ ltb c d
same_tests a b c d lower upper = go (leb a b) refl
  where
    go : (t : Bool) → leb a b ≡ t → t ≡ ltb c d
    go true e = sym (lt-ltb c d (lower (leb-true a b e)))
    go false e = sym (le-ltb c d (upper (leb-false a b e)))

and_true : (t : Bool) → (t && true) ≡ t
and_true true = refl
and_true false = refl

below_zero : (lo m c d : ℕ) → (m < lo → c < d) → (lo ≤ m → d ≤ c) → le_z (minus lo) (negsuc m) ≡ ltb c d
below_zero zero m c d lower upper = sym (le-ltb c d (upper (omega arith)))
below_zero (suc k) m c d lower upper = same_tests m k c d (λ h. lower (omega arith)) (λ h. upper (omega arith))

pub in_range : (n lo count : ℕ) → n < 4294967296 → lo < count → count ≤ 2147483648
    → within (minus lo) (pos (count - 1 - lo)) (as_i_32 n) ≡ ltb ((n + lo) % 4294967296) count
in_range n lo count hn hl hc = go (ltb n 2147483648) refl
  where
    go : (t : Bool) → ltb n 2147483648 ≡ t
        → within (minus lo) (pos (count - 1 - lo)) (pick t (pos n) (negsuc (4294967295 - n))) ≡ ltb ((n + lo) % 4294967296) count
    go true e =
        let h = ltb-true n 2147483648 e in
        rw (not_below lo n) (same_tests n (count - 1 - lo) ((n + lo) % 4294967296) count (λ k. omega arith) (λ k. omega arith))
    go false e =
        let h = ltb-false n 2147483648 e in
        rw (and_true (le_z (minus lo) (negsuc (4294967295 - n))))
        (below_zero lo (4294967295 - n) ((n + lo) % 4294967296) count (λ k. omega arith) (λ k. omega arith))

-- ---- its low byte and word
module _ (n : ℕ) (h : n < 4294967296) where
  pub low_byte : mod_z 256 (as_i_32 n) ≡ n % 256
  low_byte = go (ltb n 2147483648) refl
    where
      go : (t : Bool) → ltb n 2147483648 ≡ t → mod_z 256 (pick t (pos n) (negsuc (4294967295 - n))) ≡ n % 256
      go true e = refl
      go false e = omega arith

  pub low_word : mod_z 65536 (as_i_32 n) ≡ n % 65536
  low_word = go (ltb n 2147483648) refl
    where
      go : (t : Bool) → ltb n 2147483648 ≡ t → mod_z 65536 (pick t (pos n) (negsuc (4294967295 - n))) ≡ n % 65536
      go true e = refl
      go false e = omega arith

-- ---- a distance: d is u less b = suc k, modulo 2^32, and not far from 0
module _ (u d k : ℕ) (hu : u < 4294967296) (hd : d < 4294967296) (hk : k < 65537) (e : (d + suc k) % 4294967296 ≡ u) where
  up : d < 128 → as_i_32 u -ℤ pos (suc k) ≡ as_i_32 d
  up h = rw (lt-ltb u 2147483648 (omega arith), lt-ltb d 2147483648 (omega arith), le-ltb u (suc k) (omega arith)) (ap pos (omega arith))

  down : 4294967168 ≤ d → as_i_32 u -ℤ pos (suc k) ≡ as_i_32 d
  down h = rw (le-ltb d 2147483648 (omega arith)) (go (ltb u 2147483648) refl)
    where
      go : (t : Bool) → ltb u 2147483648 ≡ t → pick t (pos u) (negsuc (4294967295 - u)) -ℤ pos (suc k) ≡ negsuc (4294967295 - d)
      go true t = let l = ltb-true u 2147483648 t in
          rw (lt-ltb u (suc k) (omega arith)) (ap negsuc (omega arith))
      go false t = let l = ltb-false u 2147483648 t in
          ap negsuc (omega arith)

  pub short_distance : ltb ((d + 128) % 4294967296) 256 ≡ true → as_i_32 u -ℤ pos (suc k) ≡ as_i_32 d
  short_distance t = go (ltb d 128) refl
    where
      go : (t : Bool) → ltb d 128 ≡ t → as_i_32 u -ℤ pos (suc k) ≡ as_i_32 d
      go true l = up (ltb-true d 128 l)
      go false l = down (omega (arith, ltb-true ((d + 128) % 4294967296) 256 t, ltb-false d 128 l))
