-- Laws of distances. A local holds bits, so what the code reads of a value z is `to_z w (of_z w z)`.
-- `mag z` is n for n and for -(n + 1).
-- Assumes nothing.
use Rattle.std.proofs.Common.{◌≡◌, ℕ, zero, suc, ◌+◌, ◌-◌, ◌%◌, ◌<◌, ◌≤◌, Bool, true, false, cond, T, ltb, ℤ, pos, negsuc, ◌+ℤ◌, ◌-ℤ◌, sym, refl, ap, subst, arith, w32, w64, SFits, to_z, of_z, ltb-false, ltb-true, le-ltb, lt-ltb, le-leb, leb-true}
use lib.IntN.{+ℤ_idr}
use lib.Signed.{mag, lt_z, le_z}
use mir.ValLaws.{to_z-of_z, to_z_pos}
use Rattle.mrc_compiler.specs.Values.{within, mod_z}
use Rattle.mrc_compiler.proofs.Laws.{mag_below}
use Rattle.base_values.specs.Distances.{wrapped}

-- ---- near_distance

-- a difference goes by a test, t; with k = offset + 2
near_cond : (t : Bool) (n k r : ℕ) → ltb n (suc k) ≡ t → r < 65536 → (r + (k + 1) % 65536) % 65536 ≡ n % 65536
    → r ≡ mod_z 65536 (cond t (negsuc (suc k - suc n)) (pos (n - suc k)))
near_cond true n k r e h m = omega (arith, ltb-true n (suc k) e)
near_cond false n k r e h m = omega (arith, ltb-false n (suc k) e)

near_suc : (z : ℤ) (k r : ℕ) → r < 65536 → (r + (k + 1) % 65536) % 65536 ≡ mod_z 65536 z → r ≡ mod_z 65536 (z -ℤ pos (suc k))
near_suc (pos n) k r h m = near_cond (ltb n (suc k)) n k r refl h m
near_suc (negsuc n) k r h m = omega arith

-- r is the word that, with the end of the instruction added, gives the target's low word
pub near : (z : ℤ) (offset r : ℕ) → r < 65536 → (r + (offset + 3) % 65536) % 65536 ≡ mod_z 65536 z → r ≡ mod_z 65536 (z -ℤ pos (offset + 3))
near z offset r h m =
    let e : offset + 3 ≡ suc (offset + 2) = omega arith in
    rw e (near_suc z (offset + 2) r h (omega arith))

-- ---- distance: a target z less the end b of the instruction
mag-cond : (t : Bool) (a b : ℕ) → mag (cond t (negsuc (b - suc a)) (pos (a - b))) ≤ a + b
mag-cond true a b = omega arith
mag-cond false a b = omega arith

mag_minus : (z : ℤ) (b : ℕ) → mag (z -ℤ pos b) ≤ mag z + b
mag_minus z zero = rw (+ℤ_idr z) (omega arith)
mag_minus (pos n) (suc k) = mag-cond (ltb n (suc k)) n (suc k)
mag_minus (negsuc n) (suc k) = omega arith

le_cond : (t : Bool) (a b : ℕ) → a < 2147483648 → le_z (cond t (negsuc (b - suc a)) (pos (a - b))) (pos 2147483647) ≡ true
le_cond true a b h = refl
le_cond false a b h = le-leb (a - b) 2147483647 (omega arith)

le_32 : (z : ℤ) → SFits w32 z → le_z z (pos 2147483647) ≡ true
le_32 (pos n) f = le-leb n 2147483647 (omega (arith, f.sfits))
le_32 (negsuc n) f = refl

minus_le : (z : ℤ) (b : ℕ) → SFits w32 z → le_z (z -ℤ pos b) (pos 2147483647) ≡ true
minus_le z zero f = rw (+ℤ_idr z) (le_32 z f)
minus_le (pos n) (suc k) f = le_cond (ltb n (suc k)) n (suc k) (omega (arith, f.sfits))
minus_le (negsuc n) (suc k) f = refl

wider : (z : ℤ) → SFits w32 z → SFits w64 z
wider z f = record { sfits = omega (arith, f.sfits) }

pub target_fits : (z : ℤ) → SFits w32 z → SFits w64 (to_z w32 (of_z w32 z))
target_fits z f = rw (to_z-of_z w32 z f) (wider z f)

module _ (z : ℤ) (b : ℕ) (f : SFits w32 z) (h : b < 65792) where
  minus_fits : SFits w64 (z -ℤ pos b)
  minus_fits = record { sfits = omega (arith, mag_minus z b, f.sfits) }

  minus_read : to_z w64 (of_z w64 (to_z w32 (of_z w32 z))) -ℤ to_z w64 b ≡ z -ℤ pos b
  minus_read = rw (to_z-of_z w32 z f, to_z-of_z w64 z (wider z f), to_z_pos w64 b (omega arith))

  pub distance_fits : SFits w64 (to_z w64 (of_z w64 (to_z w32 (of_z w32 z))) -ℤ to_z w64 b)
  distance_fits = rw minus_read minus_fits

  pub distance_same : to_z w64 (of_z w64 (to_z w64 (of_z w64 (to_z w32 (of_z w32 z))) -ℤ to_z w64 b)) ≡ z -ℤ pos b
  distance_same = rw minus_read (to_z-of_z w64 (z -ℤ pos b) minus_fits)

  -- what a caller reads of the distance d that it was given, and that it meets the limits of wrap_distance
  module _ {d : ℤ} (e : d ≡ to_z w32 (of_z w32 z) -ℤ pos b) where
    pub distance_read : to_z w64 (of_z w64 d) ≡ z -ℤ pos b
    distance_read = rw (e, to_z-of_z w32 z f) (to_z-of_z w64 (z -ℤ pos b) minus_fits)

    pub distance_wraps : (mag (to_z w64 (of_z w64 d)) < 2147549440) × (le_z (to_z w64 (of_z w64 d)) (pos 2147483647) ≡ true)
    distance_wraps = rw distance_read (omega (arith, mag_minus z b, f.sfits), minus_le z b f)

pub short_fits : (z : ℤ) → within (negsuc 127) (pos 127) z ≡ true → SFits w32 z
short_fits z t = record { sfits = omega (arith, mag_below 127 z t) }

-- ---- wrap_distance

-- below -2^31 and not far: 2^32 is added
up_fits : (z : ℤ) → lt_z z (negsuc 2147483647) ≡ true → mag z < 2147549440 → SFits w32 (z +ℤ pos 4294967296)
up_fits (pos n) t h = absurd (subst T (sym t) tt)
up_fits (negsuc n) t h = rw (le-ltb 4294967296 (suc n) (omega arith)) (record { sfits = omega (arith, ltb-true 2147483647 n t) })

up_wrapped : (z : ℤ) → lt_z z (negsuc 2147483647) ≡ true → mag z < 2147549440 → z +ℤ pos 4294967296 ≡ wrapped z
up_wrapped (pos n) t h = absurd (subst T (sym t) tt)
up_wrapped (negsuc n) t h =
    let l = ltb-true 2147483647 n t in
    let m : 4294967295 - n % 4294967296 ≡ 4294967295 - n = omega arith in
    rw (le-ltb 4294967296 (suc n) (omega arith), m, lt-ltb (4294967295 - n) 2147483648 (omega arith)) (ap pos (omega arith))

-- from -2^31 to 2^31 - 1: it stays
same_fits : (z : ℤ) → lt_z z (negsuc 2147483647) ≡ false → le_z z (pos 2147483647) ≡ true → SFits w32 z
same_fits (pos n) t h = record { sfits = omega (arith, leb-true n 2147483647 h) }
same_fits (negsuc n) t h = record { sfits = omega (arith, ltb-false 2147483647 n t) }

same_wrapped : (z : ℤ) → SFits w32 z → z ≡ wrapped z
same_wrapped (pos n) f =
    let l = f.sfits in
    let m : n % 4294967296 ≡ n = omega arith in
    rw (m, lt-ltb n 2147483648 (omega arith))
same_wrapped (negsuc n) f =
    let l = f.sfits in
    let m : 4294967295 - n % 4294967296 ≡ 4294967295 - n = omega arith in
    rw (m, le-ltb (4294967295 - n) 2147483648 (omega arith)) (ap negsuc (omega arith))

module _ (d : ℤ) (f : SFits w64 d) (t : lt_z (to_z w64 (of_z w64 d)) (negsuc 2147483647) ≡ true) (h : mag d < 2147549440) where
  below : lt_z d (negsuc 2147483647) ≡ true
  below = rw (to_z-of_z w64 d f) at t

  pub up_add : SFits w64 (to_z w64 (of_z w64 d) +ℤ pos 4294967296)
  up_add = rw (to_z-of_z w64 d f) (wider (d +ℤ pos 4294967296) (up_fits d below h))

  pub up_cast : SFits w32 (to_z w64 (of_z w64 (to_z w64 (of_z w64 d) +ℤ pos 4294967296)))
  up_cast = rw (to_z-of_z w64 (to_z w64 (of_z w64 d) +ℤ pos 4294967296) up_add, to_z-of_z w64 d f) (up_fits d below h)

  pub up_same : to_z w32 (of_z w32 (to_z w64 (of_z w64 (to_z w64 (of_z w64 d) +ℤ pos 4294967296)))) ≡ wrapped d
  up_same =
      rw
      (to_z-of_z w64 (to_z w64 (of_z w64 d) +ℤ pos 4294967296) up_add, to_z-of_z w64 d f, to_z-of_z w32 (d +ℤ pos 4294967296) (up_fits d below h))
      (up_wrapped d below h)

module _ (d : ℤ) (f : SFits w64 d) (t : lt_z (to_z w64 (of_z w64 d)) (negsuc 2147483647) ≡ false) (h : le_z d (pos 2147483647) ≡ true) where
  not_below : SFits w32 d
  not_below = same_fits d (rw (to_z-of_z w64 d f) at t) h

  pub stay_cast : SFits w32 (to_z w64 (of_z w64 d))
  stay_cast = rw (to_z-of_z w64 d f) not_below

  pub stay_same : to_z w32 (of_z w32 (to_z w64 (of_z w64 d))) ≡ wrapped d
  stay_same = rw (to_z-of_z w64 d f, to_z-of_z w32 d not_below) (same_wrapped d not_below)
