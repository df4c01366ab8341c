-- Turns that come round: a rotation of so many bits, so often, is none.
-- Assumes nothing.
use mathlib.Core.Path.{◌≡◌, refl, sym, ◌∙◌, ap}
use mathlib.Core.Bool.{Bool, true, false}
use Prim.Native.Nat.{ℕ, zero, suc, ◌+◌, ◌*◌, ◌/◌, ◌%◌, ◌≤◌, ◌<◌}
use native.Mathlib.Nat.{div-add-mod', mul-le-mul_left}
use native.Mathlib.Numerals.{add-one}
use native.Mathlib.Omega.{arith}
use lib.Dec.{ltb}
use borrow.Author.Tests.{ltb-true, ltb-false}
use Rattle.shift_copies.specs.Shifting.{repeat}

abbrev pub doubled : ℕ → ℕ → ℕ
doubled zero x = x
doubled (suc k) x = 2 * doubled k x

doubled_twice : (k x : ℕ) → doubled k (2 * x) ≡ 2 * doubled k x
doubled_twice zero x = refl
doubled_twice (suc k) x = rw (doubled_twice k x)

doubled_sum : (n k x y : ℕ) → doubled k (x + n * y) ≡ doubled k x + n * doubled k y
doubled_sum n zero x y = refl
doubled_sum n (suc k) x y = let e = doubled_sum n k x y in omega arith

-- ---- x and y up to n are the same modulo n, and not 0 and n
same_below : (n x y q : ℕ) → x ≤ n → y ≤ n → y + n * q ≡ n * x + x → (x ≡ n → y ≡ n) → y ≡ x
same_below n x y q hx hy e t = go (ltb q x) (ltb x q) refl refl
  where
    go : (i j : Bool) → ltb q x ≡ i → ltb x q ≡ j → y ≡ x
    go true j a b =
        let l : q + 1 ≤ x = omega (arith, ltb-true q x a) in
        let m = mul-le-mul_left n l in
        omega arith
    go false true a b =
        let l : x + 1 ≤ q = omega (arith, ltb-true x q b) in
        let m = mul-le-mul_left n l in
        let z : x ≡ n = omega arith in
        t z ∙ sym z
    go false false a b =
        let z : q ≡ x = omega (arith, ltb-false q x a, ltb-false x q b) in
        let m : n * q ≡ n * x = rw z in
        omega arith

module _ {A : Type 0} (f : A → A) (Ok : A → Type 0) (keeps : (s : A) → Ok s → Ok (f s)) where
  pub repeat_ok : (k : ℕ) (s : A) → Ok s → Ok (repeat k f s)
  repeat_ok zero s h = h
  repeat_ok (suc k) s h = keeps (repeat k f s) (repeat_ok k s h)

  -- v is the number whose bits are rotated: n is the greatest, b the bit that comes in at the other end
  module _ (v b : A → ℕ) (n : ℕ) (low : (s : A) → Ok s → v s ≤ n) (bit : (s : A) → Ok s → b s ≤ 1) where
    -- to the left
    module _ (left : (s : A) → Ok s → v (f s) + n * b s ≡ 2 * v s) where
      left_twice : (k : ℕ) (s : A) → Ok s → (q : ℕ) × (v (repeat k f s) + n * q ≡ doubled k (v s))
      left_twice zero s h = (0, omega arith)
      left_twice (suc k) s h =
          let t = repeat k f s in
          let (q, e) = left_twice k s h in
          let l = left t (repeat_ok k s h) in
          (b t + 2 * q, omega arith)

      left_top : (s : A) → Ok s → v s ≡ n → v (f s) ≡ n
      left_top s h e = go (b s) refl (left s h) (bit s h) (low (f s) (keeps s h))
        where
          go : (c : ℕ) → b s ≡ c → v (f s) + n * b s ≡ 2 * v s → b s ≤ 1 → v (f s) ≤ n → v (f s) ≡ n
          go zero z l i j = let m : n * b s ≡ 0 = rw z (omega arith) in omega arith
          go (suc c) z l i j = let o : b s ≡ 1 = omega arith in let m : n * b s ≡ n = rw o (omega arith) in omega arith

      left_stays : (k : ℕ) (s : A) → Ok s → v s ≡ n → v (repeat k f s) ≡ n
      left_stays zero s h e = e
      left_stays (suc k) s h e = left_top (repeat k f s) (repeat_ok k s h) (left_stays k s h e)

      pub round_left : (k : ℕ) (s : A) → Ok s → doubled k (v s) ≡ n * v s + v s → v (repeat k f s) ≡ v s
      round_left k s h d =
          let (q, e) = left_twice k s h in
          same_below n (v s) (v (repeat k f s)) q (low s h) (low (repeat k f s) (repeat_ok k s h)) (e ∙ d) (left_stays k s h)

    -- to the right
    module _ (right : (s : A) → Ok s → v s + n * b s ≡ 2 * v (f s)) where
      right_twice : (k : ℕ) (s : A) → Ok s → (q : ℕ) × (v s + n * q ≡ doubled k (v (repeat k f s)))
      right_twice zero s h = (0, omega arith)
      right_twice (suc k) s h =
          let t = repeat k f s in
          let (q, e) = right_twice k s h in
          let d : 2 * doubled k (v (f t)) ≡ doubled k (v t) + n * doubled k (b t) = rw (← (doubled_twice k (v (f t))), ← (right t (repeat_ok k s h))) (doubled_sum n k (v t) (b t)) in
          (q + doubled k (b t), omega arith)

      right_top : (s : A) → Ok s → v (f s) ≡ n → v s ≡ n
      right_top s h e = go (b s) refl (right s h) (bit s h) (low s h)
        where
          go : (c : ℕ) → b s ≡ c → v s + n * b s ≡ 2 * v (f s) → b s ≤ 1 → v s ≤ n → v s ≡ n
          go zero z l i j = let m : n * b s ≡ 0 = rw z (omega arith) in omega arith
          go (suc c) z l i j = let o : b s ≡ 1 = omega arith in let m : n * b s ≡ n = rw o (omega arith) in omega arith

      right_stays : (k : ℕ) (s : A) → Ok s → v (repeat k f s) ≡ n → v s ≡ n
      right_stays zero s h e = e
      right_stays (suc k) s h e = right_stays k s h (right_top (repeat k f s) (repeat_ok k s h) e)

      pub round_right : (k : ℕ) (s : A) → Ok s → doubled k (v (repeat k f s)) ≡ n * v (repeat k f s) + v (repeat k f s) → v (repeat k f s) ≡ v s
      round_right k s h d =
          let (q, e) = right_twice k s h in
          sym (same_below n (v (repeat k f s)) (v s) q (low (repeat k f s) (repeat_ok k s h)) (low s h) (e ∙ d) (right_stays k s h))

-- ---- what comes round after p turns needs no more than the rest modulo p
module _ {A : Type 0} (f : A → A) where
  pub repeat_sum : (i j : ℕ) (s : A) → repeat (i + j) f s ≡ repeat i f (repeat j f s)
  repeat_sum zero j s = let e : 0 + j ≡ j = omega arith in rw e
  repeat_sum (suc i) j s = let e : suc i + j ≡ suc (i + j) = omega arith in rw e (ap f (repeat_sum i j s))

  module _ (Ok : A → Type 0) (keeps : (s : A) → Ok s → Ok (f s)) (p : ℕ) (comes : (s : A) → Ok s → repeat p f s ≡ s) where
    repeat_times : (q : ℕ) (s : A) → Ok s → repeat (q * p) f s ≡ s
    repeat_times zero s h = let e : 0 * p ≡ 0 = omega arith in rw e
    repeat_times (suc q) s h =
        let e : suc q * p ≡ q * p + p = omega arith in
        rw (e, repeat_sum (q * p) p s, comes s h) (repeat_times q s h)

    pub rest : (n : ℕ) (s : A) → Ok s → repeat n f s ≡ repeat (n % p) f s
    rest n s h =
        let e = div-add-mod' n p in
        ap (λ (m : ℕ). repeat m f s) (sym e) ∙ repeat_sum (n / p * p) (n % p) s ∙ repeat_times (n / p) (repeat (n % p) f s) (repeat_ok f Ok keeps (n % p) s h)
