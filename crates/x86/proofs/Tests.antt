-- Computed tests over numbers and over lists of forms, and the facts that they give.
-- Assumes nothing.
use mathlib.Core.Path.{◌≡◌, refl}
use Prim.Native.Nat.{ℕ, zero, suc, ◌≤◌, ◌<◌, zero-le}
use native.Mathlib.Omega.{arith}
use native.Mathlib.Nat.{not-suc-le-zero, eq-or-lt_of_le, le_of_suc-le-suc}
use mathlib.Core.Bool.{Bool, true, false}
use mathlib.Core.Logic.{⊎_elim}
use mathlib.Core.List.Memᴰ
use mathlib.Core.List.{List, [], ◌∷◌, Memᴰ}
use lib.Dec.{T}
use lib.ListN.{length}
use Rattle.mrc_compiler.specs.Choose.{both, either, isnt}
use Rattle.x86.specs.Forms.{Form}
use Rattle.x86.specs.Reading.{put, keep, some}

-- what a test of two says of each
pub both_left : (a b : Bool) → T (both a b) → T a
both_left true b t = tt
both_left false b t = t

pub both_right : (a b : Bool) → T (both a b) → T b
both_right true b t = t
both_right false b t = absurd t

pub both_parts : (a b : Bool) → T (both a b) → T a × T b
both_parts a b t = (both_left a b t, both_right a b t)

pub both_first : (a b : Bool) → both a b ≡ true → a ≡ true
both_first true b e = refl
both_first false b e = e

-- two tests that agree
abbrev pub same : Bool → Bool → Bool
same true b = b
same false b = isnt b

pub same_is : (a b : Bool) → T (same a b) → a ≡ b
same_is true true t = refl
same_is true false t = absurd t
same_is false true t = absurd t
same_is false false t = refl

pub is_true : (b : Bool) → T b → b ≡ true
is_true true t = refl
is_true false t = absurd t

-- a test of each number below n
abbrev pub up_to : ℕ → (ℕ → Bool) → Bool
up_to zero q = true
up_to (suc n) q = both (q n) (up_to n q)

-- holds of each of them
pub up_to_at : (n : ℕ) (q : ℕ → Bool) → T (up_to n q) → (k : ℕ) → k < n → T (q k)
up_to_at zero q t k h = absurd (not-suc-le-zero h)
up_to_at (suc n) q t k h =
    ⊎_elim (λ e. rw e (both_left (q n) (up_to n q) t)) (λ l. up_to_at n q (both_right (q n) (up_to n q) t) k l) (eq-or-lt_of_le (le_of_suc-le-suc h))

-- a test of each form of a list
abbrev pub each_of : (Form → Bool) → List Form → Bool
each_of q [] = true
each_of q (f ∷ fs) = both (q f) (each_of q fs)

-- holds of each of them
pub each_at : (q : Form → Bool) (fs : List Form) → T (each_of q fs) → {f : Form} → Memᴰ f fs → T (q f)
each_at q [] t m = absurd (Memᴰ.not-nil m)
each_at q (g ∷ fs) t m = ⊎_elim (λ e. rw e (both_left (q g) (each_of q fs) t)) (λ l. each_at q fs (both_right (q g) (each_of q fs) t) l) (Memᴰ.cases_cons m)

-- what is kept of a list stands in it
pub kept : (q : Form → Bool) (fs : List Form) {f : Form} → Memᴰ f (keep q fs) → Memᴰ f fs
kept q [] m = m
kept q (g ∷ fs) {f} m = go (q g) (λ l. Memᴰ.tail (kept q fs l)) m
  where
    go : (b : Bool) → (Memᴰ f (keep q fs) → Memᴰ f (g ∷ fs)) → Memᴰ f (put b g (keep q fs)) → Memᴰ f (g ∷ fs)
    go true below m = ⊎_elim (λ e. Memᴰ.head e) below (Memᴰ.cases_cons m)
    go false below m = below m

-- and passes the test
pub passed : (q : Form → Bool) (fs : List Form) {f : Form} → Memᴰ f (keep q fs) → q f ≡ true
passed q [] m = absurd (Memᴰ.not-nil m)
passed q (g ∷ fs) {f} m = go (q g) refl (λ l. passed q fs l) m
  where
    go : (b : Bool) → q g ≡ b → (Memᴰ f (keep q fs) → q f ≡ true) → Memᴰ f (put b g (keep q fs)) → q f ≡ true
    go true e below m = ⊎_elim (λ z. rw z e) below (Memᴰ.cases_cons m)
    go false e below m = below m

-- it is not longer
pub keep_shorter : (q : Form → Bool) (fs : List Form) → length (keep q fs) ≤ length fs
keep_shorter q [] = zero-le
keep_shorter q (f ∷ fs) = go (q f) (keep_shorter q fs)
  where
    go : (b : Bool) → length (keep q fs) ≤ length fs → length (put b f (keep q fs)) ≤ suc (length fs)
    go true h = omega arith
    go false h = omega arith

-- where no form passes a test, each fails it
pub some-false : (q : Form → Bool) (fs : List Form) → some q fs ≡ false → {f : Form} → Memᴰ f fs → q f ≡ false
some-false q [] e m = absurd (Memᴰ.not-nil m)
some-false q (g ∷ fs) e m =
    let (a, b) = either-false (q g) (some q fs) e in
    ⊎_elim (λ z. rw z a) (λ l. some-false q fs b l) (Memᴰ.cases_cons m)
  where
    either-false : (a b : Bool) → either a b ≡ false → (a ≡ false) × (b ≡ false)
    either-false true b e = (e, cc)
    either-false false b e = (refl, e)
