-- The first that says yes says yes, and where there is none all say no.
-- Assumes nothing.
use mathlib.Core.Path.{◌≡◌, refl}
use mathlib.Core.Bool.{Bool, true, false}
use mathlib.Core.Logic.{⊎_elim}
use Prim.Native.Nat.{ℕ, zero, suc, ◌+◌, ◌<◌, ◌≤◌}
use native.Mathlib.Nat.{eq-or-lt_of_le}
use native.Mathlib.Omega.{arith}
use lib.Dec.{ltb}
use borrow.Author.Tests.{ltb-false, le-ltb}
use Rattle.mrc_compiler.specs.Choose.{pick}
use Rattle.show_file.specs.Show.{first_from}

found_at : (b : Bool) (f : ℕ → Bool) (k i : ℕ) → f i ≡ b → (first_from f k (suc i) < suc i + k → f (first_from f k (suc i)) ≡ true)
    → pick b i (first_from f k (suc i)) < i + suc k → f (pick b i (first_from f k (suc i))) ≡ true
found_at true f k i e rest h = e
found_at false f k i e rest h = rest (omega arith)

pub found : (f : ℕ → Bool) (k i : ℕ) → first_from f k i < i + k → f (first_from f k i) ≡ true
found f zero i h = absurd (omega arith)
found f (suc k) i h = found_at (f i) f k i refl (found f k (suc i)) h

none_at : (b : Bool) (f : ℕ → Bool) (k i : ℕ) → f i ≡ b → i + suc k ≤ pick b i (first_from f k (suc i)) → (f i ≡ false) × (suc i + k ≤ first_from f k (suc i))
none_at true f k i e h = absurd (omega arith)
none_at false f k i e h = (e, omega arith)

none_from : (f : ℕ → Bool) (k i j : ℕ) → i + k ≤ first_from f k i → i ≤ j → j < i + k → f j ≡ false
none_from f zero i j h a b = absurd (omega arith)
none_from f (suc k) i j h a b =
    let (e, g) = none_at (f i) f k i refl h in
    ⊎_elim (λ d. rw (← d) e) (λ l. none_from f k (suc i) j g l (omega arith)) (eq-or-lt_of_le a)

pub none : (f : ℕ → Bool) (n : ℕ) → ltb (first_from f n 0) n ≡ false → (k : ℕ) → k < n → f k ≡ false
none f n h k l = none_from f n 0 k (omega (arith, ltb-false (first_from f n 0) n h)) (omega arith) (omega arith)

-- and where all say no there is none
all_no_from : (f : ℕ → Bool) (k i : ℕ) → ((j : ℕ) → j < i + k → f j ≡ false) → first_from f k i ≡ i + k
all_no_from f zero i h = omega arith
all_no_from f (suc k) i h = let r = all_no_from f k (suc i) (λ j l. h j (omega arith)) in rw (h i (omega arith)) (omega arith)

pub all_no : (f : ℕ → Bool) (n : ℕ) → ((j : ℕ) → j < n → f j ≡ false) → ltb (first_from f n 0) n ≡ false
all_no f n h = let e = all_no_from f n 0 (λ j l. h j (omega arith)) in le-ltb (first_from f n 0) n (omega arith)

-- two tests that agree have the same first
pub same_first : (f g : ℕ → Bool) (k i : ℕ) → ((j : ℕ) → j < i + k → f j ≡ g j) → first_from f k i ≡ first_from g k i
same_first f g zero i h = refl
same_first f g (suc k) i h = rw (h i (omega arith), same_first f g k (suc i) (λ j l. h j (omega arith)))
