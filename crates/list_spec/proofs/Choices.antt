-- Laws of choices and tests that more than one proof of the listing uses.
-- Assumes nothing.
use mathlib.Core.Bool.{Bool, true, false}
use mathlib.Core.Logic.{◌⊎◌, inl, inr}
use mathlib.Core.Path.{◌≡◌, refl}
use Prim.Native.Nat.{ℕ, ◌≤◌, ◌<◌}
use lib.Dec.{T, ltb}
use borrow.Author.Tests.{ltb-true, ltb-false}
use Rattle.mrc_compiler.specs.Choose.{pick, both, either}

-- what holds of both holds of the one picked
pub picked : {A : Type 0} (P : A → Type 0) (b : Bool) {s t : A} → P s → P t → P (pick b s t)
picked P true h k = h
picked P false h k = k

pub both_true : (a b : Bool) → T a → T b → T (both a b)
both_true true b s t = t
both_true false b s t = s

pub either_parts : (a b : Bool) → T (either a b) → T a ⊎ T b
either_parts true b t = inl tt
either_parts false b t = inr t

pub lt_or : (a b : ℕ) → (a < b) ⊎ (b ≤ a)
lt_or a b = go (ltb a b) refl
  where
    go : (q : Bool) → ltb a b ≡ q → (a < b) ⊎ (b ≤ a)
    go true e = inl (ltb-true a b e)
    go false e = inr (ltb-false a b e)
