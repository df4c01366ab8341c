-- Bytes copied one by one to the front of a slice.
-- Assumes nothing.
use Rattle.std.proofs.Common.{◌≡◌, ℕ, zero, suc, ◌<◌, List, [], ◌∷◌, ◌++◌, length, get_or, take, drop, set, refl, ap, le_of_suc-le-suc, not-suc-le-zero}

-- one byte more copied
pub copied_more : (bs s : List ℕ) (i : ℕ) → i < length bs → i < length s → set (take i bs ++ drop i s) i (get_or bs i 0) ≡ take (suc i) bs ++ drop (suc i) s
copied_more [] s i hb hs = absurd (not-suc-le-zero hb)
copied_more (b ∷ bs) [] i hb hs = absurd (not-suc-le-zero hs)
copied_more (b ∷ bs) (x ∷ s) zero hb hs = refl
copied_more (b ∷ bs) (x ∷ s) (suc i) hb hs = ap (λ (l : List ℕ). b ∷ l) (copied_more bs s i (le_of_suc-le-suc hb) (le_of_suc-le-suc hs))
