-- What stands at the front of a lent slice that is written part by part.
-- Assumes nothing.
use Rattle.std.proofs.Common.{◌≡◌, ℕ, ◌+◌, ◌-◌, ◌≤◌, List, [], ◌++◌, length, take, drop, refl, append_assoc, append-nil, arith, length-append, length-drop, drop_of_length-le, length-take-le, take_all, drop-drop}
use lib.Seq.{take-append_seam, drop-append_seam}
use borrow.Rule.Slice.PartMut.{put_mid}

-- P stands at the front of a slice that was s₀
pub record Front (P s₀ s : List ℕ) : Type 0 where
  pub is : s ≡ P ++ drop (length P) s₀
  pub same : length s ≡ length s₀

pub front_start : (s : List ℕ) → Front [] s s
front_start s = record { is = refl; same = refl }

pub front_is : (P s₀ s : List ℕ) → length P ≤ length s₀ → s ≡ P ++ drop (length P) s₀ → Front P s₀ s
front_is P s₀ s h e = record { is = e; same = rw (e, length-append P, length-drop (length P) s₀) (omega arith) }

-- the part from `at` on, as it is lent
abbrev pub lent : List ℕ → ℕ → List ℕ
lent s at = take (length s - at) (drop at s)

pub lent_length : (s : List ℕ) (at : ℕ) → length (lent s at) ≡ length s - at
lent_length s at = length-take-le (length s - at) (drop at s) (rw (length-drop at s) (omega arith))

-- what a writer leaves there, seen in the whole slice
written : (P B s₀ s : List ℕ) → s ≡ P ++ drop (length P) s₀
    → put_mid (length P) (length s - length P) s (B ++ drop (length B) (lent s (length P))) ≡ (P ++ B) ++ drop (length (P ++ B)) s₀
written P B s₀ s e =
    let before : take (length P) s ≡ P = rw e (take-append_seam P (drop (length P) s₀)) in
    let after : drop (length P) s ≡ drop (length P) s₀ = rw e (drop-append_seam P (drop (length P) s₀)) in
    let whole : take (length s - length P) (drop (length P) s) ≡ drop (length P) s = take_all (length s - length P) (drop (length P) s) (rw (length-drop (length P) s) (omega arith)) in
    let none : drop (length s - length P) (drop (length P) s) ≡ [] = drop_of_length-le (drop (length P) s) {i = length s - length P} (rw (length-drop (length P) s) (omega arith)) in
    rw (whole, none, after, before) (simp (append-nil, append_assoc, drop-drop, length-append))

pub front_next : (P B s₀ s last : List ℕ) (at : ℕ) → Front P s₀ s → at ≡ length P → at + length B ≤ length s₀ → last ≡ B ++ drop (length B) (lent s at)
    → Front (P ++ B) s₀ (put_mid at (length s - at) s last)
front_next P B s₀ s last at f e h l =
    let w : put_mid at (length s - at) s last ≡ (P ++ B) ++ drop (length (P ++ B)) s₀ = rw (l, e) (written P B s₀ s f.is) in
    front_is (P ++ B) s₀ (put_mid at (length s - at) s last) (rw (length-append P B) (omega arith)) w
