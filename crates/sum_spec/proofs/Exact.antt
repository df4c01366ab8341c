-- A text has one reading: a tree has the text just where the text reads as the tree, so no two trees have one text.
-- Assumes nothing.
use mathlib.Core.Path.{◌≡◌, refl, sym, ap, ◌∙◌}
use mathlib.Core.Logic.{◌↔◌}
use mathlib.Core.List.{List}
use Rattle.std.specs.Prelude.{Err}
use Prim.Native.Nat.{ℕ}
use Rattle.sum_spec.specs.declared.SumError.TheVariants as E
use Rattle.sum_spec.specs.Sums.{Sum, sum_text, Read, reads, no_text, answer_of_read}
use Rattle.sum_spec.specs.Reading.{reading, answer_of}
use Rattle.sum_spec.proofs.Complete.{complete}
use Rattle.sum_spec.proofs.Sound.{sound}

pub unambiguous : (t u : Sum) → sum_text t ≡ sum_text u → t ≡ u
unambiguous t u e = let h : reads t ≡ reads u = sym (complete t) ∙ ap reading e ∙ complete u in cc

pub exact : (s : List ℕ) (t : Sum) → (reading s ≡ reads t) ↔ (sum_text t ≡ s)
exact s t = (sound s t, λ e. ap reading (sym e) ∙ complete t)

-- the answer to the text of a reading, and to any other text
pub of_text : (t : Sum) → answer_of (sum_text t) ≡ answer_of_read (reads t)
unfolding answer_of
of_text t = ap answer_of_read (complete t)

pub of_no_text : (s : List ℕ) → ((t : Sum) → sum_text t ≡ s → ⊥) → answer_of s ≡ Err E.NoText
unfolding answer_of
of_no_text s none = go (reading s) refl
  where
    go : (r : Read) → reading s ≡ r → answer_of_read r ≡ Err E.NoText
    go (reads t) e = absurd (none t (sound s t e))
    go no_text e = refl
