-- The run of a candidate holds its string and spells its number.
-- Assumes nothing.
use Rattle.std.specs.Prelude.{Option, Some, None}
use mathlib.Core.Path.{◌≡◌, refl, sym, ◌∙◌, ap, subst}
use Prim.Native.Nat.{ℕ, ◌+◌, ◌≤◌, ◌<◌}
use native.Mathlib.Omega.{arith}
use native.Mathlib.Nat.{eq-or-lt_of_le, le_of_suc-le-suc}
use native.Mathlib.Numerals.{add-one}
use mathlib.Core.Logic.{⊎_elim}
use mathlib.Core.Bool.{Bool, true, false}
use mathlib.Core.List.{List, [], ◌∷◌}
use lib.ListN.{length, get_or, set, take}
use lib.Seq.{get_or-set_same, get_or-set_other}
use Rattle.x86.specs.declared.Instruction.{Instruction}
use Rattle.x86.specs.Reading.{reads}
use Rattle.encode_run.specs.declared.ByteRun.{ByteRun}
use Rattle.encode_run.specs.Run.{empty_run, appended}
use Rattle.list_spec.specs.declared.Parts.{Parts}
use Rattle.list_spec.specs.Parts.{parts_of}
use Rattle.list_spec.specs.Possible.{possible}
use Rattle.list_spec.specs.Candidates.{candidate_of, candidate}
use Rattle.list_spec.specs.Entries.{entry, spelled, key, is_whole, reads_as, is_listed, candidate_key}
use Rattle.list_spec.proofs.Short.{candidate_short}
use Rattle.lister.specs.Runs.{key_of}

-- what a run holds of a string of at most seven bytes
pub record Holds (run : ByteRun) (s : List ℕ) : Type 0 where
  pub length_is : run.len ≡ length s
  pub bytes_are : take run.len run.bytes ≡ s
  pub key_are : key_of run ≡ key s

pub holds : (s : List ℕ) → length s ≤ 7 → Holds (appended empty_run s) s
unfolding key entry spelled
holds [] h = record { length_is = refl; bytes_are = refl; key_are = omega arith }
holds (a ∷ []) h = record { length_is = refl; bytes_are = refl; key_are = omega arith }
holds (a ∷ b ∷ []) h = record { length_is = refl; bytes_are = refl; key_are = omega arith }
holds (a ∷ b ∷ c ∷ []) h = record { length_is = refl; bytes_are = refl; key_are = omega arith }
holds (a ∷ b ∷ c ∷ d ∷ []) h = record { length_is = refl; bytes_are = refl; key_are = omega arith }
holds (a ∷ b ∷ c ∷ d ∷ e ∷ []) h = record { length_is = refl; bytes_are = refl; key_are = omega arith }
holds (a ∷ b ∷ c ∷ d ∷ e ∷ f ∷ []) h = record { length_is = refl; bytes_are = refl; key_are = omega arith }
holds (a ∷ b ∷ c ∷ d ∷ e ∷ f ∷ g ∷ []) h = record { length_is = refl; bytes_are = refl; key_are = omega arith }
holds (a ∷ b ∷ c ∷ d ∷ e ∷ f ∷ g ∷ x ∷ s) h = absurd (omega arith)

-- ---- the number of a candidate, from the code's steps
-- the parts are the instruction's
pub candidate_is : (off : ℕ) (m : Instruction) (q : Parts) (i : ℕ) (run : ByteRun) → q ≡ parts_of m → run ≡ appended empty_run (candidate_of off q i)
    → run ≡ appended empty_run (candidate off m i)
candidate_is off m q i run e r = r ∙ ap (λ (q : Parts). appended empty_run (candidate_of off q i)) e

pub possible_is : (m : Instruction) (q : Parts) (i : ℕ) (b : Bool) {v : Bool} → q ≡ parts_of m → b ≡ possible q i → b ≡ v → possible (parts_of m) i ≡ v
possible_is m q i b e p h = sym (ap (λ (q : Parts). possible q i) e) ∙ (sym p ∙ h)

module _ (off : ℕ) (m : Instruction) (i : ℕ) (run : ByteRun) (e : run ≡ appended empty_run (candidate off m i)) where
  pub held : Holds run (candidate off m i)
  held = subst (λ (r : ByteRun). Holds r (candidate off m i)) (sym e) (holds (candidate off m i) (candidate_short off m i))

  pub run_short : run.len ≤ 7
  run_short = omega (arith, held.length_is, candidate_short off m i)

  pub test_is : (b : Bool) → b ≡ is_whole (reads off (take run.len run.bytes)) m run.len → reads_as off m (candidate off m i) ≡ b
  unfolding reads_as
  test_is b eb = let h = held in sym (eb ∙ (ap (λ (s : List ℕ). is_whole (reads off s) m run.len) h.bytes_are ∙ ap (is_whole (reads off (candidate off m i)) m) h.length_is))

  pub key_yes : (b : Bool) (v : ℕ) → possible (parts_of m) i ≡ true → b ≡ is_whole (reads off (take run.len run.bytes)) m run.len → b ≡ true → v ≡ key_of run
      → Some v ≡ candidate_key off m i
  unfolding is_listed
  key_yes b v p eb t ev = rw (p, test_is b eb ∙ t) (ap Some (ev ∙ held.key_are))

  pub key_no : (b : Bool) → possible (parts_of m) i ≡ true → b ≡ is_whole (reads off (take run.len run.bytes)) m run.len → b ≡ false → None ≡ candidate_key off m i
  unfolding is_listed
  key_no b p eb t = rw (p, test_is b eb ∙ t)

-- what cannot be the instruction's
pub key_none : (off : ℕ) (m : Instruction) (i : ℕ) → possible (parts_of m) i ≡ false → None ≡ candidate_key off m i
unfolding is_listed
key_none off m i p = rw p

-- ---- the numbers of the first n candidates
abbrev pub Filled : ℕ → Instruction → List (Option ℕ) → ℕ → Type 0
Filled off m keys n = (j : ℕ) → j < n → get_or keys j None ≡ candidate_key off m j

pub fill_again : (off : ℕ) (m : Instruction) (keys : List (Option ℕ)) (i : ℕ) (v : Option ℕ) → i < length keys → Filled off m keys i → v ≡ candidate_key off m i
    → Filled off m (set keys i v) (i + 1)
fill_again off m keys i v h f e j l =
    ⊎_elim (λ (z : j ≡ i). rw z (get_or-set_same keys i v None h ∙ e)) (λ (z : j < i). get_or-set_other keys i j v None (λ q. omega arith) ∙ f j z)
    (eq-or-lt_of_le (le_of_suc-le-suc (rw add-one at l)))
