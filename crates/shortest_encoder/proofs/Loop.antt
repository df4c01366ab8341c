-- The search as the code's loop holds it.
-- Assumes nothing.
use mathlib.Core.Path.{◌≡◌, refl, sym, ◌∙◌, ap, subst}
use Prim.Native.Nat.{ℕ, zero, suc, ◌+◌, ◌<◌, ◌≤◌}
use native.Mathlib.Omega.{arith}
use native.Mathlib.Numerals.{add-one}
use mathlib.Core.Bool.{Bool, true, false}
use mathlib.Core.List.{List}
use lib.Dec.{ltb}
use lib.ListN.{length, take, length-take}
use Rattle.mrc_compiler.specs.Choose.{pick, both}
use Rattle.x86.specs.declared.Instruction.{Instruction}
use Rattle.encode_run.specs.declared.ByteRun.{ByteRun}
use Rattle.encode_run.specs.Run.{empty_run, appended}
use Rattle.list_spec.specs.Candidates.{candidate}
use Rattle.list_spec.specs.Entries.{key, is_listed}
use Rattle.list_spec.proofs.Choices.{picked}
use Rattle.list_spec.proofs.Short.{candidate_short}
use Rattle.lister.specs.Runs.{key_of}
use Rattle.lister.proofs.Runs.{Holds, holds}
use Rattle.list_spec.specs.Parts.{parts_of}
use Rattle.list_spec.specs.Possible.{possible}
use Rattle.shortest_encoder.specs.declared.Best.{Best}
use Rattle.shortest_encoder.specs.Search.{better, stepped, search, best_of, string_in}
use Rattle.shortest_encoder.proofs.Steps.{step_none}

-- the string of a run that is built from it
string_of : (s : List ℕ) → length s ≤ 7 → string_in (best_of s) ≡ s
string_of s h = (holds s h).bytes_are

short_front : (n : ℕ) (s : List ℕ) → n ≤ 7 → length (take n s) ≤ 7
short_front n s h = omega (arith, length-take n s)

-- after i steps from the string s on
pub record Held (off : ℕ) (m : Instruction) (s : List ℕ) (best : Best) (i : ℕ) : Type 0 where
  pub short : length (search off m s i) ≤ 7
  pub is : best ≡ best_of (search off m s i)

module _ (off : ℕ) (m : Instruction) where
  stepped_short : (b : List ℕ) (i : ℕ) → length b ≤ 7 → length (stepped off m b i) ≤ 7
  unfolding better
  stepped_short b i h =
      picked (λ (t : List ℕ). length t ≤ 7) (both (is_listed off m (i + 6)) (ltb (key (candidate off m (i + 6))) (key (better off m b i)))) (candidate_short off m (i + 6))
      (picked (λ (t : List ℕ). length t ≤ 7) (both (is_listed off m i) (ltb (key (candidate off m i)) (key b))) (candidate_short off m i) h)

  pub begun : (own : ByteRun) (k : ℕ) → own.len ≤ 7 → own ≡ appended empty_run (take own.len own.bytes) → k ≡ key_of own
      → Held off m (take own.len own.bytes) (record { run = own; key = k }) 0
  unfolding search
  begun own k h e n =
      let s = take own.len own.bytes in
      let l : length s ≤ 7 = short_front own.len own.bytes h in
      let k_is : k ≡ key s = n ∙ (ap key_of e ∙ (holds s l).key_are) in
      record { short = l; is = λ t. record { run = e t; key = k_is t } }

  module _ (s : List ℕ) (best : Best) where
    pub is_best : (i : ℕ) → Held off m s best i → best ≡ best_of (string_in best)
    is_best i h = h.is ∙ ap best_of (sym (string_of (search off m s i) h.short) ∙ ap string_in (sym h.is))

    pub next : (best₂ : Best) (i : ℕ) → Held off m s best i → best₂ ≡ best_of (stepped off m (string_in best) i) → Held off m s best₂ (i + 1)
    unfolding search
    next best₂ i h e =
        let b : string_in best ≡ search off m s i = ap string_in h.is ∙ string_of (search off m s i) h.short in
        rw add-one (record {
          short = stepped_short (search off m s i) i h.short;
          is = e ∙ ap (λ (t : List ℕ). best_of (stepped off m t i)) b;
        })

    -- a candidate that cannot be the instruction's is passed over
    pub skip : (best₂ : Best) (i : ℕ) → Held off m s best i → i < 6 → possible (parts_of m) i ≡ false → best₂ ≡ best → Held off m s best₂ (i + 1)
    skip best₂ i h l p e = next best₂ i h (e ∙ (is_best i h ∙ ap best_of (sym (step_none off m (string_in best) i l p))))

    pub done : (i : ℕ) → i ≤ 6 → 6 ≤ i → Held off m s best i → best.run ≡ appended empty_run (search off m s 6)
    done i l k h =
        let z : i ≡ 6 = omega arith in
        ap (λ (x : Best). x.run) (subst (λ (n : ℕ). best ≡ best_of (search off m s n)) z h.is)
