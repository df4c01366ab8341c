-- The ways through a step, from what the code has computed and asked.
-- Assumes nothing.
use mathlib.Core.Path.{◌≡◌, refl, sym, ◌∙◌, ap}
use Prim.Native.Nat.{ℕ, ◌+◌, ◌≤◌, ◌<◌}
use native.Mathlib.Omega.{arith}
use mathlib.Core.Bool.{Bool, true, false}
use mathlib.Core.List.{List}
use lib.Dec.{eqb}
use lib.ListN.{take}
use borrow.Author.Tests.{ne_eqb}
use Rattle.x86.specs.declared.Instruction.{Instruction}
use Rattle.x86.specs.Reading.{reads}
use Rattle.encode_run.specs.declared.ByteRun.{ByteRun}
use Rattle.encode_run.specs.Run.{empty_run, appended}
use Rattle.list_spec.specs.declared.Parts.{Parts}
use Rattle.list_spec.specs.Parts.{parts_of}
use Rattle.list_spec.specs.Possible.{possible}
use Rattle.list_spec.specs.Candidates.{candidate_of, candidate}
use Rattle.list_spec.specs.Entries.{key, is_whole, reads_as}
use Rattle.lister.specs.Runs.{key_of}
use Rattle.lister.proofs.Runs.{candidate_is, held, run_short, test_is}
use Rattle.shortest_encoder.specs.declared.Best.{Best}
use Rattle.shortest_encoder.specs.Search.{stepped, best_of, string_in}
use Rattle.shortest_encoder.proofs.Steps.{step_high, step_plain, step_alone, step_longer, step_prefixed, step_unread}

-- candidate j as the code has it: its run and its number
pub record Built (off : ℕ) (m : Instruction) (j : ℕ) (run : ByteRun) (k : ℕ) : Type 0 where
  pub run_is : run ≡ appended empty_run (candidate off m j)
  pub key_is : k ≡ key (candidate off m j)

pub short_run : (off : ℕ) (m : Instruction) (q : Parts) (j : ℕ) (run : ByteRun) → q ≡ parts_of m → run ≡ appended empty_run (candidate_of off q j) → run.len ≤ 7
short_run off m q j run e r = run_short off m j run (candidate_is off m q j run e r)

pub built : (off : ℕ) (m : Instruction) (q : Parts) (j : ℕ) (run : ByteRun) (k : ℕ) → q ≡ parts_of m → run ≡ appended empty_run (candidate_of off q j) → k ≡ key_of run
    → Built off m j run k
built off m q j run k e r n = let c = candidate_is off m q j run e r in record { run_is = c; key_is = n ∙ (held off m j run c).key_are }

-- does it read as m?
asked : (off : ℕ) (m : Instruction) (j : ℕ) (run : ByteRun) (k : ℕ) → Built off m j run k → (b : Bool) {v : Bool}
    → b ≡ is_whole (reads off (take run.len run.bytes)) m run.len → b ≡ v → reads_as off m (candidate off m j) ≡ v
asked off m j run k c b e h = test_is off m j run c.run_is b e ∙ h

module _ (off : ℕ) (m : Instruction) (q : Parts) (best : Best) (i : ℕ) (pre : (q ≡ parts_of m) × ((best ≡ best_of (string_in best)) × ((i < 6) × (possible q i ≡ true)))) where
  abbrev b : List ℕ
  b = string_in best

  abbrev Answer : Best → Type 0
  Answer r = r ≡ best_of (stepped off m b i)

  best_key : best.key ≡ key b
  best_key = ap (λ (x : Best). x.key) pre.1.0

  stays : stepped off m b i ≡ b → Answer best
  stays e = pre.1.0 ∙ ap best_of (sym e)

  takes : (j : ℕ) (run : ByteRun) (k : ℕ) → Built off m j run k → stepped off m b i ≡ candidate off m j → Answer (record { run = run; key = k })
  takes j run k c e = (λ t. record { run = c.run_is t; key = c.key_is t }) ∙ ap best_of (sym e)

  possible_it : possible (parts_of m) i ≡ true
  possible_it = sym (ap (λ (q : Parts). possible q i) pre.0) ∙ pre.1.1.1

  module _ (run : ByteRun) (k : ℕ) (c : Built off m i run k) where
    pub high : best.key ≤ k → Answer best
    high l = stays (step_high off m b i pre.1.1.0 (omega (arith, best_key, c.key_is)))

    module _ (l : k < best.key) (r : Bool) (er : r ≡ is_whole (reads off (take run.len run.bytes)) m run.len) where
      pub plain : r ≡ true → Answer (record { run = run; key = k })
      plain h =
          takes i run k c
          (step_plain off m b i pre.1.1.0 possible_it (asked off m i run k c r er h) (omega (arith, best_key, c.key_is)))

      module _ (hr : r ≡ false) where
        unread : reads_as off m (candidate off m i) ≡ false
        unread = asked off m i run k c r er hr

        prefix_is : q.prefix ≡ (parts_of m).prefix
        prefix_is = ap (λ (q : Parts). q.prefix) pre.0

        pub alone : q.prefix ≡ 0 → Answer best
        alone z = stays (step_alone off m b i pre.1.1.0 unread (sym prefix_is ∙ z))

        module _ (z : q.prefix ≡ 0 → ⊥) (run₂ : ByteRun) (k₂ : ℕ) (c₂ : Built off m (i + 6) run₂ k₂) where
          pub longer : best.key ≤ k₂ → Answer best
          longer l₂ = stays (step_longer off m b i pre.1.1.0 unread (omega (arith, best_key, c₂.key_is)))

          module _ (l₂ : k₂ < best.key) (r₂ : Bool) (er₂ : r₂ ≡ is_whole (reads off (take run₂.len run₂.bytes)) m run₂.len) where
            pub prefixed : r₂ ≡ true → Answer (record { run = run₂; key = k₂ })
            prefixed h =
                takes (i + 6) run₂ k₂ c₂
                (step_prefixed off m b i pre.1.1.0 unread possible_it (ne_eqb (parts_of m).prefix 0 (λ e. z (prefix_is ∙ e)))
                (asked off m (i + 6) run₂ k₂ c₂ r₂ er₂ h) (omega (arith, best_key, c₂.key_is)))

            pub unread_both : r₂ ≡ false → Answer best
            unread_both h = stays (step_unread off m b i pre.1.1.0 unread (asked off m (i + 6) run₂ k₂ c₂ r₂ er₂ h))
