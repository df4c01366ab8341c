-- The count that a run answers is the number of steps: as many as the step taken one by one, HLT among them.
-- Assumes nothing.
use mathlib.Core.Path.{◌≡◌, refl, sym, ap, ◌∙◌}
use mathlib.Core.Bool.{Bool, true, false}
use mathlib.Core.List.{List, [], ◌∷◌, ◌++◌, append-nil, append_assoc}
use Prim.Native.Nat.{ℕ, zero, suc, ◌+◌, ◌<◌}
use native.Mathlib.Omega.{arith}
use lib.Dec.{leb}
use lib.ListN.{length}
use Rattle.mrc_compiler.specs.Choose.{pick}
use Rattle.desk_step.specs.declared.Machine.{Machine}
use Rattle.desk_step.specs.declared.Effect.{Effect}
use Rattle.desk_step.specs.declared.Effect.TheVariants as E
use Rattle.desk_step.specs.Step.{start, step_of}
use Rattle.desk_run.specs.declared.RunError.{RunError}
use Rattle.desk_run.specs.declared.RunError.TheVariants as N
use Rattle.desk_run.specs.Running.{halted, refused, followed, ran, in_reach, ending}
use Rattle.desk_run.specs.Turns.{added, is_last}
use Rattle.desk_run.specs.Iterating.{iterated, put_out, Counted}

no_end : {e : RunError} {n : ℕ} {log : List ℕ} → refused e ≡ halted n log → ⊥
no_end q = let z : ◌≡◌ {A = ℕ} 0 1 = cc in omega arith

-- from a run with a count c and a log l so far
record From (image : List ℕ) (budget c : ℕ) (m : Machine) (l : List ℕ) (n : ℕ) (log : List ℕ) : Type 0 where
  more : ℕ
  whole : n ≡ c + more
  out : List ℕ
  log_is : log ≡ l ++ out
  is : Counted image budget m more out

module _ (image : List ℕ) (room : ℕ) where
  -- one step before
  earlier : (b c : ℕ) (m : Machine) (l : List ℕ) (n : ℕ) (log : List ℕ) → is_last (step_of image m).effect ≡ false
      → From image b (suc c) (step_of image m).machine (l ++ added (step_of image m).effect) n log → From image (suc b) c m l n log
  unfolding iterated put_out
  earlier b c m l n log t f =
      let g = f.is in
      let w = f.whole in
      let k = g.count in
      let i = g.in_budget in
      record {
        more = suc f.more;
        whole = omega arith;
        out = added (step_of image m).effect ++ f.out;
        log_is = f.log_is ∙ append_assoc l (added (step_of image m).effect) f.out;
        is = record {
          before = suc g.before;
          count = ap suc k;
          in_budget = omega arith;
          halts_last = g.halts_last;
          not_earlier = first t g.not_earlier;
          logged = ap (λ (o : List ℕ). added (step_of image m).effect ++ o) g.logged;
        };
      }
    where
      first : {j : ℕ} → is_last (step_of image m).effect ≡ false
          → ((i : ℕ) → i < j → is_last (step_of image (iterated image i (step_of image m).machine)).effect ≡ false)
          → (i : ℕ) → i < suc j → is_last (step_of image (iterated image i m)).effect ≡ false
      first t h zero l = t
      first t h (suc i) l = h i (omega arith)

  from_run : (b c : ℕ) (m : Machine) (l : List ℕ) (n : ℕ) (log : List ℕ) → ran image room b c m l ≡ halted n log → From image b c m l n log
  unfolding ran iterated put_out
  from_run zero c m l n log q = absurd (no_end q)
  from_run (suc b) c m l n log q =
      step (step_of image m).effect refl q (λ k r. from_run b (suc c) (step_of image m).machine k n log r)
    where
      step : (e : Effect) → (step_of image m).effect ≡ e → followed room c l e (λ k. ran image room b (suc c) (step_of image m).machine k) ≡ halted n log
          → ((k : List ℕ) → ran image room b (suc c) (step_of image m).machine k ≡ halted n log → From image b (suc c) (step_of image m).machine k n log)
          → From image (suc b) c m l n log
      step E.Goes e q go = earlier b c m l n log (rw e refl) (rw (e, append-nil l) (go l q))
      step (E.Outputs p v) e q go = asked (leb (length l + 2) room) q
        where
          asked : (t : Bool) → pick t (ran image room b (suc c) (step_of image m).machine (l ++ (p ∷ v ∷ []))) (refused N.LogTooShort) ≡ halted n log
              → From image (suc b) c m l n log
          asked true q = earlier b c m l n log (rw e refl) (rw e (go (l ++ (p ∷ v ∷ [])) q))
          asked false q = absurd (no_end q)
      step E.Halts e q go =
          let a : n ≡ suc c = cc in
          let o : log ≡ l = cc in
          record {
            more = 1;
            whole = omega arith;
            out = [];
            log_is = o ∙ sym (append-nil l);
            is = record { before = 0; count = refl; in_budget = omega arith; halts_last = e; not_earlier = λ i h. absurd (omega arith); logged = refl };
          }
      step E.Refused e q go = absurd (no_end q)

-- a run that halts
pub counted : (image : List ℕ) (budget room n : ℕ) (log : List ℕ) → ending image budget room ≡ halted n log → Counted (in_reach image) budget start n log
counted image budget room n log q =
    let f = from_run (in_reach image) room budget 0 start [] n log q in
    let w = f.whole in
    let a : n ≡ f.more = omega arith in
    let i = f.is.in_budget in
    record {
      before = f.is.before;
      count = a ∙ f.is.count;
      in_budget = omega arith;
      halts_last = f.is.halts_last;
      not_earlier = f.is.not_earlier;
      logged = f.log_is ∙ f.is.logged;
    }
