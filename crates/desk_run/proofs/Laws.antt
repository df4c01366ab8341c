-- The laws of the simulator's two loops: where a run stands, one turn, and the log so far.
-- Assumes nothing.
use Rattle.std.specs.Prelude.{Result, Ok, Err}
use mathlib.Core.Path.{◌≡◌, refl, sym, ◌∙◌}
use mathlib.Core.Bool.{Bool, true, false}
use mathlib.Core.List.{List, [], ◌∷◌, ◌++◌, append-nil, append_assoc}
use Prim.Native.Nat.{ℕ, zero, suc, ◌+◌, ◌-◌, ◌<◌, ◌≤◌, min}
use native.Mathlib.Nat.{min-eq_left, min-eq_right}
use native.Mathlib.Numerals.{add-one}
use native.Mathlib.Omega.{arith}
use lib.Dec.{leb}
use lib.ListN.{length, take, drop, set, length-append, length-drop, take-append-drop}
use lib.Seq.{take_at, drop-drop, drop-append-add, sets-eq, take_all, take-length}
use borrow.Author.Tests.{leb-true, leb-false, le-leb, lt-leb}
use Rattle.mrc_compiler.specs.Choose.{pick}
use Rattle.desk_step.specs.declared.Machine.{Machine}
use Rattle.desk_step.specs.declared.Effect.{Effect}
use Rattle.desk_step.specs.declared.Effect.TheVariants as E
use Rattle.desk_step.specs.declared.Stepped.{Stepped}
use Rattle.desk_step.specs.Step.{start, step_of}
use Rattle.desk_run.specs.declared.RunError.{RunError}
use Rattle.desk_run.specs.declared.RunError.TheVariants as N
use Rattle.desk_run.specs.declared.Halted.{Halted}
use Rattle.desk_run.specs.Running.{Ending, halted, refused, is_halted, followed, ran, in_reach, ending, halted_with, answered, log_after}
use Rattle.desk_run.specs.Turns.{added, is_last}

-- ---- a run after n steps, none of which ended it
pub record Going (image : List ℕ) (room budget n : ℕ) (m : Machine) (at : ℕ) : Type 0 where
  pub in_budget : n ≤ budget
  pub room_in : at ≤ room
  pub log : List ℕ
  pub long : at ≡ length log
  pub same : ran image room budget 0 start [] ≡ ran image room (budget - n) n m log

pub going_start : (image : List ℕ) (room budget : ℕ) (m : Machine) → m ≡ start → Going image room budget 0 m 0
going_start image room budget m e =
    let z : budget - 0 ≡ budget = omega arith in
    record { in_budget = omega arith; room_in = omega arith; log = []; long = refl; same = rw (z, e) refl }

-- ---- a run, one step on
spent_at : (image : List ℕ) (room c : ℕ) (m : Machine) (l : List ℕ) → ran image room 0 c m l ≡ refused N.BudgetSpent
unfolding ran
spent_at image room c m l = refl

ran_next : (image : List ℕ) (room left c : ℕ) (m : Machine) (l : List ℕ) → 0 < left
    → ran image room left c m l ≡ followed room c l (step_of image m).effect (λ k. ran image room (left - 1) (suc c) (step_of image m).machine k)
unfolding ran
ran_next image room zero c m l h = absurd (omega arith)
ran_next image room (suc b) c m l h = let e : suc b - 1 ≡ b = omega arith in rw e refl

module _ (image : List ℕ) (room budget n : ℕ) (m : Machine) (at : ℕ) (g : Going image room budget n m at) (h : n < budget) (s : Stepped)
    (hs : s ≡ step_of image m) where
  pub next_is : ran image room budget 0 start []
      ≡ followed room n g.log s.effect (λ l. ran image room (budget - (n + 1)) (n + 1) s.machine l)
  next_is =
      let left : budget - n - 1 ≡ budget - (n + 1) = omega arith in
      let count : suc n ≡ n + 1 = omega arith in
      g.same ∙ rw (ran_next image room (budget - n) n m g.log (omega arith), ← hs, left, count) refl

  pub goes : s.effect ≡ E.Goes → Going image room budget (n + 1) s.machine at
  goes e = record { in_budget = omega arith; room_in = g.room_in; log = g.log; long = g.long; same = next_is ∙ rw e refl }

  pub halts_here : s.effect ≡ E.Halts → Ok (halted_with (n + 1) at) ≡ answered (ran image room budget 0 start [])
  halts_here e = let count : suc n ≡ n + 1 = omega arith in rw (next_is, e, count, ← g.long) refl

  pub refused_here : s.effect ≡ E.Refused → Err N.NotCarriedOut ≡ answered (ran image room budget 0 start [])
  refused_here e = rw (next_is, e) refl

  module _ (p v : ℕ) (e : s.effect ≡ E.Outputs p v) where
    pub puts_out : at + 2 ≤ room → Going image room budget (n + 1) s.machine (at + 2)
    puts_out r =
        let l = g.long in
        record {
          in_budget = omega arith;
          room_in = r;
          log = g.log ++ (p ∷ v ∷ []);
          long = rw (length-append g.log (p ∷ v ∷ []), l) refl;
          same = next_is ∙ rw (e, le-leb (length g.log + 2) room (rw (← l) r)) refl;
        }

    pub no_room : room < at + 2 → Err N.LogTooShort ≡ answered (ran image room budget 0 start [])
    no_room r = rw (next_is, e, lt-leb (length g.log + 2) room (rw (← g.long) r)) refl

-- the budget is spent
pub spent : (image : List ℕ) (room budget n : ℕ) (m : Machine) (at : ℕ) → Going image room budget n m at → budget ≤ n
    → ran image room budget 0 start [] ≡ refused N.BudgetSpent
spent image room budget n m at g h = let z : budget - n ≡ 0 = omega arith in g.same ∙ rw z (spent_at image room n m g.log)

-- ---- the lent log while the run is written
pub record Writing (image lent : List ℕ) (budget n : ℕ) (m : Machine) (at : ℕ) (log : List ℕ) : Type 0 where
  pub going : Going image (length lent) budget n m at
  pub written : log ≡ going.log ++ drop at lent

pub writing_start : (image lent : List ℕ) (budget : ℕ) (m : Machine) → m ≡ start → Writing image lent budget 0 m 0 lent
writing_start image lent budget m e =
    let z : budget - 0 ≡ budget = omega arith in
    record {
      going = record { in_budget = omega arith; room_in = omega arith; log = []; long = refl; same = rw (z, e) refl };
      written = refl;
    }

pub writing_length : (image lent : List ℕ) (budget n : ℕ) (m : Machine) (at : ℕ) (log : List ℕ) → Writing image lent budget n m at log → length log ≡ length lent
writing_length image lent budget n m at log w =
    let a = w.going.long in
    let b = w.going.room_in in
    rw (w.written, length-append w.going.log (drop at lent), length-drop at lent) (omega arith)

module _ (room c : ℕ) (l : List ℕ) (f : List ℕ → Ending) where
  -- the last step of a run that halts
  last_by : (e : Effect) → is_last e ≡ true → is_halted (followed room c l e f) ≡ true → (lent : List ℕ) → log_after (followed room c l e f) lent ≡ l ++ drop (length l) lent
  last_by E.Goes q t lent = let z : ◌≡◌ {A = ℕ} 0 1 = cc in absurd (omega arith)
  last_by (E.Outputs p v) q t lent = let z : ◌≡◌ {A = ℕ} 0 1 = cc in absurd (omega arith)
  last_by E.Halts q t lent = refl
  last_by E.Refused q t lent = let z : ◌≡◌ {A = ℕ} 0 1 = cc in absurd (omega arith)

  -- another
  other_by : (e : Effect) → is_last e ≡ false → is_halted (followed room c l e f) ≡ true → length l ≤ room
      → (length l + length (added e) ≤ room) × (followed room c l e f ≡ f (l ++ added e))
  other_by E.Goes q t h = let z : l ++ [] ≡ l = append-nil l in rw z (omega arith, refl)
  other_by (E.Outputs p v) q t h = go (leb (length l + 2) room) refl t
    where
      go : (b : Bool) → leb (length l + 2) room ≡ b → is_halted (pick b (f (l ++ (p ∷ v ∷ []))) (refused N.LogTooShort)) ≡ true
          → (length l + 2 ≤ room) × (pick b (f (l ++ (p ∷ v ∷ []))) (refused N.LogTooShort) ≡ f (l ++ (p ∷ v ∷ [])))
      go true x t = (leb-true (length l + 2) room x, refl)
      go false x t = let z : ◌≡◌ {A = ℕ} 0 1 = cc in absurd (omega arith)
  other_by E.Halts q t h = let z : ◌≡◌ {A = ℕ} 0 1 = cc in absurd (omega arith)
  other_by E.Refused q t h = let z : ◌≡◌ {A = ℕ} 0 1 = cc in absurd (omega arith)

-- some bytes put into the log behind l
put_behind : (l bs lent log : List ℕ) (at : ℕ) → at ≡ length l → log ≡ l ++ drop at lent
    → take at log ++ (bs ++ drop (at + length bs) log) ≡ (l ++ bs) ++ drop (at + length bs) lent
put_behind l bs lent log at a e =
    let t : take at log ≡ l = rw e (take_at l (drop at lent) at (sym a)) in
    let d : drop (at + length bs) log ≡ drop (at + length bs) lent = rw (e, a) (drop-append-add l (drop (length l) lent) (length bs) ∙ drop-drop (length bs) (length l) lent) in
    rw (t, d) (sym (append_assoc l bs (drop (at + length bs) lent)))

module _ (image lent : List ℕ) (budget n : ℕ) (m : Machine) (at : ℕ) (log : List ℕ) (w : Writing image lent budget n m at log) (h : n < budget) (s : Stepped)
    (hs : s ≡ step_of image m) (t : is_halted (ran image (length lent) budget 0 start []) ≡ true) where
  on_is : ran image (length lent) budget 0 start []
      ≡ followed (length lent) n w.going.log s.effect (λ l. ran image (length lent) (budget - (n + 1)) (n + 1) s.machine l)
  on_is = next_is image (length lent) budget n m at w.going h s hs

  pub last : (b : Bool) → b ≡ is_last s.effect → b ≡ true → log ≡ log_after (ran image (length lent) budget 0 start []) lent
  last b e q =
      let x : log ≡ w.going.log ++ drop (length w.going.log) lent = rw (← w.going.long) w.written in
      x ∙ sym (rw on_is (last_by (length lent) n w.going.log _ s.effect (sym e ∙ q) (rw on_is at t) lent))

  others : (b : Bool) → b ≡ is_last s.effect → b ≡ false
      → (length w.going.log + length (added s.effect) ≤ length lent)
      × (followed (length lent) n w.going.log s.effect (λ l. ran image (length lent) (budget - (n + 1)) (n + 1) s.machine l)
      ≡ ran image (length lent) (budget - (n + 1)) (n + 1) s.machine (w.going.log ++ added s.effect))
  others b e q =
      other_by (length lent) n w.going.log (λ l. ran image (length lent) (budget - (n + 1)) (n + 1) s.machine l) s.effect
      (sym e ∙ q) (rw on_is at t) (rw (← w.going.long) w.going.room_in)

  pub room_left : (b : Bool) → b ≡ is_last s.effect → b ≡ false → at + length (added s.effect) ≤ length log
  room_left b e q =
      let same = writing_length image lent budget n m at log w in
      let a = w.going.long in
      let o = (others b e q).0 in
      omega arith

  pub writes_on : (b : Bool) → b ≡ is_last s.effect → b ≡ false → (next : ℕ) → next ≡ at + length (added s.effect) → (after : List ℕ)
      → after ≡ take at log ++ (added s.effect ++ drop (at + length (added s.effect)) log)
      → Writing image lent budget (n + 1) s.machine next after
  writes_on b e q next en after ea =
      let a = w.going.long in
      let i = w.going.in_budget in
      let o = others b e q in
      let r = o.0 in
      record {
        going = record {
          in_budget = omega arith;
          room_in = omega arith;
          log = w.going.log ++ added s.effect;
          long = en ∙ rw (length-append w.going.log (added s.effect), ← a) refl;
          same = on_is ∙ o.1;
        };
        written = ea ∙ rw en (put_behind w.going.log (added s.effect) lent log at a w.written);
      }

-- a run that halts does not spend its budget
pub not_spent : (image lent : List ℕ) (budget n : ℕ) (m : Machine) (at : ℕ) (log : List ℕ) → Writing image lent budget n m at log → budget ≤ n
    → is_halted (ran image (length lent) budget 0 start []) ≡ true → ⊥
not_spent image lent budget n m at log w h t =
    let e = spent image (length lent) budget n m at w.going h in
    let f : false ≡ true = rw e at t in
    let z : ◌≡◌ {A = ℕ} 0 1 = cc in
    omega arith

-- ---- what is added to the log
pub none_added : (e : Effect) (at : ℕ) (log : List ℕ) → added e ≡ [] → (at ≡ at + length (added e)) × (log ≡ take at log ++ (added e ++ drop (at + length (added e)) log))
none_added e at log q =
    let z : at + 0 ≡ at = omega arith in
    rw (q, z) (refl, sym (take-append-drop at log))

pub pair_added : (p v at : ℕ) (log : List ℕ) → at + 2 ≤ length log → set (set log at p) (at + 1) v ≡ take at log ++ (p ∷ v ∷ drop (at + 2) log)
pair_added p v at log h = rw (add-one at) (sets-eq (p ∷ v ∷ []) log at h ∙ append_assoc (take at log) (p ∷ v ∷ []) (drop (at + 2) log))

-- ---- both loops, over what is in reach of the image
reach_is : (image : List ℕ) (end : ℕ) → end ≡ min (length image) 65536 → take end image ≡ in_reach image
reach_is image end e = go (leb (length image) 65536) refl
  where
    go : (b : Bool) → leb (length image) 65536 ≡ b → take end image ≡ take 65536 image
    go true t =
        let h = leb-true (length image) 65536 t in
        let z : end ≡ length image = e ∙ min-eq_left h in
        rw (z, take_all 65536 image h) (take-length image)
    go false t =
        let h = leb-false (length image) 65536 t in
        let z : end ≡ 65536 = e ∙ min-eq_right (omega arith) in
        rw z refl

refused_answer : (x : Ending) (e : RunError) → Err e ≡ answered x → (lent : List ℕ) → lent ≡ log_after x lent
refused_answer (halted n log) e q lent = let z : ◌≡◌ {A = ℕ} 0 1 = cc in absurd (omega arith)
refused_answer (refused x) e q lent = refl

halted_answer : (x : Ending) (h : Halted) → Ok h ≡ answered x → is_halted x ≡ true
halted_answer (halted n log) h q = refl
halted_answer (refused x) h q = let z : ◌≡◌ {A = ℕ} 0 1 = cc in absurd (omega arith)

module _ (image lent : List ℕ) (budget end : ℕ) (he : end ≡ min (length image) 65536) (r : Result Halted RunError)
    (hr : r ≡ answered (ran (take end image) (length lent) budget 0 start [])) where
  ending_is : ran (take end image) (length lent) budget 0 start [] ≡ ending image budget (length lent)
  ending_is = rw (reach_is image end he) refl

  pub refuses : (e : RunError) → r ≡ Err e
      → (Err e ≡ answered (ending image budget (length lent))) × (lent ≡ log_after (ending image budget (length lent)) lent)
  refuses e q =
      let a : Err e ≡ answered (ending image budget (length lent)) = sym q ∙ rw (← ending_is) hr in
      (a, refused_answer (ending image budget (length lent)) e a lent)

  module _ (h : Halted) (q : r ≡ Ok h) where
    pub halts : is_halted (ran (take end image) (length lent) budget 0 start []) ≡ true
    halts = halted_answer (ran (take end image) (length lent) budget 0 start []) h (sym q ∙ hr)

    pub halts_so : (after : List ℕ) → after ≡ log_after (ran (take end image) (length lent) budget 0 start []) lent
        → (Ok h ≡ answered (ending image budget (length lent))) × (after ≡ log_after (ending image budget (length lent)) lent)
    halts_so after e = (sym q ∙ rw (← ending_is) hr, rw (← ending_is) e)
