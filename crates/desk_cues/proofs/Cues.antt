-- What a designer may rely on: a compiled list of cues halts on the last step of its budget, with the cues' ports and masks in the log.
-- Assumes nothing.
use Rattle.std.specs.Prelude.{Some, Ok, Err}
use mathlib.Core.Path.{◌≡◌, refl, sym, ap, ◌∙◌}
use mathlib.Core.Bool.{Bool, true, false}
use mathlib.Core.List.{List, [], ◌∷◌, ◌++◌, append-nil, append_assoc}
use Prim.Native.Nat.{ℕ, zero, suc, ◌+◌, ◌*◌, ◌-◌, ◌/◌, ◌%◌, ◌<◌, ◌≤◌}
use native.Mathlib.Omega.{arith}
use lib.Dec.{eqb, leb}
use lib.ListN.{length, take, drop, set, get_or, length-append, length-set, drop_of_length-le}
use lib.Seq.{take-append-add, get_or-set_same}
use borrow.Author.Tests.{eqb-false, leb-true}
use Rattle.mrc_compiler.specs.Choose.{pick, both, either}
use Rattle.x86.specs.Listing.{Bytes}
use Rattle.cue_compile.specs.declared.Cue.{Cue}
use Rattle.cue_compile.specs.declared.CueError.{CueError}
use Rattle.cue_compile.specs.declared.CueError.TheVariants as CE
use Rattle.cue_compile.specs.Cues.{cues_in, some_without}
use Rattle.cue_compile.specs.Program.{move_delay, loop_to, move_mask, output, halt, program, assembled, image_of}
use Rattle.cue_compile.specs.Compiling.{compiled, image_after}
use Rattle.cue_compile.proofs.Bytes.{Sound, Sounds, none, more, cue_bytes, delay_is, loop_is, mask_is, output_is, halt_is, cue_is, next_is, length_is, all_sound}
use Rattle.cue_compile.proofs.Laws.{four_each}
use Rattle.x86.specs.Reading.{is_repeat}
use Rattle.desk_step.specs.declared.Action.TheVariants as A
use Rattle.desk_step.specs.declared.Effect.TheVariants as E
use Rattle.desk_step.specs.Step.{machine, shown, performed, step_of, with_byte}
use Rattle.desk_run.specs.Running.{halted, ran, in_reach, ending}
use Rattle.desk_cues.specs.Promise.{delays, budget_of, pairs_of, room_of, Relied}
use Rattle.desk_cues.proofs.Steps.{delay_does, loop_does, mask_does, output_does, halt_does, behind, fetched, goes, outputs, halts, loops}

-- ---- one cue, at an offset
module _ (image : List ℕ) (room : ℕ) (c : Cue) (s : Sound c) (k : ℕ) (is : c.delay ≡ suc k) (cs : List Cue) (at : ℕ) (h : at + 9 < 65536) (t : List ℕ)
    (stands : drop at image ≡ assembled at (program (c ∷ cs)) ++ t) (r : List ℕ) (eight : length r ≡ 8) where
  abbrev rest : List ℕ
  rest = assembled (at + 9) (program cs) ++ t

  at_delay : drop at image ≡ cue_bytes c ++ rest
  at_delay = stands ∙ ap (λ (l : List ℕ). l ++ t) (cue_is c s cs at)

  at_loop : drop (at + 3) image ≡ 0xE2 ∷ 0xFE ∷ 0xB0 ∷ c.mask ∷ 0xE6 ∷ c.port ∷ rest
  at_loop = behind image at (0xB9 ∷ c.delay % 256 ∷ c.delay / 256 ∷ []) _ at_delay

  at_mask : drop (at + 3 + 2) image ≡ 0xB0 ∷ c.mask ∷ 0xE6 ∷ c.port ∷ rest
  at_mask = behind image (at + 3) (0xE2 ∷ 0xFE ∷ []) _ at_loop

  at_output : drop (at + 3 + 2 + 2) image ≡ 0xE6 ∷ c.port ∷ rest
  at_output = behind image (at + 3 + 2) (0xB0 ∷ c.mask ∷ []) _ at_mask

  end_is : at + 3 + 2 + 2 + 2 ≡ at + 9
  end_is = omega arith

  pub at_end : drop (at + 9) image ≡ rest
  at_end = rw end_is at (behind image (at + 3 + 2 + 2) (0xE6 ∷ c.port ∷ []) _ at_output)

  -- the registers behind it: CX is 0, AL the mask
  abbrev pub after : List ℕ
  after = with_byte (set r 1 0) 0 c.mask

  pub still_eight : length after ≡ 8
  still_eight = length-set (set r 1 0) 0 _ ∙ length-set r 1 0 ∙ eight

  delay_step : step_of image (machine r at) ≡ shown E.Goes (set r 1 (suc k)) (at + 3)
  unfolding performed
  delay_step =
      rw (← is)
      (fetched image (move_delay c.delay) at _ _ (Some (A.MoveWord 1 c.delay)) (omega arith) refl (delay_is c.delay at s.delay_fits) (delay_does c.delay s.delay_fits) at_delay r)

  loop_step : (r : List ℕ) → step_of image (machine r (at + 3)) ≡ performed (Some (A.Loop (at + 3))) (at + 3 + 2) (machine r (at + 3))
  loop_step r = fetched image (loop_to (at + 3)) (at + 3) _ _ (Some (A.Loop (at + 3))) (omega arith) refl (loop_is (at + 3)) (loop_does (at + 3) (omega arith)) at_loop r

  mask_step : step_of image (machine (set r 1 0) (at + 3 + 2)) ≡ shown E.Goes after (at + 3 + 2 + 2)
  unfolding performed
  mask_step =
      fetched image (move_mask c.mask) (at + 3 + 2) _ _ (Some (A.MoveByte 0 c.mask)) (omega arith) refl (mask_is c.mask (at + 3 + 2) s.mask_fits) (mask_does c.mask s.mask_fits) at_mask (set r 1 0)

  al_is : get_or after 0 0 % 256 ≡ c.mask
  al_is =
      let l : 0 < length (set r 1 0) = rw (length-set r 1 0, eight) (omega arith) in
      let m = s.mask_fits in
      rw (get_or-set_same (set r 1 0) 0 (get_or (set r 1 0) 0 0 / 256 * 256 + c.mask) 0 l) (omega arith)

  output_step : step_of image (machine after (at + 3 + 2 + 2)) ≡ shown (E.Outputs c.port c.mask) after (at + 9)
  unfolding performed
  output_step =
      fetched image (output c.port) (at + 3 + 2 + 2) _ _ (Some (A.Output c.port)) (omega arith) refl (output_is c.port (at + 3 + 2 + 2) s.port_fits) (output_does c.port s.port_fits) at_output after
      ∙ rw (al_is, end_is) refl

  -- delay + 3 steps
  pub cue_runs : (b n : ℕ) (log : List ℕ) → length log + 2 ≤ room
      → ran image room (c.delay + 3 + b) n (machine r at) log ≡ ran image room b (n + (c.delay + 3)) (machine after (at + 9)) (log ++ (c.port ∷ c.mask ∷ []))
  cue_runs b n log l =
      let e : c.delay + 3 + b ≡ suc (suc k + suc (suc b)) = omega arith in
      let f : n + (c.delay + 3) ≡ suc (suc (suc n + suc k)) = omega arith in
      let d = s.delay_fits in
      rw (e, f)
      (goes image room (machine r at) (machine (set r 1 (suc k)) (at + 3)) delay_step (suc k + suc (suc b)) n log
      ∙ loops image room (at + 3) loop_step r (omega arith) k (omega arith) (suc (suc b)) (suc n) log
      ∙ goes image room (machine (set r 1 0) (at + 3 + 2)) (machine after (at + 3 + 2 + 2)) mask_step (suc b) (suc n + suc k) log
      ∙ outputs image room (machine after (at + 3 + 2 + 2)) (machine after (at + 9)) c.port c.mask output_step b (suc (suc n + suc k)) log l)

-- ---- all cues
either-false : (a b : Bool) → either a b ≡ false → (a ≡ false) × (b ≡ false)
either-false true b e = let z : ◌≡◌ {A = ℕ} 0 1 = cc in absurd (omega arith)
either-false false b e = (refl, e)

without : (c : Cue) (cs : List Cue) → some_without (c ∷ cs) ≡ false → (eqb c.delay 0 ≡ false) × (some_without cs ≡ false)
unfolding some_without
without c cs e = either-false (eqb c.delay 0) (some_without cs) e

below : (n : ℕ) → (n ≡ 0 → ⊥) → (k : ℕ) × (n ≡ suc k)
below zero h = absurd (h refl)
below (suc k) h = (k, refl)

module _ (image : List ℕ) (room : ℕ) where
  pub cues_run : (cs : List Cue) → Sounds cs → some_without cs ≡ false → (at : ℕ) → at + 9 * length cs + 1 < 65536 → (t : List ℕ)
      → drop at image ≡ assembled at (program cs) ++ t → (r : List ℕ) → length r ≡ 8 → (b n : ℕ) (log : List ℕ) → length log + room_of cs ≤ room
      → ran image room (budget_of cs + b) n (machine r at) log ≡ halted (n + budget_of cs) (log ++ pairs_of cs)
  unfolding program delays pairs_of performed assembled is_repeat
  cues_run [] none z at h t e r eight b n log l =
      let i : drop at image ≡ (0xF4 ∷ []) ++ t = e ∙ ap (λ (l : List ℕ). l ++ t) (next_is (λ at. halt) [] at _ (halt_is at)) in
      let q : 0 + 1 + b ≡ suc b = omega arith in
      let f : n + (0 + 1) ≡ suc n = omega arith in
      rw (q, f, append-nil log)
      (halts image room (machine r at) (machine r (at + 1)) (fetched image halt at (0xF4 ∷ []) t (Some A.Halt) (omega arith) refl (halt_is at) halt_does i r) b n log)
  cues_run (c ∷ cs) (more s ss) z at h t e r eight b n log l =
      let y = without c cs z in
      let (k, is) = below c.delay (eqb-false c.delay 0 y.0) in
      let g : at + 9 < 65536 = omega arith in
      let m : length (log ++ (c.port ∷ c.mask ∷ [])) + room_of cs ≤ room = rw (length-append log (c.port ∷ c.mask ∷ [])) (omega arith) in
      let q : c.delay + 3 + delays cs + 1 + b ≡ c.delay + 3 + (budget_of cs + b) = omega arith in
      let f : n + (c.delay + 3 + delays cs + 1) ≡ n + (c.delay + 3) + budget_of cs = omega arith in
      let p : log ++ (c.port ∷ c.mask ∷ pairs_of cs) ≡ (log ++ (c.port ∷ c.mask ∷ [])) ++ pairs_of cs = sym (append_assoc log (c.port ∷ c.mask ∷ []) (pairs_of cs)) in
      rw (q, f, p)
      (cue_runs image room c s k is cs at g t e r eight (budget_of cs + b) n log (omega arith)
      ∙ cues_run cs ss y.1 (at + 9) (omega arith) t (at_end image room c s k is cs at g t e r eight) (after image room c s k is cs at g t e r eight) (still_eight image room c s k is cs at g t e r eight) b (n + (c.delay + 3)) (log ++ (c.port ∷ c.mask ∷ [])) m)

-- ---- a list that compiles
pairs_length : (cs : List Cue) → length (pairs_of cs) ≡ room_of cs
unfolding pairs_of
pairs_length [] = refl
pairs_length (c ∷ cs) = let e = pairs_length cs in omega arith

delays_at_most : (cs : List Cue) → Sounds cs → delays cs ≤ 65538 * length cs
unfolding delays
delays_at_most [] none = omega arith
delays_at_most (c ∷ cs) (more s ss) = let e = delays_at_most cs ss in let d = s.delay_fits in omega arith

record Accepted (s : List ℕ) (n : ℕ) : Type 0 where
  few : length s ≤ 800
  delayed : some_without (cues_in s) ≡ false
  long : n ≡ length (image_of (cues_in s))

shut : {e : CueError} {n : ℕ} → Err e ≡ Ok n → ⊥
shut q = let z : ◌≡◌ {A = ℕ} 0 1 = cc in omega arith

accepted : (s : List ℕ) (size n : ℕ) → compiled s size ≡ Ok n → Accepted s n
unfolding compiled
accepted s size n q = go (eqb (length s % 4) 0) (leb (length s) 800) (some_without (cues_in s)) (leb (length (image_of (cues_in s))) size) refl refl q
  where
    go : (a b c d : Bool) → leb (length s) 800 ≡ b → some_without (cues_in s) ≡ c
        → pick (both a b) (pick c (Err CE.NoDelay) (pick d (Ok (length (image_of (cues_in s)))) (Err CE.ImageTooShort))) (Err CE.WrongLength) ≡ Ok n
        → Accepted s n
    go true true false true x y q = record { few = leb-true (length s) 800 x; delayed = y; long = cc }
    go true true false false x y q = absurd (shut q)
    go true true true d x y q = absurd (shut q)
    go true false c d x y q = absurd (shut q)
    go false b c d x y q = absurd (shut q)

module _ (s : List ℕ) (bs : Bytes s) (image : List ℕ) (n : ℕ) (q : compiled s (length image) ≡ Ok n) where
  abbrev cs : List Cue
  cs = cues_in s

  few_cues : length cs ≤ 200
  few_cues = let e = four_each s in let f = (accepted s (length image) n q).few in omega arith

  -- what is in reach of the run begins with the program
  in_reach_lem : in_reach (image_after s image) ≡ image_of cs ++ take (65536 - length (image_of cs)) (drop n image)
  in_reach_lem =
      let l = length_is cs (all_sound s bs) 0 in
      let f = few_cues in
      let e : 65536 ≡ length (image_of cs) + (65536 - length (image_of cs)) = omega arith in
      rw q (ap (λ (k : ℕ). take k (image_of cs ++ drop n image)) e ∙ take-append-add (image_of cs) (drop n image) (65536 - length (image_of cs)))

  runs : (budget room : ℕ) → budget_of cs ≤ budget → room_of cs ≤ room → ending (image_after s image) budget room ≡ halted (budget_of cs) (pairs_of cs)
  runs budget room h l =
      let f = few_cues in
      let e : budget ≡ budget_of cs + (budget - budget_of cs) = omega arith in
      let z : 0 + budget_of cs ≡ budget_of cs = omega arith in
      rw (in_reach_lem, e)
      (cues_run (image_of cs ++ take (65536 - length (image_of cs)) (drop n image)) room cs (all_sound s bs) (accepted s (length image) n q).delayed 0 (omega arith)
      (take (65536 - length (image_of cs)) (drop n image)) refl (0 ∷ 0 ∷ 0 ∷ 0 ∷ 0 ∷ 0 ∷ 0 ∷ 0 ∷ []) refl (budget - budget_of cs) 0 [] (omega arith)
      ∙ ap (λ (k : ℕ). halted k (pairs_of cs)) z)

  pub relied : Relied (cues_in s) (image_after s image)
  relied =
      record {
        halts_on_last = λ log l. rw (runs (budget_of cs) (length log) (omega arith) (omega arith), pairs_length cs) refl;
        logged = λ log l. rw (runs (budget_of cs) (length log) (omega arith) (omega arith), drop_of_length-le log {i = length (pairs_of cs)} (let e = pairs_length cs in omega arith), append-nil (pairs_of cs)) refl;
        no_later = runs;
        small = let d = delays_at_most cs (all_sound s bs) in let f = few_cues in omega arith;
      }
