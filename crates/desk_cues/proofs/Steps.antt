-- One step of a run, and the step at a record that the encoder accepted: by the encoder's promise its bytes read as the record's instruction.
-- Assumes nothing.
use Rattle.std.specs.Prelude.{Ok, Option, Some}
use mathlib.Core.Path.{◌≡◌, refl, sym, ap, ◌∙◌}
use mathlib.Core.Bool.{false}
use mathlib.Core.List.{List, [], ◌∷◌, ◌++◌}
use Prim.Native.Nat.{ℕ, zero, suc, ◌+◌, ◌%◌, ◌<◌, ◌≤◌}
use native.Mathlib.Omega.{arith}
use lib.ListN.{length, drop, set, get_or}
use lib.Seq.{drop-drop, drop-append_seam, set-set, get_or-set_same}
use borrow.Author.Tests.{le-leb, ne_eqb}
use Rattle.mrc_compiler.specs.declared.encoder.InstructionData.{InstructionData}
use Rattle.mrc_compiler.specs.Operations.{number_of}
use Rattle.x86.specs.Instructions.{canonical}
use Rattle.x86.specs.Reading.{reads}
use Rattle.x86.proofs.Extend.{is_repeat_alone, whole_stays}
use Rattle.encode_groups.specs.Grouping.{grouped_of}
use Rattle.encode_spec.specs.Meaning.{meaning, meant}
use Rattle.encode_spec.specs.Operands.{counted}
use Rattle.encode_spec.specs.Answer.{bytes, answer}
use Rattle.encode_spec.proofs.Accepted.{accepted_reads}
use Rattle.cue_compile.specs.Program.{move_delay, loop_to, move_mask, output, halt}
use Rattle.desk_step.specs.declared.Machine.{Machine}
use Rattle.desk_step.specs.declared.Action.{Action}
use Rattle.desk_step.specs.declared.Action.TheVariants as A
use Rattle.desk_step.specs.declared.Effect.TheVariants as E
use Rattle.desk_step.specs.Step.{machine, shown, action_of, performed, step_of, less1}
use Rattle.desk_run.specs.Running.{halted, ran}

-- ---- what the records have the machine do
pub delay_does : (d : ℕ) → d < 65536 → action_of (meaning (move_delay d)) ≡ Some (A.MoveWord 1 d)
unfolding action_of meant counted canonical grouped_of number_of
delay_does d h = let e : d % 65536 ≡ d = omega arith in rw e

pub loop_does : (at : ℕ) → at < 65536 → action_of (meaning (loop_to at)) ≡ Some (A.Loop at)
unfolding action_of meant counted canonical grouped_of number_of
loop_does at h = let e : at % 65536 ≡ at = omega arith in rw e

pub mask_does : (m : ℕ) → m < 256 → action_of (meaning (move_mask m)) ≡ Some (A.MoveByte 0 m)
unfolding action_of meant counted canonical grouped_of number_of
mask_does m h = let e : m % 256 ≡ m = omega arith in rw (e, e)

pub output_does : (p : ℕ) → p < 256 → action_of (meaning (output p)) ≡ Some (A.Output p)
unfolding action_of meant counted canonical grouped_of number_of
output_does p h = let e : p % 256 ≡ p = omega arith in rw (e, e)

pub halt_does : action_of (meaning halt) ≡ Some A.Halt
unfolding action_of meant counted canonical grouped_of number_of
halt_does = refl

module _ (image : List ℕ) where
  -- what stands behind bytes that stand at an offset
  pub behind : (at : ℕ) (bs t : List ℕ) → drop at image ≡ bs ++ t → drop (at + length bs) image ≡ t
  behind at bs t e = sym (drop-drop (length bs) at image) ∙ ap (λ (l : List ℕ). drop (length bs) l) e ∙ drop-append_seam bs t

  -- a record that is accepted at IP is what the step carries out
  pub fetched : (insn : InstructionData) (at : ℕ) (bs t : List ℕ) (a : Option Action) → at + length bs < 65536 → is_repeat_alone bs ≡ false → answer insn at ≡ bytes bs
      → action_of (meaning insn) ≡ a → drop at image ≡ bs ++ t → (r : List ℕ)
      → step_of image (machine r at) ≡ performed a (at + length bs) (machine r at)
  unfolding step_of
  fetched insn at bs t a h alone q d e r =
      let w : reads at (bs ++ t) ≡ Ok (meaning insn, length bs) = whole_stays at bs t (meaning insn) (length bs) alone (accepted_reads insn at (omega arith) bs q).reads_it in
      let m : (at + length bs) % 65536 ≡ at + length bs = omega arith in
      rw (e, w, d, m) refl

  module _ (room : ℕ) where
    -- ---- a run, one step on
    pub goes : (m m' : Machine) → step_of image m ≡ record { effect = E.Goes; machine = m' } → (b n : ℕ) (log : List ℕ)
        → ran image room (suc b) n m log ≡ ran image room b (suc n) m' log
    unfolding ran
    goes m m' e b n log = rw e

    pub outputs : (m m' : Machine) (p v : ℕ) → step_of image m ≡ record { effect = E.Outputs p v; machine = m' } → (b n : ℕ) (log : List ℕ) → length log + 2 ≤ room
        → ran image room (suc b) n m log ≡ ran image room b (suc n) m' (log ++ (p ∷ v ∷ []))
    unfolding ran
    outputs m m' p v e b n log h = rw (e, le-leb (length log + 2) room h)

    pub halts : (m m' : Machine) → step_of image m ≡ record { effect = E.Halts; machine = m' } → (b n : ℕ) (log : List ℕ)
        → ran image room (suc b) n m log ≡ halted (suc n) log
    unfolding ran
    halts m m' e b n log = rw e

    -- ---- LOOP to itself at q: as many steps as CX says
    module _ (q : ℕ) (is_loop : (r : List ℕ) → step_of image (machine r q) ≡ performed (Some (A.Loop q)) (q + 2) (machine r q)) (r : List ℕ) (h : 1 < length r) where
      round : (k : ℕ) → suc k < 65536 → less1 (get_or (set r 1 (suc k)) 1 0) ≡ k
      round k l = rw (get_or-set_same r 1 (suc k) 0 h) (omega arith)

      last_round : step_of image (machine (set r 1 1) q) ≡ shown E.Goes (set r 1 0) (q + 2)
      unfolding performed
      last_round = is_loop (set r 1 1) ∙ rw (round 0 (omega arith), set-set r 1 1 0) refl

      next_round : (k : ℕ) → suc (suc k) < 65536 → step_of image (machine (set r 1 (suc (suc k))) q) ≡ shown E.Goes (set r 1 (suc k)) q
      unfolding performed
      next_round k l =
          is_loop (set r 1 (suc (suc k))) ∙ rw (round (suc k) l, set-set r 1 (suc (suc k)) (suc k), ne_eqb (suc k) 0 (λ e. omega arith)) refl

      pub loops : (k : ℕ) → suc k < 65536 → (b n : ℕ) (log : List ℕ)
          → ran image room (suc k + b) n (machine (set r 1 (suc k)) q) log ≡ ran image room b (n + suc k) (machine (set r 1 0) (q + 2)) log
      loops zero l b n log =
          let e : 1 + b ≡ suc b = omega arith in
          let f : n + 1 ≡ suc n = omega arith in
          rw (e, f) (goes (machine (set r 1 1) q) (machine (set r 1 0) (q + 2)) last_round b n log)
      loops (suc k) l b n log =
          let e : suc (suc k) + b ≡ suc (suc k + b) = omega arith in
          let f : n + suc (suc k) ≡ suc n + suc k = omega arith in
          rw (e, f)
          (goes (machine (set r 1 (suc (suc k))) q) (machine (set r 1 (suc k)) q) (next_round k l) (suc k + b) n log ∙ loops k (omega arith) b (suc n) log)
