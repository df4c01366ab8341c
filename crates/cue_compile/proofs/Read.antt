-- The image of a list of cues that compiles reads, instruction by instruction, as four a cue and HLT.
-- Assumes nothing.
use Rattle.std.specs.Prelude.{Err, Ok, Result, ℕ}
use mathlib.Core.Path.{◌≡◌, refl, sym, ap, subst}
use mathlib.Core.Bool.{Bool, true, false}
use mathlib.Core.List.{List, [], ◌∷◌, ◌++◌, append_assoc}
use Prim.Native.Nat.{ℕ, ◌+◌, ◌*◌, ◌<◌, ◌≤◌}
use native.Mathlib.Omega.{arith}
use lib.Dec.{leb}
use lib.ListN.{length, drop}
use lib.Seq.{drop-append_seam}
use borrow.Author.Tests.{leb-true}
use Rattle.mrc_compiler.specs.declared.encoder.InstructionData.{InstructionData}
use Rattle.mrc_compiler.specs.Choose.{pick}
use Rattle.x86.specs.Listing.{Bytes}
use Rattle.x86.specs.Reading.{is_repeat}
use Rattle.x86.proofs.Extend.{is_repeat_alone, whole_stays}
use Rattle.encode_spec.specs.Meaning.{meaning}
use Rattle.encode_spec.specs.Answer.{bytes, answer}
use Rattle.encode_spec.proofs.Accepted.{accepted_reads}
use Rattle.cue_compile.specs.declared.Cue.{Cue}
use Rattle.cue_compile.specs.declared.CueError.{CueError}
use Rattle.cue_compile.specs.declared.CueError.TheVariants as E
use Rattle.cue_compile.specs.Cues.{cues_in, is_cue_list, some_without}
use Rattle.cue_compile.specs.Program.{move_delay, loop_to, move_mask, output, halt, program, assembled, image_of}
use Rattle.cue_compile.specs.Compiling.{compiled, placed, image_after}
use Rattle.cue_compile.specs.Read.{ReadAs}
use Rattle.cue_compile.proofs.Bytes.{Sounds, none, more, delay_is, loop_is, mask_is, output_is, halt_is, next_is, all_sound}
use Rattle.cue_compile.proofs.Laws.{four_each, list_whole}

-- ---- one record, by the encoder's promise and that what stands behind is not looked at
one_reads : (r : ℕ → InstructionData) (rs : List (ℕ → InstructionData)) (at : ℕ) → at < 65536 → (bs : List ℕ) → is_repeat_alone bs ≡ false → answer (r at) at ≡ bytes bs → (t : List ℕ)
    → ReadAs (at + length bs) rs (assembled (at + length bs) rs ++ t) → ReadAs at (r ∷ rs) (assembled at (r ∷ rs) ++ t)
one_reads r rs at h bs alone e t rest =
    let a = accepted_reads (r at) at h bs e in
    let s : assembled at (r ∷ rs) ++ t ≡ bs ++ (assembled (at + length bs) rs ++ t) =
    rw (next_is r rs at bs e) (append_assoc bs (assembled (at + length bs) rs) t) in
    let d : drop (length bs) (bs ++ (assembled (at + length bs) rs ++ t)) ≡ assembled (at + length bs) rs ++ t = drop-append_seam bs (assembled (at + length bs) rs ++ t) in
    rw s (length bs, whole_stays at bs (assembled (at + length bs) rs ++ t) (meaning (r at)) (length bs) alone a.reads_it, rw d rest)

-- ---- all of them
program_reads : (cs : List Cue) → Sounds cs → (at : ℕ) → at + (9 * length cs + 1) ≤ 65536 → (t : List ℕ) → ReadAs at (program cs) (assembled at (program cs) ++ t)
unfolding program is_repeat
program_reads [] none at h t = one_reads (λ at. halt) [] at (omega arith) (0xF4 ∷ []) refl (halt_is at) t tt
program_reads (c ∷ cs) (more s ss) at h t =
    let move : ℕ → InstructionData = λ at. move_mask c.mask in
    let out : ℕ → InstructionData = λ at. output c.port in
    one_reads (λ at. move_delay c.delay) ((λ at. loop_to at) ∷ move ∷ out ∷ program cs) at (omega arith) _ refl (delay_is c.delay at s.delay_fits) t
    (one_reads (λ at. loop_to at) (move ∷ out ∷ program cs) (at + 3) (omega arith) _ refl (loop_is (at + 3)) t
    (one_reads move (out ∷ program cs) (at + 3 + 2) (omega arith) _ refl (mask_is c.mask (at + 3 + 2) s.mask_fits) t
    (one_reads out (program cs) (at + 3 + 2 + 2) (omega arith) _ refl (output_is c.port (at + 3 + 2 + 2) s.port_fits) t
    (program_reads cs ss (at + 3 + 2 + 2 + 2) (omega arith) t))))

-- ---- a list that compiles
module _ (s image : List ℕ) (b : Bytes s) where
  few : is_cue_list s ≡ true → 9 * length (cues_in s) + 1 ≤ 65536
  few t = let w = list_whole s t in let f = four_each s in omega arith

  is_list : (n size : ℕ) → compiled s size ≡ Ok n → is_cue_list s ≡ true
  unfolding compiled
  is_list n size = go (is_cue_list s) (pick (some_without (cues_in s)) (Err E.NoDelay) (pick (leb (length (image_of (cues_in s))) size) (Ok (length (image_of (cues_in s)))) (Err E.ImageTooShort)))
    where
      go : (l : Bool) (c : Result ℕ CueError) → pick l c (Err E.WrongLength) ≡ Ok n → l ≡ true
      go true c q = refl
      go false c q = let z : ◌≡◌ {A = ℕ} 0 1 = cc in absurd (omega arith)

  pub image_reads : (n : ℕ) → compiled s (length image) ≡ Ok n → ReadAs 0 (program (cues_in s)) (image_after s image)
  image_reads n q =
      let h = few (is_list n (length image) q) in
      subst (ReadAs 0 (program (cues_in s))) (sym (ap (λ (c : Result ℕ CueError). placed s image c) q)) (program_reads (cues_in s) (all_sound s b) 0 (omega arith) (drop n image))

-- ---- a program fits where a length is answered
pub compiled_fits : (s : List ℕ) (size n : ℕ) → compiled s size ≡ Ok n → n ≤ size
unfolding compiled
compiled_fits s size n = go (is_cue_list s) (some_without (cues_in s)) (leb (length (image_of (cues_in s))) size) refl
  where
    go : (l w f : Bool) → leb (length (image_of (cues_in s))) size ≡ f
        → pick l (pick w (Err E.NoDelay) (pick f (Ok (length (image_of (cues_in s)))) (Err E.ImageTooShort))) (Err E.WrongLength) ≡ Ok n → n ≤ size
    go true false true h q = let e : length (image_of (cues_in s)) ≡ n = cc in let l = leb-true (length (image_of (cues_in s))) size h in omega arith
    go true false false h q = let z : ◌≡◌ {A = ℕ} 0 1 = cc in absurd (omega arith)
    go true true f h q = let z : ◌≡◌ {A = ℕ} 0 1 = cc in absurd (omega arith)
    go false w f h q = let z : ◌≡◌ {A = ℕ} 0 1 = cc in absurd (omega arith)
