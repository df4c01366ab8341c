-- Both encoders refuse the same records, with the same refusal, wherever the slice holds 7 bytes; 9 is by the length of what each would write.
-- Assumes nothing.
use Rattle.std.specs.Prelude.{Err, Ok}
use mathlib.Core.Path.{◌≡◌, refl}
use mathlib.Core.List.{List}
use Prim.Native.Nat.{ℕ, ◌≤◌, ◌<◌}
use native.Mathlib.Omega.{arith}
use lib.ListN.{length}
use borrow.Author.Tests.{le-leb, lt-leb}
use Rattle.mrc_compiler.specs.declared.encoder.EncodeError.{EncodeError}
use Rattle.mrc_compiler.specs.declared.encoder.EncodeError.TheVariants as E
use Rattle.mrc_compiler.specs.declared.encoder.InstructionData.{InstructionData}
use Rattle.encode_spec.specs.Answer.{Answer, bytes, refused, answer, outcome, slice_after}
use Rattle.encode_spec.proofs.Accepted.{accepted_reads}
use Rattle.shortest_encoder.specs.Shortest.{shortest, shortest_answer}
use Rattle.shortest_encoder.proofs.Shortest.{accepted_shortest}

module _ (insn : InstructionData) (off : ℕ) (h : off < 65536) (s : List ℕ) where
  -- what is refused by questions 1 to 7, whatever the slice
  pub as_encode : (e : EncodeError) → answer insn off ≡ refused e
      → (outcome (shortest_answer insn off) insn.opers_span s ≡ Err e) × (slice_after (shortest_answer insn off) s ≡ s)
  unfolding shortest_answer
  as_encode e q = (rw q refl, rw q refl)

  -- 9, exactly where the slice is shorter than the shortest string
  module _ (bs : List ℕ) (q : answer insn off ≡ bytes bs) where
    pub too_short : length s < length (shortest insn off)
        → (outcome (shortest_answer insn off) insn.opers_span s ≡ Err (E.SliceTooShort insn.opers_span)) × (slice_after (shortest_answer insn off) s ≡ s)
    unfolding shortest_answer
    too_short l = (rw (q, lt-leb (length (shortest insn off)) (length s) l) refl, rw (q, lt-leb (length (shortest insn off)) (length s) l) refl)

    pub long_enough : length (shortest insn off) ≤ length s → outcome (shortest_answer insn off) insn.opers_span s ≡ Ok (length (shortest insn off))
    unfolding shortest_answer
    long_enough l = rw (q, le-leb (length (shortest insn off)) (length s) l) refl

    -- it is not longer than encode's
    pub not_longer : length (shortest insn off) ≤ length bs
    not_longer = let r = accepted_reads insn off h bs q in (accepted_shortest insn off h bs q).1.none_shorter bs r.are_bytes r.reads_it

  -- the same refusals, where the slice holds 7 bytes
  pub same_refusal : 7 ≤ length s → (e : EncodeError)
      → (outcome (answer insn off) insn.opers_span s ≡ Err e → outcome (shortest_answer insn off) insn.opers_span s ≡ Err e)
      × (outcome (shortest_answer insn off) insn.opers_span s ≡ Err e → outcome (answer insn off) insn.opers_span s ≡ Err e)
  same_refusal k e = go (answer insn off) refl
    where
      go : (a : Answer) → answer insn off ≡ a
          → (outcome (answer insn off) insn.opers_span s ≡ Err e → outcome (shortest_answer insn off) insn.opers_span s ≡ Err e)
          × (outcome (shortest_answer insn off) insn.opers_span s ≡ Err e → outcome (answer insn off) insn.opers_span s ≡ Err e)
      go (refused x) q =
          let a = (as_encode x q).0 in
          let b : outcome (answer insn off) insn.opers_span s ≡ Err x = rw q refl in
          (λ z. cc, λ z. cc)
      go (bytes bs) q =
          let r = accepted_reads insn off h bs q in
          let n = not_longer bs q in
          let a = long_enough bs q (omega (arith, r.short)) in
          let b : outcome (answer insn off) insn.opers_span s ≡ Ok (length bs) = rw (q, le-leb (length bs) (length s) (omega (arith, r.short))) refl in
          (λ z. let y : ◌≡◌ {A = ℕ} 0 1 = cc in absurd (omega arith), λ z. let y : ◌≡◌ {A = ℕ} 0 1 = cc in absurd (omega arith))
