-- What list answers, from the code's steps.
-- Assumes nothing.
use Rattle.std.specs.Prelude.{Ok, Err}
use mathlib.Core.Path.{◌≡◌, refl, sym, ◌∙◌, ap, subst}
use Prim.Native.Nat.{ℕ, ◌*◌, ◌≤◌, ◌<◌}
use native.Mathlib.Omega.{arith}
use mathlib.Core.List.{List, ◌++◌}
use lib.ListN.{length, take, drop}
use borrow.Author.Tests.{le-leb, lt-leb}
use Rattle.std.specs.Prelude.{Result, Ok, Err}
use Rattle.mrc_compiler.specs.declared.encoder.EncodeError.{EncodeError}
use Rattle.mrc_compiler.specs.declared.encoder.EncodeError.TheVariants as E
use Rattle.mrc_compiler.specs.declared.encoder.InstructionData.{InstructionData}
use Rattle.x86.specs.declared.Instruction.{Instruction}
use Rattle.x86.specs.declared.ReadError.{ReadError}
use Rattle.x86.specs.Reading.{Read, reads}
use Rattle.encode_spec.specs.Answer.{bytes, refused, answer}
use Rattle.encode_spec.proofs.Accepted.{accepted_reads}
use Rattle.encode_run.specs.declared.ByteRun.{ByteRun}
use Rattle.encode_run.specs.Run.{empty_run, appended}
use Rattle.encode_codes.specs.Emit.{emitted}
use Rattle.encoder.proofs.Laws.{refused_by, bytes_by}
use Rattle.list_spec.specs.Entries.{entries, listing}
use Rattle.lister.specs.Listing.{listing_of, listed, outcome, slice_after}
use Rattle.lister.proofs.Runs.{Holds, holds}

module _ (insn : InstructionData) (off : ℕ) (h : off < 65536) (done : Result ByteRun EncodeError) (e : done ≡ emitted empty_run (answer insn off)) where
  pub is_refused : (x : EncodeError) → done ≡ Err x → answer insn off ≡ refused x
  is_refused x q = refused_by done (answer insn off) e q

  module _ {run : ByteRun} (q : done ≡ Ok run) where
    pub accepted : (bs : List ℕ) × (answer insn off ≡ bytes bs) × (run ≡ appended empty_run bs)
    accepted = bytes_by done q (answer insn off) e

    pub held : Holds run accepted.0
    held = subst (λ (r : ByteRun). Holds r accepted.0) (sym accepted.2) (holds accepted.0 (accepted_reads insn off h accepted.0 accepted.1).short)

    -- the run has at most seven bytes
    pub short : run.len ≤ 7
    short = omega (arith, held.length_is, (accepted_reads insn off h accepted.0 accepted.1).short)

    -- and reads as the record's instruction
    own_listing : listing_of (reads off (take run.len run.bytes)) off ≡ listed insn off
    own_listing =
        ap (λ (s : List ℕ). listing_of (reads off s) off) held.bytes_are
        ∙ ap (λ (r : Read). listing_of r off) (accepted_reads insn off h accepted.0 accepted.1).reads_it

    module _ (s : List ℕ) where
      pub too_short : length s < 96
          → (Err (E.SliceTooShort insn.opers_span) ≡ outcome (answer insn off) insn off s) × (s ≡ slice_after (answer insn off) insn off s)
      too_short l = (rw (accepted.1, lt-leb 96 (length s) l) refl, rw (accepted.1, lt-leb 96 (length s) l) refl)

      pub listed_all : 96 ≤ length s → (n : ℕ) (t : List ℕ) → n ≡ length (listing_of (reads off (take run.len run.bytes)) off)
          → t ≡ entries (listing_of (reads off (take run.len run.bytes)) off)
          ++ drop (8 * length (listing_of (reads off (take run.len run.bytes)) off)) s
          → (Ok n ≡ outcome (answer insn off) insn off s) × (t ≡ slice_after (answer insn off) insn off s)
      listed_all l n t en et =
          let o = own_listing in (
            rw (accepted.1, le-leb 96 (length s) l) (ap Ok (en ∙ ap length o)),
            rw (accepted.1, le-leb 96 (length s) l) (et ∙ ap (λ (l : List (List ℕ)). entries l ++ drop (8 * length l) s) o),
          )

-- ---- the listing of what some bytes b read as, at the front of s
module _ (off : ℕ) (b s : List ℕ) (r : Read) (e : r ≡ reads off b) where
  pub read_whole : (m : Instruction) (k n : ℕ) (t : List ℕ) → r ≡ Ok (m, k) → (n ≡ length (listing off m)) × (t ≡ entries (listing off m) ++ drop (8 * length (listing off m)) s)
      → (n ≡ length (listing_of (reads off b) off)) × (t ≡ entries (listing_of (reads off b) off) ++ drop (8 * length (listing_of (reads off b) off)) s)
  read_whole m k n t q w = rw (sym e ∙ q) w

  pub read_refused : (why : ReadError) → r ≡ Err why → (0 ≡ length (listing_of (reads off b) off)) × (s ≡ entries (listing_of (reads off b) off) ++ drop (8 * length (listing_of (reads off b) off)) s)
  unfolding entries
  read_refused why q = rw (sym e ∙ q) (refl, refl)
