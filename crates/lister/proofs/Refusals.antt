-- The lister's refusals (REFERENCE 7): the encoder's own whatever the slice, then 9 with the instruction's span below 96 bytes.
-- Assumes nothing.
use Rattle.std.specs.Prelude.{Err}
use mathlib.Core.Path.{◌≡◌, refl}
use mathlib.Core.List.{List}
use Prim.Native.Nat.{ℕ, ◌<◌}
use lib.ListN.{length}
use borrow.Author.Tests.{lt-leb}
use Rattle.mrc_compiler.specs.declared.encoder.EncodeError.{EncodeError}
use Rattle.mrc_compiler.specs.declared.encoder.EncodeError.TheVariants as E
use Rattle.mrc_compiler.specs.declared.encoder.InstructionData.{InstructionData}
use Rattle.mrc_compiler.specs.Refusals.{none, report, report_of}
use Rattle.encode_spec.specs.Answer.{bytes, refused, answer}
use Rattle.lister.specs.Listing.{outcome}

module _ (insn : InstructionData) (off : ℕ) (s : List ℕ) where
  -- questions 1 to 7 before the slice
  pub as_encode : (e : EncodeError) → answer insn off ≡ refused e → outcome (answer insn off) insn off s ≡ Err e
  as_encode e q = rw q refl

  pub below_96 : (bs : List ℕ) → answer insn off ≡ bytes bs → length s < 96
      → (e : EncodeError) × (outcome (answer insn off) insn off s ≡ Err e) × (report_of e ≡ report 9 insn.opers_span none)
  below_96 bs q l = (E.SliceTooShort insn.opers_span, rw (q, lt-leb 96 (length s) l) refl, refl)
