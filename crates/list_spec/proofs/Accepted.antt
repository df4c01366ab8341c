-- Demand 3: for every record that the encoder accepts at an offset, its listing holds exactly the strings that read as its instruction, in
-- order, the encoder's own among them, at most twelve.
-- Assumes nothing.
use mathlib.Core.Path.{◌≡◌}
use mathlib.Core.List.{List}
use Prim.Native.Nat.{ℕ, ◌<◌}
use Rattle.mrc_compiler.specs.declared.encoder.InstructionData.{InstructionData}
use Rattle.encode_spec.specs.Meaning.{meaning}
use Rattle.encode_spec.specs.Answer.{bytes, answer}
use Rattle.encode_spec.proofs.Accepted.{accepted_reads}
use Rattle.list_spec.specs.Demand3.{Lists}
use Rattle.list_spec.proofs.Exact.{listing_is, few}

pub accepted_lists : (insn : InstructionData) (off : ℕ) → off < 65536 → (bs : List ℕ) → answer insn off ≡ bytes bs → Lists insn off bs
accepted_lists insn off h bs e =
    let l = listing_is off (meaning insn) h in
    let r = accepted_reads insn off h bs e in
    record { exact = l; own = l.none_missing bs r.are_bytes r.some r.short r.reads_it; few = few off (meaning insn) }
