-- What encode_shortest writes has at most seven bytes.
-- Assumes nothing.
use mathlib.Core.Path.{◌≡◌, refl}
use Prim.Native.Nat.{ℕ, ◌<◌}
use native.Mathlib.Omega.{arith}
use Rattle.mrc_compiler.specs.declared.encoder.InstructionData.{InstructionData}
use Rattle.encode_spec.specs.Answer.{Answer, bytes, refused, answer}
use Rattle.encode_spec.proofs.Accepted.{accepted_reads}
use Rattle.encoder.proofs.Laws.{Short}
use Rattle.shortest_encoder.specs.Shortest.{instead, shortest, shortest_answer}
use Rattle.shortest_encoder.proofs.Shortest.{accepted_shortest}

pub short_answer : (insn : InstructionData) (off : ℕ) → off < 65536 → Short (shortest_answer insn off)
unfolding shortest_answer
short_answer insn off h = go (answer insn off) refl
  where
    go : (a : Answer) → answer insn off ≡ a → Short (instead a (shortest insn off))
    go (refused e) q = tt
    go (bytes bs) q =
        let r = accepted_reads insn off h bs q in
        let n = (accepted_shortest insn off h bs q).1.none_shorter bs r.are_bytes r.reads_it in
        omega (arith, r.short)
