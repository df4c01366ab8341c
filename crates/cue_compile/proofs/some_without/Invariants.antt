use Rattle.std.specs.Prelude.{◌≡◌}
use Rattle.std.specs.Slice.Iter.{chunks_exact_rest, chunks_exact_size}
use Rattle.cue_compile.specs.Cues.{cues_in, some_without}
use Rattle.cue_compile.proofs.some_without.Given as goal

abbrev pub invariant-loop-bytes : goal.invariant-loop-bytes
invariant-loop-bytes l = record { four : chunks_exact_size l.bytes-iterator ≡ 4; same : some_without (cues_in l.cues) ≡ some_without (cues_in (chunks_exact_rest l.bytes-iterator)) }
