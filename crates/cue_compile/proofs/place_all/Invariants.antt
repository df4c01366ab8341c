use Rattle.std.specs.Prelude.{◌≡◌}
use Rattle.std.specs.Slice.Iter.{chunks_exact_rest, chunks_exact_size}
use Rattle.cue_compile.proofs.Laws.{Building}
use Rattle.cue_compile.proofs.place_all.Given as goal

abbrev pub invariant-loop-bytes : goal.invariant-loop-bytes
invariant-loop-bytes l = record { four : chunks_exact_size l.bytes-iterator ≡ 4; building : Building l.cues l.initial.image (chunks_exact_rest l.bytes-iterator) l.at l.image }
