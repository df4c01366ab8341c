use Rattle.std.specs.Prelude.{◌≡◌, take}
use Rattle.std.specs.Slice.Iter.{chunks_exact_rest, chunks_exact_size}
use Rattle.desk_text.proofs.Laws.{Telling}
use Rattle.desk_text.proofs.write_pairs.Given as goal

abbrev pub invariant-loop-pair : goal.invariant-loop-pair
invariant-loop-pair l = record { two : chunks_exact_size l.pair-iterator ≡ 2; telling : Telling (take l.n l.log) l.initial.out (chunks_exact_rest l.pair-iterator) l.end l.out }
