-- A run of bytes and what an emitter makes of it (REFERENCE 4).
-- Definitions only.
use Rattle.std.specs.Prelude.{ℕ, ◌+◌, List, [], ◌∷◌, ltb, set}
use Rattle.mrc_compiler.specs.Choose.{pick}
use Rattle.encode_run.specs.declared.ByteRun.{ByteRun}

abbrev pub empty_run : ByteRun
empty_run = record { bytes = 0 ∷ 0 ∷ 0 ∷ 0 ∷ 0 ∷ 0 ∷ 0 ∷ []; len = 0 }

-- one byte more. A full run drops it: no answer has more than seven bytes (answers, Accepted)
abbrev pub pushed : ByteRun → ℕ → ByteRun
pushed run b = pick (ltb run.len 7) (record { bytes = set run.bytes run.len b; len = run.len + 1 }) run

-- these bytes, one after the other
abbrev pub appended : ByteRun → List ℕ → ByteRun
appended run [] = run
appended run (b ∷ bs) = appended (pushed run b) bs
