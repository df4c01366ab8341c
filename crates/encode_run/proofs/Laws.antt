-- Laws of runs: what is emitted run by run is what is appended as a list.
-- Assumes nothing.
use mathlib.Core.Path.{◌≡◌, refl}
use mathlib.Core.List.{List, [], ◌∷◌, ◌++◌}
use Prim.Native.Nat.{ℕ}
use Rattle.encode_run.specs.declared.ByteRun.{ByteRun}
use Rattle.encode_run.specs.Run.{pushed, appended}

pub appended-append : (run : ByteRun) (xs ys : List ℕ) → appended run (xs ++ ys) ≡ appended (appended run xs) ys
appended-append run [] ys = refl
appended-append run (x ∷ xs) ys = appended-append (pushed run x) xs ys
