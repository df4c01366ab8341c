-- The step over a record by what run_at gives.
-- Assumes nothing.
use Rattle.std.proofs.Common.{◌≡◌, ℕ, ◌<◌, List, refl}
use Rattle.std.specs.Prelude.{Result, Ok, Err}
use Rattle.mrc_compiler.specs.declared.encoder.EncodeError.{EncodeError}
use Rattle.encode_spec.specs.Answer.{Answer, bytes, refused}
use Rattle.encode_run.specs.Run.{empty_run}
use Rattle.encode_run.specs.declared.ByteRun.{ByteRun}
use Rattle.encode_codes.specs.Emit.{emitted}
use Rattle.show_load.specs.Loading.{stopped, answer_at, walk}
use Rattle.show_load.proofs.Laws.{Upto, Step, step_bytes, step_stops}

module _ (file : List ℕ) (origin k at : ℕ) (u : Upto file origin k at) (d : Result ByteRun EncodeError) (hd : d ≡ emitted empty_run (answer_at file origin k at)) where
  pub step_none : {run : ByteRun} → d ≡ Ok run → Step file origin k at
  step_none q = go (answer_at file origin k at) refl
    where
      go : (a : Answer) → answer_at file origin k at ≡ a → Step file origin k at
      go (bytes cs) e = step_bytes file origin k at u cs e
      go (refused x) e = let r = rw (hd, e) at q in cc

  pub step_refused : (x : EncodeError) → d ≡ Err x → (n : ℕ) → k < n → walk file origin n ≡ stopped k x
  step_refused x q n h = go (answer_at file origin k at) refl
    where
      go : (a : Answer) → answer_at file origin k at ≡ a → walk file origin n ≡ stopped k x
      go (bytes cs) e = let r = rw (hd, e) at q in cc
      go (refused y) e = let r = rw (hd, e) at q in let same : y ≡ x = cc in step_stops file origin k at u x (rw same at e) n h
