-- The grounds that the code finds are those of the text: of a record that is accepted its form, of the one that is refused its question.
-- Assumes nothing.
use Rattle.std.specs.Prelude.{Err}
use mathlib.Core.Path.{◌≡◌, refl}
use mathlib.Core.Bool.{true}
use mathlib.Core.List.{List}
use Prim.Native.Nat.{ℕ, ◌<◌}
use native.Mathlib.Omega.{arith}
use Rattle.std.specs.Prelude.{Result, Ok}
use Rattle.mrc_compiler.specs.declared.encoder.EncodeError.{EncodeError}
use Rattle.show_file.specs.declared.LoadError.{LoadError}
use Rattle.show_file.specs.declared.LoadError.TheVariants as E
use Rattle.show_file.specs.Show.{insn_at}
use Rattle.encode_form.proofs.Found.{form_of_run, question_of_refusal}
use Rattle.encode_run.specs.Run.{empty_run, appended}
use Rattle.encode_run.specs.declared.ByteRun.{ByteRun}
use Rattle.encode_codes.specs.Emit.{emitted}
use Rattle.show_load.specs.Loading.{offset_behind, answer_at, walk, is_all, accepted}
use Rattle.show_load.proofs.Laws.{Upto, answered_all}
use Rattle.show_load.proofs.Refused.{refused_at}
use Rattle.show_text.specs.Text.{ground_at, text_records, refused_ground}
use Rattle.show_text.specs.Forms.{form_at, question_of}

pub ground_accepted : (file : List ℕ) (origin k at : ℕ) → Upto file origin k at → (d : Result ByteRun EncodeError) → d ≡ emitted empty_run (answer_at file origin k at) → {run : ByteRun} → d ≡ Ok run
    → (n : ℕ) → is_all (walk file origin n) ≡ true → k < n → ground_at file origin k ≡ form_at file k run.bytes
unfolding ground_at form_at
ground_accepted file origin k at u d hd {run} q n t h =
    let (bs, e) = answered_all file origin k at u n t h in
    let w = rw (hd, e) at q in
    let r : run ≡ appended empty_run bs = cc in
    rw (← u.ends, form_of_run (insn_at file k) (offset_behind origin at) (omega arith) run bs r e) refl

pub ground_refused : (file : List ℕ) (x : LoadError) → accepted text_records file ≡ Err x → refused_ground file x ≡ question_of file x
unfolding ground_at
ground_refused file E.NoMark q = refl
ground_refused file E.WrongVersion q = refl
ground_refused file E.WrongLength q = refl
ground_refused file (E.UnknownCode k) q = refl
ground_refused file (E.Record k e) q = rw (question_of_refusal (insn_at file k) _ (omega arith) e (refused_at text_records file k e q).stops.refuses) refl
