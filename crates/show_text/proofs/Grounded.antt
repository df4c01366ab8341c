-- The text with forms tells the true ground of every record.
-- Assumes nothing.
use Rattle.std.specs.Prelude.{Err, Ok}
use mathlib.Core.Path.{◌≡◌, refl, ◌∙◌, subst}
use mathlib.Core.Bool.{true}
use mathlib.Core.List.{List}
use Prim.Native.Nat.{ℕ, ◌<◌}
use native.Mathlib.Omega.{arith}
use Rattle.mrc_compiler.specs.declared.encoder.EncodeError.{EncodeError}
use Rattle.encode_form.specs.declared.Ground.{Ground}
use Rattle.encode_form.specs.declared.Ground.TheVariants as G
use Rattle.encode_form.specs.Ground.{ground}
use Rattle.encode_form.specs.ByBytes.{written_in, question_by}
use Rattle.encode_form.specs.Grounds.{Grounded}
use Rattle.encode_form.proofs.Found.{form_of_list, question_of_refusal}
use Rattle.encode_form.proofs.Grounds.{grounded}
use Rattle.show_file.specs.declared.Header.{Header}
use Rattle.show_file.specs.declared.LoadError.TheVariants as E
use Rattle.show_file.specs.Show.{header, insn_at}
use Rattle.show_load.specs.Loading.{accepted}
use Rattle.show_load.proofs.Laws.{accepted_image, answered_all}
use Rattle.show_load.proofs.Demand2.{upto}
use Rattle.show_load.proofs.Refused.{refused_at}
use Rattle.show_text.specs.Text.{ground_at, record_text, text_records}
use Rattle.show_text.specs.Grounded.{offset_of, SaysQuestion, SaysForm}
use Rattle.show_text.proofs.Shown.{text_is}

-- the ground of record k
its_ground : (file : List ℕ) (origin k : ℕ) (g : Ground) → ground (insn_at file k) (offset_of file origin k) ≡ g → Grounded (insn_at file k) (offset_of file origin k) g
its_ground file origin k g e =
    subst (Grounded (insn_at file k) (offset_of file origin k)) e (grounded (insn_at file k) (offset_of file origin k) (omega arith))

pub says_question : (file : List ℕ) (k : ℕ) (e : EncodeError) → accepted text_records file ≡ Err (E.Record k e) → SaysQuestion file k e
unfolding ground_at
says_question file k e q =
    let g = question_of_refusal (insn_at file k) (offset_of file (header file).origin k) (omega arith) e (refused_at text_records file k e q).stops.refuses in
    record {
      number = question_by e (insn_at file k);
      prints = text_is true file (Err (E.Record k e)) q ∙ rw g refl;
      refuses = its_ground file (header file).origin k (G.Question (question_by e (insn_at file k))) g;
    }

pub says_form : (file : List ℕ) (h : Header) (n : ℕ) → accepted text_records file ≡ Ok (h, n) → (k : ℕ) → k < h.count → SaysForm file h.origin k
unfolding record_text ground_at
says_form file h n q k below =
    let x = accepted_image text_records file h n q in
    let (bs, a) = answered_all file h.origin k _ (upto file h.origin h.count x.all_in k (omega arith)) h.count x.all_in below in
    let g = form_of_list (insn_at file k) (offset_of file h.origin k) (omega arith) bs a in
    let w = written_in bs (insn_at file k) in
    record { written = w; prints = rw g refl; writes = its_ground file h.origin k (G.Form w) g }
