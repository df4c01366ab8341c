-- What the text with forms says of a file's records: proofs/Grounded has it for every file.
-- Definitions only.
use Rattle.std.specs.Prelude.{ℕ, true, List, ◌++◌, ◌≡◌, length}
use Rattle.mrc_compiler.specs.declared.encoder.EncodeError.{EncodeError}
use Rattle.encode_spec.specs.Records.{dst, src}
use Rattle.encode_form.specs.declared.Written.{Written}
use Rattle.encode_form.specs.Grounds.{RefusedBy, WrittenIn}
use Rattle.show_file.specs.declared.LoadError.TheVariants as E
use Rattle.show_file.specs.Show.{header, insn_at}
use Rattle.show_load.specs.Loading.{offset_behind, walk, bytes_in}
use Rattle.text_form.specs.Lines.{form_line, question_line}
use Rattle.show_text.specs.Text.{refused_line, record_line, record_text, text}

-- the offset of record k
abbrev pub offset_of : List ℕ → ℕ → ℕ → ℕ
offset_of file origin k = offset_behind origin (length (bytes_in (walk file origin k)))

-- under the refusal of record k stands the question that refuses it
pub record SaysQuestion (file : List ℕ) (k : ℕ) (e : EncodeError) : Type 0 where
  pub number : ℕ
  pub prints : text true file ≡ refused_line (E.Record k e) ++ question_line number
  pub refuses : RefusedBy (insn_at file k) (offset_of file (header file).origin k) number

-- under the line of record k stands the form by which it is written
pub record SaysForm (file : List ℕ) (origin k : ℕ) : Type 0 where
  pub written : Written
  pub prints : record_text true file origin k ≡ record_line file origin k ++ form_line written (dst (insn_at file k)) (src (insn_at file k))
  pub writes : WrittenIn (insn_at file k) (offset_of file origin k) written
