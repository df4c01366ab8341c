-- The grounds as the code finds them, of a record that is accepted and of one that is refused. Nobody has to believe it: proofs/Grounds shows that they are those of Text.
-- Definitions only.
use Rattle.std.specs.Prelude.{ℕ, List, []}
use Rattle.encode_spec.specs.Records.{dst, src}
use Rattle.encode_form.specs.ByBytes.{written_in, question_by}
use Rattle.show_file.specs.declared.LoadError.{LoadError}
use Rattle.show_file.specs.declared.LoadError.TheVariants as E
use Rattle.show_file.specs.Show.{insn_at}
use Rattle.text_form.specs.Lines.{form_line, question_line}

-- of record k with the bytes bs
unfoldable pub form_at : List ℕ → ℕ → List ℕ → List ℕ
form_at file k bs = let insn = insn_at file k in form_line (written_in bs insn) (dst insn) (src insn)

abbrev pub question_of : List ℕ → LoadError → List ℕ
question_of file E.NoMark = []
question_of file E.WrongVersion = []
question_of file E.WrongLength = []
question_of file (E.UnknownCode k) = []
question_of file (E.Record k e) = question_line (question_by e (insn_at file k))
