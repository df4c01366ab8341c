use Rattle.convert_passes.proofs.Laws.{high_only}
use mathlib.Core.Path.{sym, ◌∙◌}
use borrow.Author.Tests.{le-leb, lt-leb}
use Rattle.show_file.specs.Show.{u16_at}
use Rattle.convert_spec.specs.Converting.{is_other_version}
use Rattle.convert_passes.proofs.Laws.{other_low}
use Rattle.convert_passes.proofs.is_other_version.Goals as goal

pub returns-then-file-lt-HEADER_LENGTH : goal.returns-then-file-lt-HEADER_LENGTH
unfolding is_other_version
returns-then-file-lt-HEADER_LENGTH c = rw (sym c.has_mark.ensures ∙ c.if-has_mark.true, lt-leb 9 _ c.if-file-lt-HEADER_LENGTH.true)

pub returns-then-byte_at-ne1 : goal.returns-then-byte_at-ne1
unfolding is_other_version u16_at
returns-then-byte_at-ne1 c = rw (sym c.has_mark.ensures ∙ c.if-has_mark.true, le-leb 9 _ c.if-file-lt-HEADER_LENGTH.false, other_low _ _ (rw c.byte_at.ensures at c.if-byte_at-ne1.true))

pub returns-else-byte_at-ne1 : goal.returns-else-byte_at-ne1
unfolding is_other_version u16_at
returns-else-byte_at-ne1 c =
    rw (sym c.has_mark.ensures ∙ c.if-has_mark.true, le-leb 9 _ c.if-file-lt-HEADER_LENGTH.false, c.byte_at-then-has_mark.ensures)
    (high_only _ _ (rw c.byte_at.ensures at c.if-byte_at-ne1.false))

pub returns-else-has_mark : goal.returns-else-has_mark
unfolding is_other_version
returns-else-has_mark c = rw (sym c.has_mark.ensures ∙ c.if-has_mark.false)
