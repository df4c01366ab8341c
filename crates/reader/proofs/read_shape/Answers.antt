use mathlib.Core.Path.{sym, ◌∙◌}
use Rattle.read_table.specs.Rows.{found_at}
use Rattle.read_table.proofs.Agree.{settles, tests}
use Rattle.reader.specs.ByRow.{read_shape, decoded_shape}
use borrow.Author.Rules.{rules}
use Rattle.reader.proofs.read_shape.Goals as goal

pub about-a-requires : goal.about-a-requires
unfolding decoded_shape read_shape found_at
about-a-requires c = search rules

pub about-b-requires : goal.about-b-requires
unfolding decoded_shape read_shape found_at
about-b-requires c = search rules

pub found_at-requires : goal.found_at-requires
unfolding decoded_shape read_shape found_at
found_at-requires c = search rules

pub read_form-requires : goal.read_form-requires
unfolding decoded_shape read_shape found_at
read_form-requires c = (settles c.args.head.opcode c.args.head.second _ (search rules) (rw c.requires at (rw (c.about-a.ensures, c.about-b.ensures) at (sym c.found_at.ensures ∙ c.in-Some.is))), rw c.requires (tests c.args.head.opcode c.args.head.second _ (search rules) (rw c.requires at (rw (c.about-a.ensures, c.about-b.ensures) at (sym c.found_at.ensures ∙ c.in-Some.is)))), c.about-a.ensures, c.about-b.ensures)

pub returns-in-None : goal.returns-in-None
unfolding decoded_shape read_shape found_at
returns-in-None c = rw (rw (c.about-a.ensures, c.about-b.ensures) at (sym c.found_at.ensures ∙ c.in-None.is))

pub returns-in-Some : goal.returns-in-Some
unfolding decoded_shape read_shape found_at
returns-in-Some c = rw (rw (c.about-a.ensures, c.about-b.ensures) at (sym c.found_at.ensures ∙ c.in-Some.is)) c.read_form.ensures
