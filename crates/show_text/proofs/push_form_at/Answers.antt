use Rattle.show_text.specs.Forms.{form_at}
use Rattle.show_text.proofs.push_form_at.Goals as goal

pub returns-then-forms : goal.returns-then-forms
unfolding form_at
returns-then-forms c = rw c.if-forms.true (rw (c.written_in-written.ensures, c.insn_at-insn.ensures) at c.push_form.ensures)
