use Rattle.std.specs.Prelude.{Err}
use mathlib.Core.Path.{◌∙◌, ap}
use Rattle.show_load.proofs.Refused.{refused_at}
use Rattle.show_text.proofs.push_question_of.Goals as goal

pub push_question_at-requires : goal.push_question_at-requires
push_question_at-requires c =
    let b = c in
    let r = refused_at _ c.args.file.now _ _ (c.requires ∙ ap Err c.in-Record.is) in
    rw c.record_count-n.ensures (r.exact.its_length, r.exact.its_count, r.stops.below)

pub returns-in-Record : goal.returns-in-Record
returns-in-Record c = rw (c.if-forms.true, c.in-Record.is) c.push_question_at.ensures
