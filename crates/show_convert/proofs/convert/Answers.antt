use mathlib.Core.Path.{sym, ◌∙◌}
use Rattle.convert_laws.proofs.Shown.{shown_is}
use Rattle.show_convert.proofs.Answers.{handed_on, not_opened, opened_as}
use Rattle.show_convert.proofs.convert.Goals as goal

pub returns-in_err-header : goal.returns-in_err-header
returns-in_err-header c =
    let a = c.args in
    let it = not_opened a.file.now a.out.now _ (sym c.shown.ensures ∙ c.in_err-header.was) in record { value = handed_on _ _ c.from_residual.ensures.1 ∙ it.0; out_after = it.1 }

pub convert_show-requires : goal.convert_show-requires
convert_show-requires c = shown_is c.args.file.now _ (sym c.shown.ensures ∙ c.in_ok-header.was)

pub returns : goal.returns
returns c =
    let a = c.args in
    let q = sym c.shown.ensures ∙ c.in_ok-header.was in
    let w = c.convert_show.ensures in
    let it = opened_as a.file.now a.out.now _ q (shown_is a.file.now _ q).its_header _ _ w.value w.out_after in record { value = it.0; out_after = it.1 }
