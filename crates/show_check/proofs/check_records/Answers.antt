use Rattle.std.proofs.Common.{sym, refl, ap, ◌∙◌}
use Rattle.show_load.specs.Loading.{walk}
use Rattle.show_check.specs.Placed.{is_image}
use Rattle.show_check.proofs.Laws.{checked_image, handed_on}
use Rattle.show_check.proofs.check_records.Goals as goal

pub returns-in_err-size : goal.returns-in_err-size
returns-in_err-size c = handed_on _ _ c.from_residual.ensures.1 ∙ rw (sym c.place_records.ensures.value ∙ c.in_err-size.was) refl

pub returns : goal.returns
returns c =
    let a = c.args in
    let q = c.in_ok-size.was in
    c.check_targets.ensures ∙ checked_image a.file.now a.header _ (walk a.file.now a.header.origin a.header.count) _ _ (sym c.place_records.ensures.value ∙ q) (c.place_records.ensures.table (ap is_image q))
