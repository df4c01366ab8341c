use native.Mathlib.Omega.{arith}
use Rattle.fast_forms.proofs.Laws.{one}
use Rattle.fast_encoder.proofs.Laws.{repeated}
use Rattle.fast_encoder.proofs.repeat_run.Goals as goal

pub returns-then-row-lt77988 : goal.returns-then-row-lt77988
returns-then-row-lt77988 c = λ h. absurd (omega arith)

pub returns-then-row-gt77999 : goal.returns-then-row-gt77999
returns-then-row-gt77999 c = λ h. absurd (omega arith)

pub returns-then-repeat-lt242 : goal.returns-then-repeat-lt242
returns-then-repeat-lt242 c = λ h. absurd (omega arith)

pub returns-then-repeat-gt243 : goal.returns-then-repeat-gt243
returns-then-repeat-gt243 c = λ h. absurd (omega arith)

pub bare_run-requires : goal.bare_run-requires
bare_run-requires c = one _ (omega arith)

pub returns : goal.returns
returns c =
    λ h. let a = c.args in
    let row = c.row_of-row in
    repeated a.code a.repeat row.result _ row.ensures c.if-row-lt77988.false c.if-row-gt77999.false c.if-repeat-lt242.false c.if-repeat-gt243.false c.bare_run.ensures
