use Rattle.std.proofs.Common.{◌≡◌, ℤ, Option, Some, None, refl, sym, ◌∙◌}
use Rattle.sum_spec.specs.declared.SumError.TheVariants as E
use Rattle.std.specs.Option.{ok_or}
use Rattle.sum_spec.specs.Sums.{answer_of_value}
use Rattle.sum_evaluate.proofs.Answers.{with_value, too_deep, no_such_text}
use Rattle.sum_evaluate.proofs.evaluate.Goals as goal

answered : (v : Option ℤ) → ok_or v E.OutOfRange ≡ answer_of_value v
answered None = refl
answered (Some x) = refl

pub returns-in_default : goal.returns-in_default
returns-in_default c = no_such_text c.args.text.now (sym c.shape_of.ensures ∙ c.in_default.is)

pub returns-then-depth-gt-MOST_DEPTH : goal.returns-then-depth-gt-MOST_DEPTH
returns-then-depth-gt-MOST_DEPTH c = too_deep c.args.text.now c.in-Some.depth (sym c.shape_of.ensures ∙ c.in-Some.is) c.if-depth-gt-MOST_DEPTH.true

pub returns : goal.returns
returns c =
    let sum = c.sum-value in
    c.ok_or.ensures.value
    ∙ answered sum.result.0
    ∙ with_value c.args.text.now c.in-Some.depth (sym c.shape_of.ensures ∙ c.in-Some.is) c.if-depth-gt-MOST_DEPTH.false sum.result.0 sum.result.1.now sum.ensures.sum_to sum.ensures.ends
