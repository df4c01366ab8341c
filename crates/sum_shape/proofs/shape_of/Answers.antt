use Rattle.std.proofs.Common.{ℕ, List, get_or, sym, ap, ◌∙◌, arith, add-one, drop-cons}
use lib.ListN.{drop_of_length-le}
use Rattle.sum_spec.specs.Reading.{token_of}
use Rattle.sum_shape.specs.Pass.{kind_of, pass_end, pass_over}
use Rattle.sum_shape.proofs.Same.{same}
use Rattle.sum_shape.proofs.Bytes.{by_depth}
use Rattle.sum_shape.proofs.shape_of.Goals as goal

pub loop-c-preserved : goal.loop-c-preserved
loop-c-preserved c =
    let text = c.args.text.now in
    let i = c.loop-c.c-index in
    let pass = c.loop-c.pass in
    let deeper = by_depth pass.stand pass.depth pass.deepest (kind_of (token_of (get_or text i 0))) in (
      rw c.step-pass.ensures (omega (arith, deeper)),
      rw (c.step-pass.ensures, add-one) (rw (drop-cons text i 0 c.loop-c-test.true) at c.loop-c.invariant.1),
    )

pub returns : goal.returns
returns c =
    let text = c.args.text.now in
    let over = ap (λ (l : List ℕ). pass_end (pass_over c.loop-c.pass l)) (sym (drop_of_length-le text {i = c.loop-c.c-index} c.loop-c-test.false)) in
    c.finish.ensures ∙ over ∙ ap pass_end c.loop-c.invariant.1 ∙ same text
