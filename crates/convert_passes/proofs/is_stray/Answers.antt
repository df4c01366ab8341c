use Rattle.std.proofs.Common.{◌≡◌, Bool, true, false, not, is_some, sym, ◌∙◌, ap, refl}
use Rattle.mrc_compiler.specs.Choose.{isnt}
use Rattle.convert_spec.specs.Targets.{is_branch, is_stray}
use Rattle.convert_passes.proofs.Laws.{branch_some, none_past}
use Rattle.convert_passes.proofs.is_stray.Goals as goal

pub returns-then-is_some : goal.returns-then-is_some
unfolding is_stray
returns-then-is_some c =
    let b = sym (ap is_branch c.branch_of.ensures) ∙ (sym (branch_some c.branch_of.result) ∙ (sym c.is_some.ensures ∙ c.if-is_some.true)) in
    rw b (is_none_of c.is_none.result c.is_none.ensures ∙ none_past c.place_of.result c.args.n _ c.place_of.ensures.value c.place_of.ensures.there)
  where
    is_none_of : (r : Bool) → is_some c.place_of.result ≡ not r → r ≡ isnt (is_some c.place_of.result)
    is_none_of true e = rw e refl
    is_none_of false e = rw e refl

pub returns-else-is_some : goal.returns-else-is_some
unfolding is_stray
returns-else-is_some c =
    let b = sym (ap is_branch c.branch_of.ensures) ∙ (sym (branch_some c.branch_of.result) ∙ (sym c.is_some.ensures ∙ c.if-is_some.false)) in
    rw b c.if-is_some.false
