use mathlib.Core.Path.{◌∙◌, ap}
use lib.IntN.{ℤ, pos}
use mir.Syntax.{w32}
use mir.Val.{SFits}
use mir.ValLaws.{to_z-of_z}
use Rattle.mrc_compiler.specs.Values.{within}
use borrow.Author.Rules.{rules}
use Rattle.convert_record.proofs.count_taken.Goals as goal

pub returns : goal.returns
returns c =
    let f : SFits w32 c.count_of.result = search rules in
    rw (to_z-of_z w32 c.count_of.result f) at c.value_is_within.ensures ∙ ap (λ (z : ℤ). within (pos 1) (pos 31) z) c.count_of.ensures
