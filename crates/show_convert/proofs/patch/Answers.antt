use mathlib.Core.Path.{sym, ◌∙◌, ap}
use mir.Syntax.{w32}
use mir.Val.{SFits}
use mir.ValLaws.{to_z-of_z}
use Rattle.convert_spec.specs.Targets.{is_branch}
use borrow.Author.Rules.{rules}
use Rattle.convert_passes.proofs.Laws.{branch_some}
use Rattle.show_convert.proofs.patch.Goals as goal

pub new_imm-requires : goal.new_imm-requires
new_imm-requires c = let p = c.requires in (p.0, p.1, (sym (ap is_branch c.branch_of.ensures) ∙ (sym (branch_some c.branch_of.result) ∙ (sym c.is_some.ensures ∙ c.if-is_some.true))), p.2)

pub returns-then-is_some : goal.returns-then-is_some
returns-then-is_some c =
    let f : SFits w32 c.new_imm.result = search rules in
    rw (sym (ap is_branch c.branch_of.ensures) ∙ (sym (branch_some c.branch_of.result) ∙ (sym c.is_some.ensures ∙ c.if-is_some.true))) (rw (to_z-of_z w32 c.new_imm.result f, c.new_imm.ensures) at c.put_i32.ensures)

pub returns-then-has_count : goal.returns-then-has_count
returns-then-has_count c = rw ((sym (ap is_branch c.branch_of.ensures) ∙ (sym (branch_some c.branch_of.result) ∙ (sym c.is_some.ensures ∙ c.if-is_some.false))), sym c.has_count.ensures ∙ c.if-has_count.true) c.put_i32-then-has_count.ensures

pub returns-else-has_count : goal.returns-else-has_count
returns-else-has_count c = rw ((sym (ap is_branch c.branch_of.ensures) ∙ (sym (branch_some c.branch_of.result) ∙ (sym c.is_some.ensures ∙ c.if-is_some.false))), sym c.has_count.ensures ∙ c.if-has_count.false)
