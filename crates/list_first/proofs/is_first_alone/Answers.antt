use mathlib.Core.Path.{sym, ◌∙◌}
use borrow.Author.Rules.{rules}
use Rattle.list_first.specs.First.{first_alone}
use borrow.Author.Rules.{rules}
use Rattle.list_first.proofs.is_first_alone.Goals as goal

pub has_modrm-requires : goal.has_modrm-requires
unfolding first_alone
has_modrm-requires c = search rules

pub is_least_by_modrm-requires : goal.is_least_by_modrm-requires
unfolding first_alone
is_least_by_modrm-requires c = search rules

pub is_least_displacement-requires : goal.is_least_displacement-requires
unfolding first_alone
is_least_displacement-requires c = search rules

pub returns-then-is_least_by_modrm : goal.returns-then-is_least_by_modrm
unfolding first_alone
returns-then-is_least_by_modrm c = rw (sym c.has_modrm.ensures ∙ c.if-has_modrm.true, sym c.is_least_by_modrm.ensures ∙ c.if-is_least_by_modrm.true) c.is_least_displacement.ensures

pub returns-then-has_modrm : goal.returns-then-has_modrm
unfolding first_alone
returns-then-has_modrm c = rw (sym c.has_modrm.ensures ∙ c.if-has_modrm.true, sym c.is_least_by_modrm.ensures ∙ c.if-is_least_by_modrm.false)

pub is_least_alone-requires : goal.is_least_alone-requires
unfolding first_alone
is_least_alone-requires c = search rules

pub returns : goal.returns
unfolding first_alone
returns c = rw (sym c.has_modrm.ensures ∙ c.if-has_modrm.false) c.is_least_alone.ensures
