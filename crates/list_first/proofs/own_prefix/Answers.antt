use mathlib.Core.Path.{sym, ◌∙◌}
use borrow.Author.Rules.{rules}
use Rattle.list_first.specs.First.{own_prefix}
use Rattle.list_first.proofs.own_prefix.Goals as goal

pub has_modrm-requires : goal.has_modrm-requires
unfolding own_prefix
has_modrm-requires c = search rules

pub is_in_stack-requires : goal.is_in_stack-requires
unfolding own_prefix
is_in_stack-requires c = search rules

pub returns-then-is_in_stack : goal.returns-then-is_in_stack
unfolding own_prefix
returns-then-is_in_stack c = rw (sym c.has_modrm.ensures ∙ c.if-has_modrm.true, sym c.is_in_stack.ensures ∙ c.if-is_in_stack.true)

pub returns-then-has_modrm : goal.returns-then-has_modrm
unfolding own_prefix
returns-then-has_modrm c = rw (sym c.has_modrm.ensures ∙ c.if-has_modrm.true, sym c.is_in_stack.ensures ∙ c.if-is_in_stack.false)

pub returns : goal.returns
unfolding own_prefix
returns c = rw (sym c.has_modrm.ensures ∙ c.if-has_modrm.false)
