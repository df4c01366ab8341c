use mathlib.Core.Path.{sym, ◌∙◌}
use mir.Val.{SFits}
use mir.Syntax.{w32}
use mir.ValLaws.{to_z-of_z}
use Rattle.encode_fields.proofs.Laws.{relative_short, relative_far}
use borrow.Author.Rules.{rules}
use Rattle.encode_fields.proofs.relative_byte.Goals as goal

pub returns-in-Ok : goal.returns-in-Ok
returns-in-Ok c =
    let a = c.args in
    let e = to_z-of_z w32 a.oper.imm (search rules) in
    rw (relative_short a.oper a.offset a.size (sym (rw e at c.relative_byte.ensures) ∙ c.in-Ok.is), c.value_field.ensures)

pub returns-in-Err : goal.returns-in-Err
returns-in-Err c =
    let a = c.args in
    let e = to_z-of_z w32 a.oper.imm (search rules) in
    let f : SFits w32 c.in-Err.distance = search rules in
    rw (relative_far a.oper a.offset a.size (sym (rw e at c.relative_byte.ensures) ∙ c.in-Err.is), to_z-of_z w32 c.in-Err.distance f)
