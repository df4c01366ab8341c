use Rattle.std.proofs.Common.{◌≡◌, Some, ap, ◌∙◌}
use Rattle.convert_spec.specs.declared.Branch.TheVariants as B
use mir.Syntax.{w32}
use mir.ValLaws.{to_z-of_z}
use Rattle.convert_record.proofs.Laws.{sum_read, word_read}
use Rattle.convert_record.proofs.moved_by.Goals as goal

pub returns-in-None : goal.returns-in-None
returns-in-None c = rw c.in-None.is (to_z-of_z w32 c.args.target c.ranges.target)

pub returns-in-Some-Short : goal.returns-in-Some-Short
returns-in-Some-Short c =
    let is_some : c.args.branch ≡ Some c.in-Some-Short.field-0 = c.in-Some-Short.is in
    let e : c.args.branch ≡ Some B.Short = is_some ∙ ap Some (rw is_some at c.in-Some-Short.field-0-is) in
    rw e (sum_read c.args.target c.args.gain c.ranges.target (c.requires.0 e) c.requires.1)

pub returns-in-Some-Near : goal.returns-in-Some-Near
returns-in-Some-Near c =
    let is_some : c.args.branch ≡ Some c.in-Some-Near.field-0 = c.in-Some-Near.is in
    let e : c.args.branch ≡ Some B.Near = is_some ∙ ap Some (rw is_some at c.in-Some-Near.field-0-is) in
    let z = to_z-of_z w32 c.args.target c.ranges.target in
    rw e (word_read c.args.target c.low_word.result c.args.gain (rw z at c.low_word.ensures))
