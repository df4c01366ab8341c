use native.Mathlib.Omega.{arith}
use borrow.Author.Rules.{rules}
use lib.IntN.{pos}
use mir.Syntax.{w32}
use mir.ValLaws.{to_z-of_z}
use Rattle.base_values.specs.Distances.{distance_of}
use Rattle.encode_spec.specs.Layout.{word_of}
use Rattle.encode_fields.specs.Fields.{relative_word}
use Rattle.encode_fields.proofs.Laws.{in_limits, out_of_limits}
use Rattle.std.proofs.lemmas.Result.{err_from_is_err_and}
use Rattle.encode_fields.proofs.relative_word.Goals as goal

pub returns-in_err-require_within : goal.returns-in_err-require_within
unfolding relative_word
returns-in_err-require_within c =
    let o = c.args.oper in
    let p = err_from_is_err_and c.from_residual.result c.from_residual.ensures.1 in
    let q = out_of_limits (pos 0) (pos 65535) o.imm _ (record { sfits = omega arith }) (record { sfits = omega arith }) (search rules) c.require_within.ensures (word_of (distance_of o.imm c.args.offset 3)) (c.in_err-require_within.was) in rw (p.1, p.2, q)

pub returns : goal.returns
unfolding relative_word
returns c =
    let o = c.args.oper in
    let q = in_limits (pos 0) (pos 65535) o.imm _ (record { sfits = omega arith }) (record { sfits = omega arith }) (search rules) c.require_within.ensures (word_of (distance_of o.imm c.args.offset 3)) (c.in_ok-require_within.was) in
    rw (q, c.value_field.ensures, c.near_distance.ensures, to_z-of_z w32 o.imm (search rules))
