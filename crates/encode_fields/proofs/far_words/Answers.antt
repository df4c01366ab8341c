use native.Mathlib.Omega.{arith}
use borrow.Author.Rules.{rules}
use lib.IntN.{pos}
use mir.Syntax.{w32}
use mir.ValLaws.{to_z-of_z}
use Rattle.encode_spec.specs.Layout.{word_of}
use Rattle.encode_fields.specs.Fields.{immediate_word}
use Rattle.encode_fields.proofs.Laws.{in_limits, out_of_limits}
use Rattle.std.proofs.lemmas.Result.{err_from_is_err_and}
use Rattle.encode_fields.proofs.far_words.Goals as goal

pub returns-in_err-require_within : goal.returns-in_err-require_within
unfolding immediate_word
returns-in_err-require_within c =
    let o = c.args.oper in
    let p = err_from_is_err_and c.from_residual.result c.from_residual.ensures.1 in
    let q = out_of_limits (pos 0) (pos 65535) o.imm _ (record { sfits = omega arith }) (record { sfits = omega arith }) (search rules) c.require_within.ensures (word_of o.imm) c.in_err-require_within.was in
    rw (p.1, p.2, q)

pub returns-in_err-require_within-2 : goal.returns-in_err-require_within-2
unfolding immediate_word
returns-in_err-require_within-2 c =
    let o = c.args.oper in
    let p = err_from_is_err_and c.from_residual-in_err-require_within-2.result c.from_residual-in_err-require_within-2.ensures.1 in
    let q = in_limits (pos 0) (pos 65535) o.imm _ (record { sfits = omega arith }) (record { sfits = omega arith }) (search rules) c.require_within.ensures (word_of o.imm) c.in_ok-require_within.was in
    let r = out_of_limits (pos 0) (pos 65535) o.displacement _ (record { sfits = omega arith }) (record { sfits = omega arith }) (search rules) c.require_within-2.ensures (word_of o.displacement) c.in_err-require_within-2.was in
    rw (p.1, p.2, q, r)

pub returns : goal.returns
unfolding immediate_word
returns c =
    let o = c.args.oper in
    let q = in_limits (pos 0) (pos 65535) o.imm _ (record { sfits = omega arith }) (record { sfits = omega arith }) (search rules) c.require_within.ensures (word_of o.imm) c.in_ok-require_within.was in
    let r = in_limits (pos 0) (pos 65535) o.displacement _ (record { sfits = omega arith }) (record { sfits = omega arith }) (search rules) c.require_within-2.ensures (word_of o.displacement) c.in_ok-require_within-2.was in
    rw (q, r, c.low_word.ensures, c.low_word-2.ensures, to_z-of_z w32 o.imm (search rules), to_z-of_z w32 o.displacement (search rules))
