use mir.Syntax.{w32}
use mir.ValLaws.{to_z-of_z}
use Rattle.encode_spec.specs.Layout.{byte_of}
use Rattle.encode_fields.specs.Fields.{immediate_byte}
use Rattle.encode_fields.proofs.Laws.{in_limits, out_of_limits}
use Rattle.std.proofs.lemmas.Result.{err_from_is_err_and}
use Rattle.encode_fields.proofs.byte_within.Goals as goal

pub returns-in_err-require_within : goal.returns-in_err-require_within
unfolding immediate_byte
returns-in_err-require_within c =
    let p = err_from_is_err_and c.from_residual.result c.from_residual.ensures.1 in
    let q = out_of_limits _ _ _ _ c.ranges.low c.ranges.high c.ranges.value c.require_within.ensures (byte_of c.args.value) (c.in_err-require_within.was) in rw (p.1, p.2, q)

pub returns : goal.returns
unfolding immediate_byte
returns c =
    let q = in_limits _ _ _ _ c.ranges.low c.ranges.high c.ranges.value c.require_within.ensures (byte_of c.args.value) (c.in_ok-require_within.was) in
    rw (q, c.value_field.ensures, c.low_byte.ensures, to_z-of_z w32 c.args.value c.ranges.value)
