use native.Mathlib.Numerals.{add-one}
use Rattle.encode_form.proofs.written_in.Goals as goal

pub returns : goal.returns
returns c =
    let s = c.opcode_place-at.ensures.value in
    let g = c.group_of-group.ensures in
    rw (c.limits_of.ensures, c.operands_of.ensures, c.digit_of.ensures, g, s, add-one)
