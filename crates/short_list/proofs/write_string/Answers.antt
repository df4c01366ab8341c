use native.Mathlib.Omega.{arith}
use Rattle.short_list.proofs.Laws.{line_length, string_holds}
use Rattle.short_list.proofs.write_string.Goals as goal

pub write_line-requires : goal.write_line-requires
write_line-requires c =
    let b = c in
    let h = string_holds c.args.k _ c.line_of.ensures in
    let l = line_length c.args.k in
    let n = h.count in
    (omega arith, rw n c.requires.1)

pub returns : goal.returns
returns c =
    let h = string_holds c.args.k _ c.line_of.ensures in
    let w = c.write_line in
    record { value = rw (← h.count) w.ensures.value; out_after = rw (h.shown, h.count) at w.ensures.out_after }
