use Rattle.std.proofs.Common.{◌+◌, sym, ◌∙◌, arith, w32, w64, SFits, to_z, of_z, rules}
use mir.ValLaws.{to_z-of_z}
use Rattle.base_values.proofs.Laws.{distance_read, distance_wraps, short_fits}
use Rattle.base_values.proofs.relative_byte.Goals as goal

pub overflow_cast-d : goal.overflow_cast-d
overflow_cast-d c = short_fits (to_z w64 (of_z w64 c.distance-d.result)) (sym c.distance_is_signed_byte.ensures ∙ c.if-distance_is_signed_byte.true)

pub wrap_distance-requires : goal.wrap_distance-requires
wrap_distance-requires c = let it = distance_wraps c.args.target (c.args.offset + c.args.size) c.ranges.target (omega arith) c.distance-d.ensures in record { d_bound = it.0; pos_value = it.1 }

pub returns-then-distance_is_signed_byte : goal.returns-then-distance_is_signed_byte
returns-then-distance_is_signed_byte c =
    let d = distance_read c.args.target (c.args.offset + c.args.size) c.ranges.target (omega arith) c.distance-d.ensures in
    let s = sym c.distance_is_signed_byte.ensures ∙ c.if-distance_is_signed_byte.true in
    let e = to_z-of_z w32 (to_z w64 (of_z w64 c.distance-d.result)) (short_fits _ s) in
    rw (rw d at s, rw (e, d) at c.low_byte.ensures)

pub returns-else-distance_is_signed_byte : goal.returns-else-distance_is_signed_byte
returns-else-distance_is_signed_byte c =
    let d = distance_read c.args.target (c.args.offset + c.args.size) c.ranges.target (omega arith) c.distance-d.ensures in
    let s = sym c.distance_is_signed_byte.ensures ∙ c.if-distance_is_signed_byte.false in
    let f : SFits w32 c.wrap_distance.result = search rules in
    rw (rw d at s, to_z-of_z w32 c.wrap_distance.result f, rw d at c.wrap_distance.ensures)
