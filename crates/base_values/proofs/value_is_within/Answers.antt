use Rattle.std.proofs.Common.{w32}
use mir.ValLaws.{to_z-of_z}
use Rattle.base_values.proofs.value_is_within.Goals as goal

pub returns-then-low-value : goal.returns-then-low-value
returns-then-low-value c =
    let a = c.args in
    let f = c.ranges in
    let l = to_z-of_z w32 a.low f.low in
    let h = to_z-of_z w32 a.high f.high in
    let v = to_z-of_z w32 a.value f.value in
    simp (h, v, rw (l, v) at c.if-low-value.true)

pub returns-else-low-value : goal.returns-else-low-value
returns-else-low-value c =
    let a = c.args in
    let f = c.ranges in
    let l = to_z-of_z w32 a.low f.low in
    let v = to_z-of_z w32 a.value f.value in
    simp (l, v, rw (l, v) at c.if-low-value.false)
