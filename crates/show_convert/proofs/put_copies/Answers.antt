use Prim.Native.Nat.{◌-◌, ◌*◌}
use mathlib.Core.Path.{◌≡◌}
use native.Mathlib.Numerals.{add-one}
use native.Mathlib.Omega.{arith}
use Rattle.base_values.proofs.Fronts.{front_start, front_next, lent_length}
use Rattle.convert_spec.specs.Written.{copies}
use Rattle.convert_laws.proofs.Written.{copies_length}
use Rattle.show_convert.proofs.put_copies.Goals as goal

pub loop-made-init : goal.loop-made-init
loop-made-init c = front_start c.args.out.now

pub put-requires : goal.put-requires
put-requires c = let p = c.requires in let o = c.loop-made in let e = o.invariant.same in let l = lent_length o.out (56 * o.made) in omega arith

pub loop-made-preserved : goal.loop-made-preserved
loop-made-preserved c =
    let b = c in
    let o = c.loop-made in
    let r = c.args.rec.now in
    let l = copies_length o.made r c.requires.0 in
    rw (add-one o.made) (front_next (copies o.made r) r c.args.out.now o.out _ (56 * o.made) o.invariant (omega arith) (omega arith) c.put.ensures)

pub returns : goal.returns
returns c =
    let b = c in
    let o = c.loop-made in
    let e : o.made ≡ c.args.times = omega arith in
    let l = copies_length o.made c.args.rec.now c.requires.0 in
    rw (← e, ← l) o.invariant.is
