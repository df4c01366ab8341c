use mathlib.Core.Path.{◌≡◌, ◌∙◌}
use Prim.Native.Nat.{◌<◌, ◌-◌}
use native.Mathlib.Omega.{arith}
use native.Mathlib.Numerals.{add-one}
use lib.ListN.{length, length-set}
use lib.Seq.{take_all}
use borrow.Author.Rules.{rules}
use Rattle.base_values.proofs.Copies.{copied_more}
use Rattle.fast_run.specs.Packed.{unpacked}
use Rattle.fast_run.proofs.Laws.{unpacked-length, byte_at}
use Rattle.fast_run.proofs.write_packed.Goals as goal

pub bounds-out-i : goal.bounds-out-i
bounds-out-i c = omega (arith, unpacked-length c.args.packed)

pub loop-i-preserved : goal.loop-i-preserved
loop-i-preserved c =
    let at = c.loop-i in
    let inv = at.invariant in
    let a = c.args in
    let p = a.packed in
    let n = c.length_of-n.ensures in
    let few : at.i < length (unpacked p) = omega arith in (
      search rules,
      rw (add-one, inv.1),
      simp length-set inv.2,
      rw (inv.3, inv.1, add-one, ← (byte_at p at.i few)) (copied_more (unpacked p) a.out.now at.i few (omega (arith, inv.2, unpacked-length p))),
    )

pub returns : goal.returns
returns c =
    let at = c.loop-i in
    let p = c.args.packed in
    let done : at.i ≡ length (unpacked p) = omega (arith, c.length_of-n.ensures) in
    at.invariant.3 ∙ rw (done, take_all (length (unpacked p)) (unpacked p) (omega arith))
