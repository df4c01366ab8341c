use Rattle.show_file.specs.Show.{insn_at}
use Rattle.convert_spec.specs.Counts.{times}
use Prim.Native.Nat.{◌-◌}
use mathlib.Core.Path.{◌≡◌, refl, ◌∙◌, ap}
use native.Mathlib.Omega.{arith}
use Rattle.convert_spec.specs.OldStarts.{first_copy}
use Rattle.convert_laws.proofs.Ranges.{times_within}
use Rattle.convert_passes.proofs.Laws.{copies_next}
use Rattle.convert_passes.proofs.total.Goals as goal

pub loop-k-init : goal.loop-k-init
unfolding first_copy
loop-k-init c = (refl, omega arith)

pub overflow_add-sum : goal.overflow_add-sum
overflow_add-sum c =
    let b = c in
    let o = c.loop-k in
    let t = times_within (insn_at c.args.file.now o.k) (c.requires.2.counted o.k c.loop-k-test.true) in
    let e : c.times_of-sum.result ≡ times (insn_at c.args.file.now o.k) = c.times_of-sum.ensures ∙ ap times c.insn_at.ensures in
    omega arith

pub loop-k-preserved : goal.loop-k-preserved
loop-k-preserved c =
    let b = c in
    let o = c.loop-k in
    let t = times_within (insn_at c.args.file.now o.k) (c.requires.2.counted o.k c.loop-k-test.true) in
    let e : c.times_of-sum.result ≡ times (insn_at c.args.file.now o.k) = c.times_of-sum.ensures ∙ ap times c.insn_at.ensures in
    (rw (e, o.invariant.0) (copies_next c.args.file.now o.k), omega arith)

pub returns : goal.returns
returns c =
    let e : c.loop-k.k ≡ c.args.n = omega arith in
    rw (← e) c.loop-k.invariant.0
