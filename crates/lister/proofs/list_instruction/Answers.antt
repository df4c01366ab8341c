use mathlib.Core.Path.{◌∙◌}
use mathlib.Core.List.{◌++◌}
use Prim.Native.Nat.{◌<◌, ◌*◌}
use native.Mathlib.Omega.{arith}
use lib.ListN.{length, drop, length-set}
use Rattle.list_entries.proofs.Listed.{entered}
use Rattle.lister.proofs.Runs.{fill_again}
use Rattle.lister.proofs.list_instruction.Goals as goal

pub candidate_key-requires : goal.candidate_key-requires
candidate_key-requires c = c.parts_of-parts.ensures

pub loop-i-preserved : goal.loop-i-preserved
loop-i-preserved c =
    let a = c.args in
    let l = c.loop-i in
    let h : l.i < length l.keys = omega (arith, l.invariant.all, c.loop-i-test.true) in
    record { all = simp length-set l.invariant.all; filled = fill_again a.offset a.insn l.keys l.i _ h l.invariant.filled c.candidate_key.ensures }

pub returns : goal.returns
returns c =
    let a = c.args in
    let l = c.loop-i in
    let e = entered a.offset a.insn l.keys (λ j h. l.invariant.filled j (omega arith)) in
    let w = c.write_entries.ensures in
    (w.0 ∙ e.count, w.1 ∙ (λ i. e.bytes i ++ drop (8 * e.count i) a.out.now))
