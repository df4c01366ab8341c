use native.Mathlib.Omega.{arith}
use Prim.Native.Nat.{◌+◌, ◌<◌}
use Rattle.show_record.specs.Record.{byte_at}
use Rattle.fast_forms.proofs.Laws.{bit_is}
use Rattle.fast_encoder.proofs.port_imm.Goals as goal

pub returns-then-size-eq0 : goal.returns-then-size-eq0
returns-then-size-eq0 c = λ k off e h. absurd (omega arith)

pub returns-then-rec-acc-ne0 : goal.returns-then-rec-acc-ne0
returns-then-rec-acc-ne0 c = λ k off e h. absurd (omega arith)

pub returns : goal.returns
returns c =
    λ k off e h. let p : 0 < byte_at c.args.rec.now (c.args.acc + 1) = omega (arith, c.if-size-eq0.false) in
    (p, (c.if-rec-acc-ne0.false, rw (bit_is _ p (omega (arith, c.requires.1.0.formed.size))) (c.unsigned_run.ensures k off e h)))
