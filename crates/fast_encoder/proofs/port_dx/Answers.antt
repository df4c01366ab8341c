use native.Mathlib.Omega.{arith}
use Prim.Native.Nat.{◌+◌, ◌<◌}
use Rattle.show_record.specs.Record.{byte_at}
use Rattle.fast_forms.proofs.Laws.{bit_is}
use Rattle.fast_encoder.proofs.port_dx.Goals as goal

pub returns-then-size-eq0 : goal.returns-then-size-eq0
returns-then-size-eq0 c = λ h. absurd (omega arith)

pub returns-then-rec-acc-ne0 : goal.returns-then-rec-acc-ne0
returns-then-rec-acc-ne0 c = λ h. absurd (omega arith)

pub returns-then-rec-port-ne2 : goal.returns-then-rec-port-ne2
returns-then-rec-port-ne2 c = λ h. absurd (omega arith)

pub returns-then-rec-port-ne2-2 : goal.returns-then-rec-port-ne2-2
returns-then-rec-port-ne2-2 c = λ h. absurd (omega arith)

pub returns : goal.returns
returns c =
    λ h. let p : 0 < byte_at c.args.rec.now (c.args.acc + 1) = omega (arith, c.if-size-eq0.false) in
    (p, (c.if-rec-acc-ne0.false, ((c.if-rec-port-ne2.false, c.if-rec-port-ne2-2.false), rw (bit_is _ p (omega (arith, c.requires.1.0.formed.size))) c.byte_run.ensures)))
