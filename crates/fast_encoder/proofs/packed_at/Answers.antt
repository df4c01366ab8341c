use native.Mathlib.Omega.{arith}
use Rattle.fast_encoder.proofs.Laws.{ready, plain_packed, repeat_packed}
use Rattle.std.proofs.Common.{◌≡◌, ◌<◌}
use Rattle.show_record.specs.Record.{byte_at}
use Rattle.fast_encoder.proofs.packed_at.Goals as goal
use Rattle.fast_encoder.proofs.packed_at.Goals.{then-d-ne0+else-repeat-ne0, else-d-ne0}

pub returns-then-rec-d : goal.returns-then-rec-d
returns-then-rec-d c = λ h. absurd (omega arith)

pub returns-then-count-gt2 : goal.returns-then-count-gt2
returns-then-count-gt2 c = λ h. absurd (omega arith)

pub returns-then-repeat-ne0 : goal.returns-then-repeat-ne0
returns-then-repeat-ne0 c =
    λ h. let s = c.args.rec.now in
    let d = c.repeat_in-d in
    repeat_packed s d.result _ d.ensures.small c.if-d-ne0.true
    (ready s d.result (λ i. (c.shared_slice_known-1.given i).fits) c.if-rec-d.false (c.are_formed.ensures c.if-are_formed.true))
    c.if-count-gt2.false _ (c.repeat_run.ensures h)

pub dispatch-requires : goal.dispatch-requires
dispatch-requires c =
    let d = c.repeat_in-d in
    ready c.args.rec.now d.result (λ i. (c.shared_slice_known-1.given i).fits) c.if-rec-d.false (c.are_formed.ensures c.if-are_formed.true)

pub returns : goal.returns
returns c = λ h. absurd (omega arith)

pub returns-then-are_formed : goal.returns-then-are_formed
returns-then-are_formed c =
    λ h. let s = c.args.rec.now in
    let d = c.repeat_in-d in
    let e = c.dispatch.ensures h in
    let zero : 0 < d.result → byte_at s 2 ≡ 0 =
    elim c.if-d-ne0.branch [
      | then-d-ne0+else-repeat-ne0 w ↦ λ p. w.if-repeat-ne0.false
      | else-d-ne0 w ↦ λ p. absurd (omega (arith, p, w.if-d-ne0.false))
    ] in
    plain_packed s d.result _ d.ensures.small
    (ready s d.result (λ i. (c.shared_slice_known-1.given i).fits) c.if-rec-d.false (c.are_formed.ensures c.if-are_formed.true))
    c.if-count-gt2.false zero _ e.0 e.1
