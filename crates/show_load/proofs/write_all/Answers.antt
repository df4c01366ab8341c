use Rattle.base_values.proofs.Fronts.{front_start, front_next, lent_length}
use Rattle.show_load.proofs.Laws.{upto_start, step_all, step_in}
use Rattle.show_load.specs.Loading.{walk}
use Rattle.std.proofs.Common.{arith}
use Rattle.show_load.proofs.write_all.Goals as goal

pub loop-k-init : goal.loop-k-init
unfolding walk
loop-k-init c = (upto_start c.args.file.now c.args.origin, front_start c.args.image.now)

pub write_record-at-requires : goal.write_record-at-requires
write_record-at-requires c =
    let b = c in
    let o = c.loop-k in
    let h = step_in c.args.file.now c.args.origin o.k o.at o.invariant.0 c.args.n c.requires.2 c.loop-k-test.true in
    let s = o.invariant.1.same in
    let l = lent_length o.image o.at in
    (c.requires.0, c.requires.1, c.loop-k-test.true, omega arith)

pub loop-k-preserved : goal.loop-k-preserved
loop-k-preserved c =
    let b = c in
    let o = c.loop-k in
    let taken = c.loop-k-test.true in
    let s = step_all c.args.file.now c.args.origin o.k o.at o.invariant.0 c.args.n c.requires.2 taken in
    let h = step_in c.args.file.now c.args.origin o.k o.at o.invariant.0 c.args.n c.requires.2 taken in
    let w = c.write_record-at in (
      rw w.ensures.value s.upto,
      rw s.after (front_next _ _ c.args.image.now o.image _ o.at o.invariant.1 o.invariant.0.ends (omega arith) w.ensures.out_after),
    )
