use mathlib.Core.Path.{sym, ◌∙◌}
use Rattle.lister.proofs.Runs.{possible_is}
use Rattle.shortest_encoder.proofs.Loop.{begun, is_best, next, skip, done}
use Rattle.shortest_encoder.proofs.shortest_of.Goals as goal
use Rattle.shortest_encoder.proofs.shortest_of.Goals.{then-is_possible, else-is_possible}

pub key_of-requires : goal.key_of-requires
key_of-requires c = c.requires.len_bound

pub loop-i-init : goal.loop-i-init
loop-i-init c =
    let a = c.args in
    record { held = begun a.offset a.insn a.own _ c.requires.len_bound c.requires.own_value c.key_of.ensures }

pub step-best-requires : goal.step-best-requires
step-best-requires c =
    let a = c.args in
    let l = c.loop-i in
    record { parts_value = c.parts_of-parts.ensures; best_value = is_best a.offset a.insn _ l.best l.i l.invariant.held; i_bound = c.loop-i-test.true; i_value = sym c.is_possible.ensures ∙ c.if-is_possible.true }

pub returns : goal.returns
returns c =
    let a = c.args in
    let l = c.loop-i in
    done a.offset a.insn _ l.best l.i l.auto.i-end c.loop-i-test.false l.invariant.held

pub loop-i-preserved : goal.loop-i-preserved
loop-i-preserved c =
    let a = c.args in
    let l = c.loop-i in record {
      held = elim c.if-is_possible.branch [
        | then-is_possible w ↦ next a.offset a.insn _ l.best _ l.i l.invariant.held (w.best-is ∙ w.step-best.ensures)
        | else-is_possible w ↦
            skip a.offset a.insn _ l.best _ l.i l.invariant.held c.loop-i-test.true
            (possible_is a.insn _ l.i _ c.parts_of-parts.ensures c.is_possible.ensures w.if-is_possible.false) w.best-is
      ];
    }
