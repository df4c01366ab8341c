use Prim.Native.Nat.{◌+◌}
use Rattle.shortest_encoder.proofs.Ways.{short_run, built, high, plain, alone, longer, prefixed, unread_both}
use Rattle.shortest_encoder.proofs.step.Goals as goal

pub key_of-key-requires : goal.key_of-key-requires
key_of-key-requires c = short_run c.args.offset c.args.insn c.args.parts c.args.i _ c.requires.parts_value c.candidate_run-run.ensures

-- candidate i is not lower
pub returns-then-best-key : goal.returns-then-best-key
returns-then-best-key c = high c.args.offset c.args.insn c.args.parts c.args.best c.args.i (c.requires.parts_value, (c.requires.best_value, (c.requires.i_bound, c.requires.i_value))) _ _ (built c.args.offset c.args.insn c.args.parts c.args.i _ _ c.requires.parts_value c.candidate_run-run.ensures c.key_of-key.ensures) c.if-best-key.true

pub is_run_of-requires : goal.is_run_of-requires
is_run_of-requires c = short_run c.args.offset c.args.insn c.args.parts c.args.i _ c.requires.parts_value c.candidate_run-run.ensures

-- it reads as the instruction
pub returns-then-is_run_of : goal.returns-then-is_run_of
returns-then-is_run_of c = plain c.args.offset c.args.insn c.args.parts c.args.best c.args.i (c.requires.parts_value, (c.requires.best_value, (c.requires.i_bound, c.requires.i_value))) _ _ (built c.args.offset c.args.insn c.args.parts c.args.i _ _ c.requires.parts_value c.candidate_run-run.ensures c.key_of-key.ensures) c.if-best-key.false _ c.is_run_of.ensures c.if-is_run_of.true

-- it does not, and there is no prefix
pub returns-then-parts-eq0 : goal.returns-then-parts-eq0
returns-then-parts-eq0 c = alone c.args.offset c.args.insn c.args.parts c.args.best c.args.i (c.requires.parts_value, (c.requires.best_value, (c.requires.i_bound, c.requires.i_value))) _ _ (built c.args.offset c.args.insn c.args.parts c.args.i _ _ c.requires.parts_value c.candidate_run-run.ensures c.key_of-key.ensures) c.if-best-key.false _ c.is_run_of.ensures c.if-is_run_of.false c.if-parts-eq0.true

pub key_of-longer-requires : goal.key_of-longer-requires
key_of-longer-requires c = short_run c.args.offset c.args.insn c.args.parts (c.args.i + 6) _ c.requires.parts_value c.candidate_run-prefixed.ensures

-- with the prefix it is not lower
pub returns-then-best-longer : goal.returns-then-best-longer
returns-then-best-longer c =
    longer c.args.offset c.args.insn c.args.parts c.args.best c.args.i (c.requires.parts_value, (c.requires.best_value, (c.requires.i_bound, c.requires.i_value))) _ _ (built c.args.offset c.args.insn c.args.parts c.args.i _ _ c.requires.parts_value c.candidate_run-run.ensures c.key_of-key.ensures) c.if-best-key.false _ c.is_run_of.ensures c.if-is_run_of.false c.if-parts-eq0.false
    _ _ (built c.args.offset c.args.insn c.args.parts (c.args.i + 6) _ _ c.requires.parts_value c.candidate_run-prefixed.ensures c.key_of-longer.ensures) c.if-best-longer.true

pub is_run_of-requires-2 : goal.is_run_of-requires-2
is_run_of-requires-2 c = short_run c.args.offset c.args.insn c.args.parts (c.args.i + 6) _ c.requires.parts_value c.candidate_run-prefixed.ensures

-- with the prefix it reads as the instruction
pub returns-then-is_run_of-2 : goal.returns-then-is_run_of-2
returns-then-is_run_of-2 c =
    prefixed c.args.offset c.args.insn c.args.parts c.args.best c.args.i (c.requires.parts_value, (c.requires.best_value, (c.requires.i_bound, c.requires.i_value))) _ _ (built c.args.offset c.args.insn c.args.parts c.args.i _ _ c.requires.parts_value c.candidate_run-run.ensures c.key_of-key.ensures) c.if-best-key.false _ c.is_run_of.ensures c.if-is_run_of.false c.if-parts-eq0.false
    _ _ (built c.args.offset c.args.insn c.args.parts (c.args.i + 6) _ _ c.requires.parts_value c.candidate_run-prefixed.ensures c.key_of-longer.ensures) c.if-best-longer.false _ c.is_run_of-2.ensures c.if-is_run_of-2.true

-- nor so
pub returns : goal.returns
returns c =
    unread_both c.args.offset c.args.insn c.args.parts c.args.best c.args.i (c.requires.parts_value, (c.requires.best_value, (c.requires.i_bound, c.requires.i_value))) _ _ (built c.args.offset c.args.insn c.args.parts c.args.i _ _ c.requires.parts_value c.candidate_run-run.ensures c.key_of-key.ensures) c.if-best-key.false _ c.is_run_of.ensures c.if-is_run_of.false c.if-parts-eq0.false
    _ _ (built c.args.offset c.args.insn c.args.parts (c.args.i + 6) _ _ c.requires.parts_value c.candidate_run-prefixed.ensures c.key_of-longer.ensures) c.if-best-longer.false _ c.is_run_of-2.ensures c.if-is_run_of-2.false
