use Rattle.lister.proofs.Runs.{candidate_is, possible_is, run_short, key_yes, key_no, key_none}
use Rattle.lister.proofs.candidate_key.Goals as goal

pub is_run_of-requires : goal.is_run_of-requires
is_run_of-requires c = run_short c.args.offset c.args.insn c.args.i c.candidate_run-run.result (candidate_is c.args.offset c.args.insn c.args.parts c.args.i c.candidate_run-run.result c.requires c.candidate_run-run.ensures)

pub key_of-requires : goal.key_of-requires
key_of-requires c = run_short c.args.offset c.args.insn c.args.i c.candidate_run-run.result (candidate_is c.args.offset c.args.insn c.args.parts c.args.i c.candidate_run-run.result c.requires c.candidate_run-run.ensures)

pub returns-then-is_run_of : goal.returns-then-is_run_of
returns-then-is_run_of c =
    key_yes c.args.offset c.args.insn c.args.i c.candidate_run-run.result (candidate_is c.args.offset c.args.insn c.args.parts c.args.i c.candidate_run-run.result c.requires c.candidate_run-run.ensures)
    _ _ (possible_is c.args.insn c.args.parts c.args.i _ c.requires c.is_possible.ensures c.if-is_possible.true) c.is_run_of.ensures c.if-is_run_of.true c.key_of.ensures

pub returns-else-is_run_of : goal.returns-else-is_run_of
returns-else-is_run_of c =
    key_no c.args.offset c.args.insn c.args.i c.candidate_run-run.result (candidate_is c.args.offset c.args.insn c.args.parts c.args.i c.candidate_run-run.result c.requires c.candidate_run-run.ensures)
    _ (possible_is c.args.insn c.args.parts c.args.i _ c.requires c.is_possible.ensures c.if-is_possible.true) c.is_run_of.ensures c.if-is_run_of.false

pub returns-else-is_possible : goal.returns-else-is_possible
returns-else-is_possible c = key_none c.args.offset c.args.insn c.args.i (possible_is c.args.insn c.args.parts c.args.i _ c.requires c.is_possible.ensures c.if-is_possible.false)
