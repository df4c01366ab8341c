use lib.ListN.{take}
use Rattle.lister.proofs.Accepted.{read_whole, read_refused}
use Rattle.lister.proofs.list_run.Goals as goal

pub read_run-requires : goal.read_run-requires
read_run-requires c = c.requires.len_bound

pub list_instruction-requires : goal.list_instruction-requires
list_instruction-requires c = c.requires.in_bounds

pub returns-in-Ok : goal.returns-in-Ok
returns-in-Ok c =
    let a = c.args in
    let it = read_whole a.offset (take a.run.len a.run.bytes) a.out.now c.read_run.result c.read_run.ensures _ _ _ _ c.in-Ok.is c.list_instruction.ensures in record { value = it.0; out_after = it.1 }

pub returns-in-Err : goal.returns-in-Err
returns-in-Err c =
    let a = c.args in
    let it = read_refused a.offset (take a.run.len a.run.bytes) a.out.now c.read_run.result c.read_run.ensures _ c.in-Err.is in record { value = it.0; out_after = it.1 }
