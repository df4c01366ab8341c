use Rattle.reader.proofs.read_repeated.Goals as goal

pub string_operation-operation-requires : goal.string_operation-operation-requires
string_operation-operation-requires c = c.requires

pub returns : goal.returns
returns c = rw c.string_operation-operation.ensures
