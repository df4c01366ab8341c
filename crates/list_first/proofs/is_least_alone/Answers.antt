use Rattle.list_first.specs.First.{least_alone}
use Rattle.list_entries.proofs.Tests.{tests}
use Rattle.list_first.proofs.is_least_alone.Goals as goal

pub returns-then-opcode-eq233 : goal.returns-then-opcode-eq233
unfolding least_alone
returns-then-opcode-eq233 c = search tests

pub returns : goal.returns
unfolding least_alone
returns c = search tests
