use Rattle.list_first.specs.First.{is_prefix}
use Rattle.list_entries.proofs.Tests.{tests}
use Rattle.list_first.proofs.is_prefix.Goals as goal

pub returns-then-byte-eq1 : goal.returns-then-byte-eq1
unfolding is_prefix
returns-then-byte-eq1 c = search tests

pub returns : goal.returns
unfolding is_prefix
returns c = search tests
