use Rattle.list_first.specs.First.{in_stack}
use Rattle.list_entries.proofs.Tests.{tests}
use Rattle.list_first.proofs.is_in_stack.Goals as goal

pub returns-then-modrm-eq6 : goal.returns-then-modrm-eq6
unfolding in_stack
returns-then-modrm-eq6 c = search tests

pub returns : goal.returns
unfolding in_stack
returns c = search tests
