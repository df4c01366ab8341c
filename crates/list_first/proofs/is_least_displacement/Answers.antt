use Rattle.list_first.specs.First.{least_displacement}
use Rattle.list_entries.proofs.Tests.{tests}
use Rattle.list_first.proofs.is_least_displacement.Goals as goal

pub returns-then-modrm-lt64 : goal.returns-then-modrm-lt64
unfolding least_displacement
returns-then-modrm-lt64 c = search tests

pub returns-then-modrm-ge192 : goal.returns-then-modrm-ge192
unfolding least_displacement
returns-then-modrm-ge192 c = search tests

pub returns-then-modrm-lt128 : goal.returns-then-modrm-lt128
unfolding least_displacement
returns-then-modrm-lt128 c = search tests

pub returns-then-high-eq0 : goal.returns-then-high-eq0
unfolding least_displacement
returns-then-high-eq0 c = search tests

pub returns-then-high-eq255 : goal.returns-then-high-eq255
unfolding least_displacement
returns-then-high-eq255 c = search tests

pub returns : goal.returns
unfolding least_displacement
returns c = search tests
