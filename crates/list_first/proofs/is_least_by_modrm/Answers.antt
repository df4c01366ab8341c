use Rattle.list_first.specs.First.{least_by_modrm}
use Rattle.list_entries.proofs.Tests.{tests}
use Rattle.list_first.proofs.is_least_by_modrm.Goals as goal

pub returns-then-opcode-lt2 : goal.returns-then-opcode-lt2
unfolding least_by_modrm
returns-then-opcode-lt2 c = search tests

pub returns-then-opcode-lt64 : goal.returns-then-opcode-lt64
unfolding least_by_modrm
returns-then-opcode-lt64 c = search tests

pub returns-then-opcode-eq129 : goal.returns-then-opcode-eq129
unfolding least_by_modrm
returns-then-opcode-eq129 c = search tests

pub returns-then-modrm-lt192 : goal.returns-then-modrm-lt192
unfolding least_by_modrm
returns-then-modrm-lt192 c = search tests

pub returns-then-opcode-lt132 : goal.returns-then-opcode-lt132
unfolding least_by_modrm
returns-then-opcode-lt132 c = search tests

pub returns-then-opcode-lt134 : goal.returns-then-opcode-lt134
unfolding least_by_modrm
returns-then-opcode-lt134 c = search tests

pub returns-then-opcode-lt136 : goal.returns-then-opcode-lt136
unfolding least_by_modrm
returns-then-opcode-lt136 c = search tests

pub returns-then-modrm-eq6 : goal.returns-then-modrm-eq6
unfolding least_by_modrm
returns-then-modrm-eq6 c = search tests

pub returns-then-opcode-lt138 : goal.returns-then-opcode-lt138
unfolding least_by_modrm
returns-then-opcode-lt138 c = search tests

pub returns-then-opcode-lt140 : goal.returns-then-opcode-lt140
unfolding least_by_modrm
returns-then-opcode-lt140 c = search tests

pub returns-then-opcode-lt143 : goal.returns-then-opcode-lt143
unfolding least_by_modrm
returns-then-opcode-lt143 c = search tests

pub returns-then-opcode-lt200 : goal.returns-then-opcode-lt200
unfolding least_by_modrm
returns-then-opcode-lt200 c = search tests

pub returns-then-opcode-lt212 : goal.returns-then-opcode-lt212
unfolding least_by_modrm
returns-then-opcode-lt212 c = search tests

pub returns-then-opcode-lt248 : goal.returns-then-opcode-lt248
unfolding least_by_modrm
returns-then-opcode-lt248 c = search tests

pub returns-then-opcode-eq254 : goal.returns-then-opcode-eq254
unfolding least_by_modrm
returns-then-opcode-eq254 c = search tests

pub returns-then-modrm-lt192-2 : goal.returns-then-modrm-lt192-2
unfolding least_by_modrm
returns-then-modrm-lt192-2 c = search tests

pub returns-then-modrm-lt208 : goal.returns-then-modrm-lt208
unfolding least_by_modrm
returns-then-modrm-lt208 c = search tests

pub returns : goal.returns
unfolding least_by_modrm
returns c = search tests
