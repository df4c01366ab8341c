use Rattle.list_first.specs.First.{has_modrm}
use Rattle.list_entries.proofs.Tests.{tests}
use Rattle.list_first.proofs.has_modrm.Goals as goal

pub returns-then-opcode-lt64 : goal.returns-then-opcode-lt64
unfolding has_modrm
returns-then-opcode-lt64 c = search tests

pub returns-then-opcode-lt128 : goal.returns-then-opcode-lt128
unfolding has_modrm
returns-then-opcode-lt128 c = search tests

pub returns-then-opcode-lt144 : goal.returns-then-opcode-lt144
unfolding has_modrm
returns-then-opcode-lt144 c = search tests

pub returns-then-opcode-lt196 : goal.returns-then-opcode-lt196
unfolding has_modrm
returns-then-opcode-lt196 c = search tests

pub returns-then-opcode-lt200 : goal.returns-then-opcode-lt200
unfolding has_modrm
returns-then-opcode-lt200 c = search tests

pub returns-then-opcode-lt246 : goal.returns-then-opcode-lt246
unfolding has_modrm
returns-then-opcode-lt246 c = search tests

pub returns-then-opcode-lt248 : goal.returns-then-opcode-lt248
unfolding has_modrm
returns-then-opcode-lt248 c = search tests

pub returns : goal.returns
unfolding has_modrm
returns c = search tests
