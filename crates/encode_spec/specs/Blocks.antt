-- The forms of a group's operations: the blocks of the table, by group and base. Nobody has to believe them: proofs/Blocks shows that they
-- are the forms of each operation.
-- Definitions only.
use Rattle.std.specs.Prelude.{ℕ, List, [], ◌∷◌}
use Rattle.mrc_compiler.specs.declared.operations.Operation.{Operation}
use Rattle.x86.specs.Forms.{Form}
use Rattle.x86.specs.Forms as F
use Rattle.encode_groups.specs.declared.Group.{Group}
use Rattle.encode_groups.specs.declared.Group.TheVariants as G

unfoldable pub block : Group → ℕ → Operation → List Form
block G.Arithmetic n op = F.arithmetic n op
block G.Unary n op = F.unary n op
block G.Mov n op = F.move op
block G.Test n op = F.test op
block G.Xchg n op = F.exchange op
block G.IncDec n op = F.inc_dec n op
block G.Push n op = F.push op
block G.Pop n op = F.pop op
block G.Ret n op = F.ret op
block G.Lea n op = F.load n op
block G.LesLds n op = F.load n op
block G.Shift n op = F.shift n op
block G.Call n op = F.call op
block G.Jmp n op = F.jump op
block G.Jcc n op = F.short n op ∷ []
block G.Loopc n op = F.short n op ∷ []
block G.NoOperands n op = F.single n op ∷ []
block G.Prefixes n op = F.single n op ∷ []
block G.Int n op = F.interrupt op
block G.Aam n op = F.adjust 0xD4 op
block G.Aad n op = F.adjust 0xD5 op
block G.Xlat n op = F.translate op
block G.In n op = F.input op
block G.Out n op = F.output op
block G.Unsupported n op = []
