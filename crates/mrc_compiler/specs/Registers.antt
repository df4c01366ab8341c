-- The numbers of registers, segment registers and indirect addresses in the fields of ModRM (SDM volume 2, table 2-1).
-- Definitions only.
use Rattle.std.specs.Prelude.{ℕ}
use Rattle.mrc_compiler.specs.declared.ast.ByteRegister.{ByteRegister}
use Rattle.mrc_compiler.specs.declared.ast.ByteRegister.TheVariants as B
use Rattle.mrc_compiler.specs.declared.ast.WordRegister.{WordRegister}
use Rattle.mrc_compiler.specs.declared.ast.WordRegister.TheVariants as W
use Rattle.mrc_compiler.specs.declared.ast.Register.{Register}
use Rattle.mrc_compiler.specs.declared.ast.Register.TheVariants as R
use Rattle.mrc_compiler.specs.declared.ast.Segment.{Segment}
use Rattle.mrc_compiler.specs.declared.ast.Segment.TheVariants as G
use Rattle.mrc_compiler.specs.declared.ast.DataSize.{DataSize}
use Rattle.mrc_compiler.specs.declared.ast.DataSize.TheVariants as D
use Rattle.mrc_compiler.specs.declared.ast.IndirectEncoding.{IndirectEncoding}
use Rattle.mrc_compiler.specs.declared.ast.IndirectEncoding.TheVariants as I

abbrev pub byte_register : ByteRegister → ℕ
byte_register B.Al = 0
byte_register B.Cl = 1
byte_register B.Dl = 2
byte_register B.Bl = 3
byte_register B.Ah = 4
byte_register B.Ch = 5
byte_register B.Dh = 6
byte_register B.Bh = 7

abbrev pub word_register : WordRegister → ℕ
word_register W.Ax = 0
word_register W.Cx = 1
word_register W.Dx = 2
word_register W.Bx = 3
word_register W.Sp = 4
word_register W.Bp = 5
word_register W.Si = 6
word_register W.Di = 7

abbrev pub register : Register → ℕ
register (R.Byte r) = byte_register r
register (R.Word r) = word_register r

abbrev pub data_size_of : Register → DataSize
data_size_of (R.Byte r) = D.Byte
data_size_of (R.Word r) = D.Word

abbrev pub segment : Segment → ℕ
segment G.ES = 0
segment G.CS = 1
segment G.SS = 2
segment G.DS = 3

-- [BX + SI], [BX + DI], [BP + SI], [BP + DI], [SI], [DI], [BP], [BX]
abbrev pub indirect_encoding : IndirectEncoding → ℕ
indirect_encoding I.BxSi = 0
indirect_encoding I.BxDi = 1
indirect_encoding I.BpSi = 2
indirect_encoding I.BpDi = 3
indirect_encoding I.Si = 4
indirect_encoding I.Di = 5
indirect_encoding I.Bp = 6
indirect_encoding I.Bx = 7
