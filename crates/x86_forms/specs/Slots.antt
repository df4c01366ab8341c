-- What is known of a slot before the bytes behind the opcode are read.
-- Definitions only.
use Rattle.std.specs.Prelude.{ℕ}
use Rattle.mrc_compiler.specs.declared.encoder.OperandSize.{OperandSize}
use Rattle.mrc_compiler.specs.declared.encoder.OperandSize.TheVariants as S
use Rattle.x86_forms.specs.declared.Slot.{Slot}
use Rattle.x86_forms.specs.declared.Slot.TheVariants.{Rm as rm, RmNear as rm_near, Mem as mem, MemFar as mem_far, Reg as reg, Sreg as sreg, SregNotCs as sreg_not_cs, Acc as acc, Low3 as low3, Bits34 as bits34, Bits34NotCs as bits34_not_cs, Cl as cl, Dx as dx, One as one, Moffs as moffs, Xlat as xlat, Ib as ib, Iw as iw, IbSx as ib_sx, Cb as cb, Cw as cw, Ptr as ptr, Nil as nil}
use Rattle.x86_forms.specs.declared.Place.{Place}
use Rattle.x86_forms.specs.declared.Place.TheVariants.{Nowhere as nowhere, ByModRm as by_modrm, ByAddress as by_address, ByBxAl as by_bx_al}
use Rattle.x86_forms.specs.declared.Restriction.{Restriction}
use Rattle.x86_forms.specs.declared.Restriction.TheVariants.{Any as any, MemoryOnly as memory_only, To3 as to3, To3NotCs as to3_not_cs, OpcodeNotCs as opcode_not_cs}
use Rattle.x86_forms.specs.declared.About.{About}

-- the width that it states, how it names memory, the immediate bytes that it takes, which bytes it has
abbrev pub is : OperandSize → Place → ℕ → Restriction → About
is w p n o = record { width = w; place = p; takes = n; restriction = o }

abbrev pub about : Slot → About
about (rm w) = is w by_modrm 0 any
about rm_near = is S.Word by_modrm 0 any
about mem = is S.Unspecified by_modrm 0 memory_only
about mem_far = is S.Unspecified by_modrm 0 memory_only
about (reg w) = is w nowhere 0 any
about sreg = is S.Word nowhere 0 to3
about sreg_not_cs = is S.Word nowhere 0 to3_not_cs
about (acc w) = is w nowhere 0 any
about (low3 w) = is w nowhere 0 any
about bits34 = is S.Word nowhere 0 any
about bits34_not_cs = is S.Word nowhere 0 opcode_not_cs
about cl = is S.Unspecified nowhere 0 any
about dx = is S.Unspecified nowhere 0 any
about one = is S.Unspecified nowhere 0 any
about (moffs w) = is w by_address 0 any
about xlat = is S.Byte by_bx_al 0 any
about ib = is S.Unspecified nowhere 1 any
about iw = is S.Unspecified nowhere 2 any
about ib_sx = is S.Unspecified nowhere 1 any
about cb = is S.Unspecified nowhere 1 any
about cw = is S.Unspecified nowhere 2 any
about ptr = is S.Unspecified nowhere 4 any
about nil = is S.Unspecified nowhere 0 any
