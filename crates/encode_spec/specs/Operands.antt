-- How an operand of a record counts (REFERENCE 6), and tests on it.
-- Definitions only.
use Rattle.std.specs.Prelude.{Bool, true, false, pos}
use Rattle.mrc_compiler.specs.declared.encoder.OperandData.{OperandData}
use Rattle.mrc_compiler.specs.declared.encoder.OperandSize.{OperandSize}
use Rattle.mrc_compiler.specs.declared.encoder.OperandSize.TheVariants as S
use Rattle.mrc_compiler.specs.declared.operations.Operation.{Operation}
use Rattle.mrc_compiler.specs.Choose.{pick, by_size, by_kind, by_jump}
use Rattle.mrc_compiler.specs.Values.{within, mod_z}
use Rattle.x86.specs.declared.Instruction.{Instruction}
use Rattle.x86.specs.declared.Operand.{Operand}
use Rattle.x86.specs.declared.Operand.TheVariants as O
use Rattle.x86.specs.Instructions.{base, in_effect, default_segment, canonical}
use Rattle.encode_spec.specs.Records.{stated_of}

-- ---- an operand of this kind that passes the test
abbrev pub if_imm : OperandData → Bool → Bool
if_imm o t = by_kind o.kind t false false false

abbrev pub if_reg : OperandData → Bool → Bool
if_reg o t = by_kind o.kind false t false false

abbrev pub if_seg : OperandData → Bool → Bool
if_seg o t = by_kind o.kind false false t false

abbrev pub if_mem : OperandData → Bool → Bool
if_mem o t = by_kind o.kind false false false t

abbrev pub if_rm : OperandData → Bool → Bool
if_rm o t = by_kind o.kind false t false t

-- ---- one operand
-- at a width: an immediate counts modulo 256 or 65,536, memory by base, displacement and segment in effect
unfoldable pub counted : OperandSize → OperandData → Operand
counted w o =
    by_kind o.kind
    (O.Immediate (mod_z (by_size w 65536 256 65536) o.imm))
    (O.Register o.rm)
    (O.SegmentRegister o.rm)
    (O.Memory (base o.mode o.rm) (mod_z 65536 o.displacement) (in_effect o.segment_prefix (default_segment o.mode o.rm)))

-- a port is a byte, or register DX
abbrev pub port : OperandData → Operand
port o = by_kind o.kind (O.Immediate (mod_z 256 o.imm)) (O.Register o.rm) O.None O.None

-- a shift's count is 1, or register CL
abbrev pub count : OperandData → Operand
count o =
    by_kind o.kind (pick (within (pos 1) (pos 1) o.imm) O.One (O.Immediate (mod_z 256 o.imm))) (O.Register o.rm) O.None O.None

abbrev pub near_target : OperandData → Operand
near_target o = O.Near (mod_z 65536 o.imm)

abbrev pub far_target : OperandData → Operand
far_target o = O.Far (mod_z 65536 o.imm) (mod_z 65536 o.displacement)

-- ---- an operation with its operands a and b
abbrev pub of_none : Operation → OperandData → OperandData → Instruction
of_none op a b = canonical op S.Unspecified O.None O.None

-- the first, at a width
abbrev pub of_one : OperandSize → Operation → OperandData → OperandData → Instruction
of_one w op a b = canonical op w (counted w a) O.None

-- the first, at its own width
abbrev pub of_first : Operation → OperandData → OperandData → Instruction
of_first op a b = of_one a.size op a b

-- both, at the width that either states
abbrev pub of_two : Operation → OperandData → OperandData → Instruction
of_two op a b = let w = stated_of a.size b.size in canonical op w (counted w a) (counted w b)

-- a Word register and memory
abbrev pub of_address : Operation → OperandData → OperandData → Instruction
of_address op a b = canonical op S.Word (counted S.Word a) (counted S.Word b)

abbrev pub of_shift : Operation → OperandData → OperandData → Instruction
of_shift op a b = canonical op a.size (counted a.size a) (count b)

abbrev pub of_input : Operation → OperandData → OperandData → Instruction
of_input op a b = canonical op a.size (counted a.size a) (port b)

abbrev pub of_output : Operation → OperandData → OperandData → Instruction
of_output op a b = canonical op b.size (port a) (counted b.size b)

abbrev pub of_vector : Operation → OperandData → OperandData → Instruction
of_vector op a b = canonical op S.Unspecified (O.Immediate (mod_z 256 a.imm)) O.None

-- an immediate word
abbrev pub of_popped : Operation → OperandData → OperandData → Instruction
of_popped op a b = canonical op S.Unspecified (O.Immediate (mod_z 65536 a.imm)) O.None

abbrev pub of_near : Operation → OperandData → OperandData → Instruction
of_near op a b = canonical op S.Unspecified (near_target a) O.None

-- where CALL and JMP go: a near or far target, or through a Word register or memory, or through memory that holds a far target, which has no width
abbrev pub of_transfer : Operation → OperandData → OperandData → Instruction
of_transfer op a b =
    let near = of_near op a b in
    let through = of_one S.Word op a b in
    by_kind a.kind (by_jump a.jmp_kind near (canonical op S.Unspecified (far_target a) O.None) near near) through through
    (by_jump a.jmp_kind through (of_one S.Unspecified op a b) through through)
