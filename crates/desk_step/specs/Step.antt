-- One step of the 8086, as far as the desk has it (REFERENCE 15): the instruction that stands at IP, by the table of forms, is carried out as
-- the SDM says (volume 2, MOV, LOOP, JMP, OUT, HLT). Segments, flags and memory play no part.
-- Definitions only.
use Rattle.std.specs.Prelude.{◌≡◌, ℕ, ◌+◌, ◌-◌, ◌*◌, ◌/◌, ◌%◌, ◌<◌, List, [], ◌∷◌, drop, ◌==◌, nat_lt, slice_index, slice_set, Option, Some, None, option_map, Ok, Err}
use Rattle.std.specs.Option.{option_and_then}
use Rattle.mrc_compiler.specs.declared.encoder.OperandSize.{OperandSize}
use Rattle.mrc_compiler.specs.declared.operations.Operation.TheVariants as Op
use Rattle.mrc_compiler.specs.Choose.{pick, by_size}
use Rattle.mrc_compiler.specs.Operations.{same_operation}
use Rattle.x86.specs.declared.Operand.{Operand}
use Rattle.x86.specs.declared.Operand.TheVariants as O
use Rattle.x86.specs.declared.Instruction.{Instruction}
use Rattle.x86.specs.Reading.{Read, reads}
use Rattle.desk_step.specs.declared.Machine.{Machine}
use Rattle.desk_step.specs.declared.Action.{Action}
use Rattle.desk_step.specs.declared.Action.TheVariants as A
use Rattle.desk_step.specs.declared.Effect.{Effect}
use Rattle.desk_step.specs.declared.Effect.TheVariants as E
use Rattle.desk_step.specs.declared.Fetched.{Fetched}
use Rattle.desk_step.specs.declared.Known.{Known}
use Rattle.desk_step.specs.declared.Stepped.{Stepped}

-- ---- the machine
abbrev pub machine : List ℕ → ℕ → Machine
machine registers ip = record { registers = registers; ip = ip }

-- registers are 0, and the origin is 0
abbrev pub start : Machine
start = machine (0 ∷ 0 ∷ 0 ∷ 0 ∷ 0 ∷ 0 ∷ 0 ∷ 0 ∷ []) 0

abbrev pub ax : ℕ
ax = 0

abbrev pub cx : ℕ
cx = 1

abbrev pub word_in : List ℕ → ℕ → ℕ
word_in registers n = slice_index registers n

abbrev pub with_word : List ℕ → ℕ → ℕ → List ℕ
with_word registers n v = slice_set registers n v

-- AL CL DL BL are the low halves of registers 0 to 3, AH CH DH BH (4 to 7) their high halves
abbrev pub with_byte : List ℕ → ℕ → ℕ → List ℕ
with_byte registers n v =
    pick (nat_lt n 4)
    (with_word registers n (word_in registers n / 256 * 256 + v))
    (with_word registers (n - 4) (v * 256 + word_in registers (n - 4) % 256))

-- ---- the number in an operand of a kind
abbrev pub register_in : Operand → Option ℕ
register_in O.None = None
register_in (O.Register n) = Some n
register_in (O.SegmentRegister n) = None
register_in (O.Memory b d s) = None
register_in (O.Immediate v) = None
register_in (O.Near t) = None
register_in (O.Far t s) = None
register_in O.One = None

abbrev pub immediate_in : Operand → Option ℕ
immediate_in O.None = None
immediate_in (O.Register n) = None
immediate_in (O.SegmentRegister n) = None
immediate_in (O.Memory b d s) = None
immediate_in (O.Immediate v) = Some v
immediate_in (O.Near t) = None
immediate_in (O.Far t s) = None
immediate_in O.One = None

abbrev pub near_in : Operand → Option ℕ
near_in O.None = None
near_in (O.Register n) = None
near_in (O.SegmentRegister n) = None
near_in (O.Memory b d s) = None
near_in (O.Immediate v) = None
near_in (O.Near t) = Some t
near_in (O.Far t s) = None
near_in O.One = None

-- ---- which instructions are carried out
-- MOV register,immediate, of both widths (B0 and B8 + register, and C6 and C7 where the r/m field is a register)
abbrev pub move_of : OperandSize → ℕ → ℕ → Option Action
move_of w r v = by_size w None (Some (A.MoveByte r (v % 256))) (Some (A.MoveWord r v))

-- OUT immediate port from AL (E6)
abbrev pub out_of : OperandSize → ℕ → ℕ → Option Action
out_of w port r = by_size w None (pick (r == ax) (Some (A.Output (port % 256))) None) None

abbrev pub moves_of : Instruction → Option Action
moves_of m = option_and_then (λ r. option_and_then (λ v. move_of m.width r v) (immediate_in m.second)) (register_in m.first)

abbrev pub outputs_of : Instruction → Option Action
outputs_of m = option_and_then (λ p. option_and_then (λ r. out_of m.width p r) (register_in m.second)) (immediate_in m.first)

abbrev pub loops_of : Instruction → Option Action
loops_of m = option_map (λ t. A.Loop t) (near_in m.first)

-- to a near target: E9 and EB
abbrev pub jumps_of : Instruction → Option Action
jumps_of m = option_map (λ t. A.Jump t) (near_in m.first)

-- any other instruction is not carried out
unfoldable pub action_of : Instruction → Option Action
action_of m =
    let op = m.operation in
    pick (same_operation op Op.MOV) (moves_of m)
    (pick (same_operation op Op.LOOP) (loops_of m)
    (pick (same_operation op Op.JMP) (jumps_of m)
    (pick (same_operation op Op.OUT) (outputs_of m)
    (pick (same_operation op Op.HLT) (Some A.Halt) None))))

-- ---- what each does; next is the offset past the instruction
abbrev pub shown : Effect → List ℕ → ℕ → Stepped
shown e registers ip = record { effect = e; machine = machine registers ip }

-- LOOP counts CX down, modulo 65,536, and jumps where it is not 0 then
abbrev pub less1 : ℕ → ℕ
less1 n = (n + 65535) % 65536

abbrev pub looped : ℕ → ℕ → List ℕ → Stepped
looped t next registers =
    let count = less1 (word_in registers cx) in
    shown E.Goes (with_word registers cx count) (pick (count == 0) next t)

abbrev pub refused_at : Machine → Stepped
refused_at m = shown E.Refused m.registers m.ip

unfoldable pub performed : Option Action → ℕ → Machine → Stepped
performed (Some (A.MoveWord r v)) next m = shown E.Goes (with_word m.registers r v) next
performed (Some (A.MoveByte r v)) next m = shown E.Goes (with_byte m.registers r v) next
performed (Some (A.Loop t)) next m = looped t next m.registers
performed (Some (A.Jump t)) next m = shown E.Goes m.registers t
performed (Some (A.Output port)) next m = shown (E.Outputs port (word_in m.registers ax % 256)) m.registers next
performed (Some A.Halt) next m = shown E.Halts m.registers next
performed None next m = refused_at m

-- ---- the step: the instruction at IP lies whole inside the image, and behind it the offset wraps at 65,536
abbrev pub carried_out : Machine → Read → Stepped
carried_out m (Ok (i, n)) = performed (action_of i) ((m.ip + n) % 65536) m
carried_out m (Err e) = refused_at m

unfoldable pub step_of : List ℕ → Machine → Stepped
step_of image m = carried_out m (reads m.ip (drop m.ip image))

-- ---- the same, with what stands at an offset read once: the image does not change
abbrev pub fetched_by : Read → Fetched
fetched_by (Ok (i, n)) = record { action = action_of i; length = n % 65536 }
fetched_by (Err e) = record { action = None; length = 0 }

unfoldable pub fetched_at : List ℕ → ℕ → Fetched
fetched_at image ip = fetched_by (reads ip (drop ip image))

-- nothing yet, as no offset is 65,536
abbrev pub none_known : Known
none_known = record { at = 65536; fetched = record { action = None; length = 0 } }

abbrev pub known_at : List ℕ → ℕ → Known
known_at image ip = record { at = ip; fetched = fetched_at image ip }

abbrev pub IsKnown : List ℕ → Known → Type 0
IsKnown image k = k.at < 65536 → k.fetched ≡ fetched_at image k.at
