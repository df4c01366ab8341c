-- What the seven shifts and rotates do to their destination and to the carry flag: the manual's pseudocode (SDM volume 2, 'RCL/RCR/ROL/ROR'
-- and 'SAL/SAR/SHL/SHR', Operation and Flags Affected). A destination is a number below 2^SIZE, a flag 0 or 1. The overflow flag is left out.
-- Definitions only.
use Rattle.std.specs.Prelude.{ℕ, zero, suc, ◌+◌, ◌*◌, ◌/◌, ◌%◌, ◌<◌, ◌≡◌, Bool, true, List, [], ◌∷◌, ltb}
use Rattle.mrc_compiler.specs.declared.encoder.OperandSize.{OperandSize}
use Rattle.mrc_compiler.specs.declared.encoder.OperandSize.TheVariants as S
use Rattle.mrc_compiler.specs.declared.operations.Operation.{Operation}
use Rattle.mrc_compiler.specs.declared.operations.Operation.TheVariants as Op
use Rattle.mrc_compiler.specs.Choose.{pick}
use Rattle.mrc_compiler.specs.Operations.{one_of}

pub data Shift : Type 0 where
  rol ror rcl rcr shl shr sar : Shift

-- its operation
abbrev pub operation_of : Shift → Operation
operation_of rol = Op.ROL
operation_of ror = Op.ROR
operation_of rcl = Op.RCL
operation_of rcr = Op.RCR
operation_of shl = Op.SHL
operation_of shr = Op.SHR
operation_of sar = Op.SAR

-- all seven
abbrev pub shifts : List Operation
shifts = Op.ROL ∷ Op.ROR ∷ Op.RCL ∷ Op.RCR ∷ Op.SHL ∷ Op.SHR ∷ Op.SAR ∷ []

unfoldable pub is_shift : Operation → Bool
is_shift op = one_of shifts op

pub data Width : Type 0 where
  byte word : Width

-- the size of its operand
abbrev pub size_of : Width → OperandSize
size_of byte = S.Byte
size_of word = S.Word

-- SIZE
abbrev pub size : Width → ℕ
size byte = 8
size word = 16

-- 2^SIZE
abbrev pub span : Width → ℕ
span byte = 256
span word = 65536

-- 2^(SIZE - 1)
abbrev pub high : Width → ℕ
high byte = 128
high word = 32768

abbrev pub msb : Width → ℕ → ℕ
msb w dest = dest / high w

abbrev pub lsb : ℕ → ℕ
lsb dest = dest % 2

-- DEST and CF
pub record Held : Type 0 where
  pub destination_value : ℕ
  pub carry_flag : ℕ

abbrev pub held : ℕ → ℕ → Held
held dest cf = record { destination_value = dest; carry_flag = cf }

-- one turn of the manual's WHILE
abbrev pub turn : Shift → Width → Held → Held
turn rol w s = held (s.destination_value * 2 % span w + msb w s.destination_value) s.carry_flag
turn ror w s = held (s.destination_value / 2 + lsb s.destination_value * high w) s.carry_flag
turn rcl w s = held (s.destination_value * 2 % span w + s.carry_flag) (msb w s.destination_value)
turn rcr w s = held (s.destination_value / 2 + s.carry_flag * high w) (lsb s.destination_value)
turn shl w s = held (s.destination_value * 2 % span w) (msb w s.destination_value)
turn shr w s = held (s.destination_value / 2) (lsb s.destination_value)
turn sar w s = held (s.destination_value / 2 + msb w s.destination_value * high w) (lsb s.destination_value)

abbrev pub repeat : {A : Type 0} → ℕ → (A → A) → A → A
repeat zero f s = s
repeat (suc n) f s = f (repeat n f s)

-- COUNT AND 1FH
abbrev pub masked : ℕ → ℕ
masked count = count % 32

-- tempCOUNT: how many turns
abbrev pub turns : Shift → Width → ℕ → ℕ
turns rol w count = masked count % size w
turns ror w count = masked count % size w
turns rcl w count = masked count % (size w + 1)
turns rcr w count = masked count % (size w + 1)
turns shl w count = masked count
turns shr w count = masked count
turns sar w count = masked count

-- behind the turns, where the masked count is not 0
abbrev pub settled : Shift → Width → Held → Held
settled rol w s = held s.destination_value (lsb s.destination_value)
settled ror w s = held s.destination_value (msb w s.destination_value)
settled rcl w s = s
settled rcr w s = s
settled shl w s = s
settled shr w s = s
settled sar w s = s

-- the instruction with a count
abbrev pub shifted : Shift → Width → ℕ → Held → Held
shifted op w count s =
    let t = repeat (turns op w count) (turn op w) s in
    pick (ltb 0 (masked count)) (settled op w t) t

-- does the manual define CF? 'undefined for SHL and SHR instructions where the count is greater than or equal to the size'
abbrev pub carry_defined : Shift → Width → ℕ → Bool
carry_defined rol w count = true
carry_defined ror w count = true
carry_defined rcl w count = true
carry_defined rcr w count = true
carry_defined shl w count = ltb (masked count) (size w)
carry_defined shr w count = ltb (masked count) (size w)
carry_defined sar w count = true

-- that many instructions with count 1, one after the other
abbrev pub copies : Shift → Width → ℕ → Held → Held
copies op w n s = repeat n (shifted op w 1) s

-- ---- n copies do what the one instruction does, where the manual says what that is
-- a destination of the width, and a flag
pub record Fits (w : Width) (s : Held) : Type 0 where
  pub dest : s.destination_value < span w
  pub flag : s.carry_flag < 2

pub record Same (op : Shift) (w : Width) (n : ℕ) (s : Held) : Type 0 where
  pub destination : (copies op w n s).destination_value ≡ (shifted op w n s).destination_value
  pub carry : carry_defined op w n ≡ true → (copies op w n s).carry_flag ≡ (shifted op w n s).carry_flag
