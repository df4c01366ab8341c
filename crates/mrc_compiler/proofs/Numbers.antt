-- The list of operations agrees with their numbers, and operations with the same number are the same.
-- Assumes nothing.
use mathlib.Core.Path.{◌≡◌, refl, sym, ◌∙◌, ap}
use mathlib.Core.Bool.{Bool, true}
use mathlib.Core.List.{List, [], ◌∷◌}
use Prim.Native.Nat.{ℕ, suc, ◌<◌, ◌≤◌}
use mathlib.Core.Logic.{◌⊎◌, inl, inr}
use borrow.Author.Tests.{lt-ltb, le-ltb}
use Rattle.std.proofs.lemmas.Bool.{cases_lt}
use Rattle.std.proofs.lemmas.Option.{slice_get-get_or, slice_get_past, slice_get_read}
use lib.Dec.{T, eqb, ltb, eqb→eq}
use lib.ListN.{length, get_or}
use denote.Enum.Declared.{tag_of}
use Rattle.mrc_compiler.specs.contracts.operations.Operation.{the_type}
use Rattle.mrc_compiler.specs.declared.operations.Operation.{Operation}
use Rattle.mrc_compiler.specs.declared.operations.Operation.TheVariants as Op
use Rattle.std.specs.Prelude.{Some, None, slice_get}
use Rattle.std.specs.Slice.{IsItemAt}
use Rattle.std.specs.Borrow.{Bor}
use Rattle.mrc_compiler.specs.Choose.{pick, both}
use Rattle.mrc_compiler.specs.Operations.{number_of, same_operation, operations, operation_numbered}

-- are the operations numbered n, n + 1 ..?
abbrev numbered_from : ℕ → List Operation → Bool
numbered_from n [] = true
numbered_from n (op ∷ ops) = both (eqb (number_of op) n) (numbered_from (suc n) ops)

-- each place of the list is the number of what stands there
pub numbered : numbered_from 0 operations ≡ true
unfolding number_of operations
numbered = refl

-- the place of a variant in its declaration is its number
pub place_is : (op : Operation) → tag_of the_type op ≡ number_of op
unfolding number_of
place_is Op.MOV = refl
place_is Op.PUSH = refl
place_is Op.POP = refl
place_is Op.XCHG = refl
place_is Op.IN = refl
place_is Op.OUT = refl
place_is Op.XLATB = refl
place_is Op.LEA = refl
place_is Op.LDS = refl
place_is Op.LES = refl
place_is Op.LAHF = refl
place_is Op.SAHF = refl
place_is Op.PUSHF = refl
place_is Op.POPF = refl
place_is Op.ADD = refl
place_is Op.ADC = refl
place_is Op.INC = refl
place_is Op.AAA = refl
place_is Op.DAA = refl
place_is Op.SUB = refl
place_is Op.SBB = refl
place_is Op.DEC = refl
place_is Op.NEG = refl
place_is Op.CMP = refl
place_is Op.AAS = refl
place_is Op.DAS = refl
place_is Op.MUL = refl
place_is Op.IMUL = refl
place_is Op.AAM = refl
place_is Op.DIV = refl
place_is Op.IDIV = refl
place_is Op.AAD = refl
place_is Op.CBW = refl
place_is Op.CWD = refl
place_is Op.NOT = refl
place_is Op.SHL = refl
place_is Op.SHR = refl
place_is Op.SAR = refl
place_is Op.ROL = refl
place_is Op.ROR = refl
place_is Op.RCL = refl
place_is Op.RCR = refl
place_is Op.AND = refl
place_is Op.TEST = refl
place_is Op.OR = refl
place_is Op.XOR = refl
place_is Op.REP = refl
place_is Op.REPNE = refl
place_is Op.MOVSB = refl
place_is Op.MOVSW = refl
place_is Op.CMPSB = refl
place_is Op.CMPSW = refl
place_is Op.SCASB = refl
place_is Op.SCASW = refl
place_is Op.LODSB = refl
place_is Op.LODSW = refl
place_is Op.STOSB = refl
place_is Op.STOSW = refl
place_is Op.CALL = refl
place_is Op.JMP = refl
place_is Op.RET = refl
place_is Op.JE = refl
place_is Op.JL = refl
place_is Op.JLE = refl
place_is Op.JB = refl
place_is Op.JBE = refl
place_is Op.JP = refl
place_is Op.JO = refl
place_is Op.JS = refl
place_is Op.JNE = refl
place_is Op.JNL = refl
place_is Op.JNLE = refl
place_is Op.JNB = refl
place_is Op.JNBE = refl
place_is Op.JNP = refl
place_is Op.JNO = refl
place_is Op.JNS = refl
place_is Op.LOOP = refl
place_is Op.LOOPZ = refl
place_is Op.LOOPNZ = refl
place_is Op.JCXZ = refl
place_is Op.INT = refl
place_is Op.INT1 = refl
place_is Op.INT3 = refl
place_is Op.INTO = refl
place_is Op.IRET = refl
place_is Op.CLC = refl
place_is Op.CMC = refl
place_is Op.STC = refl
place_is Op.CLD = refl
place_is Op.STD = refl
place_is Op.CLI = refl
place_is Op.STI = refl
place_is Op.HLT = refl
place_is Op.WAIT = refl
place_is Op.ESC = refl
place_is Op.LOCK = refl
place_is Op.NOP = refl
place_is Op.SALC = refl

pub count : length operations ≡ 99
unfolding operations
count = refl

-- a number has the operation at its place, and none past the end
taken : {A : Type 0} (xs : List A) (n : ℕ) (d : A) → (n < length xs) ⊎ (length xs ≤ n) → pick (ltb n (length xs)) (Some (get_or xs n d)) None ≡ slice_get xs n
taken xs n d (inl l) = rw (lt-ltb _ _ l, slice_get-get_or xs n d l)
taken xs n d (inr l) = rw (le-ltb _ _ l, slice_get_past xs n l)

pub operation_taken : (n : ℕ) → operation_numbered n ≡ slice_get operations n
operation_taken n = taken operations n Op.MOV (cases_lt n (length operations))

-- what a look-up in the list gives
pub found_operation : (n : ℕ) (b : Bor Operation) → IsItemAt operations n (Some b) → operation_numbered n ≡ Some b.now
found_operation n b (_, e, _, (l, _), _) = operation_taken n ∙ slice_get_read operations (length operations) n b.now refl l e

pub no_operation : (n : ℕ) → IsItemAt operations n None → operation_numbered n ≡ None
no_operation n (_, _, _, l, _) = operation_taken n ∙ slice_get_past operations n l

-- each operation stands at its number
pub operation_at : (op : Operation) → get_or operations (number_of op) Op.MOV ≡ op
unfolding number_of operations
operation_at Op.MOV = refl
operation_at Op.PUSH = refl
operation_at Op.POP = refl
operation_at Op.XCHG = refl
operation_at Op.IN = refl
operation_at Op.OUT = refl
operation_at Op.XLATB = refl
operation_at Op.LEA = refl
operation_at Op.LDS = refl
operation_at Op.LES = refl
operation_at Op.LAHF = refl
operation_at Op.SAHF = refl
operation_at Op.PUSHF = refl
operation_at Op.POPF = refl
operation_at Op.ADD = refl
operation_at Op.ADC = refl
operation_at Op.INC = refl
operation_at Op.AAA = refl
operation_at Op.DAA = refl
operation_at Op.SUB = refl
operation_at Op.SBB = refl
operation_at Op.DEC = refl
operation_at Op.NEG = refl
operation_at Op.CMP = refl
operation_at Op.AAS = refl
operation_at Op.DAS = refl
operation_at Op.MUL = refl
operation_at Op.IMUL = refl
operation_at Op.AAM = refl
operation_at Op.DIV = refl
operation_at Op.IDIV = refl
operation_at Op.AAD = refl
operation_at Op.CBW = refl
operation_at Op.CWD = refl
operation_at Op.NOT = refl
operation_at Op.SHL = refl
operation_at Op.SHR = refl
operation_at Op.SAR = refl
operation_at Op.ROL = refl
operation_at Op.ROR = refl
operation_at Op.RCL = refl
operation_at Op.RCR = refl
operation_at Op.AND = refl
operation_at Op.TEST = refl
operation_at Op.OR = refl
operation_at Op.XOR = refl
operation_at Op.REP = refl
operation_at Op.REPNE = refl
operation_at Op.MOVSB = refl
operation_at Op.MOVSW = refl
operation_at Op.CMPSB = refl
operation_at Op.CMPSW = refl
operation_at Op.SCASB = refl
operation_at Op.SCASW = refl
operation_at Op.LODSB = refl
operation_at Op.LODSW = refl
operation_at Op.STOSB = refl
operation_at Op.STOSW = refl
operation_at Op.CALL = refl
operation_at Op.JMP = refl
operation_at Op.RET = refl
operation_at Op.JE = refl
operation_at Op.JL = refl
operation_at Op.JLE = refl
operation_at Op.JB = refl
operation_at Op.JBE = refl
operation_at Op.JP = refl
operation_at Op.JO = refl
operation_at Op.JS = refl
operation_at Op.JNE = refl
operation_at Op.JNL = refl
operation_at Op.JNLE = refl
operation_at Op.JNB = refl
operation_at Op.JNBE = refl
operation_at Op.JNP = refl
operation_at Op.JNO = refl
operation_at Op.JNS = refl
operation_at Op.LOOP = refl
operation_at Op.LOOPZ = refl
operation_at Op.LOOPNZ = refl
operation_at Op.JCXZ = refl
operation_at Op.INT = refl
operation_at Op.INT1 = refl
operation_at Op.INT3 = refl
operation_at Op.INTO = refl
operation_at Op.IRET = refl
operation_at Op.CLC = refl
operation_at Op.CMC = refl
operation_at Op.STC = refl
operation_at Op.CLD = refl
operation_at Op.STD = refl
operation_at Op.CLI = refl
operation_at Op.STI = refl
operation_at Op.HLT = refl
operation_at Op.WAIT = refl
operation_at Op.ESC = refl
operation_at Op.LOCK = refl
operation_at Op.NOP = refl
operation_at Op.SALC = refl

pub operation_eq : (a b : Operation) → T (same_operation a b) → a ≡ b
operation_eq a b t =
    sym (operation_at a) ∙ (ap (λ n. get_or operations n Op.MOV) (eqb→eq (number_of a) (number_of b) t) ∙ operation_at b)
