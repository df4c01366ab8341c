-- Every operation has the forms of its group's block, and its operands an order or none as its group says.
-- Assumes nothing.
use mathlib.Core.Path.{◌≡◌, refl, sym, subst}
use mathlib.Core.Bool.{true}
use mathlib.Core.List.{List}
use Rattle.mrc_compiler.specs.declared.operations.Operation.{Operation}
use Rattle.mrc_compiler.specs.declared.operations.Operation.TheVariants as Op
use Rattle.mrc_compiler.specs.Operations.{number_of}
use Rattle.x86.specs.Forms.{Form, forms}
use Rattle.encode_groups.specs.Grouping.{grouped_of, group_of, base_of}
use Rattle.encode_spec.specs.Rules.{rule}
use Rattle.encode_spec.specs.Blocks.{block}
use Rattle.encode_spec.specs.Choice.{forms_of}
use Rattle.encode_spec.proofs.Meanings.{Leaf, All, Crosses, order_of, leaves, crosses}

pub record InTable (op : Operation) : Type 0 where
  pub forms_are : forms_of op ≡ block (group_of op) (base_of op) op
  pub order_is : order_of (rule (group_of op)).special op ≡ true

told : {op : Operation} → forms_of op ≡ block (group_of op) (base_of op) op → order_of (rule (group_of op)).special op ≡ true → InTable op
told f o = record { forms_are = f; order_is = o }

-- the list of forms, cut by operation
pub in_table : (op : Operation) → InTable op
unfolding grouped_of block forms_of forms number_of
in_table Op.MOV = told refl refl
in_table Op.PUSH = told refl refl
in_table Op.POP = told refl refl
in_table Op.XCHG = told refl refl
in_table Op.IN = told refl refl
in_table Op.OUT = told refl refl
in_table Op.XLATB = told refl refl
in_table Op.LEA = told refl refl
in_table Op.LDS = told refl refl
in_table Op.LES = told refl refl
in_table Op.LAHF = told refl refl
in_table Op.SAHF = told refl refl
in_table Op.PUSHF = told refl refl
in_table Op.POPF = told refl refl
in_table Op.ADD = told refl refl
in_table Op.ADC = told refl refl
in_table Op.INC = told refl refl
in_table Op.AAA = told refl refl
in_table Op.DAA = told refl refl
in_table Op.SUB = told refl refl
in_table Op.SBB = told refl refl
in_table Op.DEC = told refl refl
in_table Op.NEG = told refl refl
in_table Op.CMP = told refl refl
in_table Op.AAS = told refl refl
in_table Op.DAS = told refl refl
in_table Op.MUL = told refl refl
in_table Op.IMUL = told refl refl
in_table Op.AAM = told refl refl
in_table Op.DIV = told refl refl
in_table Op.IDIV = told refl refl
in_table Op.AAD = told refl refl
in_table Op.CBW = told refl refl
in_table Op.CWD = told refl refl
in_table Op.NOT = told refl refl
in_table Op.SHL = told refl refl
in_table Op.SHR = told refl refl
in_table Op.SAR = told refl refl
in_table Op.ROL = told refl refl
in_table Op.ROR = told refl refl
in_table Op.RCL = told refl refl
in_table Op.RCR = told refl refl
in_table Op.AND = told refl refl
in_table Op.TEST = told refl refl
in_table Op.OR = told refl refl
in_table Op.XOR = told refl refl
in_table Op.REP = told refl refl
in_table Op.REPNE = told refl refl
in_table Op.MOVSB = told refl refl
in_table Op.MOVSW = told refl refl
in_table Op.CMPSB = told refl refl
in_table Op.CMPSW = told refl refl
in_table Op.SCASB = told refl refl
in_table Op.SCASW = told refl refl
in_table Op.LODSB = told refl refl
in_table Op.LODSW = told refl refl
in_table Op.STOSB = told refl refl
in_table Op.STOSW = told refl refl
in_table Op.CALL = told refl refl
in_table Op.JMP = told refl refl
in_table Op.RET = told refl refl
in_table Op.JE = told refl refl
in_table Op.JL = told refl refl
in_table Op.JLE = told refl refl
in_table Op.JB = told refl refl
in_table Op.JBE = told refl refl
in_table Op.JP = told refl refl
in_table Op.JO = told refl refl
in_table Op.JS = told refl refl
in_table Op.JNE = told refl refl
in_table Op.JNL = told refl refl
in_table Op.JNLE = told refl refl
in_table Op.JNB = told refl refl
in_table Op.JNBE = told refl refl
in_table Op.JNP = told refl refl
in_table Op.JNO = told refl refl
in_table Op.JNS = told refl refl
in_table Op.LOOP = told refl refl
in_table Op.LOOPZ = told refl refl
in_table Op.LOOPNZ = told refl refl
in_table Op.JCXZ = told refl refl
in_table Op.INT = told refl refl
in_table Op.INT1 = told refl refl
in_table Op.INT3 = told refl refl
in_table Op.INTO = told refl refl
in_table Op.IRET = told refl refl
in_table Op.CLC = told refl refl
in_table Op.CMC = told refl refl
in_table Op.STC = told refl refl
in_table Op.CLD = told refl refl
in_table Op.STD = told refl refl
in_table Op.CLI = told refl refl
in_table Op.STI = told refl refl
in_table Op.HLT = told refl refl
in_table Op.WAIT = told refl refl
in_table Op.ESC = told refl refl
in_table Op.LOCK = told refl refl
in_table Op.NOP = told refl refl
in_table Op.SALC = told refl refl

-- each form of an operation, with the operands that it takes, means what the record means: as they stand, and where they have no order the
-- other way round
pub record ByOperation (op : Operation) : Type 0 where
  pub leaves : All (Leaf (group_of op) op) (forms_of op)
  pub crosses : All (Crosses (group_of op) op) (forms_of op)

pub by_operation : (op : Operation) → ByOperation op
by_operation op =
    let t = in_table op in
    record {
      leaves = subst (λ (l : List Form). All (Leaf (group_of op) op) l) (sym t.forms_are) (leaves (group_of op) (base_of op) op);
      crosses = subst (λ (l : List Form). All (Crosses (group_of op) op) l) (sym t.forms_are) (crosses (group_of op) (base_of op) op t.order_is);
    }
