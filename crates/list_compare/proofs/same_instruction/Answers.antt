use Rattle.std.proofs.Common.{◌≡◌, Bool, true, false, ◌&&◌, sym, ◌∙◌, ap, subst, eqb, refl, ℕ}
use Rattle.std.proofs.lemmas.Bool.{and_parts, false≢true}
use Rattle.std.proofs.lemmas.Bool.Decides.{same_from_decides}
use borrow.Author.Tests.{eqb-true}
use denote.Enum.Bare.{sameb, same_true, true_same}
use lib.Dec.{T, eqb_refl}
use Rattle.mrc_compiler.specs.contracts.ast.Segment as segment
use Rattle.mrc_compiler.specs.contracts.operations.Operation as operation
use Rattle.mrc_compiler.specs.contracts.encoder.OperandSize as size
use Rattle.x86.specs.declared.Instruction.{Instruction}
use Rattle.x86.specs.declared.Operand.{Operand}
use Rattle.x86.specs.declared.Operand.TheVariants as O
use Rattle.x86.specs.contracts.InstructionPartialEq.TheImpl as instructions
use Rattle.x86.specs.contracts.OperandPartialEq.TheImpl as operands
use Rattle.list_spec.specs.Operands.{same_instruction}
use Rattle.list_spec.proofs.Same.{instruction_eq, instruction_same}
use Rattle.list_compare.proofs.same_instruction.Goals as goal

-- where the derived test holds the two are one
operand_is : (a b : Operand) → (operands.ghosts).eq a b ≡ true → a ≡ b
operand_is O.None O.None e = refl
operand_is (O.Register m) (O.Register n) e = ap O.Register (eqb-true m n e)
operand_is (O.SegmentRegister m) (O.SegmentRegister n) e = ap O.SegmentRegister (eqb-true m n e)
operand_is (O.Memory m d s) (O.Memory n f t) e =
    let (x, y) = and_parts (eqb m n) (eqb d f && sameb segment.the_type s t) e in
    let (z, w) = and_parts (eqb d f) (sameb segment.the_type s t) y in
    let p = eqb-true m n x in
    let q = eqb-true d f z in
    let r = same_true segment.the_type tt s t w in
    λ i. O.Memory (p i) (q i) (r i)
operand_is (O.Immediate v) (O.Immediate w) e = ap O.Immediate (eqb-true v w e)
operand_is (O.Near v) (O.Near w) e = ap O.Near (eqb-true v w e)
operand_is (O.Far v s) (O.Far w t) e =
    let (x, y) = and_parts (eqb v w) (eqb s t) e in
    let p = eqb-true v w x in
    let q = eqb-true s t y in
    λ i. O.Far (p i) (q i)
operand_is O.One O.One e = refl
operand_is a b e = absurd (false≢true e)

instruction_is : (a b : Instruction) → (instructions.ghosts).eq a b ≡ true → a ≡ b
instruction_is a b e =
    let firsts = (operands.ghosts).eq a.first b.first in
    let seconds = (operands.ghosts).eq a.second b.second in
    let widths = sameb size.the_type a.width b.width in
    let operations = sameb operation.the_type a.operation b.operation in
    let (x0, y0) = and_parts (eqb a.repeat b.repeat) (operations && (widths && (firsts && seconds))) e in
    let (x1, y1) = and_parts operations (widths && (firsts && seconds)) y0 in
    let (x2, y2) = and_parts widths (firsts && seconds) y1 in
    let (x3, y3) = and_parts firsts seconds y2 in
    let p0 = eqb-true a.repeat b.repeat x0 in
    let p1 = same_true operation.the_type tt a.operation b.operation x1 in
    let p2 = same_true size.the_type tt a.width b.width x2 in
    let p3 = operand_is a.first b.first x3 in
    let p4 = operand_is a.second b.second y3 in
    λ i. record { repeat = p0 i; operation = p1 i; width = p2 i; first = p3 i; second = p4 i }

-- ---- and of one with itself it holds
is_true : (b : Bool) → T b → b ≡ true
is_true true t = refl
is_true false t = absurd t

one : (n : ℕ) → eqb n n ≡ true
one n = is_true (eqb n n) (eqb_refl n)

operand_same : (a : Operand) → (operands.ghosts).eq a a ≡ true
operand_same O.None = refl
operand_same (O.Register n) = one n
operand_same (O.SegmentRegister n) = one n
operand_same (O.Memory n d s) = λ i. one n i && (one d i && true_same segment.the_type s s refl i)
operand_same (O.Immediate v) = one v
operand_same (O.Near v) = one v
operand_same (O.Far v s) = λ i. one v i && one s i
operand_same O.One = refl

same : (a : Instruction) → (instructions.ghosts).eq a a ≡ true
same a = λ i.
    one a.repeat i
    && (true_same operation.the_type a.operation a.operation refl i
    && (true_same size.the_type a.width a.width refl i && (operand_same a.first i && operand_same a.second i)))

told : (r : Bool) (a b : Instruction) → r ≡ (instructions.ghosts).eq a b → r ≡ same_instruction a b
told r a b e =
    same_from_decides {P = a ≡ b} r (same_instruction a b)
    (λ t. instruction_is a b (sym e ∙ t), λ p. e ∙ subst (λ (m : Instruction). (instructions.ghosts).eq a m ≡ true) p (same a))
    (λ t. instruction_eq a b (subst T (sym t) tt), λ p. is_true (same_instruction a b) (subst (λ (m : Instruction). T (same_instruction a m)) p (instruction_same a)))

pub returns : goal.returns
returns c = told c.eq.result c.args.a c.args.b c.eq.ensures
