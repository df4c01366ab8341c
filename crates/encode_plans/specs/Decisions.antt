-- What each group of 000 decides of a record, by kinds, sizes and tests, as the code does it. Nobody has to believe it: proofs/Decided shows
-- that it is the form that the questions choose, or their refusal.
-- Definitions only.
use Rattle.std.specs.Prelude.{ℕ, Bool, false, eqb, ℤ, pos, Result, Ok, Err, Option}
use Rattle.mrc_compiler.specs.declared.ast.DataSize.{DataSize}
use Rattle.mrc_compiler.specs.declared.ast.DataSize.TheVariants as Z
use Rattle.mrc_compiler.specs.declared.encoder.JumpKind.{JumpKind}
use Rattle.mrc_compiler.specs.declared.encoder.OperandData.{OperandData}
use Rattle.mrc_compiler.specs.declared.encoder.OperandKind.{OperandKind}
use Rattle.mrc_compiler.specs.declared.encoder.OperandSize.{OperandSize}
use Rattle.mrc_compiler.specs.declared.encoder.generate.NoForm.{NoForm}
use Rattle.mrc_compiler.specs.Builders.{is_direct_address}
use Rattle.mrc_compiler.specs.Choose.{pick, both, by_size, by_kind, by_jump}
use Rattle.mrc_compiler.specs.Values.{within}
use Rattle.encode_spec.specs.Limits.{limits, sign_extended}
use Rattle.encode_spec.specs.Rules.{is_word}
use Rattle.encode_groups.specs.declared.Group.{Group}
use Rattle.encode_groups.specs.declared.Group.TheVariants as G
use Rattle.encode_lines.specs.declared.Decision.{Decision}
use Rattle.encode_lines.specs.declared.Line.{Line}
use Rattle.encode_lines.specs.declared.Line.TheVariants as L
use Rattle.encode_lines.specs.Lines.{invalid_operands, invalid_first, size_not_specified, size_not_specified_first, invalid_size, target_out_of_range, not_supported, decision}
use Rattle.encode_plans.specs.Sizes.{common_of, stated_size, is_cl, is_dx, is_bx}

-- ---- the size
abbrev pub by_data : {A : Type 0} → DataSize → A → A → A
by_data Z.Byte b w = b
by_data Z.Word b w = w

-- of the size of one operand, or of two
abbrev pub with_size : Result DataSize NoForm → (DataSize → Result Line NoForm) → Result Decision NoForm
with_size (Ok z) f = decision (f z) z
with_size (Err e) f = Err e

-- a line without a size
abbrev pub unsized : Result Line NoForm → Result Decision NoForm
unsized l = decision l Z.Word

-- ---- by the kinds k and j of the operands
-- acc: the first is AL or AX; short: the immediate takes 83
abbrev pub add_form : OperandKind → OperandKind → Bool → Bool → Result Line NoForm
add_form k j acc short =
    by_kind k (Err invalid_operands)
    (by_kind j (pick short (Ok L.ArithRmImmSx) (pick acc (Ok L.ArithAccImm) (Ok L.ArithRmImm))) (Ok L.ArithRmReg) (Err invalid_operands) (Ok L.ArithRegRm))
    (Err invalid_operands)
    (by_kind j (pick short (Ok L.ArithRmImmSx) (Ok L.ArithRmImm)) (Ok L.ArithRmReg) (Err invalid_operands) (Err invalid_operands))

-- a register or memory in r/m
abbrev pub rm_form : Result Line NoForm → OperandKind → Result Line NoForm
rm_form l k = by_kind k (Err invalid_operands) l (Err invalid_operands) l

-- acc: the first is AL or AX
abbrev pub test_form : OperandKind → OperandKind → Bool → Result Line NoForm
test_form k j acc =
    by_kind k (Err invalid_operands)
    (by_kind j (pick acc (Ok L.TestAccImm) (Ok L.TestRmImm)) (Ok L.TestRmReg) (Err invalid_operands) (Ok L.TestRegRm))
    (Err invalid_operands)
    (by_kind j (Ok L.TestRmImm) (Ok L.TestRmReg) (Err invalid_operands) (Err invalid_operands))

abbrev pub inc_form : DataSize → OperandKind → Result Line NoForm
inc_form z k = by_kind k (Err invalid_operands) (by_data z (Ok L.IncRm) (Ok L.IncReg)) (Err invalid_operands) (Ok L.IncRm)

-- by 1 or by CL
abbrev pub shift_by : OperandKind → Bool → Bool → Result Line NoForm
shift_by j one cl = by_kind j (pick one (Ok L.ShiftRmOne) (Err invalid_operands)) (pick cl (Ok L.ShiftRmCl) (Err invalid_operands)) (Err invalid_operands) (Err invalid_operands)

-- a segment register is a word, and never CS is loaded
abbrev pub sreg_form : DataSize → Result Line NoForm
sreg_form z = by_data z (Err invalid_operands) (Ok L.MovRmSreg)

abbrev pub into_sreg_form : DataSize → OperandKind → Bool → Result Line NoForm
into_sreg_form z j cs =
    by_data z (Err invalid_operands) (pick cs (Err invalid_operands) (by_kind j (Err invalid_operands) (Ok L.MovSregRm) (Err invalid_operands) (Ok L.MovSregRm)))

-- from, into: AL or AX beside a direct address; cs: the first is CS
abbrev pub mov_form : DataSize → OperandKind → OperandKind → Bool → Bool → Bool → Result Line NoForm
mov_form z k j from into cs =
    by_kind k (Err invalid_operands)
    (by_kind j (Ok L.MovRegImm) (Ok L.MovRmReg) (sreg_form z) (pick from (Ok L.MovAccMoffs) (Ok L.MovRegRm)))
    (into_sreg_form z j cs)
    (by_kind j (Ok L.MovRmImm) (pick into (Ok L.MovMoffsAcc) (Ok L.MovRmReg)) (sreg_form z) (Err invalid_operands))

-- a, b: the first, the second is AX
abbrev pub xchg_form : OperandKind → OperandKind → Bool → Bool → Result Line NoForm
xchg_form k j a b =
    by_kind k (Err invalid_operands)
    (by_kind j (Err invalid_operands) (pick a (Ok L.XchgAccReg) (pick b (Ok L.XchgRegAcc) (Ok L.XchgRegRm))) (Err invalid_operands) (Ok L.XchgRegRm))
    (Err invalid_operands)
    (by_kind j (Err invalid_operands) (Ok L.XchgRmReg) (Err invalid_operands) (Err invalid_operands))

abbrev pub push_form : OperandKind → Bool → Result Line NoForm
push_form k word = by_kind k (Err invalid_first) (pick word (Ok L.PushReg) (Err invalid_first)) (Ok L.PushSreg) (pick word (Ok L.PushRm) (Err invalid_first))

abbrev pub pop_form : OperandKind → Bool → Bool → Result Line NoForm
pop_form k word cs = pick word (by_kind k (Err invalid_size) (Ok L.PopReg) (pick cs (Err invalid_operands) (Ok L.PopSreg)) (Ok L.PopRm)) (Err invalid_size)

abbrev pub load_form : OperandKind → Bool → OperandKind → Result Line NoForm
load_form k word j =
    by_kind k (Err invalid_operands)
    (pick word (by_kind j (Err invalid_operands) (Err invalid_operands) (Err invalid_operands) (Ok L.LoadRegMem)) (Err invalid_operands))
    (Err invalid_operands) (Err invalid_operands)

abbrev pub xlat_form : OperandKind → Bool → Bool → Result Line NoForm
xlat_form k word bx =
    pick word (by_kind k (Err invalid_operands) (Err invalid_operands) (Err invalid_operands) (pick bx (Ok L.XlatMem) (Err invalid_operands))) (Err invalid_size)

-- IN and OUT: the accumulator's kind, whether it is register 0; the port's kind, whether it is DX
abbrev pub port_form : Result Line NoForm → Result Line NoForm → OperandKind → Bool → OperandKind → Bool → Result Line NoForm
port_form imm dx k zero j isdx =
    by_kind k (Err invalid_operands)
    (pick zero (by_kind j imm (pick isdx dx (Err invalid_operands)) (Err invalid_operands) (Err invalid_operands)) (Err invalid_operands))
    (Err invalid_operands) (Err invalid_operands)

-- through a register or memory: near, and no Byte; Far and Short as f and s say
abbrev pub through_form : Result Line NoForm → Option JumpKind → OperandSize → Result Line NoForm → Result Line NoForm → Result Line NoForm
through_form l jump size f s =
    let near = by_size size l (Err invalid_operands) l in
    by_jump jump near f near s

-- through memory that holds a far target, no Byte
abbrev pub far_form : OperandSize → Result Line NoForm
far_form size = by_size size (Ok L.CallMemFar) (Err invalid_operands) (Ok L.CallMemFar)

abbrev pub call_form : OperandKind → Option JumpKind → OperandSize → Result Line NoForm
call_form k jump size =
    by_kind k (by_jump jump (Ok L.CallRel) (Err invalid_operands) (Ok L.CallRel) (Err invalid_operands))
    (through_form (Ok L.CallRm) jump size (Err invalid_operands) (Err invalid_operands)) (Err invalid_operands) (through_form (Ok L.CallRm) jump size (far_form size) (Err invalid_operands))

-- word: the immediate is one
abbrev pub jmp_form : OperandKind → Option JumpKind → OperandSize → Bool → Result Line NoForm
jmp_form k jump size word =
    let through = through_form (Ok L.JmpRm) jump size (Err invalid_first) (Err invalid_first) in
    by_kind k (pick word (by_jump jump (Ok L.JmpRel) (Ok L.JmpPtr) (Ok L.JmpRel) (Ok L.JmpShort)) (Err target_out_of_range)) through (Err invalid_operands) through

-- Jcc and the loops; r: the refusal
abbrev pub short_form : OperandKind → Option JumpKind → Result Line NoForm → Result Line NoForm
short_form k jump r = by_kind k (by_jump jump (Ok L.ShortRel) r r (Ok L.ShortRel)) r r r

abbrev pub ret_form : OperandKind → Result Line NoForm
ret_form k = by_kind k (Ok L.RetImm) (Err invalid_operands) (Err invalid_operands) (Err invalid_operands)

abbrev pub int_form : OperandKind → Result Line NoForm
int_form k = by_kind k (Ok L.IntImm) (Err invalid_first) (Err invalid_first) (Err invalid_first)

-- ---- the groups, for the count k and the operands a and b
-- a word immediate that 83 takes
abbrev pub takes_byte : DataSize → ℤ → Bool
takes_byte z v = by_data z false (within (limits sign_extended).low (limits sign_extended).high v)

abbrev pub acc_direct : OperandData → OperandData → Bool
acc_direct r m = both (eqb r.rm 0) (is_direct_address m.mode m.rm)

abbrev pub is_ax : DataSize → ℕ → Bool
is_ax z rm = by_data z false (eqb rm 0)

-- of the accumulator's size
abbrev pub port_decision : Result Line NoForm → Result Line NoForm → OperandData → OperandData → Result Decision NoForm
port_decision imm dx acc port =
    with_size (stated_size acc.size invalid_operands)
    (λ z. port_form imm dx acc.kind (eqb acc.rm 0) port.kind (is_dx port.size port.rm))

abbrev pub decision_in : Group → ℕ → OperandData → OperandData → Result Decision NoForm
decision_in G.Arithmetic k a b = with_size (common_of a.size b.size) (λ z. add_form a.kind b.kind (eqb a.rm 0) (takes_byte z b.imm))
decision_in G.Unary k a b = with_size (stated_size a.size size_not_specified) (λ z. rm_form (Ok L.UnaryRm) a.kind)
decision_in G.Mov k a b = with_size (common_of a.size b.size) (λ z. mov_form z a.kind b.kind (acc_direct a b) (acc_direct b a) (eqb a.rm 1))
decision_in G.Test k a b = with_size (common_of a.size b.size) (λ z. test_form a.kind b.kind (eqb a.rm 0))
decision_in G.Xchg k a b = with_size (common_of a.size b.size) (λ z. xchg_form a.kind b.kind (is_ax z a.rm) (is_ax z b.rm))
decision_in G.IncDec k a b = with_size (stated_size a.size invalid_size) (λ z. inc_form z a.kind)
decision_in G.Push k a b = unsized (push_form a.kind (is_word a.size))
decision_in G.Pop k a b = unsized (pop_form a.kind (is_word a.size) (eqb a.rm 1))
decision_in G.Ret k a b = unsized (pick (eqb k 0) (Ok L.Ret) (ret_form a.kind))
decision_in G.Lea k a b = unsized (load_form a.kind (is_word a.size) b.kind)
decision_in G.LesLds k a b = unsized (load_form a.kind (is_word a.size) b.kind)
decision_in G.Shift k a b =
    with_size (stated_size a.size size_not_specified_first)
    (λ z. rm_form (shift_by b.kind (within (pos 1) (pos 1) b.imm) (is_cl b.size b.rm)) a.kind)
decision_in G.Call k a b = unsized (call_form a.kind a.jmp_kind a.size)
decision_in G.Jmp k a b = unsized (jmp_form a.kind a.jmp_kind a.size (within (pos 0) (pos 65535) a.imm))
decision_in G.Jcc k a b = unsized (short_form a.kind a.jmp_kind (Err invalid_first))
decision_in G.Loopc k a b = unsized (short_form a.kind a.jmp_kind (Err invalid_operands))
decision_in G.NoOperands k a b = unsized (Ok L.Single)
decision_in G.Prefixes k a b = unsized (Ok L.Single)
decision_in G.Int k a b = unsized (int_form a.kind)
decision_in G.Aam k a b = unsized (Ok L.Aam)
decision_in G.Aad k a b = unsized (Ok L.Aad)
decision_in G.Xlat k a b = unsized (xlat_form a.kind (is_word a.size) (is_bx a.mode a.rm))
decision_in G.In k a b = port_decision (Ok L.InAccImm) (Ok L.InAccDx) a b
decision_in G.Out k a b = port_decision (Ok L.OutImmAcc) (Ok L.OutDxAcc) b a
decision_in G.Unsupported k a b = unsized (Err not_supported)
