-- Which records are branches, and that a branch's form does not look at its target.
-- Assumes nothing.
use Rattle.std.specs.Prelude.{None, Option, Some}
use mathlib.Core.Path.{◌≡◌, refl, sym, ◌∙◌, ap}
use mathlib.Core.Bool.{Bool, true, false}
use mathlib.Core.List.{List, [], ◌∷◌}
use Prim.Native.Nat.{ℕ}
use lib.IntN.{ℤ}
use Rattle.mrc_compiler.specs.declared.encoder.InstructionData.{InstructionData}
use Rattle.mrc_compiler.specs.declared.encoder.JumpKind.{JumpKind}
use Rattle.mrc_compiler.specs.declared.encoder.JumpKind.TheVariants as J
use Rattle.mrc_compiler.specs.declared.encoder.OperandData.{OperandData}
use Rattle.mrc_compiler.specs.declared.encoder.OperandKind.{OperandKind}
use Rattle.mrc_compiler.specs.declared.encoder.OperandKind.TheVariants as K
use Rattle.mrc_compiler.specs.declared.encoder.OperandSize.{OperandSize}
use Rattle.mrc_compiler.specs.declared.encoder.OperandSize.TheVariants as S
use Rattle.mrc_compiler.specs.declared.operations.Operation.{Operation}
use Rattle.mrc_compiler.specs.Choose.{pick, both, isnt, by_kind, by_jump}
use Rattle.mrc_compiler.specs.Values.{mod_z}
use Rattle.x86.specs.declared.Instruction.{Instruction}
use Rattle.x86.specs.declared.Operand.TheVariants as O
use Rattle.x86.specs.Instructions.{repeated, canonical}
use Rattle.x86.specs.Forms.{Form, form, no, /, rm_near, mem_far, cb, cw, ptr, nil}
use Rattle.x86.proofs.Repeats.{unrepeated, canonical_repeat}
use Rattle.encode_groups.specs.declared.Group.{Group}
use Rattle.encode_groups.specs.declared.Group.TheVariants as G
use Rattle.encode_groups.specs.Grouping.{grouped_of, group_of, base_of}
use Rattle.encode_spec.specs.Records.{dst, src}
use Rattle.encode_spec.specs.Operands.{if_imm}
use Rattle.encode_spec.specs.Blocks.{block}
use Rattle.encode_spec.specs.Choice.{Choice, none, straight, crossed, takes, choose, choice}
use Rattle.encode_spec.specs.Meaning.{meant, meaning}
use Rattle.encode_spec.specs.Questions.{chosen}
use Rattle.encode_spec.proofs.Operations.{in_table}
use Rattle.encode_spec.proofs.Values.{false-true}
use Rattle.convert_spec.specs.declared.Branch.{Branch}
use Rattle.convert_spec.specs.declared.Branch.TheVariants as B
use Rattle.shift_copies.specs.Shifting.{Shift, rol, ror, rcl, rcr, shl, shr, sar, operation_of, is_shift}
use Rattle.shift_copies.proofs.Named.{named}
use Rattle.convert_spec.specs.Counts.{with_imm, has_count, with_count_one}
use Rattle.convert_spec.specs.Targets.{in_slot, in_form, branch_of, is_branch}
use Rattle.convert_laws.specs.Branches.{near_in, branch_in}
use Rattle.convert_laws.specs.NewRecords.{with_first}
use Rattle.convert_laws.proofs.Chosen.{all, holds, choose-holds, choice-holds}

-- ---- forms without a near target
abbrev far : Form → Bool
far f = isnt (is_branch (in_slot f.first))

is_none : (b : Option Branch) → isnt (is_branch b) ≡ true → b ≡ None
is_none None h = refl
is_none (Some B.Short) h = false-true h
is_none (Some B.Near) h = false-true h

none_near : (c : Choice) → holds far c ≡ true → in_form c ≡ None
none_near none h = refl
none_near (straight f) h = is_none (in_slot f.first) h
none_near (crossed f) h = refl

choose-far : (fs : List Form) (s : OperandSize) (a : OperandData) (t : OperandSize) (b : OperandData) → all far fs ≡ true → in_form (choose false fs s a t b) ≡ None
choose-far fs s a t b h = none_near (choose false fs s a t b) (choose-holds far false fs s a t b h)

-- ---- by group
no_kind : (k : OperandKind) → by_kind {A = Option Branch} k None None None None ≡ None
no_kind K.Imm = refl
no_kind K.Reg = refl
no_kind K.Seg = refl
no_kind K.Mem = refl

far_block : (g : Group) (fs : List Form) (k : ℕ) (a b : OperandData) → all far fs ≡ true → in_form (choice g fs k a b) ≡ by_kind {A = Option Branch} a.kind None None None None
far_block g fs k a b h = none_near (choice g fs k a b) (choice-holds far g fs k a b h) ∙ sym (no_kind a.kind)

-- the first form of a list, or what the rest gives
first_or : (f : Form) (fs : List Form) (s : OperandSize) (a : OperandData) (t : OperandSize) (b : OperandData) (x y : Option Branch) → in_slot f.first ≡ x
    → in_form (choose false fs s a t b) ≡ y → in_form (choose false (f ∷ fs) s a t b) ≡ pick (both (takes f.first s a) (takes f.second t b)) x y
first_or f fs s a t b x y d e = go (both (takes f.first s a) (takes f.second t b))
  where
    go : (i : Bool) → in_form (pick i (straight f) (choose false fs s a t b)) ≡ pick i x y
    go true = d
    go false = e

call_kinds : (k : OperandKind) (j : Option JumpKind) → pick (both (by_kind k (by_jump j true false true false) false false false) true) (Some B.Near) None ≡ by_kind k (near_in G.Call j) None None None
call_kinds K.Imm None = refl
call_kinds K.Imm (Some J.Far) = refl
call_kinds K.Imm (Some J.Near) = refl
call_kinds K.Imm (Some J.Short) = refl
call_kinds K.Reg j = refl
call_kinds K.Seg j = refl
call_kinds K.Mem j = refl

jump_kinds : (k : OperandKind) (j : Option JumpKind)
    → pick (both (by_kind k (by_jump j true false true false) false false false) true) (Some B.Near)
    (pick (both (by_kind k (by_jump j false true false false) false false false) true) None
    (pick (both (by_kind k (by_jump j true false false true) false false false) true) (Some B.Short) None))
    ≡ by_kind k (near_in G.Jmp j) None None None
jump_kinds K.Imm None = refl
jump_kinds K.Imm (Some J.Far) = refl
jump_kinds K.Imm (Some J.Near) = refl
jump_kinds K.Imm (Some J.Short) = refl
jump_kinds K.Reg j = refl
jump_kinds K.Seg j = refl
jump_kinds K.Mem j = refl

short_kinds : (k : OperandKind) (j : Option JumpKind) → pick (both (by_kind k (by_jump j true false false true) false false false) true) (Some B.Short) None ≡ by_kind k (near_in G.Jcc j) None None None
short_kinds K.Imm None = refl
short_kinds K.Imm (Some J.Far) = refl
short_kinds K.Imm (Some J.Near) = refl
short_kinds K.Imm (Some J.Short) = refl
short_kinds K.Reg j = refl
short_kinds K.Seg j = refl
short_kinds K.Mem j = refl

in_block : (g : Group) (n : ℕ) (op : Operation) (k : ℕ) (a b : OperandData) → in_form (choice g (block g n op) k a b) ≡ branch_in g a
unfolding block
in_block G.Arithmetic n op k a b = far_block G.Arithmetic (block G.Arithmetic n op) k a b refl
in_block G.Unary n op k a b = far_block G.Unary (block G.Unary n op) k a b refl
in_block G.Mov n op k a b = far_block G.Mov (block G.Mov n op) k a b refl
in_block G.Test n op k a b = far_block G.Test (block G.Test n op) k a b refl
in_block G.Xchg n op k a b = far_block G.Xchg (block G.Xchg n op) k a b refl
in_block G.IncDec n op k a b = far_block G.IncDec (block G.IncDec n op) k a b refl
in_block G.Push n op k a b = far_block G.Push (block G.Push n op) k a b refl
in_block G.Pop n op k a b = far_block G.Pop (block G.Pop n op) k a b refl
in_block G.Ret n op k a b = far_block G.Ret (block G.Ret n op) k a b refl
in_block G.Lea n op k a b = far_block G.Lea (block G.Lea n op) k a b refl
in_block G.LesLds n op k a b = far_block G.LesLds (block G.LesLds n op) k a b refl
in_block G.Shift n op k a b = far_block G.Shift (block G.Shift n op) k a b refl
in_block G.Call n op k a b =
    let through = form 0xFF (/ 2) op rm_near nil ∷ form 0xFF (/ 3) op mem_far nil ∷ [] in
    first_or (form 0xE8 no op cw nil) through a.size a b.size b (Some B.Near) None refl (choose-far through a.size a b.size b refl)
    ∙ call_kinds a.kind a.jmp_kind
in_block G.Jmp n op k a b =
    let through = form 0xFF (/ 4) op rm_near nil ∷ [] in
    let short = form 0xEB no op cb nil in
    let far = form 0xEA no op ptr nil in
    first_or (form 0xE9 no op cw nil) (far ∷ short ∷ through) a.size a b.size b (Some B.Near) _ refl
    (first_or far (short ∷ through) a.size a b.size b None _ refl
    (first_or short through a.size a b.size b (Some B.Short) None refl (choose-far through a.size a b.size b refl)))
    ∙ jump_kinds a.kind a.jmp_kind
in_block G.Jcc n op k a b = first_or (form n no op cb nil) [] a.size a b.size b (Some B.Short) None refl refl ∙ short_kinds a.kind a.jmp_kind
in_block G.Loopc n op k a b = first_or (form n no op cb nil) [] a.size a b.size b (Some B.Short) None refl refl ∙ short_kinds a.kind a.jmp_kind
in_block G.NoOperands n op k a b = far_block G.NoOperands (block G.NoOperands n op) k a b refl
in_block G.Prefixes n op k a b = far_block G.Prefixes (block G.Prefixes n op) k a b refl
in_block G.Int n op k a b = far_block G.Int (block G.Int n op) k a b refl
in_block G.Aam n op k a b = far_block G.Aam (block G.Aam n op) k a b refl
in_block G.Aad n op k a b = far_block G.Aad (block G.Aad n op) k a b refl
in_block G.Xlat n op k a b = far_block G.Xlat (block G.Xlat n op) k a b refl
in_block G.In n op k a b = far_block G.In (block G.In n op) k a b refl
in_block G.Out n op k a b = far_block G.Out (block G.Out n op) k a b refl
in_block G.Unsupported n op k a b = far_block G.Unsupported (block G.Unsupported n op) k a b refl

pub branch_by_group : (insn : InstructionData) → branch_of insn ≡ branch_in (group_of insn.operation) (dst insn)
unfolding branch_of
branch_by_group insn =
    let op = insn.operation in
    ap (λ fs. in_form (choice (group_of op) fs insn.num_opers (dst insn) (src insn))) (in_table op).forms_are
    ∙ in_block (group_of op) (base_of op) op insn.num_opers (dst insn) (src insn)

-- ---- its form does not look at the target
not_none : {P : Type 0} (k : OperandKind) → is_branch (by_kind {A = Option Branch} k None None None None) ≡ true → P
not_none K.Imm h = false-true h
not_none K.Reg h = false-true h
not_none K.Seg h = false-true h
not_none K.Mem h = false-true h

same_block : (g : Group) (n : ℕ) (op : Operation) (k : ℕ) (a b : OperandData) (z : ℤ) → is_branch (branch_in g a) ≡ true
    → choice g (block g n op) k (with_imm a z) b ≡ choice g (block g n op) k a b
unfolding block
same_block G.Arithmetic n op k a b z h = not_none a.kind h
same_block G.Unary n op k a b z h = not_none a.kind h
same_block G.Mov n op k a b z h = not_none a.kind h
same_block G.Test n op k a b z h = not_none a.kind h
same_block G.Xchg n op k a b z h = not_none a.kind h
same_block G.IncDec n op k a b z h = not_none a.kind h
same_block G.Push n op k a b z h = not_none a.kind h
same_block G.Pop n op k a b z h = not_none a.kind h
same_block G.Ret n op k a b z h = not_none a.kind h
same_block G.Lea n op k a b z h = not_none a.kind h
same_block G.LesLds n op k a b z h = not_none a.kind h
same_block G.Shift n op k a b z h = not_none a.kind h
same_block G.Call n op k a b z h = refl
same_block G.Jmp n op k a b z h = refl
same_block G.Jcc n op k a b z h = refl
same_block G.Loopc n op k a b z h = refl
same_block G.NoOperands n op k a b z h = not_none a.kind h
same_block G.Prefixes n op k a b z h = not_none a.kind h
same_block G.Int n op k a b z h = not_none a.kind h
same_block G.Aam n op k a b z h = not_none a.kind h
same_block G.Aad n op k a b z h = not_none a.kind h
same_block G.Xlat n op k a b z h = not_none a.kind h
same_block G.In n op k a b z h = not_none a.kind h
same_block G.Out n op k a b z h = not_none a.kind h
same_block G.Unsupported n op k a b z h = not_none a.kind h

pub same_choice : (insn : InstructionData) (z : ℤ) → is_branch (branch_of insn) ≡ true → chosen (with_first insn z) ≡ chosen insn
same_choice insn z h =
    let op = insn.operation in
    let e = (in_table op).forms_are in
    let s = same_block (group_of op) (base_of op) op insn.num_opers (dst insn) (src insn) z (rw (branch_by_group insn) at h) in
    ap (λ fs. choice (group_of op) fs insn.num_opers (with_imm (dst insn) z) (src insn)) e ∙ s ∙ sym (ap (λ fs. choice (group_of op) fs insn.num_opers (dst insn) (src insn)) e)

-- ---- it means a jump there
by_kind_lem : (k : OperandKind) (j : Option JumpKind) (b : Option Branch) (x y z w : Instruction) → is_branch (by_kind k (by_jump j (Some B.Near) None (Some B.Near) b) None None None) ≡ true
    → by_kind k (by_jump j x y x x) z z w ≡ x
by_kind_lem K.Imm None b x y z w h = refl
by_kind_lem K.Imm (Some J.Far) b x y z w h = false-true h
by_kind_lem K.Imm (Some J.Near) b x y z w h = refl
by_kind_lem K.Imm (Some J.Short) b x y z w h = refl
by_kind_lem K.Reg j b x y z w h = false-true h
by_kind_lem K.Seg j b x y z w h = false-true h
by_kind_lem K.Mem j b x y z w h = false-true h

branch_meant : (g : Group) (k : ℕ) (op : Operation) (a b : OperandData) (z : ℤ) → is_branch (branch_in g a) ≡ true
    → meant g k op (with_imm a z) b ≡ canonical op S.Unspecified (O.Near (mod_z 65536 z)) O.None
unfolding meant
branch_meant G.Arithmetic k op a b z h = not_none a.kind h
branch_meant G.Unary k op a b z h = not_none a.kind h
branch_meant G.Mov k op a b z h = not_none a.kind h
branch_meant G.Test k op a b z h = not_none a.kind h
branch_meant G.Xchg k op a b z h = not_none a.kind h
branch_meant G.IncDec k op a b z h = not_none a.kind h
branch_meant G.Push k op a b z h = not_none a.kind h
branch_meant G.Pop k op a b z h = not_none a.kind h
branch_meant G.Ret k op a b z h = not_none a.kind h
branch_meant G.Lea k op a b z h = not_none a.kind h
branch_meant G.LesLds k op a b z h = not_none a.kind h
branch_meant G.Shift k op a b z h = not_none a.kind h
branch_meant G.Call k op a b z h = by_kind_lem a.kind a.jmp_kind None _ _ _ _ h
branch_meant G.Jmp k op a b z h = by_kind_lem a.kind a.jmp_kind (Some B.Short) _ _ _ _ h
branch_meant G.Jcc k op a b z h = refl
branch_meant G.Loopc k op a b z h = refl
branch_meant G.NoOperands k op a b z h = not_none a.kind h
branch_meant G.Prefixes k op a b z h = not_none a.kind h
branch_meant G.Int k op a b z h = not_none a.kind h
branch_meant G.Aam k op a b z h = not_none a.kind h
branch_meant G.Aad k op a b z h = not_none a.kind h
branch_meant G.Xlat k op a b z h = not_none a.kind h
branch_meant G.In k op a b z h = not_none a.kind h
branch_meant G.Out k op a b z h = not_none a.kind h
branch_meant G.Unsupported k op a b z h = not_none a.kind h

pub branch_meaning : (insn : InstructionData) (z : ℤ) → insn.repeat ≡ 0 → is_branch (branch_of insn) ≡ true
    → meaning (with_first insn z) ≡ canonical insn.operation S.Unspecified (O.Near (mod_z 65536 z)) O.None
branch_meaning insn z r h =
    let m = branch_meant (group_of insn.operation) insn.num_opers insn.operation (dst insn) (src insn) z (rw (branch_by_group insn) at h) in
    ap (repeated insn.repeat) m ∙ unrepeated insn.repeat _ (r ∙ sym (canonical_repeat _ _ _ _))

-- ---- a shift is none
pub shift_group : (op : Operation) → is_shift op ≡ true → group_of op ≡ G.Shift
unfolding grouped_of
shift_group op h = let (s, e) = named op h in ap group_of e ∙ go s
  where
    go : (s : Shift) → group_of (operation_of s) ≡ G.Shift
    go rol = refl
    go ror = refl
    go rcl = refl
    go rcr = refl
    go shl = refl
    go shr = refl
    go sar = refl

if_false : (o : OperandData) → if_imm o false ≡ false
if_false o = go o.kind
  where
    go : (k : OperandKind) → by_kind k false false false false ≡ false
    go K.Imm = refl
    go K.Reg = refl
    go K.Seg = refl
    go K.Mem = refl

pub branch_no_count : (insn : InstructionData) → is_branch (branch_of insn) ≡ true → has_count insn ≡ false
unfolding has_count
branch_no_count insn h = go (is_shift insn.operation) refl
  where
    go : (b : Bool) → is_shift insn.operation ≡ b → if_imm (src insn) b ≡ false
    go true e =
        let g = shift_group insn.operation e in
        not_none (dst insn).kind (ap (λ x. is_branch (branch_in x (dst insn))) (sym g) ∙ ap is_branch (sym (branch_by_group insn)) ∙ h)
    go false e = if_false (src insn)

pub branch_as_is : (insn : InstructionData) → is_branch (branch_of insn) ≡ true → with_count_one insn ≡ insn
unfolding with_count_one
branch_as_is insn h = rw (branch_no_count insn h)
