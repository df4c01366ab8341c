-- What a group decides is what the questions choose: for every group, the code list of its line is that of the form chosen, or the refusals
-- are the same.
-- Assumes nothing.
use mathlib.Core.Path.{◌≡◌, refl}
use Prim.Native.Nat.{ℕ, ◌+◌, ◌*◌, ◌%◌, ◌<◌}
use native.Mathlib.Omega.{arith}
use mathlib.Core.Bool.{Bool, true, false}
use mathlib.Core.Logic.{◌⊎◌, inl, inr}
use mathlib.Core.List.{List, [], ◌∷◌, Memᴰ}
use lib.Dec.{eqb}
use lib.IntN.{pos}
use Rattle.std.specs.Prelude.{Result, Ok, Err, None, Option, Some}
use Rattle.mrc_compiler.specs.declared.ast.DataSize.{DataSize}
use Rattle.mrc_compiler.specs.declared.ast.DataSize.TheVariants as Z
use Rattle.mrc_compiler.specs.declared.encoder.OperandData.{OperandData}
use Rattle.mrc_compiler.specs.declared.encoder.OperandKind.{OperandKind}
use Rattle.mrc_compiler.specs.declared.encoder.OperandKind.TheVariants as K
use Rattle.mrc_compiler.specs.declared.encoder.OperandSize.{OperandSize}
use Rattle.mrc_compiler.specs.declared.encoder.OperandSize.TheVariants as S
use Rattle.mrc_compiler.specs.declared.encoder.JumpKind.{JumpKind}
use Rattle.mrc_compiler.specs.declared.encoder.JumpKind.TheVariants as J
use Rattle.mrc_compiler.specs.declared.encoder.generate.At.{At}
use Rattle.mrc_compiler.specs.declared.encoder.generate.At.TheVariants as At
use Rattle.mrc_compiler.specs.declared.encoder.generate.Codes.{Codes}
use Rattle.mrc_compiler.specs.declared.encoder.generate.NoForm.{NoForm}
use Rattle.mrc_compiler.specs.declared.encoder.generate.Why.{Why}
use Rattle.mrc_compiler.specs.declared.encoder.generate.Why.TheVariants as W
use Rattle.mrc_compiler.specs.declared.operations.Operation.{Operation}
use Rattle.mrc_compiler.specs.Builders.{size_from_some, is_direct_address}
use Rattle.mrc_compiler.specs.Choose.{pick, both, isnt, by_size, by_jump}
use Rattle.mrc_compiler.specs.Values.{within}
use Rattle.x86.specs.Forms.{Form}
use Rattle.x86.specs.Forms as F
use Rattle.x86.specs.Reading.{keep}
use Rattle.encode_groups.specs.declared.Group.{Group}
use Rattle.encode_groups.specs.declared.Group.TheVariants as G
use Rattle.encode_spec.specs.Rules.{unasked, either_states, ordinary, refusal, is_word, at_operands, at_first, rule}
use Rattle.encode_spec.specs.Blocks.{block}
use Rattle.encode_spec.specs.Choice.{Choice, none, straight, takes, choose, is_either_way, count_by}
use Rattle.encode_spec.specs.Questions.{form_found, target_by, is_form, is_supported}
use Rattle.encode_lines.specs.declared.Line.{Line}
use Rattle.encode_lines.specs.declared.Line.TheVariants as L
use Rattle.encode_lines.specs.Lines.{invalid_operands, invalid_first, not_supported, decision, planned}
use Rattle.encode_plans.specs.Plans.{choice_plan, refusing, plan_in}
use Rattle.encode_plans.specs.Sizes.{common_of, is_cl, is_dx, is_bx}
use Rattle.encode_plans.specs.Decisions.{with_size, unsized, add_form, test_form, mov_form, xchg_form, load_form, short_form, takes_byte, acc_direct, is_ax, through_form, port_decision, decision_in}
use Rattle.encode_plans.proofs.Laws.{CommonIs, shared, not_stated, unequal, common_is, both_no, both_swap, kind_no}

-- ---- two operands of one size
-- questions 5 to 7, once the size is settled
abbrev sized_plan : Group → List Form → OperandSize → OperandData → OperandData → Result Codes NoForm
sized_plan g fs w a b = let c = choose (is_either_way g a b) fs w a w b in refusing (form_found g c a b ∷ []) (choice_plan g c)

with_size_lem : (g : Group) (fs : List Form) (k n : ℕ) (a b : OperandData) (f : DataSize → Result Line NoForm)
    → (rule g).sizing ≡ either_states → target_by (rule g).special a ≡ true → keep (count_by (rule g).special k) fs ≡ fs
    → ((z : DataSize) → planned (decision (f z) z) n ≡ sized_plan g fs (size_from_some z) a b)
    → planned (with_size (common_of a.size b.size) f) n ≡ plan_in g fs k a b
with_size_lem g fs k n a b f s t c h = go (common_of a.size b.size) (common_is a.size b.size)
  where
    go : (m : Result DataSize NoForm) → CommonIs a.size b.size m → planned (with_size m f) n ≡ plan_in g fs k a b
    go _ (shared z p q r) = rw (s, t, c, p, q, r) (h z)
    go _ (not_stated p) = rw (s, p)
    go _ (unequal p q) = rw (s, p, q)

-- ---- ADD OR ADC SBB AND SUB XOR CMP
module _ (op : Operation) (n : ℕ) (l : n + 5 < 256) (a b : OperandData) where
  add_immediate : (z : DataSize) (acc short : Bool) → a.kind ≡ K.Reg → b.kind ≡ K.Imm → eqb a.rm 0 ≡ acc → takes_byte Z.Word b.imm ≡ short
      → planned (decision (add_form K.Reg K.Imm (eqb a.rm 0) (takes_byte z b.imm)) z) n ≡ sized_plan G.Arithmetic (F.arithmetic n op) (size_from_some z) a b
  add_immediate Z.Byte true short hk hj ha hs = let e : (n + 4) % 256 ≡ n + 4 = omega arith in rw (hk, hj, ha, e)
  add_immediate Z.Byte false short hk hj ha hs = rw (hk, hj, ha)
  add_immediate Z.Word acc true hk hj ha hs = rw (hk, hj, hs)
  add_immediate Z.Word true false hk hj ha hs = let e : (n + 5) % 256 ≡ n + 5 = omega arith in rw (hk, hj, ha, hs, e)
  add_immediate Z.Word false false hk hj ha hs = rw (hk, hj, ha, hs)

  add_stored : (z : DataSize) (short : Bool) → a.kind ≡ K.Mem → b.kind ≡ K.Imm → takes_byte Z.Word b.imm ≡ short
      → planned (decision (add_form K.Mem K.Imm (eqb a.rm 0) (takes_byte z b.imm)) z) n ≡ sized_plan G.Arithmetic (F.arithmetic n op) (size_from_some z) a b
  add_stored Z.Byte short hk hj hs = rw (hk, hj)
  add_stored Z.Word true hk hj hs = rw (hk, hj, hs)
  add_stored Z.Word false hk hj hs = rw (hk, hj, hs)

  add_law : (z : DataSize) (k j : OperandKind) → a.kind ≡ k → b.kind ≡ j
      → planned (decision (add_form k j (eqb a.rm 0) (takes_byte z b.imm)) z) n ≡ sized_plan G.Arithmetic (F.arithmetic n op) (size_from_some z) a b
  add_law z K.Imm j hk hj = rw hk
  add_law z K.Reg K.Imm hk hj = add_immediate z _ _ hk hj refl refl
  add_law Z.Byte K.Reg K.Reg hk hj = let e : (n + 0) % 256 ≡ n = omega arith in rw (hk, hj, e)
  add_law Z.Word K.Reg K.Reg hk hj = let e : (n + 1) % 256 ≡ n + 1 = omega arith in rw (hk, hj, e)
  add_law z K.Reg K.Seg hk hj = simp (hk, hj, both_no)
  add_law Z.Byte K.Reg K.Mem hk hj = let e : (n + 2) % 256 ≡ n + 2 = omega arith in rw (hk, hj, e)
  add_law Z.Word K.Reg K.Mem hk hj = let e : (n + 3) % 256 ≡ n + 3 = omega arith in rw (hk, hj, e)
  add_law z K.Seg j hk hj = rw hk
  add_law z K.Mem K.Imm hk hj = add_stored z _ hk hj refl
  add_law Z.Byte K.Mem K.Reg hk hj = let e : (n + 0) % 256 ≡ n = omega arith in rw (hk, hj, e)
  add_law Z.Word K.Mem K.Reg hk hj = let e : (n + 1) % 256 ≡ n + 1 = omega arith in rw (hk, hj, e)
  add_law z K.Mem K.Seg hk hj = simp (hk, hj, both_no)
  add_law z K.Mem K.Mem hk hj = simp (hk, hj, both_no)

-- ---- MOV
module _ (op : Operation) (n : ℕ) (a b : OperandData) where
  mov_from : (z : DataSize) (acc direct : Bool) → a.kind ≡ K.Reg → b.kind ≡ K.Mem → eqb a.rm 0 ≡ acc → is_direct_address b.mode b.rm ≡ direct
      → planned (decision (mov_form z K.Reg K.Mem (acc_direct a b) (acc_direct b a) (eqb a.rm 1)) z) n ≡ sized_plan G.Mov (F.move op) (size_from_some z) a b
  mov_from Z.Byte true true hk hj ha hd = rw (hk, hj, ha, hd)
  mov_from Z.Byte true false hk hj ha hd = rw (hk, hj, ha, hd)
  mov_from Z.Byte false direct hk hj ha hd = rw (hk, hj, ha)
  mov_from Z.Word true true hk hj ha hd = rw (hk, hj, ha, hd)
  mov_from Z.Word true false hk hj ha hd = rw (hk, hj, ha, hd)
  mov_from Z.Word false direct hk hj ha hd = rw (hk, hj, ha)

  mov_into : (z : DataSize) (acc direct : Bool) → a.kind ≡ K.Mem → b.kind ≡ K.Reg → eqb b.rm 0 ≡ acc → is_direct_address a.mode a.rm ≡ direct
      → planned (decision (mov_form z K.Mem K.Reg (acc_direct a b) (acc_direct b a) (eqb a.rm 1)) z) n ≡ sized_plan G.Mov (F.move op) (size_from_some z) a b
  mov_into Z.Byte true true hk hj ha hd = rw (hk, hj, ha, hd)
  mov_into Z.Byte false true hk hj ha hd = rw (hk, hj, ha, hd)
  mov_into Z.Byte acc false hk hj ha hd = rw (hk, hj, hd, both_no (eqb b.rm 0))
  mov_into Z.Word true true hk hj ha hd = rw (hk, hj, ha, hd)
  mov_into Z.Word false true hk hj ha hd = rw (hk, hj, ha, hd)
  mov_into Z.Word acc false hk hj ha hd = rw (hk, hj, hd, both_no (eqb b.rm 0))

  mov_sreg : (cs : Bool) (j : OperandKind) → a.kind ≡ K.Seg → b.kind ≡ j → eqb a.rm 1 ≡ cs
      → planned (decision (mov_form Z.Word K.Seg j (acc_direct a b) (acc_direct b a) (eqb a.rm 1)) Z.Word) n ≡ sized_plan G.Mov (F.move op) S.Word a b
  mov_sreg true j hk hj hc = rw (hk, hc)
  mov_sreg false K.Imm hk hj hc = rw (hk, hj, hc)
  mov_sreg false K.Reg hk hj hc = rw (hk, hj, hc)
  mov_sreg false K.Seg hk hj hc = rw (hk, hj, hc)
  mov_sreg false K.Mem hk hj hc = rw (hk, hj, hc)

  mov_law : (z : DataSize) (k j : OperandKind) → a.kind ≡ k → b.kind ≡ j
      → planned (decision (mov_form z k j (acc_direct a b) (acc_direct b a) (eqb a.rm 1)) z) n ≡ sized_plan G.Mov (F.move op) (size_from_some z) a b
  mov_law z K.Imm j hk hj = rw hk
  mov_law Z.Byte K.Reg K.Imm hk hj = simp (hk, hj, both_no)
  mov_law Z.Word K.Reg K.Imm hk hj = simp (hk, hj, both_no)
  mov_law Z.Byte K.Reg K.Reg hk hj = simp (hk, hj, both_no)
  mov_law Z.Word K.Reg K.Reg hk hj = simp (hk, hj, both_no)
  mov_law Z.Byte K.Reg K.Seg hk hj = simp (hk, hj, both_no)
  mov_law Z.Word K.Reg K.Seg hk hj = simp (hk, hj, both_no)
  mov_law z K.Reg K.Mem hk hj = mov_from z _ _ hk hj refl refl
  mov_law Z.Byte K.Seg j hk hj = rw (hk, kind_no b.kind, both_no (isnt (eqb a.rm 1)))
  mov_law Z.Word K.Seg j hk hj = mov_sreg _ j hk hj refl
  mov_law Z.Byte K.Mem K.Imm hk hj = simp (hk, hj, both_no)
  mov_law Z.Word K.Mem K.Imm hk hj = simp (hk, hj, both_no)
  mov_law z K.Mem K.Reg hk hj = mov_into z _ _ hk hj refl refl
  mov_law Z.Byte K.Mem K.Seg hk hj = simp (hk, hj, both_no)
  mov_law Z.Word K.Mem K.Seg hk hj = simp (hk, hj, both_no)
  mov_law Z.Byte K.Mem K.Mem hk hj = simp (hk, hj, both_no)
  mov_law Z.Word K.Mem K.Mem hk hj = simp (hk, hj, both_no)

  -- ---- XCHG
  xchg_registers : (x y : Bool) → a.kind ≡ K.Reg → b.kind ≡ K.Reg → eqb a.rm 0 ≡ x → eqb b.rm 0 ≡ y
      → planned (decision (xchg_form K.Reg K.Reg (eqb a.rm 0) (eqb b.rm 0)) Z.Word) n ≡ sized_plan G.Xchg (F.exchange op) S.Word a b
  xchg_registers true y hk hj hx hy = rw (hk, hj, hx)
  xchg_registers false true hk hj hx hy = rw (hk, hj, hx, hy)
  xchg_registers false false hk hj hx hy = rw (hk, hj, hx, hy)

  xchg_law : (z : DataSize) (k j : OperandKind) → a.kind ≡ k → b.kind ≡ j
      → planned (decision (xchg_form k j (is_ax z a.rm) (is_ax z b.rm)) z) n ≡ sized_plan G.Xchg (F.exchange op) (size_from_some z) a b
  xchg_law z K.Imm j hk hj = simp (hk, kind_no, both_no)
  xchg_law z K.Reg K.Imm hk hj = simp (hk, hj, both_no)
  xchg_law Z.Byte K.Reg K.Reg hk hj = rw (hk, hj)
  xchg_law Z.Word K.Reg K.Reg hk hj = xchg_registers _ _ hk hj refl refl
  xchg_law z K.Reg K.Seg hk hj = simp (hk, hj, both_no)
  xchg_law Z.Byte K.Reg K.Mem hk hj = simp (hk, hj, both_no)
  xchg_law Z.Word K.Reg K.Mem hk hj = simp (hk, hj, both_no)
  xchg_law z K.Seg j hk hj = simp (hk, kind_no, both_no)
  xchg_law z K.Mem K.Imm hk hj = simp (hk, hj, both_no)
  xchg_law Z.Byte K.Mem K.Reg hk hj = simp (hk, hj, both_no)
  xchg_law Z.Word K.Mem K.Reg hk hj = simp (hk, hj, both_no)
  xchg_law z K.Mem K.Seg hk hj = simp (hk, hj, both_no)
  xchg_law z K.Mem K.Mem hk hj = simp (hk, hj, both_no)

  -- ---- TEST
  test_immediate : (z : DataSize) (acc : Bool) → a.kind ≡ K.Reg → b.kind ≡ K.Imm → eqb a.rm 0 ≡ acc
      → planned (decision (test_form K.Reg K.Imm (eqb a.rm 0)) z) n ≡ sized_plan G.Test (F.test op) (size_from_some z) a b
  test_immediate Z.Byte true hk hj ha = rw (hk, hj, ha)
  test_immediate Z.Byte false hk hj ha = rw (hk, hj, ha)
  test_immediate Z.Word true hk hj ha = rw (hk, hj, ha)
  test_immediate Z.Word false hk hj ha = rw (hk, hj, ha)

  test_law : (z : DataSize) (k j : OperandKind) → a.kind ≡ k → b.kind ≡ j
      → planned (decision (test_form k j (eqb a.rm 0)) z) n ≡ sized_plan G.Test (F.test op) (size_from_some z) a b
  test_law z K.Imm j hk hj = rw hk
  test_law z K.Reg K.Imm hk hj = test_immediate z _ hk hj refl
  test_law Z.Byte K.Reg K.Reg hk hj = rw (hk, hj)
  test_law Z.Word K.Reg K.Reg hk hj = rw (hk, hj)
  test_law z K.Reg K.Seg hk hj = simp (hk, hj, both_no)
  test_law Z.Byte K.Reg K.Mem hk hj = simp (hk, hj, both_no)
  test_law Z.Word K.Reg K.Mem hk hj = simp (hk, hj, both_no)
  test_law z K.Seg j hk hj = rw hk
  test_law Z.Byte K.Mem K.Imm hk hj = rw (hk, hj)
  test_law Z.Word K.Mem K.Imm hk hj = rw (hk, hj)
  test_law Z.Byte K.Mem K.Reg hk hj = rw (hk, hj)
  test_law Z.Word K.Mem K.Reg hk hj = rw (hk, hj)
  test_law z K.Mem K.Seg hk hj = simp (hk, hj, both_no)
  test_law z K.Mem K.Mem hk hj = simp (hk, hj, both_no)

  -- ---- one operand of its own size
  unary_law : (c : ℕ) (s : OperandSize) (k : OperandKind) → a.size ≡ s → a.kind ≡ k → planned (decision_in G.Unary c a b) n ≡ plan_in G.Unary (F.unary n op) c a b
  unary_law c S.Unspecified k hs hk = rw hs
  unary_law c S.Byte K.Imm hs hk = rw (hs, hk)
  unary_law c S.Byte K.Reg hs hk = rw (hs, hk)
  unary_law c S.Byte K.Seg hs hk = rw (hs, hk)
  unary_law c S.Byte K.Mem hs hk = rw (hs, hk)
  unary_law c S.Word K.Imm hs hk = rw (hs, hk)
  unary_law c S.Word K.Reg hs hk = rw (hs, hk)
  unary_law c S.Word K.Seg hs hk = rw (hs, hk)
  unary_law c S.Word K.Mem hs hk = rw (hs, hk)

  inc_law : 0x40 + 8 * n < 256 → (c : ℕ) (s : OperandSize) (k : OperandKind) → a.size ≡ s → a.kind ≡ k
      → planned (decision_in G.IncDec c a b) n ≡ plan_in G.IncDec (F.inc_dec n op) c a b
  inc_law l c S.Unspecified k hs hk = rw hs
  inc_law l c S.Byte K.Imm hs hk = rw (hs, hk)
  inc_law l c S.Byte K.Reg hs hk = rw (hs, hk)
  inc_law l c S.Byte K.Seg hs hk = rw (hs, hk)
  inc_law l c S.Byte K.Mem hs hk = rw (hs, hk)
  inc_law l c S.Word K.Imm hs hk = rw (hs, hk)
  inc_law l c S.Word K.Reg hs hk = let e : (0x40 + 8 * n) % 256 ≡ 0x40 + 8 * n = omega arith in rw (hs, hk, e)
  inc_law l c S.Word K.Seg hs hk = rw (hs, hk)
  inc_law l c S.Word K.Mem hs hk = rw (hs, hk)

  -- by 1 or CL: what the second operand says
  shift_by : (c : ℕ) (z : DataSize) (j : OperandKind) (one cl : Bool) → a.size ≡ size_from_some z → (a.kind ≡ K.Reg) ⊎ (a.kind ≡ K.Mem) → b.kind ≡ j
      → within (pos 1) (pos 1) b.imm ≡ one → is_cl b.size b.rm ≡ cl
      → planned (decision_in G.Shift c a b) n ≡ plan_in G.Shift (F.shift n op) c a b
  shift_by c Z.Byte K.Imm true cl hs (inl hk) hj ho hc = rw (hs, hk, hj, ho)
  shift_by c Z.Byte K.Imm false cl hs (inl hk) hj ho hc = rw (hs, hk, hj, ho)
  shift_by c Z.Byte K.Reg one true hs (inl hk) hj ho hc = rw (hs, hk, hj, hc)
  shift_by c Z.Byte K.Reg one false hs (inl hk) hj ho hc = rw (hs, hk, hj, hc)
  shift_by c Z.Byte K.Seg one cl hs (inl hk) hj ho hc = rw (hs, hk, hj)
  shift_by c Z.Byte K.Mem one cl hs (inl hk) hj ho hc = rw (hs, hk, hj)
  shift_by c Z.Word K.Imm true cl hs (inl hk) hj ho hc = rw (hs, hk, hj, ho)
  shift_by c Z.Word K.Imm false cl hs (inl hk) hj ho hc = rw (hs, hk, hj, ho)
  shift_by c Z.Word K.Reg one true hs (inl hk) hj ho hc = rw (hs, hk, hj, hc)
  shift_by c Z.Word K.Reg one false hs (inl hk) hj ho hc = rw (hs, hk, hj, hc)
  shift_by c Z.Word K.Seg one cl hs (inl hk) hj ho hc = rw (hs, hk, hj)
  shift_by c Z.Word K.Mem one cl hs (inl hk) hj ho hc = rw (hs, hk, hj)
  shift_by c Z.Byte K.Imm true cl hs (inr hk) hj ho hc = rw (hs, hk, hj, ho)
  shift_by c Z.Byte K.Imm false cl hs (inr hk) hj ho hc = rw (hs, hk, hj, ho)
  shift_by c Z.Byte K.Reg one true hs (inr hk) hj ho hc = rw (hs, hk, hj, hc)
  shift_by c Z.Byte K.Reg one false hs (inr hk) hj ho hc = rw (hs, hk, hj, hc)
  shift_by c Z.Byte K.Seg one cl hs (inr hk) hj ho hc = rw (hs, hk, hj)
  shift_by c Z.Byte K.Mem one cl hs (inr hk) hj ho hc = rw (hs, hk, hj)
  shift_by c Z.Word K.Imm true cl hs (inr hk) hj ho hc = rw (hs, hk, hj, ho)
  shift_by c Z.Word K.Imm false cl hs (inr hk) hj ho hc = rw (hs, hk, hj, ho)
  shift_by c Z.Word K.Reg one true hs (inr hk) hj ho hc = rw (hs, hk, hj, hc)
  shift_by c Z.Word K.Reg one false hs (inr hk) hj ho hc = rw (hs, hk, hj, hc)
  shift_by c Z.Word K.Seg one cl hs (inr hk) hj ho hc = rw (hs, hk, hj)
  shift_by c Z.Word K.Mem one cl hs (inr hk) hj ho hc = rw (hs, hk, hj)

  shift_law : (c : ℕ) (s : OperandSize) (k : OperandKind) → a.size ≡ s → a.kind ≡ k → planned (decision_in G.Shift c a b) n ≡ plan_in G.Shift (F.shift n op) c a b
  shift_law c S.Unspecified k hs hk = rw hs
  shift_law c S.Byte K.Imm hs hk = rw (hs, hk)
  shift_law c S.Byte K.Reg hs hk = shift_by c Z.Byte _ _ _ hs (inl hk) refl refl refl
  shift_law c S.Byte K.Seg hs hk = rw (hs, hk)
  shift_law c S.Byte K.Mem hs hk = shift_by c Z.Byte _ _ _ hs (inr hk) refl refl refl
  shift_law c S.Word K.Imm hs hk = rw (hs, hk)
  shift_law c S.Word K.Reg hs hk = shift_by c Z.Word _ _ _ hs (inl hk) refl refl refl
  shift_law c S.Word K.Seg hs hk = rw (hs, hk)
  shift_law c S.Word K.Mem hs hk = shift_by c Z.Word _ _ _ hs (inr hk) refl refl refl

  -- ---- PUSH, POP, LEA LES LDS, XLATB
  push_law : (c : ℕ) (s : OperandSize) (k : OperandKind) → a.size ≡ s → a.kind ≡ k → planned (decision_in G.Push c a b) n ≡ plan_in G.Push (F.push op) c a b
  push_law c s K.Imm hs hk = rw hk
  push_law c S.Unspecified K.Reg hs hk = rw (hs, hk)
  push_law c S.Byte K.Reg hs hk = rw (hs, hk)
  push_law c S.Word K.Reg hs hk = rw (hs, hk)
  push_law c s K.Seg hs hk = rw hk
  push_law c S.Unspecified K.Mem hs hk = rw (hs, hk)
  push_law c S.Byte K.Mem hs hk = rw (hs, hk)
  push_law c S.Word K.Mem hs hk = rw (hs, hk)

  pop_law : (c : ℕ) (s : OperandSize) (k : OperandKind) (cs : Bool) → a.size ≡ s → a.kind ≡ k → eqb a.rm 1 ≡ cs
      → planned (decision_in G.Pop c a b) n ≡ plan_in G.Pop (F.pop op) c a b
  pop_law c S.Unspecified k cs hs hk hc = rw hs
  pop_law c S.Byte k cs hs hk hc = rw hs
  pop_law c S.Word K.Imm cs hs hk hc = rw (hs, hk)
  pop_law c S.Word K.Reg cs hs hk hc = rw (hs, hk)
  pop_law c S.Word K.Seg true hs hk hc = rw (hs, hk, hc)
  pop_law c S.Word K.Seg false hs hk hc = rw (hs, hk, hc)
  pop_law c S.Word K.Mem cs hs hk hc = rw (hs, hk)

  load_law : (g : Group) → rule g ≡ rule G.Lea → (s : OperandSize) (k j : OperandKind) → a.size ≡ s → a.kind ≡ k → b.kind ≡ j
      → (c : ℕ) → planned (unsized (load_form a.kind (is_word a.size) b.kind)) n ≡ plan_in g (F.load n op) c a b
  load_law g e s K.Imm j hs hk hj c = rw (e, hk)
  load_law g e S.Unspecified K.Reg j hs hk hj c = rw (e, hs, hk)
  load_law g e S.Byte K.Reg j hs hk hj c = rw (e, hs, hk)
  load_law g e S.Word K.Reg K.Imm hs hk hj c = rw (e, hs, hk, hj)
  load_law g e S.Word K.Reg K.Reg hs hk hj c = rw (e, hs, hk, hj)
  load_law g e S.Word K.Reg K.Seg hs hk hj c = rw (e, hs, hk, hj)
  load_law g e S.Word K.Reg K.Mem hs hk hj c = rw (e, hs, hk, hj)
  load_law g e s K.Seg j hs hk hj c = rw (e, hk)
  load_law g e s K.Mem j hs hk hj c = rw (e, hk)

  xlat_law : (c : ℕ) (s : OperandSize) (k : OperandKind) (bx : Bool) → a.size ≡ s → a.kind ≡ k → is_bx a.mode a.rm ≡ bx
      → planned (decision_in G.Xlat c a b) n ≡ plan_in G.Xlat (F.translate op) c a b
  xlat_law c S.Unspecified k bx hs hk hb = rw hs
  xlat_law c S.Byte k bx hs hk hb = rw hs
  xlat_law c S.Word K.Imm bx hs hk hb = rw (hs, hk)
  xlat_law c S.Word K.Reg bx hs hk hb = rw (hs, hk)
  xlat_law c S.Word K.Seg bx hs hk hb = rw (hs, hk)
  xlat_law c S.Word K.Mem true hs hk hb = rw (hs, hk, hb)
  xlat_law c S.Word K.Mem false hs hk hb = rw (hs, hk, hb)
  -- ---- IN and OUT: an accumulator x and a port y, and the four forms of the group

-- a form that is found, or 1
abbrev found_or_1 : Group → Choice → Result Codes NoForm
found_or_1 g c = pick (is_form c) (choice_plan g c) (Err invalid_operands)

abbrev port_choice : Form → Form → Form → Form → OperandData → OperandData → Choice
port_choice fb fw db dw x y =
    pick (both (takes (F.acc F.byte) x.size x) (takes F.ib y.size y)) (straight fb)
    (pick (both (takes (F.acc F.word) x.size x) (takes F.ib y.size y)) (straight fw)
    (pick (both (takes (F.acc F.byte) x.size x) (takes F.dx y.size y)) (straight db)
    (pick (both (takes (F.acc F.word) x.size x) (takes F.dx y.size y)) (straight dw) none)))

module _ (n : ℕ) (g : Group) (li ld : Result Line NoForm) (fb fw db dw : Form) (x y : OperandData)
    (pb : planned (decision li Z.Byte) n ≡ choice_plan g (straight fb)) (pw : planned (decision li Z.Word) n ≡ choice_plan g (straight fw))
    (qb : planned (decision ld Z.Byte) n ≡ choice_plan g (straight db)) (qw : planned (decision ld Z.Word) n ≡ choice_plan g (straight dw)) where
  port_law : (s : OperandSize) (k j : OperandKind) (zero dx : Bool) → x.size ≡ s → x.kind ≡ k → y.kind ≡ j → eqb x.rm 0 ≡ zero → is_dx y.size y.rm ≡ dx
      → planned (port_decision li ld x y) n ≡ found_or_1 g (port_choice fb fw db dw x y)
  port_law S.Unspecified k j zero dx hs hk hj hz hd = simp (hs, kind_no)
  port_law S.Byte K.Imm j zero dx hs hk hj hz hd = simp (hs, hk)
  port_law S.Byte K.Seg j zero dx hs hk hj hz hd = simp (hs, hk)
  port_law S.Byte K.Mem j zero dx hs hk hj hz hd = simp (hs, hk)
  port_law S.Byte K.Reg j false dx hs hk hj hz hd = simp (hs, hk, hz)
  port_law S.Byte K.Reg K.Imm true dx hs hk hj hz hd = rw (hs, hk, hj, hz) pb
  port_law S.Byte K.Reg K.Reg true true hs hk hj hz hd = rw (hs, hk, hj, hz, hd) qb
  port_law S.Byte K.Reg K.Reg true false hs hk hj hz hd = rw (hs, hk, hj, hz, hd)
  port_law S.Byte K.Reg K.Seg true dx hs hk hj hz hd = rw (hs, hk, hj, hz)
  port_law S.Byte K.Reg K.Mem true dx hs hk hj hz hd = rw (hs, hk, hj, hz)
  port_law S.Word K.Imm j zero dx hs hk hj hz hd = simp (hs, hk)
  port_law S.Word K.Seg j zero dx hs hk hj hz hd = simp (hs, hk)
  port_law S.Word K.Mem j zero dx hs hk hj hz hd = simp (hs, hk)
  port_law S.Word K.Reg j false dx hs hk hj hz hd = simp (hs, hk, hz)
  port_law S.Word K.Reg K.Imm true dx hs hk hj hz hd = rw (hs, hk, hj, hz) pw
  port_law S.Word K.Reg K.Reg true true hs hk hj hz hd = rw (hs, hk, hj, hz, hd) qw
  port_law S.Word K.Reg K.Reg true false hs hk hj hz hd = rw (hs, hk, hj, hz, hd)
  port_law S.Word K.Reg K.Seg true dx hs hk hj hz hd = rw (hs, hk, hj, hz)
  port_law S.Word K.Reg K.Mem true dx hs hk hj hz hd = rw (hs, hk, hj, hz)

module _ (op : Operation) (n : ℕ) (a b : OperandData) where
  in_law : (c : ℕ) → planned (decision_in G.In c a b) n ≡ plan_in G.In (F.input op) c a b
  in_law c =
      port_law n G.In (Ok L.InAccImm) (Ok L.InAccDx) (F.form 0xE4 F.no op (F.acc F.byte) F.ib) (F.form 0xE5 F.no op (F.acc F.word) F.ib)
      (F.form 0xEC F.no op (F.acc F.byte) F.dx) (F.form 0xED F.no op (F.acc F.word) F.dx) a b refl refl refl refl
      a.size a.kind b.kind _ _ refl refl refl refl refl

  out_law : (c : ℕ) → planned (decision_in G.Out c a b) n ≡ plan_in G.Out (F.output op) c a b
  out_law c =
      rw (
        both_swap (takes F.ib a.size a) (takes (F.acc F.byte) b.size b),
        both_swap (takes F.ib a.size a) (takes (F.acc F.word) b.size b),
        both_swap (takes F.dx a.size a) (takes (F.acc F.byte) b.size b),
        both_swap (takes F.dx a.size a) (takes (F.acc F.word) b.size b),
      )
      (port_law n G.Out (Ok L.OutImmAcc) (Ok L.OutDxAcc) (F.form 0xE6 F.no op F.ib (F.acc F.byte)) (F.form 0xE7 F.no op F.ib (F.acc F.word))
      (F.form 0xEE F.no op F.dx (F.acc F.byte)) (F.form 0xEF F.no op F.dx (F.acc F.word)) b a refl refl refl refl
      b.size b.kind a.kind _ _ refl refl refl refl refl)

  -- ---- CALL and JMP through a register or memory: near and no Byte, else what the kind of jump says
  -- 1
  abbrev one : Result Codes NoForm
  one = Err invalid_operands

  through_law : (g : Group) (l far short : Result Line NoForm) (f : Form) (why : Why) (at : At) (j : Option JumpKind) (s : OperandSize) → planned (unsized l) n ≡ choice_plan g (straight f)
      → by_jump j one (planned (unsized far) n) one (planned (unsized short) n) ≡ Err (record { why = why; at = at })
      → let c = pick (both (both (by_jump j true false true false) (by_size s true false true)) true) (straight f) none in
      planned (unsized (through_form l j s far short)) n ≡ pick (is_form c) (choice_plan g c) (Err (record { why = why; at = at }))
  through_law g l far short f why at None S.Unspecified h r = h
  through_law g l far short f why at None S.Byte h r = r
  through_law g l far short f why at None S.Word h r = h
  through_law g l far short f why at (Some J.Far) s h r = r
  through_law g l far short f why at (Some J.Near) S.Unspecified h r = h
  through_law g l far short f why at (Some J.Near) S.Byte h r = r
  through_law g l far short f why at (Some J.Near) S.Word h r = h
  through_law g l far short f why at (Some J.Short) s h r = r

  -- its refusals: of CALL through a register, of JMP
  call_reg_refusal : (j : Option JumpKind) → by_jump j one one one one ≡ one
  call_reg_refusal None = refl
  call_reg_refusal (Some J.Far) = refl
  call_reg_refusal (Some J.Near) = refl
  call_reg_refusal (Some J.Short) = refl

  jmp_refusal : (j : Option JumpKind) → let r = pick (by_jump j false true false true) (at_first a b) (at_operands a b) in
      by_jump j one (Err invalid_first) one (Err invalid_first) ≡ Err (record { why = r.why; at = r.at })
  jmp_refusal None = refl
  jmp_refusal (Some J.Far) = refl
  jmp_refusal (Some J.Near) = refl
  jmp_refusal (Some J.Short) = refl

  -- through memory near or far
  call_memory : (c : ℕ) (j : Option JumpKind) (s : OperandSize) → a.kind ≡ K.Mem → a.jmp_kind ≡ j → a.size ≡ s → planned (decision_in G.Call c a b) n ≡ plan_in G.Call (F.call op) c a b
  call_memory c None S.Unspecified hk hj hs = rw (hk, hj, hs)
  call_memory c None S.Byte hk hj hs = rw (hk, hj, hs)
  call_memory c None S.Word hk hj hs = rw (hk, hj, hs)
  call_memory c (Some J.Far) S.Unspecified hk hj hs = rw (hk, hj, hs)
  call_memory c (Some J.Far) S.Byte hk hj hs = rw (hk, hj, hs)
  call_memory c (Some J.Far) S.Word hk hj hs = rw (hk, hj, hs)
  call_memory c (Some J.Near) S.Unspecified hk hj hs = rw (hk, hj, hs)
  call_memory c (Some J.Near) S.Byte hk hj hs = rw (hk, hj, hs)
  call_memory c (Some J.Near) S.Word hk hj hs = rw (hk, hj, hs)
  call_memory c (Some J.Short) s hk hj hs = rw (hk, hj)

  call_law : (c : ℕ) (k : OperandKind) (j : Option JumpKind) → a.kind ≡ k → a.jmp_kind ≡ j → planned (decision_in G.Call c a b) n ≡ plan_in G.Call (F.call op) c a b
  call_law c K.Imm None hk hj = rw (hk, hj)
  call_law c K.Imm (Some J.Far) hk hj = rw (hk, hj)
  call_law c K.Imm (Some J.Near) hk hj = rw (hk, hj)
  call_law c K.Imm (Some J.Short) hk hj = rw (hk, hj)
  call_law c K.Reg j hk hj =
      rw hk (through_law G.Call (Ok L.CallRm) (Err invalid_operands) (Err invalid_operands) (F.form 0xFF (F./ 2) op F.rm_near F.nil) W.InvalidOperands At.Operands
      a.jmp_kind a.size refl (call_reg_refusal a.jmp_kind))
  call_law c K.Seg j hk hj = rw hk
  call_law c K.Mem j hk hj = call_memory c _ _ hk refl refl

  jmp_law : (c : ℕ) (k : OperandKind) (j : Option JumpKind) (word : Bool) → a.kind ≡ k → a.jmp_kind ≡ j → within (pos 0) (pos 65535) a.imm ≡ word
      → planned (decision_in G.Jmp c a b) n ≡ plan_in G.Jmp (F.jump op) c a b
  jmp_law c K.Imm j false hk hj hw = rw (hk, hw)
  jmp_law c K.Imm None true hk hj hw = rw (hk, hj, hw)
  jmp_law c K.Imm (Some J.Far) true hk hj hw = rw (hk, hj, hw)
  jmp_law c K.Imm (Some J.Near) true hk hj hw = rw (hk, hj, hw)
  jmp_law c K.Imm (Some J.Short) true hk hj hw = rw (hk, hj, hw)
  jmp_law c K.Reg j word hk hj hw =
      rw hk (through_law G.Jmp (Ok L.JmpRm) (Err invalid_first) (Err invalid_first) (F.form 0xFF (F./ 4) op F.rm_near F.nil) _ _
      a.jmp_kind a.size refl (jmp_refusal a.jmp_kind))
  jmp_law c K.Seg j word hk hj hw = rw hk
  jmp_law c K.Mem j word hk hj hw =
      rw hk (through_law G.Jmp (Ok L.JmpRm) (Err invalid_first) (Err invalid_first) (F.form 0xFF (F./ 4) op F.rm_near F.nil) _ _
      a.jmp_kind a.size refl (jmp_refusal a.jmp_kind))

  -- ---- Jcc and the loops, INT, RET
  short_law : (g : Group) (at : At) (r : Result Line NoForm) → planned (unsized r) n ≡ Err (record { why = W.InvalidOperands; at = at }) → (rule g).sizing ≡ unasked → (rule g).special ≡ ordinary → (rule g).without_form a b ≡ refusal W.InvalidOperands at
      → (c : ℕ) (k : OperandKind) (j : Option JumpKind) → a.kind ≡ k → a.jmp_kind ≡ j
      → planned (unsized (short_form a.kind a.jmp_kind r)) n ≡ plan_in g (F.short n op ∷ []) c a b
  short_law g at r i e x w c K.Imm None hk hj = rw (e, x, w, hk, hj)
  short_law g at r i e x w c K.Imm (Some J.Far) hk hj = rw (e, x, w, hk, hj, i)
  short_law g at r i e x w c K.Imm (Some J.Near) hk hj = rw (e, x, w, hk, hj, i)
  short_law g at r i e x w c K.Imm (Some J.Short) hk hj = rw (e, x, w, hk, hj)
  short_law g at r i e x w c K.Reg j hk hj = rw (e, x, w, hk, i)
  short_law g at r i e x w c K.Seg j hk hj = rw (e, x, w, hk, i)
  short_law g at r i e x w c K.Mem j hk hj = rw (e, x, w, hk, i)

  int_law : (c : ℕ) (k : OperandKind) → a.kind ≡ k → planned (decision_in G.Int c a b) n ≡ plan_in G.Int (F.interrupt op) c a b
  int_law c K.Imm hk = rw hk
  int_law c K.Reg hk = rw hk
  int_law c K.Seg hk = rw hk
  int_law c K.Mem hk = rw hk

  ret_law : (c : ℕ) (none : Bool) (k : OperandKind) → eqb c 0 ≡ none → a.kind ≡ k → planned (decision_in G.Ret c a b) n ≡ plan_in G.Ret (F.ret op) c a b
  ret_law c true k h hk = rw h
  ret_law c false K.Imm h hk = rw (h, hk)
  ret_law c false K.Reg h hk = rw (h, hk)
  ret_law c false K.Seg h hk = rw (h, hk)
  ret_law c false K.Mem h hk = rw (h, hk)

-- ---- every group
-- what a group decides is its plan with its block of the table; its opcodes are bytes
pub decided : (g : Group) (n : ℕ) (op : Operation) (c : ℕ) (a b : OperandData) → ((f : Form) → Memᴰ f (block g n op) → f.opcode < 256)
    → planned (decision_in g c a b) n ≡ pick (is_supported g) (plan_in g (block g n op) c a b) (Err not_supported)
unfolding block
decided G.Arithmetic n op c a b h =
    let l : n + 5 < 256 = h (F.form (n + 5) F.no op (F.acc F.word) F.iw) (Memᴰ.tail (Memᴰ.tail (Memᴰ.tail (Memᴰ.tail (Memᴰ.tail (Memᴰ.tail (Memᴰ.head refl))))))) in
    with_size_lem G.Arithmetic (F.arithmetic n op) c n a b _ refl refl refl (λ z. add_law op n l a b z a.kind b.kind refl refl)
decided G.Unary n op c a b h = unary_law op n a b c a.size a.kind refl refl
decided G.Mov n op c a b h = with_size_lem G.Mov (F.move op) c n a b _ refl refl refl (λ z. mov_law op n a b z a.kind b.kind refl refl)
decided G.Test n op c a b h = with_size_lem G.Test (F.test op) c n a b _ refl refl refl (λ z. test_law op n a b z a.kind b.kind refl refl)
decided G.Xchg n op c a b h = with_size_lem G.Xchg (F.exchange op) c n a b _ refl refl refl (λ z. xchg_law op n a b z a.kind b.kind refl refl)
decided G.IncDec n op c a b h = inc_law op n a b (h (F.form (0x40 + 8 * n) F.+r op (F.low3 F.word) F.nil) (Memᴰ.head refl)) c a.size a.kind refl refl
decided G.Push n op c a b h = push_law op n a b c a.size a.kind refl refl
decided G.Pop n op c a b h = pop_law op n a b c a.size a.kind _ refl refl refl
decided G.Ret n op c a b h = ret_law op n a b c _ a.kind refl refl
decided G.Lea n op c a b h = load_law op n a b G.Lea refl a.size a.kind b.kind refl refl refl c
decided G.LesLds n op c a b h = load_law op n a b G.LesLds refl a.size a.kind b.kind refl refl refl c
decided G.Shift n op c a b h = shift_law op n a b c a.size a.kind refl refl
decided G.Call n op c a b h = call_law op n a b c a.kind a.jmp_kind refl refl
decided G.Jmp n op c a b h = jmp_law op n a b c a.kind a.jmp_kind _ refl refl refl
decided G.Jcc n op c a b h = short_law op n a b G.Jcc At.First (Err invalid_first) refl refl refl refl c a.kind a.jmp_kind refl refl
decided G.Loopc n op c a b h = short_law op n a b G.Loopc At.Operands (Err invalid_operands) refl refl refl refl c a.kind a.jmp_kind refl refl
decided G.NoOperands n op c a b h = refl
decided G.Prefixes n op c a b h = refl
decided G.Int n op c a b h = int_law op n a b c a.kind refl
decided G.Aam n op c a b h = refl
decided G.Aad n op c a b h = refl
decided G.Xlat n op c a b h = xlat_law op n a b c a.size a.kind _ refl refl refl
decided G.In n op c a b h = in_law op n a b c
decided G.Out n op c a b h = out_law op n a b c
decided G.Unsupported n op c a b h = refl
