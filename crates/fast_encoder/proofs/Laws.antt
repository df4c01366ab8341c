-- What the dispatch's numbers say of a record, and that what its group decides is its answer.
-- Assumes nothing.
use Prim.Native.Nat.{ℕ, zero, suc, ◌+◌, ◌*◌, ◌-◌, ◌/◌, ◌%◌, ◌≤◌, ◌<◌}
use mathlib.Core.Path.{◌≡◌, refl, sym, ◌∙◌, ap}
use mathlib.Core.Bool.{Bool, true, false}
use mathlib.Core.List.{List, [], ◌∷◌}
use native.Mathlib.Omega.{arith}
use lib.Dec.{T, eqb, leb, ltb, leb→le}
use lib.ListN.{length, get_or, take, drop, length-drop}
use lib.Seq.{take_all}
use borrow.Author.Tests.{lt-ltb, le-leb, le-ltb, eq-eqb, ne_eqb, eqb-false}
use Rattle.mrc_compiler.specs.declared.ast.Span.{Span}
use Rattle.mrc_compiler.specs.declared.encoder.OperandKind.TheVariants as K
use Rattle.mrc_compiler.specs.declared.encoder.OperandSize.TheVariants as S
use Rattle.mrc_compiler.specs.declared.encoder.OperandData.{OperandData}
use Rattle.mrc_compiler.specs.declared.encoder.InstructionData.{InstructionData}
use Rattle.mrc_compiler.specs.declared.encoder.generate.Code.{Code}
use Rattle.mrc_compiler.specs.declared.encoder.generate.Code.TheVariants as C
use Rattle.std.specs.Prelude.{Option, Some, None, Result, Ok, Err}
use Rattle.mrc_compiler.specs.declared.encoder.generate.Codes.{Codes}
use Rattle.mrc_compiler.specs.declared.encoder.generate.NoForm.{NoForm}
use Rattle.mrc_compiler.specs.declared.operations.Operation.{Operation}
use Rattle.mrc_compiler.specs.declared.operations.Operation.TheVariants as Op
use Rattle.mrc_compiler.specs.declared.encoder.EncodeError.{EncodeError}
use Rattle.mrc_compiler.specs.Choose.{either, by_size, by_jump}
use Rattle.mrc_compiler.specs.Operations.{operations, number_of, is_string}
use Rattle.mrc_compiler.specs.Builders.{instruction, with_repeat}
use Rattle.x86.specs.Reading.{is_repeat}
use Rattle.x86.proofs.Tests.{up_to, up_to_at, is_true}
use Rattle.encode_groups.specs.declared.Group.TheVariants as G
use Rattle.encode_groups.specs.Grouping.{group_of, base_of}
use Rattle.encode_spec.specs.WellFormed.{well_formed, repeat_formed}
use Rattle.encode_spec.specs.Answer.{Answer, bytes, refused, answer}
use Rattle.mrc_compiler.specs.declared.ast.DataSize.{DataSize}
use Rattle.mrc_compiler.specs.declared.ast.DataSize.TheVariants as Z
use Rattle.encode_lines.specs.declared.Line.{Line}
use Rattle.encode_lines.specs.Lines.{bit, planned}
use Rattle.encode_plans.specs.Sizes.{common_of, stated_size}
use Rattle.encode_plans.specs.Decisions.{decision_in}
use Rattle.encode_dispatch.proofs.Laws.{planned_of}
use Rattle.encode_fields.specs.Fields.{code_answer}
use Rattle.encode_codes.specs.Emit.{codes_answer}
use Rattle.encoder.specs.Coded.{plan_answer, behind_repeat, coded}
use Rattle.encoder.proofs.Tied.{tied}
use Rattle.show_record.specs.Record.{kinds, sizes, jump_kinds, byte_at, span_at, size_at, jump_kind_at, operation_at, operand_at, instruction_at, operand_known, codes_known}
use Rattle.fast_run.specs.Packed.{digits, unpacked}
use Rattle.fast_rows.specs.Rows.{groups, rows, no_row, commons, data_of}
use Rattle.fast_rows.proofs.Laws.{row_is, group_at, common_is, common_small}
use Rattle.fast_operand.specs.Formed.{Formed}
use Rattle.fast_forms.specs.Ready.{Ready}
use Rattle.fast_encoder.specs.Packing.{Packed, Through, Repeated, decided_at}

-- ---- the bases of the groups
abbrev bases : List ℕ
bases =
    0x38 ∷ 0 ∷ 0 ∷ 0 ∷ 7 ∷ 1 ∷ 0 ∷ 0 ∷ 0x8D ∷ 0xC5 ∷ 7 ∷ 0 ∷ 0
    ∷ 0x7F ∷ 0xE3 ∷ 0 ∷ 0 ∷ 0 ∷ 0 ∷ 0xFD ∷ 0xF3 ∷ 0 ∷ 0 ∷ 0xC2 ∷ 0 ∷ []

abbrev in_bases : ℕ → Bool
in_bases n = leb (get_or rows n no_row % 256) (get_or bases (get_or rows n no_row / 4096) 255)

in_bases_lem : T (up_to 99 in_bases)
in_bases_lem = tt

-- ---- what the number of the `match` says
split : (row a b key : ℕ) → row / 256 % 16 ≡ 0 → a < 4 → b < 4 → row / 256 + (4 * a + b) ≡ key
    → (row / 4096 ≡ key / 16) × ((a ≡ key / 4 % 4) × (b ≡ key % 4))
split row a b key e ha hb k =
    let n : row / 4096 ≡ row / 256 / 16 = omega arith in
    (n ∙ omega arith, (omega arith, omega arith))

pub record Keyed (s : List ℕ) (code row key : ℕ) : Type 0 where
  pub known : code < 99
  pub group_is : group_of (get_or operations code Op.MOV) ≡ get_or groups (key / 16) G.Unsupported
  pub base_is : base_of (get_or operations code Op.MOV) ≡ row % 256
  pub base_most : row % 256 ≤ get_or bases (key / 16) 255
  pub first_is : (operand_at s 10).kind ≡ get_or kinds (key / 4 % 4) K.Imm
  pub second_is : (operand_at s 33).kind ≡ get_or kinds (key % 4) K.Imm
  pub first_number : byte_at s 10 ≡ key / 4 % 4

below_row : (row key x : ℕ) → row / 256 + x ≡ key → key < 384 → row < no_row
below_row row key x e h = omega arith

pub keyed : (s : List ℕ) (code : ℕ) → Ready s → (row key : ℕ) → (row < no_row → row ≡ get_or rows (code) no_row)
    → row / 256 + (4 * byte_at s 10 + byte_at s 33) ≡ key → key < 384 → Keyed s code row key
unfolding operand_at
keyed s code h row key e k l =
    let is = e (below_row row key (4 * byte_at s 10 + byte_at s 33) k l) in
    let r = row_is (code) (rw is at (below_row row key (4 * byte_at s 10 + byte_at s 33) k l)) in
    let parts = split row (byte_at s 10) (byte_at s 33) key (rw is r.between) h.first.kind h.second.kind k in
    let most = leb→le (get_or rows (code) no_row % 256) (get_or bases (get_or rows (code) no_row / 4096) 255) (up_to_at 99 in_bases in_bases_lem (code) r.known) in
    record {
      known = r.known;
      group_is = group_at (group_of (get_or operations code Op.MOV)) ∙ rw (r.group, ← is, parts.0);
      base_is = r.base ∙ rw (← is);
      base_most = rw (← is, parts.0) at most;
      first_is = ap (λ (n : ℕ). get_or kinds n K.Imm) parts.1.0;
      second_is = ap (λ (n : ℕ). get_or kinds n K.Imm) parts.1.1;
      first_number = parts.1.0;
    }

-- a group without a base
pub base_zero : {s : List ℕ} {code row key : ℕ} → Keyed s code row key → get_or bases (key / 16) 255 ≡ 0 → base_of (get_or operations code Op.MOV) ≡ 0
base_zero k e = k.base_is ∙ omega (arith, k.base_most, e)

-- four numbers from lo on that go one way: the second kind does not count
pub record Four (s : List ℕ) (code row lo : ℕ) : Type 0 where
  pub known : code < 99
  pub group_is : group_of (get_or operations code Op.MOV) ≡ get_or groups (lo / 16) G.Unsupported
  pub base_is : base_of (get_or operations code Op.MOV) ≡ row % 256
  pub base_most : row % 256 ≤ get_or bases (lo / 16) 255
  pub first_is : (operand_at s 10).kind ≡ get_or kinds (lo / 4 % 4) K.Imm
  pub first_number : byte_at s 10 ≡ lo / 4 % 4

of_four : (lo key : ℕ) → lo % 4 ≡ 0 → lo ≤ key → key < lo + 4 → (key / 16 ≡ lo / 16) × (key / 4 % 4 ≡ lo / 4 % 4)
of_four lo key m l h =
    let e : key / 4 ≡ lo / 4 = omega arith in
    let f : key / 16 ≡ key / 4 / 4 = omega arith in
    let g : lo / 16 ≡ lo / 4 / 4 = omega arith in
    (f ∙ (rw e (sym g)), rw e)

pub four : (s : List ℕ) (code : ℕ) → Ready s → (row lo : ℕ) → (row < no_row → row ≡ get_or rows (code) no_row) → lo % 4 ≡ 0 → lo < 381
    → lo ≤ row / 256 + (4 * byte_at s 10 + byte_at s 33) → row / 256 + (4 * byte_at s 10 + byte_at s 33) < lo + 4 → Four s code row lo
four s code h row lo e m l a b =
    let k = keyed s code h row (row / 256 + (4 * byte_at s 10 + byte_at s 33)) e refl (omega arith) in
    let f = of_four lo (row / 256 + (4 * byte_at s 10 + byte_at s 33)) m a b in
    record {
      known = k.known;
      group_is = k.group_is ∙ rw f.0;
      base_is = k.base_is;
      base_most = rw f.0 at k.base_most;
      first_is = k.first_is ∙ rw f.1;
      first_number = k.first_number ∙ f.1;
    }

-- sixteen numbers from lo on: no kind counts
pub record Sixteen (s : List ℕ) (code row lo : ℕ) : Type 0 where
  pub known : code < 99
  pub group_is : group_of (get_or operations code Op.MOV) ≡ get_or groups (lo / 16) G.Unsupported
  pub base_is : base_of (get_or operations code Op.MOV) ≡ row % 256

of_sixteen : (lo key : ℕ) → lo % 16 ≡ 0 → lo ≤ key → key < lo + 16 → key / 16 ≡ lo / 16
of_sixteen lo key m l h = omega arith

pub sixteen : (s : List ℕ) (code : ℕ) → Ready s → (row lo : ℕ) → (row < no_row → row ≡ get_or rows (code) no_row) → lo % 16 ≡ 0 → lo < 369
    → lo ≤ row / 256 + (4 * byte_at s 10 + byte_at s 33) → row / 256 + (4 * byte_at s 10 + byte_at s 33) < lo + 16 → Sixteen s code row lo
sixteen s code h row lo e m l a b =
    let k = keyed s code h row (row / 256 + (4 * byte_at s 10 + byte_at s 33)) e refl (omega arith) in
    record {
      known = k.known;
      group_is = k.group_is ∙ rw (of_sixteen lo (row / 256 + (4 * byte_at s 10 + byte_at s 33)) m a b);
      base_is = k.base_is;
    }

-- ---- the sizes
pub common_at : (s : List ℕ) → Ready s → (size : ℕ) → (0 < size → size ≡ get_or commons (3 * byte_at s 11 + byte_at s 34) 0) → 0 < size
    → common_of (operand_at s 10).size (operand_at s 33).size ≡ Ok (data_of size)
unfolding operand_at
common_at s h size e p =
    common_is (byte_at s 11) (byte_at s 34) h.first.size h.second.size (rw (e p) at p) ∙ rw (← (e p))

small : (size n : ℕ) → (0 < size → size ≡ get_or commons n 0) → size ≤ 2
small zero n e = omega arith
small (suc k) n e = rw (e (omega arith)) (common_small n)

pub size_small : (s : List ℕ) → Ready s → (size : ℕ) → (0 < size → size ≡ get_or commons (3 * byte_at s 11 + byte_at s 34) 0) → size ≤ 2
size_small s h size e = small size (3 * byte_at s 11 + byte_at s 34) e

pub stated_is : (n : ℕ) → 0 < n → n < 3 → (e : NoForm) → stated_size (get_or sizes n S.Unspecified) e ≡ Ok (data_of n)
stated_is zero p h e = absurd (omega arith)
stated_is (suc zero) p h e = refl
stated_is (suc (suc zero)) p h e = refl
stated_is (suc (suc (suc n))) p h e = absurd (omega arith)

pub stated_at : (s : List ℕ) → Ready s → 0 < byte_at s 11 → (e : NoForm) → stated_size (operand_at s 10).size e ≡ Ok (data_of (byte_at s 11))
unfolding operand_at
stated_at s h p e = stated_is (byte_at s 11) p h.first.size e

pub stated_second : (s : List ℕ) → Ready s → 0 < byte_at s 34 → (e : NoForm) → stated_size (operand_at s 33).size e ≡ Ok (data_of (byte_at s 34))
unfolding operand_at
stated_second s h p e = stated_is (byte_at s 34) p h.second.size e

pub one_left : (n : ℕ) → 0 < n → n < 3 → (n ≡ 2 → ⊥) → n ≡ 1
one_left zero p h e = absurd (omega arith)
one_left (suc zero) p h e = refl
one_left (suc (suc zero)) p h e = absurd (e refl)
one_left (suc (suc (suc n))) p h e = absurd (omega arith)

-- INC and DEC of a register
pub inc_code : (b : ℕ) → b ≤ 1 → (64 + 8 * b) % 256 ≡ 64 + 8 * b
inc_code b h = omega arith

pub bit_small : (z : DataSize) → bit z ≤ 1
bit_small Z.Byte = omega arith
bit_small Z.Word = omega arith

-- an opcode of ADD to CMP
pub arithmetic_code : (b n w : ℕ) → b ≤ 56 → n ≤ 4 → w ≤ 1 → (b + (n + w)) % 256 ≡ b + n + w
arithmetic_code b n w hb hn hw = omega arith

pub not_byte : {A : Type 0} (n : ℕ) (l m : A) → n < 3 → (n ≡ 1 → ⊥) → by_size (get_or sizes n S.Unspecified) l m l ≡ l
not_byte zero l m h e = refl
not_byte (suc zero) l m h e = absurd (e refl)
not_byte (suc (suc zero)) l m h e = refl
not_byte (suc (suc (suc n))) l m h e = absurd (omega arith)

-- ---- the jump kinds: None and Near; None and Short
pub near_jump : {A : Type 0} (n : ℕ) (l f t : A) → n < 4 → (n ≡ 1 → ⊥) → (n ≡ 3 → ⊥) → by_jump (get_or jump_kinds n None) l f l t ≡ l
near_jump zero l f t h a b = refl
near_jump (suc zero) l f t h a b = absurd (a refl)
near_jump (suc (suc zero)) l f t h a b = refl
near_jump (suc (suc (suc zero))) l f t h a b = absurd (b refl)
near_jump (suc (suc (suc (suc n)))) l f t h a b = absurd (omega arith)

-- through a register or memory that holds an offset
pub through_is : (s : List ℕ) → Ready s → Through s → (l f t x : Result Line NoForm)
    → by_jump (jump_kind_at s 14) (by_size (size_at s 11) l x l) f (by_size (size_at s 11) l x l) t ≡ l
through_is s h t l f g x =
    near_jump (byte_at s 14) _ f g h.first.jump t.not_far t.not_short ∙ not_byte (byte_at s 11) l x h.first.size t.not_byte

pub short_jump : {A : Type 0} (n : ℕ) (l f t : A) → n < 4 → (n ≡ 1 → ⊥) → (n ≡ 2 → ⊥) → by_jump (get_or jump_kinds n None) l f t l ≡ l
short_jump zero l f t h a b = refl
short_jump (suc zero) l f t h a b = absurd (a refl)
short_jump (suc (suc zero)) l f t h a b = absurd (b refl)
short_jump (suc (suc (suc zero))) l f t h a b = refl
short_jump (suc (suc (suc (suc n)))) l f t h a b = absurd (omega arith)

-- ---- the string operations, by their rows
abbrev string_row : ℕ → Bool
string_row n = let row = get_or rows n no_row in either (ltb row 0x130A4) (either (ltb 0x130AF row) (is_string (get_or operations n Op.MOV)))

string_rows : T (up_to 99 string_row)
unfolding operations is_string number_of
string_rows = tt

repeat_is : (p : ℕ) → 0xF2 ≤ p → p ≤ 0xF3 → is_repeat p ≡ true
unfolding is_repeat
repeat_is p l h = go (eqb p 0xF2) refl
  where
    go : (t : Bool) → eqb p 0xF2 ≡ t → either t (eqb p 0xF3) ≡ true
    go true e = refl
    go false e = eq-eqb p 0xF3 (omega (arith, eqb-false p 0xF2 e))

pub repeated : (code repeat row r : ℕ) → (row < no_row → row ≡ get_or rows code no_row) → 0x130A4 ≤ row → row ≤ 0x130AF → 0xF2 ≤ repeat → repeat ≤ 0xF3
    → unpacked r ≡ repeat ∷ digits 1 (row % 256) → Repeated code repeat r
repeated code repeat row r e l h pl ph u =
    let is = e (omega arith) in
    let below : row < no_row = omega arith in
    let k = row_is code (rw is at below) in
    let n : row / 4096 ≡ 19 = omega arith in
    let t = up_to_at 99 string_row string_rows code k.known in
    let string = rw (le-ltb row 0x130A4 l, le-ltb 0x130AF row h) at (rw (← is) at t) in
    record {
      known = k.known;
      there = ne_eqb repeat 0 (λ z. absurd (omega (arith, z)));
      formed = rw (ne_eqb repeat 0 (λ z. absurd (omega (arith, z))), repeat_is repeat pl ph) (is_true _ string);
      group_is = group_at (group_of (get_or operations code Op.MOV)) ∙ rw (k.group, ← is, n);
      is = u ∙ rw (k.base, ← is) (ap (λ (b : ℕ). repeat ∷ b ∷ []) (omega arith));
    }

-- ---- the answer
no_repeat : (a : Answer) → behind_repeat 0 a ≡ a
no_repeat (bytes bs) = refl
no_repeat (refused e) = refl

refused_no : (e : EncodeError) (bs : List ℕ) → refused e ≡ bytes bs → ⊥
refused_no e bs q = let z : ◌≡◌ {A = ℕ} 0 1 = cc in omega arith

-- a code's bytes are of the operands alone
module _ (p q m n off : ℕ) (sp sq : Span) (o w : Operation) (a b : OperandData) where
  abbrev i : InstructionData
  i = with_repeat p (instruction sp o m a b)

  abbrev j : InstructionData
  j = with_repeat q (instruction sq w n a b)

  code_same : (c : Code) → code_answer c i off ≡ code_answer c j off
  code_same (C.Byte x) = refl
  code_same (C.ImmByte k) = refl
  code_same (C.ImmWord k) = refl
  code_same (C.DispWord k) = refl
  code_same (C.RelByte k x) = refl
  code_same (C.ModRegRM k x) = refl
  code_same (C.ModRM k x y) = refl
  code_same (C.RegByte k x) = refl
  code_same (C.SegByte k x) = refl
  code_same (C.MemByte k x) = refl
  code_same (C.UnsignedByte k) = refl
  code_same (C.UnsignedWord k) = refl
  code_same (C.ImmSignExtended k) = refl
  code_same (C.RelWord k) = refl
  code_same (C.FarWords k) = refl

  codes_same : (c : Code) (d : Option Code) → codes_answer (record { first = c; second = d }) i off ≡ codes_answer (record { first = c; second = d }) j off
  codes_same c None = code_same c
  codes_same c (Some d) = rw (← (code_same c), ← (code_same d))

  plan_same : (plan : Result Codes NoForm) (bs : List ℕ) → plan_answer plan i off ≡ bytes bs → plan_answer plan j off ≡ bytes bs
  plan_same (Ok codes) bs e = sym (codes_same codes.first codes.second) ∙ e
  plan_same (Err x) bs e = absurd (refused_no _ bs e)

-- an instruction that question 1 lets through: its plan's bytes, behind its repeat
module _ (p n off : ℕ) (sp : Span) (op : Operation) (a b : OperandData) where
  abbrev insn : InstructionData
  insn = with_repeat p (instruction sp op n a b)

  answer_is : n ≤ 2 → well_formed a ≡ true → well_formed b ≡ true → repeat_formed p op ≡ true
      → answer insn off ≡ behind_repeat p (plan_answer (planned (decision_in (group_of op) n a b) (base_of op)) insn off)
  unfolding coded
  answer_is few fa fb fp = sym (tied insn off) ∙ rw (le-leb n 2 few, fa, fb, fp, planned_of insn)

-- a string operation's opcode, behind its repeat
string_bytes : (p n off : ℕ) (i : InstructionData) (op : Operation) (a b : OperandData) → eqb p 0 ≡ false → group_of op ≡ G.NoOperands
    → behind_repeat p (plan_answer (planned (decision_in (group_of op) n a b) (base_of op)) i off) ≡ bytes (p ∷ base_of op ∷ [])
string_bytes p n off i op a b z g = rw (g, z)

-- a record without a repeat
short_is : (s : List ℕ) → Ready s → instruction_at s ≡ with_repeat 0 (instruction (span_at s 2) (operation_at s 0) (byte_at s 1) (operand_at s 10) (operand_at s 33))
unfolding instruction_at
short_is s h = rw h.length_is

module _ (s : List ℕ) (h : Ready s) (off : ℕ) (few : byte_at s 1 ≤ 2) where
  pub short_packed : (r : ℕ) → byte_at s 0 < 99 → decided_at (byte_at s 0) (byte_at s 1) s off ≡ bytes (unpacked r) → Packed s off r
  unfolding decided_at codes_known operations
  short_packed r l e =
      record {
        has_record_length = rw h.length_is;
        known = rw (h.length_is, lt-ltb (byte_at s 0) 99 l, h.first.known, h.second.known);
        is = ap (λ (i : InstructionData). answer i off) (short_is s h)
            ∙ answer_is 0 (byte_at s 1) off (span_at s 2) (operation_at s 0) (operand_at s 10) (operand_at s 33) few h.first.formed h.second.formed refl
            ∙ no_repeat _
            ∙ ap (λ (i : InstructionData). plan_answer (planned (decision_in (group_of (operation_at s 0)) (byte_at s 1) (operand_at s 10) (operand_at s 33)) (base_of (operation_at s 0))) i off) (sym (short_is s h))
            ∙ e;
      }

-- a record with one: x is its operation, t what stands behind it
module _ (x : ℕ) (t : List ℕ) (h : Ready t) (off : ℕ) (few : byte_at t 0 ≤ 2) where
  long_is : instruction_at (x ∷ t)
      ≡ with_repeat (byte_at t 1) (instruction (span_at t 2) (get_or operations x Op.MOV) (byte_at t 0) (operand_at t 10) (operand_at t 33))
  unfolding instruction_at operand_at
  long_is = rw h.length_is

  long_known : x < 99 → codes_known (x ∷ t) ≡ true
  unfolding codes_known operand_known operations
  long_known l = rw (h.length_is, lt-ltb x 99 l, h.first.known, h.second.known)

  pub long_packed : byte_at t 1 ≡ 0 → (r : ℕ) → x < 99 → decided_at x (byte_at t 0) t off ≡ bytes (unpacked r) → Packed (x ∷ t) off r
  unfolding decided_at
  long_packed z r l e =
      let op = get_or operations x Op.MOV in
      let plan = planned (decision_in (group_of op) (byte_at t 0) (operand_at t 10) (operand_at t 33)) (base_of op) in
      let f : repeat_formed (byte_at t 1) op ≡ true = rw z in
      let d = ap (λ (i : InstructionData). plan_answer plan i off) (sym (short_is t h)) ∙ e in
      let p = plan_same 0 (byte_at t 1) (byte_at t 1) (byte_at t 0) off (span_at t 2) (span_at t 2) (operation_at t 0) op (operand_at t 10) (operand_at t 33) plan (unpacked r) d in
      record {
        has_record_length = rw h.length_is;
        known = long_known l;
        is = ap (λ (i : InstructionData). answer i off) long_is
            ∙ answer_is (byte_at t 1) (byte_at t 0) off (span_at t 2) op (operand_at t 10) (operand_at t 33) few h.first.formed h.second.formed f
            ∙ ap (λ (n : ℕ). behind_repeat n (plan_answer plan (with_repeat (byte_at t 1) (instruction (span_at t 2) op (byte_at t 0) (operand_at t 10) (operand_at t 33))) off)) z
            ∙ no_repeat _
            ∙ p;
      }

  pub long_repeated : (r : ℕ) → Repeated x (byte_at t 1) r → Packed (x ∷ t) off r
  long_repeated r k =
      let op = get_or operations x Op.MOV in
      record {
        has_record_length = rw h.length_is;
        known = long_known k.known;
        is = ap (λ (i : InstructionData). answer i off) long_is
            ∙ answer_is (byte_at t 1) (byte_at t 0) off (span_at t 2) op (operand_at t 10) (operand_at t 33) few h.first.formed h.second.formed k.formed
            ∙ string_bytes (byte_at t 1) (byte_at t 0) off (with_repeat (byte_at t 1) (instruction (span_at t 2) op (byte_at t 0) (operand_at t 10) (operand_at t 33))) op (operand_at t 10) (operand_at t 33) k.there k.group_is
            ∙ ap bytes (sym k.is);
      }

-- ---- both, by the bytes of repeat
abbrev fields : List ℕ → ℕ → List ℕ
fields s d = take (length s - d) (drop d s)

fields_are : (s : List ℕ) (d : ℕ) → fields s d ≡ drop d s
fields_are s d = take_all (length s - d) (drop d s) (rw (length-drop d s) (omega arith))

below_drop : (s : List ℕ) (d : ℕ) → ((i : ℕ) → byte_at s i < 256) → (i : ℕ) → byte_at (drop d s) i < 256
below_drop s zero h i = h i
below_drop [] (suc d) h i = h i
below_drop (x ∷ t) (suc d) h i = below_drop t d (λ i. h (suc i)) i

pub ready : (s : List ℕ) (d : ℕ) → ((i : ℕ) → byte_at s i < 256) → length s ≡ 56 + d → Formed (fields s d) 10 × Formed (fields s d) 33 → Ready (fields s d)
ready s d h l f =
    record {
      length_is = rw (fields_are s d, length-drop d s) (omega arith);
      below = rw (fields_are s d) (below_drop s d h);
      first = f.0;
      second = f.1;
    }

pub plain_packed : (s : List ℕ) (d off : ℕ) → d ≤ 1 → Ready (fields s d) → byte_at s 1 ≤ 2 → (0 < d → byte_at s 2 ≡ 0)
    → (r : ℕ) → byte_at s 0 < 99 → decided_at (byte_at s 0) (byte_at s 1) (fields s d) off ≡ bytes (unpacked r) → Packed s off r
plain_packed s d off m h few z r l e = go s d m (rw (fields_are s d) at h) few z l (rw (fields_are s d) at e)
  where
    go : (s : List ℕ) (d : ℕ) → d ≤ 1 → Ready (drop d s) → byte_at s 1 ≤ 2 → (0 < d → byte_at s 2 ≡ 0) → byte_at s 0 < 99
        → decided_at (byte_at s 0) (byte_at s 1) (drop d s) off ≡ bytes (unpacked r) → Packed s off r
    go s zero m h few z l e = short_packed s h off few r l e
    go [] (suc zero) m h few z l e = absurd (omega (arith, h.length_is))
    go (x ∷ t) (suc zero) m h few z l e = long_packed x t h off few (z (omega arith)) r l e
    go s (suc (suc d)) m h few z l e = absurd (omega arith)

pub repeat_packed : (s : List ℕ) (d off : ℕ) → d ≤ 1 → (d ≡ 0 → ⊥) → Ready (fields s d) → byte_at s 1 ≤ 2
    → (r : ℕ) → Repeated (byte_at s 0) (byte_at s 2) r → Packed s off r
repeat_packed s d off m p h few r k = go s d m p (rw (fields_are s d) at h) few k
  where
    go : (s : List ℕ) (d : ℕ) → d ≤ 1 → (d ≡ 0 → ⊥) → Ready (drop d s) → byte_at s 1 ≤ 2 → Repeated (byte_at s 0) (byte_at s 2) r → Packed s off r
    go s zero m p h few k = absurd (p refl)
    go [] (suc zero) m p h few k = absurd (omega (arith, h.length_is))
    go (x ∷ t) (suc zero) m p h few k = long_repeated x t h off few r k
    go s (suc (suc d)) m p h few k = absurd (omega arith)
