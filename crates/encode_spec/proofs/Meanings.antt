-- What the slots of a form hold of a record's operands is what the record means, form by form.
-- Assumes nothing.
use Rattle.std.specs.Prelude.{None, Option, Some}
use mathlib.Core.Path.{◌≡◌, refl, sym, ◌∙◌, subst}
use Prim.Native.Nat.{ℕ, ◌+◌, ◌*◌, ◌%◌}
use native.Mathlib.Omega.{arith}
use mathlib.Core.Bool.{Bool, true, false}
use mathlib.Core.Logic.{◌⊎◌, inl, inr, ⊎_elim}
use mathlib.Core.List.Memᴰ
use mathlib.Core.List.{List, [], ◌∷◌, Memᴰ}
use lib.Dec.{eqb, ltb}
use borrow.Author.Tests.{ltb-true, ltb-false}
use Rattle.mrc_compiler.specs.declared.ast.Segment.{Segment}
use Rattle.mrc_compiler.specs.declared.encoder.JumpKind.{JumpKind}
use Rattle.mrc_compiler.specs.declared.encoder.JumpKind.TheVariants as J
use Rattle.mrc_compiler.specs.declared.encoder.OperandData.{OperandData}
use Rattle.mrc_compiler.specs.declared.encoder.OperandKind.TheVariants as K
use Rattle.mrc_compiler.specs.declared.encoder.OperandSize.{OperandSize}
use Rattle.mrc_compiler.specs.declared.encoder.OperandSize.TheVariants as S
use Rattle.mrc_compiler.specs.declared.operations.Operation.{Operation}
use Rattle.mrc_compiler.specs.declared.operations.Operation.TheVariants as Op
use Rattle.mrc_compiler.specs.Choose.{pick, both, either, isnt, by_size, by_jump}
use Rattle.mrc_compiler.specs.Operations.{same_operation}
use Rattle.x86.specs.declared.Operand.{Operand}
use Rattle.x86.specs.declared.Operand.TheVariants as O
use Rattle.x86.specs.Instructions.{instruction, canonical}
use Rattle.x86.specs.Forms.{byte, word, Slot, rm, rm_near, reg, acc, low3, cl, dx, one, ib, iw, ib_sx, ptr, mem_far, Form}
use Rattle.x86.specs.Forms as F
use Rattle.x86.specs.Reading.{width_of}
use Rattle.x86.proofs.Orders.{xchg_only, test_either}
use Rattle.encode_spec.specs.Records.{same_size, stated_of}
use Rattle.encode_groups.specs.declared.Group.{Group}
use Rattle.encode_groups.specs.declared.Group.TheVariants as G
use Rattle.encode_spec.specs.Operands.{if_imm, if_reg, if_mem, counted, port, count, near_target, far_target, of_none, of_two, of_address, of_near, of_transfer}
use Rattle.encode_spec.specs.Rules.{either_states, Special, ordinary, unordered, unordered_memory, by_count, target_first, not_supported, rule}
use Rattle.encode_spec.specs.Blocks.{block}
use Rattle.encode_spec.specs.Meaning.{unused_by, meant}
use Rattle.encode_spec.specs.Choice.{takes, size_in, count_by, is_either_way}
use Rattle.encode_spec.proofs.Values.{false-true, both_true}
use Rattle.encode_spec.proofs.Operands.{imm_taken, reg_taken, mem_taken, rm_taken}
use Rattle.encode_spec.proofs.Slots.{holds}
use Rattle.encode_spec.proofs.Arrangements.{bare, adjust, branch, address_first, address_second, bx_al, rm_digit, rm_reg, reg_rm, low3_first, low3_second, segment}
use Rattle.encode_spec.proofs.ReadBack.{ArrangedForm}

-- ---- sizes
same_size_lem : (w z : OperandSize) → same_size w z ≡ true → z ≡ w
same_size_lem S.Unspecified S.Unspecified e = refl
same_size_lem S.Unspecified S.Byte e = false-true e
same_size_lem S.Unspecified S.Word e = false-true e
same_size_lem S.Byte S.Unspecified e = false-true e
same_size_lem S.Byte S.Byte e = refl
same_size_lem S.Byte S.Word e = false-true e
same_size_lem S.Word S.Unspecified e = false-true e
same_size_lem S.Word S.Byte e = false-true e
same_size_lem S.Word S.Word e = refl

-- a slot that takes operands of the size w only
record Sized (s : Slot) (w : OperandSize) : Type 0 where
  pub sized : (z : OperandSize) (o : OperandData) → takes s z o ≡ true → z ≡ w

rm_sized : {w : OperandSize} → Sized (rm w) w
rm_sized {w} = record { sized = λ z o e. same_size_lem w z (rm_taken o.kind (same_size w z) e).1 }

reg_sized : {w : OperandSize} → Sized (reg w) w
reg_sized {w} = record { sized = λ z o e. same_size_lem w z (reg_taken o.kind (same_size w z) e).1 }

low3_sized : {w : OperandSize} → Sized (low3 w) w
low3_sized {w} = record { sized = λ z o e. same_size_lem w z (reg_taken o.kind (same_size w z) e).1 }

acc_sized : {w : OperandSize} → Sized (acc w) w
acc_sized {w} = record { sized = λ z o e. same_size_lem w z (both_true (same_size w z) (eqb o.rm 0) (reg_taken o.kind _ e).1).0 }

-- ---- what a slot holds of an operand that it takes
record Holds (s : Slot) (q : OperandData → Operand) : Type 0 where
  pub are : (z : OperandSize) (o : OperandData) → takes s z o ≡ true → holds s o ≡ q o

-- as the slot says
plain : {s : Slot} → Holds s (holds s)
plain = record { are = λ z o e. refl }

ib-byte : Holds ib (counted byte)
unfolding counted
ib-byte = record { are = λ z o e. rw (imm_taken o.kind true e).0 }

iw-word : Holds iw (counted word)
unfolding counted
iw-word = record { are = λ z o e. rw (imm_taken o.kind true e).0 }

sx_word : Holds ib_sx (counted word)
unfolding counted
sx_word = record { are = λ z o e. rw (imm_taken o.kind _ e).0 }

ib-port : Holds ib port
ib-port = record { are = λ z o e. rw (imm_taken o.kind true e).0 }

dx-port : Holds dx port
dx-port = record { are = λ z o e. rw (reg_taken o.kind _ e).0 }

one-count : Holds one count
one-count = record { are = λ z o e. let t = imm_taken o.kind _ e in rw (t.0, t.1) }

cl-count : Holds cl count
cl-count = record { are = λ z o e. rw (reg_taken o.kind _ e).0 }

-- ---- a form of an operation of group g: where its operands stand, and that it means what the record means
pub record Leaf (g : Group) (op : Operation) (f : Form) : Type 0 where
  pub arranged : ArrangedForm f
  pub operation_is : f.operation ≡ op
  pub means : (n : ℕ) (a b : OperandData) → count_by (rule g).special n f ≡ true → takes f.first (size_in g a b a) a ≡ true → takes f.second (size_in g a b b) b ≡ true
      → canonical op (width_of f) (holds f.first a) (holds f.second b) ≡ meant g n op a b

-- the slots hold what is meant
fixed : {g : Group} {f : Form} {q r : OperandData → Operand} → ArrangedForm f → Holds f.first q → Holds f.second r
    → ((n : ℕ) (a b : OperandData) → count_by (rule g).special n f ≡ true → canonical f.operation (width_of f) (q a) (r b) ≡ meant g n f.operation a b) → Leaf g f.operation f
fixed x p q m = record { arranged = x; operation_is = refl; means = λ n a b c h k. rw (p.are _ a h, q.are _ b k) (m n a b c) }

-- two operands of the one width that is stated
record OfTwo (g : Group) : Type 0 where
  pub size : (a b o : OperandData) → size_in g a b o ≡ stated_of a.size b.size
  pub meaning : (n : ℕ) (op : Operation) (a b : OperandData) → of_two op a b ≡ meant g n op a b

of_two_lem : {g : Group} → (rule g).sizing ≡ either_states → (rule g).means ≡ of_two → ((n : ℕ) → unused_by (rule g).special n ≡ false) → OfTwo g
unfolding meant
of_two_lem s m u = record { size = λ a b o. rw s; meaning = λ n op a b. rw (u n, m) }

two_at : (f : Form) (z : OperandSize) → Holds f.first (counted (width_of f)) → Holds f.second (counted (width_of f)) → z ≡ width_of f
    → (a b : OperandData)
    → takes f.first z a ≡ true → takes f.second z b ≡ true
    → canonical f.operation (width_of f) (holds f.first a) (holds f.second b) ≡ canonical f.operation z (counted z a) (counted z b)
two_at f z p q e a b h k = rw (p.are z a h, q.are z b k, e)

-- the first slot says the width
two : {g : Group} {f : Form} → OfTwo g → ArrangedForm f → Sized f.first (width_of f) → Holds f.first (counted (width_of f))
    → Holds f.second (counted (width_of f))
    → Leaf g f.operation f
two {f = f} t x l p q = record {
  arranged = x;
  operation_is = refl;
  means = λ n a b c h k.
      let z = stated_of a.size b.size in
      two_at f z p q (l.sized z a (rw (t.size a b a) at h)) a b (rw (t.size a b a) at h) (rw (t.size a b b) at k) ∙ t.meaning n f.operation a b;
}

-- the second slot says it
two_by_second : {g : Group} {f : Form} → OfTwo g → ArrangedForm f → Sized f.second (width_of f) → Holds f.first (counted (width_of f))
    → Holds f.second (counted (width_of f))
    → Leaf g f.operation f
two_by_second {f = f} t x l p q = record {
  arranged = x;
  operation_is = refl;
  means = λ n a b c h k.
      let z = stated_of a.size b.size in
      two_at f z p q (l.sized z b (rw (t.size a b b) at k)) a b (rw (t.size a b a) at h) (rw (t.size a b b) at k) ∙ t.meaning n f.operation a b;
}

-- one operand of its own size, and another
record OfFirst (g : Group) (r : OperandData → Operand) : Type 0 where
  pub size : (a b o : OperandData) → size_in g a b o ≡ o.size
  pub meaning : (n : ℕ) (op : Operation) (a b : OperandData) → canonical op a.size (counted a.size a) (r b) ≡ meant g n op a b

of_first : {g : Group} {r : OperandData → Operand} → ((a b o : OperandData) → size_in g a b o ≡ o.size) → ((n : ℕ) → unused_by (rule g).special n ≡ false)
    → ((op : Operation) (a b : OperandData) → canonical op a.size (counted a.size a) (r b) ≡ (rule g).means op a b) → OfFirst g r
unfolding meant
of_first s u m = record { size = s; meaning = λ n op a b. rw (u n) (m op a b) }

own : {g : Group} {f : Form} {r : OperandData → Operand} → OfFirst g r → ArrangedForm f → Sized f.first (width_of f)
    → Holds f.first (counted (width_of f)) → Holds f.second r
    → Leaf g f.operation f
own {f = f} t x l p q = record {
  arranged = x;
  operation_is = refl;
  means = λ n a b c h k.
      rw (p.are _ a h, q.are _ b k, ← (l.sized a.size a (rw (t.size a b a) at h))) (t.meaning n f.operation a b);
}

pub data All (P : Form → Type 0) : List Form → Type 0 where
  end : All P []
  ◌&◌ : {f : Form} {fs : List Form} → P f → All P fs → All P (f ∷ fs)

infixr 5 ◌&◌
-- what holds of all holds of each
pub all_at : {P : Form → Type 0} {fs : List Form} → All P fs → {f : Form} → Memᴰ f fs → P f
all_at end m = absurd (Memᴰ.not-nil m)
all_at {P} (p & ps) m = ⊎_elim (λ e. subst P (sym e) p) (λ l. all_at ps l) (Memᴰ.cases_cons m)

-- ---- the blocks of the list
arithmetic_leaves : (b : ℕ) (op : Operation) → All (Leaf G.Arithmetic op) (F.arithmetic b op)
arithmetic_leaves b op =
    let t : OfTwo G.Arithmetic = of_two_lem refl refl (λ k. refl) in
    two t rm_reg rm_sized plain plain
    & two t rm_reg rm_sized plain plain
    & two t reg_rm reg_sized plain plain
    & two t reg_rm reg_sized plain plain
    & two t rm_digit rm_sized plain sx_word
    & two t bare acc_sized plain ib-byte
    & two t bare acc_sized plain iw-word
    & two t rm_digit rm_sized plain ib-byte
    & two t rm_digit rm_sized plain iw-word
    & end

unary_leaves : (n : ℕ) (op : Operation) → All (Leaf G.Unary op) (F.unary n op)
unary_leaves n op =
    let t : OfFirst G.Unary (λ b. O.None) = of_first (λ a b o. refl) (λ k. refl) (λ op a b. refl) in
    own t rm_digit rm_sized plain plain & own t rm_digit rm_sized plain plain & end

inc_dec_leaves : (n : ℕ) (op : Operation) → All (Leaf G.IncDec op) (F.inc_dec n op)
inc_dec_leaves n op =
    let t : OfFirst G.IncDec (λ b. O.None) = of_first (λ a b o. refl) (λ k. refl) (λ op a b. refl) in
    let e : (0x40 + 8 * n) % 8 ≡ 0 = omega arith in
    own t (low3_first e) low3_sized plain plain
    & own t rm_digit rm_sized plain plain
    & own t rm_digit rm_sized plain plain
    & end

move_leaves : (op : Operation) → All (Leaf G.Mov op) (F.move op)
move_leaves op =
    let t : OfTwo G.Mov = of_two_lem refl refl (λ k. refl) in
    two t address_second acc_sized plain plain
    & two t address_second acc_sized plain plain
    & two_by_second t address_first acc_sized plain plain
    & two_by_second t address_first acc_sized plain plain
    & two t rm_reg rm_sized plain plain
    & two t rm_reg rm_sized plain plain
    & two t reg_rm reg_sized plain plain
    & two t reg_rm reg_sized plain plain
    & two t rm_reg rm_sized plain plain
    & two_by_second t reg_rm rm_sized plain plain
    & two t (low3_first refl) low3_sized plain ib-byte
    & two t (low3_first refl) low3_sized plain iw-word
    & two t rm_digit rm_sized plain ib-byte
    & two t rm_digit rm_sized plain iw-word
    & end

exchange_leaves : (op : Operation) → All (Leaf G.Xchg op) (F.exchange op)
exchange_leaves op =
    let t : OfTwo G.Xchg = of_two_lem refl refl (λ k. refl) in
    two t (low3_second refl) acc_sized plain plain
    & two t reg_rm reg_sized plain plain
    & two t reg_rm reg_sized plain plain
    & end

test_leaves : (op : Operation) → All (Leaf G.Test op) (F.test op)
test_leaves op =
    let t : OfTwo G.Test = of_two_lem refl refl (λ k. refl) in
    two t rm_reg rm_sized plain plain
    & two t rm_reg rm_sized plain plain
    & two t bare acc_sized plain ib-byte
    & two t bare acc_sized plain iw-word
    & two t rm_digit rm_sized plain ib-byte
    & two t rm_digit rm_sized plain iw-word
    & end

push_leaves : (op : Operation) → All (Leaf G.Push op) (F.push op)
unfolding meant
push_leaves op =
    fixed (low3_first refl) plain plain (λ n a b c. refl)
    & fixed (segment {o = 0x06} (omega arith)) plain plain (λ n a b c. refl)
    & fixed rm_digit plain plain (λ n a b c. refl)
    & end

pop_leaves : (op : Operation) → All (Leaf G.Pop op) (F.pop op)
unfolding meant
pop_leaves op =
    fixed (low3_first refl) plain plain (λ n a b c. refl)
    & fixed (segment {o = 0x07} (omega arith)) plain plain (λ n a b c. refl)
    & fixed rm_digit plain plain (λ n a b c. refl)
    & end

-- RET: which form, by the count
by_test : (t s : Bool) → pick t s (isnt s) ≡ true → t ≡ s
by_test true true e = refl
by_test true false e = sym e
by_test false true e = e
by_test false false e = refl

ret_leaves : (op : Operation) → All (Leaf G.Ret op) (F.ret op)
unfolding meant
ret_leaves op =
    fixed {f = F.form 0xC3 F.no op F.nil F.nil} bare plain plain (λ n a b c. rw (by_test (eqb n 0) true c))
    & fixed {f = F.form 0xC2 F.no op iw F.nil} bare plain plain (λ n a b c. rw (by_test (eqb n 0) false c))
    & end

load_leaves : (g : Group) → (rule g).means ≡ of_address → ((n : ℕ) → unused_by (rule g).special n ≡ false) → (c : ℕ) (op : Operation) → All (Leaf g op) (F.load c op)
unfolding meant
load_leaves g e u c op = fixed {f = F.form c F./r op (reg word) F.mem} reg_rm plain plain (λ n a b c. rw (u n, e)) & end

shift_leaves : (n : ℕ) (op : Operation) → All (Leaf G.Shift op) (F.shift n op)
shift_leaves n op =
    let t : OfFirst G.Shift count = of_first (λ a b o. refl) (λ k. refl) (λ op a b. refl) in
    own t rm_digit rm_sized plain one-count
    & own t rm_digit rm_sized plain one-count
    & own t rm_digit rm_sized plain cl-count
    & own t rm_digit rm_sized plain cl-count
    & end

-- CALL and JMP: near, far, through a register or memory
near_kind : {A : Type 0} (j : Option JumpKind) (near short : Bool) (n f : A) → by_jump j true false near short ≡ true → n ≡ by_jump j n f n n
near_kind None near short n f e = refl
near_kind (Some J.Far) near short n f e = false-true e
near_kind (Some J.Near) near short n f e = refl
near_kind (Some J.Short) near short n f e = refl

far_kind : {A : Type 0} (j : Option JumpKind) (n f : A) → by_jump j false true false false ≡ true → f ≡ by_jump j n f n n
far_kind None n f e = false-true e
far_kind (Some J.Far) n f e = refl
far_kind (Some J.Near) n f e = false-true e
far_kind (Some J.Short) n f e = false-true e

-- what cw takes, and cb
near_goes : (op : Operation) (near short : Bool) (o : OperandData) → if_imm o (by_jump o.jmp_kind true false near short) ≡ true
    → canonical op S.Unspecified (near_target o) O.None ≡ of_transfer op o o
near_goes op near short o e = let k = imm_taken o.kind _ e in rw k.0 (near_kind o.jmp_kind near short _ _ k.1)

far_goes : (op : Operation) (z : OperandSize) (o : OperandData) → takes ptr z o ≡ true
    → canonical op S.Unspecified (far_target o) O.None ≡ of_transfer op o o
far_goes op z o e = let k = imm_taken o.kind _ e in rw k.0 (far_kind o.jmp_kind _ _ k.1)

through_goes : (op : Operation) (z : OperandSize) (o : OperandData) → takes rm_near z o ≡ true
    → canonical op S.Word (counted S.Word o) O.None ≡ of_transfer op o o
through_goes op z o e = ⊎_elim (λ k. by_kind (inl k)) (λ k. by_kind (inr k)) (rm_taken o.kind _ e).0
  where
    by_kind : (o.kind ≡ K.Reg) ⊎ (o.kind ≡ K.Mem) → canonical op S.Word (counted S.Word o) O.None ≡ of_transfer op o o
    by_kind (inl k) = rw k
    by_kind (inr k) = rw k (near_kind o.jmp_kind true false _ _ (both_true (by_jump o.jmp_kind true false true false) _ (rm_taken o.kind _ e).1).0)

far_through_goes : (op : Operation) (z : OperandSize) (o : OperandData) → takes mem_far z o ≡ true
    → canonical op S.Unspecified (counted S.Word o) O.None ≡ of_transfer op o o
unfolding counted
far_through_goes op z o e =
    let k = mem_taken o.kind _ e in
    rw k.0 (far_kind o.jmp_kind _ _ (both_true (by_jump o.jmp_kind false true false false) _ k.1).0)

call_leaves : (op : Operation) → All (Leaf G.Call op) (F.call op)
unfolding meant
call_leaves op =
    record { arranged = branch; operation_is = refl; means = λ n a b c h k. near_goes op true false a h }
    & record { arranged = rm_digit; operation_is = refl; means = λ n a b c h k. through_goes op a.size a h }
    & record { arranged = rm_digit; operation_is = refl; means = λ n a b c h k. far_through_goes op a.size a h }
    & end

jump_leaves : (op : Operation) → All (Leaf G.Jmp op) (F.jump op)
unfolding meant
jump_leaves op =
    record { arranged = branch; operation_is = refl; means = λ n a b c h k. near_goes op true false a h }
    & record { arranged = bare; operation_is = refl; means = λ n a b c h k. far_goes op a.size a h }
    & record { arranged = branch; operation_is = refl; means = λ n a b c h k. near_goes op false true a h }
    & record { arranged = rm_digit; operation_is = refl; means = λ n a b c h k. through_goes op a.size a h }
    & end

short_leaves : (g : Group) → (rule g).means ≡ of_near → ((n : ℕ) → unused_by (rule g).special n ≡ false) → (c : ℕ) (op : Operation) → All (Leaf g op) (F.short c op ∷ [])
unfolding meant
short_leaves g e u c op = fixed {f = F.short c op} branch plain plain (λ n a b c. rw (u n, e)) & end

interrupt_leaves : (op : Operation) → All (Leaf G.Int op) (F.interrupt op)
unfolding meant
interrupt_leaves op = fixed bare plain plain (λ n a b c. refl) & end

translate_leaves : (op : Operation) → All (Leaf G.Xlat op) (F.translate op)
unfolding meant
translate_leaves op = fixed bx_al plain plain (λ n a b c. refl) & end

input_leaves : (op : Operation) → All (Leaf G.In op) (F.input op)
input_leaves op =
    let t : OfFirst G.In port = of_first (λ a b o. refl) (λ k. refl) (λ op a b. refl) in
    own t bare acc_sized plain ib-port
    & own t bare acc_sized plain ib-port
    & own t bare acc_sized plain dx-port
    & own t bare acc_sized plain dx-port
    & end

-- OUT: of the second operand's size
out : (op : Operation) (w : OperandSize) (s : Slot) → Holds s port → (a b : OperandData) → takes s a.size a ≡ true
    → takes (acc w) b.size b ≡ true
    → canonical op w (holds s a) (counted w b) ≡ canonical op b.size (port a) (counted b.size b)
out op w s p a b h k = let e : b.size ≡ w = (acc_sized {w = w}).sized b.size b k in rw (p.are _ a h, e)

output_leaves : (op : Operation) → All (Leaf G.Out op) (F.output op)
unfolding meant
output_leaves op =
    record { arranged = bare; operation_is = refl; means = λ n a b c. out op byte ib ib-port a b }
    & record { arranged = bare; operation_is = refl; means = λ n a b c. out op word ib ib-port a b }
    & record { arranged = bare; operation_is = refl; means = λ n a b c. out op byte dx dx-port a b }
    & record { arranged = bare; operation_is = refl; means = λ n a b c. out op word dx dx-port a b }
    & end

adjust_leaves : (g : Group) → (rule g).means ≡ of_none → ((n : ℕ) → unused_by (rule g).special n ≡ false) → (c : ℕ) (op : Operation) → All (Leaf g op) (F.adjust c op)
unfolding meant
adjust_leaves g e u c op = fixed {f = F.form c F.0A op F.nil F.nil} adjust plain plain (λ n a b c. rw (u n, e)) & end

single_leaves : (g : Group) → (rule g).means ≡ of_none → ((n : ℕ) → unused_by (rule g).special n ≡ false) → (c : ℕ) (op : Operation) → All (Leaf g op) (F.single c op ∷ [])
unfolding meant
single_leaves g e u c op = fixed {f = F.single c op} bare plain plain (λ n a b c. rw (u n, e)) & end

-- every group
pub leaves : (g : Group) (n : ℕ) (op : Operation) → All (Leaf g op) (block g n op)
unfolding block
leaves G.Arithmetic n op = arithmetic_leaves n op
leaves G.Unary n op = unary_leaves n op
leaves G.Mov n op = move_leaves op
leaves G.Test n op = test_leaves op
leaves G.Xchg n op = exchange_leaves op
leaves G.IncDec n op = inc_dec_leaves n op
leaves G.Push n op = push_leaves op
leaves G.Pop n op = pop_leaves op
leaves G.Ret n op = ret_leaves op
leaves G.Lea n op = load_leaves G.Lea refl (λ k. refl) n op
leaves G.LesLds n op = load_leaves G.LesLds refl (λ k. refl) n op
leaves G.Shift n op = shift_leaves n op
leaves G.Call n op = call_leaves op
leaves G.Jmp n op = jump_leaves op
leaves G.Jcc n op = short_leaves G.Jcc refl (λ k. refl) n op
leaves G.Loopc n op = short_leaves G.Loopc refl (λ k. refl) n op
leaves G.NoOperands n op = single_leaves G.NoOperands refl (λ k. refl) n op
leaves G.Prefixes n op = single_leaves G.Prefixes refl (λ k. refl) n op
leaves G.Int n op = interrupt_leaves op
leaves G.Aam n op = adjust_leaves G.Aam refl (λ k. refl) 0xD4 op
leaves G.Aad n op = adjust_leaves G.Aad refl (λ k. refl) 0xD5 op
leaves G.Xlat n op = translate_leaves op
leaves G.In n op = input_leaves op
leaves G.Out n op = output_leaves op
leaves G.Unsupported n op = end

-- ---- XCHG and TEST with the operands the other way round
-- of two registers it makes no difference which stands first
pick_order : {A : Type 0} (m n : ℕ) (x y : A) (i j : Bool) → (m ≡ n → x ≡ y) → ltb n m ≡ i → ltb m n ≡ j → pick i y x ≡ pick j x y
pick_order m n x y true true f e g = absurd (omega (arith, ltb-true n m e, ltb-true m n g))
pick_order m n x y true false f e g = refl
pick_order m n x y false true f e g = refl
pick_order m n x y false false f e g = f (omega (arith, ltb-false n m e, ltb-false m n g))

both_swap : (a b : Bool) → both a b ≡ both b a
both_swap true true = refl
both_swap true false = refl
both_swap false true = refl
both_swap false false = refl

either_no : (t : Bool) → either t false ≡ t
either_no true = refl
either_no false = refl

registers_swap : (op : Operation) → same_operation op Op.XCHG ≡ true → (z : OperandSize) (m n : ℕ)
    → canonical op z (O.Register m) (O.Register n) ≡ canonical op z (O.Register n) (O.Register m)
unfolding canonical
registers_swap op h z m n =
    let a = O.Register m in
    let b = O.Register n in
    rw (h, xchg_only op h, either_no (ltb n m), either_no (ltb m n), both_swap (eqb m 0) (eqb n 0), pick_order m n (instruction op z a b) (instruction op z b a) (ltb n m) (ltb m n) (λ e. rw e) refl refl)

memory_swap : (op : Operation) → same_operation op Op.XCHG ≡ true → (z : OperandSize) (m v d : ℕ) (g : Segment)
    → canonical op z (O.Register m) (O.Memory v d g) ≡ canonical op z (O.Memory v d g) (O.Register m)
unfolding canonical
memory_swap op h z m v d g = rw (h, xchg_only op h)

swap : (op : Operation) → same_operation op Op.XCHG ≡ true → (z : OperandSize) (a b : OperandData) → b.kind ≡ K.Reg → (a.kind ≡ K.Reg) ⊎ (a.kind ≡ K.Mem)
    → canonical op z (counted z b) (counted z a) ≡ canonical op z (counted z a) (counted z b)
unfolding counted
swap op h z a b k (inl l) = rw (k, l) (registers_swap op h z b.rm a.rm)
swap op h z a b k (inr l) = rw (k, l) (memory_swap op h z b.rm _ _ _)

-- a form, crossed
pub record Crosses (g : Group) (op : Operation) (f : Form) : Type 0 where
  pub crossed : (n : ℕ) (a b : OperandData) → is_either_way g a b ≡ true → takes f.first (size_in g a b b) b ≡ true → takes f.second (size_in g a b a) a ≡ true
      → canonical op (width_of f) (holds f.first b) (holds f.second a) ≡ meant g n op a b

-- its first slot takes a register, its second a register or memory
record TakesRegister (s : Slot) : Type 0 where
  pub kind : (z : OperandSize) (o : OperandData) → takes s z o ≡ true → o.kind ≡ K.Reg

record TakesEither (s : Slot) : Type 0 where
  pub kind : (z : OperandSize) (o : OperandData) → takes s z o ≡ true → (o.kind ≡ K.Reg) ⊎ (o.kind ≡ K.Mem)

cross : {op : Operation} {f : Form} → same_operation op Op.XCHG ≡ true → Sized f.first (width_of f) → Holds f.first (counted (width_of f))
    → Holds f.second (counted (width_of f)) → TakesRegister f.first → TakesEither f.second → Crosses G.Xchg op f
unfolding meant
cross {op} s l p q x y = record {
  crossed = λ n a b e h k.
      let z = stated_of a.size b.size in
      rw (p.are z b h, q.are z a k, ← (l.sized z b h)) (swap op s z a b (x.kind z b h) (y.kind z a k));
}

exchange_crosses : (op : Operation) → same_operation op Op.XCHG ≡ true → All (Crosses G.Xchg op) (F.exchange op)
exchange_crosses op s =
    cross s acc_sized plain plain (record { kind = λ z o e. (reg_taken o.kind _ e).0 }) (record { kind = λ z o e. inl (reg_taken o.kind _ e).0 })
    & cross s reg_sized plain plain (record { kind = λ z o e. (reg_taken o.kind _ e).0 }) (record { kind = λ z o e. (rm_taken o.kind _ e).0 })
    & cross s reg_sized plain plain (record { kind = λ z o e. (reg_taken o.kind _ e).0 }) (record { kind = λ z o e. (rm_taken o.kind _ e).0 })
    & end

-- TEST: a register first, memory second
test_cross : (op : Operation) → same_operation op Op.TEST ≡ true → (w : OperandSize) (a b : OperandData) → a.kind ≡ K.Reg → b.kind ≡ K.Mem
    → canonical op w (counted w b) (counted w a) ≡ canonical op w (counted w a) (counted w b)
unfolding counted
test_cross op t w a b k l = rw (k, l) (test_either op t w a.rm _ _ _)

-- which operands may cross
test_kinds : (a b : OperandData) → is_either_way G.Test a b ≡ true → (a.kind ≡ K.Reg) × (b.kind ≡ K.Mem)
test_kinds a b e =
    let h = both_true (if_reg a true) (if_mem b true) e in
    ((reg_taken a.kind true h.0).0, (mem_taken b.kind true h.1).0)

rm_crosses : (w : OperandSize) → by_size w w w w ≡ w → (c : ℕ) (op : Operation) → same_operation op Op.TEST ≡ true → Crosses G.Test op (F.form c F./r op (rm w) (reg w))
unfolding meant
rm_crosses w v c op t = record {
  crossed = λ n a b e h k.
      let z = stated_of a.size b.size in
      let q = test_kinds a b e in
      let s : z ≡ w = (rm_sized {w = w}).sized z b h in
      rw (v, s) (test_cross op t w a b q.0 q.1);
}

-- the accumulator is no memory, and an immediate no register
acc_crosses : (f : Form) (w : OperandSize) (op : Operation) → f.first ≡ acc w → Crosses G.Test op f
acc_crosses f w op e = record {
  crossed = λ n a b y h k.
      let q = test_kinds a b y in
      let r = rw (e, q.1) at h in
      false-true r;
}

byte_crosses : (f : Form) (op : Operation) → f.second ≡ ib → Crosses G.Test op f
byte_crosses f op e = record {
  crossed = λ n a b y h k.
      let q = test_kinds a b y in
      let r = rw (e, q.0) at k in
      false-true r;
}

word_crosses : (f : Form) (op : Operation) → f.second ≡ iw → Crosses G.Test op f
word_crosses f op e = record {
  crossed = λ n a b y h k.
      let q = test_kinds a b y in
      let r = rw (e, q.0) at k in
      false-true r;
}

test_crosses : (op : Operation) → same_operation op Op.TEST ≡ true → All (Crosses G.Test op) (F.test op)
test_crosses op t =
    rm_crosses byte refl 0x84 op t
    & rm_crosses word refl 0x85 op t
    & acc_crosses _ byte op refl
    & acc_crosses _ word op refl
    & byte_crosses _ op refl
    & word_crosses _ op refl
    & end

-- XCHG and TEST are the operations of their groups
abbrev pub order_of : Special → Operation → Bool
order_of ordinary op = true
order_of unordered op = same_operation op Op.XCHG
order_of unordered_memory op = same_operation op Op.TEST
order_of by_count op = true
order_of target_first op = true
order_of not_supported op = true

-- where they may not cross
uncrossed : {g : Group} {op : Operation} (fs : List Form) → ((a b : OperandData) → is_either_way g a b ≡ false) → All (Crosses g op) fs
uncrossed [] h = end
uncrossed (f ∷ fs) h = record { crossed = λ n a b e i j. false-true (sym (h a b) ∙ e) } & uncrossed fs h

-- every group
pub crosses : (g : Group) (n : ℕ) (op : Operation) → order_of (rule g).special op ≡ true → All (Crosses g op) (block g n op)
unfolding block
crosses G.Arithmetic n op s = uncrossed _ (λ a b. refl)
crosses G.Unary n op s = uncrossed _ (λ a b. refl)
crosses G.Mov n op s = uncrossed _ (λ a b. refl)
crosses G.Test n op s = test_crosses op s
crosses G.Xchg n op s = exchange_crosses op s
crosses G.IncDec n op s = uncrossed _ (λ a b. refl)
crosses G.Push n op s = uncrossed _ (λ a b. refl)
crosses G.Pop n op s = uncrossed _ (λ a b. refl)
crosses G.Ret n op s = uncrossed _ (λ a b. refl)
crosses G.Lea n op s = uncrossed _ (λ a b. refl)
crosses G.LesLds n op s = uncrossed _ (λ a b. refl)
crosses G.Shift n op s = uncrossed _ (λ a b. refl)
crosses G.Call n op s = uncrossed _ (λ a b. refl)
crosses G.Jmp n op s = uncrossed _ (λ a b. refl)
crosses G.Jcc n op s = uncrossed _ (λ a b. refl)
crosses G.Loopc n op s = uncrossed _ (λ a b. refl)
crosses G.NoOperands n op s = uncrossed _ (λ a b. refl)
crosses G.Prefixes n op s = uncrossed _ (λ a b. refl)
crosses G.Int n op s = uncrossed _ (λ a b. refl)
crosses G.Aam n op s = uncrossed _ (λ a b. refl)
crosses G.Aad n op s = uncrossed _ (λ a b. refl)
crosses G.Xlat n op s = uncrossed _ (λ a b. refl)
crosses G.In n op s = uncrossed _ (λ a b. refl)
crosses G.Out n op s = uncrossed _ (λ a b. refl)
crosses G.Unsupported n op s = uncrossed _ (λ a b. refl)
