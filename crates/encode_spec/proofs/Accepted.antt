-- What encode accepts reads back as what the record means (demand 2): for every record and every offset below 65,536.
-- Assumes nothing.
use mathlib.Core.Path.{◌≡◌, refl, sym, ◌∙◌, subst}
use Prim.Native.Nat.{ℕ, zero, suc, ◌<◌}
use native.Mathlib.Omega.{arith}
use mathlib.Core.Bool.{Bool, true, false}
use mathlib.Core.List.{List, [], ◌∷◌, ◌++◌, Memᴰ}
use lib.Dec.{T, eqb}
use lib.ListN.{length, drop}
use borrow.Author.Tests.{eqb-true}
use Rattle.mrc_compiler.specs.declared.encoder.InstructionData.{InstructionData}
use Rattle.mrc_compiler.specs.declared.encoder.OperandData.{OperandData}
use Rattle.mrc_compiler.specs.declared.encoder.OperandSize.{OperandSize}
use Rattle.mrc_compiler.specs.declared.operations.Operation.{Operation}
use Rattle.mrc_compiler.specs.Choose.{pick, both, either}
use Rattle.mrc_compiler.specs.Operations.{same_operation, is_string}
use Rattle.x86.specs.declared.Instruction.{Instruction}
use Rattle.x86.specs.Instructions.{canonical, repeated}
use Rattle.x86.specs.Forms.{Slot, Form, forms}
use Rattle.x86.specs.Reading.{keep, width_of, is_repeat, begins_string}
use Rattle.x86.proofs.Tests.{kept, passed}
use Rattle.x86.proofs.Repeats.{unrepeated, plain_repeat}
use Rattle.encode_spec.specs.Records.{dst, src}
use Rattle.encode_spec.specs.WellFormed.{well_formed, repeat_formed}
use Rattle.encode_groups.specs.declared.Group.{Group}
use Rattle.encode_groups.specs.Grouping.{group_of}
use Rattle.encode_spec.specs.Rules.{rule}
use Rattle.encode_spec.specs.Meaning.{meant, meaning}
use Rattle.encode_spec.specs.Choice.{Choice, none, straight, crossed, takes, size_in, choose, count_by, is_either_way, forms_of}
use Rattle.encode_spec.specs.Layout.{layout}
use Rattle.encode_spec.specs.Limits.{Asked, of_slot}
use Rattle.encode_spec.specs.Questions.{is_form, form_asked, chosen, questions}
use Rattle.encode_spec.specs.Answer.{First, all_yes, no, first_no, written, record_bytes, bytes, answered, answer}
use Rattle.encode_spec.proofs.Values.{false-true, both_true}
use Rattle.encode_spec.proofs.Slots.{holds, Given, yes}
pub use Rattle.encode_spec.proofs.ReadBack.{Reads}
use Rattle.encode_spec.proofs.ReadBack.{ReadsPlain, plain_reads, repeated_reads, string_begun, ArrangedForm, begun, reads_back}
use Rattle.encode_spec.proofs.Meanings.{Leaf, all_at}
use Rattle.encode_spec.proofs.Operations.{by_operation}

-- ---- all questions answered yes
abbrev yes_at : List Asked → ℕ → Bool
yes_at [] i = true
yes_at (q ∷ qs) zero = q.yes
yes_at (q ∷ qs) (suc i) = yes_at qs i

-- each of them
pub every : (qs : List Asked) → first_no qs ≡ all_yes → (i : ℕ) → yes_at qs i ≡ true
every [] e i = refl
every (q ∷ qs) e zero = (yes q.yes (first_no qs) q e).0
every (q ∷ qs) e (suc i) = every qs (yes q.yes (first_no qs) q e).1 i

-- those behind the first n
later : (qs : List Asked) → first_no qs ≡ all_yes → (n : ℕ) → first_no (drop n qs) ≡ all_yes
later qs e zero = e
later [] e (suc n) = refl
later (q ∷ qs) e (suc n) = later qs (yes q.yes (first_no qs) q e).1 n

-- those of two lists
parts : (qs rs : List Asked) → first_no (qs ++ rs) ≡ all_yes → (first_no qs ≡ all_yes) × (first_no rs ≡ all_yes)
parts [] rs e = (refl, e)
parts (q ∷ qs) rs e =
    let s = yes q.yes (first_no (qs ++ rs)) q e in
    let t = parts qs rs s.1 in
    (rw s.0 t.0, t.1)

-- an answer of bytes says that all got yes, and which bytes
pub gives_bytes : (f : First) (s bs : List ℕ) → answered f s ≡ bytes bs → (f ≡ all_yes) × (s ≡ bs)
gives_bytes all_yes s bs e = (refl, cc)
gives_bytes (no q) s bs e = let z : ◌≡◌ {A = ℕ} 0 1 = cc in absurd (omega arith)

-- ---- the form chosen is listed and takes the operands
record Taken (fs : List Form) (f : Form) (s : OperandSize) (a : OperandData) (t : OperandSize) (b : OperandData) : Type 0 where
  pub listed : Memᴰ f fs
  pub first : takes f.first s a ≡ true
  pub second : takes f.second t b ≡ true

-- what is known of a choice
abbrev Picked : Bool → List Form → OperandSize → OperandData → OperandSize → OperandData → Choice → Type 0
Picked either_way fs s a t b none = T true
Picked either_way fs s a t b (straight f) = Taken fs f s a t b
Picked either_way fs s a t b (crossed f) = Taken fs f t b s a × (either_way ≡ true)

module _ (either_way : Bool) (s : OperandSize) (a : OperandData) (t : OperandSize) (b : OperandData) where
  -- what is known of a choice from a list stays so with a form before it
  further : (f : Form) (fs : List Form) (c : Choice) → Picked either_way fs s a t b c → Picked either_way (f ∷ fs) s a t b c
  further f fs none h = tt
  further f fs (straight g) h = record { listed = Memᴰ.tail h.listed; first = h.first; second = h.second }
  further f fs (crossed g) h = (record { listed = Memᴰ.tail h.0.listed; first = h.0.first; second = h.0.second }, h.1)

  -- the first form taken, in one order or the other, or what the rest of the list gives
  tried : (f : Form) (fs : List Form) (c : Choice) (i j : Bool) → both (takes f.first s a) (takes f.second t b) ≡ i
      → both either_way (both (takes f.first t b) (takes f.second s a)) ≡ j → Picked either_way fs s a t b c
      → Picked either_way (f ∷ fs) s a t b (pick i (straight f) (pick j (crossed f) c))
  tried f fs c true j d e h =
      let x = both_true (takes f.first s a) (takes f.second t b) d in
      record { listed = Memᴰ.head refl; first = x.0; second = x.1 }
  tried f fs c false true d e h =
      let x = both_true either_way (both (takes f.first t b) (takes f.second s a)) e in
      let y = both_true (takes f.first t b) (takes f.second s a) x.1 in
      (record { listed = Memᴰ.head refl; first = y.0; second = y.1 }, x.0)
  tried f fs c false false d e h = further f fs c h

  picked : (fs : List Form) → Picked either_way fs s a t b (choose either_way fs s a t b)
  picked [] = tt
  picked (f ∷ fs) = tried f fs (choose either_way fs s a t b) _ _ refl refl (picked fs)

-- ---- the form chosen: one of the table and of the operation, with x in its first slot and y in its second
pub record Chosen (insn : InstructionData) (off : ℕ) (f : Form) (x y : OperandData) : Type 0 where
  pub listed : Memᴰ f forms
  pub of_operation : Memᴰ f (forms_of insn.operation)
  pub counted : count_by (rule (group_of insn.operation)).special insn.num_opers f ≡ true
  pub first_takes : takes f.first (size_in (group_of insn.operation) (dst insn) (src insn) x) x ≡ true
  pub second_takes : takes f.second (size_in (group_of insn.operation) (dst insn) (src insn) y) y ≡ true
  pub first : Given f.first off x
  pub second : Given f.second off y

abbrev pub ChosenAs : InstructionData → ℕ → Choice → Type 0
ChosenAs insn off none = ⊥
ChosenAs insn off (straight f) = Chosen insn off f (dst insn) (src insn)
ChosenAs insn off (crossed f) = Chosen insn off f (src insn) (dst insn) × (is_either_way (group_of insn.operation) (dst insn) (src insn) ≡ true)

module _ (insn : InstructionData) (off : ℕ) where
  abbrev op : Operation
  op = insn.operation

  abbrev g : Group
  g = group_of insn.operation

  abbrev a : OperandData
  a = dst insn

  abbrev b : OperandData
  b = src insn

  -- the forms at the record's count
  abbrev counted_forms : List Form
  counted_forms = keep (count_by (rule g).special insn.num_opers) (forms_of op)

  given : (s : Slot) (o : OperandData) (z : OperandSize) → takes s z o ≡ true → well_formed o ≡ true → first_no (of_slot g s off o) ≡ all_yes → Given s off o
  given s o z t w q = record { size = z; taken = t; formed = w; group = g; asked = q }

  -- a form taken, whose questions get yes
  chosen_by : (f : Form) (x y : OperandData) → Taken counted_forms f (size_in g a b x) x (size_in g a b y) y → well_formed x ≡ true → well_formed y ≡ true
      → first_no (of_slot g f.first off x ++ of_slot g f.second off y) ≡ all_yes → Chosen insn off f x y
  unfolding forms_of
  chosen_by f x y p wx wy q =
      let of_it = kept (count_by (rule g).special insn.num_opers) (forms_of op) p.listed in
      let (qx, qy) = parts (of_slot g f.first off x) (of_slot g f.second off y) q in
      record {
        listed = kept (λ f. same_operation f.operation op) forms of_it;
        of_operation = of_it;
        counted = passed (count_by (rule g).special insn.num_opers) (forms_of op) p.listed;
        first_takes = p.first;
        second_takes = p.second;
        first = given f.first x _ p.first wx qx;
        second = given f.second y _ p.second wy qy;
      }

  chosen_as : (c : Choice) → Picked (is_either_way g a b) counted_forms (size_in g a b a) a (size_in g a b b) b c → well_formed a ≡ true → well_formed b ≡ true
      → is_form c ≡ true → first_no (form_asked g c off a b) ≡ all_yes → ChosenAs insn off c
  chosen_as none p wa wb e q = false-true e
  chosen_as (straight f) p wa wb e q = chosen_by f a b p wa wb q
  chosen_as (crossed f) p wa wb e q = (chosen_by f b a p.0 wb wa q, p.1)

  -- where all questions get yes there is a form
  pub chosen_is : first_no (questions insn off) ≡ all_yes → ChosenAs insn off (chosen insn)
  unfolding questions
  chosen_is e =
      let qs = questions insn off in
      chosen_as (chosen insn) (picked (is_either_way g a b) (size_in g a b a) a (size_in g a b b) b counted_forms) (every qs e 1) (every qs e 2) (every qs e 8) (later qs e 9)

  -- and the repeat is well formed
  pub repeat_yes : first_no (questions insn off) ≡ all_yes → repeat_formed insn.repeat op ≡ true
  unfolding questions
  repeat_yes e = every (questions insn off) e 3

  -- what is known of a form of the operation
  leaf : {f : Form} → Memᴰ f (forms_of op) → Leaf g op f
  unfolding forms_of
  leaf m = all_at (by_operation op).leaves m

  module _ (f : Form) (x y : OperandData) (k : Chosen insn off f x y) where
    pub arranged_is : ArrangedForm f
    arranged_is = (leaf k.of_operation).arranged

    pub operation_is : f.operation ≡ op
    operation_is = (leaf k.of_operation).operation_is

  -- ---- its bytes read back
  module _ (h : off < 65536) where
    form_reads : (f : Form) (x y : OperandData) → Chosen insn off f x y
        → ReadsPlain off (canonical op (width_of f) (holds f.first x) (holds f.second y)) (layout f off x y)
    form_reads f x y k =
        subst (λ (o : Operation). ReadsPlain off (canonical o (width_of f) (holds f.first x) (holds f.second y)) (layout f off x y)) (operation_is f x y k)
        (reads_back f k.listed (arranged_is f x y k) off h x y k.first k.second)

    crossed_means : (f : Form) → Chosen insn off f b a → is_either_way g a b ≡ true → canonical op (width_of f) (holds f.first b) (holds f.second a) ≡ meant g insn.num_opers op a b
    unfolding forms_of
    crossed_means f k w = (all_at (by_operation op).crosses k.of_operation).crossed insn.num_opers a b w k.first_takes k.second_takes

    -- as what the record means, where the form has the operands as they stand, and where they are crossed
    choice_reads : (c : Choice) → ChosenAs insn off c → ReadsPlain off (meant g insn.num_opers op a b) (written c off a b)
    choice_reads none k = absurd k
    choice_reads (straight f) k =
        subst (λ (m : Instruction). ReadsPlain off m (layout f off a b)) ((leaf k.of_operation).means insn.num_opers a b k.counted k.first_takes k.second_takes)
        (form_reads f a b k)
    choice_reads (crossed f) (k, w) =
        subst (λ (m : Instruction). ReadsPlain off m (layout f off b a)) (crossed_means f k w) (form_reads f b a k)

    -- a string operation's begin with its opcode
    form_begins : (f : Form) (x y : OperandData) → Chosen insn off f x y → is_string op ≡ true → begins_string (layout f off x y) ≡ true
    form_begins f x y k s =
        string_begun f (layout f off x y) (rw (operation_is f x y k) s) (begun f k.listed (arranged_is f x y k) off h x y k.first k.second)

    choice_begins : (c : Choice) → ChosenAs insn off c → is_string op ≡ true → begins_string (written c off a b) ≡ true
    choice_begins none k s = absurd k
    choice_begins (straight f) k s = form_begins f a b k s
    choice_begins (crossed f) (k, w) s = form_begins f b a k s

    -- with the repeat
    repeat_reads : ChosenAs insn off (chosen insn) → repeat_formed insn.repeat op ≡ true → Reads off (meaning insn) (record_bytes insn off)
    repeat_reads k f = go (eqb insn.repeat 0) refl f
      where
        m : Instruction
        m = meant g insn.num_opers op a b

        bs : List ℕ
        bs = written (chosen insn) off a b

        r : ReadsPlain off m bs
        r = choice_reads (chosen insn) k

        go : (i : Bool) → eqb insn.repeat 0 ≡ i → either i (both (is_repeat insn.repeat) (is_string op)) ≡ true
            → Reads off (repeated insn.repeat m) (pick i [] (insn.repeat ∷ []) ++ bs)
        go true e f =
            let z : repeated insn.repeat m ≡ m = unrepeated insn.repeat m (eqb-true insn.repeat 0 e ∙ sym (plain_repeat off bs m (length bs) r.reads_it)) in
            rw z (plain_reads off m bs r)
        go false e f =
            let (p, s) = both_true (is_repeat insn.repeat) (is_string op) f in
            repeated_reads off insn.repeat m bs p (choice_begins (chosen insn) k s) r

    pub all_yes_reads : first_no (questions insn off) ≡ all_yes → Reads off (meaning insn) (record_bytes insn off)
    all_yes_reads e = repeat_reads (chosen_is e) (repeat_yes e)

-- what encode accepts at an offset below 65,536 reads as what the record means, to the last byte, in 1 to 7 bytes
pub accepted_reads : (insn : InstructionData) (off : ℕ) → off < 65536 → (bs : List ℕ) → answer insn off ≡ bytes bs → Reads off (meaning insn) bs
unfolding answer
accepted_reads insn off h bs e =
    let (y, w) = gives_bytes (first_no (questions insn off)) (record_bytes insn off) bs e in
    subst (Reads off (meaning insn)) w (all_yes_reads insn off h y)
