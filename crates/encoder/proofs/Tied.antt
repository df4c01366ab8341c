-- The answer as the code finds it is the answer of the questions and forms: for every record and every offset.
-- Assumes nothing.
use mathlib.Core.Path.{◌≡◌, refl, sym, ◌∙◌, ap, subst}
use Prim.Native.Nat.{ℕ, ◌+◌, ◌≤◌}
use native.Mathlib.Omega.{arith}
use mathlib.Core.Bool.{Bool, true, false}
use mathlib.Core.List.{List, [], ◌∷◌, ◌++◌, Memᴰ}
use lib.Dec.{T, leb, ltb, leb→le, ltb→lt}
use lib.ListN.{length, drop, length-append}
use Rattle.mrc_compiler.specs.declared.encoder.EncodeError.{EncodeError}
use Rattle.mrc_compiler.specs.declared.encoder.EncodeError.TheVariants as E
use Rattle.mrc_compiler.specs.declared.encoder.InstructionData.{InstructionData}
use Rattle.mrc_compiler.specs.declared.encoder.OperandData.{OperandData}
use Rattle.mrc_compiler.specs.declared.encoder.OperandSize.{OperandSize}
use Rattle.mrc_compiler.specs.declared.encoder.generate.Why.TheVariants as W
use Rattle.mrc_compiler.specs.declared.encoder.generate.At.TheVariants as At
use Rattle.mrc_compiler.specs.declared.operations.Operation.{Operation}
use Rattle.std.specs.Prelude.{Ok, Err}
use Rattle.mrc_compiler.specs.Choose.{pick, both}
use Rattle.mrc_compiler.specs.Operations.{same_operation}
use Rattle.x86.specs.Forms.{Form, forms}
use Rattle.x86.specs.Reading.{keep, about}
use Rattle.x86.proofs.Tests.{both_parts, each_of, each_at, kept}
use Rattle.x86.proofs.Unambiguous.{digit_ok, all_bytes}
use Rattle.encode_spec.specs.Records.{dst, src}
use Rattle.encode_spec.specs.WellFormed.{well_formed, repeat_formed}
use Rattle.encode_groups.specs.declared.Group.{Group}
use Rattle.encode_groups.specs.Grouping.{grouped_of, group_of}
use Rattle.encode_spec.specs.Rules.{rule}
use Rattle.encode_spec.specs.Choice.{Choice, none, straight, crossed, takes, size_in, choose, count_by, is_either_way, forms_of}
use Rattle.encode_spec.specs.Layout.{Part, prefix_bytes, part, layout}
use Rattle.encode_spec.specs.Limits.{Asked, asked, of_slot, of_form}
use Rattle.encode_spec.specs.Questions.{Ask, ask, size_stated, sizes_agree, target_asked, form_found, group_asks, with_span, is_supported, form_asked, chosen, questions}
use Rattle.encode_spec.specs.Answer.{First, all_yes, no, first_no, written, record_bytes, Answer, bytes, refused, answered, answer}
use Rattle.encode_spec.proofs.Values.{both_true}
use Rattle.encode_spec.proofs.Slots.{Field, field, place_of, laid, ByField, by_field}
use Rattle.encode_spec.proofs.ReadBack.{ArrangedForm}
use Rattle.encode_spec.proofs.Meanings.{all_at}
use Rattle.encode_spec.proofs.Operations.{by_operation}
use Rattle.encode_plans.specs.Plans.{tail, head, fixed, form_plan, choice_plan, refusing, plan_of}
use Rattle.encode_fields.specs.Fields.{joined, operand, other}
use Rattle.encoder.specs.Coded.{plan_answer, behind_repeat, behind_formed, coded}
use Rattle.encoder.proofs.Joins.{asked_joined, listed, listed-append, emits, refuses}
use Rattle.encoder.proofs.Tails.{behind, codes, kind_fits, SlotTied, slot_tied}
use Rattle.encoder.proofs.Heads.{laid_out, Headed, headed}

-- ---- every form is of one code or two, and the kind of its immediate is one of a byte or of a word as its slot is
abbrev codes_behind : Form → ℕ
codes_behind f =
    length (fixed f.extension)
    + (codes (place_of (field f.first)) (about f.first).takes + codes (place_of (field f.second)) (about f.second).takes)

abbrev first_fits : Form → Bool
first_fits f = kind_fits (group_of f.operation) (about f.first).takes

abbrev second_fits : Form → Bool
second_fits f = kind_fits (group_of f.operation) (about f.second).takes

few_codes : T (each_of (λ f. leb (codes_behind f) 1) forms)
unfolding forms
few_codes = tt

kinds_fit : T (each_of (λ f. both (first_fits f) (second_fits f)) forms)
unfolding forms grouped_of
kinds_fit = tt

-- what is asked of a form's operands i and j, with its bytes, is what its codes answer
abbrev FormTied : InstructionData → ℕ → ℕ → ℕ → Form → Operation → Type 0
FormTied insn off i j f op =
    answered (first_no (of_form (group_of op) f off (operand insn i) (operand insn j))) (layout f off (operand insn i) (operand insn j))
    ≡ plan_answer (form_plan (group_of op) f i j) insn off

-- ---- a form with the operands i and j of a record in its slots
module _ (insn : InstructionData) (off i j : ℕ) (other_i : other insn i ≡ operand insn j) (other_j : other insn j ≡ operand insn i)
    (f : Form) (m : Memᴰ f forms) (r : ArrangedForm f) (y z : OperandSize)
    (ta : takes f.first y (operand insn i) ≡ true) (tb : takes f.second z (operand insn j) ≡ true)
    (wa : well_formed (operand insn i) ≡ true) (wb : well_formed (operand insn j) ≡ true) where
  abbrev a : OperandData
  a = operand insn i

  abbrev b : OperandData
  b = operand insn j

  abbrev g : Group
  g = group_of f.operation

  abbrev F : Field
  F = field f.first

  abbrev G : Field
  G = field f.second

  abbrev u : List ℕ
  u = (part f.first off a).immediate

  abbrev v : List ℕ
  v = (part f.second off b).immediate

  fit : T (first_fits f) × T (second_fits f)
  fit = both_parts (first_fits f) (second_fits f) (each_at (λ f. both (first_fits f) (second_fits f)) forms kinds_fit m)

  few : codes_behind f ≤ 1
  few = leb→le _ 1 (each_at (λ f. leb (codes_behind f) 1) forms few_codes m)

  -- what the codes of each slot answer
  slot_a : SlotTied insn off i g f.first
  slot_a = slot_tied insn off i g f.first y ta wa fit.0

  slot_b : SlotTied insn off j g f.second
  slot_b = slot_tied insn off j g f.second z tb wb fit.1

  first_by : ByField f.first off a
  first_by = by_field f.first off a

  second_by : ByField f.second off b
  second_by = by_field f.second off b

  -- what its first codes answer
  in_front : Headed insn off i j other_i other_j f.extension f.opcode f.first f.second F G u v
  in_front =
      let t = each_at (λ f. both (ltb f.opcode 256) (digit_ok f.extension)) forms all_bytes m in
      let (l, d) = both_parts (ltb f.opcode 256) (digit_ok f.extension) t in
      headed insn off i j other_i other_j r (ltb→lt _ 256 l) d
      f.first f.second u v
      first_by.place_is second_by.place_is slot_a.low3_is slot_a.fits slot_b.fits first_by.takes_is few

  -- the form's bytes, by its fields
  laid_out_lem : layout f off a b ≡ laid_out f.extension f.opcode (laid F a) (laid G b) u v
  unfolding layout
  laid_out_lem =
      ap (λ (q : Part). laid_out f.extension f.opcode q (part f.second off b) u v) first_by.part_is
      ∙ ap (λ (q : Part). laid_out f.extension f.opcode (laid F a) q u v) second_by.part_is

  -- what both sides are: the bytes in front, then what each slot answers
  abbrev in_parts : Answer
  in_parts =
      joined (bytes in_front.front) (joined (bytes in_front.more)
      (joined (listed insn off (tail g f.first i)) (listed insn off (tail g f.second j))))

  asked_in_parts : answered (first_no (of_form g f off a b)) (layout f off a b) ≡ in_parts
  asked_in_parts =
      let qs = of_slot g f.first off a in
      let rs = of_slot g f.second off b in
      let x = behind (place_of F) a ++ u in
      let y = behind (place_of G) b ++ v in
      ap (λ (l : List ℕ). answered (first_no (qs ++ rs)) l) (laid_out_lem ∙ in_front.layout_is)
      ∙ rw (
        asked_joined [] (qs ++ rs) in_front.front (in_front.more ++ (x ++ y)),
        asked_joined [] (qs ++ rs) in_front.more (x ++ y),
        asked_joined qs rs x y,
        slot_a.answers,
        slot_b.answers,
      )

  coded_in_parts : plan_answer (form_plan g f i j) insn off ≡ in_parts
  coded_in_parts =
      let cs = tail g f.first i in
      let ds = tail g f.second j in
      emits insn off (head f.extension f.opcode f.first f.second i j) (fixed f.extension ++ (cs ++ ds))
      (omega (arith, few, length-append (fixed f.extension) (cs ++ ds), length-append cs ds, slot_a.count, slot_b.count))
      ∙ rw (listed-append insn off (fixed f.extension) (cs ++ ds), listed-append insn off cs ds, in_front.front_is, in_front.more_is)

  form_tied : FormTied insn off i j f f.operation
  form_tied = asked_in_parts ∙ sym coded_in_parts

-- ---- what holds of every choice that the list of forms allows holds of the form chosen
module _ (P : Choice → Type 0) (either_way : Bool) (s : OperandSize) (a : OperandData) (t : OperandSize) (b : OperandData) (n : P none) where
  choose_has : (fs : List Form)
      → ((f : Form) → Memᴰ f fs → takes f.first s a ≡ true → takes f.second t b ≡ true → P (straight f))
      → ((f : Form) → Memᴰ f fs → takes f.first t b ≡ true → takes f.second s a ≡ true → P (crossed f))
      → P (choose either_way fs s a t b)
  choose_has [] x y = n
  choose_has (f ∷ fs) x y = go _ _ refl refl (choose_has fs (λ h m. x h (Memᴰ.tail m)) (λ h m. y h (Memᴰ.tail m)))
    where
      go : (i j : Bool) → both (takes f.first s a) (takes f.second t b) ≡ i
          → both either_way (both (takes f.first t b) (takes f.second s a)) ≡ j
          → P (choose either_way fs s a t b) → P (pick i (straight f) (pick j (crossed f) (choose either_way fs s a t b)))
      go true j d e h =
          let (k, l) = both_true (takes f.first s a) (takes f.second t b) d in
          x f (Memᴰ.head refl) k l
      go false true d e h =
          let (k, l) = both_true (takes f.first t b) (takes f.second s a) (both_true either_way _ e).1 in
          y f (Memᴰ.head refl) k l
      go false false d e h = h

-- ---- a record with well-formed operands
module _ (insn : InstructionData) (off : ℕ) (wa : well_formed (dst insn) ≡ true) (wb : well_formed (src insn) ≡ true) where
  abbrev op : Operation
  op = insn.operation

  -- questions 2 to 5, and 6 of JMP
  abbrev asks : Choice → List Ask
  asks c = ask 2 (is_supported (group_of op)) W.NotSupported At.Operands ∷ group_asks (group_of op) c (dst insn) (src insn)

  -- questions 2 to 7 and the bytes of a choice against its plan
  abbrev Same : Choice → Type 0
  Same c =
      answered (first_no (with_span insn (asks c) ++ form_asked (group_of op) c off (dst insn) (src insn))) (written c off (dst insn) (src insn))
      ≡ plan_answer (refusing (asks c) (choice_plan (group_of op) c)) insn off

  -- where there is no form question 5 says no, whatever is behind it
  same_none : Same none
  same_none =
      let g = group_of op in
      let q = form_found g none (dst insn) (src insn) in
      refuses insn off
      (ask 2 (is_supported g) W.NotSupported At.Operands ∷ size_stated g (dst insn) (src insn) ∷ sizes_agree g (dst insn) (src insn) ∷ target_asked g (dst insn) ∷ [])
      (with_span insn (q ∷ [])) [] (Err (record { why = q.why; at = q.at })) refl

  -- a form of the operation with the operands i and j
  of_operation : (i j : ℕ) → other insn i ≡ operand insn j → other insn j ≡ operand insn i
      → well_formed (operand insn i) ≡ true → well_formed (operand insn j) ≡ true
      → (f : Form) → Memᴰ f (forms_of op) → (y z : OperandSize)
      → takes f.first y (operand insn i) ≡ true → takes f.second z (operand insn j) ≡ true
      → FormTied insn off i j f op
  unfolding forms_of
  of_operation i j oi oj wi wj f m y z ti tj =
      let l = all_at (by_operation op).leaves m in
      subst (FormTied insn off i j f) l.operation_is
      (form_tied insn off i j oi oj f (kept (λ f. same_operation f.operation op) forms m) l.arranged y z ti tj wi wj)

  -- a choice that answers the same as its plan does so behind the questions too
  same : (c : Choice) → answered (first_no (form_asked (group_of op) c off (dst insn) (src insn))) (written c off (dst insn) (src insn))
      ≡ plan_answer (choice_plan (group_of op) c) insn off → Same c
  same c h =
      refuses insn off (asks c) (form_asked (group_of op) c off (dst insn) (src insn)) (written c off (dst insn) (src insn)) (choice_plan (group_of op) c) h

  -- the form chosen, out of those at the record's count
  same_chosen : Same (chosen insn)
  same_chosen =
      let g = group_of op in
      let q = count_by (rule g).special insn.num_opers in
      let s = size_in g (dst insn) (src insn) (dst insn) in
      let t = size_in g (dst insn) (src insn) (src insn) in
      choose_has Same (is_either_way g (dst insn) (src insn)) s (dst insn) t (src insn) same_none (keep q (forms_of op))
      (λ f m x y. same (straight f) (of_operation 0 1 refl refl wa wb f (kept q (forms_of op) m) s t x y))
      (λ f m x y. same (crossed f) (of_operation 1 0 refl refl wb wa f (kept q (forms_of op) m) t s x y))

-- a question of the code in front of others: behind it the two need only agree where it gets yes
asked_where : (n : ℕ) (t : Bool) (e : EncodeError) (qs : List Asked) (bs : List ℕ) (x : Answer) → (t ≡ true → x ≡ answered (first_no qs) bs)
    → pick t x (refused e) ≡ answered (first_no (asked n t e ∷ qs)) bs
asked_where n true e qs bs x h = h refl
asked_where n false e qs bs x h = refl

behind_answered : (p : ℕ) (f : First) (bs : List ℕ) → behind_repeat p (answered f bs) ≡ answered f (prefix_bytes p ++ bs)
behind_answered p all_yes bs = refl
behind_answered p (no q) bs = refl

-- question 1 is four questions of the code, one in front of the other
formed_asks : (n a b r : Bool) (en ea eb er : EncodeError) (x : Answer)
    → behind_formed (pick n (pick a (pick b (pick r (Ok tt) (Err er)) (Err eb)) (Err ea)) (Err en)) x
    ≡ pick n (pick a (pick b (pick r x (refused er)) (refused eb)) (refused ea)) (refused en)
formed_asks false a b r en ea eb er x = refl
formed_asks true false b r en ea eb er x = refl
formed_asks true true false r en ea eb er x = refl
formed_asks true true true false en ea eb er x = refl
formed_asks true true true true en ea eb er x = refl

-- the answer as the code finds it is the answer of the questions and forms
pub tied : (insn : InstructionData) (off : ℕ) → coded insn off ≡ answer insn off
unfolding coded answer questions plan_of
tied insn off =
    let a = dst insn in
    let b = src insn in
    let bs = record_bytes insn off in
    let rs = drop 4 (questions insn off) in
    let of_repeat = E.InvalidRepeat insn.opers_span in
    let repeat = asked 1 (repeat_formed insn.repeat insn.operation) of_repeat in
    let of_b = E.NotWellFormed b.span in
    let of_a = E.NotWellFormed a.span in
    formed_asks (leb insn.num_opers 2) (well_formed a) (well_formed b) (repeat_formed insn.repeat insn.operation) (E.NotWellFormed insn.opers_span) of_a of_b of_repeat _
    ∙ asked_where 1 (leb insn.num_opers 2) (E.NotWellFormed insn.opers_span) (asked 1 (well_formed a) of_a ∷ asked 1 (well_formed b) of_b ∷ repeat ∷ rs) bs _
    (λ n. asked_where 1 (well_formed a) of_a (asked 1 (well_formed b) of_b ∷ repeat ∷ rs) bs _
    (λ wa. asked_where 1 (well_formed b) of_b (repeat ∷ rs) bs _
    (λ wb. asked_where 1 (repeat_formed insn.repeat insn.operation) of_repeat rs bs (behind_repeat insn.repeat (plan_answer (plan_of insn) insn off))
    (λ wr. ap (behind_repeat insn.repeat) (sym (same_chosen insn off wa wb)) ∙ behind_answered insn.repeat (first_no rs) (written (chosen insn) off a b)))))
