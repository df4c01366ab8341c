-- The cases of the reading by rows, from what the code learns on the way.
-- Assumes nothing.
use Rattle.std.specs.Prelude.{◌==◌, Ok, Err, None, Option, Some}
use mathlib.Core.Path.{◌≡◌, refl, sym, ◌∙◌, ap}
use mathlib.Core.Logic.{◌⊎◌, inl, inr}
use Prim.Native.Nat.{ℕ, zero, suc, ◌+◌, ◌-◌, ◌≤◌, ◌<◌}
use native.Mathlib.Omega.{arith}
use mathlib.Core.Bool.{Bool, true, false}
use mathlib.Core.List.{List, [], ◌∷◌}
use lib.Dec.{T, eqb, ltb, leb}
use lib.ListN.{length, take, drop, get_or, length-drop}
use lib.Seq.{take_all}
use borrow.Author.Tests.{eq-eqb, ne_eqb, eqb-true, ltb-true, ltb-false, le-leb, lt-leb}
use Rattle.mrc_compiler.specs.declared.encoder.OperandSize.{OperandSize}
use Rattle.mrc_compiler.specs.declared.operations.Operation.{Operation}
use Rattle.mrc_compiler.specs.declared.operations.Operation.TheVariants.{TEST}
use Rattle.mrc_compiler.specs.Choose.{pick, both, either, by_size}
use Rattle.mrc_compiler.specs.Operations.{number_of, same_operation, operations, is_string}
use Rattle.mrc_compiler.proofs.Numbers.{operation_eq}
use Rattle.x86_forms.specs.declared.FormName.{FormName}
use Rattle.x86.specs.declared.Operand.{Operand}
use Rattle.x86.specs.declared.Instruction.{Instruction}
use Rattle.x86.specs.declared.ReadError.{ReadError}
use Rattle.x86.specs.declared.ReadError.TheVariants.{NotAnInstruction, NotComplete}
use Rattle.x86.specs.declared.Operand.TheVariants as O
use Rattle.x86.specs.Forms.{Slot, rm, rm_near, mem, mem_far, reg, sreg, sreg_not_cs, acc, low3, bits34, bits34_not_cs, cl, dx, one, moffs, xlat, ib, iw, ib_sx, cb, cw, ptr, nil, Form, forms}
use Rattle.x86.specs.Instructions.{by_register, memory_first, canonical}
use Rattle.x86.specs.Listing.{Bytes}
use Rattle.x86.specs.Reading.{Read, About, about, at, width_of, address_length, has_second, head_length, memory_length, tail_length, in_memory, names_memory, some, starting_with, read_form, prefix, read_plain, is_repeat, begins_string, repeats, reads}
use Rattle.x86.specs.Rows.{plain, Shape, rows}
use Rattle.x86.proofs.Repeats.{bare, single, string_at}
use Rattle.x86.proofs.Tests.{same, same_is, up_to, up_to_at, each_of, each_at}
use Rattle.read_table.specs.Rows.{found_of, tests_register, extension_at, shape_form, any_form, form_at}
use Rattle.reader.specs.declared.Reading.{Reading}
use Rattle.reader.specs.Answer.{reading, Decoded, form_of, with_form, decoded}
use Rattle.reader.specs.ByRow.{decoded_shape, shape_with, may_follow, decoded_opcode, decoded_plain, decoded_repeat}
use Rattle.reader.proofs.ByRow.{opcode_by_row}

-- the rest of a slice from n on, as the code hands it over
pub rest : (n : ℕ) (s : List ℕ) → take (length s - n) (drop n s) ≡ drop n s
rest n s = take_all (length s - n) (drop n s) (simp length-drop (omega arith))

-- opcode and second byte are at most two bytes
pub one_or_two : {n : ℕ} (b : Bool) → n ≡ pick b 2 1 → n ≤ 2
one_or_two true e = omega arith
one_or_two false e = omega arith

-- ---- which operands change places
-- where tests_register says so, the operation is TEST
pub is_test : (t e r : Bool) → both t e ≡ r → pick r t true ≡ true
is_test true true r h = rw (← h)
is_test true false r h = rw (← h)
is_test false e r h = rw (← h)

both_no : (t : Bool) → both t false ≡ false
both_no true = refl
both_no false = refl

both_yes : (t r m : Bool) → both t true ≡ r → both t m ≡ both r m
both_yes true r m h = rw (← h)
both_yes false r m h = rw (← h)

-- before an immediate there is nothing to exchange
quiet : (t r : Bool) (a : Operand) → both t (by_register a (λ m. false) false) ≡ both r (by_register a (λ m. false) false)
quiet t r a = rw (none a, both_no t, both_no r)
  where
    none : (a : Operand) → by_register a (λ m. false) false ≡ false
    none O.None = refl
    none (O.Register n) = refl
    none (O.SegmentRegister n) = refl
    none (O.Memory n d s) = refl
    none (O.Immediate v) = refl
    none (O.Near v) = refl
    none (O.Far v s) = refl
    none O.One = refl

-- TEST without an immediate is told by the first byte; with one, nothing is exchanged
pub alike_tests : (t r : Bool) (s : Slot) (p c x next : ℕ) (v u : List ℕ) (a : Operand) → both t (eqb (about s).takes 0) ≡ r
    → both t (memory_first a (at s p c x next v u)) ≡ both r (memory_first a (at s p c x next v u))
alike_tests t r (rm w) p c x next v u a h = both_yes t r _ h
alike_tests t r rm_near p c x next v u a h = both_yes t r _ h
alike_tests t r mem p c x next v u a h = both_yes t r _ h
alike_tests t r mem_far p c x next v u a h = both_yes t r _ h
alike_tests t r (reg w) p c x next v u a h = both_yes t r _ h
alike_tests t r sreg p c x next v u a h = both_yes t r _ h
alike_tests t r sreg_not_cs p c x next v u a h = both_yes t r _ h
alike_tests t r (acc w) p c x next v u a h = both_yes t r _ h
alike_tests t r (low3 w) p c x next v u a h = both_yes t r _ h
alike_tests t r bits34 p c x next v u a h = both_yes t r _ h
alike_tests t r bits34_not_cs p c x next v u a h = both_yes t r _ h
alike_tests t r cl p c x next v u a h = both_yes t r _ h
alike_tests t r dx p c x next v u a h = both_yes t r _ h
alike_tests t r one p c x next v u a h = both_yes t r _ h
alike_tests t r (moffs w) p c x next v u a h = both_yes t r _ h
alike_tests t r xlat p c x next v u a h = both_yes t r _ h
alike_tests t r ib p c x next v u a h = quiet t r a
alike_tests t r iw p c x next v u a h = quiet t r a
alike_tests t r ib_sx p c x next v u a h = quiet t r a
alike_tests t r cb p c x next v u a h = quiet t r a
alike_tests t r cw p c x next v u a h = quiet t r a
alike_tests t r ptr p c x next v u a h = quiet t r a
alike_tests t r nil p c x next v u a h = both_yes t r _ h

-- the same of operands that are known to stand in slots
pub parts_alike : (op : Operation) (c x next p m : ℕ) (t : List ℕ) (g : Slot) (a : Operand) {b : Operand} → b ≡ at g p c x next t (take (length t - m) (drop m t))
    → both (same_operation op TEST) (eqb (about g).takes 0) ≡ tests_register c
    → both (same_operation op TEST) (memory_first a b) ≡ both (tests_register c) (memory_first a b)
parts_alike op c x next p m t g a e h = rw e (alike_tests (same_operation op TEST) (tests_register c) g p c x next t (take (length t - m) (drop m t)) a h)

pub parts : (op : Operation) (w : OperandSize) (a b : Operand) (f g : Slot) (p c x next m : ℕ) (t : List ℕ) (k : Instruction)
    → a ≡ at f p c x next t (take (length t - m) (drop m t)) → b ≡ at g p c x next t (take (length t - m) (drop m t)) → k ≡ canonical op w a b
    → k ≡ canonical op w (at f p c x next t (drop m t)) (at g p c x next t (drop m t))
parts op w a b f g p c x next m t k ea eb ek =
    let fa : a ≡ at f p c x next t (drop m t) = rw (rest m t) at ea in
    let fb : b ≡ at g p c x next t (drop m t) = rw (rest m t) at eb in
    cc

-- ---- by a shape with an operation; a and b are what is known of its slots
module _ (off p c x : ℕ) (t : List ℕ) (s : Shape) (op : Operation) {a b : About} (ea : a ≡ about s.first) (eb : b ≡ about s.second)
    {stand : Bool} (es : stand ≡ either (eqb p 0) (either (in_memory a.place x) (in_memory b.place x))) where
  stands : stand ≡ either (eqb p 0) (names_memory (any_form s) x)
  stands = rw (ea, eb) at es

  pub form_nothing : stand ≡ false → Err NotAnInstruction ≡ with_form (read_form off p c x t (shape_form s op)) (form_at s.class c x)
  unfolding read_form
  form_nothing f = rw (sym stands ∙ f) refl

  module _ {m : ℕ} (y : stand ≡ true) (em : m ≡ address_length a.place x + address_length b.place x) where
    tails : m + (a.takes + b.takes) ≡ tail_length (any_form s) x
    tails = rw (em, ea, eb) refl

    pub form_more : length t < m + (a.takes + b.takes) → Err NotComplete ≡ with_form (read_form off p c x t (shape_form s op)) (form_at s.class c x)
    unfolding read_form
    form_more h =
        let l : leb (tail_length (any_form s) x) (length t) ≡ false = rw (← tails) (lt-leb (m + (a.takes + b.takes)) (length t) h) in
        rw (sym stands ∙ y, l) refl

    pub form_whole : {h : ℕ} {w : OperandSize} {k : Instruction} {f : FormName} → m + (a.takes + b.takes) ≤ length t → h ≡ head_length p (any_form s)
        → w ≡ by_size a.width b.width a.width a.width
        → k ≡ canonical op w (at s.first p c x (off + (h + (m + (a.takes + b.takes)))) t (drop m t)) (at s.second p c x (off + (h + (m + (a.takes + b.takes)))) t (drop m t))
        → f ≡ form_at s.class c x → Ok (reading k f (h + (m + (a.takes + b.takes)))) ≡ with_form (read_form off p c x t (shape_form s op)) (form_at s.class c x)
    unfolding read_form
    form_whole {h} {w} {k} {f} le eh ew ek ef =
        let l : leb (tail_length (any_form s) x) (length t) ≡ true = rw (← tails) (le-leb (m + (a.takes + b.takes)) (length t) le) in
        let v : w ≡ width_of (any_form s) = rw (ea, eb) at ew in
        let n : m ≡ memory_length (any_form s) x = rw (ea, eb) at em in
        rw (sym stands ∙ y, l) (cc)

-- a row below 45 has one shape
pub one_shape : (n x y : ℕ) → n < 45 → shape_with n x ≡ shape_with n y
one_shape n x y h = rw (ne_eqb n 45 (λ e. omega arith), ne_eqb n 46 (λ e. omega arith), ne_eqb n 47 (λ e. omega arith))

-- what the test of an empty slice says
pub none_there : (n : ℕ) → (n == 0) ≡ true → n ≤ 0
none_there n e = omega (arith, eqb-true n 0 e)

pub some_there : (n : ℕ) → (n == 0) ≡ false → 0 < n
some_there zero e = let z : ◌≡◌ {A = ℕ} 0 1 = cc in absurd (omega arith)
some_there (suc n) e = omega arith

-- ---- behind a prefix
pub opcode_empty : (off p : ℕ) (s : List ℕ) → length s ≤ 0 → Err NotComplete ≡ decoded_opcode off p s
unfolding decoded_opcode
opcode_empty off p [] h = refl
opcode_empty off p (c ∷ t) h = absurd (omega arith)

pub opcode_unused : (off p n : ℕ) (s : List ℕ) → 0 < length s → n ≡ get_or rows (get_or s 0 0) 0 → n ≡ 0 → Err NotAnInstruction ≡ decoded_opcode off p s
unfolding decoded_opcode
opcode_unused off p n [] h e z = absurd (omega arith)
opcode_unused off p n (c ∷ t) h e z = rw (eq-eqb (get_or rows c 0) 0 (sym e ∙ z)) refl

-- what is known once the shape is
pub record Opened (p : ℕ) (s : List ℕ) (n : ℕ) (f : Shape) (b : Bool) : Type 0 where
  pub row : n ≡ get_or rows (get_or s 0 0) 0
  pub used : n ≡ 0 → ⊥
  pub shape : f ≡ shape_with n 0
  pub follows : b ≡ may_follow p f

module _ (off p n : ℕ) (f : Shape) (b : Bool) where
  pub opcode_nothing : (s : List ℕ) → 0 < length s → Opened p s n f b → b ≡ false → Err NotAnInstruction ≡ decoded_opcode off p s
  unfolding decoded_opcode
  opcode_nothing [] h o e = absurd (omega arith)
  opcode_nothing (c ∷ t) h o e = rw (← o.row, ne_eqb n 0 o.used, ← o.shape, sym o.follows ∙ e) refl

  -- k: whether there is a second byte; m: the bytes of opcode and second byte
  module _ (k : Bool) (ek : k ≡ has_second (extension_at f.class)) (m : ℕ) (em : m ≡ pick k 2 1) (e : b ≡ true) where
    pub opcode_more : (s : List ℕ) → 0 < length s → Opened p s n f b → length s < m → Err NotComplete ≡ decoded_opcode off p s
    unfolding decoded_opcode
    opcode_more [] h o l = absurd (omega arith)
    opcode_more (c ∷ t) h o l = go k refl t l
      where
        go : (j : Bool) → k ≡ j → (t : List ℕ) → length (c ∷ t) < m → Err NotComplete ≡ decoded_opcode off p (c ∷ t)
        go true q [] l = rw (← o.row, ne_eqb n 0 o.used, ← o.shape, sym o.follows ∙ e, sym ek ∙ q) refl
        go true q (x ∷ t) l = let d : m ≡ 2 = rw q at em in absurd (omega arith)
        go false q t l = let d : m ≡ 1 = rw q at em in absurd (omega arith)

    pub opcode_on : (s : List ℕ) (x : ℕ) (g : Shape) (r : Decoded) → 0 < length s → Opened p s n f b → m ≤ length s → x ≡ pick k (get_or s 1 0) 0 → g ≡ shape_with n x
        → r ≡ decoded_shape off p g (get_or s 0 0) x (take (length s - m) (drop m s)) → r ≡ decoded_opcode off p s
    unfolding decoded_opcode
    opcode_on [] x g r h o l ex eg z = absurd (omega arith)
    opcode_on (c ∷ t) x g r h o l ex eg z = go k refl t l ex z
      where
        go : (j : Bool) → k ≡ j → (t : List ℕ) → m ≤ length (c ∷ t) → x ≡ pick k (get_or (c ∷ t) 1 0) 0
            → r ≡ decoded_shape off p g c x (take (length (c ∷ t) - m) (drop m (c ∷ t))) → r ≡ decoded_opcode off p (c ∷ t)
        go true q [] l ex z = let d : m ≡ 2 = rw q at em in absurd (omega arith)
        go true q (y ∷ t) l ex z =
            let d : m ≡ 2 = rw q at em in
            let w : x ≡ y = rw q at ex in
            rw (← o.row, ne_eqb n 0 o.used, ← o.shape, sym o.follows ∙ e, sym ek ∙ q) (rw (d, eg, w, rest 2 (c ∷ y ∷ t)) at z)
        go false q t l ex z =
            let d : m ≡ 1 = rw q at em in
            let w : x ≡ 0 = rw q at ex in
            rw (← o.row, ne_eqb n 0 o.used, ← o.shape, sym o.follows ∙ e, sym ek ∙ q) (rw (d, eg, w, ← o.shape, rest 1 (c ∷ t)) at z)

-- ---- from the front
pub read_empty : (off : ℕ) (s : List ℕ) → length s ≤ 0 → Err NotComplete ≡ decoded_plain off s
unfolding decoded_plain read_plain
read_empty off [] h = refl
read_empty off (c ∷ t) h = absurd (omega arith)

-- from where the opcode stands: behind a prefix, or at the front
pub read_on : (off : ℕ) (s : List ℕ) (n p : ℕ) (r : Decoded) → 0 < length s → Bytes s → n ≡ pick (prefix (get_or s 0 0)) 1 0
    → p ≡ pick (prefix (get_or s 0 0)) (get_or s 0 0) 0 → r ≡ decoded_opcode off p (take (length s - n) (drop n s)) → r ≡ decoded_plain off s
unfolding decoded_plain read_plain
read_on off [] n p r h bs en ep z = absurd (omega arith)
read_on off (c ∷ t) n p r h bs en ep z = go (prefix c) refl en ep
  where
    go : (b : Bool) → prefix c ≡ b → n ≡ pick b 1 0 → p ≡ pick b c 0 → r ≡ decoded_plain off (c ∷ t)
    go true q en ep = rw q ((rw (en, ep, rest 1 (c ∷ t)) at z) ∙ opcode_by_row off c t (λ i. bs (suc i)))
    go false q en ep = rw q ((rw (en, ep, rest 0 (c ∷ t)) at z) ∙ opcode_by_row off 0 (c ∷ t) bs)

-- ---- with a repeat
-- the string operations' bytes, by a computed test
abbrev string_byte : ℕ → Bool
string_byte c = pick (ltb c 0xA4) false (pick (ltb c 0xA8) true (pick (ltb c 0xAA) false (ltb c 0xB0)))

string_bytes : T (up_to 256 (λ c. same (string_byte c) (some (λ f. is_string f.operation) (starting_with c))))
unfolding starting_with forms is_string number_of
string_bytes = tt

pub string_byte_lem : (c : ℕ) → c < 256 → string_byte c ≡ some (λ f. is_string f.operation) (starting_with c)
string_byte_lem c h = same_is (string_byte c) _ (up_to_at 256 (λ c. same (string_byte c) (some (λ f. is_string f.operation) (starting_with c))) string_bytes c h)

pub string_range : (c : ℕ) → c < 256 → some (λ f. is_string f.operation) (starting_with c) ≡ true → ((0xA4 ≤ c) × (c < 0xA8)) ⊎ ((0xAA ≤ c) × (c < 0xB0))
string_range c h e = go (ltb c 0xA4) (ltb c 0xA8) (ltb c 0xAA) refl refl refl (string_byte_lem c h ∙ e)
  where
    go : (x y z : Bool) → ltb c 0xA4 ≡ x → ltb c 0xA8 ≡ y → ltb c 0xAA ≡ z → pick x false (pick y true (pick z false (ltb c 0xB0))) ≡ true → ((0xA4 ≤ c) × (c < 0xA8)) ⊎ ((0xAA ≤ c) × (c < 0xB0))
    go true y z p q r e = let w : ◌≡◌ {A = ℕ} 0 1 = cc in absurd (omega arith)
    go false true z p q r e = inl (ltb-false c 0xA4 p, ltb-true c 0xA8 q)
    go false false true p q r e = let w : ◌≡◌ {A = ℕ} 0 1 = cc in absurd (omega arith)
    go false false false p q r e = inr (ltb-false c 0xAA r, ltb-true c 0xB0 e)

pub short_not : (s : List ℕ) → length s < 2 → repeats s ≡ false
unfolding repeats
short_not [] h = refl
short_not (b ∷ []) h = both_no (is_repeat b)
short_not (b ∷ c ∷ s) h = absurd (omega arith)

pub two_repeat : (s : List ℕ) → 2 ≤ length s → repeats s ≡ both (is_repeat (get_or s 0 0)) (some (λ f. is_string f.operation) (starting_with (get_or s 1 0)))
unfolding repeats
two_repeat [] h = absurd (omega arith)
two_repeat (b ∷ []) h = absurd (omega arith)
two_repeat (b ∷ c ∷ s) h = refl

pub plain_decoded : (off : ℕ) (s : List ℕ) → repeats s ≡ false → decoded_plain off s ≡ decoded off s
unfolding decoded decoded_plain reads read_plain
plain_decoded off [] e = refl
plain_decoded off (b ∷ s) e = rw e refl

both_second : (a b : Bool) → both a b ≡ true → b ≡ true
both_second true b e = e
both_second false b e = let z : ◌≡◌ {A = ℕ} 0 1 = cc in absurd (omega arith)

-- the table's operation of a string operation's byte, by a computed test
abbrev is_some : Option Operation → Operation → Bool
is_some None op = false
is_some (Some o) op = same_operation o op

abbrev found : Form → Bool
found f = pick (is_string f.operation) (is_some (found_of plain f.opcode 0) f.operation) true

all_found : T (each_of found forms)
unfolding forms operations is_string number_of
all_found = tt

some_is : (o : Option Operation) (op : Operation) → T (is_some o op) → o ≡ Some op
some_is None op t = absurd t
some_is (Some o) op t = ap Some (operation_eq o op t)

repeat_as : (off b c : ℕ) (s : List ℕ) (op : Operation) → repeats (b ∷ c ∷ s) ≡ true → read_plain off (c ∷ s) ≡ Ok (bare op, 1) → prefix c ≡ false
    → starting_with c ≡ single c op ∷ [] → found_of plain c 0 ≡ Some op → decoded_repeat b c ≡ decoded off (b ∷ c ∷ s)
unfolding decoded reads
repeat_as off b c s op e r p f o = rw (o, e, r, p, f) refl

repeat_decoded : (off b c : ℕ) (s : List ℕ) → repeats (b ∷ c ∷ s) ≡ true → decoded_repeat b c ≡ decoded off (b ∷ c ∷ s)
unfolding repeats
repeat_decoded off b c s e =
    let r = string_at off (c ∷ s) (both_second (is_repeat b) (begins_string (c ∷ s)) e) in
    go r.c r.op (cc r.in_order) r.reads_it r.no_prefix r.one_form
    (some_is (found_of plain r.c 0) r.op (rw r.op_is_string at (each_at found forms all_found r.listed)))
  where
    go : (d : ℕ) (op : Operation) → d ≡ c → read_plain off (c ∷ s) ≡ Ok (bare op, 1) → prefix d ≡ false → starting_with d ≡ single d op ∷ []
        → found_of plain d 0 ≡ Some op → decoded_repeat b c ≡ decoded off (b ∷ c ∷ s)
    go d op z r p f o = repeat_as off b c s op e r (rw z at p) (rw z at f) (rw z at o)

-- of two bytes or more
pub with_repeat : (off : ℕ) (s : List ℕ) → repeats s ≡ true → decoded_repeat (get_or s 0 0) (get_or s 1 0) ≡ decoded off s
unfolding repeats
with_repeat off [] e = let z : ◌≡◌ {A = ℕ} 0 1 = cc in absurd (omega arith)
with_repeat off (b ∷ []) e = let y = both_second (is_repeat b) false e in let z : ◌≡◌ {A = ℕ} 0 1 = cc in absurd (omega arith)
with_repeat off (b ∷ c ∷ s) e = repeat_decoded off b c s e

pub two_bytes : (s : List ℕ) → repeats s ≡ true → 2 ≤ length s
unfolding repeats
two_bytes [] e = let z : ◌≡◌ {A = ℕ} 0 1 = cc in absurd (omega arith)
two_bytes (b ∷ []) e = let y = both_second (is_repeat b) false e in let z : ◌≡◌ {A = ℕ} 0 1 = cc in absurd (omega arith)
two_bytes (b ∷ c ∷ s) e = omega arith

pub string_behind : (s : List ℕ) → repeats s ≡ true → some (λ f. is_string f.operation) (starting_with (get_or s 1 0)) ≡ true
string_behind s e = both_second (is_repeat (get_or s 0 0)) _ (sym (two_repeat s (two_bytes s e)) ∙ e)

-- ---- without the form
module _ (off : ℕ) (s : List ℕ) where
  pub instruction_back : (r : Reading) → decoded off s ≡ Ok r → Ok (r.instruction, r.length) ≡ reads off s
  unfolding decoded
  instruction_back r e = go (reads off s) e
    where
      go : (it : Read) → with_form it (form_of s) ≡ Ok r → Ok (r.instruction, r.length) ≡ it
      go (Ok (k, j)) e = let h : reading k (form_of s) j ≡ r = cc in rw (← h) refl
      go (Err why) e = cc

  pub refusal_back : (why : ReadError) → decoded off s ≡ Err why → Err why ≡ reads off s
  unfolding decoded
  refusal_back why e = go (reads off s) e
    where
      go : (it : Read) → with_form it (form_of s) ≡ Err why → Err why ≡ it
      go (Ok (k, j)) e = cc
      go (Err other) e = cc
