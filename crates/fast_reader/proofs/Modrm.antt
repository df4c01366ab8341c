-- First bytes with ModRM: what a plan says of them, computed over all first bytes and digits, and the words that it gives.
-- Assumes nothing.
use Rattle.std.specs.Prelude.{Some}
use mathlib.Core.Path.{◌≡◌, refl, sym, ◌∙◌, ap}
use Prim.Native.Nat.{ℕ, zero, suc, ◌+◌, ◌-◌, ◌*◌, ◌/◌, ◌%◌, ◌≤◌, ◌<◌}
use native.Mathlib.Omega.{arith}
use mathlib.Core.Bool.{Bool, true, false}
use mathlib.Core.List.{List, [], ◌∷◌}
use lib.Dec.{eqb, ltb}
use lib.ListN.{length, get_or, take, drop, length-drop}
use lib.Seq.{drop-cons, drop-drop}
use borrow.Author.Tests.{eq-eqb, ne_eqb, lt-ltb, eqb-true, eqb-false, ltb-false}
use Rattle.mrc_compiler.specs.declared.encoder.OperandSize.{OperandSize}
use Rattle.mrc_compiler.specs.declared.encoder.OperandSize.TheVariants as S
use Rattle.mrc_compiler.specs.declared.operations.Operation.{Operation}
use Rattle.mrc_compiler.specs.Choose.{pick, both, either}
use Rattle.mrc_compiler.specs.Operations.{number_of, operations}
use Rattle.x86.specs.declared.Operand.TheVariants as O
use Rattle.x86.specs.Forms.{byte, word, Slot, rm, mem, reg}
use Rattle.x86.specs.Listing.{Bytes}
use Rattle.x86.specs.Operands.{size_number}
use Rattle.x86.specs.Reading.{About, about, is, nowhere, any, at, mode, low, digit, displacement_length, displacement_at, rm_at, width_of, has_second, head_length, memory_length, tail_length, names_memory, allows_second, may_name_memory, prefix, is_repeat, repeats}
use Rattle.x86.specs.Rows.{Shape, shape, modrm, modrm_digit, rows, shape_numbered, by_digit}
use Rattle.read_table.specs.Rows.{operation_at, digits_of, found_at, exchanges, tests_register, extension_at, any_form, form_at}
use Rattle.read_table.proofs.Agree.{table, table_at, shape_of}
use Rattle.reader.specs.Answer.{reading, decoded}
use Rattle.reader.specs.ByRow.{decoded_shape, decoded_opcode}
use Rattle.reader.proofs.Laws.{rest, read_on, plain_decoded}
use Rattle.fast_reader.specs.declared.Words.{Words}
use Rattle.fast_reader.specs.Words.{extension_number, operand_head, operand_values, Placed, Reads}
use Rattle.fast_reader.specs.Plans.{plans, word_in, second_in, tail_in, mode_in, order_in, group_in, digit_operations, value_by}
use Rattle.fast_reader.proofs.Slots.{mode_of, still_head, head_still, value_still, whole}
use Rattle.fast_reader.proofs.Plain.{word_of, found_then}
use Rattle.fast_reader.proofs.Placing.{prefix_repeats, prefix_some, rm_head, rm_value}

-- ---- what is said of a first byte, with digit d
pub record Row : Type 0 where
  pub unused : Bool
  pub memory : Bool
  pub second : Bool
  pub exchanged : Bool
  pub tested : Bool
  pub repeat : Bool
  pub shape : Shape

abbrev shape_by : ℕ → ℕ → Shape
shape_by c d = shape_numbered (by_digit (get_or rows c 0) d)

-- by the row
abbrev row_of : ℕ → ℕ → Row
row_of c d =
    record {
      unused = eqb (get_or rows c 0) 0;
      memory = may_name_memory (any_form (shape_by c 0));
      second = has_second (extension_at (shape_by c 0).class);
      exchanged = exchanges c;
      tested = tests_register c;
      repeat = is_repeat c;
      shape = shape_by c d;
    }

-- by the plan, which says the shape
abbrev row_in : Shape → Row
row_in s = record { unused = false; memory = true; second = true; exchanged = false; tested = false; repeat = false; shape = s }

abbrev size_in : ℕ → OperandSize
size_in q = pick (eqb (q / 256 % 256) 1) byte word

-- with a register: memory for certain, r/m first, r/m second
abbrev register_shape : ℕ → Shape
register_shape q =
    pick (eqb (mode_in q) 1) (shape modrm (reg word) mem)
    (pick (eqb (order_in q) 0) (shape modrm (rm (size_in q)) (reg (size_in q))) (shape modrm (reg (size_in q)) (rm (size_in q))))

pub record Register : Type 0 where
  pub row : Row
  pub word : ℕ
  pub order : ℕ
  pub tail : ℕ

abbrev register_of : ℕ → ℕ → Register
register_of c d = record { row = row_of c d; word = word_of (operation_at c) (size_number (width_of (any_form (shape_by c d)))) c; order = pick (eqb (mode_in (get_or plans c 0)) 1) 1 (order_in (get_or plans c 0)); tail = 0 }

abbrev register_in : ℕ → Register
register_in q = record { row = row_in (register_shape q); word = word_in q; order = order_in q; tail = tail_in q }

abbrev is_register : ℕ → Bool
is_register c = eqb (group_in (get_or plans c 0)) 2

registers : table 256 (λ c. table 8 (λ d. pick (is_register c) (register_of c d) (register_in 0))) ≡ table 256 (λ c. table 8 (λ d. pick (is_register c) (register_in (get_or plans c 0)) (register_in 0)))
unfolding operations number_of is_repeat
registers = refl

is_register_lem : (c d : ℕ) → c < 256 → d < 8 → group_in (get_or plans c 0) ≡ 2 → register_of c d ≡ register_in (get_or plans c 0)
is_register_lem c d h l g =
    rw (eq-eqb (group_in (get_or plans c 0)) 2 g) at
    (table_at 8 (λ d. pick (is_register c) (register_of c d) (register_in 0)) (λ d. pick (is_register c) (register_in (get_or plans c 0)) (register_in 0))
    (table_at 256 (λ c. table 8 (λ d. pick (is_register c) (register_of c d) (register_in 0))) (λ c. table 8 (λ d. pick (is_register c) (register_in (get_or plans c 0)) (register_in 0))) registers c h) d l)

-- with a digit
abbrev pub line_in : ℕ → ℕ → ℕ
line_in q d = get_or digit_operations (q / 0x1000000 % 64 + d) 99

pub record Digit : Type 0 where
  pub row : Row
  pub word : ℕ
  pub head : ℕ
  pub mode : ℕ
  pub about : About
  pub near : Bool
  pub low : ℕ

abbrev digit_of : ℕ → ℕ → Digit
digit_of c d =
    record {
      row = row_of c d;
      word = word_of (operation_at (digits_of c + d)) (size_number (width_of (any_form (shape_by c d)))) c;
      head = still_head (shape_by c d).second c;
      mode = mode_of (shape_by c d).second;
      about = about (shape_by c d).second;
      near = false;
      low = 0;
    }

abbrev digit_in : ℕ → ℕ → Slot → Digit
digit_in q k g =
    record {
      row = row_in (shape modrm_digit (rm (size_in q)) g);
      word = k + word_in q;
      head = second_in q;
      mode = mode_in q;
      about = is S.Unspecified nowhere (tail_in q) any;
      near = ltb 3 (mode_in q);
      low = word_in q % 256;
    }

abbrev is_digit : ℕ → ℕ → Bool
is_digit c d = both (eqb (group_in (get_or plans c 0)) 3) (ltb (line_in (get_or plans c 0) d) 99)

digits : table 256 (λ c. table 8 (λ d. pick (is_digit c d) (digit_of c d) (digit_of 0 0)))
    ≡ table 256 (λ c. table 8 (λ d. pick (is_digit c d) (digit_in (get_or plans c 0) (line_in (get_or plans c 0) d) (shape_by c d).second) (digit_of 0 0)))
unfolding operations number_of is_repeat operand_head
digits = refl

is_digit_lem : (c d : ℕ) → c < 256 → d < 8 → group_in (get_or plans c 0) ≡ 3 → line_in (get_or plans c 0) d < 99
    → digit_of c d ≡ digit_in (get_or plans c 0) (line_in (get_or plans c 0) d) (shape_by c d).second
is_digit_lem c d h l g k =
    rw (eq-eqb (group_in (get_or plans c 0)) 3 g, lt-ltb (line_in (get_or plans c 0) d) 99 k) at
    (table_at 8 (λ d. pick (is_digit c d) (digit_of c d) (digit_of 0 0)) (λ d. pick (is_digit c d) (digit_in (get_or plans c 0) (line_in (get_or plans c 0) d) (shape_by c d).second) (digit_of 0 0))
    (table_at 256 (λ c. table 8 (λ d. pick (is_digit c d) (digit_of c d) (digit_of 0 0))) (λ c. table 8 (λ d. pick (is_digit c d) (digit_in (get_or plans c 0) (line_in (get_or plans c 0) d) (shape_by c d).second) (digit_of 0 0))) digits c h) d l)

-- ---- from the front of some bytes to the shape's reading
no_repeat : (s : List ℕ) → is_repeat (get_or s 0 0) ≡ false → repeats s ≡ false
unfolding repeats
no_repeat [] e = refl
no_repeat (b ∷ s) e = rw e refl

either_true : (b : Bool) → either b true ≡ true
either_true true = refl
either_true false = refl

opcode_shape : (off p c x : ℕ) (t : List ℕ) → eqb (get_or rows c 0) 0 ≡ false → may_name_memory (any_form (shape_of c 0)) ≡ true → has_second (extension_at (shape_of c 0).class) ≡ true
    → decoded_shape off p (shape_of c x) c x t ≡ decoded_opcode off p (c ∷ x ∷ t)
unfolding decoded_opcode
opcode_shape off p c x t u m k = rw (u, m, k, either_true (eqb p 0)) refl

-- start: where the opcode stands; p: the prefix before it, or 0
module _ (off start p : ℕ) (s : List ℕ) (bs : Bytes s) (there : start + 2 ≤ length s) (es : start ≡ pick (prefix (get_or s 0 0)) 1 0)
    (ep : p ≡ pick (prefix (get_or s 0 0)) (get_or s 0 0) 0) where
  second_there : drop (suc start) s ≡ get_or s (start + 1) 0 ∷ drop (start + 2) s
  second_there =
      let e : suc start ≡ start + 1 = omega arith in
      let f : suc (start + 1) ≡ start + 2 = omega arith in
      rw e (rw f at (drop-cons s (start + 1) 0 (omega arith)))

  parts : drop start s ≡ get_or s start 0 ∷ get_or s (start + 1) 0 ∷ drop (start + 2) s
  parts = drop-cons s start 0 (omega arith) ∙ ap (λ (l : List ℕ). get_or s start 0 ∷ l) second_there

  front_repeat : is_repeat (get_or s start 0) ≡ false → is_repeat (get_or s 0 0) ≡ false
  front_repeat r = go (prefix (get_or s 0 0)) refl
    where
      go : (b : Bool) → prefix (get_or s 0 0) ≡ b → is_repeat (get_or s 0 0) ≡ false
      go true e = prefix_repeats (get_or s 0 0) (bs 0) e
      go false e = let z : start ≡ 0 = rw e at es in rw z at r

  pub front : eqb (get_or rows (get_or s start 0) 0) 0 ≡ false → may_name_memory (any_form (shape_of (get_or s start 0) 0)) ≡ true
      → has_second (extension_at (shape_of (get_or s start 0) 0).class) ≡ true → is_repeat (get_or s start 0) ≡ false
      → decoded off s ≡ decoded_shape off p (shape_of (get_or s start 0) (get_or s (start + 1) 0)) (get_or s start 0) (get_or s (start + 1) 0) (drop (start + 2) s)
  front u m k r =
      let z = opcode_shape off p (get_or s start 0) (get_or s (start + 1) 0) (drop (start + 2) s) u m k in
      sym (read_on off s start p _ (omega arith) bs es ep (rw (rest start s, parts) z) ∙ plain_decoded off s (no_repeat s (front_repeat r)))

  -- the prefix is one byte
  pub before : pick (eqb p 0) 0 1 ≡ start
  before = go (prefix (get_or s 0 0)) refl
    where
      go : (b : Bool) → prefix (get_or s 0 0) ≡ b → pick (eqb p 0) 0 1 ≡ start
      go true e =
          let z : start ≡ 1 = rw e at es in
          let y : p ≡ get_or s 0 0 = rw e at ep in
          rw (y, prefix_some (get_or s 0 0) (bs 0) e) (sym z)
      go false e =
          let z : start ≡ 0 = rw e at es in
          let y : p ≡ 0 = rw e at ep in
          rw y (sym z)

-- ---- the words of a reading
bytes_behind : (n : ℕ) (s : List ℕ) → Bytes s → Bytes (drop n s)
bytes_behind zero s bs = bs
bytes_behind (suc n) [] bs = bs
bytes_behind (suc n) (b ∷ s) bs = bytes_behind n s (λ i. bs (suc i))

either_no : (b : Bool) → either b false ≡ b
either_no true = refl
either_no false = refl

displaced_small : (m l : ℕ) → displacement_length m l ≤ 2
displaced_small m l = go (eqb m 0) (eqb l 6) (eqb m 1) (eqb m 2)
  where
    go : (a b c d : Bool) → pick a (pick b 2 0) (pick c 1 (pick d 2 0)) ≤ 2
    go true true c d = omega arith
    go true false c d = omega arith
    go false b true d = omega arith
    go false b false true = omega arith
    go false b false false = omega arith

pub placed_small : (p x r : ℕ) → Placed p x r → r / 0x1000000 ≤ 2
placed_small p x r h = rw h.displacement (displaced_small (mode x) (low x))

pub one_or_none : (b : Bool) (n : ℕ) → n ≡ pick b 1 0 → n ≤ 1
one_or_none true n e = omega arith
one_or_none false n e = omega arith

-- the value of an immediate that is no target
no_target : (m i j : ℕ) (u : List ℕ) → ltb 3 m ≡ false → value_by m i u ≡ value_by m j u
no_target m i j u h = go (eqb m 0) (eqb m 1) (eqb m 2) (eqb m 3) refl refl refl refl
  where
    go : (a b c d : Bool) → eqb m 0 ≡ a → eqb m 1 ≡ b → eqb m 2 ≡ c → eqb m 3 ≡ d → value_by m i u ≡ value_by m j u
    go true b c d p q r s = rw p refl
    go false true c d p q r s = rw (p, q) refl
    go false false true d p q r s = rw (p, q, r) refl
    go false false false true p q r s = rw (p, q, r, s) refl
    go false false false false p q r s = absurd (four (eqb-false m 0 p) (eqb-false m 1 q) (eqb-false m 2 r) (eqb-false m 3 s) (ltb-false 3 m h))
      where
        four : (m ≡ 0 → ⊥) → (m ≡ 1 → ⊥) → (m ≡ 2 → ⊥) → (m ≡ 3 → ⊥) → m ≤ 3 → ⊥
        four a b c d h = omega arith

-- the operation of a shape whose slots take the second byte
found_modrm : (s : Shape) (c x : ℕ) (a b : Slot) → s ≡ shape modrm a b → allows_second (about a).restriction x ≡ true → allows_second (about b).restriction x ≡ true
    → found_at s c x ≡ operation_at c
unfolding found_at
found_modrm s c x a b e f g = rw (e, f, g) refl

found_digit : (s : Shape) (c x : ℕ) (a b : Slot) → s ≡ shape modrm_digit a b → allows_second (about a).restriction x ≡ true → allows_second (about b).restriction x ≡ true
    → found_at s c x ≡ operation_at (digits_of c + digit x)
unfolding found_at
found_digit s c x a b e f g = rw (e, f, g) refl

register_head : (n : ℕ) → operand_head (O.Register n) ≡ 1 + 256 * n
unfolding operand_head
register_head n = omega arith

register_value : (n : ℕ) → operand_values (O.Register n) ≡ 0
unfolding operand_values
register_value n = refl

module _ (off start p : ℕ) (s : List ℕ) (bs : Bytes s) (there : start + 2 ≤ length s) (es : start ≡ pick (prefix (get_or s 0 0)) 1 0)
    (ep : p ≡ pick (prefix (get_or s 0 0)) (get_or s 0 0) 0) (q r : ℕ) (eq : q ≡ get_or plans (get_or s start 0) 0) (placed : Placed p (get_or s (start + 1) 0) r)
    (fits : start + 2 + r / 0x1000000 + tail_in q ≤ length s) where
  abbrev c₀ : ℕ
  c₀ = get_or s start 0

  abbrev x₀ : ℕ
  x₀ = get_or s (start + 1) 0

  abbrev t₀ : List ℕ
  t₀ = drop (start + 2) s

  abbrev S₀ : Shape
  S₀ = shape_of c₀ x₀

  -- whose operation, length and operands are known
  assembled : (row : Row) → row_of c₀ (digit x₀) ≡ row → row_in row.shape ≡ row → (op : Operation) → found_at S₀ c₀ x₀ ≡ Some op
      → names_memory (any_form S₀) x₀ ≡ ltb (mode x₀) 3 → tail_length (any_form S₀) x₀ ≡ r / 0x1000000 + tail_in q → has_second (extension_at S₀.class) ≡ true
      → (w : Words) → w.head ≡ start + 2 + r / 0x1000000 + tail_in q + 256 * (number_of op + 256 * (size_number (width_of (any_form S₀)) + 256 * (form_at S₀.class c₀ x₀).opcode))
      → w.extension ≡ extension_number (form_at S₀.class c₀ x₀).extension
      → ((next : ℕ) → w.a ≡ operand_head (at S₀.first p c₀ x₀ next t₀ (drop (memory_length (any_form S₀) x₀) t₀)))
      → ((next : ℕ) → w.b ≡ operand_values (at S₀.first p c₀ x₀ next t₀ (drop (memory_length (any_form S₀) x₀) t₀)))
      → ((next : ℕ) → w.c ≡ operand_head (at S₀.second p c₀ x₀ next t₀ (drop (memory_length (any_form S₀) x₀) t₀)))
      → ((next : ℕ) → w.d ≡ operand_values (at S₀.second p c₀ x₀ next t₀ (drop (memory_length (any_form S₀) x₀) t₀)))
      → Reads off s w
  assembled row er ei op found names tails second w eh ex ea eb ec ed =
      let facts : row_of c₀ (digit x₀) ≡ row_in row.shape = er ∙ sym ei in
      let long : head_length p (any_form S₀) + tail_length (any_form S₀) x₀ ≡ start + 2 + r / 0x1000000 + tail_in q =
      rw (second, tails) (omega (arith, before off start p s bs there es ep)) in
      let d : r / 0x1000000 ≤ 2 = rw placed.displacement (displaced_small (mode x₀) (low x₀)) in
      let b : start ≤ 1 = one_or_none (prefix (get_or s 0 0)) start es in
      record {
        insn = _;
        form = _;
        n = _;
        is =
            front off start p s bs there es ep (ap (λ (r : Row). r.unused) facts) (ap (λ (r : Row). r.memory) facts) (ap (λ (r : Row). r.second) facts) (ap (λ (r : Row). r.repeat) facts)
            ∙ whole off p c₀ x₀ t₀ op (bs start) found (ap (λ (r : Row). r.exchanged) facts) (ap (λ (r : Row). r.tested) facts) (rw names placed.stands) (rw (tails, length-drop (start + 2) s) (omega arith));
        head = eh ∙ rw long (omega arith);
        extension = ex ∙ omega arith;
        a = ea _;
        b = eb _;
        c = ec _;
        d = ed _;
      }

  -- the r/m operand, with the value v of its displacement
  rm_heads : r % 0x1000000 ≡ operand_head (rm_at p x₀ t₀)
  rm_heads = placed.head ∙ sym (rm_head p x₀ t₀)

  rm_values : (v : ℕ) → v ≡ displacement_at (r / 0x1000000) (take (length s - (start + 2)) t₀) → v ≡ operand_values (rm_at p x₀ t₀)
  rm_values v ev = (rw (placed.displacement, rest (start + 2) s) at ev) ∙ sym (rm_value p x₀ t₀ (bs (start + 1)) (bytes_behind (start + 2) s bs))

  -- ---- with a register
  module _ (g : group_in q ≡ 2) (v : ℕ) (ev : v ≡ displacement_at (r / 0x1000000) (take (length s - (start + 2)) t₀)) where
    says : register_of c₀ (digit x₀) ≡ register_in q
    says = rw eq (is_register_lem c₀ (digit x₀) (bs start) (omega arith) (rw eq at g))

    -- r/m is the first operand
    as_first : (z : OperandSize) → S₀ ≡ shape modrm (rm z) (reg z)
        → Reads off s (record { head = start + 2 + r / 0x1000000 + tail_in q + 256 * word_in q; extension = 3; a = r % 0x1000000; b = v; c = 1 + 256 * (x₀ / 8 % 8); d = 0 })
    as_first z e =
        found_then (operation_at c₀) _ _ _ (ap (λ (r : Register). r.word) says) (omega arith)
        (λ op fo wo.
        let named : (form_at S₀.class c₀ x₀).opcode ≡ c₀ = rw e refl in
        let told : extension_number (form_at S₀.class c₀ x₀).extension ≡ 3 = rw e refl in
        assembled (row_in (register_shape q)) (ap (λ (r : Register). r.row) says) refl op (found_modrm S₀ c₀ x₀ (rm z) (reg z) e refl refl ∙ fo)
        (rw e (either_no (ltb (mode x₀) 3))) (rw e (omega (arith, placed.displacement, ap (λ (r : Register). r.tail) says))) (rw e refl) _
        (omega (arith, named, wo)) (sym told)
        (λ next. rw e rm_heads) (λ next. rw e (rm_values v ev)) (λ next. rw e (sym (register_head (digit x₀)))) (λ next. rw e (sym (register_value (digit x₀)))))

    -- r/m is the second
    as_second : (m : Slot) (z : OperandSize) → S₀ ≡ shape modrm (reg z) m → allows_second (about m).restriction x₀ ≡ true
        → names_memory (any_form S₀) x₀ ≡ ltb (mode x₀) 3 → tail_length (any_form S₀) x₀ ≡ r / 0x1000000 + tail_in q
        → ((next : ℕ) (u : List ℕ) → at m p c₀ x₀ next t₀ u ≡ rm_at p x₀ t₀)
        → Reads off s (record { head = start + 2 + r / 0x1000000 + tail_in q + 256 * word_in q; extension = 3; a = 1 + 256 * (x₀ / 8 % 8); b = 0; c = r % 0x1000000; d = v })
    as_second m z e allows names tails reading =
        found_then (operation_at c₀) _ _ _ (ap (λ (r : Register). r.word) says) (omega arith)
        (λ op fo wo.
        let named : (form_at S₀.class c₀ x₀).opcode ≡ c₀ = rw e refl in
        let told : extension_number (form_at S₀.class c₀ x₀).extension ≡ 3 = rw e refl in
        assembled (row_in (register_shape q)) (ap (λ (r : Register). r.row) says) refl op (found_modrm S₀ c₀ x₀ (reg z) m e refl allows ∙ fo)
        names tails (rw e refl) _ (omega (arith, named, wo)) (sym told)
        (λ next. rw e (sym (register_head (digit x₀)))) (λ next. rw e (sym (register_value (digit x₀))))
        (λ next. rw (e, reading) rm_heads) (λ next. rw (e, reading) (rm_values v ev)))

    shape_said : S₀ ≡ register_shape q
    shape_said = ap (λ (r : Register). r.row.shape) says

    order_said : pick (eqb (mode_in q) 1) 1 (order_in q) ≡ order_in q
    order_said = rw (← eq) at (ap (λ (r : Register). r.order) says)

    pub register_second : order_in q ≡ 0
        → Reads off s (record { head = start + 2 + r / 0x1000000 + tail_in q + 256 * word_in q; extension = 3; a = r % 0x1000000; b = v; c = 1 + 256 * (x₀ / 8 % 8); d = 0 })
    register_second o =
        let m : eqb (mode_in q) 1 ≡ false = ne_eqb (mode_in q) 1 (λ e. let z : 1 ≡ order_in q = rw (eq-eqb (mode_in q) 1 e) at order_said in absurd (omega arith)) in
        as_first (size_in q) (shape_said ∙ rw (m, eq-eqb (order_in q) 0 o) refl)

    pub register_first : (order_in q ≡ 0 → ⊥) → (mode_in q + x₀ / 64 ≡ 4 → ⊥)
        → Reads off s (record { head = start + 2 + r / 0x1000000 + tail_in q + 256 * word_in q; extension = 3; a = 1 + 256 * (x₀ / 8 % 8); b = 0; c = r % 0x1000000; d = v })
    register_first o certain = go (eqb (mode_in q) 1) refl
      where
        go : (b : Bool) → eqb (mode_in q) 1 ≡ b
            → Reads off s (record { head = start + 2 + r / 0x1000000 + tail_in q + 256 * word_in q; extension = 3; a = 1 + 256 * (x₀ / 8 % 8); b = 0; c = r % 0x1000000; d = v })
        go true m =
            let e : S₀ ≡ shape modrm (reg word) mem = shape_said ∙ rw m refl in
            as_second mem word e (lt-ltb (mode x₀) 3 (memory_for_certain (eqb-true (mode_in q) 1 m) certain (bs (start + 1)))) (rw e refl)
            (rw e (omega (arith, placed.displacement, ap (λ (r : Register). r.tail) says))) (λ next u. refl)
          where
            memory_for_certain : mode_in q ≡ 1 → (mode_in q + x₀ / 64 ≡ 4 → ⊥) → x₀ < 256 → x₀ / 64 < 3
            memory_for_certain a b h = omega arith
        go false m =
            let e : S₀ ≡ shape modrm (reg (size_in q)) (rm (size_in q)) = shape_said ∙ rw (m, ne_eqb (order_in q) 0 o) refl in
            as_second (rm (size_in q)) (size_in q) e refl (rw e refl) (rw e (omega (arith, placed.displacement, ap (λ (r : Register). r.tail) says))) (λ next u. refl)

  -- ---- with a digit
  module _ (g : group_in q ≡ 3) (v : ℕ) (ev : v ≡ displacement_at (r / 0x1000000) (take (length s - (start + 2)) t₀)) (k : ℕ) (ek : k ≡ line_in q (x₀ / 8 % 8)) (small : k < 99)
      (w : ℕ) (ew : w ≡ value_by (mode_in q) 0 (take (length s - (start + 2 + r / 0x1000000)) (drop (start + 2 + r / 0x1000000) s))) where
    digits_say : digit_of c₀ (digit x₀) ≡ digit_in q k S₀.second
    digits_say = rw (ek, eq) (is_digit_lem c₀ (digit x₀) (bs start) (omega arith) (rw eq at g) (rw (ek, eq) at small))

    by_slot : (m : Slot) → S₀ ≡ shape modrm_digit (rm (size_in q)) m → mode_of m ≡ mode_in q → still_head m c₀ ≡ second_in q → about m ≡ is S.Unspecified nowhere (tail_in q) any
        → Reads off s (record { head = start + 2 + r / 0x1000000 + tail_in q + 256 * (k + 256 * (q / 256 % 65536)); extension = 8 + x₀ / 8 % 8; a = r % 0x1000000; b = v; c = second_in q; d = w })
    by_slot m e em eh ea =
        found_then (operation_at (digits_of c₀ + digit x₀)) _ _ _ (ap (λ (r : Digit). r.word) digits_say) (omega (arith, ap (λ (r : Digit). r.low) digits_say))
        (λ op fo wo.
        let named : (form_at S₀.class c₀ x₀).opcode ≡ c₀ = rw e refl in
        let told : extension_number (form_at S₀.class c₀ x₀).extension ≡ (8 + x₀ / 8 % 8) % 256 = rw e refl in
        let below : mode_of m < 8 = rw em (omega arith) in
        let there : (next : ℕ) → w ≡ operand_values (at m p c₀ x₀ next t₀ (drop (memory_length (any_form S₀) x₀) t₀)) =
        λ next.
        let long : memory_length (any_form S₀) x₀ ≡ r / 0x1000000 = rw (e, ea) (omega (arith, placed.displacement)) in
        (rw (rest (start + 2 + r / 0x1000000) s) at ew)
        ∙ no_target (mode_in q) 0 next (drop (start + 2 + r / 0x1000000) s) (sym (ap (λ (r : Digit). r.near) digits_say))
        ∙ sym (value_still m p c₀ x₀ next t₀ (drop (memory_length (any_form S₀) x₀) t₀) (bytes_behind (memory_length (any_form S₀) x₀) t₀ (bytes_behind (start + 2) s bs)) below ∙ rw (em, long, drop-drop (r / 0x1000000) (start + 2) s) refl) in
        assembled (row_in (shape modrm_digit (rm (size_in q)) S₀.second)) (ap (λ (r : Digit). r.row) digits_say) refl op
        (found_digit S₀ c₀ x₀ (rm (size_in q)) m e refl (rw ea refl) ∙ fo)
        (rw (e, ea) (either_no (ltb (mode x₀) 3))) (rw (e, ea) (omega (arith, placed.displacement))) (rw e refl) _
        (omega (arith, named, wo, ap (λ (r : Digit). r.low) digits_say)) (rw told (omega arith))
        (λ next. rw e rm_heads) (λ next. rw e (rm_values v ev))
        (λ next. sym (rw e (head_still m p c₀ x₀ next t₀ _ below ∙ eh))) (λ next. there next ∙ ap (λ (g : Slot). operand_values (at g p c₀ x₀ next t₀ (drop (memory_length (any_form S₀) x₀) t₀))) (sym (ap (λ (s : Shape). s.second) e))))

    pub digit_reads : Reads off s (record { head = start + 2 + r / 0x1000000 + tail_in q + 256 * (k + 256 * (q / 256 % 65536)); extension = 8 + x₀ / 8 % 8; a = r % 0x1000000; b = v; c = second_in q; d = w })
    digit_reads =
        by_slot S₀.second (ap (λ (r : Digit). r.row.shape) digits_say) (ap (λ (r : Digit). r.mode) digits_say) (ap (λ (r : Digit). r.head) digits_say) (ap (λ (r : Digit). r.about) digits_say)
