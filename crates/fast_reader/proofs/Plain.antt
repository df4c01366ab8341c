-- First bytes that no ModRM follows: what a plan says of them, computed over all, and the words that it gives.
-- Assumes nothing.
use Rattle.std.specs.Prelude.{None, Option, Some}
use mathlib.Core.Path.{◌≡◌, refl, sym, ◌∙◌, ap}
use Prim.Native.Nat.{ℕ, suc, ◌+◌, ◌-◌, ◌*◌, ◌≤◌, ◌<◌}
use native.Mathlib.Omega.{arith}
use mathlib.Core.Bool.{Bool, true, false}
use mathlib.Core.List.{List, [], ◌∷◌}
use lib.Dec.{eqb}
use lib.ListN.{length, get_or, take, drop}
use borrow.Author.Tests.{eq-eqb, ne_eqb}
use Rattle.mrc_compiler.specs.declared.operations.Operation.{Operation}
use Rattle.mrc_compiler.specs.Choose.{pick}
use Rattle.mrc_compiler.specs.Operations.{number_of, operations}
use Rattle.x86.specs.Listing.{Bytes}
use Rattle.x86.specs.Instructions.{instruction}
use Rattle.x86.specs.Operands.{size_number}
use Rattle.x86.specs.Reading.{at, width_of, has_second, memory_length, tail_length, prefix, is_repeat, repeats}
use Rattle.x86.specs.Rows.{rows}
use Rattle.read_table.specs.Rows.{found_at, exchanges, tests_register, extension_at, any_form, form_at}
use Rattle.read_table.proofs.Agree.{table, table_at, shape_of}
use Rattle.reader.specs.Answer.{decoded}
use Rattle.reader.specs.ByRow.{decoded_shape, decoded_opcode}
use Rattle.reader.proofs.Laws.{rest, read_on, plain_decoded}
use Rattle.fast_reader.specs.Words.{extension_number, operand_head, Reads}
use Rattle.fast_reader.specs.Plans.{plans, word_in, first_in, extension_in, second_in, tail_in, mode_in, order_in, group_in, value_by}
use Rattle.fast_reader.proofs.Slots.{mode_of, still_head, head_still, value_still, whole}

-- operation, width and opcode as a plan has them; too much where there is no operation
abbrev pub word_of : Option Operation → ℕ → ℕ → ℕ
word_of None w o = 0x1000000
word_of (Some op) w o = number_of op + 256 * (w + 256 * o)

pub record Bare : Type 0 where
  pub unused : Bool
  pub second : Bool
  pub exchanged : Bool
  pub tested : Bool
  pub repeat : Bool
  pub prefixed : Bool
  pub word : ℕ
  pub extension : ℕ
  pub a : ℕ
  pub c : ℕ
  pub first_mode : ℕ
  pub second_mode : ℕ
  pub tail : ℕ
  pub memory : ℕ

-- by the row
abbrev bare_of : ℕ → Bare
bare_of c =
    let s = shape_of c 0 in
    record {
      unused = eqb (get_or rows c 0) 0;
      second = has_second (extension_at s.class);
      exchanged = exchanges c;
      tested = tests_register c;
      repeat = is_repeat c;
      prefixed = prefix c;
      word = word_of (found_at s c 0) (size_number (width_of (any_form s))) (form_at s.class c 0).opcode;
      extension = extension_number (form_at s.class c 0).extension;
      a = still_head s.first c;
      c = still_head s.second c;
      first_mode = mode_of s.first;
      second_mode = mode_of s.second;
      tail = tail_length (any_form s) 0;
      memory = memory_length (any_form s) 0;
    }

-- by the plan
abbrev bare_in : ℕ → Bare
bare_in q =
    record {
      unused = false;
      second = false;
      exchanged = false;
      tested = false;
      repeat = false;
      prefixed = false;
      word = word_in q;
      extension = extension_in q;
      a = first_in q;
      c = second_in q;
      first_mode = pick (eqb (order_in q) 0) (mode_in q) 0;
      second_mode = pick (eqb (order_in q) 0) 0 (mode_in q);
      tail = tail_in q;
      memory = 0;
    }

abbrev is_bare : ℕ → Bool
is_bare c = eqb (group_in (get_or plans c 0)) 1

bares : table 256 (λ c. pick (is_bare c) (bare_of c) (bare_in 0)) ≡ table 256 (λ c. pick (is_bare c) (bare_in (get_or plans c 0)) (bare_in 0))
unfolding found_at operations number_of operand_head is_repeat prefix
bares = refl

is_bare_lem : (c : ℕ) → c < 256 → group_in (get_or plans c 0) ≡ 1 → bare_of c ≡ bare_in (get_or plans c 0)
is_bare_lem c h g = rw (eq-eqb (group_in (get_or plans c 0)) 1 g) at (table_at 256 (λ c. pick (is_bare c) (bare_of c) (bare_in 0)) (λ c. pick (is_bare c) (bare_in (get_or plans c 0)) (bare_in 0)) bares c h)

-- an operation is found where the word is one
pub found_then : {A : Type 0} (o : Option Operation) (w r k : ℕ) → word_of o w r ≡ k → k < 0x1000000
    → ((op : Operation) → o ≡ Some op → number_of op + 256 * (w + 256 * r) ≡ k → A) → A
found_then None w r k e h f = absurd (omega arith)
found_then (Some op) w r k e h f = f op refl e

opened : (off c : ℕ) (t : List ℕ) → Bytes (c ∷ t) → is_repeat c ≡ false → prefix c ≡ false → eqb (get_or rows c 0) 0 ≡ false
    → has_second (extension_at (shape_of c 0).class) ≡ false → decoded off (c ∷ t) ≡ decoded_shape off 0 (shape_of c 0) c 0 t
unfolding repeats decoded_opcode
opened off c t bs er ep eu es =
    let r : repeats (c ∷ t) ≡ false = rw er refl in
    let z : decoded_shape off 0 (shape_of c 0) c 0 t ≡ decoded_opcode off 0 (c ∷ t) = rw (eu, es) refl in
    sym (read_on off (c ∷ t) 0 0 (decoded_shape off 0 (shape_of c 0) c 0 t) (omega arith) bs (rw ep refl) (rw ep refl) (rw (rest 0 (c ∷ t)) z) ∙ plain_decoded off (c ∷ t) r)

mode_first : (o : Bool) (m : ℕ) → m < 8 → pick o m 0 < 8
mode_first true m h = h
mode_first false m h = omega arith

mode_second : (o : Bool) (m : ℕ) → m < 8 → pick o 0 m < 8
mode_second true m h = omega arith
mode_second false m h = h

module _ (off q c : ℕ) (t : List ℕ) (eq : q ≡ get_or plans c 0) (bs : Bytes (c ∷ t)) (g : group_in q ≡ 1) (le : tail_in q ≤ length t) where
  facts : bare_of c ≡ bare_in q
  facts = rw eq (is_bare_lem c (bs 0) (rw eq at g))

  length_is : 0 + pick (has_second (extension_at (shape_of c 0).class)) 2 1 + tail_length (any_form (shape_of c 0)) 0 ≡ 1 + tail_in q
  length_is = rw (ap (λ (r : Bare). r.second) facts, ap (λ (r : Bare). r.tail) facts) refl

  behind : drop (memory_length (any_form (shape_of c 0)) 0) t ≡ t
  behind = rw (ap (λ (r : Bare). r.memory) facts) refl

  -- the words a plan gives, with the operands' values
  pub plain_reads : (b d : ℕ) → b ≡ value_by (pick (eqb (order_in q) 0) (mode_in q) 0) (off + (1 + tail_in q)) t
      → d ≡ value_by (pick (eqb (order_in q) 0) 0 (mode_in q)) (off + (1 + tail_in q)) t
      → Reads off (c ∷ t) (record { head = 1 + tail_in q + 256 * word_in q; extension = extension_in q; a = first_in q; b = b; c = second_in q; d = d })
  plain_reads b d eb ed =
      found_then (found_at (shape_of c 0) c 0) _ _ _ (ap (λ (r : Bare). r.word) facts) (omega arith)
      (λ op found word.
      let next : ℕ = off + (0 + pick (has_second (extension_at (shape_of c 0).class)) 2 1 + tail_length (any_form (shape_of c 0)) 0) in
      let u : List ℕ = drop (memory_length (any_form (shape_of c 0)) 0) t in
      let m₁ : mode_of (shape_of c 0).first < 8 = rw (ap (λ (r : Bare). r.first_mode) facts) (mode_first (eqb (order_in q) 0) (mode_in q) (omega arith)) in
      let m₂ : mode_of (shape_of c 0).second < 8 = rw (ap (λ (r : Bare). r.second_mode) facts) (mode_second (eqb (order_in q) 0) (mode_in q) (omega arith)) in
      record {
        insn = instruction op (width_of (any_form (shape_of c 0))) (at (shape_of c 0).first 0 c 0 next t u) (at (shape_of c 0).second 0 c 0 next t u);
        form = form_at (shape_of c 0).class c 0;
        n = 0 + pick (has_second (extension_at (shape_of c 0).class)) 2 1 + tail_length (any_form (shape_of c 0)) 0;
        is =
            opened off c t bs (ap (λ (r : Bare). r.repeat) facts) (ap (λ (r : Bare). r.prefixed) facts) (ap (λ (r : Bare). r.unused) facts) (ap (λ (r : Bare). r.second) facts)
            ∙ whole off 0 c 0 t op (bs 0) found (ap (λ (r : Bare). r.exchanged) facts) (ap (λ (r : Bare). r.tested) facts) refl (rw (ap (λ (r : Bare). r.tail) facts) le);
        head = omega (arith, length_is, word);
        extension = omega (arith, ap (λ (r : Bare). r.extension) facts);
        a = sym (head_still (shape_of c 0).first 0 c 0 next t u m₁ ∙ ap (λ (r : Bare). r.a) facts);
        b = eb ∙ sym (value_still (shape_of c 0).first 0 c 0 next t u (rw behind (λ i. bs (suc i))) m₁ ∙ rw (behind, length_is, ap (λ (r : Bare). r.first_mode) facts) refl);
        c = sym (head_still (shape_of c 0).second 0 c 0 next t u m₂ ∙ ap (λ (r : Bare). r.c) facts);
        d = ed ∙ sym (value_still (shape_of c 0).second 0 c 0 next t u (rw behind (λ i. bs (suc i))) m₂ ∙ rw (behind, length_is, ap (λ (r : Bare). r.second_mode) facts) refl);
      })

-- the same from the front of some bytes: the value is the first operand's, or the second's
module _ (off q : ℕ) where
  pub front_first : (s : List ℕ) → 0 < length s → q ≡ get_or plans (get_or s 0 0) 0 → Bytes s → group_in q ≡ 1 → tail_in q < length s → order_in q ≡ 0
      → (v : ℕ) → v ≡ value_by (mode_in q) (off + (1 + tail_in q)) (take (length s - 1) (drop 1 s))
      → Reads off s (record { head = 1 + tail_in q + 256 * word_in q; extension = extension_in q; a = first_in q; b = v; c = second_in q; d = 0 })
  front_first [] h eq bs g le o v ev = absurd (omega arith)
  front_first (c ∷ t) h eq bs g le o v ev =
      plain_reads off q c t eq bs g (omega arith) v 0 (rw (eq-eqb (order_in q) 0 o) (rw (rest 1 (c ∷ t)) at ev)) (rw (eq-eqb (order_in q) 0 o) refl)

  pub front_second : (s : List ℕ) → 0 < length s → q ≡ get_or plans (get_or s 0 0) 0 → Bytes s → group_in q ≡ 1 → tail_in q < length s → (order_in q ≡ 0 → ⊥)
      → (v : ℕ) → v ≡ value_by (mode_in q) (off + (1 + tail_in q)) (take (length s - 1) (drop 1 s))
      → Reads off s (record { head = 1 + tail_in q + 256 * word_in q; extension = extension_in q; a = first_in q; b = 0; c = second_in q; d = v })
  front_second [] h eq bs g le o v ev = absurd (omega arith)
  front_second (c ∷ t) h eq bs g le o v ev =
      plain_reads off q c t eq bs g (omega arith) 0 v (rw (ne_eqb (order_in q) 0 o) refl) (rw (ne_eqb (order_in q) 0 o) (rw (rest 1 (c ∷ t)) at ev))
