-- String operations behind a repeat, computed over all first bytes.
-- Assumes nothing.
use Rattle.std.specs.Prelude.{Ok, Some}
use mathlib.Core.Path.{◌≡◌, refl, sym, ◌∙◌, ap}
use Prim.Native.Nat.{ℕ, ◌≤◌, ◌<◌}
use native.Mathlib.Omega.{arith}
use mathlib.Core.Bool.{Bool, true}
use mathlib.Core.List.{List}
use lib.Dec.{eqb}
use lib.ListN.{length, get_or}
use borrow.Author.Tests.{eqb-true}
use Rattle.mrc_compiler.specs.declared.encoder.OperandSize.TheVariants as S
use Rattle.mrc_compiler.specs.declared.operations.Operation.{Operation}
use Rattle.mrc_compiler.specs.Choose.{pick}
use Rattle.mrc_compiler.specs.Operations.{number_of, operations, is_string}
use Rattle.x86.specs.declared.Operand.TheVariants as O
use Rattle.x86.specs.Forms.{forms}
use Rattle.x86.specs.Instructions.{instruction, repeated}
use Rattle.x86.specs.Listing.{Bytes}
use Rattle.x86.specs.Reading.{some, starting_with, is_repeat, repeats}
use Rattle.x86.specs.Rows.{plain}
use Rattle.x86.proofs.Tests.{both_first}
use Rattle.read_table.specs.Rows.{found_of, form_at}
use Rattle.read_table.proofs.Agree.{table, table_at}
use Rattle.reader.specs.Answer.{reading}
use Rattle.reader.specs.ByRow.{decoded_repeat}
use Rattle.reader.proofs.Laws.{two_repeat, with_repeat}
use Rattle.fast_reader.specs.Words.{operand_head, operand_values, repeated_words, Reads}
use Rattle.fast_reader.specs.Plans.{plans, word_in, group_in, string_in}
use Rattle.fast_reader.proofs.Plain.{word_of, found_then}

pub record Text : Type 0 where
  pub string : Bool
  pub word : ℕ

abbrev text_of : ℕ → Text
text_of c = record { string = some (λ f. is_string f.operation) (starting_with c); word = word_of (found_of plain c 0) 0 c }

abbrev text_in : ℕ → Text
text_in q = record { string = true; word = word_in q }

texts : table 256 (λ c. pick (string_in (get_or plans c 0)) (text_of c) (text_in 0)) ≡ table 256 (λ c. pick (string_in (get_or plans c 0)) (text_in (get_or plans c 0)) (text_in 0))
unfolding starting_with forms is_string number_of operations
texts = refl

is_text : (c : ℕ) → c < 256 → string_in (get_or plans c 0) ≡ true → text_of c ≡ text_in (get_or plans c 0)
is_text c h g = rw g at (table_at 256 (λ c. pick (string_in (get_or plans c 0)) (text_of c) (text_in 0)) (λ c. pick (string_in (get_or plans c 0)) (text_in (get_or plans c 0)) (text_in 0)) texts c h)

none_head : operand_head O.None ≡ 0
unfolding operand_head
none_head = refl

none_value : operand_values O.None ≡ 0
unfolding operand_values
none_value = refl

found_repeat : (b c : ℕ) (op : Operation) → found_of plain c 0 ≡ Some op
    → decoded_repeat b c ≡ Ok (reading (repeated b (instruction op S.Unspecified O.None O.None)) (form_at plain c 0) 2)
found_repeat b c op e = rw e refl

pub repeat_reads : (off q : ℕ) (s : List ℕ) → 2 ≤ length s → Bytes s → is_repeat (get_or s 0 0) ≡ true → q ≡ get_or plans (get_or s 1 0) 0 → string_in q ≡ true
    → Reads off s (repeated_words q (get_or s 0 0))
repeat_reads off q s h bs r e g =
    let facts : text_of (get_or s 1 0) ≡ text_in q = rw e (is_text (get_or s 1 0) (bs 1) (rw e at g)) in
    let y : repeats s ≡ true = two_repeat s h ∙ rw (r, ap (λ (t : Text). t.string) facts) refl in
    found_then (found_of plain (get_or s 1 0) 0) _ _ _ (ap (λ (t : Text). t.word) facts) (omega arith)
    (λ op found word.
    record {
      insn = repeated (get_or s 0 0) (instruction op S.Unspecified O.None O.None);
      form = form_at plain (get_or s 1 0) 0;
      n = 2;
      is = sym (with_repeat off s y) ∙ found_repeat (get_or s 0 0) (get_or s 1 0) op found;
      head = omega (arith, word);
      extension = omega arith;
      a = sym none_head;
      b = sym none_value;
      c = sym none_head;
      d = sym none_value;
    })

pub string_some : (q : ℕ) → string_in q ≡ true → 0 < q
string_some q e = omega (arith, eqb-true (group_in q) 1 (both_first (eqb (group_in q) 1) _ e))
