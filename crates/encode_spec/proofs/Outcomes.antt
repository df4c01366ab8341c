-- How the answers are: at most seven bytes, or a refusal that is not 9. So `encode` into seven bytes never answers 9.
-- Assumes nothing.
use Rattle.std.specs.Prelude.{Err, Ok, Result, ℕ}
use mathlib.Core.Path.{◌≡◌, refl, sym, ◌∙◌, ap}
use mathlib.Core.Bool.{Bool, true, false}
use mathlib.Core.List.{List, [], ◌∷◌}
use Prim.Native.Nat.{ℕ, ◌<◌, ◌≤◌}
use native.Mathlib.Omega.{arith}
use lib.ListN.{length}
use lib.Dec.{eqb}
use borrow.Author.Tests.{le-leb}
use Rattle.mrc_compiler.specs.declared.ast.Span.{Span}
use Rattle.mrc_compiler.specs.declared.encoder.EncodeError.{EncodeError}
use Rattle.mrc_compiler.specs.declared.encoder.InstructionData.{InstructionData}
use Rattle.mrc_compiler.specs.Choose.{pick, both}
use Rattle.mrc_compiler.specs.Refusals.{report_of}
use Rattle.encode_spec.specs.Limits.{Asked}
use Rattle.encode_spec.specs.Questions.{questions}
use Rattle.encode_spec.specs.Answer.{no, first_no, Answer, bytes, refused, answered, answer, outcome}
use Rattle.encode_spec.proofs.Values.{both_true}
use Rattle.encode_spec.proofs.Accepted.{accepted_reads}
use Rattle.encode_spec.proofs.Numbers.{gives, numbered, questions_give}

-- ---- an answer's bytes are at most seven
abbrev pub Short : Answer → Type 0
Short (bytes bs) = length bs ≤ 7
Short (refused e) = Unit {0}

pub answer_short : (insn : InstructionData) (off : ℕ) → off < 65536 → Short (answer insn off)
answer_short insn off h = go (answer insn off) refl
  where
    go : (a : Answer) → answer insn off ≡ a → Short a
    go (bytes bs) q = (accepted_reads insn off h bs q).short
    go (refused e) q = tt

-- ---- no question has the refusal 9 (Numbers)
pick-false : (t x : Bool) → x ≡ false → pick t false x ≡ false
pick-false true x e = refl
pick-false false x e = e

both_false : (t : Bool) → both t false ≡ false
both_false true = refl
both_false false = refl

gives_nine : (n : ℕ) → gives n 9 ≡ false
gives_nine n =
    pick-false (eqb n 1) _ (pick-false (eqb n 2) _ (pick-false (eqb n 3) _ (pick-false (eqb n 4) _ (pick-false (eqb n 5) _ (pick-false (eqb n 6) _ (both_false (eqb n 7)))))))

gives_not : (n r : ℕ) → gives n r ≡ true → r ≡ 9 → ⊥
gives_not n r e q = let z : ◌≡◌ {A = Bool} true false = sym e ∙ ap (gives n) q ∙ gives_nine n in let y : ◌≡◌ {A = ℕ} 0 1 = cc in omega arith

-- ---- so has no answer; 0 stands for bytes
abbrev pub number_in : Answer → ℕ
number_in (bytes bs) = 0
number_in (refused e) = (report_of e).number

first_not : (qs : List Asked) (bs : List ℕ) → numbered qs ≡ true → number_in (answered (first_no qs) bs) ≡ 9 → ⊥
first_not [] bs h = λ e. omega arith
first_not (q ∷ qs) bs h =
    let (x, y) = both_true (gives q.number (report_of q.refusal).number) (numbered qs) h in
    go q.yes (gives_not q.number (report_of q.refusal).number x) (first_not qs bs y)
  where
    go : (t : Bool) → ((report_of q.refusal).number ≡ 9 → ⊥) → (number_in (answered (first_no qs) bs) ≡ 9 → ⊥)
        → number_in (answered (pick t (first_no qs) (no q)) bs) ≡ 9 → ⊥
    go true k l = l
    go false k l = k

pub answer_not_nine : (insn : InstructionData) (off : ℕ) → number_in (answer insn off) ≡ 9 → ⊥
unfolding answer
answer_not_nine insn off = first_not (questions insn off) _ (questions_give insn off)

-- ---- and none encode, into seven bytes
abbrev pub NotNine : Result ℕ EncodeError → Type 0
NotNine (Ok n) = Unit {0}
NotNine (Err e) = (report_of e).number ≡ 9 → ⊥

pub never_nine : (insn : InstructionData) (off : ℕ) → off < 65536 → (span : Span) (s : List ℕ) → 7 ≤ length s → NotNine (outcome (answer insn off) span s)
never_nine insn off h span s room = go (answer insn off) (answer_short insn off h) (answer_not_nine insn off)
  where
    go : (a : Answer) → Short a → (number_in a ≡ 9 → ⊥) → NotNine (outcome a span s)
    go (bytes bs) l b = rw (le-leb (length bs) (length s) (omega arith)) tt
    go (refused e) l b = b
