-- Answers one behind the other: of questions with their bytes, and of codes.
-- Assumes nothing.
use mathlib.Core.Path.{◌≡◌, refl, sym}
use Prim.Native.Nat.{ℕ, ◌≤◌}
use native.Mathlib.Omega.{arith}
use mathlib.Core.Bool.{Bool, true, false}
use mathlib.Core.List.{List, [], ◌∷◌, ◌++◌, append-nil, append_assoc}
use lib.ListN.{length}
use Rattle.mrc_compiler.specs.declared.encoder.InstructionData.{InstructionData}
use Rattle.mrc_compiler.specs.declared.encoder.generate.Code.{Code}
use Rattle.std.specs.Prelude.{Result, Err}
use Rattle.mrc_compiler.specs.declared.encoder.generate.Codes.{Codes}
use Rattle.mrc_compiler.specs.declared.encoder.generate.NoForm.{NoForm}
use Rattle.mrc_compiler.specs.Choose.{pick}
use Rattle.encode_spec.specs.Limits.{Asked, asked}
use Rattle.encode_spec.specs.Questions.{Ask, with_span, error_of}
use Rattle.encode_spec.specs.Answer.{First, all_yes, no, first_no, Answer, bytes, refused, answered}
use Rattle.encode_plans.specs.Plans.{emitting, refusing}
use Rattle.encode_fields.specs.Fields.{joined, code_answer}
use Rattle.encoder.specs.Coded.{plan_answer}

-- ---- two answers
pub nil-joined : (x : Answer) → joined (bytes []) x ≡ x
nil-joined (bytes xs) = refl
nil-joined (refused e) = refl

pub joined-nil : (x : Answer) → joined x (bytes []) ≡ x
joined-nil (bytes xs) = rw append-nil
joined-nil (refused e) = refl

joined_assoc : (x y z : Answer) → joined (joined x y) z ≡ joined x (joined y z)
joined_assoc (refused e) y z = refl
joined_assoc (bytes xs) (refused e) z = refl
joined_assoc (bytes xs) (bytes ys) (refused e) = refl
joined_assoc (bytes xs) (bytes ys) (bytes zs) = rw append_assoc

-- ---- questions
-- a question in front
pub first_asked : (q : Asked) (qs : List Asked) (bs : List ℕ) → answered (first_no (q ∷ qs)) bs ≡ pick q.yes (answered (first_no qs) bs) (refused q.refusal)
first_asked q qs bs = go q.yes
  where
    go : (t : Bool) → answered (pick t (first_no qs) (no q)) bs ≡ pick t (answered (first_no qs) bs) (refused q.refusal)
    go true = refl
    go false = refl

-- bytes that nothing is asked about, in front
behind_bytes : (f : First) (xs ys : List ℕ) → answered f (xs ++ ys) ≡ joined (bytes xs) (answered f ys)
behind_bytes all_yes xs ys = refl
behind_bytes (no q) xs ys = refl

-- two lists of questions, each with its bytes
pub asked_joined : (qs rs : List Asked) (xs ys : List ℕ)
    → answered (first_no (qs ++ rs)) (xs ++ ys) ≡ joined (answered (first_no qs) xs) (answered (first_no rs) ys)
asked_joined [] rs xs ys = behind_bytes (first_no rs) xs ys
asked_joined (q ∷ qs) rs xs ys = go q.yes (asked_joined qs rs xs ys)
  where
    go : (t : Bool) → answered (first_no (qs ++ rs)) (xs ++ ys) ≡ joined (answered (first_no qs) xs) (answered (first_no rs) ys)
        → answered (pick t (first_no (qs ++ rs)) (no q)) (xs ++ ys) ≡ joined (answered (pick t (first_no qs) (no q)) xs) (answered (first_no rs) ys)
    go true h = h
    go false h = refl

-- ---- codes
module _ (insn : InstructionData) (off : ℕ) where
  -- what a list of codes answers
  abbrev pub listed : List Code → Answer
  listed [] = bytes []
  listed (c ∷ cs) = joined (code_answer c insn off) (listed cs)

  pub listed-append : (cs ds : List Code) → listed (cs ++ ds) ≡ joined (listed cs) (listed ds)
  listed-append [] ds = sym (nil-joined (listed ds))
  listed-append (c ∷ cs) ds = rw (listed-append cs ds) (sym (joined_assoc (code_answer c insn off) (listed cs) (listed ds)))

  -- a plan of one or two codes
  pub emits : (c : Code) (ds : List Code) → length ds ≤ 1 → plan_answer (emitting c ds) insn off ≡ listed (c ∷ ds)
  emits c [] h = sym (joined-nil (code_answer c insn off))
  emits c (d ∷ []) h = rw (joined-nil (code_answer d insn off))
  emits c (d ∷ e ∷ ds) h = absurd (omega arith)

  -- the questions of a group refuse as its plan does, and behind them the two answer the same
  pub refuses : (qs : List Ask) (rs : List Asked) (bs : List ℕ) (p : Result Codes NoForm) → answered (first_no rs) bs ≡ plan_answer p insn off
      → answered (first_no (with_span insn qs ++ rs)) bs ≡ plan_answer (refusing qs p) insn off
  refuses [] rs bs p h = h
  refuses (q ∷ qs) rs bs p h = go q.yes (refuses qs rs bs p h)
    where
      go : (t : Bool) → answered (first_no (with_span insn qs ++ rs)) bs ≡ plan_answer (refusing qs p) insn off
          → answered (pick t (first_no (with_span insn qs ++ rs)) (no (asked q.number q.yes (error_of q.why q.at insn)))) bs
          ≡ plan_answer (pick t (refusing qs p) (Err (record { why = q.why; at = q.at }))) insn off
      go true h = h
      go false h = refl
