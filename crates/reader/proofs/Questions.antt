-- The reader's answers in document 01's words: does the slice begin with an instruction, or can a continuation make it one? No: 10. Is it
-- complete? No: 11.
-- Assumes nothing.
use Rattle.std.specs.Prelude.{Option, Some, None, Ok, Err}
use mathlib.Core.Path.{◌≡◌, refl, sym}
use Prim.Native.Nat.{ℕ, ◌≤◌}
use native.Mathlib.Omega.{arith}
use mathlib.Core.Bool.{false}
use mathlib.Core.List.{List, ◌++◌}
use lib.ListN.{length}
use Rattle.x86.specs.declared.Instruction.{Instruction}
use Rattle.x86.specs.declared.ReadError.TheVariants.{NotAnInstruction, NotComplete}
use Rattle.x86.specs.Listing.{Bytes}
use Rattle.x86.specs.Reading.{Read, reads}
use Rattle.x86.proofs.Extend.{is_repeat_alone, Continues, answers}
use Rattle.x86.proofs.Sizes.{read_size}
use Rattle.x86_forms.specs.declared.FormName.{FormName}
use Rattle.reader.specs.Answer.{form_of, with_form, decoded, refusal_of}

-- s begins with an instruction
abbrev pub Begins : ℕ → List ℕ → Type 0
Begins off s = (m : Instruction) × (n : ℕ) × (reads off s ≡ Ok (m, n))

pub record Questions (off : ℕ) (s : List ℕ) : Type 0 where
  -- no refusal exactly where s begins with an instruction
  pub none : refusal_of (decoded off s) ≡ None → Begins off s
  pub none_only : Begins off s → refusal_of (decoded off s) ≡ None
  -- 10 exactly where no continuation makes it one
  pub ten : refusal_of (decoded off s) ≡ Some 10 → Continues off s → ⊥
  pub ten_only : (Continues off s → ⊥) → refusal_of (decoded off s) ≡ Some 10
  -- 11 exactly where it is not complete, and a continuation makes it one
  pub eleven : refusal_of (decoded off s) ≡ Some 11 → (Begins off s → ⊥) × Continues off s
  pub eleven_only : (Begins off s → ⊥) → Continues off s → refusal_of (decoded off s) ≡ Some 11
  -- its length is 1 to 7 and no more than the slice has; later bytes are not looked at, but behind F2 or F3 alone
  pub long : (m : Instruction) (n : ℕ) → reads off s ≡ Ok (m, n) → (1 ≤ n) × (n ≤ 7) × (n ≤ length s)
  pub later : (t : List ℕ) (m : Instruction) (n : ℕ) → is_repeat_alone s ≡ false → reads off s ≡ Ok (m, n) → reads off (s ++ t) ≡ Ok (m, n)

-- the numbers differ
ten_eleven : ◌≡◌ {A = Option ℕ} (Some 10) (Some 11) → ⊥
ten_eleven e = let z : ◌≡◌ {A = ℕ} 10 11 = cc in omega arith

none_some : (k : ℕ) → ◌≡◌ {A = Option ℕ} None (Some k) → ⊥
none_some k e = let z : ◌≡◌ {A = ℕ} 0 1 = cc in omega arith

-- what a number says of the reading
says_none : (r : Read) (f : FormName) → refusal_of (with_form r f) ≡ None → (m : Instruction) × (n : ℕ) × (r ≡ Ok (m, n))
says_none (Ok (m, n)) f e = (m, n, refl)
says_none (Err NotAnInstruction) f e = absurd (none_some 10 (sym e))
says_none (Err NotComplete) f e = absurd (none_some 11 (sym e))

says_ten : (r : Read) (f : FormName) → refusal_of (with_form r f) ≡ Some 10 → r ≡ Err NotAnInstruction
says_ten (Ok (m, n)) f e = absurd (none_some 10 e)
says_ten (Err NotAnInstruction) f e = refl
says_ten (Err NotComplete) f e = absurd (ten_eleven (sym e))

says_eleven : (r : Read) (f : FormName) → refusal_of (with_form r f) ≡ Some 11 → r ≡ Err NotComplete
says_eleven (Ok (m, n)) f e = absurd (none_some 11 e)
says_eleven (Err NotAnInstruction) f e = absurd (ten_eleven e)
says_eleven (Err NotComplete) f e = refl

-- and so it is, for every slice and offset
pub questions : (off : ℕ) (s : List ℕ) → Bytes s → Questions off s
unfolding decoded
questions off s bs =
    let a = answers off s bs in
    record {
      none = λ e. says_none (reads off s) (form_of s) e;
      none_only = λ (m, n, w). rw w refl;
      ten = λ e. a.ten (says_ten (reads off s) (form_of s) e);
      ten_only = λ h. rw (a.ten_only h) refl;
      eleven = λ e. let (h, k) = a.eleven (says_eleven (reads off s) (form_of s) e) in (λ (m, n, w). h m n w, k);
      eleven_only = λ h k. rw (a.eleven_only (λ m n w. h (m, n, w)) k) refl;
      long = λ m n w. let (i, j) = read_size off s m n w in (i, j, a.fits_in m n w);
      later = λ t m n h w. a.behind t m n h w;
    }
