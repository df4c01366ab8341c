-- The laws that the check rests on: the record around a target, and starts in a list.
-- Assumes nothing.
use Rattle.std.proofs.Common.{◌≡◌, ℕ, suc, ◌+◌, ◌<◌, ◌≤◌, true, false, List, length, refl, add-one, arith, ap, le-ltb, lt-ltb, Ok, Result, Err}
use Rattle.std.specs.Prelude.{IsErrAnd}
use Rattle.mrc_compiler.specs.declared.encoder.InstructionData.{InstructionData}
use Rattle.show_file.specs.declared.Header.{Header}
use Rattle.show_file.specs.declared.LoadError.{LoadError}
use Rattle.show_file.specs.Show.{insn_at}
use Rattle.show_load.proofs.Laws.{same_image}
use Rattle.show_load.specs.Loading.{Walk, all, stopped, measured}
use Rattle.convert_spec.specs.Targets.{target_of, first_stray}
use Rattle.convert_laws.specs.Passed.{Table}
use Rattle.convert_laws.proofs.Firsts.{same_first}
use Rattle.convert_passes.specs.Passes.{place}
use Rattle.convert_passes.proofs.Measuring.{stray_same}
use Rattle.check_spec.specs.declared.CheckError.{CheckError}
use Rattle.check_spec.specs.declared.CheckError.TheVariants as C
use Rattle.check_spec.specs.Checking.{start_of, on_to, is_inside, record_around, targets_checked, checked_by}

-- ---- an error of the loader that is handed on
pub handed_on : (r : Result ℕ CheckError) (y : LoadError) → IsErrAnd r (λ x. x ≡ C.Load y) → r ≡ Err (C.Load y)
handed_on (Ok n) y e = elim e [ ]
handed_on (Err x) y e = ap Err e

-- ---- the record around a target, by the two distances that are compared
module _ (starts : ℕ → ℕ) (target k there long : ℕ) (t : there ≡ on_to (starts k) target) (l : long ≡ on_to (starts k) (starts (k + 1))) where
  ends : long ≡ on_to (starts k) (starts (suc k))
  ends = rw (← (add-one k)) l

  pub inside_yes : there < long → is_inside starts target k ≡ true
  unfolding is_inside
  inside_yes h = rw (← t, ← ends) (lt-ltb there long h)

  pub inside_no : long ≤ there → is_inside starts target k ≡ false
  unfolding is_inside
  inside_no h = rw (← t, ← ends) (le-ltb there long h)

-- ---- the answer by the first stray
module _ (starts : ℕ → ℕ) (insns : ℕ → InstructionData) (n m k : ℕ) (e : k ≡ first_stray starts insns n) where
  module _ (h : k < n) (t : ℕ) (q : t ≡ target_of (insns k)) (j : ℕ) (a : j ≡ record_around starts n t) where
    pub strays_inside : j < n → Err (C.Inside k t j) ≡ targets_checked starts insns n m
    unfolding targets_checked
    strays_inside l = rw (← e, lt-ltb k n h, ← q, ← a, lt-ltb j n l)

    pub strays_outside : n ≤ j → Err (C.Outside k t) ≡ targets_checked starts insns n m
    unfolding targets_checked
    strays_outside l = rw (← e, lt-ltb k n h, ← q, ← a, le-ltb j n l)

  pub no_strays : n ≤ k → Ok m ≡ targets_checked starts insns n m
  unfolding targets_checked
  no_strays h = rw (← e, le-ltb k n h)

-- ---- starts that agree give the same answer
module _ (f g : ℕ → ℕ) (n : ℕ) (h : (k : ℕ) → k < n + 1 → f k ≡ g k) where
  around_same : (target : ℕ) → record_around f n target ≡ record_around g n target
  unfolding is_inside
  around_same target = same_first _ _ n 0 (λ j l. rw (h j (omega arith), h (suc j) (omega arith)) refl)

  same_answer : (insns : ℕ → InstructionData) (m : ℕ) → targets_checked f insns n m ≡ targets_checked g insns n m
  unfolding targets_checked
  same_answer insns m = rw (stray_same f g insns n h, around_same (target_of (insns (first_stray g insns n)))) refl

-- ---- a file whose records load, with their starts in a list
pub checked_image : (file : List ℕ) (h g : Header) (w : Walk) (m : ℕ) (s : List ℕ) → measured h w ≡ Ok (g, m) → Table (start_of file h.origin) (h.count + 1) s
    → targets_checked (place s) (insn_at file) h.count m ≡ checked_by file (measured h w)
checked_image file h g (all bs) m s q t =
    let e : length bs ≡ m = (same_image q).1 in
    rw e (same_answer (place s) (start_of file h.origin) h.count t.at (insn_at file) m)
checked_image file h g (stopped k x) m s q t = let z : ◌≡◌ {A = ℕ} 0 1 = cc in absurd (omega arith)
