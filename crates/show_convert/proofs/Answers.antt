-- What the converter answers, question by question.
-- Assumes nothing.
use Rattle.std.specs.Prelude.{Err, Ok, Result, IsErrAnd}
use mathlib.Core.Path.{◌≡◌, refl, sym, ◌∙◌, ap}
use mathlib.Core.Bool.{Bool, true, false}
use mathlib.Core.List.{List, ◌++◌}
use Prim.Native.Nat.{ℕ, ◌+◌, ◌*◌, ◌<◌, ◌≤◌}
use native.Mathlib.Omega.{arith}
use lib.Dec.{ltb, leb}
use lib.ListN.{length, drop}
use borrow.Author.Tests.{lt-ltb, le-ltb, ltb-true, le-leb, lt-leb}
use Rattle.mrc_compiler.specs.Choose.{pick}
use Rattle.encode_spec.specs.Answer.{Answer, bytes, refused}
use Rattle.show_file.specs.declared.Header.{Header}
use Rattle.show_file.specs.declared.LoadError.{LoadError}
use Rattle.show_file.specs.declared.LoadError.TheVariants as E
use Rattle.show_file.specs.Show.{most_records, header, insn_at, first_unknown}
use Rattle.show_load.specs.Loading.{Walk, all, stopped, walk, measured, accepted}
use Rattle.convert_spec.specs.declared.ConvertError.{ConvertError}
use Rattle.convert_spec.specs.declared.ConvertError.TheVariants as X
use Rattle.convert_spec.specs.OldStarts.{is_refused, old_offset, old_answer, first_copy}
use Rattle.convert_spec.specs.Targets.{first_stray}
use Rattle.convert_spec.specs.Written.{written}
use Rattle.convert_spec.specs.Converting.{shown, first_miscounted, first_refused, or_refused, fitted, show_converted, converted_by, converted, placed, slice_after}
use Rattle.convert_laws.specs.Passed.{Show1}
use Rattle.convert_laws.proofs.Firsts.{found}
use Rattle.convert_laws.proofs.Done.{all_pass}
use Rattle.convert_laws.proofs.Written.{its_length}
use Rattle.convert_laws.proofs.Opens.{accepted_few, accepted_many}
use Rattle.convert_passes.specs.Passes.{laid_with, laid_out, walked_as, place, Filled}
use Rattle.convert_passes.proofs.Measuring.{stray_same}
use Rattle.show_convert.specs.Placing.{placed_as, stray_of, Ready}

-- ---- a first record that is not among n
pub none_before : (a k n : ℕ) → k ≡ a → n ≤ k → ltb a n ≡ false
none_before a k n e l = rw (← e) (le-ltb k n l)

-- a refusal is not all
not_all : {P : Type 0} {y : LoadError} → ◌≡◌ {A = Result (Unit {0}) LoadError} (Err y) (Ok tt) → P
not_all e = let z : ◌≡◌ {A = ℕ} 0 1 = cc in absurd (omega arith)

-- an error of the loader that is handed on
pub handed_on : (r : Result ℕ ConvertError) (y : LoadError) → IsErrAnd r (λ x. x ≡ X.Load y) → r ≡ Err (X.Load y)
handed_on (Ok n) y e = elim e [ ]
handed_on (Err x) y e = ap Err e

-- ---- the written file
module _ (file : List ℕ) (h : Header) (x : Show1 file h) (u : ltb (first_unknown file h.count) h.count ≡ false) (size : ℕ) where
  abbrev W : List ℕ
  W = written file h

  abbrev total : ℕ
  total = first_copy file h.count

  abbrev answer : Result ℕ ConvertError
  answer = fitted (length W) size (accepted most_records W)

  pub too_many : 1000 < total → Err (X.Load E.WrongLength) ≡ answer
  too_many l = sym (ap (fitted (length W) size) (accepted_many file h x u l))

  module _ (few : total ≤ 1000) where
    its : answer ≡ fitted (length W) size (measured (record { version = 1; origin = h.origin; count = total }) (walk W h.origin total))
    its = ap (fitted (length W) size) (accepted_few file h x u few)

    pub refused_there : (y : LoadError) → Err y ≡ walked_as (walk W h.origin total) → Err (X.Load y) ≡ answer
    refused_there y q = sym (its ∙ go (walk W h.origin total) q)
      where
        go : (w : Walk) → Err y ≡ walked_as w → fitted (length W) size (measured (record { version = 1; origin = h.origin; count = total }) w) ≡ Err (X.Load y)
        go (all bs) e = not_all e
        go (stopped k x) e = let s : y ≡ E.Record k x = cc in rw s refl

    module _ (q : Ok tt ≡ walked_as (walk W h.origin total)) where
      by_room : answer ≡ pick (leb (length W) size) (Ok (length W)) (Err X.SliceTooShort)
      by_room = its ∙ go (walk W h.origin total) q
        where
          go : (w : Walk) → Ok tt ≡ walked_as w
              → fitted (length W) size (measured (record { version = 1; origin = h.origin; count = total }) w) ≡ pick (leb (length W) size) (Ok (length W)) (Err X.SliceTooShort)
          go (all bs) e = refl
          go (stopped k y) e = not_all (sym e)

      pub no_room : size < 9 + 56 * total → Err X.SliceTooShort ≡ answer
      no_room l = sym (by_room ∙ rw (lt-leb (length W) size (rw (its_length file h x) l)))

      pub room : 9 + 56 * total ≤ size → Ok (9 + 56 * total) ≡ answer
      room l = sym (by_room ∙ rw (its_length file h x, le-leb (9 + 56 * total) size l))

-- ---- the targets
pub filled : (file : List ℕ) (h : Header) (starts gains : List ℕ) → Ready file h starts gains → ltb (stray_of file h) h.count ≡ false → Filled file h starts gains
filled file h starts gains r s = record {
  show = r.show;
  convertible = all_pass file h.origin h.count r.counted r.taken s;
  starts_are = r.starts_are;
  gains_are = r.gains_are;
  room = r.room;
}

pub stray_is : (file : List ℕ) (h : Header) (starts gains : List ℕ) → Ready file h starts gains → (s : ℕ) → s ≡ first_stray (place starts) (insn_at file) h.count → s ≡ stray_of file h
stray_is file h starts gains r s e = e ∙ stray_same (place starts) (old_offset file h.origin) (insn_at file) h.count r.starts_are.at

-- ---- the records
refused_own : (k : ℕ) (y : LoadError) (a : Answer) (c : Result ℕ ConvertError) → Err y ≡ laid_with k a → or_refused k a c ≡ Err (X.Load y)
refused_own k y (refused x) c q = let s : y ≡ E.Record k x = cc in rw s refl
refused_own k y (bytes bs) c q = not_all q

module _ (file : List ℕ) (h : Header) (size : ℕ) where
  abbrev n : ℕ
  n = h.count

  abbrev origin : ℕ
  origin = h.origin

  pub unknown_first : (k : ℕ) → k ≡ first_unknown file n → k < n → Err (X.Load (E.UnknownCode k)) ≡ show_converted file h size
  unfolding show_converted
  unknown_first k e l = rw (← e, lt-ltb k n l)

  module _ (a : ltb (first_unknown file n) n ≡ false) where
    pub miscounted_next : (k : ℕ) → k ≡ first_miscounted file n → k < n → Err (X.ShiftCountOutOfRange k) ≡ show_converted file h size
    unfolding show_converted
    miscounted_next k e l = rw (a, ← e, lt-ltb k n l)

    module _ (b : ltb (first_miscounted file n) n ≡ false) where
      pub refused_next : (y : LoadError) → Err y ≡ laid_out file origin n → Err (X.Load y) ≡ show_converted file h size
      unfolding show_converted laid_out
      refused_next y q = rw (a, b) (go (ltb (first_refused file origin n) n) _ q)
        where
          first : ℕ
          first = first_refused file origin n

          go : (c : Bool) (r : Result ℕ ConvertError) → Err y ≡ pick c (laid_with first (old_answer file origin first)) (Ok tt)
              → Err (X.Load y) ≡ pick c (or_refused first (old_answer file origin first) r) r
          go true r q = sym (refused_own first y (old_answer file origin first) r q)
          go false r q = not_all q

      -- where all are accepted the targets are asked about
      pub all_taken : Ok tt ≡ laid_out file origin n → ltb (first_refused file origin n) n ≡ false
      unfolding laid_out
      all_taken q = go (ltb (first_refused file origin n) n) refl q
        where
          not_own : (k : ℕ) (y : Answer) → is_refused y ≡ true → Ok tt ≡ laid_with k y → true ≡ false
          not_own k (bytes bs) t q = sym t
          not_own k (refused e) t q = not_all (sym q)

          go : (c : Bool) → ltb (first_refused file origin n) n ≡ c → Ok tt ≡ pick c (laid_with (first_refused file origin n) (old_answer file origin (first_refused file origin n))) (Ok tt) → c ≡ false
          go true e q =
              not_own (first_refused file origin n) (old_answer file origin (first_refused file origin n))
              (found (λ k. is_refused (old_answer file origin k)) n 0 (omega (arith, ltb-true (first_refused file origin n) n e))) q
          go false e q = refl

      pub targets_next : ltb (first_refused file origin n) n ≡ false
          → pick (ltb (stray_of file h) n) (Err (X.NoRecordAtTarget (stray_of file h))) (fitted (length (written file h)) size (accepted most_records (written file h))) ≡ show_converted file h size
      unfolding show_converted
      targets_next c = rw (a, b, c) refl

  pub stray_first : (k : ℕ) → k ≡ stray_of file h → k < n
      → Err (X.NoRecordAtTarget k) ≡ pick (ltb (stray_of file h) n) (Err (X.NoRecordAtTarget (stray_of file h))) (fitted (length (written file h)) size (accepted most_records (written file h)))
  stray_first k e l = rw (← e, lt-ltb k n l)

-- ---- the file
module _ (file out : List ℕ) where
  pub not_opened : (e : LoadError) → shown file ≡ Err e → (Err (X.Load e) ≡ converted file (length out)) × (out ≡ slice_after file out)
  not_opened e q =
      let a : converted file (length out) ≡ Err (X.Load e) = ap (converted_by file (length out)) q in
      (sym a, sym (ap (placed file out) a))

  placed_as_lem : (h : Header) → header file ≡ h → (r : Result ℕ ConvertError) → placed_as (written file h) out r ≡ placed file out r
  placed_as_lem h e (Ok m) = ap (λ (y : Header). written file y ++ drop m out) (sym e)
  placed_as_lem h e (Err x) = refl

  pub opened_as : (h : Header) → shown file ≡ Ok h → header file ≡ h → (r : Result ℕ ConvertError) (last : List ℕ) → r ≡ show_converted file h (length out) → last ≡ placed_as (written file h) out r
      → (r ≡ converted file (length out)) × (last ≡ slice_after file out)
  opened_as h q e r last p s =
      let a : r ≡ converted file (length out) = p ∙ sym (ap (converted_by file (length out)) q) in
      (a, s ∙ (placed_as_lem h e r ∙ ap (placed file out) a))
