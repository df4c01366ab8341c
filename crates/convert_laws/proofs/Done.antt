-- What a conversion that answers a file says of it: its records can be converted, and the written file is accepted.
-- Assumes nothing.
use Rattle.std.specs.Prelude.{Err, Ok, Result}
use mathlib.Core.Path.{◌≡◌, refl, sym}
use mathlib.Core.Bool.{Bool, true, false}
use mathlib.Core.List.{List}
use Prim.Native.Nat.{ℕ, ◌≤◌}
use native.Mathlib.Omega.{arith}
use lib.Dec.{ltb}
use lib.ListN.{length}
use borrow.Author.Tests.{ltb-true, ltb-false}
use Rattle.mrc_compiler.specs.Choose.{pick, isnt}
use Rattle.encode_spec.specs.Answer.{Answer, bytes, refused}
use Rattle.encode_spec.proofs.Values.{false-true}
use Rattle.show_file.specs.declared.Header.{Header}
use Rattle.show_file.specs.declared.LoadError.{LoadError}
use Rattle.show_file.specs.declared.LoadError.TheVariants as E
use Rattle.show_file.specs.Show.{most_records, insn_at, first_unknown}
use Rattle.show_load.specs.Loading.{accepted}
use Rattle.convert_spec.specs.declared.ConvertError.{ConvertError}
use Rattle.convert_spec.specs.declared.ConvertError.TheVariants as X
use Rattle.convert_spec.specs.Counts.{count_taken}
use Rattle.convert_spec.specs.OldStarts.{is_refused, old_offset, old_answer}
use Rattle.convert_spec.specs.Targets.{branch_of, is_branch, place_of, is_stray, first_stray}
use Rattle.convert_spec.specs.Written.{written}
use Rattle.convert_spec.specs.Converting.{shown, first_miscounted, first_refused, or_refused, fitted, show_converted, converted, converted_by}
use Rattle.convert_laws.specs.Passed.{Show1, Counted, Convertible}
use Rattle.convert_laws.proofs.Firsts.{found, none}
use Rattle.convert_laws.proofs.Shown.{shown_is}

-- ---- no first of a kind
isnt-false : (b : Bool) → isnt b ≡ false → b ≡ true
isnt-false true e = refl
isnt-false false e = false-true (sym e)

pub stray_no : (starts : ℕ → ℕ) (file : List ℕ) (n k : ℕ) → is_stray starts n (insn_at file k) ≡ false → is_branch (branch_of (insn_at file k)) ≡ true → place_of starts n (insn_at file k) ≤ n
unfolding is_stray
stray_no starts file n k e b = ltb-false n (place_of starts n (insn_at file k)) (rw b at e)

pub all_counted : (file : List ℕ) (n : ℕ) → ltb (first_miscounted file n) n ≡ false → Counted file n
all_counted file n x = record { counted = λ k l. isnt-false (count_taken (insn_at file k)) (none _ n x k l) }

pub all_pass : (file : List ℕ) (origin n : ℕ) → ltb (first_miscounted file n) n ≡ false → ltb (first_refused file origin n) n ≡ false
    → ltb (first_stray (old_offset file origin) (insn_at file) n) n ≡ false → Convertible file origin n
all_pass file origin n x y z = record {
  counts = all_counted file n x;
  taken = none _ n y;
  placed = λ k l. stray_no (old_offset file origin) file n k (none _ n z k l);
}

-- ---- an answer that is a file
pub record Done (file : List ℕ) (size m : ℕ) (h : Header) : Type 0 where
  pub show : Show1 file h
  pub known : ltb (first_unknown file h.count) h.count ≡ false
  pub convertible : Convertible file h.origin h.count
  pub image : Result (Header × ℕ) LoadError
  pub accepts : accepted most_records (written file h) ≡ image
  pub fits : fitted (length (written file h)) size image ≡ Ok m

no_file : {P : Type 0} {e : ConvertError} {m : ℕ} → Err e ≡ Ok m → P
no_file q = let z : ◌≡◌ {A = ℕ} 0 1 = cc in absurd (omega arith)

no_refusal : {P : Type 0} (k : ℕ) (a : Answer) (c : Result ℕ ConvertError) (m : ℕ) → is_refused a ≡ true → or_refused k a c ≡ Ok m → P
no_refusal k (bytes bs) c m t q = false-true t
no_refusal k (refused x) c m t q = no_file q

module _ (file : List ℕ) (h : Header) (size m : ℕ) (o : shown file ≡ Ok h) where
  abbrev n : ℕ
  n = h.count

  abbrev origin : ℕ
  origin = h.origin

  abbrev stray : ℕ
  stray = first_stray (old_offset file origin) (insn_at file) n

  show_done : show_converted file h size ≡ Ok m → Done file size m h
  unfolding show_converted
  show_done q =
      go (ltb (first_unknown file n) n) (ltb (first_miscounted file n) n) (ltb (first_refused file origin n) n) (ltb stray n) refl refl refl refl q
    where
      go : (a b c d : Bool) → ltb (first_unknown file n) n ≡ a → ltb (first_miscounted file n) n ≡ b → ltb (first_refused file origin n) n ≡ c → ltb stray n ≡ d
          → pick a (Err (X.Load (E.UnknownCode (first_unknown file n))))
          (pick b (Err (X.ShiftCountOutOfRange (first_miscounted file n)))
          (pick c (or_refused (first_refused file origin n) (old_answer file origin (first_refused file origin n)) (pick d (Err (X.NoRecordAtTarget stray)) (fitted (length (written file h)) size (accepted most_records (written file h)))))
          (pick d (Err (X.NoRecordAtTarget stray)) (fitted (length (written file h)) size (accepted most_records (written file h)))))) ≡ Ok m
          → Done file size m h
      go true b c d w x y z q = no_file q
      go false true c d w x y z q = no_file q
      go false false true d w x y z q =
          no_refusal (first_refused file origin n) (old_answer file origin (first_refused file origin n)) _ m (found (λ k. is_refused (old_answer file origin k)) n 0 (omega (arith, ltb-true (first_refused file origin n) n y))) q
      go false false false true w x y z q = no_file q
      go false false false false w x y z q = record {
        show = shown_is file h o;
        known = w;
        convertible = all_pass file origin n x y z;
        image = accepted most_records (written file h);
        accepts = refl;
        fits = q;
      }

pub done : (file : List ℕ) (size m : ℕ) → converted file size ≡ Ok m → (h : Header) × Done file size m h
done file size m q = go (shown file) refl q
  where
    go : (o : Result Header LoadError) → shown file ≡ o → converted_by file size o ≡ Ok m → (h : Header) × Done file size m h
    go (Ok h) e q = (h, show_done file h size m e q)
    go (Err x) e q = no_file q
