-- What a file opens as: a refusal of its own, or its header with so many records as its length holds.
-- Assumes nothing.
use Rattle.std.specs.Prelude.{Option, Some, None, Result, Ok, Err}
use mathlib.Core.Path.{◌≡◌, refl, ap}
use mathlib.Core.Bool.{Bool, true, false}
use mathlib.Core.List.{List, [], ◌∷◌}
use Prim.Native.Nat.{ℕ, ◌≤◌}
use native.Mathlib.Omega.{arith}
use lib.Dec.{eqb, leb}
use lib.ListN.{length}
use borrow.Author.Tests.{leb-true, eqb-true}
use Rattle.mrc_compiler.specs.Choose.{pick, both}
use Rattle.show_file.specs.declared.Counts.{Counts}
use Rattle.show_file.specs.declared.Header.{Header}
use Rattle.show_file.specs.declared.LoadError.{LoadError}
use Rattle.show_file.specs.declared.LoadError.TheVariants as E
use Rattle.show_file.specs.Show.{header_length, Version, versions, most_records, counts_in, has_mark, header, record_place, is_count, counted, headed, opened}

some_same : {A : Type 0} {a b : A} → Some a ≡ Some b → a ≡ b
some_same q = cc

-- ---- no version has more than the most records
abbrev all_within : List Version → Bool
all_within [] = true
all_within (r ∷ rs) = both (leb r.most most_records) (all_within rs)

within : (rs : List Version) (v : ℕ) (k : Counts) → all_within rs ≡ true → counts_in rs v ≡ Some k → k.most ≤ most_records
within [] v k t e = let z : ◌≡◌ {A = ℕ} 0 1 = cc in absurd (omega arith)
within (r ∷ rs) v k t e = go (leb r.most most_records) refl t (eqb v r.number) (λ h. within rs v k h) e
  where
    go : (a : Bool) → leb r.most most_records ≡ a → both a (all_within rs) ≡ true → (b : Bool) → (all_within rs ≡ true → counts_in rs v ≡ Some k → k.most ≤ most_records)
        → pick b (Some (record { fewest = r.fewest; most = r.most })) (counts_in rs v) ≡ Some k → k.most ≤ most_records
    go true h t true rest q = let s : r.most ≡ k.most = ap (λ (c : Counts). c.most) (some_same q) in let w = leb-true r.most most_records h in omega arith
    go true h t false rest q = rest t q
    go false h t b rest q = let z : ◌≡◌ {A = ℕ} 0 1 = cc in absurd (omega arith)

-- ---- a count that is taken
is_count_lem : (limit l m n : ℕ) → is_count limit l m n ≡ true → (n ≤ m) × (n ≤ limit)
unfolding is_count
is_count_lem limit l m n = go (leb l n) (leb n m) (leb n limit) refl refl
  where
    go : (a b c : Bool) → leb n m ≡ b → leb n limit ≡ c → both a (both b c) ≡ true → (n ≤ m) × (n ≤ limit)
    go true true true hb hc q = (leb-true n m hb, leb-true n limit hc)
    go true true false hb hc q = let z : ◌≡◌ {A = ℕ} 0 1 = cc in absurd (omega arith)
    go true false c hb hc q = let z : ◌≡◌ {A = ℕ} 0 1 = cc in absurd (omega arith)
    go false b c hb hc q = let z : ◌≡◌ {A = ℕ} 0 1 = cc in absurd (omega arith)

-- ---- a file that opens has the length of its records
pub record Exact (limit : ℕ) (file : List ℕ) (h : Header) : Type 0 where
  pub its_header : header file ≡ h
  pub its_length : length file ≡ record_place file h.count
  pub its_count : h.count ≤ most_records
  pub its_limit : h.count ≤ limit

-- the cases of the questions about a file, for whatever is to be said of what it opens as
module _ (limit : ℕ) (file : List ℕ) (P : Result Header LoadError → Type 0) (no_mark : P (Err E.NoMark)) (wrong_version : P (Err E.WrongVersion))
    (wrong_length : P (Err E.WrongLength)) (show : Exact limit file (header file) → P (Ok (header file))) where
  with_counts : (c : Option Counts) → counts_in versions (header file).version ≡ c → P (counted limit file (header file) c)
  with_counts None q = wrong_version
  with_counts (Some k) q = go (is_count limit k.fewest k.most (header file).count) (eqb (length file) (record_place file (header file).count)) refl refl
    where
      go : (d e : Bool) → is_count limit k.fewest k.most (header file).count ≡ d → eqb (length file) (record_place file (header file).count) ≡ e
          → P (pick (both d e) (Ok (header file)) (Err E.WrongLength))
      go true true hd he =
          let (a, b) = is_count_lem limit k.fewest k.most (header file).count hd in
          let w = within versions (header file).version k refl q in
          show (record { its_header = refl; its_length = eqb-true (length file) (record_place file (header file).count) he; its_count = omega arith; its_limit = b })
      go true false hd he = wrong_length
      go false e hd he = wrong_length

  pub by_opening : P (opened limit file)
  unfolding opened headed
  by_opening = go (has_mark file) (leb header_length (length file))
    where
      go : (a b : Bool) → P (pick a (pick b (counted limit file (header file) (counts_in versions (header file).version)) (Err E.WrongLength)) (Err E.NoMark))
      go true true = with_counts (counts_in versions (header file).version) refl
      go true false = wrong_length
      go false b = no_mark

shut : {e : LoadError} {h : Header} → Err e ≡ Ok h → ⊥
shut q = let z : ◌≡◌ {A = ℕ} 0 1 = cc in omega arith

pub opened_exact : (limit : ℕ) (file : List ℕ) (h : Header) → opened limit file ≡ Ok h → Exact limit file h
opened_exact limit file h =
    by_opening limit file (λ o. o ≡ Ok h → Exact limit file h) (λ q. absurd (shut q)) (λ q. absurd (shut q)) (λ q. absurd (shut q))
    (λ x q. let e : header file ≡ h = cc in rw e at x)
