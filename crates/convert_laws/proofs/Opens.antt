-- What the loader says of a written file: above 1,000 records 14, else it goes on to the records, whose codes are all known.
-- Assumes nothing.
use Rattle.std.specs.Prelude.{Some, Ok, Err}
use mathlib.Core.Path.{◌≡◌, refl, sym, ◌∙◌, ap}
use mathlib.Core.Bool.{Bool, true, false}
use mathlib.Core.List.{List}
use Prim.Native.Nat.{ℕ, zero, suc, ◌+◌, ◌-◌, ◌<◌, ◌≤◌}
use native.Mathlib.Omega.{arith}
use lib.Dec.{ltb, eqb}
use lib.ListN.{length}
use borrow.Author.Tests.{ltb-true, ltb-false, le-leb, lt-leb, eq-eqb}
use Rattle.mrc_compiler.specs.Choose.{isnt}
use Rattle.encode_spec.proofs.Values.{false-true}
use Rattle.show_record.specs.Record.{codes_known}
use Rattle.show_file.specs.declared.Header.{Header}
use Rattle.show_file.specs.declared.LoadError.TheVariants as E
use Rattle.show_file.specs.Show.{header_length, most_records, versions, counts_in, record_at, record_place, insn_at, is_count, counted, headed, opened, is_unknown, first_unknown}
use Rattle.show_load.specs.Loading.{walk, measured, show_accepted, accepted_by, accepted}
use Rattle.convert_spec.specs.Counts.{times}
use Rattle.convert_spec.specs.OldStarts.{first_copy}
use Rattle.convert_spec.specs.Written.{written}
use Rattle.convert_laws.specs.Passed.{Show1}
use Rattle.convert_laws.proofs.Firsts.{none, all_no}
use Rattle.convert_laws.proofs.Written.{its_mark, new_header, its_header, its_each, its_length, known_is}

-- ---- each record of the written file is a copy
record CopyOf (file : List ℕ) (n j : ℕ) : Type 0 where
  pub of : ℕ
  pub nth : ℕ
  pub below : of < n
  pub among : nth < times (insn_at file of)
  pub is : j ≡ first_copy file of + nth

copy_of : (file : List ℕ) (n j : ℕ) → j < first_copy file n → CopyOf file n j
unfolding first_copy
copy_of file zero j h = absurd (omega arith)
copy_of file (suc n) j h = go (ltb j (first_copy file n)) refl (λ l. copy_of file n j l)
  where
    go : (b : Bool) → ltb j (first_copy file n) ≡ b → (j < first_copy file n → CopyOf file n j) → CopyOf file (suc n) j
    go true e rest =
        let c = rest (ltb-true j (first_copy file n) e) in
        record { of = c.of; nth = c.nth; below = omega (arith, c.below); among = c.among; is = c.is }
    go false e rest =
        let l = ltb-false j (first_copy file n) e in
        record { of = n; nth = j - first_copy file n; below = omega arith; among = omega arith; is = omega arith }

module _ (file : List ℕ) (h : Header) (x : Show1 file h) where
  abbrev n : ℕ
  n = h.count

  abbrev W : List ℕ
  W = written file h

  abbrev c : ℕ
  c = first_copy file h.count

  -- ---- the file itself
  to_counts : opened most_records W ≡ counted most_records W (new_header file h x) (Some (record { fewest = 0; most = 1000 }))
  unfolding opened headed
  to_counts =
      let l : header_length ≤ length W = omega (arith, its_length file h x) in
      rw (its_mark file h x, le-leb header_length (length W) l)
      (ap (λ (y : Header). counted most_records W y (counts_in versions y.version)) (its_header file h x))

  length_is : eqb (length W) (record_place W c) ≡ true
  length_is = eq-eqb (length W) (record_place W c) (rw (its_each file h x) (its_length file h x))

  pub opened_few : c ≤ 1000 → opened most_records W ≡ Ok (new_header file h x)
  unfolding is_count
  opened_few few = to_counts ∙ rw (le-leb 0 c (omega arith), le-leb c 1000 few, le-leb c most_records (omega arith), length_is)

  opened_many : 1000 < c → opened most_records W ≡ Err E.WrongLength
  unfolding is_count
  opened_many many = to_counts ∙ rw (le-leb 0 c (omega arith), lt-leb c 1000 many)

  -- ---- its codes
  isnt-false : (b : Bool) → isnt b ≡ false → b ≡ true
  isnt-false true e = refl
  isnt-false false e = false-true (sym e)

  module _ (u : ltb (first_unknown file n) n ≡ false) where
    all_known : (j : ℕ) → j < c → is_unknown W j ≡ false
    unfolding is_unknown
    all_known j l =
        let y = copy_of file n j l in
        let k : codes_known (record_at file y.of) ≡ true = isnt-false _ (none (is_unknown file) n u y.of y.below) in
        rw (y.is, known_is file h x y.of y.nth y.below y.among, k)

    none_unknown : ltb (first_unknown W c) c ≡ false
    none_unknown = all_no (is_unknown W) c all_known

    -- ---- both
    pub accepted_few : c ≤ 1000 → accepted most_records W ≡ measured (new_header file h x) (walk W h.origin c)
    unfolding show_accepted
    accepted_few few = ap (accepted_by W) (opened_few few) ∙ rw none_unknown

    pub accepted_many : 1000 < c → accepted most_records W ≡ Err E.WrongLength
    accepted_many many = ap (accepted_by W) (opened_many many)
