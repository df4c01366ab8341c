-- An input that does not fit the buffer prints what it would print whole: it is longer than any show that is printed.
-- Assumes nothing.
use Rattle.std.specs.Prelude.{Option, Some, None, Err}
use mathlib.Core.Path.{◌≡◌, refl, sym, ◌∙◌}
use mathlib.Core.Bool.{Bool, true, false}
use mathlib.Core.List.{List, [], append-nil}
use Prim.Native.Nat.{ℕ, ◌+◌, ◌*◌, ◌<◌}
use native.Mathlib.Nat.{mul-le-mul}
use native.Mathlib.Omega.{arith}
use lib.Dec.{eqb, leb}
use lib.ListN.{length, take}
use lib.Seq.{length-take-le, take_all, get_or-take}
use borrow.Author.Tests.{le-leb, leb-true, leb-false, ne_eqb}
use Rattle.mrc_compiler.specs.Choose.{pick, both}
use Rattle.show_file.specs.declared.Counts.{Counts}
use Rattle.show_file.specs.declared.LoadError.{LoadError}
use Rattle.show_file.specs.declared.LoadError.TheVariants as E
use Rattle.show_file.specs.Show.{header_length, version_place, versions, counts_in, has_mark, u16_at, header, record_place, is_count, counted, headed, opened}
use Rattle.show_file.proofs.Laws.{most_bytes}
use Rattle.show_text.specs.Text.{refused_line, text_records, refused_ground, text}

-- no show file that is printed is longer
abbrev longest : ℕ
longest = header_length + 57 * text_records

-- why a longer one is refused
abbrev why_counted : Option Counts → LoadError
why_counted None = E.WrongVersion
why_counted (Some k) = E.WrongLength

abbrev why : List ℕ → LoadError
why s = pick (has_mark s) (why_counted (counts_in versions (u16_at s version_place))) E.NoMark

opened_long : (s : List ℕ) → longest < length s → opened text_records s ≡ Err (why s)
unfolding opened headed is_count
opened_long s l = rw (le-leb header_length (length s) (omega arith)) (go (has_mark s) (counts_in versions (u16_at s version_place)))
  where
    -- a count within the limit is that of a shorter file
    not_exact : (a b c : Bool) → leb (header s).count text_records ≡ c → both (both a (both b c)) (eqb (length s) (record_place s (header s).count)) ≡ false
    not_exact true true true h =
        let few = leb-true (header s).count text_records h in
        ne_eqb (length s) (record_place s (header s).count) (λ e. omega (arith, mul-le-mul (most_bytes s) few))
    not_exact true true false h = refl
    not_exact true false c h = refl
    not_exact false b c h = refl

    go : (a : Bool) (c : Option Counts) → pick a (counted text_records s (header s) c) (Err E.NoMark) ≡ Err (pick a (why_counted c) E.NoMark)
    go true None = refl
    go true (Some k) = rw (not_exact (leb k.fewest (header s).count) (leb (header s).count k.most) (leb (header s).count text_records) refl)
    go false c = refl

-- no record is named, so that there is no ground
no_ground : (forms : Bool) (s : List ℕ) → pick forms (refused_ground s (why s)) [] ≡ []
no_ground false s = refl
no_ground true s = go (has_mark s) (counts_in versions (u16_at s version_place))
  where
    go : (a : Bool) (c : Option Counts) → refused_ground s (pick a (why_counted c) E.NoMark) ≡ []
    go true None = refl
    go true (Some k) = refl
    go false c = refl

text_long : (forms : Bool) (s : List ℕ) → longest < length s → text forms s ≡ refused_line (why s)
unfolding text
text_long forms s l = rw (opened_long s l, no_ground forms s) (append-nil (refused_line (why s)))

why_same : (n : ℕ) (file : List ℕ) → longest < n → why (take n file) ≡ why file
unfolding has_mark u16_at
why_same n file h =
    rw (get_or-take n file 0 0 (omega arith), get_or-take n file 1 0 (omega arith), get_or-take n file 2 0 (omega arith), get_or-take n file version_place 0 (omega arith), get_or-take n file (version_place + 1) 0 (omega arith))
    refl

pub cut_same : (forms : Bool) (n : ℕ) (file : List ℕ) → longest < n → text forms (take n file) ≡ text forms file
cut_same forms n file h = go (leb (length file) n) refl
  where
    go : (t : Bool) → leb (length file) n ≡ t → text forms (take n file) ≡ text forms file
    go true e = rw (take_all n file (leb-true (length file) n e)) refl
    go false e =
        let more = leb-false (length file) n e in
        let size = length-take-le n file (omega arith) in
        text_long forms (take n file) (rw size h) ∙ rw (why_same n file h) (sym (text_long forms file (omega arith)))
