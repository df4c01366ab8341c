-- Laws of the parts: one more factor, one more term, minus signs, a bracket that closes, and the end.
-- Assumes nothing.
use Rattle.std.specs.Prelude.{ℤ, None, Option}
use mathlib.Core.Path.{◌≡◌, refl, sym, ap, ap₂, ◌∙◌, subst}
use mathlib.Core.Bool.{Bool, true, false}
use mathlib.Core.List.{List, [], ◌∷◌, ◌++◌, append_assoc}
use Prim.Native.Nat.{ℕ, zero, suc, ◌+◌, ◌*◌, ◌-◌, ◌≤◌, ◌<◌, min}
use native.Mathlib.Omega.{arith}
use lib.Dec.{T, leb}
use lib.ListN.{length, take, drop, get_or}
use lib.Seq.{take-length}
use lib.IntN.{pos, neg_ℤ}
use borrow.Author.Tests.{lt-leb, leb-true, leb-false}
use Rattle.std.proofs.Common.{add-one}
use Rattle.sum_spec.specs.Sums.{sum_depth, Digit, digit_number, digit_text, digits_text, Sum, product, plus, less, factor, times, over, Factor, digits, minus, bracket, sum_value, factor_value, decimal_from, decimal, kept, sum_of, difference_of, product_of, quotient_of, reads, no_text}
use Rattle.sum_spec.specs.Reading.{open_left, Token, digit, plus_sign, minus_sign, star, slash, opens, closes, other, digit_at, token_of, whole, in_bracket, first, plus_then, less_then, Left, begin, times_then, over_then, Closed, close_factor, closed_sum, Place, due, behind, stuck, next, read_from}
use Rattle.sum_spec.proofs.Tokens.{View, is_open, is_close, view, digit_number_lem}
use Rattle.sum_spec.proofs.Complete.{Ends, can_go_on, factor_read, then_plus, then_less, then_close, then_end}
use Rattle.sum_spec.proofs.Sound.{stuck_reads, never, digits_append}
use Rattle.sum_shape.proofs.Same.{opens_deeper}
use Rattle.sum_value.specs.Worth.{negations}
use Rattle.sum_evaluate.specs.Parts.{most_number, numeral_value, is_term_sign, is_digit_sign, is_minus_sign, isnt, ends_digits, ends_signs, ends_sum, IsRest, NumeralTo, signs_then, SignsTo, FactorTo, ProductTo, SumTo}

-- ---- the byte at the front, and the rest, as a slice pattern takes it
pub byte_and_rest : (s : List ℕ) (c : ℕ) → 1 ≤ length s → get_or s 0 0 ≡ c → s ≡ c ∷ take (length s - 1) (drop 1 s)
byte_and_rest [] c l e = absurd (omega arith)
byte_and_rest (b ∷ s) c l e = ap₂ (λ (x : ℕ) (r : List ℕ). x ∷ r) e (sym (take-length s) ∙ ap (λ (n : ℕ). take n s) (omega arith))

pub no_byte : (s : List ℕ) → length s < 1 → s ≡ []
no_byte [] l = refl
no_byte (b ∷ s) l = absurd (omega arith)

-- ---- the rest of a text
-- behind a byte
past : {s : List ℕ} (c : ℕ) (r : List ℕ) → s ≡ c ∷ r → IsRest s r
past c r e = record { front = c ∷ []; text_is = e }

-- the rest of a rest
further : {s r q : List ℕ} → IsRest s r → IsRest r q → IsRest s q
further {q = q} x y = record {
  front = x.front ++ y.front;
  text_is = x.text_is ∙ ap (λ (t : List ℕ). x.front ++ t) y.text_is ∙ sym (append_assoc x.front y.front q);
}

-- ---- one more factor
module _ (text rest after behind_it : List ℕ) (room : ℕ) (v w : Option ℤ) (so_far : ProductTo text room v rest) (more : FactorTo after room w behind_it) where
  pub one_times : rest ≡ 0x2A ∷ after → ProductTo text room (product_of v w) behind_it
  one_times e = record {
    within = omega (arith, so_far.within, more.within, ap length e);
    rest_is = further so_far.rest_is (further (past _ after e) more.rest_is);
    stands = λ b t d h.
        let p = so_far.stands b t d h in
        let g : read_from (due (times_then p.0 b)) after ≡ reads t = rw e at p.2 in
        let f = more.stands (times_then p.0 b) t d g in
        (times p.0 f.0, ap₂ product_of p.1 f.1, f.2);
  }

  pub one_over : rest ≡ 0x2F ∷ after → ProductTo text room (quotient_of v w) behind_it
  one_over e = record {
    within = omega (arith, so_far.within, more.within, ap length e);
    rest_is = further so_far.rest_is (further (past _ after e) more.rest_is);
    stands = λ b t d h.
        let p = so_far.stands b t d h in
        let g : read_from (due (over_then p.0 b)) after ≡ reads t = rw e at p.2 in
        let f = more.stands (over_then p.0 b) t d g in
        (over p.0 f.0, ap₂ quotient_of p.1 f.1, f.2);
  }

pub a_factor : (text : List ℕ) (room : ℕ) (v : Option ℤ) (rest : List ℕ) → FactorTo text room v rest → ProductTo text room v rest
a_factor text room v rest f = record {
  within = f.within;
  rest_is = f.rest_is;
  stands = λ b t d h. let x = f.stands (begin b) t d h in (factor x.0, x.1, x.2);
}

-- ---- one more term
module _ (text rest after behind_it : List ℕ) (room : ℕ) (v w : Option ℤ) (so_far : SumTo text room v rest) (more : ProductTo after room w behind_it) where
  pub one_plus : rest ≡ 0x2B ∷ after → SumTo text room (sum_of v w) behind_it
  one_plus e = record {
    within = omega (arith, so_far.within, more.within, ap length e);
    rest_is = further so_far.rest_is (further (past _ after e) more.rest_is);
    stands = λ a t d h.
        let s = so_far.stands a t d h in
        let g : read_from (due (begin (plus_then s.0 a))) after ≡ reads t = sym (then_plus s.0 a after) ∙ (rw e at s.2) in
        let p = more.stands (plus_then s.0 a) t d g in
        (plus s.0 p.0, ap₂ sum_of s.1 p.1, p.2);
  }

  pub one_less : rest ≡ 0x2D ∷ after → SumTo text room (difference_of v w) behind_it
  one_less e = record {
    within = omega (arith, so_far.within, more.within, ap length e);
    rest_is = further so_far.rest_is (further (past _ after e) more.rest_is);
    stands = λ a t d h.
        let s = so_far.stands a t d h in
        let g : read_from (due (begin (less_then s.0 a))) after ≡ reads t = sym (then_less s.0 a after) ∙ (rw e at s.2) in
        let p = more.stands (less_then s.0 a) t d g in
        (less s.0 p.0, ap₂ difference_of s.1 p.1, p.2);
  }

pub a_product : (text : List ℕ) (room : ℕ) (v : Option ℤ) (rest : List ℕ) → ProductTo text room v rest → SumTo text room v rest
a_product text room v rest f = record {
  within = f.within;
  rest_is = f.rest_is;
  stands = λ a t d h. let x = f.stands (first a) t d h in (product x.0, x.1, x.2);
}

-- ---- behind a sum in brackets, and behind the whole
pub closes_bracket : (k : Left) (s : Sum) (l : List ℕ) (t : Sum) → ends_sum l ≡ true → read_from (behind (closed_sum (in_bracket k) s)) l ≡ reads t
    → (r : List ℕ) × (l ≡ 0x29 ∷ r) × (read_from (behind (close_factor k (bracket s))) r ≡ reads t)
closes_bracket k s [] t e h = never (sym (open_end s) ∙ h)
  where
    open_end : (s : Sum) → read_from (behind (closed_sum (in_bracket k) s)) [] ≡ no_text
    open_end (product p) = refl
    open_end (plus s p) = refl
    open_end (less s p) = refl
closes_bracket k s (c ∷ r) t e h = go (token_of c) (view c) e h
  where
    go : (x : Token) → View c x → isnt (is_term_sign x) ≡ true → read_from (next (behind (closed_sum (in_bracket k) s)) x) r ≡ reads t
        → (r' : List ℕ) × (c ∷ r ≡ 0x29 ∷ r') × (read_from (behind (close_factor k (bracket s))) r' ≡ reads t)
    go (digit d) v e h = never (sym (stuck_reads r) ∙ h)
    go plus_sign v e h = absurd (subst T (sym e) tt)
    go minus_sign v e h = absurd (subst T (sym e) tt)
    go star v e h = absurd (subst T (sym e) tt)
    go slash v e h = absurd (subst T (sym e) tt)
    go opens v e h = never (sym (stuck_reads r) ∙ h)
    go closes (is_close z) e h = (r, ap (λ (x : ℕ). x ∷ r) z, sym (then_close s k r) ∙ h)
    go other v e h = never (sym (stuck_reads r) ∙ h)

pub whole_ends : (s : Sum) (l : List ℕ) (t : Sum) → ends_sum l ≡ true → read_from (behind (closed_sum whole s)) l ≡ reads t → s ≡ t
whole_ends s [] t e h = let z : reads s ≡ reads t = sym (then_end s) ∙ h in cc
whole_ends s (c ∷ r) t e h = go (token_of c) e h
  where
    shut : (s : Sum) → next (behind (closed_sum whole s)) closes ≡ stuck
    shut (product p) = refl
    shut (plus s p) = refl
    shut (less s p) = refl

    go : (x : Token) → isnt (is_term_sign x) ≡ true → read_from (next (behind (closed_sum whole s)) x) r ≡ reads t → s ≡ t
    go (digit d) e h = never (sym (stuck_reads r) ∙ h)
    go plus_sign e h = absurd (subst T (sym e) tt)
    go minus_sign e h = absurd (subst T (sym e) tt)
    go star e h = absurd (subst T (sym e) tt)
    go slash e h = absurd (subst T (sym e) tt)
    go opens e h = never (sym (stuck_reads r) ∙ h)
    go closes e h = never (sym (stuck_reads r) ∙ ap (λ (q : Place). read_from q r) (sym (shut s)) ∙ h)
    go other e h = never (sym (stuck_reads r) ∙ h)

-- ---- minus signs
-- one more
pub one_sign : (text : List ℕ) (n : ℕ) (rest after : List ℕ) → SignsTo text n rest → rest ≡ 0x2D ∷ after → SignsTo text (n + 1) after
one_sign text n rest after so_far there = record {
  within = omega (arith, so_far.within, ap length there);
  rest_is = further so_far.rest_is (past _ after there);
  stands = λ k. rw add-one (so_far.stands k ∙ ap (read_from (due (signs_then n k))) there);
}

abbrev minuses : ℕ → Factor → Factor
minuses zero f = f
minuses (suc n) f = minuses n (minus f)

close_signs : (n : ℕ) (k : Left) (f : Factor) → close_factor (signs_then n k) f ≡ close_factor k (minuses n f)
close_signs zero k f = refl
close_signs (suc n) k f = close_signs n k (minus f)

minus_value : (n : ℕ) (f : Factor) → factor_value (minuses n (minus f)) ≡ negations n (factor_value (minus f))
minus_value zero f = refl
minus_value (suc n) f = minus_value n (minus f)

bracket_value : (n : ℕ) (s : Sum) → factor_value (minuses n (bracket s)) ≡ negations n (sum_value s)
bracket_value zero s = refl
bracket_value (suc n) s = minus_value n (bracket s)

digits_value : (n : ℕ) (d : Digit) (ds : List Digit) → factor_value (minuses n (digits d ds)) ≡ numeral_value n (decimal d ds)
digits_value zero d ds = refl
digits_value (suc n) d ds = minus_value n (digits d ds)

-- ---- numbers: a larger one than the largest in reach is as good as it
kept-min : (v : ℕ) → kept (pos (min v most_number)) ≡ kept (pos v)
kept-min v = go (leb v 2147483647) refl
  where
    go : (b : Bool) → leb v 2147483647 ≡ b → kept (pos (min v most_number)) ≡ kept (pos v)
    go true e = let z : min v most_number ≡ v = omega (arith, leb-true v 2147483647 e) in rw z
    go false e =
        let h = leb-false v 2147483647 e in
        rw (lt-leb (min v most_number) 2147483647 (omega (arith, h)), lt-leb v 2147483647 (omega (arith, h)))

kept_neg_min : (v : ℕ) → kept (neg_ℤ (pos (min v most_number))) ≡ kept (neg_ℤ (pos v))
kept_neg_min v = go (leb v 2147483648) refl
  where
    large : (u : ℕ) → 2147483648 < u → kept (neg_ℤ (pos u)) ≡ None
    large zero h = absurd (omega arith)
    large (suc u) h = rw (lt-leb u 2147483647 (omega arith))

    go : (b : Bool) → leb v 2147483648 ≡ b → kept (neg_ℤ (pos (min v most_number))) ≡ kept (neg_ℤ (pos v))
    go true e = let z : min v most_number ≡ v = omega (arith, leb-true v 2147483648 e) in rw z
    go false e =
        let h = leb-false v 2147483648 e in
        large (min v most_number) (omega (arith, h)) ∙ sym (large v (omega (arith, h)))

numeral_min : (n v : ℕ) → numeral_value n (min v most_number) ≡ numeral_value n v
numeral_min zero v = kept-min v
numeral_min (suc n) v = ap (negations n) (kept_neg_min v)

-- ---- digits
decimal_snoc : (n : ℕ) (ds : List Digit) (d : Digit) → decimal_from n (ds ++ d ∷ []) ≡ decimal_from n ds * 10 + digit_number d
decimal_snoc n [] d = refl
decimal_snoc n (e ∷ ds) d = decimal_snoc (n * 10 + digit_number e) ds d

pub one_digit : (text : List ℕ) (n m c : ℕ) (rest after : List ℕ) → NumeralTo text n rest → rest ≡ c ∷ after → 0x30 ≤ c → c ≤ 0x39
    → m ≡ min (n * 10 + (c - 0x30)) most_number → NumeralTo text m after
one_digit text n m c rest after so_far there low high e =
    let d = digit_at (c - 0x30) in
    let ds = so_far.number in
    let num : digit_number d ≡ c - 0x30 = digit_number_lem (c - 0x30) (omega arith) in
    let byte : c ≡ digit_text d = omega (arith, num) in
    let val = so_far.value_is in
    let snoc = decimal_snoc 0 ds d in
    record {
      within = omega (arith, so_far.within, ap length there);
      number = ds ++ d ∷ [];
      text_is =
          so_far.text_is
          ∙ ap (λ (s : List ℕ). digits_text ds ++ s) (there ∙ ap (λ (x : ℕ). x ∷ after) byte)
          ∙ sym (append_assoc (digits_text ds) (digit_text d ∷ []) after)
          ∙ ap (λ (s : List ℕ). s ++ after) (sym (digits_append ds (d ∷ [])));
      value_is = omega (arith, e, num, val, snoc);
    }

no_digit_follows : (s : List ℕ) → ends_digits s ≡ true → Ends s
no_digit_follows [] e = tt
no_digit_follows (c ∷ s) e = go (token_of c) e
  where
    go : (t : Token) → isnt (is_digit_sign t) ≡ true → can_go_on t ≡ false
    go (digit d) e = sym e
    go plus_sign e = refl
    go minus_sign e = refl
    go star e = refl
    go slash e = refl
    go opens e = refl
    go closes e = refl
    go other e = refl

-- ---- a factor
open_signs : (n : ℕ) (k : Left) → open_left (signs_then n k) ≡ open_left k
open_signs zero k = refl
open_signs (suc n) k = open_signs n k

module _ (text : List ℕ) (room m : ℕ) (rest : List ℕ) (signs : SignsTo text m rest) where
  pub no_factor : rest ≡ [] → FactorTo text room None rest
  no_factor e = record {
    within = omega (arith, signs.within);
    rest_is = signs.rest_is;
    stands = λ k t d h. never (sym (ap (read_from (due (signs_then m k))) e) ∙ sym (signs.stands k) ∙ h);
  }

  module _ (c : ℕ) (after : List ℕ) (there : rest ≡ c ∷ after) where
    -- no factor begins with another byte
    nothing_else : (k : Left) (t : Sum) → (c ≡ 0x28 → ⊥) → isnt (is_minus_sign (token_of c)) ≡ true → isnt (is_digit_sign (token_of c)) ≡ true
        → read_from (due k) (c ∷ after) ≡ reads t → ⊥
    nothing_else k t n e1 e2 h = go (token_of c) (view c) e1 e2 h
      where
        go : (x : Token) → View c x → isnt (is_minus_sign x) ≡ true → isnt (is_digit_sign x) ≡ true → read_from (next (due k) x) after ≡ reads t → ⊥
        go (digit d) v e1 e2 h = subst T (sym e2) tt
        go plus_sign v e1 e2 h = never (sym (stuck_reads after) ∙ h)
        go minus_sign v e1 e2 h = subst T (sym e1) tt
        go star v e1 e2 h = never (sym (stuck_reads after) ∙ h)
        go slash v e1 e2 h = never (sym (stuck_reads after) ∙ h)
        go opens (is_open e) e1 e2 h = n e
        go closes v e1 e2 h = never (sym (stuck_reads after) ∙ h)
        go other v e1 e2 h = never (sym (stuck_reads after) ∙ h)

    digits_factor : (n : ℕ) (behind_it : List ℕ) (ds : List Digit) → (c ≡ 0x28 → ⊥) → ends_signs rest ≡ true
        → rest ≡ digits_text ds ++ behind_it → n ≡ min (decimal_from 0 ds) most_number → ends_digits behind_it ≡ true
        → (k : Left) (t : Sum) → read_from (due (signs_then m k)) rest ≡ reads t
        → (f : Factor) × (numeral_value m n ≡ factor_value f) × (read_from (behind (close_factor k f)) behind_it ≡ reads t)
    digits_factor n behind_it [] not_open no_minus text_is value_is stops k t h =
        absurd (nothing_else (signs_then m k) t not_open (rw there at no_minus) (rw (← text_is, there) at stops) (rw there at h))
    digits_factor n behind_it (d ∷ ds) not_open no_minus text_is value_is stops k t h =
        let read = factor_read (digits d ds) (signs_then m k) behind_it (no_digit_follows behind_it stops) in
        let z : 0 * 10 + digit_number d ≡ digit_number d = omega arith in
        let n_is : n ≡ min (decimal d ds) most_number = value_is ∙ ap (λ (x : ℕ). min (decimal_from x ds) most_number) z in (
          minuses m (digits d ds),
          ap (numeral_value m) n_is ∙ numeral_min m (decimal d ds) ∙ sym (digits_value m d ds),
          ap (λ (c : Closed). read_from (behind c) behind_it) (sym (close_signs m k (digits d ds))) ∙ sym read ∙ (rw text_is at h),
        )

    pub number_factor : (n : ℕ) (behind_it : List ℕ) → NumeralTo rest n behind_it → ends_digits behind_it ≡ true → (c ≡ 0x28 → ⊥) → ends_signs rest ≡ true
        → FactorTo text room (numeral_value m n) behind_it
    number_factor n behind_it number stops not_open no_minus = record {
      within = omega (arith, signs.within, number.within);
      rest_is = further signs.rest_is (record { front = digits_text number.number; text_is = number.text_is });
      stands = λ k t d h. digits_factor n behind_it number.number not_open no_minus number.text_is number.value_is stops k t (sym (signs.stands k) ∙ h);
    }

  module _ (after : List ℕ) (there : rest ≡ 0x28 ∷ after) where
    bracket_there : (k : Left) (t : Sum) → read_from (due k) text ≡ reads t → read_from (due (begin (first (in_bracket (signs_then m k))))) after ≡ reads t
    bracket_there k t h = rw there at (sym (signs.stands k) ∙ h)

    -- no bracket opens where there is no room
    pub no_room : room ≡ 0 → FactorTo text room None rest
    no_room none = record {
      within = omega (arith, signs.within);
      rest_is = signs.rest_is;
      stands = λ k t d h.
          let deeper = opens_deeper (signs_then m k) after t (bracket_there k t h) in
          absurd (omega (arith, deeper, open_signs m k));
    }

    module _ (some : room ≡ 0 → ⊥) (w : Option ℤ) (behind_it : List ℕ) (inner : SumTo after (room - 1) w behind_it) (stops : ends_sum behind_it ≡ true) where
      inside : (k : Left) (t : Sum) → sum_depth t ≤ open_left k + room → read_from (due k) text ≡ reads t
          → (s : Sum) × (w ≡ sum_value s) × (r : List ℕ) × (behind_it ≡ 0x29 ∷ r) × (read_from (behind (close_factor (signs_then m k) (bracket s))) r ≡ reads t)
      inside k t d h =
          let deep : sum_depth t ≤ open_left (signs_then m k) + 1 + (room - 1) = omega (arith, open_signs m k) in
          let s = inner.stands (in_bracket (signs_then m k)) t deep (bracket_there k t h) in
          let z = closes_bracket (signs_then m k) s.0 behind_it t stops s.2 in
          (s.0, s.1, z.0, z.1, z.2)

      -- what stands behind the sum in the bracket
      inside_is : IsRest text behind_it
      inside_is = further signs.rest_is (further (past _ after there) inner.rest_is)

      pub bracket_factor : (c : ℕ) (r : List ℕ) → behind_it ≡ c ∷ r → FactorTo text room (negations m w) r
      bracket_factor c r le = record {
        within = omega (arith, signs.within, inner.within, ap length there, ap length le);
        rest_is = further inside_is (past c r le);
        stands = λ k t d h.
            let x = inside k t d h in
            let same : x.2 ≡ r = tail_same x.3 le in (
              minuses m (bracket x.0),
              ap (negations m) x.1 ∙ sym (bracket_value m x.0),
              ap₂ (λ (c : Closed) (s : List ℕ). read_from (behind c) s) (sym (close_signs m k (bracket x.0))) (sym same) ∙ x.4,
            );
      }
        where
          tail_same : {l r r' : List ℕ} {a b : ℕ} → l ≡ a ∷ r → l ≡ b ∷ r' → r ≡ r'
          tail_same p q = cc

      pub bracket_open : behind_it ≡ [] → FactorTo text room (negations m w) behind_it
      bracket_open le = record {
        within = omega (arith, signs.within, inner.within, ap length there);
        rest_is = inside_is;
        stands = λ k t d h. absurd (clash (sym le ∙ (inside k t d h).3));
      }
        where
          clash : {r : List ℕ} → [] ≡ 0x29 ∷ r → ⊥
          clash p = let z : ◌≡◌ {A = ℕ} 0 1 = cc in omega arith

-- ---- the whole
pub whole_value : (text : List ℕ) (room : ℕ) (v : Option ℤ) (rest : List ℕ) (t : Sum) → sum_depth t ≤ room → SumTo text room v rest → ends_sum rest ≡ true
    → read_from (due (begin (first whole))) text ≡ reads t → v ≡ sum_value t
whole_value text room v rest t d sum stops h =
    let s = sum.stands whole t (omega arith) h in
    s.1 ∙ ap sum_value (whole_ends s.0 rest t stops s.2)
