-- The pass goes with the reading: at each place it stands there, with the brackets that are open there and were open at most.
-- Assumes nothing.
use mathlib.Core.Path.{◌≡◌, refl, sym, ap, ap₂, ◌∙◌}
use mathlib.Core.Bool.{Bool, true, false}
use mathlib.Core.List.{List, [], ◌∷◌}
use Prim.Native.Nat.{ℕ, ◌+◌, ◌-◌, ◌≤◌, max}
use native.Mathlib.Omega.{arith}
use lib.Dec.{eqb}
use borrow.Author.Tests.{ne_eqb}
use Rattle.std.specs.Prelude.{Option, Some, None}
use Rattle.mrc_compiler.specs.Choose.{pick}
use Rattle.sum_spec.specs.Sums.{reads, Digit, Sum, Product, Factor, digits, minus, bracket, sum_depth, product_depth, factor_depth}
use Rattle.sum_spec.specs.Reading.{open_around, open_before, open_left, Token, digit, plus_sign, minus_sign, star, slash, opens, closes, other, token_of, Around, whole, in_bracket, Before, first, plus_then, less_then, Left, begin, times_then, over_then, minus_then, Closed, close_factor, around_of, sum_so_far, Place, due, within, behind, stuck, close_sum, close_text, after_factor, where_due, in_digits, next, end, end_behind, read_from, start, reading}
use Rattle.sum_shape.specs.declared.Kind.{Kind}
use Rattle.sum_shape.specs.declared.Kind.TheVariants as K
use Rattle.sum_shape.specs.declared.Stand.{Stand}
use Rattle.sum_shape.specs.declared.Stand.TheVariants as S
use Rattle.sum_shape.specs.declared.Pass.{Pass}
use Rattle.sum_shape.specs.Pass.{pass_by, shape_by, kind_of, shape_of, pass_at, stuck_pass, start_pass, pass_after, pass_due, pass_digits, pass_next, pass_over, pass_end}

-- ---- brackets open, and brackets open at most
abbrev mutual
  most_a : Around → ℕ
  most_a whole = 0
  most_a (in_bracket k) = max (most_l k) (open_left k + 1)

  most_b : Before → ℕ
  most_b (first a) = most_a a
  most_b (plus_then s a) = max (most_a a) (open_around a + sum_depth s)
  most_b (less_then s a) = max (most_a a) (open_around a + sum_depth s)

  most_l : Left → ℕ
  most_l (begin b) = most_b b
  most_l (times_then p b) = max (most_b b) (open_before b + product_depth p)
  most_l (over_then p b) = max (most_b b) (open_before b + product_depth p)
  most_l (minus_then k) = most_l k

abbrev most_c : Closed → ℕ
most_c c = max (most_b c.before) (open_before c.before + product_depth c.done)

abbrev pass_of : Place → Pass
pass_of (due k) = pass_at S.Due (open_left k) (most_l k)
pass_of (within k d ds) = pass_at S.Digits (open_left k) (most_l k)
pass_of (behind c) = pass_at S.Behind (open_before c.before) (most_c c)
pass_of stuck = stuck_pass

mutual
  some_a : (a : Around) → open_around a ≤ most_a a
  some_a whole = omega arith
  some_a (in_bracket k) = omega arith

  some_b : (b : Before) → open_before b ≤ most_b b
  some_b (first a) = some_a a
  some_b (plus_then s a) = omega (arith, some_a a)
  some_b (less_then s a) = omega (arith, some_a a)

  some_l : (k : Left) → open_left k ≤ most_l k
  some_l (begin b) = some_b b
  some_l (times_then p b) = omega (arith, some_b b)
  some_l (over_then p b) = omega (arith, some_b b)
  some_l (minus_then k) = some_l k

factor_open : (k : Left) (f : Factor) → open_before (close_factor k f).before ≡ open_left k
factor_open (begin b) f = refl
factor_open (times_then p b) f = refl
factor_open (over_then p b) f = refl
factor_open (minus_then k) f = factor_open k (minus f)

factor_most : (k : Left) (f : Factor) → most_c (close_factor k f) ≡ max (most_l k) (open_left k + factor_depth f)
factor_most (begin b) f = refl
factor_most (times_then p b) f = omega arith
factor_most (over_then p b) f = omega arith
factor_most (minus_then k) f = factor_most k (minus f)

product_open : (b : Before) → open_around (around_of b) ≡ open_before b
product_open (first a) = refl
product_open (plus_then s a) = refl
product_open (less_then s a) = refl

product_most : (b : Before) (p : Product) → max (most_a (around_of b)) (open_around (around_of b) + sum_depth (sum_so_far b p)) ≡ max (most_b b) (open_before b + product_depth p)
product_most (first a) p = refl
product_most (plus_then s a) p = omega arith
product_most (less_then s a) p = omega arith

-- ---- a step
closing : (a : Around) (s : Sum) (d m : ℕ) → open_around a ≡ d → max (most_a a) (open_around a + sum_depth s) ≡ m
    → pass_after d m K.Closes ≡ pass_of (close_sum a s)
closing whole s d m e f = rw (← e)
closing (in_bracket k) s d m e f =
    let d1 : open_left k + 1 - 1 ≡ open_before (close_factor k (bracket s)).before = omega (arith, factor_open k (bracket s)) in
    let m1 : m ≡ most_c (close_factor k (bracket s)) = sym f ∙ omega (arith, factor_most k (bracket s)) in
    rw (← e, ne_eqb (open_left k + 1) 0 (λ z. omega arith)) (ap₂ (pass_at S.Behind) d1 m1)

after_same : (c : Closed) (t : Token) → pass_after (open_before c.before) (most_c c) (kind_of t) ≡ pass_of (after_factor c t)
after_same c (digit d) = refl
after_same c plus_sign = ap₂ (pass_at S.Due) (sym (product_open c.before)) (sym (product_most c.before c.done))
after_same c minus_sign = ap₂ (pass_at S.Due) (sym (product_open c.before)) (sym (product_most c.before c.done))
after_same c star = refl
after_same c slash = refl
after_same c opens = refl
after_same c closes = closing (around_of c.before) (sum_so_far c.before c.done) (open_before c.before) (most_c c) (product_open c.before) (product_most c.before c.done)
after_same c other = refl

due_same : (k : Left) (t : Token) → pass_due (open_left k) (most_l k) (kind_of t) ≡ pass_of (where_due k t)
due_same k (digit d) = refl
due_same k plus_sign = refl
due_same k minus_sign = refl
due_same k star = refl
due_same k slash = refl
due_same k opens = refl
due_same k closes = refl
due_same k other = refl

module _ (k : Left) (d : Digit) (ds : List Digit) where
  done_open : open_before (close_factor k (digits d ds)).before ≡ open_left k
  done_open = factor_open k (digits d ds)

  done_most : most_c (close_factor k (digits d ds)) ≡ most_l k
  done_most = factor_most k (digits d ds) ∙ omega (arith, some_l k)

  digits_same : (t : Token) → pass_digits (open_left k) (most_l k) (kind_of t) ≡ pass_of (in_digits k d ds t)
  digits_same (digit e) = refl
  digits_same plus_sign = rw (← done_open, ← done_most) (after_same (close_factor k (digits d ds)) plus_sign)
  digits_same minus_sign = rw (← done_open, ← done_most) (after_same (close_factor k (digits d ds)) minus_sign)
  digits_same star = rw (← done_open, ← done_most) (after_same (close_factor k (digits d ds)) star)
  digits_same slash = rw (← done_open, ← done_most) (after_same (close_factor k (digits d ds)) slash)
  digits_same opens = refl
  digits_same closes = rw (← done_open, ← done_most) (after_same (close_factor k (digits d ds)) closes)
  digits_same other = refl

step_same : (q : Place) (t : Token) → pass_next (pass_of q) (kind_of t) ≡ pass_of (next q t)
step_same (due k) t = due_same k t
step_same (within k d ds) t = digits_same k d ds t
step_same (behind c) t = after_same c t
step_same stuck t = refl

-- ---- the end
text_end : (a : Around) (s : Sum) (d m : ℕ) (h : Option ℕ) → open_around a ≡ d → max (most_a a) (open_around a + sum_depth s) ≡ m
    → h ≡ Some m → pick (eqb d 0) h None ≡ shape_of (close_text a s)
text_end whole s d m h e f g = rw (← e) (g ∙ ap Some (omega arith))
text_end (in_bracket k) s d m h e f g = rw (← e, ne_eqb (open_left k + 1) 0 (λ z. omega arith))

end_same : (q : Place) → pass_end (pass_of q) ≡ shape_of (end q)
end_same (due k) = both_ways (eqb (open_left k) 0)
  where
    both_ways : (b : Bool) → pick {A = Option ℕ} b None None ≡ None
    both_ways true = refl
    both_ways false = refl
end_same (within k d ds) =
    rw (← done_open k d ds, ← done_most k d ds) (ended (close_factor k (digits d ds)))
  where
    ended : (c : Closed) → pick (eqb (open_before c.before) 0) (Some (most_c c)) None ≡ shape_of (end_behind c)
    ended c = text_end (around_of c.before) (sum_so_far c.before c.done) (open_before c.before) (most_c c) (Some (most_c c)) (product_open c.before) (product_most c.before c.done) refl
end_same (behind c) = text_end (around_of c.before) (sum_so_far c.before c.done) (open_before c.before) (most_c c) (Some (most_c c)) (product_open c.before) (product_most c.before c.done) refl
end_same stuck = refl

-- the deepest so far is at most the depth
data Grows (m : ℕ) : Pass → Type 0 where
  grows : {p : Pass} → m ≤ p.deepest → Grows m p
  lost : Grows m stuck_pass

after_grows : (d m : ℕ) (k : Kind) → Grows m (pass_after d m k)
after_grows d m K.Digit = lost
after_grows d m K.Operator = grows {p = pass_at S.Due d m} (omega arith)
after_grows d m K.Minus = grows {p = pass_at S.Due d m} (omega arith)
after_grows d m K.Opens = lost
after_grows d m K.Closes = go (eqb d 0)
  where
    go : (b : Bool) → Grows m (pick b stuck_pass (pass_at S.Behind (d - 1) m))
    go true = lost
    go false = grows {p = pass_at S.Behind (d - 1) m} (omega arith)
after_grows d m K.Other = lost

due_grows : (d m : ℕ) (k : Kind) → Grows m (pass_due d m k)
due_grows d m K.Digit = grows {p = pass_at S.Digits d m} (omega arith)
due_grows d m K.Operator = lost
due_grows d m K.Minus = grows {p = pass_at S.Due d m} (omega arith)
due_grows d m K.Opens = grows {p = pass_at S.Due (d + 1) (max m (d + 1))} (omega arith)
due_grows d m K.Closes = lost
due_grows d m K.Other = lost

digits_grows : (d m : ℕ) (k : Kind) → Grows m (pass_digits d m k)
digits_grows d m K.Digit = grows {p = pass_at S.Digits d m} (omega arith)
digits_grows d m K.Operator = after_grows d m K.Operator
digits_grows d m K.Minus = after_grows d m K.Minus
digits_grows d m K.Opens = lost
digits_grows d m K.Closes = after_grows d m K.Closes
digits_grows d m K.Other = lost

by_grows : (s : Stand) (d m : ℕ) (k : Kind) → Grows m (pass_by s d m k)
by_grows S.Due d m k = due_grows d m k
by_grows S.Digits d m k = digits_grows d m k
by_grows S.Behind d m k = after_grows d m k
by_grows S.Stuck d m k = lost

stuck_over : (s : List ℕ) → pass_end (pass_over stuck_pass s) ≡ None
stuck_over [] = refl
stuck_over (c ∷ s) = stuck_over s

no_shape : {A : Type 0} {n : ℕ} → None ≡ Some n → A
no_shape e = let z : ◌≡◌ {A = ℕ} 0 1 = cc in absurd (omega arith)

never_falls : (s : List ℕ) (p : Pass) (n : ℕ) → pass_end (pass_over p s) ≡ Some n → p.deepest ≤ n
never_falls [] p n e = go (eqb p.depth 0) p.stand e
  where
    go : (b : Bool) (t : Stand) → pick b (shape_by t p.deepest) None ≡ Some n → p.deepest ≤ n
    go true S.Due e = no_shape e
    go true S.Digits e = let z : p.deepest ≡ n = cc in omega arith
    go true S.Behind e = let z : p.deepest ≡ n = cc in omega arith
    go true S.Stuck e = no_shape e
    go false t e = no_shape e
never_falls (c ∷ s) p n e = go (pass_next p (kind_of (token_of c))) (by_grows p.stand p.depth p.deepest (kind_of (token_of c))) e (never_falls s (pass_next p (kind_of (token_of c))) n e)
  where
    go : (q : Pass) → Grows p.deepest q → pass_end (pass_over q s) ≡ Some n → q.deepest ≤ n → p.deepest ≤ n
    go q (grows h) e i = omega arith
    go stuck_pass lost e i = no_shape (sym (stuck_over s) ∙ e)

over_same : (s : List ℕ) (q : Place) → pass_end (pass_over (pass_of q) s) ≡ shape_of (read_from q s)
over_same [] q = end_same q
over_same (c ∷ s) q = ap (λ (p : Pass). pass_end (pass_over p s)) (step_same q (token_of c)) ∙ over_same s (next q (token_of c))

-- a bracket opens only where the reading is deeper than what is open
pub opens_deeper : (k : Left) (s : List ℕ) (t : Sum) → read_from (due (begin (first (in_bracket k)))) s ≡ reads t → open_left k + 1 ≤ sum_depth t
opens_deeper k s t h =
    let q = due (begin (first (in_bracket k))) in
    omega (arith, never_falls s (pass_of q) (sum_depth t) (over_same s q ∙ ap shape_of h))

pub same : (s : List ℕ) → pass_end (pass_over start_pass s) ≡ shape_of (reading s)
unfolding reading
same s = over_same s start
