-- What a text reads as has that text: at each place the text to the left is that of what is known there.
-- Assumes nothing.
use mathlib.Core.Path.{◌≡◌, refl, sym, ap, ◌∙◌}
use mathlib.Core.List.{List, [], ◌∷◌, ◌++◌, append_assoc, append-nil}
use Prim.Native.Nat.{ℕ}
use native.Mathlib.Omega.{arith}
use Rattle.sum_spec.specs.Sums.{Digit, digit_text, digits_text, Sum, Product, Factor, digits, minus, bracket, sum_text, product_text, factor_text, reads, no_text}
use Rattle.sum_spec.specs.Reading.{Token, digit, plus_sign, minus_sign, star, slash, opens, closes, other, token_of, Around, whole, in_bracket, Before, first, plus_then, less_then, Left, begin, times_then, over_then, minus_then, Closed, close_factor, around_of, sum_so_far, Place, due, within, behind, stuck, close_sum, close_text, after_factor, where_due, in_digits, next, end, end_behind, read_from, start, reading}
use Rattle.sum_spec.proofs.Tokens.{View, is_a_digit, is_plus, is_minus, is_star, is_slash, is_open, is_close, view}

-- ---- the text to the left
abbrev mutual
  around_text : Around → List ℕ
  around_text whole = []
  around_text (in_bracket k) = left_text k ++ 0x28 ∷ []

  before_text : Before → List ℕ
  before_text (first a) = around_text a
  before_text (plus_then s a) = around_text a ++ sum_text s ++ 0x2B ∷ []
  before_text (less_then s a) = around_text a ++ sum_text s ++ 0x2D ∷ []

  left_text : Left → List ℕ
  left_text (begin b) = before_text b
  left_text (times_then p b) = before_text b ++ product_text p ++ 0x2A ∷ []
  left_text (over_then p b) = before_text b ++ product_text p ++ 0x2F ∷ []
  left_text (minus_then k) = left_text k ++ 0x2D ∷ []

abbrev closed_text : Closed → List ℕ
closed_text c = before_text c.before ++ product_text c.done

abbrev place_text : Place → List ℕ
place_text (due k) = left_text k
place_text (within k d ds) = left_text k ++ digit_text d ∷ digits_text ds
place_text (behind c) = closed_text c
place_text stuck = []

close_factor_lem : (k : Left) (f : Factor) → closed_text (close_factor k f) ≡ left_text k ++ factor_text f
close_factor_lem (begin b) f = refl
close_factor_lem (times_then p b) f = simp append_assoc
close_factor_lem (over_then p b) f = simp append_assoc
close_factor_lem (minus_then k) f = close_factor_lem k (minus f) ∙ simp append_assoc

close_product : (b : Before) (p : Product) → around_text (around_of b) ++ sum_text (sum_so_far b p) ≡ before_text b ++ product_text p
close_product (first a) p = refl
close_product (plus_then s a) p = simp append_assoc
close_product (less_then s a) p = simp append_assoc

pub digits_append : (ds es : List Digit) → digits_text (ds ++ es) ≡ digits_text ds ++ digits_text es
digits_append [] es = refl
digits_append (d ∷ ds) es = ap (λ (l : List ℕ). digit_text d ∷ l) (digits_append ds es)

-- ---- a step adds its byte to the left
data Step (l : List ℕ) (c : ℕ) : Place → Type 0 where
  adds : {q : Place} → place_text q ≡ l ++ c ∷ [] → Step l c q
  nothing : Step l c stuck

close_sum_lem : (a : Around) (s : Sum) → Step (around_text a ++ sum_text s) 0x29 (close_sum a s)
close_sum_lem whole s = nothing
close_sum_lem (in_bracket k) s = adds (close_factor_lem k (bracket s) ∙ simp append_assoc)

term_text : (c : Closed) (y : ℕ) → around_text (around_of c.before) ++ sum_text (sum_so_far c.before c.done) ++ y ∷ [] ≡ closed_text c ++ y ∷ []
term_text c y = ap (λ (l : List ℕ). l ++ y ∷ []) (close_product c.before c.done)

after : (c : Closed) (x : ℕ) (t : Token) → View x t → Step (closed_text c) x (after_factor c t)
after c x (digit d) v = nothing
after c x plus_sign (is_plus e) = adds {q = after_factor c plus_sign} (rw e (term_text c 0x2B))
after c x minus_sign (is_minus e) = adds {q = after_factor c minus_sign} (rw e (term_text c 0x2D))
after c x star (is_star e) = adds {q = after_factor c star} (rw e (simp append_assoc))
after c x slash (is_slash e) = adds {q = after_factor c slash} (rw e (simp append_assoc))
after c x opens v = nothing
after c x closes (is_close e) =
    rw (e, ← close_product c.before c.done) (close_sum_lem (around_of c.before) (sum_so_far c.before c.done))
after c x other v = nothing

at_due : (k : Left) (x : ℕ) (t : Token) → View x t → Step (left_text k) x (where_due k t)
at_due k x (digit d) (is_a_digit e) = adds {q = within k d []} (rw e)
at_due k x plus_sign v = nothing
at_due k x minus_sign (is_minus e) = adds {q = due (minus_then k)} (rw e)
at_due k x star v = nothing
at_due k x slash v = nothing
at_due k x opens (is_open e) = adds {q = due (begin (first (in_bracket k)))} (rw e)
at_due k x closes v = nothing
at_due k x other v = nothing

at_digits : (k : Left) (d : Digit) (ds : List Digit) (x : ℕ) (t : Token) → View x t → Step (left_text k ++ digit_text d ∷ digits_text ds) x (in_digits k d ds t)
at_digits k d ds x (digit f) (is_a_digit e) = adds {q = within k d (ds ++ f ∷ [])} (rw (e, digits_append ds (f ∷ [])) (simp append_assoc))
at_digits k d ds x plus_sign v = rw (← close_factor_lem k (digits d ds)) (after (close_factor k (digits d ds)) x plus_sign v)
at_digits k d ds x minus_sign v = rw (← close_factor_lem k (digits d ds)) (after (close_factor k (digits d ds)) x minus_sign v)
at_digits k d ds x star v = rw (← close_factor_lem k (digits d ds)) (after (close_factor k (digits d ds)) x star v)
at_digits k d ds x slash v = rw (← close_factor_lem k (digits d ds)) (after (close_factor k (digits d ds)) x slash v)
at_digits k d ds x opens v = nothing
at_digits k d ds x closes v = rw (← close_factor_lem k (digits d ds)) (after (close_factor k (digits d ds)) x closes v)
at_digits k d ds x other v = nothing

step : (q : Place) (x : ℕ) → Step (place_text q) x (next q (token_of x))
step (due k) x = at_due k x (token_of x) (view x)
step (within k d ds) x = at_digits k d ds x (token_of x) (view x)
step (behind c) x = after c x (token_of x) (view x)
step stuck x = nothing

-- ---- the end
pub stuck_reads : (s : List ℕ) → read_from stuck s ≡ no_text
stuck_reads [] = refl
stuck_reads (c ∷ s) = stuck_reads s

pub never : {A : Type 0} {t : Sum} → no_text ≡ reads t → A
never e = let z : ◌≡◌ {A = ℕ} 0 1 = cc in absurd (omega arith)

text_end : (a : Around) (s t : Sum) → close_text a s ≡ reads t → sum_text t ≡ around_text a ++ sum_text s
text_end whole s t e = let h : s ≡ t = cc in rw h
text_end (in_bracket k) s t e = never e

end_behind_lem : (c : Closed) (t : Sum) → end_behind c ≡ reads t → sum_text t ≡ closed_text c
end_behind_lem c t e = text_end (around_of c.before) (sum_so_far c.before c.done) t e ∙ close_product c.before c.done

at_end : (q : Place) (t : Sum) → end q ≡ reads t → sum_text t ≡ place_text q
at_end (due k) t e = never e
at_end (within k d ds) t e = end_behind_lem (close_factor k (digits d ds)) t e ∙ close_factor_lem k (digits d ds)
at_end (behind c) t e = end_behind_lem c t e
at_end stuck t e = never e

pub sound_from : (s : List ℕ) (q : Place) (t : Sum) → read_from q s ≡ reads t → sum_text t ≡ place_text q ++ s
sound_from [] q t e = at_end q t e ∙ sym (append-nil (place_text q))
sound_from (x ∷ s) q t e = go (next q (token_of x)) (step q x) (sound_from s (next q (token_of x)) t e) e
  where
    go : (r : Place) → Step (place_text q) x r → sum_text t ≡ place_text r ++ s → read_from r s ≡ reads t → sum_text t ≡ place_text q ++ x ∷ s
    go r (adds h) i e = i ∙ ap (λ (l : List ℕ). l ++ s) h ∙ append_assoc (place_text q) (x ∷ []) s
    go stuck nothing i e = never (sym (stuck_reads s) ∙ e)

pub sound : (s : List ℕ) (t : Sum) → reading s ≡ reads t → sum_text t ≡ s
unfolding reading
sound s t e = sound_from s start t e
