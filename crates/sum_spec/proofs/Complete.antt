-- The text of a reading reads as it.
-- Assumes nothing.
use mathlib.Core.Path.{◌≡◌, refl, ap, ◌∙◌, subst}
use mathlib.Core.Bool.{Bool, true, false}
use mathlib.Core.List.{List, [], ◌∷◌, ◌++◌, append_assoc, append-nil}
use Prim.Native.Nat.{ℕ}
use Rattle.sum_spec.specs.Sums.{Digit, digits_text, Sum, product, plus, less, Product, factor, times, over, Factor, digits, minus, bracket, sum_text, product_text, factor_text, reads}
use Rattle.sum_spec.specs.Reading.{Token, digit, plus_sign, minus_sign, star, slash, opens, closes, other, token_of, Around, whole, in_bracket, Before, first, plus_then, less_then, Left, begin, times_then, over_then, minus_then, close_factor, Place, due, within, behind, closed_sum, after_factor, in_digits, next, read_from, reading}
use Rattle.sum_spec.proofs.Tokens.{token_of_digit}

abbrev pub can_go_on : Token → Bool
can_go_on (digit d) = true
can_go_on plus_sign = false
can_go_on minus_sign = false
can_go_on star = false
can_go_on slash = false
can_go_on opens = false
can_go_on closes = false
can_go_on other = false

-- no digit follows
abbrev pub Ends : List ℕ → Type 0
Ends [] = Unit {0}
Ends (c ∷ s) = can_go_on (token_of c) ≡ false

digits_end : (k : Left) (d : Digit) (ds : List Digit) (t : Token) → can_go_on t ≡ false → in_digits k d ds t ≡ after_factor (close_factor k (digits d ds)) t
digits_end k d ds (digit e) h = absurd (subst (λ (b : Bool). lib.Dec.T b) h tt)
digits_end k d ds plus_sign h = refl
digits_end k d ds minus_sign h = refl
digits_end k d ds star h = refl
digits_end k d ds slash h = refl
digits_end k d ds opens h = refl
digits_end k d ds closes h = refl
digits_end k d ds other h = refl

pub digits_done : (k : Left) (d : Digit) (ds : List Digit) (s : List ℕ) → Ends s → read_from (within k d ds) s ≡ read_from (behind (close_factor k (digits d ds))) s
digits_done k d ds [] h = refl
digits_done k d ds (c ∷ s) h = ap (λ (q : Place). read_from q s) (digits_end k d ds (token_of c) h)

digits_read : (k : Left) (d : Digit) (ds es : List Digit) (s : List ℕ) → Ends s
    → read_from (within k d ds) (digits_text es ++ s) ≡ read_from (behind (close_factor k (digits d (ds ++ es)))) s
digits_read k d ds [] s h = rw append-nil (digits_done k d ds s h)
digits_read k d ds (e ∷ es) s h =
    ap (λ (t : Token). read_from (next (within k d ds) t) (digits_text es ++ s)) (token_of_digit e)
    ∙ digits_read k d (ds ++ e ∷ []) es s h
    ∙ ap (λ (l : List Digit). read_from (behind (close_factor k (digits d l))) s) (append_assoc ds (e ∷ []) es)

-- what follows it
pub then_plus : (t : Sum) (a : Around) (s : List ℕ) → read_from (behind (closed_sum a t)) (0x2B ∷ s) ≡ read_from (due (begin (plus_then t a))) s
then_plus (product p) a s = refl
then_plus (plus t p) a s = refl
then_plus (less t p) a s = refl

pub then_less : (t : Sum) (a : Around) (s : List ℕ) → read_from (behind (closed_sum a t)) (0x2D ∷ s) ≡ read_from (due (begin (less_then t a))) s
then_less (product p) a s = refl
then_less (plus t p) a s = refl
then_less (less t p) a s = refl

pub then_close : (t : Sum) (k : Left) (s : List ℕ) → read_from (behind (closed_sum (in_bracket k) t)) (0x29 ∷ s) ≡ read_from (behind (close_factor k (bracket t))) s
then_close (product p) k s = refl
then_close (plus t p) k s = refl
then_close (less t p) k s = refl

pub then_end : (t : Sum) → read_from (behind (closed_sum whole t)) [] ≡ reads t
then_end (product p) = refl
then_end (plus t p) = refl
then_end (less t p) = refl

mutual
  pub sum_read : (t : Sum) (a : Around) (s : List ℕ) → Ends s → read_from (due (begin (first a))) (sum_text t ++ s) ≡ read_from (behind (closed_sum a t)) s
  sum_read (product p) a s h = product_read p (first a) s h
  sum_read (plus t p) a s h =
      rw append_assoc
      (sum_read t a (0x2B ∷ product_text p ++ s) refl
      ∙ then_plus t a (product_text p ++ s)
      ∙ product_read p (plus_then t a) s h)
  sum_read (less t p) a s h =
      rw append_assoc
      (sum_read t a (0x2D ∷ product_text p ++ s) refl
      ∙ then_less t a (product_text p ++ s)
      ∙ product_read p (less_then t a) s h)

  pub product_read : (p : Product) (b : Before) (s : List ℕ) → Ends s → read_from (due (begin b)) (product_text p ++ s) ≡ read_from (behind (record { before = b; done = p })) s
  product_read (factor f) b s h = factor_read f (begin b) s h
  product_read (times p f) b s h =
      rw append_assoc (product_read p b (0x2A ∷ factor_text f ++ s) refl ∙ factor_read f (times_then p b) s h)
  product_read (over p f) b s h =
      rw append_assoc (product_read p b (0x2F ∷ factor_text f ++ s) refl ∙ factor_read f (over_then p b) s h)

  pub factor_read : (f : Factor) (k : Left) (s : List ℕ) → Ends s → read_from (due k) (factor_text f ++ s) ≡ read_from (behind (close_factor k f)) s
  factor_read (digits d ds) k s h =
      ap (λ (t : Token). read_from (next (due k) t) (digits_text ds ++ s)) (token_of_digit d) ∙ digits_read k d [] ds s h
  factor_read (minus f) k s h = factor_read f (minus_then k) s h
  factor_read (bracket t) k s h =
      rw append_assoc
      (sum_read t (in_bracket k) (0x29 ∷ s) refl
      ∙ then_close t k s)

pub complete : (t : Sum) → reading (sum_text t) ≡ reads t
unfolding reading
complete t = rw append-nil at (sum_read t whole [] tt ∙ then_end t)
