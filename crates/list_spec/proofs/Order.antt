-- The order of the entries' numbers is the order of the strings: shorter first, then by the first differing byte.
-- Assumes nothing.
use mathlib.Core.Path.{◌≡◌, sym, ◌∙◌, ap, subst}
use Prim.Native.Nat.{ℕ, zero, suc, ◌+◌, ◌*◌, ◌-◌, ◌^◌, ◌≤◌, ◌<◌}
use native.Mathlib.Omega.{arith}
use native.Mathlib.Nat.{eq-or-lt_of_le, mul-le-mul_right, suc-mul, pow-succ'}
use mathlib.Core.Logic.{◌⊎◌, inl, inr, ⊎_elim}
use mathlib.Core.List.{List, [], ◌∷◌, ◌++◌}
use lib.Dec.{lit<}
use lib.ListN.{length, replicate, length-append, length-replicate}
use Rattle.x86.specs.Listing.{Bytes, First, Before}
use Rattle.x86.proofs.Extend.{no_bytes, one_more}
use Rattle.list_spec.proofs.Choices.{lt_or}
use Rattle.list_spec.specs.Entries.{entry, spelled, key}

pub append_bytes : (s t : List ℕ) → Bytes s → Bytes t → Bytes (s ++ t)
append_bytes [] t bs bt = bt
append_bytes (a ∷ s) t bs bt = one_more a (s ++ t) (bs 0) (append_bytes s t (λ i. bs (suc i)) bt)

-- ---- numbers of two digits, the lower below P
above : (a b P x y : ℕ) → x < P → a < b → a * P + x < b * P + y
above a b P x y h l =
    let m : suc a * P ≤ b * P = mul-le-mul_right P l in
    let n : suc a * P ≡ a * P + P = suc-mul a P in
    omega arith

lex_from : (a b P x y : ℕ) → x < P → y < P → a * P + x < b * P + y → (a < b) ⊎ ((a ≡ b) × (x < y))
lex_from a b P x y h k l =
    ⊎_elim (λ (s : a < b). inl s)
    (λ (t : b ≤ a). ⊎_elim
    (λ (e : b ≡ a). inr (sym e, let f : b * P ≡ a * P = ap (λ (n : ℕ). n * P) e in omega arith))
    (λ (g : b < a). absurd (let f = above b a P y x k g in omega arith)) (eq-or-lt_of_le t))
    (lt_or a b)

-- ---- what bytes spell
spelled-lt : (u : List ℕ) → Bytes u → spelled u < 256 ^ length u
unfolding spelled
spelled-lt [] bs = lit< tt
spelled-lt (b ∷ u) bs =
    let l = spelled-lt u (λ i. bs (suc i)) in
    let m = above b 256 (256 ^ length u) (spelled u) 0 l (bs 0) in
    let e : 256 ^ suc (length u) ≡ 256 * 256 ^ length u = pow-succ' 256 (length u) in
    omega arith

pub first_of : (u v : List ℕ) → Bytes u → Bytes v → length u ≡ length v → spelled u < spelled v → First u v
unfolding spelled
first_of [] [] bu bv e l = absurd (omega arith)
first_of [] (b ∷ v) bu bv e l = absurd (omega arith)
first_of (a ∷ u) [] bu bv e l = absurd (omega arith)
first_of (a ∷ u) (b ∷ v) bu bv e l =
    let d : length u ≡ length v = omega arith in
    let k : spelled v < 256 ^ length u = rw d (spelled-lt v (λ i. bv (suc i))) in
    let l' : a * 256 ^ length u + spelled u < b * 256 ^ length u + spelled v = rw d (rw d at l) in
    ⊎_elim (λ (s : a < b). inl s) (λ (t : (a ≡ b) × (spelled u < spelled v)). inr (t.0, first_of u v (λ i. bu (suc i)) (λ i. bv (suc i)) d t.1))
    (lex_from a b (256 ^ length u) (spelled u) (spelled v) (spelled-lt u (λ i. bu (suc i))) k l')

-- ---- entries
first_not : (s : List ℕ) → First s s → ⊥
first_not [] f = f
first_not (a ∷ s) f = ⊎_elim (λ (l : a < a). omega arith) (λ (t : (a ≡ a) × First s s). first_not s t.1) f

pad_off : (s t z : List ℕ) → length s ≡ length t → First (s ++ z) (t ++ z) → First s t
pad_off [] [] z e f = first_not z f
pad_off [] (b ∷ t) z e f = absurd (omega arith)
pad_off (a ∷ s) [] z e f = absurd (omega arith)
pad_off (a ∷ s) (b ∷ t) z e f =
    ⊎_elim (λ (l : a < b). inl l) (λ (p : (a ≡ b) × First (s ++ z) (t ++ z)). inr (p.0, pad_off s t z (omega arith) p.1)) f

zeros : (n : ℕ) → Bytes (replicate n 0)
zeros zero = no_bytes
zeros (suc n) = one_more 0 (replicate n 0) (omega arith) (zeros n)

entry_bytes : (s : List ℕ) → length s ≤ 7 → Bytes s → Bytes (entry s)
unfolding entry
entry_bytes s h bs =
    one_more (length s) (s ++ replicate (7 - length s) 0) (omega arith) (append_bytes s (replicate (7 - length s) 0) bs (zeros (7 - length s)))

pub entry_length : (s : List ℕ) → length s ≤ 7 → length (entry s) ≡ 8
unfolding entry
entry_length s h = omega (arith, length-append s (replicate (7 - length s) 0), length-replicate {A = ℕ} (7 - length s) 0)

pub key_before : (s t : List ℕ) → Bytes s → Bytes t → length s ≤ 7 → length t ≤ 7 → key s < key t → Before s t
unfolding key entry
key_before s t bs bt hs ht l =
    ⊎_elim (λ (a : length s < length t). inl a)
    (λ (p : (length s ≡ length t) × First (s ++ replicate (7 - length s) 0) (t ++ replicate (7 - length t) 0)).
    inr (
      p.0,
      pad_off s t (replicate (7 - length s) 0) p.0
          (subst (λ (n : ℕ). First (s ++ replicate (7 - length s) 0) (t ++ replicate (7 - n) 0)) (sym p.0) p.1),
    ))
    (first_of (entry s) (entry t) (entry_bytes s hs bs) (entry_bytes t ht bt) (entry_length s hs ∙ sym (entry_length t ht)) l)

-- no string is before itself, so each stands once
pub before_not : (s : List ℕ) → Before s s → ⊥
before_not s f = ⊎_elim (λ (l : length s < length s). omega arith) (λ (p : (length s ≡ length s) × First s s). first_not s p.1) f
