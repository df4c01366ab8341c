-- Bytes put before others, and a number read back as its bytes.
-- Assumes nothing.
use Prim.Native.Nat.{ℕ, zero, suc, ◌+◌, ◌*◌, ◌%◌, ◌/◌, ◌<◌, ◌≤◌}
use mathlib.Core.Path.{◌≡◌, refl, ap, ◌∙◌}
use mathlib.Core.List.{List, [], ◌∷◌, ◌++◌}
use mathlib.Core.Bool.{Bool, true, false}
use lib.Dec.{eqb}
use lib.ListN.{length, get_or, length-append}
use native.Mathlib.Omega.{arith}
use Rattle.mrc_compiler.specs.Choose.{pick}
use Rattle.encode_spec.specs.Layout.{prefix_bytes}
use Rattle.fast_run.specs.Packed.{over, digits, displaced, length_unit, unpacked, Valued}

pub append : (xs ys : List ℕ) (t : ℕ) → over (xs ++ ys) t ≡ over xs (over ys t)
append [] ys t = refl
append (x ∷ xs) ys t = rw (append xs ys t)

pub data Bytes : List ℕ → Type 0 where
  none : Bytes []
  more : {b : ℕ} {bs : List ℕ} → b < 256 → Bytes bs → Bytes (b ∷ bs)

pub bytes_append : {xs ys : List ℕ} → Bytes xs → Bytes ys → Bytes (xs ++ ys)
bytes_append none hs = hs
bytes_append (more h hs) gs = more h (bytes_append hs gs)

pub digits_bytes : (n x : ℕ) → Bytes (digits n x)
digits_bytes zero x = none
digits_bytes (suc n) x = more {b = x % 256} (omega arith) (digits_bytes n (x / 256))

pub digits-length : (n x : ℕ) → length (digits n x) ≡ n
digits-length zero x = refl
digits-length (suc n) x = ap suc (digits-length n (x / 256))

read_back : {bs : List ℕ} (t : ℕ) → Bytes bs → digits (length bs) (over bs t) ≡ bs
read_back t none = refl
read_back t (more {b} {bs} h hs) =
    let low : (b + 256 * over bs t) % 256 ≡ b = omega arith in
    let rest : (b + 256 * over bs t) / 256 ≡ over bs t = omega arith in
    rw (low, rest, read_back t hs)

back : (bs : List ℕ) (t r : ℕ) → Bytes bs → r ≡ over bs t → r / length_unit ≡ length bs → unpacked r ≡ bs
unfolding unpacked
back bs t r h e d = rw (d, e) (read_back t h)

-- the number of at most seven bytes is read back as these
pub unpacked_of : (bs : List ℕ) (r : ℕ) → Bytes bs → length bs ≤ 7 → r ≡ over bs 0 + length bs * length_unit → unpacked r ≡ bs
unpacked_of [] r h l e = back [] r r h refl (omega arith)
unpacked_of (a ∷ []) r (more ha none) l e = back _ 281474976710656 r (more ha none) (omega arith) (omega arith)
unpacked_of (a ∷ b ∷ []) r (more ha (more hb none)) l e = back _ 2199023255552 r (more ha (more hb none)) (omega arith) (omega arith)
unpacked_of (a ∷ b ∷ c ∷ []) r (more ha (more hb (more hc none))) l e = back _ 12884901888 r (more ha (more hb (more hc none))) (omega arith) (omega arith)
unpacked_of (a ∷ b ∷ c ∷ d ∷ []) r (more ha (more hb (more hc (more hd none)))) l e = back _ 67108864 r (more ha (more hb (more hc (more hd none)))) (omega arith) (omega arith)
unpacked_of (a ∷ b ∷ c ∷ d ∷ f ∷ []) r (more ha (more hb (more hc (more hd (more hf none))))) l e = back _ 327680 r (more ha (more hb (more hc (more hd (more hf none))))) (omega arith) (omega arith)
unpacked_of (a ∷ b ∷ c ∷ d ∷ f ∷ g ∷ []) r (more ha (more hb (more hc (more hd (more hf (more hg none)))))) l e = back _ 1536 r (more ha (more hb (more hc (more hd (more hf (more hg none)))))) (omega arith) (omega arith)
unpacked_of (a ∷ b ∷ c ∷ d ∷ f ∷ g ∷ i ∷ []) r (more ha (more hb (more hc (more hd (more hf (more hg (more hi none))))))) l e = back _ 7 r (more ha (more hb (more hc (more hd (more hf (more hg (more hi none))))))) (omega arith) (omega arith)
unpacked_of (a ∷ b ∷ c ∷ d ∷ f ∷ g ∷ i ∷ j ∷ bs) r h l e = absurd (omega arith)

-- ---- the parts of a run
prefix_bytes_lem : (p : ℕ) → p < 256 → Bytes (prefix_bytes p)
prefix_bytes_lem p h = go (eqb p 0)
  where
    go : (t : Bool) → Bytes (pick t [] (p ∷ []))
    go true = none
    go false = more h none

displaced_bytes : (size low high : ℕ) → low < 256 → high < 256 → Bytes (displaced size low high)
displaced_bytes size low high l h = go (eqb size 0) (eqb size 1)
  where
    go : (t u : Bool) → Bytes (pick t [] (pick u (low ∷ []) (low ∷ high ∷ [])))
    go true u = none
    go false true = more l none
    go false false = more l (more h none)

displaced-length : (size low high : ℕ) → size ≤ 2 → length (displaced size low high) ≡ size
displaced-length zero low high h = refl
displaced-length (suc zero) low high h = refl
displaced-length (suc (suc zero)) low high h = refl
displaced-length (suc (suc (suc n))) low high h = absurd (omega arith)

prefix_short : (p : ℕ) → length (prefix_bytes p) ≤ 1
prefix_short p = go (eqb p 0)
  where
    go : (t : Bool) → length (pick t [] (p ∷ [])) ≤ 1
    go true = omega arith
    go false = omega arith

module _ (p op n v : ℕ) (hp : p < 256) (ho : op < 256) (h : Valued n v) where
  pub memory_read : (r : ℕ) → r ≡ over (prefix_bytes p) (v * 256 + op) + (1 + n + length (prefix_bytes p)) * length_unit
      → unpacked r ≡ prefix_bytes p ++ (op ∷ digits n v)
  memory_read r e =
      let bs = op ∷ digits n v in
      let count = length-append (prefix_bytes p) bs in
      unpacked_of _ r (bytes_append (prefix_bytes_lem p hp) (more ho (digits_bytes n v)))
      (omega (arith, count, prefix_short p, digits-length n v, h.few))
      (rw (append (prefix_bytes p) bs 0, h.whole, count, digits-length n v)
      (e ∙ rw (sum_is) (omega arith)))
    where
      sum_is : v * 256 + op ≡ op + 256 * v
      sum_is = omega arith

  pub rm_read : (m size low high : ℕ) → m < 256 → size ≤ 2 → low < 256 → high < 256
      → (r : ℕ) → r ≡ over (prefix_bytes p) (over (op ∷ m ∷ []) (over (displaced size low high) v)) + (2 + n + size + length (prefix_bytes p)) * length_unit
      → unpacked r ≡ prefix_bytes p ++ (op ∷ m ∷ (displaced size low high ++ digits n v))
  rm_read m size low high hm hs hl hh r e =
      let ds = displaced size low high in
      let bs = op ∷ m ∷ (ds ++ digits n v) in
      let count = length-append (prefix_bytes p) bs in
      let behind = length-append ds (digits n v) in
      let sized = displaced-length size low high hs in
      unpacked_of _ r (bytes_append (prefix_bytes_lem p hp) (more ho (more hm (bytes_append (displaced_bytes size low high hl hh) (digits_bytes n v)))))
      (omega (arith, count, behind, sized, prefix_short p, digits-length n v, h.few))
      (rw (append (prefix_bytes p) bs 0, append ds (digits n v) 0, h.whole, count, behind, sized, digits-length n v)
      (e ∙ omega arith))

-- ---- the bytes one after the other
-- what is left of a number behind its i lowest bytes
abbrev pub behind : ℕ → ℕ → ℕ
behind zero x = x
behind (suc i) x = behind i x / 256

behind_first : (i x : ℕ) → behind i (x / 256) ≡ behind i x / 256
behind_first zero x = refl
behind_first (suc i) x = rw (behind_first i x)

digit_at : (n i x : ℕ) → i < n → get_or (digits n x) i 0 ≡ behind i x % 256
digit_at zero i x h = absurd (omega arith)
digit_at (suc n) zero x h = refl
digit_at (suc n) (suc i) x h = digit_at n i (x / 256) (omega arith) ∙ rw (behind_first i x)

pub unpacked-length : (r : ℕ) → length (unpacked r) ≡ r / length_unit
unfolding unpacked
unpacked-length r = digits-length (r / length_unit) r

pub byte_at : (r i : ℕ) → i < length (unpacked r) → get_or (unpacked r) i 0 ≡ behind i r % 256
unfolding unpacked
byte_at r i h = digit_at (r / length_unit) i r (omega (arith, digits-length (r / length_unit) r))

-- ---- a test that does not hold
pub not_true : ◌≡◌ {A = Bool} false true → ⊥
not_true e = let z : ◌≡◌ {A = ℕ} 0 1 = cc in omega arith

pub ne_positive : (n : ℕ) → (n ≡ 0 → ⊥) → 0 < n
ne_positive zero h = absurd (h refl)
ne_positive (suc n) h = omega arith
