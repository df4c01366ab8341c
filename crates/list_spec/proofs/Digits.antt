-- An entry's eight bytes are those that its number spells.
-- Assumes nothing.
use mathlib.Core.Path.{◌≡◌, refl, sym, ◌∙◌, ap}
use Prim.Native.Nat.{ℕ, ◌+◌, ◌*◌, ◌-◌, ◌/◌, ◌%◌, ◌≤◌, ◌<◌}
use native.Mathlib.Omega.{arith}
use mathlib.Core.List.{List, [], ◌∷◌}
use lib.ListN.{length, get_or, take, drop, replicate}
use lib.Seq.{take-append_seam}
use Rattle.x86.specs.Listing.{Bytes}
use Rattle.list_spec.specs.Entries.{entry, spelled, key, digits}

-- the key of a string of at most 7 bytes
pub key_is : (l : List ℕ) → length l ≤ 7 → length l * 72057594037927936 + get_or l 0 0 * 281474976710656 + get_or l 1 0 * 1099511627776 + get_or l 2 0 * 4294967296
    + get_or l 3 0 * 16777216 + get_or l 4 0 * 65536 + get_or l 5 0 * 256 + get_or l 6 0 ≡ key l
unfolding key entry spelled
key_is [] h = omega arith
key_is (a ∷ []) h = omega arith
key_is (a ∷ b ∷ []) h = omega arith
key_is (a ∷ b ∷ c ∷ []) h = omega arith
key_is (a ∷ b ∷ c ∷ d ∷ []) h = omega arith
key_is (a ∷ b ∷ c ∷ d ∷ e ∷ []) h = omega arith
key_is (a ∷ b ∷ c ∷ d ∷ e ∷ f ∷ []) h = omega arith
key_is (a ∷ b ∷ c ∷ d ∷ e ∷ f ∷ g ∷ []) h = omega arith
key_is (a ∷ b ∷ c ∷ d ∷ e ∷ f ∷ g ∷ y ∷ l) h = absurd (omega arith)

digits_are : (n b0 b1 b2 b3 b4 b5 b6 b7 : ℕ) → b0 < 256 → b1 < 256 → b2 < 256 → b3 < 256 → b4 < 256 → b5 < 256 → b6 < 256 → b7 < 256
    → n ≡ b0 * 72057594037927936 + b1 * 281474976710656 + b2 * 1099511627776 + b3 * 4294967296 + b4 * 16777216 + b5 * 65536 + b6 * 256 + b7
    → digits n ≡ b0 ∷ b1 ∷ b2 ∷ b3 ∷ b4 ∷ b5 ∷ b6 ∷ b7 ∷ []
digits_are n b0 b1 b2 b3 b4 b5 b6 b7 h0 h1 h2 h3 h4 h5 h6 h7 e =
    let d0 : n / 72057594037927936 % 256 ≡ b0 = omega arith in
    let d1 : n / 281474976710656 % 256 ≡ b1 = omega arith in
    let d2 : n / 1099511627776 % 256 ≡ b2 = omega arith in
    let d3 : n / 4294967296 % 256 ≡ b3 = omega arith in
    let d4 : n / 16777216 % 256 ≡ b4 = omega arith in
    let d5 : n / 65536 % 256 ≡ b5 = omega arith in
    let d6 : n / 256 % 256 ≡ b6 = omega arith in
    let d7 : n % 256 ≡ b7 = omega arith in
    λ i. d0 i ∷ d1 i ∷ d2 i ∷ d3 i ∷ d4 i ∷ d5 i ∷ d6 i ∷ d7 i ∷ []

pub entry_is : (s : List ℕ) → length s ≤ 7 → entry s ≡ length s ∷ get_or s 0 0 ∷ get_or s 1 0 ∷ get_or s 2 0 ∷ get_or s 3 0 ∷ get_or s 4 0 ∷ get_or s 5 0 ∷ get_or s 6 0 ∷ []
unfolding entry
entry_is [] h = refl
entry_is (a ∷ []) h = refl
entry_is (a ∷ b ∷ []) h = refl
entry_is (a ∷ b ∷ c ∷ []) h = refl
entry_is (a ∷ b ∷ c ∷ d ∷ []) h = refl
entry_is (a ∷ b ∷ c ∷ d ∷ e ∷ []) h = refl
entry_is (a ∷ b ∷ c ∷ d ∷ e ∷ f ∷ []) h = refl
entry_is (a ∷ b ∷ c ∷ d ∷ e ∷ f ∷ g ∷ []) h = refl
entry_is (a ∷ b ∷ c ∷ d ∷ e ∷ f ∷ g ∷ y ∷ s) h = absurd (omega arith)

pub digits-key : (s : List ℕ) → length s ≤ 7 → Bytes s → digits (key s) ≡ entry s
digits-key s h bs =
    digits_are (key s) (length s) (get_or s 0 0) (get_or s 1 0) (get_or s 2 0) (get_or s 3 0) (get_or s 4 0) (get_or s 5 0) (get_or s 6 0)
    (omega arith) (bs 0) (bs 1) (bs 2) (bs 3) (bs 4) (bs 5) (bs 6) (sym (key_is s h))
    ∙ sym (entry_is s h)

-- the string of an entry
string_key : (s : List ℕ) → length s ≤ 7 → Bytes s → take (get_or (digits (key s)) 0 0) (drop 1 (digits (key s))) ≡ s
unfolding entry
string_key s h bs =
    ap (λ (d : List ℕ). take (get_or d 0 0) (drop 1 d)) (digits-key s h bs) ∙ take-append_seam s (replicate (7 - length s) 0)

-- equal numbers are of equal strings
pub key_same : (s t : List ℕ) → length s ≤ 7 → length t ≤ 7 → Bytes s → Bytes t → key s ≡ key t → s ≡ t
key_same s t h k bs bt e = sym (string_key s h bs) ∙ (ap (λ (n : ℕ). take (get_or (digits n) 0 0) (drop 1 (digits n))) e ∙ string_key t k bt)
