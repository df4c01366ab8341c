-- Signed values in bytes and words: what is read of the bytes is the value, modulo 65,536.
-- Assumes nothing.
use mathlib.Core.Path.{◌≡◌, refl, sym, subst}
use Prim.Native.Nat.{ℕ, zero, suc, ◌+◌, ◌-◌, ◌/◌, ◌%◌, ◌≤◌, ◌<◌}
use native.Mathlib.Omega.{arith}
use mathlib.Core.Bool.{Bool, true, false, cond}
use mathlib.Core.List.{List, [], ◌∷◌, ◌++◌}
use lib.Dec.{T, ltb, leb}
use lib.IntN.{ℤ, pos, negsuc, ◌-ℤ◌}
use lib.Signed.{le_z}
use lib.ListN.{length}
use borrow.Author.Tests.{ltb-true, ltb-false, leb-true}
use Rattle.mrc_compiler.specs.declared.encoder.OperandSize.{OperandSize}
use Rattle.mrc_compiler.specs.declared.encoder.OperandSize.TheVariants as S
use Rattle.mrc_compiler.specs.Choose.{pick, both, either, by_size}
use Rattle.mrc_compiler.specs.Values.{within, mod_z}
use Rattle.x86.specs.Reading.{word_at, sign_extended, displacement_at}
use Rattle.x86.specs.Listing.{Bytes}
use Rattle.encode_spec.specs.WellFormed.{bytes_of}
use Rattle.encode_spec.specs.Layout.{byte_of, word_of}

-- ---- tests
pub false-true : {P : Type 0} → false ≡ true → P
false-true e = absurd (subst T (sym e) tt)

pub both_true : (a b : Bool) → both a b ≡ true → (a ≡ true) × (b ≡ true)
both_true true b t = (refl, t)
both_true false b t = false-true t

pub either_right : (a b : Bool) → b ≡ true → either a b ≡ true
either_right true b h = refl
either_right false b h = h

-- ---- a value modulo 256 and 65,536
pub under_256 : (z : ℤ) → mod_z 256 z < 256
under_256 (pos n) = omega arith
under_256 (negsuc n) = omega arith

pub under_65536 : (z : ℤ) → mod_z 65536 z < 65536
under_65536 (pos n) = omega arith
under_65536 (negsuc n) = omega arith

-- a value of -128 to 127 is its byte, sign-extended
signed_if : (b : ℕ) (n : ℕ) → ((b < 128) → b ≡ n) → (128 ≤ b → b + 65280 ≡ n) → (i : Bool) → ltb b 128 ≡ i → pick i b (b + 65280) ≡ n
signed_if b n f g true e = f (ltb-true b 128 e)
signed_if b n f g false e = g (ltb-false b 128 e)

pub signed_back : (z : ℤ) → within (negsuc 127) (pos 127) z ≡ true → sign_extended (mod_z 256 z) ≡ mod_z 65536 z
signed_back (pos n) t =
    let h = leb-true n 127 (both_true (le_z (negsuc 127) (pos n)) (leb n 127) t).1 in
    signed_if (n % 256) (n % 65536) (λ l. omega arith) (λ l. omega arith) (ltb (n % 256) 128) refl
signed_back (negsuc n) t =
    let h = leb-true n 127 (both_true (leb n 127) (le_z (negsuc n) (pos 127)) t).0 in
    signed_if (256 - 1 - n % 256) (65536 - 1 - n % 65536) (λ l. omega arith) (λ l. omega arith) (ltb (256 - 1 - n % 256) 128) refl

pub zero_back : (z : ℤ) → within (pos 0) (pos 0) z ≡ true → mod_z 65536 z ≡ 0
zero_back (pos n) t = omega (arith, leb-true n 0 (both_true (le_z (pos 0) (pos n)) (leb n 0) t).1)
zero_back (negsuc n) t = false-true t

-- a word's two bytes give it back
pub word_back : (z : ℤ) (r : List ℕ) → word_at 0 (word_of z ++ r) ≡ mod_z 65536 z
word_back z r = omega arith

pub far_back : (z y : ℤ) → word_at 2 (word_of z ++ word_of y) ≡ mod_z 65536 y
far_back z y = omega arith

-- ---- displacements, by their size
abbrev pub is_in_size : OperandSize → ℤ → Bool
is_in_size s z = by_size s (within (pos 0) (pos 0) z) (within (negsuc 127) (pos 127) z) (within (negsuc 32767) (pos 65535) z)

abbrev pub size_bytes : OperandSize → ℤ → List ℕ
size_bytes s z = by_size s [] (byte_of z) (word_of z)

pub size_length : (s : OperandSize) (z : ℤ) → length (size_bytes s z) ≡ bytes_of s
size_length S.Unspecified z = refl
size_length S.Byte z = refl
size_length S.Word z = refl

pub size_back : (s : OperandSize) (z : ℤ) (r : List ℕ) → is_in_size s z ≡ true → displacement_at (bytes_of s) (size_bytes s z ++ r) ≡ mod_z 65536 z
size_back S.Unspecified z r t = sym (zero_back z t)
size_back S.Byte z r t = signed_back z t
size_back S.Word z r t = word_back z r

-- ---- distances from the end of an instruction, at off + k + 1
minus_cond : (t : Bool) (n k : ℕ) → ltb n (suc k) ≡ t → suc k < 131072
    → (suc k + mod_z 65536 (cond t (negsuc (suc k - suc n)) (pos (n - suc k)))) % 65536 ≡ n % 65536
minus_cond true n k e h = omega (arith, ltb-true n (suc k) e)
minus_cond false n k e h = omega (arith, ltb-false n (suc k) e)

minus : (z : ℤ) (k : ℕ) → suc k < 131072 → (suc k + mod_z 65536 (z -ℤ pos (suc k))) % 65536 ≡ mod_z 65536 z
minus (pos n) k h = minus_cond (ltb n (suc k)) n k refl h
minus (negsuc n) k h = omega arith

-- the distance, added to the end, gives the target back
pub target_back : (z : ℤ) (off k : ℕ) → off + suc k < 131072 → (off + suc k + mod_z 65536 (z -ℤ pos (off + suc k))) % 65536 ≡ mod_z 65536 z
target_back z off k h = let e : off + suc k ≡ suc (off + k) = omega arith in rw e (minus z (off + k) (omega arith))

-- ---- lists of bytes
pub no_byte : Bytes []
no_byte i = omega arith

pub bytes_cons : (a : ℕ) (s : List ℕ) → a < 256 → Bytes s → Bytes (a ∷ s)
bytes_cons a s h b zero = h
bytes_cons a s h b (suc i) = b i

pub bytes_append : (s t : List ℕ) → Bytes s → Bytes t → Bytes (s ++ t)
bytes_append [] t h b = b
bytes_append (a ∷ s) t h b = bytes_cons a (s ++ t) (h 0) (bytes_append s t (λ i. h (suc i)) b)

pub bytes_byte : (z : ℤ) → Bytes (byte_of z)
bytes_byte z = bytes_cons (mod_z 256 z) [] (under_256 z) no_byte

pub bytes_word : (z : ℤ) → Bytes (word_of z)
bytes_word z =
    let n : ℕ = mod_z 65536 z in
    bytes_cons (n % 256) (n / 256 ∷ []) (omega arith) (bytes_cons (n / 256) [] (omega (arith, under_65536 z)) no_byte)

pub bytes_size : (s : OperandSize) (z : ℤ) → Bytes (size_bytes s z)
bytes_size S.Unspecified z = no_byte
bytes_size S.Byte z = bytes_byte z
bytes_size S.Word z = bytes_word z
