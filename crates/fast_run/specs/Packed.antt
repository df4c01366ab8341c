-- A run of bytes as one number: the first byte is the lowest, and 2^56 times their count stands above them.
-- Definitions only.
use Rattle.std.specs.Prelude.{ℕ, zero, suc, ◌+◌, ◌*◌, ◌%◌, ◌/◌, ◌≤◌, ◌<◌, ◌≡◌, List, [], ◌∷◌, eqb}
use Rattle.mrc_compiler.specs.Choose.{pick}

-- the number whose lowest bytes these are, and t what follows them
abbrev pub over : List ℕ → ℕ → ℕ
over [] t = t
over (b ∷ bs) t = b + 256 * over bs t

-- the n lowest bytes of a number
abbrev pub digits : ℕ → ℕ → List ℕ
digits zero x = []
digits (suc n) x = (x % 256) ∷ digits n (x / 256)

-- 2^56
abbrev pub length_unit : ℕ
length_unit = 72057594037927936

unfoldable pub unpacked : ℕ → List ℕ
unpacked r = digits (r / length_unit) r

-- the displacement of a size, of its two lowest bytes
abbrev pub displaced : ℕ → ℕ → ℕ → List ℕ
displaced size low high = pick (eqb size 0) [] (pick (eqb size 1) (low ∷ []) (low ∷ high ∷ []))

-- a value of at most two bytes, n of them
pub record Valued (n v : ℕ) : Type 0 where
  pub few : n ≤ 2
  pub small : v < 65536
  pub whole : over (digits n v) 0 ≡ v
