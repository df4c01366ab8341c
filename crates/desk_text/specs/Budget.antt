-- The budget that `fsqrun` is called with (REFERENCE 15): decimal digits, of a value of 32 bits.
-- Definitions only.
use Rattle.std.specs.Prelude.{ℕ, ◌+◌, ◌*◌, ◌-◌, Bool, true, List, [], ◌∷◌, leb, length, None, Option, Some}
use Rattle.mrc_compiler.specs.Choose.{pick, both}

abbrev pub is_digit : ℕ → Bool
is_digit b = both (leb 0x30 b) (leb b 0x39)

abbrev pub are_digits : List ℕ → Bool
are_digits [] = true
are_digits (b ∷ l) = both (is_digit b) (are_digits l)

-- the value of the digits, the first the highest, behind those of value n
abbrev pub value_behind : ℕ → List ℕ → ℕ
value_behind n [] = n
value_behind n (b ∷ l) = value_behind (10 * n + (b - 0x30)) l

unfoldable pub is_budget : List ℕ → Bool
is_budget text = both (leb 1 (length text)) (both (are_digits text) (leb (value_behind 0 text) 0xFFFFFFFF))

unfoldable pub budget_of : List ℕ → Option ℕ
budget_of text = pick (is_budget text) (Some (value_behind 0 text)) None
