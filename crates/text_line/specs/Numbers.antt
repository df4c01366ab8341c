-- Numbers in text, in ASCII.
-- Definitions only.
use Rattle.std.specs.Prelude.{ℕ, ◌+◌, ◌/◌, ◌%◌, List, [], ◌∷◌, ◌++◌, ltb, leb, ℤ, pos, nat_abs}
use Rattle.std.specs.Int.Signed.{lt_z}
use Rattle.mrc_compiler.specs.Choose.{pick}

-- a hexadecimal digit, upper case: '0' and 'A' - 10 on
abbrev pub hex_digit : ℕ → ℕ
hex_digit d = pick (ltb d 10) (0x30 + d) (0x37 + d)

unfoldable pub hex_byte : ℕ → List ℕ
hex_byte b = hex_digit (b / 16) ∷ hex_digit (b % 16) ∷ []

unfoldable pub hex_word : ℕ → List ℕ
hex_word w = hex_byte (w / 256) ++ hex_byte (w % 256)

abbrev pub hex_bytes : List ℕ → List ℕ
hex_bytes [] = []
hex_bytes (b ∷ bs) = hex_byte b ++ hex_bytes bs

-- the digit of a place, ten or a power of it, where the number reaches that place
unfoldable pub digit_from : ℕ → ℕ → List ℕ
digit_from place n = pick (leb place n) ((0x30 + n / place % 10) ∷ []) []

-- a decimal number without leading zeros, below 100,000
unfoldable pub decimal : ℕ → List ℕ
decimal n = digit_from 10000 n ++ (digit_from 1000 n ++ (digit_from 100 n ++ (digit_from 10 n ++ ((0x30 + n % 10) ∷ []))))

abbrev pub blank : ℕ
blank = 0x20

abbrev pub line_feed : ℕ
line_feed = 0x0A

-- below ten thousand million
unfoldable pub long_decimal : ℕ → List ℕ
long_decimal n =
    digit_from 1000000000 n
    ++ (digit_from 100000000 n ++ (digit_from 10000000 n ++ (digit_from 1000000 n ++ (digit_from 100000 n ++ decimal n))))

-- a minus before what is below 0
unfoldable pub sign : ℤ → List ℕ
sign z = pick (lt_z z (pos 0)) (0x2D ∷ []) []

abbrev pub signed : ℤ → List ℕ
signed z = sign z ++ decimal (nat_abs z)

abbrev pub long_signed : ℤ → List ℕ
long_signed z = sign z ++ long_decimal (nat_abs z)
