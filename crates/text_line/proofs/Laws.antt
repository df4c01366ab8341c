-- The laws of a line filled byte by byte, and how long numbers are in text.
-- Assumes nothing.
use mathlib.Core.Path.{◌≡◌, refl, sym, ◌∙◌}
use mathlib.Core.Bool.{Bool, true, false}
use mathlib.Core.List.{List, [], ◌∷◌, ◌++◌, append_assoc, append-nil}
use Prim.Native.Nat.{ℕ, ◌+◌, ◌*◌, ◌/◌, ◌%◌, ◌<◌, ◌≤◌}
use native.Mathlib.Numerals.{add-one}
use native.Mathlib.Omega.{arith}
use lib.Dec.{leb}
use lib.IntN.{ℤ, pos, nat_abs}
use lib.Signed.{lt_z}
use lib.ListN.{length, take, get_or, length-set, length-append}
use lib.Seq.{take-suc, take-suc-set}
use borrow.Author.Tests.{lt-ltb}
use Rattle.mrc_compiler.specs.Choose.{pick}
use Rattle.text_line.specs.declared.Line.{Line}
use Rattle.text_line.specs.Numbers.{hex_byte, hex_word, hex_bytes, digit_from, decimal, long_decimal, sign, signed, long_signed}
use Rattle.text_line.specs.Steps.{line_length, empty_line, pushed, appended}

-- ---- a line grows at its end
appended-append : (line : Line) (xs ys : List ℕ) → appended line (xs ++ ys) ≡ appended (appended line xs) ys
appended-append line [] ys = refl
appended-append line (x ∷ xs) ys = appended-append (pushed line x) xs ys

-- some bytes, then others
pub then : {next r : Line} (line : Line) (xs ys : List ℕ) → next ≡ appended line xs → r ≡ appended next ys → r ≡ appended line (xs ++ ys)
then line xs ys h q = rw (appended-append line xs ys, ← h) q

-- one byte, then others
pub byte : {next r : Line} (line : Line) (b : ℕ) (ys : List ℕ) → next ≡ pushed line b → r ≡ appended next ys → r ≡ appended line (b ∷ ys)
byte line b ys h q = rw (← h) q

-- one byte more of a text
pub text_more : (line so_far : Line) (t : List ℕ) (i : ℕ) → i < length t → so_far ≡ appended line (take i t)
    → pushed so_far (get_or t i 0) ≡ appended line (take (i + 1) t)
text_more line so_far t i h e =
    rw (add-one i, take-suc t i 0 h, appended-append line (take i t) (get_or t i 0 ∷ []), ← e) refl

hex_append : (xs ys : List ℕ) → hex_bytes (xs ++ ys) ≡ hex_bytes xs ++ hex_bytes ys
hex_append [] ys = refl
hex_append (x ∷ xs) ys = rw (hex_append xs ys) (sym (append_assoc (hex_byte x) (hex_bytes xs) (hex_bytes ys)))

-- one byte more of a run
pub run_more : {next : Line} (line so_far : Line) (bs : List ℕ) (i : ℕ) → i < length bs → so_far ≡ appended line (hex_bytes (take i bs))
    → next ≡ appended so_far (hex_byte (get_or bs i 0)) → next ≡ appended line (hex_bytes (take (i + 1) bs))
run_more line so_far bs i h e q =
    rw (add-one i, take-suc bs i 0 h, hex_append (take i bs) (get_or bs i 0 ∷ []), append-nil (hex_byte (get_or bs i 0)))
    (then line (hex_bytes (take i bs)) (hex_byte (get_or bs i 0)) e q)

-- ---- what a line holds
pub record Holds (line : Line) (bs : List ℕ) : Type 0 where
  pub shown : take line.len line.bytes ≡ bs
  pub count : line.len ≡ length bs
  pub whole : length line.bytes ≡ line_length

push_holds : (line : Line) (bs : List ℕ) (b : ℕ) → Holds line bs → length bs < line_length → Holds (pushed line b) (bs ++ (b ∷ []))
push_holds line bs b h less =
    let room : line.len < line_length = omega (arith, h.count) in
    rw (lt-ltb line.len line_length room)
    (record {
      shown = rw (add-one line.len, take-suc-set line.bytes line.len b (omega (arith, h.whole)), h.shown);
      count = omega (arith, h.count, length-append bs (b ∷ []));
      whole = length-set line.bytes line.len b ∙ h.whole;
    })

appended_holds : (line : Line) (bs cs : List ℕ) → Holds line bs → length bs + length cs ≤ line_length → Holds (appended line cs) (bs ++ cs)
appended_holds line bs [] h less = rw (append-nil bs) h
appended_holds line bs (c ∷ cs) h less =
    rw (← (append_assoc bs (c ∷ []) cs))
    (appended_holds (pushed line c) (bs ++ (c ∷ [])) cs (push_holds line bs c h (omega arith)) (omega (arith, length-append bs (c ∷ []))))

pub line_holds : (line : Line) (bs : List ℕ) → length bs ≤ line_length → line ≡ appended empty_line bs → Holds line bs
line_holds line bs less e = rw e (appended_holds empty_line [] bs (record { shown = refl; count = refl; whole = refl }) (omega arith))

-- ---- how long numbers are
pub hex_byte_length : (b : ℕ) → length (hex_byte b) ≡ 2
unfolding hex_byte
hex_byte_length b = refl

pub hex_word_length : (w : ℕ) → length (hex_word w) ≡ 4
unfolding hex_word
hex_word_length w = length-append (hex_byte (w / 256)) (hex_byte (w % 256)) ∙ rw (hex_byte_length (w / 256), hex_byte_length (w % 256)) refl

pub hex_bytes_length : (bs : List ℕ) → length (hex_bytes bs) ≡ 2 * length bs
hex_bytes_length [] = refl
hex_bytes_length (b ∷ bs) = rw (length-append (hex_byte b) (hex_bytes bs), hex_byte_length b, hex_bytes_length bs) (omega arith)

digit_length : (place n : ℕ) → length (digit_from place n) ≤ 1
unfolding digit_from
digit_length place n = go (leb place n)
  where
    go : (t : Bool) → length (pick t ((0x30 + n / place % 10) ∷ []) []) ≤ 1
    go true = omega arith
    go false = omega arith

pub decimal-length : (n : ℕ) → length (decimal n) ≤ 5
unfolding decimal
decimal-length n =
    let a = digit_length 10000 n in
    let b = digit_length 1000 n in
    let c = digit_length 100 n in
    let d = digit_length 10 n in
    rw (length-append (digit_from 10000 n), length-append (digit_from 1000 n), length-append (digit_from 100 n), length-append (digit_from 10 n))
    (omega arith)

pub long_length : (n : ℕ) → length (long_decimal n) ≤ 10
unfolding long_decimal
long_length n =
    let a = digit_length 1000000000 n in
    let b = digit_length 100000000 n in
    let c = digit_length 10000000 n in
    let d = digit_length 1000000 n in
    let e = digit_length 100000 n in
    let f = decimal-length n in
    rw (length-append (digit_from 1000000000 n), length-append (digit_from 100000000 n), length-append (digit_from 10000000 n), length-append (digit_from 1000000 n), length-append (digit_from 100000 n))
    (omega arith)

sign-length : (z : ℤ) → length (sign z) ≤ 1
unfolding sign
sign-length z = go (lt_z z (pos 0))
  where
    go : (t : Bool) → length {A = ℕ} (pick t (0x2D ∷ []) []) ≤ 1
    go true = omega arith
    go false = omega arith

pub signed-length : (z : ℤ) → length (signed z) ≤ 6
signed-length z =
    let s = sign-length z in
    let d = decimal-length (nat_abs z) in
    rw (length-append (sign z) (decimal (nat_abs z))) (omega arith)

pub long_signed_length : (z : ℤ) → length (long_signed z) ≤ 11
long_signed_length z =
    let s = sign-length z in
    let d = long_length (nat_abs z) in
    rw (length-append (sign z) (long_decimal (nat_abs z))) (omega arith)
