-- How many short strings there are, and how long their text is, beside what ndisasm reads (ByNdisasm): computed for each first byte, whose forms are searched once.
-- Assumes nothing.
use mathlib.Core.Path.{◌≡◌, refl, ◌∙◌}
use mathlib.Core.Bool.{Bool, true, false}
use mathlib.Core.List.{List, [], ◌∷◌, map}
use Prim.Native.Nat.{ℕ, zero, suc, ◌+◌, ◌*◌, ◌-◌, ◌/◌, ◌%◌, ◌<◌, ◌≤◌}
use native.Mathlib.Numerals.{add-one}
use native.Mathlib.Omega.{arith}
use lib.Dec.{T, eqb}
use lib.ListN.{length, get_or, length-append}
use borrow.Author.Tests.{le-ltb, eqb-true}
use Rattle.mrc_compiler.specs.Choose.{pick}
use Rattle.mrc_compiler.specs.Operations.{number_of, is_string}
use Rattle.x86.specs.Forms.{Form, forms}
use Rattle.x86.specs.Reading.{starting_with, read_form, read_behind, read_opcode, prefix, read_plain, is_repeat, repeats, behind_repeat, reads}
use Rattle.x86.proofs.Tests.{is_true, up_to, up_to_at}
use Rattle.text_line.specs.Numbers.{digit_from, decimal}
use Rattle.short_list.specs.Short.{string_at, whole_by, reads_whole, short_of, short_strings}
use Rattle.short_list.specs.Text.{line_of, lines_of, count_line, short_text}
use Rattle.short_list.proofs.Laws.{none_yet, lines_next, count_next, line_of_one, line_of_two}
use Rattle.short_list.proofs.ByNdisasm.{ones, twos}

-- ---- sums
-- how many of the numbers below n pass a test
unfoldable pub counted : (ℕ → Bool) → ℕ → ℕ
counted q zero = 0
counted q (suc n) = counted q n + pick (q n) 1 0

counted_same : (p q : ℕ → Bool) → ((x : ℕ) → p x ≡ q x) → (n : ℕ) → counted p n ≡ counted q n
unfolding counted
counted_same p q h zero = refl
counted_same p q h (suc n) = rw (counted_same p q h n, h n) refl

-- the first n numbers of a list
unfoldable pub summed : List ℕ → ℕ → ℕ
summed l zero = 0
summed l (suc n) = summed l n + get_or l n 0

-- ---- the strings of one byte
pub of_one : short_of 256 ≡ map (λ b. b ∷ []) ones
unfolding short_of reads_whole reads read_plain repeats is_repeat prefix read_form starting_with forms is_string number_of
of_one = refl

pub how_many_of_one : length (short_of 256) ≡ 89
how_many_of_one = rw of_one refl

-- ---- the strings of two bytes that begin with c, by the forms fs of c
abbrev whole_with : ℕ → List Form → ℕ → Bool
whole_with c fs x =
    whole_by
    (pick (repeats (c ∷ x ∷ [])) (behind_repeat c (read_plain 0 (x ∷ []))) (pick (prefix c) (read_opcode 0 c (x ∷ [])) (read_behind 0 0 c fs (x ∷ []))))
    2

whole_with_lem : (c x : ℕ) → reads_whole (c ∷ x ∷ []) ≡ whole_with c (starting_with c) x
unfolding reads_whole reads read_plain
whole_with_lem c x = refl

abbrev row_ok : ℕ → List Form → Bool
row_ok c fs = eqb (counted (whole_with c fs) 256) (get_or twos c 0)

rows_ok : T (up_to 256 (λ c. row_ok c (starting_with c)))
unfolding counted read_plain repeats is_repeat prefix read_form starting_with forms is_string number_of
rows_ok = tt

row : (c : ℕ) → c < 256 → counted (λ x. reads_whole (c ∷ x ∷ [])) 256 ≡ get_or twos c 0
row c h =
    let e = eqb-true _ _ (is_true (row_ok c (starting_with c)) (up_to_at 256 (λ c. row_ok c (starting_with c)) rows_ok c h)) in
    counted_same (λ x. reads_whole (c ∷ x ∷ [])) (whole_with c (starting_with c)) (whole_with_lem c) 256 ∙ e

-- ---- how many stand before a string of two bytes
pub two_at : (c x : ℕ) → x < 256 → string_at ((256 + 256 * c) + x) ≡ c ∷ x ∷ []
two_at c x h =
    let k = (256 + 256 * c) + x in
    let q : (k - 256) / 256 ≡ c = omega arith in
    let r : (k - 256) % 256 ≡ x = omega arith in
    rw (le-ltb k 256 (omega arith), q, r) refl

in_row : (c x : ℕ) → x ≤ 256 → length (short_of ((256 + 256 * c) + x)) ≡ length (short_of (256 + 256 * c)) + counted (λ x. reads_whole (c ∷ x ∷ [])) x
unfolding counted
in_row c zero h = let e : (256 + 256 * c) + 0 ≡ 256 + 256 * c = omega arith in rw e (omega arith)
in_row c (suc x) h =
    let k = (256 + 256 * c) + x in
    let e : (256 + 256 * c) + suc x ≡ k + 1 = omega arith in
    let i = in_row c x (omega arith) in
    let s = two_at c x (omega arith) in
    let n = count_next k (reads_whole (string_at k)) refl in
    rw (e, n, i, s) (omega arith)

before_row : (c : ℕ) → c ≤ 256 → length (short_of (256 + 256 * c)) ≡ length (short_of 256) + summed twos c
unfolding summed
before_row zero h = omega arith
before_row (suc c) h =
    let e : 256 + 256 * suc c ≡ (256 + 256 * c) + 256 = omega arith in
    let i = before_row c (omega arith) in
    let j = in_row c 256 (omega arith) in
    let r = row c (omega arith) in
    rw (e, j, i, r) (omega arith)

pub before_string : (c x : ℕ) → c < 256 → x ≤ 256 → length (short_of ((256 + 256 * c) + x)) ≡ 89 + summed twos c + counted (λ x. reads_whole (c ∷ x ∷ [])) x
before_string c x h l = rw (in_row c x l, before_row c (omega arith), how_many_of_one) refl

-- ---- all of them
pub count_is : length short_strings ≡ 16923
unfolding summed
count_is = before_row 256 (omega arith) ∙ rw how_many_of_one refl

-- ---- the length of their lines
with_line : (k n : ℕ) → length (line_of (string_at k)) ≡ n
    → length (lines_of (short_of (k + 1))) ≡ length (lines_of (short_of k)) + n * pick (reads_whole (string_at k)) 1 0
with_line k n e =
    rw (lines_next k (reads_whole (string_at k)) refl, length-append (lines_of (short_of k)) (pick (reads_whole (string_at k)) (line_of (string_at k)) []))
    (go (reads_whole (string_at k)))
  where
    go : (t : Bool) → length (lines_of (short_of k)) + length (pick t (line_of (string_at k)) []) ≡ length (lines_of (short_of k)) + n * pick t 1 0
    go true = rw e (omega arith)
    go false = omega arith

lines_of_ones : (k : ℕ) → k ≤ 256 → length (lines_of (short_of k)) ≡ 3 * length (short_of k)
lines_of_ones zero h = rw none_yet refl
lines_of_ones (suc k) h =
    let i = lines_of_ones k (omega arith) in
    let c = count_next k (reads_whole (string_at k)) refl in
    let l = with_line k 3 (line_of_one k (omega arith)) in
    rw (← (add-one k), l, c, i) (omega arith)

lines_of_twos : (j : ℕ) → length (lines_of (short_of (256 + j))) + 2 * length (short_of 256) ≡ 5 * length (short_of (256 + j))
lines_of_twos zero = rw (lines_of_ones 256 (omega arith)) (omega arith)
lines_of_twos (suc j) =
    let i = lines_of_twos j in
    let e : 256 + suc j ≡ (256 + j) + 1 = omega arith in
    let c = count_next (256 + j) (reads_whole (string_at (256 + j))) refl in
    let l = with_line (256 + j) 5 (line_of_two (256 + j) (omega arith)) in
    rw (e, l, c) (omega arith)

pub lines_are : length (lines_of short_strings) ≡ 84437
lines_are =
    let o = how_many_of_one in
    let c = count_is in
    let l = lines_of_twos 65536 in
    omega arith

pub text_is : length short_text ≡ 84443
unfolding short_text decimal digit_from
text_is = rw (length-append (lines_of short_strings) (count_line (length short_strings)), count_is, lines_are) refl
