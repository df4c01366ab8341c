-- The laws of the short strings: what the reader's answer says, and what one string more adds to the list and to its lines.
-- Assumes nothing.
use Rattle.std.specs.Prelude.{Ok, Err}
use mathlib.Core.Path.{◌≡◌, refl, sym, ◌∙◌}
use mathlib.Core.Bool.{Bool, true, false}
use mathlib.Core.List.{List, [], ◌∷◌, ◌++◌, append_assoc, append-nil}
use Prim.Native.Nat.{ℕ, zero, suc, ◌+◌, ◌-◌, ◌/◌, ◌%◌, ◌<◌, ◌≤◌}
use native.Mathlib.Numerals.{add-one}
use native.Mathlib.Omega.{arith}
use lib.Dec.{ltb}
use lib.ListN.{length, length-append}
use borrow.Author.Tests.{lt-ltb, le-ltb}
use Rattle.mrc_compiler.specs.Choose.{pick}
use Rattle.x86.specs.Reading.{Read, reads}
use Rattle.x86_forms.specs.declared.FormName.{FormName}
use Rattle.reader.specs.Answer.{with_form, form_of, decoded}
use Rattle.text_line.specs.declared.Line.{Line}
use Rattle.text_line.specs.Numbers.{line_feed, hex_bytes, decimal}
use Rattle.text_line.specs.Steps.{empty_line, appended}
use Rattle.text_line.proofs.Laws.{Holds, line_holds, hex_bytes_length, decimal-length}
use Rattle.short_list.specs.Short.{string_at, whole_by, reads_whole, short_of}
use Rattle.short_list.specs.Text.{line_of, lines_of, count_line}
use Rattle.short_list.specs.Steps.{whole_in}

-- ---- whole by the reader's answer
with_form_lem : (r : Read) (f : FormName) (l : ℕ) → whole_in (with_form r f) l ≡ whole_by r l
with_form_lem (Ok (m, n)) f l = refl
with_form_lem (Err e) f l = refl

pub whole_is : (s : List ℕ) → whole_in (decoded 0 s) (length s) ≡ reads_whole s
unfolding decoded reads_whole
whole_is s = with_form_lem (reads 0 s) (form_of s) (length s)

-- ---- one string more
pub none_yet : short_of 0 ≡ []
unfolding short_of
none_yet = refl

pub next : (k : ℕ) → short_of (k + 1) ≡ short_of k ++ pick (reads_whole (string_at k)) (string_at k ∷ []) []
unfolding short_of
next k = rw (add-one k) refl

pub lines_append : (l m : List (List ℕ)) → lines_of (l ++ m) ≡ lines_of l ++ lines_of m
lines_append [] m = refl
lines_append (s ∷ l) m = rw (lines_append l m) (sym (append_assoc (line_of s) (lines_of l) (lines_of m)))

pub lines_next : (k : ℕ) (t : Bool) → t ≡ reads_whole (string_at k) → lines_of (short_of (k + 1)) ≡ lines_of (short_of k) ++ pick t (line_of (string_at k)) []
lines_next k t e = rw (next k, ← e) (lines_append (short_of k) (pick t (string_at k ∷ []) []) ∙ go t)
  where
    go : (t : Bool) → lines_of (short_of k) ++ lines_of (pick t (string_at k ∷ []) []) ≡ lines_of (short_of k) ++ pick t (line_of (string_at k)) []
    go true = rw (append-nil (line_of (string_at k))) refl
    go false = refl

pub count_next : (k : ℕ) (t : Bool) → t ≡ reads_whole (string_at k) → length (short_of (k + 1)) ≡ length (short_of k) + pick t 1 0
count_next k t e = rw (next k, ← e) (length-append (short_of k) (pick t (string_at k ∷ []) []) ∙ go t)
  where
    go : (t : Bool) → length (short_of k) + length (pick t (string_at k ∷ []) []) ≡ length (short_of k) + pick t 1 0
    go true = refl
    go false = refl

-- ---- more strings stand behind those that are there
pub record Grown (m n : ℕ) : Type 0 where
  pub behind : List (List ℕ)
  pub is : short_of n ≡ short_of m ++ behind

grows : (m j : ℕ) → Grown m (m + j)
grows m zero = let e : m + 0 ≡ m = omega arith in rw e (record { behind = []; is = sym (append-nil (short_of m)) })
grows m (suc j) =
    let g = grows m j in
    let more = pick (reads_whole (string_at (m + j))) (string_at (m + j) ∷ []) [] in
    let e : m + suc j ≡ (m + j) + 1 = omega arith in
    record { behind = g.behind ++ more; is = rw (e, next (m + j), g.is) (append_assoc (short_of m) g.behind more) }

pub grown : (m n : ℕ) → m ≤ n → Grown m n
grown m n h = let e : m + (n - m) ≡ n = omega arith in rw e at (grows m (n - m))

lines_within : (m n : ℕ) → m ≤ n → length (lines_of (short_of m)) ≤ length (lines_of (short_of n))
lines_within m n h =
    let g = grown m n h in
    rw (g.is, lines_append (short_of m) g.behind, length-append (lines_of (short_of m)) (lines_of g.behind)) (omega arith)

count_within : (m n : ℕ) → m ≤ n → length (short_of m) ≤ length (short_of n)
count_within m n h = let g = grown m n h in rw (g.is, length-append (short_of m) g.behind) (omega arith)

-- so the first k strings and one more fit where all do
pub lines_fit : (k n : ℕ) (t : Bool) → t ≡ reads_whole (string_at k) → k < n → length (lines_of (short_of k)) + length (pick t (line_of (string_at k)) []) ≤ length (lines_of (short_of n))
lines_fit k n t e h =
    let w = lines_within (k + 1) n (omega arith) in
    let l : length (lines_of (short_of (k + 1))) ≡ length (lines_of (short_of k)) + length (pick t (line_of (string_at k)) []) =
    rw (lines_next k t e) (length-append (lines_of (short_of k)) (pick t (line_of (string_at k)) [])) in
    omega arith

pub count_fits : (k n : ℕ) (t : Bool) → t ≡ reads_whole (string_at k) → k < n → length (short_of k) + pick t 1 0 ≤ length (short_of n)
count_fits k n t e h =
    let w = count_within (k + 1) n (omega arith) in
    let c = count_next k t e in
    omega arith

-- ---- the length of a line
pub line_of_one : (k : ℕ) → k < 256 → length (line_of (string_at k)) ≡ 3
line_of_one k h = rw (lt-ltb k 256 h, length-append (hex_bytes (k ∷ [])) (line_feed ∷ []), hex_bytes_length (k ∷ [])) refl

pub line_of_two : (k : ℕ) → 256 ≤ k → length (line_of (string_at k)) ≡ 5
line_of_two k h =
    let s = (k - 256) / 256 ∷ (k - 256) % 256 ∷ [] in
    rw (le-ltb k 256 h, length-append (hex_bytes s) (line_feed ∷ []), hex_bytes_length s) refl

pub line_length : (k : ℕ) → length (line_of (string_at k)) ≤ 5
line_length k = let s = string_length k in rw (length-append (hex_bytes (string_at k)) (line_feed ∷ []), hex_bytes_length (string_at k)) (omega arith)
  where
    string_length : (k : ℕ) → length (string_at k) ≤ 2
    string_length k = go (ltb k 256)
      where
        go : (t : Bool) → length (pick t (k ∷ []) ((k - 256) / 256 ∷ (k - 256) % 256 ∷ [])) ≤ 2
        go true = omega arith
        go false = omega arith

pub count_length : (n : ℕ) → length (count_line n) ≤ 6
count_length n = let d = decimal-length n in rw (length-append (decimal n) (line_feed ∷ [])) (omega arith)

-- ---- what a line holds
pub string_holds : (k : ℕ) (line : Line) → line ≡ appended empty_line (line_of (string_at k)) → Holds line (line_of (string_at k))
string_holds k line e = let l = line_length k in line_holds line (line_of (string_at k)) (omega arith) e

pub count_holds : (n : ℕ) (line : Line) → line ≡ appended empty_line (count_line n) → Holds line (count_line n)
count_holds n line e = let l = count_length n in line_holds line (count_line n) (omega arith) e
