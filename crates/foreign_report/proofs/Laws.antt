-- Laws of the report's bytes.
-- Assumes nothing.
use mathlib.Core.Path.{◌≡◌, refl, sym, ap, ◌∙◌}
use mathlib.Core.List.{List, [], ◌∷◌, ◌++◌}
use Prim.Native.Nat.{ℕ, suc, ◌+◌, ◌≤◌}
use native.Mathlib.Omega.{arith}
use lib.ListN.{length, take, drop, set}
use Rattle.std.proofs.Common.{append_assoc}
use lib.Seq.{sets, sets-eq, drop-drop}
use borrow.Rule.Slice.PartMut.{put_mid}
use Rattle.foreign_report.specs.declared.Response.{Response}
use Rattle.foreign_report.specs.Crossing.{u32_bytes, bits, three_bytes, report_after}
use borrow.Author.Tests.{le-leb}

-- ---- bytes one behind the other
part_put : (s bs : List ℕ) (at k : ℕ) → k ≡ length bs → at + length bs ≤ length s → put_mid at k s bs ≡ sets s at bs
part_put s bs at k f h = rw (f, sets-eq bs s at h, drop-drop (length bs) at s) (sym (append_assoc (take at s) bs (drop (at + length bs) s)))

pub word_put : (s bs : List ℕ) (at k n : ℕ) → k ≡ 4 → at + 4 ≤ length s → bs ≡ u32_bytes n → put_mid at k s bs ≡ sets s at (u32_bytes n)
unfolding u32_bytes
word_put s bs at k n f h e =
    let l : length bs ≡ 4 = ap (λ xs. length xs) e in
    part_put s bs at k (f ∙ sym l) (omega (arith, l, h)) ∙ ap (λ xs. sets s at xs) e

pub sets-sets : (s : List ℕ) (at next : ℕ) (xs ys : List ℕ) → next ≡ at + length xs → sets (sets s at xs) next ys ≡ sets s at (xs ++ ys)
sets-sets s at next [] ys e =
    let f : next ≡ at = omega arith in
    rw f
sets-sets s at next (x ∷ xs) ys e = sets-sets (set s at x) (suc at) next xs ys (omega arith)

-- what put_u32 leaves, three times
pub three : (s l m n : List ℕ) (at a b c : ℕ) → l ≡ sets s at (u32_bytes a) → m ≡ sets l (at + 4) (u32_bytes b) → n ≡ sets m (at + 8) (u32_bytes c)
    → n ≡ sets s at (three_bytes a b c)
unfolding u32_bytes
three s l m n at a b c d e f =
    rw (f, e, d, sets-sets s at (at + 4) (u32_bytes a) (u32_bytes b) refl, sets-sets s at (at + 8) (u32_bytes a ++ u32_bytes b) (u32_bytes c) refl)

-- what put_three leaves, twice
pub six : (a b c d e f : ℕ) (s l m : List ℕ) → 24 ≤ length s → l ≡ sets s 0 (three_bytes a b c) → m ≡ sets l 12 (three_bytes d e f)
    → m ≡ (three_bytes a b c ++ three_bytes d e f) ++ drop 24 s
unfolding u32_bytes
six a b c d e f s l m h p q = rw (q, p) (sets-eq (three_bytes a b c ++ three_bytes d e f) s 0 h)

-- and put_u32 behind them
seven : (a b c d e f g : ℕ) (s l m n : List ℕ) → 28 ≤ length s → l ≡ sets s 0 (three_bytes a b c) → m ≡ sets l 12 (three_bytes d e f) → n ≡ sets m 24 (u32_bytes g)
    → n ≡ (three_bytes a b c ++ (three_bytes d e f ++ u32_bytes g)) ++ drop 28 s
unfolding u32_bytes
seven a b c d e f g s l m n h p q r = rw (r, q, p) (sets-eq (three_bytes a b c ++ (three_bytes d e f ++ u32_bytes g)) s 0 h)

pub reported : (t : Response) (s l m n : List ℕ) → 28 ≤ length s → l ≡ sets s 0 (three_bytes t.length t.span.start t.span.end)
    → m ≡ sets l 12 (three_bytes (bits t.value) (bits t.low) (bits t.high)) → n ≡ sets m 24 (u32_bytes t.«record»)
    → n ≡ report_after t s
reported t s l m n h d e f =
    rw (le-leb 28 (length s) h)
    (seven t.length t.span.start t.span.end (bits t.value) (bits t.low) (bits t.high) t.«record» s l m n h d e f)
