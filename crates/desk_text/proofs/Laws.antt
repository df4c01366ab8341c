-- The laws of the text of a run: the pairs one by one, and how long its lines are.
-- Assumes nothing.
use mathlib.Core.Path.{◌≡◌, refl, sym, ap, ◌∙◌}
use mathlib.Core.List.{List, [], ◌∷◌, ◌++◌, append_assoc, append-nil}
use Prim.Native.Nat.{ℕ, ◌+◌, ◌*◌, ◌-◌, ◌<◌, ◌≤◌}
use native.Mathlib.Omega.{arith}
use lib.ListN.{length, take, drop, get_or, length-append}
use lib.Seq.{length-take-le}
use borrow.Rule.Slice.PartMut.{put_mid}
use Rattle.base_values.proofs.Fronts.{Front, front_start, front_next, lent}
use Rattle.text_line.specs.declared.Line.{Line}
use Rattle.text_line.specs.Numbers.{line_feed, hex_byte, decimal, long_decimal}
use Rattle.text_line.specs.Steps.{empty_line, appended}
use Rattle.text_line.proofs.Laws.{Holds, line_holds, hex_byte_length, decimal-length, long_length}
use Rattle.desk_text.specs.Lines.{pair_line, pairs_text, halted_line, refused_line}

-- ---- the pairs, two bytes at a time
pairs_first : (x t : List ℕ) → length x ≡ 2 → pairs_text (x ++ t) ≡ pair_line (get_or x 0 0) (get_or x 1 0) ++ pairs_text t
unfolding pairs_text
pairs_first [] t h = absurd (omega arith)
pairs_first (p ∷ []) t h = absurd (omega arith)
pairs_first (p ∷ v ∷ []) t h = refl
pairs_first (p ∷ v ∷ y ∷ x) t h = absurd (omega arith)

-- a byte alone has no line
pairs_end : (t : List ℕ) → length t < 2 → pairs_text t ≡ []
unfolding pairs_text
pairs_end [] h = refl
pairs_end (p ∷ []) h = refl
pairs_end (p ∷ v ∷ t) h = absurd (omega arith)

-- ---- lengths
pub pair_length : (p v : ℕ) → length (pair_line p v) ≡ 6
pair_length p v = rw (length-append (hex_byte p), length-append (hex_byte v), hex_byte_length p, hex_byte_length v) refl

pub pairs_length : (l : List ℕ) → length (pairs_text l) ≤ 3 * length l
unfolding pairs_text
pairs_length [] = omega arith
pairs_length (p ∷ []) = omega arith
pairs_length (p ∷ v ∷ l) = let h = pairs_length l in rw (length-append (pair_line p v) (pairs_text l), pair_length p v) (omega arith)

pub pairs_short : (log : List ℕ) (i : ℕ) → i ≤ length log → length (pairs_text (take i log)) ≤ 3 * i
pairs_short log i h = let l = pairs_length (take i log) in let e = length-take-le i log h in omega arith

pub halted_length : (n : ℕ) → length (halted_line n) ≤ 18
halted_length n = let d = long_length n in rw (length-append (long_decimal n) (line_feed ∷ [])) (omega arith)

pub refused_length : (n : ℕ) → length (refused_line n) ≤ 14
refused_length n = let d = decimal-length n in rw (length-append (decimal n) (line_feed ∷ [])) (omega arith)

-- ---- the text of a log at the front of a slice, but for the bytes that are still to be told
pub record Telling (log out₀ rest : List ℕ) (end : ℕ) (out : List ℕ) : Type 0 where
  pub part : List ℕ
  pub long : end ≡ length part
  pub front : Front part out₀ out
  pub whole : pairs_text log ≡ part ++ pairs_text rest

pub telling_start : (log out₀ : List ℕ) → Telling log out₀ log 0 out₀
telling_start log out₀ = record { part = []; long = refl; front = front_start out₀; whole = refl }

module _ (log out₀ rest : List ℕ) (end : ℕ) (out : List ℕ) (f : Telling log out₀ rest end out) where
  module _ (x t : List ℕ) (parts : rest ≡ x ++ t) (two : length x ≡ 2) where
    abbrev line : List ℕ
    line = pair_line (get_or x 0 0) (get_or x 1 0)

    next_whole : pairs_text log ≡ f.part ++ (line ++ pairs_text t)
    next_whole = f.whole ∙ rw (parts, pairs_first x t two) refl

    pub six_more : end + 6 ≤ 3 * length log
    six_more =
        let e = f.long in
        let a = pairs_length log in
        let b : length (pairs_text log) ≡ length f.part + (length line + length (pairs_text t)) =
        rw next_whole (length-append f.part (line ++ pairs_text t) ∙ ap (λ (i : ℕ). length f.part + i) (length-append line (pairs_text t))) in
        let d = pair_length (get_or x 0 0) (get_or x 1 0) in
        omega arith

    pub telling_next : 3 * length log ≤ length out₀ → (m : ℕ) → m ≡ length line → (last : List ℕ) → last ≡ line ++ drop (length line) (lent out end)
        → Telling log out₀ t (end + m) (put_mid end (length out - end) out last)
    telling_next room m em last el =
        let e = f.long in
        let n = six_more in
        let d = pair_length (get_or x 0 0) (get_or x 1 0) in
        record {
          part = f.part ++ line;
          long = rw (length-append f.part line, ← e, em) refl;
          front = front_next f.part line out₀ out last end f.front e (omega arith) el;
          whole = next_whole ∙ sym (append_assoc f.part line (pairs_text t));
        }

  pub told : length rest < 2 → (end ≡ length (pairs_text log)) × (out ≡ pairs_text log ++ drop (length (pairs_text log)) out₀)
  told h =
      let w : pairs_text log ≡ f.part = f.whole ∙ rw (pairs_end rest h) (append-nil f.part) in
      rw w (f.long, f.front.is)

-- ---- what a line holds
pub pair_holds : (p v : ℕ) (line : Line) → line ≡ appended empty_line (pair_line p v) → Holds line (pair_line p v)
pair_holds p v line e = let l = pair_length p v in line_holds line (pair_line p v) (omega arith) e

pub halted_holds : (n : ℕ) (line : Line) → line ≡ appended empty_line (halted_line n) → Holds line (halted_line n)
halted_holds n line e = let l = halted_length n in line_holds line (halted_line n) (omega arith) e

pub refused_holds : (n : ℕ) (line : Line) → line ≡ appended empty_line (refused_line n) → Holds line (refused_line n)
refused_holds n line e = let l = refused_length n in line_holds line (refused_line n) (omega arith) e
