-- The laws that the converter's passes rest on: lists of starts and gains, the old layout, and the search for a place.
-- Assumes nothing.
use Rattle.std.specs.Prelude.{Ok, Err, Option, Some, None, unwrap_or, IfSome, is_some, ◌==◌, cond, Result, ℕ}
use Rattle.std.specs.List.{position_from}
use mathlib.Core.Path.{◌≡◌, refl, sym, ◌∙◌, ap}
use mathlib.Core.Bool.{Bool, true, false, not}
use mathlib.Core.List.{List, [], ◌∷◌}
use mathlib.Core.Logic.{◌⊎◌, ⊎_elim}
use Prim.Native.Nat.{ℕ, suc, ◌+◌, ◌*◌, ◌-◌, ◌<◌, ◌≤◌}
use native.Mathlib.Nat.{le_of_suc-le-suc, eq-or-lt_of_le}
use native.Mathlib.Numerals.{add-one}
use native.Mathlib.Omega.{arith}
use lib.Dec.{ltb, eqb}
use lib.ListN.{length, get_or, set, take}
use lib.Seq.{get_or-set_same, get_or-set_other, length-take-le, get_or-take}
use borrow.Author.Tests.{lt-ltb, le-ltb, ne_eqb, eq-eqb, eqb-true, eqb-false}
use Rattle.mrc_compiler.specs.declared.encoder.EncodeError.{EncodeError}
use Rattle.mrc_compiler.specs.declared.encoder.InstructionData.{InstructionData}
use Rattle.mrc_compiler.specs.Choose.{pick, isnt}
use Rattle.encode_spec.specs.Answer.{Answer, bytes, refused, answer}
use Rattle.encode_spec.proofs.Accepted.{accepted_reads}
use Rattle.encoder.specs.Lengths as Lengths
use Rattle.show_file.specs.declared.LoadError.TheVariants as E
use Rattle.show_file.specs.Show.{insn_at, first_from}
use Rattle.show_file.proofs.Laws.{from_yes, from_end}
use Rattle.convert_spec.specs.Counts.{times, with_count_one, old_bytes, gained}
use Rattle.convert_spec.specs.OldStarts.{answer_at, length_of, is_refused, old_start, old_offset, old_answer, gain, first_copy}
use Rattle.convert_spec.specs.Converting.{first_refused}
use Rattle.convert_laws.specs.Passed.{Table}
use Rattle.convert_laws.proofs.Ranges.{seven}
use Rattle.convert_spec.specs.declared.Branch.{Branch}
use Rattle.convert_spec.specs.declared.Branch.TheVariants as B
use Rattle.convert_spec.specs.Targets.{is_branch, target_of, place_of}
use Rattle.convert_passes.specs.Passes.{laid_out, place}

-- ---- lists filled place by place
pub table_start : (f : ℕ → ℕ) (s : List ℕ) → Table f 0 s
table_start f s = record { at = λ k h. absurd (omega arith) }

pub table_next : (f : ℕ → ℕ) (k v : ℕ) (s : List ℕ) → Table f k s → k < length s → v ≡ f k → Table f (k + 1) (set s k v)
table_next f k v s t h e = record { at = λ j l. go j (eq-or-lt_of_le (le_of_suc-le-suc (rw (add-one k) at l))) }
  where
    go : (j : ℕ) → (j ≡ k) ⊎ (j < k) → get_or (set s k v) j 0 ≡ f j
    go j = ⊎_elim (λ q. rw q (get_or-set_same s k v 0 h ∙ e)) (λ l. get_or-set_other s k j v 0 (λ q. omega arith) ∙ t.at j l)

-- ---- the version
pub other_low : (b c : ℕ) → (b ≡ 1 → ⊥) → eqb (b + 256 * c) 1 ≡ false
other_low b c h = ne_eqb (b + 256 * c) 1 (λ e. h (omega arith))

pub high_only : (b c : ℕ) → b ≡ 1 → not (eqb c 0) ≡ isnt (eqb (b + 256 * c) 1)
high_only b c e = go (eqb c 0) refl
  where
    go : (i : Bool) → eqb c 0 ≡ i → not i ≡ isnt (eqb (b + 256 * c) 1)
    go true q = let z = eqb-true c 0 q in rw (eq-eqb (b + 256 * c) 1 (omega arith)) refl
    go false q = let z : c ≡ 0 → ⊥ = eqb-false c 0 q in rw (ne_eqb (b + 256 * c) 1 (λ d. z (omega arith))) refl

-- ---- an answer by its length
pub length_in : (a : Answer) (m : ℕ) → Lengths.length_of a ≡ Ok m → (length_of a ≡ m) × (is_refused a ≡ false)
length_in (bytes bs) m q = (cc, refl)
length_in (refused x) m q = let z : ◌≡◌ {A = ℕ} 0 1 = cc in absurd (omega arith)

pub refused_in : (a : Answer) (x : EncodeError) → Lengths.length_of a ≡ Err x → a ≡ refused x
refused_in (bytes bs) x q = let z : ◌≡◌ {A = ℕ} 0 1 = cc in absurd (omega arith)
refused_in (refused y) x q = cc

some_in : (insn : InstructionData) (off : ℕ) → off < 65536 → (a : Answer) → answer insn off ≡ a → is_refused a ≡ false → 1 ≤ length_of a
some_in insn off h (bytes bs) e t = (accepted_reads insn off h bs e).some
some_in insn off h (refused x) e t = let z : ◌≡◌ {A = ℕ} 0 1 = cc in absurd (omega arith)

-- ---- one turn of the old layout: record k at its old start
module _ (file : List ℕ) (origin k at : ℕ) (e : at ≡ old_start file origin k) (r : Result ℕ EncodeError) (q : r ≡ Lengths.length_of (answer_at file origin k at)) where
  its : r ≡ Lengths.length_of (old_answer file origin k)
  its = q ∙ rw e

  module _ (m : ℕ) (l : r ≡ Ok m) where
    taken : (length_of (old_answer file origin k) ≡ m) × (is_refused (old_answer file origin k) ≡ false)
    taken = length_in (old_answer file origin k) m (sym its ∙ l)

    pub lay_taken : is_refused (old_answer file origin k) ≡ false
    lay_taken = taken.1

    pub lay_short : m ≤ 7
    lay_short = rw (← taken.0) (seven (with_count_one (insn_at file k)) (old_offset file origin k) (omega arith))

    pub lay_some : 1 ≤ m
    lay_some = rw (← taken.0) (some_in (with_count_one (insn_at file k)) (old_offset file origin k) (omega arith) (old_answer file origin k) refl taken.1)

    pub lay_next : at + old_bytes (insn_at file k) m ≡ old_start file origin (k + 1)
    unfolding old_start
    lay_next = rw (add-one k, taken.0, e) refl

    pub gain_next : (g : ℕ) → g ≡ gain file origin k → g + gained (insn_at file k) m ≡ gain file origin (k + 1)
    unfolding gain
    gain_next g d = rw (add-one k, taken.0, d) refl

  pub lay_stop : (x : EncodeError) (n : ℕ) → r ≡ Err x → k < n
      → first_refused file origin n ≡ first_from (λ i. is_refused (old_answer file origin i)) (n - k) k → Err (E.Record k x) ≡ laid_out file origin n
  unfolding laid_out
  lay_stop x n l h f =
      let a : old_answer file origin k ≡ refused x = refused_in (old_answer file origin k) x (sym its ∙ l) in
      let w : k ≡ first_refused file origin n = from_yes (λ i. is_refused (old_answer file origin i)) n k h f (ap is_refused a) in
      rw (← w, lt-ltb k n h, a)

pub lay_all : (file : List ℕ) (origin n k : ℕ) → k ≤ n → n ≤ k → first_refused file origin n ≡ first_from (λ i. is_refused (old_answer file origin i)) (n - k) k → Ok tt ≡ laid_out file origin n
unfolding laid_out
lay_all file origin n k h l f =
    let w : n ≡ first_refused file origin n = from_end (λ i. is_refused (old_answer file origin i)) n k h l f in
    rw (← w, le-ltb n n (omega arith))

pub old_bytes_small : (insn : InstructionData) (m : ℕ) → old_bytes insn m ≤ m + 1
unfolding old_bytes
old_bytes_small insn m = go (ltb 1 (times insn))
  where
    go : (b : Bool) → m + pick b 1 0 ≤ m + 1
    go true = omega arith
    go false = omega arith

-- ---- the first place at an offset
place_from : (f p : ℕ → Bool) (s : List ℕ) (i : ℕ) → ((j : ℕ) → j < length s → f (i + j) ≡ p (get_or s j 0)) → unwrap_or (position_from p i s) (i + length s) ≡ first_from f (length s) i
place_from f p [] i h = omega arith
place_from f p (x ∷ s) i h =
    let z : i ≡ i + 0 = omega arith in
    let e : f i ≡ p x = ap f z ∙ h 0 (omega arith) in
    rw e (go (p x) (place_from f p s (i + 1) (λ j l. let y : i + 1 + j ≡ i + suc j = omega arith in ap f y ∙ h (suc j) (omega arith))))
  where
    go : (b : Bool) → unwrap_or (position_from p (i + 1) s) (i + 1 + length s) ≡ first_from f (length s) (i + 1)
        → unwrap_or (cond b (Some i) (position_from p (i + 1) s)) (i + suc (length s)) ≡ pick b i (first_from f (length s) (suc i))
    go true r = refl
    go false r = let y : i + suc (length s) ≡ i + 1 + length s = omega arith in let z : suc i ≡ i + 1 = omega arith in rw (y, z) r

place_below : (p : ℕ → Bool) (s : List ℕ) (i : ℕ) → IfSome (position_from p i s) (λ k. k < i + length s)
place_below p [] i = tt
place_below p (x ∷ s) i = go (p x) (place_below p s (i + 1))
  where
    go : (b : Bool) → IfSome (position_from p (i + 1) s) (λ k. k < i + 1 + length s) → IfSome (cond b (Some i) (position_from p (i + 1) s)) (λ k. k < i + suc (length s))
    go true r = omega arith
    go false r = let y : i + suc (length s) ≡ i + 1 + length s = omega arith in rw y r

-- among the first m of a list
module _ (s : List ℕ) (m target : ℕ) (h : m ≤ length s) where
  front : length (take m s) ≡ m
  front = length-take-le m s h

  place_found : unwrap_or (position_from (λ start. start == target) 0 (take m s)) m ≡ first_from (λ k. eqb (place s k) target) m 0
  place_found =
      let r = place_from (λ k. eqb (place s k) target) (λ start. start == target) (take m s) 0 (λ j l. let z : 0 + j ≡ j = omega arith in let q = get_or-take m s j 0 (rw front at l) in rw (z, q) refl) in
      let z : 0 + m ≡ m = omega arith in
      rw (front, z) at r

  pub place_there : IfSome (position_from (λ start. start == target) 0 (take m s)) (λ k. k < m)
  place_there = let z : 0 + m ≡ m = omega arith in rw (front, z) at (place_below (λ start. start == target) (take m s) 0)

pub place_is : (s : List ℕ) (n : ℕ) (insn : InstructionData) (target : ℕ) (r : Option ℕ) → n + 1 ≤ length s → target ≡ target_of insn → r ≡ position_from (λ start. start == target) 0 (take (n + 1) s)
    → unwrap_or r (n + 1) ≡ place_of (place s) n insn
place_is s n insn target r h t e = rw (e, t, add-one n) (place_found s (suc n) (target_of insn) (omega arith))

-- a place or none
pub none_past : (o : Option ℕ) (n p : ℕ) → unwrap_or o (n + 1) ≡ p → IfSome o (λ k. k < n + 1) → isnt (is_some o) ≡ ltb n p
none_past None n p e h = rw (← e) (sym (lt-ltb n (n + 1) (omega arith)))
none_past (Some k) n p e h = rw (← e) (sym (le-ltb n k (omega arith)))

pub some_place : (o : Option ℕ) (n p : ℕ) → unwrap_or o (n + 1) ≡ p → p ≤ n → o ≡ Some p
some_place None n p e h = absurd (omega arith)
some_place (Some k) n p e h = ap Some e

pub branch_some : (b : Option Branch) → is_some b ≡ is_branch b
branch_some None = refl
branch_some (Some B.Short) = refl
branch_some (Some B.Near) = refl

-- ---- copies counted
pub copies_next : (file : List ℕ) (k : ℕ) → first_copy file k + times (insn_at file k) ≡ first_copy file (k + 1)
unfolding first_copy
copies_next file k = rw (add-one k) refl
