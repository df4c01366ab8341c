-- What stands in the lent slice while the converted file is written.
-- Assumes nothing.
use mathlib.Core.Path.{◌≡◌, refl, sym, ◌∙◌, ap}
use mathlib.Core.List.{List, [], ◌∷◌, ◌++◌, append_assoc, append-nil}
use Prim.Native.Nat.{ℕ, suc, ◌+◌, ◌*◌, ◌-◌, ◌/◌, ◌%◌, ◌<◌, ◌≤◌}
use native.Mathlib.Numerals.{add-one}
use native.Mathlib.Omega.{arith}
use lib.ListN.{length, take, drop, set, length-drop, length-append, drop_of_length-le}
use lib.Seq.{length-take-le, drop-append_seam, drop-drop}
use borrow.Rule.Slice.PartMut.{put_mid}
use Rattle.base_values.proofs.Fronts.{Front, front_is, front_next, lent}
use Rattle.encode_spec.specs.Layout.{word_bytes}
use Rattle.show_file.specs.declared.Header.{Header}
use Rattle.show_file.specs.Show.{record_at, insn_at}
use Rattle.show_file.proofs.Laws.{handed_is}
use Rattle.convert_spec.specs.Counts.{times}
use Rattle.convert_spec.specs.OldStarts.{first_copy}
use Rattle.convert_spec.specs.Written.{new_record, copies, records, written}
use Rattle.convert_laws.specs.Passed.{Show1}
use Rattle.convert_laws.proofs.Written.{copies_next, copies_below, copies_length, new_length, records-length}

-- the part of a slice that a range names
pub part_length : (s : List ℕ) (from to : ℕ) → from ≤ to → to ≤ length s → length (take (to - from) (drop from s)) ≡ to - from
part_length s from to h l = length-take-le (to - from) (drop from s) (rw (length-drop from s) (omega arith))

-- record k of version 1
pub record_part : (file : List ℕ) (h : Header) → Show1 file h → (k : ℕ) → take (9 + 56 * k + 56 - (9 + 56 * k)) (drop (9 + 56 * k) file) ≡ record_at file k
record_part file h x k = handed_is file k 56 (9 + 56 * k) (sym x.each) refl

-- bytes put over a slice of their own length
pub put_whole : (bs s : List ℕ) → length s ≤ length bs → bs ++ drop (length bs) s ≡ bs
put_whole bs s h = rw (drop_of_length-le s {i = length bs} h) (append-nil bs)

-- two bytes written behind P
put_two : (P s : List ℕ) (a b : ℕ) → 2 ≤ length s → set (set (P ++ s) (length P) a) (suc (length P)) b ≡ P ++ (a ∷ b ∷ drop 2 s)
put_two [] [] a b h = absurd (omega arith)
put_two [] (x ∷ []) a b h = absurd (omega arith)
put_two [] (x ∷ y ∷ s) a b h = refl
put_two (p ∷ P) s a b h = ap (λ (l : List ℕ). p ∷ l) (put_two P s a b h)

-- what follows is the same in both slices
behind_same : (P A E : List ℕ) (m : ℕ) → E ≡ P ++ drop (length P) A → drop (length P + m) E ≡ drop (length P + m) A
behind_same P A E m e =
    let d : drop (length P) E ≡ drop (length P) A = ap (drop (length P)) e ∙ drop-append_seam P (drop (length P) A) in
    sym (drop-drop m (length P) E) ∙ (ap (drop m) d ∙ drop-drop m (length P) A)

front_own : (P A E : List ℕ) → E ≡ P ++ drop (length P) A → Front P E E
front_own P A E e =
    let d : drop (length P) E ≡ drop (length P) A = ap (drop (length P)) e ∙ drop-append_seam P (drop (length P) A) in
    record { is = e ∙ ap (λ (l : List ℕ). P ++ l) (sym d); same = refl }

front_of : (P Q A E s : List ℕ) (m : ℕ) → E ≡ P ++ drop (length P) A → length Q ≡ length P + m → Front Q E s → s ≡ Q ++ drop (length Q) A
front_of P Q A E s m e l f = f.is ∙ ap (λ (t : List ℕ). Q ++ t) (rw l (behind_same P A E m e))

-- ---- the file up to record k
module _ (file : List ℕ) (h : Header) where
  abbrev pub up_to : ℕ → List ℕ
  up_to k = take 7 file ++ (word_bytes (first_copy file h.count) ++ records file h.origin h.count k)

  pub up_to_next : (k : ℕ) → up_to (k + 1) ≡ up_to k ++ copies (times (insn_at file k)) (new_record file h.origin h.count k)
  unfolding records
  up_to_next k = rw (add-one k) (simp append_assoc)

  pub up_to_all : up_to h.count ≡ written file h
  unfolding written
  up_to_all = refl

  pub up_to_length : Show1 file h → (k : ℕ) → k ≤ h.count → length (up_to k) ≡ 9 + 56 * first_copy file k
  up_to_length x k l =
      let t = length-take-le 7 file (omega (arith, x.its_length)) in
      let r = records-length file h x k l in
      simp length-append (omega arith)

  -- one record more
  pub up_to_more : Show1 file h → (k : ℕ) → k < h.count → (s₀ s last : List ℕ) (at : ℕ) → Front (up_to k) s₀ s → at ≡ 9 + 56 * first_copy file k → 9 + 56 * first_copy file h.count ≤ length s₀
      → last ≡ copies (times (insn_at file k)) (new_record file h.origin h.count k) ++ drop (56 * times (insn_at file k)) (lent s at)
      → Front (up_to (k + 1)) s₀ (put_mid at (length s - at) s last)
  up_to_more x k l s₀ s last at f e r q =
      let B = copies (times (insn_at file k)) (new_record file h.origin h.count k) in
      let b : length B ≡ 56 * times (insn_at file k) = copies_length (times (insn_at file k)) (new_record file h.origin h.count k) (new_length file h x k l) in
      let u = up_to_length x k (omega arith) in
      let n = copies_next file k in
      let m = copies_below file (suc k) h.count l in
      rw (up_to_next k) (front_next (up_to k) B s₀ s last at f (omega arith) (omega arith) (q ∙ ap (λ (i : ℕ). B ++ drop i (lent s at)) (sym b)))

  -- ---- the header put over a slice that was A
  module _ (x : Show1 file h) (A X P : List ℕ) (c : ℕ) (e : c ≡ first_copy file h.count) (r : 9 + 56 * c ≤ length A) (p : P ≡ take 7 file) (q : X ≡ P ++ drop (length P) A) where
    abbrev E : List ℕ
    E = set (set X 7 (c % 256)) 8 (c / 256)

    none_yet : length (up_to 0) ≡ 9
    unfolding first_copy
    none_yet = up_to_length x 0 (omega arith)

    head_is : E ≡ up_to 0 ++ drop 9 A
    unfolding records
    head_is =
        let t : length (take 7 file) ≡ 7 = length-take-le 7 file (omega (arith, x.its_length)) in
        let w = rw t at (put_two (take 7 file) (drop 7 A) (c % 256) (c / 256) (rw (length-drop 7 A) (omega arith))) in
        rw (q, p, t, ← e) (w ∙ simp (append_assoc, drop-drop))

    begun_is : E ≡ up_to 0 ++ drop (length (up_to 0)) A
    begun_is = rw none_yet head_is

    pub begun : Front (up_to 0) E E
    begun = front_own (up_to 0) A E begun_is

    pub begun_length : length E ≡ length A
    begun_length = (front_is (up_to 0) A E (rw none_yet (omega arith)) begun_is).same

    pub ended : (s : List ℕ) (k : ℕ) → k ≡ h.count → Front (up_to k) E s → s ≡ written file h ++ drop (9 + 56 * c) A
    ended s k d f =
        let l : length (up_to k) ≡ 9 + 56 * c = rw (d, e) (up_to_length x h.count (omega arith)) in
        let z = none_yet in
        let w : s ≡ up_to k ++ drop (length (up_to k)) A = front_of (up_to 0) (up_to k) A E s (56 * c) begun_is (omega arith) f in
        w ∙ (ap (λ (i : ℕ). up_to k ++ drop i A) l ∙ ap (λ (t : List ℕ). t ++ drop (9 + 56 * c) A) (ap up_to d ∙ up_to_all))
