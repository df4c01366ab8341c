-- Demand 3 of what list answers and leaves in the lent slice, by its contract alone.
-- Assumes nothing.
use Rattle.std.specs.Prelude.{Err, Ok}
use mathlib.Core.Path.{◌≡◌, refl, sym, ◌∙◌, ap, subst}
use Prim.Native.Nat.{ℕ, zero, suc, ◌+◌, ◌*◌, ◌-◌, ◌≤◌, ◌<◌}
use native.Mathlib.Omega.{arith}
use mathlib.Core.Bool.{Bool, true, false}
use mathlib.Core.List.{List, [], ◌∷◌, ◌++◌, append_assoc}
use lib.Dec.{leb}
use lib.ListN.{length, get_or, take, drop, replicate, length-append}
use borrow.Author.Tests.{le-leb}
use lib.Seq.{take-append_seam, take_at, drop_at, drop-drop}
use Rattle.mrc_compiler.specs.declared.encoder.EncodeError.{EncodeError}
use Rattle.mrc_compiler.specs.declared.encoder.EncodeError.TheVariants as E
use Rattle.mrc_compiler.specs.declared.encoder.InstructionData.{InstructionData}
use Rattle.mrc_compiler.specs.Choose.{pick}
use Rattle.x86.specs.Listing.{Among, here, later, Before}
use Rattle.x86.proofs.Among.{at_among, place}
use Rattle.encode_spec.specs.Meaning.{meaning}
use Rattle.encode_spec.specs.Answer.{Answer, bytes, refused, answer}
use Rattle.list_spec.specs.Entries.{entry, entries, listing}
use Rattle.list_spec.specs.Demand3.{Lists}
use Rattle.list_spec.proofs.Order.{entry_length}
use Rattle.list_spec.proofs.Exact.{listing_is}
use Rattle.list_spec.proofs.Accepted.{accepted_lists}
use Rattle.lister.specs.Listing.{listed, outcome, slice_after}
use Rattle.lister.specs.Demand3.{entry_at, Listed3, IsTheirNumber}

-- ---- entries one behind the other
-- each string of a list has at most seven bytes
abbrev Short : List (List ℕ) → Type 0
Short l = (s : List ℕ) → Among s l → length s ≤ 7

all_length : (l : List (List ℕ)) → Short l → length (entries l) ≡ 8 * length l
unfolding entries
all_length [] h = refl
all_length (s ∷ l) h =
    omega (arith, length-append (entry s) (entries l), entry_length s (h s here), all_length l (λ t a. h t (later a)))

entry_at_lem : (l : List (List ℕ)) (rest : List ℕ) (i : ℕ) → Short l → i < length l → entry_at i (entries l ++ rest) ≡ entry (get_or l i [])
unfolding entries
entry_at_lem [] rest i h k = absurd (omega arith)
entry_at_lem (s ∷ l) rest zero h k =
    ap (take 8) (append_assoc (entry s) (entries l) rest) ∙ take_at (entry s) (entries l ++ rest) 8 (entry_length s (h s here))
entry_at_lem (s ∷ l) rest (suc i) h k =
    let e : 8 * suc i ≡ 8 + 8 * i = omega arith in
    let d : drop (8 * suc i) ((entry s ++ entries l) ++ rest) ≡ drop (8 * i) (entries l ++ rest) =
    ap (λ (n : ℕ). drop n ((entry s ++ entries l) ++ rest)) e
    ∙ (sym (drop-drop (8 * i) 8 ((entry s ++ entries l) ++ rest))
    ∙ ap (drop (8 * i)) (ap (drop 8) (append_assoc (entry s) (entries l) rest) ∙ drop_at (entry s) (entries l ++ rest) 8 (entry_length s (h s here)))) in
    ap (take 8) d ∙ entry_at_lem l rest i (λ t a. h t (later a)) (omega arith)

-- an entry is of one string
same_string : (s t : List ℕ) → entry s ≡ entry t → s ≡ t
unfolding entry
same_string s t e =
    sym (take-append_seam s (replicate (7 - length s) 0))
    ∙ (ap (λ (l : List ℕ). take (get_or l 0 0) (drop 1 l)) e ∙ take-append_seam t (replicate (7 - length t) 0))

-- ---- the slice
module _ (insn : InstructionData) (off : ℕ) (bs before : List ℕ) (x : Lists insn off bs) where
  abbrev l : List (List ℕ)
  l = listing off (meaning insn)

  abbrev after : List ℕ
  after = entries l ++ drop (8 * length l) before

  short : Short l
  short s a = (x.exact.none_beside s a).2

  is_at : (i : ℕ) → i < length l → entry_at i after ≡ entry (get_or l i [])
  is_at i h = entry_at_lem l (drop (8 * length l) before) i short h

  stands : (s : List ℕ) → Among s l → (i : ℕ) × (i < length l) × (entry_at i after ≡ entry s)
  stands s a = let (i, h, e) = place s l a in (i, h, is_at i h ∙ ap entry e)

  string_at : (i : ℕ) (s : List ℕ) → i < length l → entry_at i after ≡ entry s → get_or l i [] ≡ s
  string_at i s h e = same_string (get_or l i []) s (sym (is_at i h) ∙ e)

  in_slice : Listed3 insn off (length l) bs before after
  in_slice =
      record {
        none_beside = λ s q (i, h, e). (x.exact.none_beside s (subst (λ (t : List ℕ). Among t l) (string_at i s h e) (at_among l i h))).3;
        none_missing = λ s q r. stands s (x.exact.none_missing s q.are_bytes q.some q.short r);
        counted = λ i h.
            let a = x.exact.none_beside (get_or l i []) (at_among l i h) in
            (get_or l i [], record { are_bytes = a.0; some = a.1; short = a.2 }, is_at i h);
        in_order = λ i j s t h k p q e d.
            subst (λ (u : List ℕ). Before u t) (string_at i s (omega arith) e)
            (subst (λ (u : List ℕ). Before (get_or l i []) u) (string_at j t k d) (x.exact.in_order i j h k));
        own = stands bs x.own;
        rest = drop_at (entries l) (drop (8 * length l) before) (8 * length l) (all_length l short);
        few = x.few;
      }

-- ---- what list answers
not_both : {n : ℕ} {e : EncodeError} → Err e ≡ Ok n → ⊥
not_both q = let z : ◌≡◌ {A = ℕ} 0 1 = cc in omega arith

module _ (insn : InstructionData) (off : ℕ) (s : List ℕ) where
  counted_by : off < 65536 → (a : Answer) → answer insn off ≡ a → (n : ℕ) → outcome a insn off s ≡ Ok n
      → (bs : List ℕ) × (answer insn off ≡ bytes bs) × Listed3 insn off n bs s (slice_after a insn off s)
  counted_by h (refused e) q n o = absurd (not_both o)
  counted_by h (bytes bs) q n o = go (leb 96 (length s)) o
    where
      go : (t : Bool) → pick t (Ok (length (listed insn off))) (Err (E.SliceTooShort insn.opers_span)) ≡ Ok n
          → (bs : List ℕ) × (answer insn off ≡ bytes bs) × Listed3 insn off n bs s (pick t (entries (listed insn off) ++ drop (8 * length (listed insn off)) s) s)
      go false o = absurd (not_both o)
      go true o =
          let e : n ≡ length (listed insn off) = cc in
          rw (e) (bs, q, in_slice insn off bs s (accepted_lists insn off h bs q))

  -- demand 3: where list answers a count, the encoder accepts the record, and the slice is as the demand says
  pub counted_lists : off < 65536 → (n : ℕ) → outcome (answer insn off) insn off s ≡ Ok n
      → (bs : List ℕ) × (answer insn off ≡ bytes bs) × Listed3 insn off n bs s (slice_after (answer insn off) insn off s)
  counted_lists h = counted_by h (answer insn off) refl

  number_by : off < 65536 → (a : Answer) (n : ℕ) → outcome a insn off s ≡ Ok n → IsTheirNumber insn off n
  number_by h (refused e) n o = absurd (not_both o)
  number_by h (bytes bs) n o = go (leb 96 (length s)) o
    where
      go : (t : Bool) → pick t (Ok (length (listed insn off))) (Err (E.SliceTooShort insn.opers_span)) ≡ Ok n → IsTheirNumber insn off n
      go false o = absurd (not_both o)
      go true o = (listed insn off, listing_is off (meaning insn) h, (cc))

  -- the count is the number of these strings
  pub count_is : off < 65536 → (n : ℕ) → outcome (answer insn off) insn off s ≡ Ok n → IsTheirNumber insn off n
  count_is h = number_by h (answer insn off)

  -- for every accepted record and every slice of at least 96 bytes it does
  pub accepted_counts : (bs : List ℕ) → answer insn off ≡ bytes bs → 96 ≤ length s
      → outcome (answer insn off) insn off s ≡ Ok (length (listed insn off))
  accepted_counts bs q h = rw (q, le-leb 96 (length s) h) refl

  unchanged : (a : Answer) (e : EncodeError) → outcome a insn off s ≡ Err e → slice_after a insn off s ≡ s
  unchanged (refused x) e o = refl
  unchanged (bytes bs) e o = go (leb 96 (length s)) o
    where
      go : (t : Bool) → pick t (Ok (length (listed insn off))) (Err (E.SliceTooShort insn.opers_span)) ≡ Err e
          → pick t (entries (listed insn off) ++ drop (8 * length (listed insn off)) s) s ≡ s
      go false o = refl
      go true o = let z : ◌≡◌ {A = ℕ} 0 1 = cc in absurd (omega arith)

  -- a refusal changes no byte
  pub refused_leaves : (e : EncodeError) → outcome (answer insn off) insn off s ≡ Err e → slice_after (answer insn off) insn off s ≡ s
  refused_leaves e = unchanged (answer insn off) e
