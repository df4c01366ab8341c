-- What encode_shortest writes for an accepted record is the shortest string of its instruction, and of the shortest ones the lowest (document 02, No. 8); records of the same
-- instruction get the same.
-- Assumes nothing.
use mathlib.Core.Path.{◌≡◌, refl, sym, ◌∙◌, ap, subst}
use Prim.Native.Nat.{ℕ, zero, suc, ◌≤◌, ◌<◌}
use native.Mathlib.Omega.{arith}
use native.Mathlib.Nat.{eq-or-lt_of_le}
use mathlib.Core.Logic.{◌⊎◌, inl, inr, ⊎_elim}
use mathlib.Core.List.{List, [], ◌∷◌}
use lib.ListN.{length, get_or}
use Rattle.mrc_compiler.specs.declared.encoder.InstructionData.{InstructionData}
use Rattle.x86.specs.declared.Instruction.{Instruction}
use Rattle.x86.specs.Listing.{Bytes, ReadsAs, Among, First, Before, IsListing}
use Rattle.x86.proofs.Among.{place}
use Rattle.encode_spec.specs.Meaning.{meaning}
use Rattle.encode_spec.specs.Answer.{bytes, answer}
use Rattle.encode_spec.proofs.Accepted.{accepted_reads}
use Rattle.list_spec.specs.Entries.{key, listing}
use Rattle.list_spec.proofs.Digits.{key_same}
use Rattle.list_spec.proofs.Order.{key_before}
use Rattle.list_spec.proofs.Exact.{Listed, among_only, listed_in, first_of_some, first_lowest}
use Rattle.shortest_encoder.specs.Shortest.{shortest, shortest_answer, IsShortest}

-- ---- order
first_once : (s t : List ℕ) → First s t → First t s → ⊥
first_once [] t f g = f
first_once (a ∷ s) [] f g = f
first_once (a ∷ s) (b ∷ t) f g =
    ⊎_elim (λ (l : a < b). ⊎_elim (λ (k : b < a). omega arith) (λ (p : (b ≡ a) × First t s). omega (arith, p.0)) g)
    (λ (p : (a ≡ b) × First s t). ⊎_elim (λ (k : b < a). omega (arith, p.0)) (λ (q : (b ≡ a) × First t s). first_once s t p.1 q.1) g) f

before_once : (s t : List ℕ) → Before s t → Before t s → ⊥
before_once s t f g =
    ⊎_elim (λ (l : length s < length t). ⊎_elim (λ (k : length t < length s). omega arith) (λ (p : (length t ≡ length s) × First t s). omega (arith, p.0)) g)
    (λ (p : (length s ≡ length t) × First s t). ⊎_elim (λ (k : length t < length s). omega (arith, p.0)) (λ (q : (length t ≡ length s) × First t s). first_once s t p.1 q.1) g) f

-- ---- the first of an instruction's listing, where some string reads as it
module _ (off : ℕ) (m : Instruction) (h : off < 65536) (own : List ℕ) (own_bytes : Bytes own) (own_reads : ReadsAs off m own) where
  abbrev s : List ℕ
  s = get_or (listing off m) 0 []

  s_listed : Listed off m s
  s_listed = among_only off m s 12 (first_of_some own (listing off m) (listed_in off m h own own_bytes own_reads))

  s_lowest : (t : List ℕ) → Bytes t → ReadsAs off m t → (s ≡ t) ⊎ Before s t
  s_lowest t bs e =
      let a = listed_in off m h t bs e in
      let k = among_only off m t 12 a in
      let l = s_listed in
      ⊎_elim (λ (z : key s ≡ key t). inl (key_same s t l.short k.short l.are_bytes bs z))
      (λ (z : key s < key t). inr (key_before s t l.are_bytes bs l.short k.short z)) (eq-or-lt_of_le (first_lowest off m t a))

  not_longer : (t : List ℕ) → (s ≡ t) ⊎ Before s t → length s ≤ length t
  not_longer t f =
      ⊎_elim (λ (e : s ≡ t). omega (arith, ap length e))
      (λ b. ⊎_elim (λ (l : length s < length t). omega arith) (λ (p : (length s ≡ length t) × First s t). omega (arith, p.0)) b) f

  -- of every listing
  s_first : (l : List (List ℕ)) → IsListing off m l → get_or l 0 [] ≡ s
  s_first l i =
      let k = s_listed in
      let a = i.none_missing s k.are_bytes k.some k.short k.reads_it in
      let g = i.none_beside (get_or l 0 []) (first_of_some s l a) in
      ⊎_elim (λ (e : s ≡ get_or l 0 []). sym e) (λ (b : Before s (get_or l 0 [])). go b (place s l a)) (s_lowest (get_or l 0 []) g.0 g.3)
    where
      go : Before s (get_or l 0 []) → (j : ℕ) × (j < length l) × (get_or l j [] ≡ s) → get_or l 0 [] ≡ s
      go b (zero, n, e) = e
      go b (suc j, n, e) = absurd (before_once s (get_or l 0 []) b (subst (λ (t : List ℕ). Before (get_or l 0 []) t) e (i.in_order 0 (suc j) (omega arith) n)))

  -- it is the own string where that has no other before it
  pub s_own : ((t : List ℕ) → Bytes t → ReadsAs off m t → (own ≡ t) ⊎ Before own t) → own ≡ s
  s_own f =
      let l = s_listed in
      ⊎_elim (λ (e : own ≡ s). e)
      (λ (b : Before own s). ⊎_elim (λ (e : s ≡ own). sym e) (λ (a : Before s own). absurd (before_once own s b a)) (s_lowest own own_bytes own_reads))
      (f s l.are_bytes l.reads_it)

-- ---- document 02, No. 8, for every record that is accepted
pub accepted_shortest : (insn : InstructionData) (off : ℕ) → off < 65536 → (bs : List ℕ) → answer insn off ≡ bytes bs
    → (shortest_answer insn off ≡ bytes (shortest insn off)) × IsShortest insn off (shortest insn off)
unfolding shortest_answer
accepted_shortest insn off h bs e =
    let m = meaning insn in
    let r = accepted_reads insn off h bs e in
    let lowest = s_lowest off m h bs r.are_bytes r.reads_it in (
      rw e refl,
      record {
        reads_it = (s_listed off m h bs r.are_bytes r.reads_it).reads_it;
        none_shorter = λ t bt et. not_longer off m h bs r.are_bytes r.reads_it t (lowest t bt et);
        lowest = lowest;
        first = s_first off m h bs r.are_bytes r.reads_it;
      },
    )

-- two records that are accepted at an offset and are the same instruction get the same bytes
pub same_bytes : (i j : InstructionData) (off : ℕ) (bi bj : List ℕ) → answer i off ≡ bytes bi → answer j off ≡ bytes bj → meaning i ≡ meaning j
    → shortest_answer i off ≡ shortest_answer j off
unfolding shortest_answer
same_bytes i j off bi bj e f s = rw (e, f, s) refl
