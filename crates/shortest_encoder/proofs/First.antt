-- What the search finds, from a string of the instruction on, is the first of its listing.
-- Assumes nothing.
use mathlib.Core.Path.{◌≡◌, refl, sym, ◌∙◌, ap, subst}
use Prim.Native.Nat.{ℕ, zero, suc, ◌+◌, ◌-◌, ◌≤◌, ◌<◌}
use native.Mathlib.Omega.{arith}
use native.Mathlib.Nat.{eq-or-lt_of_le, le_of_suc-le-suc}
use mathlib.Core.Bool.{Bool, true, false}
use mathlib.Core.Logic.{◌⊎◌, inl, inr, ⊎_elim}
use mathlib.Core.List.{List, [], ◌∷◌}
use lib.Dec.{T, ltb}
use lib.ListN.{length, get_or}
use Rattle.mrc_compiler.specs.Choose.{pick, both}
use Rattle.x86.specs.declared.Instruction.{Instruction}
use Rattle.x86.specs.Listing.{Among}
use Rattle.x86.proofs.Tests.{both_left, is_true}
use Rattle.list_spec.specs.Candidates.{candidate}
use Rattle.list_spec.specs.Entries.{key, is_listed, listing}
use Rattle.list_spec.proofs.Choices.{lt_or}
use Rattle.list_spec.proofs.Digits.{key_same}
use Rattle.list_spec.proofs.Exact.{Listed, candidate_listed, among_only, listed_in, some_candidate, first_of_some, first_lowest}
use Rattle.shortest_encoder.specs.Search.{better, stepped, search}
use Rattle.shortest_encoder.proofs.Steps.{not_higher, below_candidate}

module _ (off : ℕ) (m : Instruction) where
  -- the better of two listed strings is listed
  better_listed : (b : List ℕ) (i : ℕ) → Listed off m b → Listed off m (better off m b i)
  unfolding better
  better_listed b i l = go (is_listed off m i) (ltb (key (candidate off m i)) (key b)) refl
    where
      go : (p q : Bool) → is_listed off m i ≡ p → Listed off m (pick (both p q) (candidate off m i) b)
      go true true e = candidate_listed off m i (subst T (sym e) tt)
      go true false e = l
      go false q e = l

  module _ (s : List ℕ) (own : Listed off m s) where
    pub search_listed : (n : ℕ) → Listed off m (search off m s n)
    unfolding search
    search_listed zero = own
    search_listed (suc n) = better_listed (better off m (search off m s n) n) (n + 6) (better_listed (search off m s n) n (search_listed n))

    -- not higher than the candidates that it has gone over, without the prefix and with it
    lower_plain : (n i : ℕ) → i < n → is_listed off m i ≡ true → key (search off m s n) ≤ key (candidate off m i)
    unfolding search
    lower_plain zero i h e = absurd (omega arith)
    lower_plain (suc n) i h e =
        let b = search off m s n in
        let k = not_higher off m (better off m b n) (n + 6) in
        ⊎_elim
        (λ (z : i ≡ n). let c = below_candidate off m b n (subst (λ (j : ℕ). is_listed off m j ≡ true) z e) in let d = ap (λ (j : ℕ). key (candidate off m j)) z in omega (arith, k, c, d))
        (λ (z : i < n). let c = lower_plain n i z e in let d = not_higher off m b n in omega (arith, k, c, d))
        (eq-or-lt_of_le (le_of_suc-le-suc h))

    lower_prefixed : (n i : ℕ) → i < n → is_listed off m (i + 6) ≡ true → key (search off m s n) ≤ key (candidate off m (i + 6))
    unfolding search
    lower_prefixed zero i h e = absurd (omega arith)
    lower_prefixed (suc n) i h e =
        let b = search off m s n in
        let k = not_higher off m (better off m b n) (n + 6) in
        ⊎_elim
        (λ (z : i ≡ n). let c = below_candidate off m (better off m b n) (n + 6) (subst (λ (j : ℕ). is_listed off m (j + 6) ≡ true) z e) in let d = ap (λ (j : ℕ). key (candidate off m (j + 6))) z in omega (arith, c, d))
        (λ (z : i < n). let c = lower_prefixed n i z e in let d = not_higher off m b n in omega (arith, k, c, d))
        (eq-or-lt_of_le (le_of_suc-le-suc h))

    lowest : (i : ℕ) → i < 12 → is_listed off m i ≡ true → key (search off m s 6) ≤ key (candidate off m i)
    lowest i h e =
        ⊎_elim (λ (l : i < 6). lower_plain 6 i l e)
        (λ (l : 6 ≤ i).
        let z : (i - 6) + 6 ≡ i = omega arith in
        subst (λ (j : ℕ). key (search off m s 6) ≤ key (candidate off m j)) z (lower_prefixed 6 (i - 6) (omega arith) (subst (λ (j : ℕ). is_listed off m j ≡ true) (sym z) e)))
        (lt_or i 6)

    pub search_first : off < 65536 → search off m s 6 ≡ get_or (listing off m) 0 []
    search_first h =
        let b = search off m s 6 in
        let l = search_listed 6 in
        let a = listed_in off m h b l.are_bytes l.reads_it in
        let f = get_or (listing off m) 0 [] in
        let k = among_only off m f 12 (first_of_some b (listing off m) a) in
        let c = some_candidate off m h f k.are_bytes k.reads_it in
        let i : key b ≤ key f = subst (λ (t : List ℕ). key b ≤ key t) (sym c.is) (lowest c.i c.below (is_true (is_listed off m c.i) c.listed)) in
        let j : key f ≤ key b = first_lowest off m b a in
        key_same b f l.short k.short l.are_bytes k.are_bytes (omega arith)
