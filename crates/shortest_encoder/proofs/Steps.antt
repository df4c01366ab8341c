-- One step of the search: what it takes and what it leaves.
-- Assumes nothing.
use mathlib.Core.Path.{◌≡◌, refl, sym, ◌∙◌, ap, subst}
use Prim.Native.Nat.{ℕ, ◌+◌, ◌/◌, ◌%◌, ◌≤◌, ◌<◌}
use native.Mathlib.Omega.{arith}
use mathlib.Core.Bool.{Bool, true, false}
use mathlib.Core.List.{List, [], ◌∷◌, ◌++◌}
use lib.Dec.{eqb, ltb}
use lib.ListN.{length}
use borrow.Author.Tests.{lt-ltb, le-ltb, eqb-true, eq-eqb, ltb-true, ltb-false}
use Rattle.mrc_compiler.specs.Choose.{pick, both, isnt}
use Rattle.x86.specs.declared.Instruction.{Instruction}
use Rattle.x86.specs.Listing.{Bytes}
use Rattle.list_spec.specs.declared.Parts.{Parts}
use Rattle.list_spec.specs.Parts.{parts_of}
use Rattle.list_spec.specs.Possible.{possible}
use Rattle.list_spec.specs.Candidates.{string_of, candidate_of, candidate}
use Rattle.list_spec.specs.Entries.{key, reads_as, is_listed}
use Rattle.list_spec.proofs.Digits.{key_is}
use Rattle.list_spec.proofs.Exact.{candidate_bytes}
use Rattle.list_spec.proofs.Short.{candidate_short}
use Rattle.shortest_encoder.specs.Search.{better, stepped}

-- a longer string has a higher number
longer_key : (s t : List ℕ) → Bytes s → length s ≤ 7 → length t ≤ 7 → length s < length t → key s < key t
longer_key s t bs h k l = omega (arith, key_is s h, key_is t k, bs 0, bs 1, bs 2, bs 3, bs 4, bs 5, bs 6)

-- ---- the same start with the prefix
again : (q : Parts) (i : ℕ) → i < 6 → ((i + 6) / 3 % 2 ≡ i / 3 % 2) × ((i + 6) % 3 ≡ i % 3) × ((i + 6) % 6 ≡ i % 6)
again q i h = (omega arith, omega arith, omega arith)

pub possible_again : (q : Parts) (i : ℕ) → i < 6 → possible q (i + 6) ≡ both (isnt (eqb q.prefix 0)) (possible q i)
unfolding possible
possible_again q i h =
    let (a, b, c) = again q i h in
    rw (a, b, c, lt-ltb i 6 h, le-ltb (i + 6) 6 (omega arith)) refl

-- it is not lower than without
module _ (off : ℕ) (m : Instruction) (i : ℕ) (h : i < 6) where
  not_lower : (b c : Bool) → eqb m.repeat 0 ≡ b → eqb (parts_of m).prefix 0 ≡ c → key (candidate off m i) ≤ key (candidate off m (i + 6))
  unfolding candidate_of string_of
  not_lower false c e f =
      let (a, b, _) = again (parts_of m) i h in
      let z : candidate off m i ≡ candidate off m (i + 6) = rw (e, a, b) refl in
      omega (arith, ap key z)
  not_lower true true e f =
      let (a, b, _) = again (parts_of m) i h in
      let p = eqb-true (parts_of m).prefix 0 f in
      let z : candidate off m i ≡ candidate off m (i + 6) = rw (e, a, b, p, lt-ltb i 6 h, le-ltb (i + 6) 6 (omega arith)) refl in
      omega (arith, ap key z)
  not_lower true false e f =
      let (a, b, _) = again (parts_of m) i h in
      let z : candidate off m (i + 6) ≡ (parts_of m).prefix ∷ candidate off m i = rw (e, a, b, lt-ltb i 6 h, le-ltb (i + 6) 6 (omega arith), f) refl in
      let l = ap length z in
      let k = longer_key (candidate off m i) (candidate off m (i + 6)) (candidate_bytes off m i) (candidate_short off m i) (candidate_short off m (i + 6)) (omega arith) in
      omega (arith, k)

  pub prefix_longer : key (candidate off m i) ≤ key (candidate off m (i + 6))
  prefix_longer = not_lower (eqb m.repeat 0) (eqb (parts_of m).prefix 0) refl refl

-- ---- the better of two
module _ (off : ℕ) (m : Instruction) (b : List ℕ) (i : ℕ) where
  pub not_listed : is_listed off m i ≡ false → better off m b i ≡ b
  unfolding better
  not_listed e = rw e refl

  pub not_less : key b ≤ key (candidate off m i) → better off m b i ≡ b
  unfolding better
  not_less l = rw (le-ltb (key (candidate off m i)) (key b) l) (go (is_listed off m i))
    where
      go : (q : Bool) → pick (both q false) (candidate off m i) b ≡ b
      go true = refl
      go false = refl

  pub taken : is_listed off m i ≡ true → key (candidate off m i) < key b → better off m b i ≡ candidate off m i
  unfolding better
  taken e l = rw (e, lt-ltb (key (candidate off m i)) (key b) l) refl

  -- it is not higher
  pub not_higher : key (better off m b i) ≤ key b
  unfolding better
  not_higher = go (is_listed off m i) (ltb (key (candidate off m i)) (key b)) refl
    where
      go : (p q : Bool) → ltb (key (candidate off m i)) (key b) ≡ q → key (pick (both p q) (candidate off m i) b) ≤ key b
      go true true e = omega (arith, ltb-true (key (candidate off m i)) (key b) e)
      go true false e = omega arith
      go false q e = omega arith

  -- and not higher than the candidate
  pub below_candidate : is_listed off m i ≡ true → key (better off m b i) ≤ key (candidate off m i)
  unfolding better
  below_candidate e = rw e (go (ltb (key (candidate off m i)) (key b)) refl)
    where
      go : (q : Bool) → ltb (key (candidate off m i)) (key b) ≡ q → key (pick q (candidate off m i) b) ≤ key (candidate off m i)
      go true f = omega arith
      go false f = omega (arith, ltb-false (key (candidate off m i)) (key b) f)

-- ---- listed, by its two parts
pub unread : (off : ℕ) (m : Instruction) (i : ℕ) → reads_as off m (candidate off m i) ≡ false → is_listed off m i ≡ false
unfolding is_listed
unread off m i e = rw e (go (possible (parts_of m) i))
  where
    go : (q : Bool) → both q false ≡ false
    go true = refl
    go false = refl

pub impossible : (off : ℕ) (m : Instruction) (i : ℕ) → possible (parts_of m) i ≡ false → is_listed off m i ≡ false
unfolding is_listed
impossible off m i e = rw e refl

pub is_listed_lem : (off : ℕ) (m : Instruction) (i : ℕ) → possible (parts_of m) i ≡ true → reads_as off m (candidate off m i) ≡ true → is_listed off m i ≡ true
unfolding is_listed
is_listed_lem off m i e f = rw (e, f) refl

-- ---- the ways through a step, by what the code has asked
module _ (off : ℕ) (m : Instruction) (b : List ℕ) (i : ℕ) (h : i < 6) where
  again_impossible : (p : Bool) → possible (parts_of m) i ≡ p → both (isnt (eqb (parts_of m).prefix 0)) p ≡ false → possible (parts_of m) (i + 6) ≡ false
  again_impossible p e f = possible_again (parts_of m) i h ∙ (ap (both (isnt (eqb (parts_of m).prefix 0))) e ∙ f)

  no_start : possible (parts_of m) i ≡ false → possible (parts_of m) (i + 6) ≡ false
  no_start e = again_impossible false e (go (isnt (eqb (parts_of m).prefix 0)))
    where
      go : (q : Bool) → both q false ≡ false
      go true = refl
      go false = refl

  no_prefix : (parts_of m).prefix ≡ 0 → possible (parts_of m) (i + 6) ≡ false
  no_prefix z = possible_again (parts_of m) i h ∙ rw (eq-eqb (parts_of m).prefix 0 z) refl

  pub step_none : possible (parts_of m) i ≡ false → stepped off m b i ≡ b
  step_none e = rw (not_listed off m b i (impossible off m i e)) (not_listed off m b (i + 6) (impossible off m (i + 6) (no_start e)))

  pub step_high : key b ≤ key (candidate off m i) → stepped off m b i ≡ b
  step_high l = rw (not_less off m b i l) (not_less off m b (i + 6) (omega (arith, prefix_longer off m i h)))

  pub step_plain : possible (parts_of m) i ≡ true → reads_as off m (candidate off m i) ≡ true → key (candidate off m i) < key b → stepped off m b i ≡ candidate off m i
  step_plain e f l =
      rw (taken off m b i (is_listed_lem off m i e f) l) (not_less off m (candidate off m i) (i + 6) (prefix_longer off m i h))

  module _ (e : reads_as off m (candidate off m i) ≡ false) where
    pub step_alone : (parts_of m).prefix ≡ 0 → stepped off m b i ≡ b
    step_alone z = rw (not_listed off m b i (unread off m i e)) (not_listed off m b (i + 6) (impossible off m (i + 6) (no_prefix z)))

    pub step_longer : key b ≤ key (candidate off m (i + 6)) → stepped off m b i ≡ b
    step_longer l = rw (not_listed off m b i (unread off m i e)) (not_less off m b (i + 6) l)

    pub step_prefixed : possible (parts_of m) i ≡ true → eqb (parts_of m).prefix 0 ≡ false → reads_as off m (candidate off m (i + 6)) ≡ true
        → key (candidate off m (i + 6)) < key b → stepped off m b i ≡ candidate off m (i + 6)
    step_prefixed p z f l =
        let y : possible (parts_of m) (i + 6) ≡ true = possible_again (parts_of m) i h ∙ rw (z, p) refl in
        rw (not_listed off m b i (unread off m i e)) (taken off m b (i + 6) (is_listed_lem off m (i + 6) y f) l)

    pub step_unread : reads_as off m (candidate off m (i + 6)) ≡ false → stepped off m b i ≡ b
    step_unread f = rw (not_listed off m b i (unread off m i e)) (not_listed off m b (i + 6) (unread off m (i + 6) f))
