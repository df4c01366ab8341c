-- A string whose first bytes tell that it is the first of its instruction's listing is: every string that reads as the instruction is it, or comes behind it.
-- Assumes nothing.
use Rattle.std.specs.Prelude.{Ok, Option, Some, None}
use mathlib.Core.Path.{◌≡◌, refl, sym, ◌∙◌, ap, subst}
use Prim.Native.Nat.{ℕ, suc, ◌+◌, ◌*◌, ◌/◌, ◌%◌, ◌≤◌, ◌<◌}
use native.Mathlib.Omega.{arith}
use mathlib.Core.Bool.{Bool, true, false}
use mathlib.Core.Logic.{◌⊎◌, inl, inr, ⊎_elim}
use mathlib.Core.List.{List, [], ◌∷◌, ◌++◌}
use lib.Dec.{T, eqb, ltb, leb, eqb→eq, ltb→lt}
use lib.ListN.{length, length-append, get_or}
use borrow.Author.Tests.{lt-ltb, le-ltb, eqb-true, eqb-false, ltb-true, ltb-false, leb-true, leb-false}
use Rattle.mrc_compiler.specs.Choose.{pick, both, either, isnt}
use Rattle.x86.specs.declared.Instruction.{Instruction}
use Rattle.x86.specs.Reading.{mode, low, displacement_length, displacement_at, memory_length, names_memory, prefix, is_repeat, read_opcode, read_plain}
use Rattle.x86.specs.Listing.{Bytes, ReadsAs, First, Before}
use Rattle.x86.proofs.Tests.{is_true, same, same_is, both_left, both_right, up_to, up_to_at}
use Rattle.x86.proofs.Repeats.{HowRead, with_repeat, without, how_read, plain, plain_repeat, repeats_by}
use Rattle.x86.proofs.ByForm.{more_not_whole}
use Rattle.encode_spec.specs.Layout.{prefix_bytes}
use Rattle.list_spec.specs.declared.Second.{Second}
use Rattle.list_spec.specs.declared.Second.TheVariants as X
use Rattle.list_spec.specs.declared.Tail.{Tail}
use Rattle.list_spec.specs.declared.Tail.TheVariants as L
use Rattle.list_spec.specs.declared.Start.{Start}
use Rattle.list_spec.specs.declared.Parts.{Parts}
use Rattle.list_spec.specs.Operands.{prefix_of, displacement_of}
use Rattle.list_spec.specs.Parts.{is_short, parts_of}
use Rattle.list_spec.specs.Possible.{start_fits, prefix_fits, possible}
use Rattle.list_spec.specs.Starts.{start_of}
use Rattle.list_spec.specs.Candidates.{displacement_bytes, second_bytes, tail_bytes, string_of, candidate_of}
use Rattle.list_spec.proofs.ByForm.{start_by, same_start, start_eq}
use Rattle.list_spec.proofs.Choices.{either_parts}
use Rattle.list_spec.proofs.Possible.{start_fits_lem}
use Rattle.list_spec.proofs.Written.{Parsed, parsed, instruction_is, displacement_of_lem, string_is, prefix_not_0, names_memory_lem, prefix_of_lem}
use Rattle.list_spec.proofs.Found.{Found, none_missing}
use Rattle.list_first.specs.First.{has_modrm, least_by_modrm, least_alone, least_displacement, first_alone, is_prefix, in_stack, own_prefix, is_first, is_first_of}
use Rattle.list_first.proofs.Compared.{second_length, tail_length, start_length, not_above, implies, compared, least, may_be_zero, may_be_short, passes, by_modrm, home_of, home_by, least_by, second_there_lem, compares, home_prefix}

-- ---- the length of a string, by its start
displacement_length_lem : (n d : ℕ) → n ≤ 2 → length (displacement_bytes n d) ≡ n
displacement_length_lem n d h = go (eqb n 0) (eqb n 1) refl refl
  where
    go : (p q : Bool) → eqb n 0 ≡ p → eqb n 1 ≡ q → length (displacement_bytes n d) ≡ n
    go true q e f = let z = eqb-true n 0 e in rw z refl
    go false true e f = let z = eqb-true n 1 f in rw z refl
    go false false e f = let y = eqb-false n 0 e in let z = eqb-false n 1 f in let w : n ≡ 2 = omega arith in rw w refl

few_bytes : (x : ℕ) → displacement_length (mode x) (low x) ≤ 2
few_bytes x = go (eqb (mode x) 0) (eqb (low x) 6) (eqb (mode x) 1) (eqb (mode x) 2)
  where
    go : (a b c d : Bool) → pick a (pick b 2 0) (pick c 1 (pick d 2 0)) ≤ 2
    go true true c d = omega arith
    go true false c d = omega arith
    go false b true d = omega arith
    go false b false true = omega arith
    go false b false false = omega arith

second_length_lem : (x : Option Second) (d : ℕ) → length (second_bytes x d) ≡ second_length x
second_length_lem None d = refl
second_length_lem (Some (X.ModRm x)) d = omega (arith, displacement_length_lem (displacement_length (mode x) (low x)) d (few_bytes x))
second_length_lem (Some (X.Fixed x)) d = refl

tail_length_lem : (t : Option Tail) (off d v s : ℕ) → length (tail_bytes t off d v s) ≡ tail_length t
tail_length_lem None off d v s = refl
tail_length_lem (Some L.Byte) off d v s = refl
tail_length_lem (Some L.Word) off d v s = refl
tail_length_lem (Some L.Near8) off d v s = refl
tail_length_lem (Some L.Near16) off d v s = refl
tail_length_lem (Some L.Far) off d v s = refl
tail_length_lem (Some L.Address) off d v s = refl

string_length : (off p : ℕ) (s : Start) (q : Parts) → length (string_of off p s q) ≡ length (prefix_bytes p) + start_length s
unfolding string_of
string_length off p s q =
    let d = q.displacement in
    let x = second_bytes s.second d in
    let t = tail_bytes s.tail off d q.value q.segment in
    let e = length-append (prefix_bytes p) (s.opcode % 256 ∷ (x ++ t)) in
    let f = length-append x t in
    omega (arith, e, f, second_length_lem s.second d, tail_length_lem s.tail off d q.value q.segment)

-- ---- a start that is not above another gives a string that is not behind the other's, with a prefix or without
head_first : (off : ℕ) (a b : Start) (q : Parts) → a.opcode % 256 < b.opcode % 256 → First (string_of off 0 a q) (string_of off 0 b q)
unfolding string_of
head_first off a b q l = inl l

module _ (off : ℕ) (a b : Start) (q : Parts) where
  abbrev own : List ℕ
  own = string_of off 0 a q

  own-length : length own ≡ start_length a
  own-length = omega (arith, string_length off 0 a q)

  plain_order : T (not_above a b) → (own ≡ string_of off 0 b q) ⊎ Before own (string_of off 0 b q)
  plain_order h =
      let f = string_length off 0 b q in
      ⊎_elim
      (λ t. let l = ltb→lt (start_length a) (start_length b) t in inr (inl (omega (arith, own-length, f))))
      (λ t.
      let e = eqb→eq (start_length a) (start_length b) (both_left (eqb (start_length a) (start_length b)) _ t) in
      ⊎_elim (λ u. let l = ltb→lt (a.opcode % 256) (b.opcode % 256) u in inr (inr (omega (arith, own-length, f), head_first off a b q l)))
      (λ u. inl (ap (λ (s : Start). string_of off 0 s q) (start_eq a b u)))
      (either_parts (ltb (a.opcode % 256) (b.opcode % 256)) (same_start a b) (both_right (eqb (start_length a) (start_length b)) _ t)))
      (either_parts (ltb (start_length a) (start_length b)) _ h)

  not_longer : T (not_above a b) → start_length a ≤ start_length b
  not_longer h =
      ⊎_elim (λ t. let l = ltb→lt (start_length a) (start_length b) t in omega arith)
      (λ t. let e = eqb→eq (start_length a) (start_length b) (both_left (eqb (start_length a) (start_length b)) _ t) in omega arith)
      (either_parts (ltb (start_length a) (start_length b)) _ h)

  -- with a prefix the other is longer
  prefix_order : (p : ℕ) → eqb p 0 ≡ false → T (not_above a b) → (own ≡ string_of off p b q) ⊎ Before own (string_of off p b q)
  prefix_order p z h =
      let f = string_length off p b q in
      let l = not_longer h in
      let g : length (prefix_bytes p) ≡ 1 = rw z refl in
      inr (inl (omega (arith, own-length, f, g)))

-- the same prefix before both
module _ (off p : ℕ) (a b : Start) (q : Parts) (z : eqb p 0 ≡ false) where
  behind_prefix : (s : Start) → string_of off p s q ≡ p ∷ string_of off 0 s q
  unfolding string_of
  behind_prefix s = rw z refl

  prefixed : (s t : List ℕ) → (s ≡ t) ⊎ Before s t → (p ∷ s ≡ p ∷ t) ⊎ Before (p ∷ s) (p ∷ t)
  prefixed s t o =
      ⊎_elim (λ (e : s ≡ t). inl (ap (λ (l : List ℕ). p ∷ l) e))
      (λ (f : Before s t). inr (⊎_elim (λ (l : length s < length t). inl (omega arith)) (λ (g : (length s ≡ length t) × First s t). inr (omega (arith, g.0), inr (refl, g.1))) f)) o

  same_prefix_order : T (not_above a b) → (string_of off p a q ≡ string_of off p b q) ⊎ Before (string_of off p a q) (string_of off p b q)
  same_prefix_order h = rw (behind_prefix a, behind_prefix b) (prefixed (string_of off 0 a q) (string_of off 0 b q) (plain_order off a b q h))

-- ---- what the first bytes tell
passes_it : (c x low high : ℕ) → T (first_alone c x low high) → passes c x ≡ true
unfolding first_alone
passes_it c x low high t = is_true (passes c x) (go (has_modrm c) t)
  where
    go : (p : Bool) → T (pick p (both (least_by_modrm c x) (least_displacement x low high)) (least_alone c)) → T (pick p (least_by_modrm c x) (least_alone c))
    go true t = both_left (least_by_modrm c x) _ t
    go false t = t

displacement_it : (c x low high : ℕ) → has_modrm c ≡ true → T (first_alone c x low high) → T (least_displacement x low high)
unfolding first_alone
displacement_it c x low high e t = both_right (least_by_modrm c x) (least_displacement x low high) (rw e at t)

-- without ModRM the second byte does not count
any_second : (c x y : ℕ) → has_modrm c ≡ false → passes c x ≡ true → passes c y ≡ true
any_second c x y e h = rw e (rw e at h)

-- of a string without a prefix
abbrev first_of : List ℕ → Bool
first_of s = first_alone (get_or s 0 0) (get_or s 1 0) (get_or s 2 0) (get_or s 3 0)

-- ---- the displacement, where it has its least bytes
-- a word that is not short
long : (low high : ℕ) → low < 256 → high < 256 → T (pick (eqb high 0) (leb 128 low) (pick (eqb high 255) (ltb low 128) true))
    → (128 ≤ low + 256 * high) × (low + 256 * high < 65408)
long low high h k = go (eqb high 0) (eqb high 255) (leb 128 low) (ltb low 128) refl refl refl refl
  where
    go : (p q r u : Bool) → eqb high 0 ≡ p → eqb high 255 ≡ q → leb 128 low ≡ r → ltb low 128 ≡ u → T (pick p r (pick q u true))
        → (128 ≤ low + 256 * high) × (low + 256 * high < 65408)
    go true q true u e1 e2 e3 e4 t = let a = eqb-true high 0 e1 in let b = leb-true 128 low e3 in (omega arith, omega arith)
    go true q false u e1 e2 e3 e4 t = absurd t
    go false true r true e1 e2 e3 e4 t = let a = eqb-true high 255 e2 in let b = ltb-true low 128 e4 in (omega arith, omega arith)
    go false true r false e1 e2 e3 e4 t = absurd t
    go false false r u e1 e2 e3 e4 t = let a = eqb-false high 0 e1 in let b = eqb-false high 255 e2 in (omega arith, omega arith)

not_short : (d : ℕ) → 128 ≤ d → d < 65408 → T (is_short d) → ⊥
not_short d h k t = go (ltb d 128) (leb 65408 d) refl refl t
  where
    go : (p q : Bool) → ltb d 128 ≡ p → leb 65408 d ≡ q → T (either p q) → ⊥
    go true q e1 e2 t = let l = ltb-true d 128 e1 in omega arith
    go false true e1 e2 t = let l = leb-true 65408 d e2 in omega arith
    go false false e1 e2 t = t

extended_some : (b : ℕ) → T (isnt (eqb b 0)) → pick (ltb b 128) b (b + 65280) ≡ 0 → ⊥
extended_some b t = go (eqb b 0) (ltb b 128) refl refl t
  where
    go : (p q : Bool) → eqb b 0 ≡ p → ltb b 128 ≡ q → T (isnt p) → pick q b (b + 65280) ≡ 0 → ⊥
    go true q e1 e2 t z = t
    go false true e1 e2 t z = eqb-false b 0 e1 z
    go false false e1 e2 t z = omega arith

-- d, which ModRM x and the bytes t behind it give
module _ (x : ℕ) (t : List ℕ) (bs : Bytes t) (l : T (least_displacement x (get_or t 0 0) (get_or t 1 0))) where
  abbrev d : ℕ
  d = displacement_at (displacement_length (mode x) (low x)) t

  by_mode : (P : Type 0) → (x < 0x40 → P) → (0xC0 ≤ x → P) → (0x40 ≤ x → x < 0x80 → T (isnt (eqb (get_or t 0 0) 0)) → P)
      → (0x80 ≤ x → x < 0xC0 → T (pick (eqb (get_or t 1 0) 0) (leb 128 (get_or t 0 0)) (pick (eqb (get_or t 1 0) 255) (ltb (get_or t 0 0) 128) true)) → P) → P
  unfolding least_displacement
  by_mode P f0 f3 f1 f2 = go (ltb x 0x40) (leb 0xC0 x) (ltb x 0x80) refl refl refl l
    where
      go : (p q r : Bool) → ltb x 0x40 ≡ p → leb 0xC0 x ≡ q → ltb x 0x80 ≡ r
          → T (pick p true (pick q true (pick r (isnt (eqb (get_or t 0 0) 0)) (pick (eqb (get_or t 1 0) 0) (leb 128 (get_or t 0 0)) (pick (eqb (get_or t 1 0) 255) (ltb (get_or t 0 0) 128) true))))) → P
      go true q r e1 e2 e3 h = f0 (ltb-true x 0x40 e1)
      go false true r e1 e2 e3 h = f3 (leb-true 0xC0 x e2)
      go false false true e1 e2 e3 h = f1 (ltb-false x 0x40 e1) (ltb-true x 0x80 e3) h
      go false false false e1 e2 e3 h = f2 (ltb-false x 0x80 e3) (leb-false 0xC0 x e2) h

  one_byte : 0x40 ≤ x → x < 0x80 → d ≡ pick (ltb (get_or t 0 0) 128) (get_or t 0 0) (get_or t 0 0 + 65280)
  one_byte h k = let e : x / 64 ≡ 1 = omega arith in rw e refl

  two_bytes : 0x80 ≤ x → x < 0xC0 → d ≡ get_or t 0 0 + 256 * get_or t 1 0
  two_bytes h k = let e : x / 64 ≡ 2 = omega arith in rw e refl

  zero_by : T (eqb d 0) → T (either (ltb x 0x40) (ltb 0xBF x))
  zero_by z =
      by_mode (T (either (ltb x 0x40) (ltb 0xBF x))) (λ h. rw (lt-ltb x 0x40 h) tt)
      (λ h. rw (le-ltb x 0x40 (omega arith), lt-ltb 0xBF x (omega arith)) tt)
      (λ h k n. absurd (extended_some (get_or t 0 0) n (sym (one_byte h k) ∙ eqb→eq d 0 z)))
      (λ h k n. let (a, b) = long (get_or t 0 0) (get_or t 1 0) (bs 0) (bs 1) n in let y = two_bytes h k in let w = eqb→eq d 0 z in absurd (omega arith))

  short_by : T (is_short d) → T (either (ltb x 0x80) (ltb 0xBF x))
  short_by z =
      by_mode (T (either (ltb x 0x80) (ltb 0xBF x))) (λ h. rw (lt-ltb x 0x80 (omega arith)) tt)
      (λ h. rw (le-ltb x 0x80 (omega arith), lt-ltb 0xBF x (omega arith)) tt)
      (λ h k n. rw (lt-ltb x 0x80 k) tt)
      (λ h k n. let (a, b) = long (get_or t 0 0) (get_or t 1 0) (bs 0) (bs 1) n in let y = two_bytes h k in absurd (not_short d (omega arith) (omega arith) z))

-- ---- a string s₀ that was read, s without its prefix p
module _ (off p : ℕ) (s₀ s : List ℕ) (m : Instruction) (e₀ : s₀ ≡ prefix_bytes p ++ s) (h : off < 65536) (r : Parsed off p s m (length s₀)) (first : T (first_of s)) where
  abbrev a : Start
  a = start_by r.f r.c r.x

  opcode_is : get_or s 0 0 ≡ r.c
  opcode_is = ap (λ (l : List ℕ). get_or l 0 0) r.is

  -- with ModRM
  module _ (e : has_modrm r.c ≡ true) where
    in_order : s ≡ r.c ∷ r.x ∷ r.t
    in_order = r.is ∙ rw (second_there_lem r.c r.x r.c_byte r.fits_them e) refl

    told : T (first_alone r.c r.x (get_or r.t 0 0) (get_or r.t 1 0))
    told = subst (λ (l : List ℕ). T (first_of l)) in_order first

    told_displacement : T (least_displacement r.x (get_or r.t 0 0) (get_or r.t 1 0))
    told_displacement = displacement_it r.c r.x (get_or r.t 0 0) (get_or r.t 1 0) e told

  passes_own : passes r.c r.x ≡ true
  passes_own = go (has_modrm r.c) refl
    where
      go : (b : Bool) → has_modrm r.c ≡ b → passes r.c r.x ≡ true
      go true e = passes_it r.c r.x (get_or r.t 0 0) (get_or r.t 1 0) (told e)
      go false e =
          any_second r.c (get_or s 1 0) r.x e
          (subst (λ (c : ℕ). passes c (get_or s 1 0) ≡ true) opcode_is (passes_it (get_or s 0 0) (get_or s 1 0) (get_or s 2 0) (get_or s 3 0) first))

  -- the prefix that it would have
  own_prefix_is : own_prefix (get_or s 0 0) (get_or s 1 0) ≡ own_prefix r.c r.x
  unfolding own_prefix
  own_prefix_is = rw opcode_is (go (has_modrm r.c) refl)
    where
      go : (b : Bool) → has_modrm r.c ≡ b → ◌≡◌ {A = ℕ} (pick (both b (in_stack (get_or s 1 0))) 0x36 0x3E) (pick (both b (in_stack r.x)) 0x36 0x3E)
      go true e = let y : get_or s 1 0 ≡ r.x = ap (λ (l : List ℕ). get_or l 1 0) (in_order e) in rw y refl
      go false e = refl

  own_least : T (least_by m r.f r.c r.x)
  own_least =
      subst (λ (m : Instruction). T (least_by m r.f r.c r.x)) (instruction_is off p s₀ s m e₀ h r)
      (compares off p r.t r.c r.x r.c_byte r.x_byte r.fits_them passes_own)

  displacement_by : has_modrm r.c ≡ true → displacement_of m ≡ displacement_at (displacement_length (mode r.x) (low r.x)) r.t
  displacement_by e =
      let b : T (eqb (memory_length r.f r.x) (displacement_length (mode r.x) (low r.x))) = rw e at (both_left (by_modrm r.f r.c r.x) _ own_least) in
      displacement_of_lem off p s₀ s m e₀ h r ∙ ap (λ (n : ℕ). displacement_at n r.t) (eqb→eq (memory_length r.f r.x) (displacement_length (mode r.x) (low r.x)) b)

  home_is : names_memory r.f r.x ≡ true → home_of m ≡ own_prefix r.c r.x
  home_is n =
      let b : T (home_by m r.f r.c r.x) = both_left (home_by m r.f r.c r.x) _ (both_right (by_modrm r.f r.c r.x) _ own_least) in
      eqb→eq (home_of m) (own_prefix r.c r.x) (rw n at b)

  zero_own : T (eqb (displacement_of m) 0) → T (may_be_zero r.c r.x)
  zero_own z = go (has_modrm r.c) refl
    where
      go : (b : Bool) → has_modrm r.c ≡ b → T (implies b (either (ltb r.x 0x40) (ltb 0xBF r.x)))
      go true e = zero_by r.x r.t r.t_bytes (told_displacement e) (subst (λ (d : ℕ). T (eqb d 0)) (displacement_by e) z)
      go false e = tt

  short_own : T (is_short (displacement_of m)) → T (may_be_short r.c r.x)
  short_own z = go (has_modrm r.c) refl
    where
      go : (b : Bool) → has_modrm r.c ≡ b → T (implies b (either (ltb r.x 0x80) (ltb 0xBF r.x)))
      go true e = short_by r.x r.t r.t_bytes (told_displacement e) (subst (λ (d : ℕ). T (is_short d)) (displacement_by e) z)
      go false e = tt

  -- the start of a possible candidate begins with no prefix and is not lower
  compared_to : (encoding k : ℕ) → encoding < 2 → k < 3 → T (start_fits (parts_of m) (eqb (displacement_of m) 0) (is_short (displacement_of m)) encoding k)
      → T (both (isnt (prefix ((start_of (parts_of m) encoding k).opcode % 256))) (not_above a (start_of (parts_of m) encoding k)))
  compared_to encoding k he hk t =
      let zero = may_be_zero r.c r.x in
      let short = may_be_short r.c r.x in
      let l : T (least m zero short a) = both_right (home_by m r.f r.c r.x) (least m zero short a) (both_right (by_modrm r.f r.c r.x) _ own_least) in
      let n = up_to_at 3 (λ k. compared m zero short a encoding k) (up_to_at 2 (λ encoding. up_to 3 (λ k. compared m zero short a encoding k)) l encoding he) k hk in
      let u = start_fits_lem (eqb (displacement_of m) 0) (is_short (displacement_of m)) zero short zero_own short_own (parts_of m) encoding k t in
      rw (is_true (start_fits (parts_of m) zero short encoding k) u) at n

-- ---- a candidate that is possible, by its start
pub record Candidate (off : ℕ) (m : Instruction) (t : List ℕ) : Type 0 where
  pub encoding : ℕ
  pub k : ℕ
  pub encoding_small : encoding < 2
  pub k_small : k < 3
  pub fits_it : T (start_fits (parts_of m) (eqb (displacement_of m) 0) (is_short (displacement_of m)) encoding k)
  pub is : (t ≡ string_of off 0 (start_of (parts_of m) encoding k) (parts_of m))
      ⊎ ((eqb (prefix_of m) 0 ≡ false) × (t ≡ string_of off (prefix_of m) (start_of (parts_of m) encoding k) (parts_of m)))

as_candidate : (off : ℕ) (m : Instruction) (t : List ℕ) → m.repeat ≡ 0 → Found off t m → Candidate off m t
unfolding candidate_of possible start_fits start_of string_of
as_candidate off m t z w =
    let i = w.i in
    let fit = rw z at w.can in
    record {
      encoding = i / 3 % 2;
      k = i % 3;
      encoding_small = omega arith;
      k_small = omega arith;
      fits_it = both_right (prefix_fits (prefix_of m) i) _ fit;
      is = go (ltb i 6) (eqb (prefix_of m) 0) refl (both_left (prefix_fits (prefix_of m) i) _ fit) (rw z at w.is);
    }
  where
    b : Start
    b = start_of (parts_of m) (w.i / 3 % 2) (w.i % 3)

    go : (l e : Bool) → eqb (prefix_of m) 0 ≡ e → T (either l (isnt e)) → t ≡ string_of off (pick l 0 (prefix_of m)) b (parts_of m)
        → (t ≡ string_of off 0 b (parts_of m)) ⊎ ((eqb (prefix_of m) 0 ≡ false) × (t ≡ string_of off (prefix_of m) b (parts_of m)))
    go true e q f y = inl y
    go false true q f y = absurd f
    go false false q f y = inr (q, y)

-- ---- of any string
-- a repeat is not told of
abbrev repeat_fails : ℕ → Bool
repeat_fails b = implies (is_repeat b) (both (isnt (is_prefix b)) (both (isnt (has_modrm b)) (isnt (least_alone b))))

all_fail : T (up_to 256 repeat_fails)
unfolding is_repeat is_prefix has_modrm least_alone
all_fail = tt

not_first : (b0 b1 b2 b3 b4 : ℕ) → T (both (isnt (is_prefix b0)) (both (isnt (has_modrm b0)) (isnt (least_alone b0)))) → T (is_first b0 b1 b2 b3 b4) → ⊥
unfolding is_first first_alone
not_first b0 b1 b2 b3 b4 = go (is_prefix b0) (has_modrm b0) (least_alone b0)
  where
    go : (p q l : Bool) → T (both (isnt p) (both (isnt q) (isnt l)))
        → T (pick p (both (isnt (eqb b0 (own_prefix b1 b2))) (first_alone b1 b2 b3 b4)) (pick q (both (least_by_modrm b0 b1) (least_displacement b1 b2 b3)) l)) → ⊥
    go true q l t u = t
    go false true l t u = t
    go false false true t u = t
    go false false false t u = u

all_prefixes : T (up_to 256 (λ b. same (prefix b) (is_prefix b)))
unfolding prefix is_prefix
all_prefixes = tt

prefix_same : (b : ℕ) → b < 256 → prefix b ≡ is_prefix b
prefix_same b h = same_is (prefix b) (is_prefix b) (up_to_at 256 (λ b. same (prefix b) (is_prefix b)) all_prefixes b h)

-- without a repeat
plain_read : (off : ℕ) (t : List ℕ) (m : Instruction) → m.repeat ≡ 0 → ReadsAs off m t → read_plain off t ≡ Ok (m, length t)
plain_read off t m z e = sym (plain off t (repeats_by off t m (length t) e ∙ rw z refl)) ∙ e

-- nor with a prefix
unprefixed : (off : ℕ) (t : List ℕ) (m : Instruction) → Bytes t → prefix (get_or t 0 0) ≡ false → read_plain off t ≡ Ok (m, length t) → Parsed off 0 t m (length t)
unfolding read_plain
unprefixed off [] m bt q e = absurd (more_not_whole e)
unprefixed off (b ∷ t) m bt q e = parsed off 0 (b ∷ t) bt (rw q at e)

-- its memory is in the segment that it is in without a prefix
at_home : (off : ℕ) (t : List ℕ) (m : Instruction) → off < 65536 → Parsed off 0 t m (length t) → prefix_of m ≡ home_of m
at_home off t m h r =
    subst (λ (m : Instruction). prefix_of m ≡ home_of m) (instruction_is off 0 t t m refl h r)
    (home_prefix off r.t r.c r.x r.c_byte r.x_byte r.fits_them)

opcode_first : (off : ℕ) (s : Start) (q : Parts) → get_or (string_of off 0 s q) 0 0 ≡ s.opcode % 256
unfolding string_of
opcode_first off s q = refl

isnt_true : (b : Bool) → T (isnt b) → b ≡ false
isnt_true true t = absurd t
isnt_true false t = refl

module _ (off : ℕ) (m : Instruction) (h : off < 65536) (t : List ℕ) (bt : Bytes t) (et : ReadsAs off m t) (z : m.repeat ≡ 0) where
  abbrev candidate_is : Candidate off m t
  candidate_is = as_candidate off m t z (none_missing off t m h bt et)

  abbrev st : Start
  st = start_of (parts_of m) candidate_is.encoding candidate_is.k

  -- s has no prefix
  alone_behind : (s : List ℕ) → Parsed off 0 s m (length s) → T (first_of s) → (s ≡ t) ⊎ Before s t
  alone_behind s r first =
      let w = candidate_is in
      let n = both_right (isnt (prefix (st.opcode % 256))) _ (compared_to off 0 s s m refl h r first w.encoding w.k w.encoding_small w.k_small w.fits_it) in
      let b = start_by r.f r.c r.x in
      subst (λ (u : List ℕ). (u ≡ t) ⊎ Before u t) (sym (string_is off 0 s s m refl h r))
      (⊎_elim (λ (y : t ≡ string_of off 0 st (parts_of m)). subst (λ (u : List ℕ). (string_of off 0 b (parts_of m) ≡ u) ⊎ Before (string_of off 0 b (parts_of m)) u) (sym y) (plain_order off b st (parts_of m) n))
      (λ (y : (eqb (prefix_of m) 0 ≡ false) × (t ≡ string_of off (prefix_of m) st (parts_of m))). subst (λ (u : List ℕ). (string_of off 0 b (parts_of m) ≡ u) ⊎ Before (string_of off 0 b (parts_of m)) u) (sym y.1) (prefix_order off b st (parts_of m) (prefix_of m) y.0 n)) w.is)

  -- s stands behind a prefix that is not its own
  prefixed_behind : (p : ℕ) (s : List ℕ) → p < 256 → prefix p ≡ true → Parsed off p s m (length (p ∷ s)) → T (first_of s) → T (isnt (eqb p (own_prefix (get_or s 0 0) (get_or s 1 0))))
      → (p ∷ s ≡ t) ⊎ Before (p ∷ s) t
  prefixed_behind p s k q r first other =
      let w = candidate_is in
      let p_some = prefix_not_0 p q in
      let e₀ : p ∷ s ≡ prefix_bytes p ++ s = rw p_some refl in
      let c = compared_to off p (p ∷ s) s m e₀ h r first w.encoding w.k w.encoding_small w.k_small w.fits_it in
      let n = both_right (isnt (prefix (st.opcode % 256))) _ c in
      let b = start_by r.f r.c r.x in
      let pre : prefix_of m ≡ p = prefix_of_lem off p (p ∷ s) s m e₀ h r q k in
      subst (λ (u : List ℕ). (u ≡ t) ⊎ Before u t) (sym (string_is off p (p ∷ s) s m e₀ h r))
      (⊎_elim
      (λ (y : t ≡ string_of off 0 st (parts_of m)).
      let no : prefix (get_or t 0 0) ≡ false =
      ap (λ (u : List ℕ). prefix (get_or u 0 0)) y
      ∙ (ap prefix (opcode_first off st (parts_of m)) ∙ isnt_true (prefix (st.opcode % 256)) (both_left (isnt (prefix (st.opcode % 256))) _ c)) in
      let home = at_home off t m h (unprefixed off t m bt no (plain_read off t m z et)) in
      let own = home_is off p (p ∷ s) s m e₀ h r first (names_memory_lem off p (p ∷ s) s m e₀ h r q) in
      let is_own : p ≡ own_prefix (get_or s 0 0) (get_or s 1 0) = sym pre ∙ (home ∙ (own ∙ sym (own_prefix_is off p (p ∷ s) s m e₀ h r first))) in
      absurd (eqb-false p (own_prefix (get_or s 0 0) (get_or s 1 0)) (isnt_true (eqb p (own_prefix (get_or s 0 0) (get_or s 1 0))) other) is_own))
      (λ (y : (eqb (prefix_of m) 0 ≡ false) × (t ≡ string_of off (prefix_of m) st (parts_of m))).
      subst (λ (u : List ℕ). (string_of off p b (parts_of m) ≡ u) ⊎ Before (string_of off p b (parts_of m)) u)
      (sym (y.1 ∙ ap (λ (p : ℕ). string_of off p st (parts_of m)) pre)) (same_prefix_order off p b st (parts_of m) p_some n)) w.is)

plain_before : (off : ℕ) (s : List ℕ) (m : Instruction) → off < 65536 → Bytes s → read_plain off s ≡ Ok (m, length s) → T (is_first_of s)
    → (t : List ℕ) → Bytes t → ReadsAs off m t → (s ≡ t) ⊎ Before s t
unfolding read_plain is_first
plain_before off [] m h bs e first t bt et = absurd (more_not_whole e)
plain_before off (b ∷ s) m h bs e first t bt et = go (prefix b) refl e (subst (λ (q : Bool). T (pick q (both (isnt (eqb b (own_prefix (get_or s 0 0) (get_or s 1 0)))) (first_of s)) (first_of (b ∷ s)))) (sym (prefix_same b (bs 0))) first)
  where
    z : m.repeat ≡ 0
    z = plain_repeat off (b ∷ s) m (length (b ∷ s)) e

    own : Bool
    own = isnt (eqb b (own_prefix (get_or s 0 0) (get_or s 1 0)))

    go : (q : Bool) → prefix b ≡ q → pick q (read_opcode off b s) (read_opcode off 0 (b ∷ s)) ≡ Ok (m, length (b ∷ s))
        → T (pick q (both own (first_of s)) (first_of (b ∷ s))) → (b ∷ s ≡ t) ⊎ Before (b ∷ s) t
    go true q e f = prefixed_behind off m h t bt et z b s (bs 0) q (parsed off b s (λ i. bs (suc i)) e) (both_right own (first_of s) f) (both_left own (first_of s) f)
    go false q e f = alone_behind off m h t bt et z (b ∷ s) (parsed off 0 (b ∷ s) bs e) f

-- no string that reads as the instruction is before s
pub none_before : (off : ℕ) (s : List ℕ) (m : Instruction) → off < 65536 → Bytes s → ReadsAs off m s → T (is_first_of s)
    → (t : List ℕ) → Bytes t → ReadsAs off m t → (s ≡ t) ⊎ Before s t
none_before off s m h bs e first t bt et = go (how_read off s)
  where
    go : HowRead off s → (s ≡ t) ⊎ Before s t
    go (with_repeat r) =
        let c = ap (λ (l : List ℕ). get_or l 0 0) r.in_order in
        let k = subst (λ (b : ℕ). b < 256) c (bs 0) in
        absurd (not_first r.b (get_or s 1 0) (get_or s 2 0) (get_or s 3 0) (get_or s 4 0) (rw r.byte_is_repeat at (up_to_at 256 repeat_fails all_fail r.b k))
        (subst (λ (b : ℕ). T (is_first b (get_or s 1 0) (get_or s 2 0) (get_or s 3 0) (get_or s 4 0))) c first))
    go (without n q) = plain_before off s m h bs (sym q ∙ e) first t bt et
