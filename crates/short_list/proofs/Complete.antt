-- The strings that are printed: none missing, nothing else, none again, in order; and what write_short leaves in the lent slice, by its contract alone.
-- Assumes nothing.
use Rattle.std.specs.Prelude.{Ok, Err, Result}
use mathlib.Core.Path.{◌≡◌, refl, sym}
use mathlib.Core.Bool.{Bool, true, false}
use mathlib.Core.Logic.{◌⊎◌, inl, inr, ⊎_elim}
use mathlib.Core.List.{List, [], ◌∷◌, ◌++◌, append-nil}
use Prim.Native.Nat.{ℕ, zero, suc, ◌+◌, ◌*◌, ◌-◌, ◌/◌, ◌%◌, ◌<◌, ◌≤◌}
use native.Mathlib.Nat.{eq-or-lt_of_le, le_of_suc-le-suc}
use native.Mathlib.Omega.{arith}
use lib.Dec.{ltb, leb}
use lib.ListN.{length, get_or, drop, length-append, get_or-append}
use lib.Seq.{get_or_at}
use borrow.Author.Tests.{eqb-true, eq-eqb, lt-ltb, le-ltb, ltb-true, ltb-false}
use Rattle.mrc_compiler.specs.Choose.{pick}
use Rattle.x86.specs.declared.Instruction.{Instruction}
use Rattle.x86.specs.Reading.{Read, reads}
use Rattle.x86.specs.Listing.{Bytes, ReadsAs, Among, here, later, First, Before}
use Rattle.x86.proofs.Among.{at_among}
use Rattle.text_line.specs.declared.TooShort.{TooShort}
use Rattle.short_list.specs.Short.{string_at, strings, whole_by, reads_whole, short_of, short_strings}
use Rattle.short_list.specs.Text.{short_text, written, slice_after}
use Rattle.short_list.specs.Complete.{AllShort, Prints}

-- ---- a list that grows at its end
nowhere : {s : List ℕ} → Among s [] → ⊥
nowhere = elim [ ]

among_left : (s : List ℕ) (l m : List (List ℕ)) → Among s l → Among s (l ++ m)
among_left s [] m a = absurd (nowhere a)
among_left s (t ∷ l) m here = here
among_left s (t ∷ l) m (later a) = later (among_left s l m a)

among_last : (s : List ℕ) (l : List (List ℕ)) → Among s (l ++ (s ∷ []))
among_last s [] = here
among_last s (t ∷ l) = later (among_last s l)

among_split : (s t : List ℕ) (l : List (List ℕ)) → Among s (l ++ (t ∷ [])) → Among s l ⊎ (s ≡ t)
among_split s t [] here = inr refl
among_split s t [] (later a) = absurd (nowhere a)
among_split s t (u ∷ l) here = inl here
among_split s t (u ∷ l) (later a) = ⊎_elim (λ b. inl (later b)) (λ e. inr e) (among_split s t l a)

-- ---- no string stands before itself
first_self : (s : List ℕ) → First s s → ⊥
first_self [] f = f
first_self (a ∷ s) f = ⊎_elim (λ l. absurd (omega (arith, l))) (λ (e, g). first_self s g) f

before_self : (s : List ℕ) → Before s s → ⊥
before_self s b = ⊎_elim (λ l. absurd (omega (arith, l))) (λ (e, f). first_self s f) b

-- so in a list that is in order none comes again
once : (l : List (List ℕ)) → ((i j : ℕ) → i < j → j < length l → Before (get_or l i []) (get_or l j []))
    → (i j : ℕ) → i < length l → j < length l → get_or l i [] ≡ get_or l j [] → i ≡ j
once l ordered i j h k e = go (ltb i j) (ltb j i) refl refl
  where
    go : (t u : Bool) → ltb i j ≡ t → ltb j i ≡ u → i ≡ j
    go true u p q = absurd (before_self (get_or l j []) (rw e at (ordered i j (ltb-true i j p) k)))
    go false true p q = absurd (before_self (get_or l j []) (rw e at (ordered j i (ltb-true j i q) h)))
    go false false p q = let a = ltb-false i j p in let b = ltb-false j i q in omega arith

-- ---- the strings by number
-- a string of one or two bytes has one
numbered : (s : List ℕ) → Bytes s → 1 ≤ length s → length s ≤ 2 → (k : ℕ) × (k < strings) × (string_at k ≡ s)
numbered [] b h l = absurd (omega arith)
numbered (x ∷ []) b h l = let u = b 0 in (x, omega arith, rw (lt-ltb x 256 u) refl)
numbered (x ∷ y ∷ []) b h l =
    let u = b 0 in
    let v = b 1 in
    let k = 256 + (256 * x + y) in
    let q : (k - 256) / 256 ≡ x = omega arith in
    let r : (k - 256) % 256 ≡ y = omega arith in
    (k, omega arith, rw (le-ltb k 256 (omega arith), q, r) refl)
numbered (x ∷ y ∷ z ∷ s) b h l = absurd (omega arith)

one_bytes : (x : ℕ) → x < 256 → Bytes (x ∷ [])
one_bytes x h zero = h
one_bytes x h (suc i) = omega arith

two_bytes : (x y : ℕ) → x < 256 → y < 256 → Bytes (x ∷ y ∷ [])
two_bytes x y h l zero = h
two_bytes x y h l (suc zero) = l
two_bytes x y h l (suc (suc i)) = omega arith

-- and is bytes
string_bytes : (k : ℕ) → k < strings → Bytes (string_at k) × (1 ≤ length (string_at k)) × (length (string_at k) ≤ 2)
string_bytes k h = go (ltb k 256) refl
  where
    go : (t : Bool) → ltb k 256 ≡ t
        → Bytes (pick t (k ∷ []) ((k - 256) / 256 ∷ (k - 256) % 256 ∷ []))
        × (1 ≤ length (pick t (k ∷ []) ((k - 256) / 256 ∷ (k - 256) % 256 ∷ [])))
        × (length (pick t (k ∷ []) ((k - 256) / 256 ∷ (k - 256) % 256 ∷ [])) ≤ 2)
    go true e = (one_bytes k (ltb-true k 256 e), omega arith, omega arith)
    go false e = (two_bytes ((k - 256) / 256) ((k - 256) % 256) (omega arith) (omega arith), omega arith, omega arith)

-- the lower number stands first
string_before : (j k : ℕ) → j < k → Before (string_at j) (string_at k)
string_before j k h = go (ltb j 256) (ltb k 256) refl refl
  where
    go : (t u : Bool) → ltb j 256 ≡ t → ltb k 256 ≡ u
        → Before (pick t (j ∷ []) ((j - 256) / 256 ∷ (j - 256) % 256 ∷ [])) (pick u (k ∷ []) ((k - 256) / 256 ∷ (k - 256) % 256 ∷ []))
    go true true e f = inr (refl, inl h)
    go true false e f = inl (omega arith)
    go false true e f = let a = ltb-false j 256 e in let b = ltb-true k 256 f in absurd (omega arith)
    go false false e f =
        let a = ltb-false j 256 e in
        inr (
          refl,
          ⊎_elim
              (λ q. let r : (j - 256) % 256 < (k - 256) % 256 = omega arith in inr (q, inl r))
              (λ l. inl l)
              (let w : (j - 256) / 256 ≤ (k - 256) / 256 = omega arith in eq-or-lt_of_le w),
        )

-- ---- whole
reads_whole_lem : (s : List ℕ) (m : Instruction) → ReadsAs 0 m s → reads_whole s ≡ true
unfolding reads_whole
reads_whole_lem s m e = rw e (eq-eqb (length s) (length s) refl)

whole_reads : (s : List ℕ) → reads_whole s ≡ true → (m : Instruction) × ReadsAs 0 m s
unfolding reads_whole
whole_reads s = go (reads 0 s) refl
  where
    go : (r : Read) → reads 0 s ≡ r → whole_by r (length s) ≡ true → (m : Instruction) × ReadsAs 0 m s
    go (Ok (m, n)) e q = (m, rw e (rw (eqb-true n (length s) q) refl))
    go (Err why) e q = let z : ◌≡◌ {A = ℕ} 0 1 = cc in absurd (omega arith)

-- ---- the first n
in_it : (k n : ℕ) → k < n → reads_whole (string_at k) ≡ true → Among (string_at k) (short_of n)
unfolding short_of
in_it k zero h e = absurd (omega arith)
in_it k (suc n) h e =
    ⊎_elim (λ q. rw (← q, e) (among_last (string_at k) (short_of k)))
    (λ l. among_left (string_at k) (short_of n) (pick (reads_whole (string_at n)) (string_at n ∷ []) []) (in_it k n l e))
    (eq-or-lt_of_le (le_of_suc-le-suc h))

record Its (s : List ℕ) (n : ℕ) : Type 0 where
  pub number : ℕ
  pub below : number < n
  pub is : s ≡ string_at number
  pub whole : reads_whole (string_at number) ≡ true

only_it : (s : List ℕ) (n : ℕ) → Among s (short_of n) → Its s n
unfolding short_of
only_it s zero a = absurd (nowhere a)
only_it s (suc n) a = go (reads_whole (string_at n)) refl (λ b. only_it s n b) a
  where
    more : Its s n → Its s (suc n)
    more i = record { number = i.number; below = omega (arith, i.below); is = i.is; whole = i.whole }

    go : (t : Bool) → reads_whole (string_at n) ≡ t → (Among s (short_of n) → Its s n) → Among s (short_of n ++ pick t (string_at n ∷ []) []) → Its s (suc n)
    go true e before a =
        ⊎_elim (λ b. more (before b)) (λ q. record { number = n; below = omega arith; is = q; whole = e }) (among_split s (string_at n) (short_of n) a)
    go false e before a = more (before (rw (append-nil (short_of n)) at a))

-- so a string that does not read stands nowhere
pub not_whole : (s : List ℕ) → reads_whole s ≡ false → Among s short_strings → ⊥
not_whole s e a =
    let it = only_it s strings a in
    let t : reads_whole s ≡ true = rw it.is it.whole in
    let z : ◌≡◌ {A = ℕ} 0 1 = cc in
    omega arith

ordered : (n i j : ℕ) → i < j → j < length (short_of n) → Before (get_or (short_of n) i []) (get_or (short_of n) j [])
unfolding short_of
ordered zero i j h l = absurd (omega arith)
ordered (suc n) i j h l = go (reads_whole (string_at n)) (λ l. ordered n i j h l) l
  where
    go : (t : Bool) → (j < length (short_of n) → Before (get_or (short_of n) i []) (get_or (short_of n) j [])) → j < length (short_of n ++ pick t (string_at n ∷ []) [])
        → Before (get_or (short_of n ++ pick t (string_at n ∷ []) []) i []) (get_or (short_of n ++ pick t (string_at n ∷ []) []) j [])
    go true before l =
        let m : j < length (short_of n) + 1 = rw (length-append (short_of n) (string_at n ∷ [])) at l in
        ⊎_elim
        (λ q.
        let e = get_or-append (short_of n) (string_at n ∷ []) [] i (omega arith) in
        let f = get_or_at (short_of n) (string_at n) [] [] j (sym q) in
        let it = only_it (get_or (short_of n) i []) n (at_among (short_of n) i (omega arith)) in
        rw (e, f, it.is) (string_before it.number n it.below))
        (λ k.
        let e = get_or-append (short_of n) (string_at n ∷ []) [] i (omega arith) in
        let f = get_or-append (short_of n) (string_at n ∷ []) [] j k in
        rw (e, f) (before k))
        (let w : j ≤ length (short_of n) = omega arith in eq-or-lt_of_le w)
    go false before l = rw (append-nil (short_of n)) (before (rw (append-nil (short_of n)) at l))

-- ---- all of them
pub all_short : AllShort short_strings
all_short = record {
  none_missing = λ s q.
      let (k, below, is) = numbered s q.are_bytes q.some q.short in
      let a = in_it k strings below (rw is (reads_whole_lem s q.instruction q.reads_it)) in
      rw is at a;
  none_beside = λ s a.
      let it = only_it s strings a in
      let (b, o, t) = string_bytes it.number it.below in
      let (m, r) = whole_reads (string_at it.number) it.whole in
      rw it.is (record { are_bytes = b; some = o; short = t; instruction = m; reads_it = r });
  none_again = once short_strings (ordered strings);
  in_order = ordered strings;
}

-- ---- what write_short answers
module _ (out : List ℕ) where
  -- where it answers a length, the slice holds the text of all short strings
  pub prints_all : (n : ℕ) → written (length out) ≡ Ok n → Prints n out (slice_after out)
  unfolding written slice_after short_text
  prints_all n = go (leb (length short_text) (length out))
    where
      go : (t : Bool) → ◌≡◌ {A = Result ℕ TooShort} (pick t (Ok (length short_text)) (Err (record {}))) (Ok n) → Prints n out (pick t (short_text ++ drop (length short_text) out) out)
      go true e =
          let q : n ≡ length short_text = cc in
          rw q (record { list = short_strings; all = all_short; long = refl; text = refl })
      go false e = let z : ◌≡◌ {A = ℕ} 0 1 = cc in absurd (omega arith)

  -- and else nothing has changed
  pub too_short_leaves : written (length out) ≡ Err (record {}) → slice_after out ≡ out
  unfolding written slice_after
  too_short_leaves = go (leb (length short_text) (length out))
    where
      go : (t : Bool) → ◌≡◌ {A = Result ℕ TooShort} (pick t (Ok (length short_text)) (Err (record {}))) (Err (record {})) → pick t (short_text ++ drop (length short_text) out) out ≡ out
      go true e = let z : ◌≡◌ {A = ℕ} 0 1 = cc in absurd (omega arith)
      go false e = refl
