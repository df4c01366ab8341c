-- The listing is exact: none missing, none beside, each once and in order, at most twelve.
-- Assumes nothing.
use Rattle.std.specs.Prelude.{Ok, Err, Option, Some, None}
use mathlib.Core.Path.{◌≡◌, refl, sym, subst}
use Prim.Native.Nat.{ℕ, zero, suc, ◌/◌, ◌%◌, ◌≤◌, ◌<◌, zero-le}
use native.Mathlib.Omega.{arith}
use native.Mathlib.Nat.{eq-or-lt_of_le, le_of_suc-le-suc, not-suc-le-zero}
use mathlib.Core.Bool.{Bool, true, false}
use mathlib.Core.Logic.{◌⊎◌, inl, inr, ⊎_elim}
use mathlib.Core.List.{List, [], ◌∷◌, ◌++◌}
use lib.Dec.{T, eqb, ltb, eqb→eq, eqb_refl}
use lib.ListN.{length, get_or}
use Rattle.mrc_compiler.specs.Choose.{pick}
use Rattle.x86.specs.declared.Instruction.{Instruction}
use Rattle.x86.specs.Reading.{Read, mode, low, displacement_length, reads}
use Rattle.x86.specs.Listing.{Bytes, ReadsAs, Among, here, later, IsListing}
use Rattle.x86.proofs.Tests.{both_left, both_right}
use Rattle.x86.proofs.Among.{at_among}
use Rattle.x86.proofs.Extend.{no_bytes, one_more}
use Rattle.x86.proofs.Sizes.{read_size}
use Rattle.encode_spec.specs.Layout.{word_bytes, prefix_bytes}
use Rattle.list_spec.specs.declared.Second.{Second}
use Rattle.list_spec.specs.declared.Second.TheVariants as X
use Rattle.list_spec.specs.declared.Tail.{Tail}
use Rattle.list_spec.specs.declared.Tail.TheVariants as L
use Rattle.list_spec.specs.declared.Start.{Start}
use Rattle.list_spec.specs.Operands.{prefix_of, displacement_of, value_of, far_segment_of, same_instruction}
use Rattle.list_spec.specs.Starts.{start_of}
use Rattle.list_spec.specs.Candidates.{byte_of, displacement_bytes, second_bytes, distance, tail_bytes, string_of, candidate_of, candidate}
use Rattle.list_spec.specs.Parts.{parts_of}
use Rattle.list_spec.specs.Possible.{possible}
use Rattle.list_spec.specs.Entries.{key, is_whole, reads_as, is_listed, insert_by, among, listing}
use Rattle.list_spec.proofs.Choices.{picked, both_true}
use Rattle.list_spec.proofs.Insertion.{three, Over, Rising, insert_rising, insert_length, rising_at}
use Rattle.list_spec.proofs.Same.{instruction_eq, instruction_same}
use Rattle.list_spec.proofs.Order.{append_bytes, key_before}
use Rattle.list_spec.proofs.Digits.{key_same}
use Rattle.list_spec.proofs.Found.{none_missing}

-- ---- the test is the reading
whole_is : (r : Read) (m : Instruction) (n : ℕ) → T (is_whole r m n) → r ≡ Ok (m, n)
unfolding is_whole
whole_is (Ok (i, k)) m n t =
    let a = instruction_eq i m (both_left (same_instruction i m) (eqb k n) t) in
    let b = eqb→eq k n (both_right (same_instruction i m) (eqb k n) t) in
    cc
whole_is (Err e) m n t = absurd t

is_whole_lem : (r : Read) (m : Instruction) (n : ℕ) → r ≡ Ok (m, n) → T (is_whole r m n)
unfolding is_whole
is_whole_lem r m n e =
    subst (λ (r : Read). T (is_whole r m n)) (sym e) (both_true (same_instruction m m) (eqb n n) (instruction_same m) (eqb_refl n))

-- ---- candidates are of bytes
byte_bytes : (v : ℕ) → Bytes (byte_of v)
byte_bytes v = one_more (v % 256) [] (omega arith) no_bytes

word_bytes_lem : (v : ℕ) → v < 65536 → Bytes (word_bytes v)
word_bytes_lem v h = one_more (v % 256) (v / 256 ∷ []) (omega arith) (one_more (v / 256) [] (omega arith) no_bytes)

displacement_bytes_lem : (n d : ℕ) → d < 65536 → Bytes (displacement_bytes n d)
displacement_bytes_lem n d h =
    picked Bytes (eqb n 0) no_bytes (picked Bytes (eqb n 1) (byte_bytes d) (word_bytes_lem d h))

second_bytes_lem : (x : Option Second) (d : ℕ) → d < 65536 → Bytes (second_bytes x d)
second_bytes_lem None d h = no_bytes
second_bytes_lem (Some (X.ModRm x)) d h =
    let n = displacement_length (mode x) (low x) in
    one_more (x % 256) (displacement_bytes n d) (omega arith) (displacement_bytes_lem n d h)
second_bytes_lem (Some (X.Fixed x)) d h = byte_bytes x

tail_bytes_lem : (t : Option Tail) (off d v s : ℕ) → d < 65536 → v < 65536 → s < 65536 → Bytes (tail_bytes t off d v s)
tail_bytes_lem None off d v s hd hv hs = no_bytes
tail_bytes_lem (Some L.Byte) off d v s hd hv hs = byte_bytes _
tail_bytes_lem (Some L.Word) off d v s hd hv hs = word_bytes_lem v hv
tail_bytes_lem (Some L.Near8) off d v s hd hv hs = byte_bytes _
tail_bytes_lem (Some L.Near16) off d v s hd hv hs = word_bytes_lem (distance v off 3) (omega arith)
tail_bytes_lem (Some L.Far) off d v s hd hv hs = append_bytes (word_bytes v) (word_bytes s) (word_bytes_lem v hv) (word_bytes_lem s hs)
tail_bytes_lem (Some L.Address) off d v s hd hv hs = word_bytes_lem d hd

string_bytes : (off p : ℕ) (s : Start) (m : Instruction) → p < 256 → Bytes (string_of off p s (parts_of m))
unfolding string_of
string_bytes off p s m h =
    let d = displacement_of m in
    let second = second_bytes s.second d in
    let tail = tail_bytes s.tail off d (value_of m) (far_segment_of m) in
    append_bytes (prefix_bytes p) (s.opcode % 256 ∷ (second ++ tail)) (picked Bytes (eqb p 0) no_bytes (one_more p [] h no_bytes))
    (one_more (s.opcode % 256) (second ++ tail) (omega arith)
    (append_bytes second tail (second_bytes_lem s.second d (omega arith)) (tail_bytes_lem s.tail off d (value_of m) (far_segment_of m) (omega arith) (omega arith) (omega arith))))

pub candidate_bytes : (off : ℕ) (m : Instruction) (i : ℕ) → Bytes (candidate off m i)
unfolding candidate_of
candidate_bytes off m i =
    picked Bytes (eqb m.repeat 0)
    (string_bytes off (pick (ltb i 6) 0 (prefix_of m)) (start_of (parts_of m) (i / 3 % 2) (i % 3)) m (picked (λ (n : ℕ). n < 256) (ltb i 6) (omega arith) (omega arith)))
    (append_bytes (byte_of m.repeat) (byte_of (start_of (parts_of m) (i / 3 % 2) (i % 3)).opcode) (byte_bytes m.repeat) (byte_bytes (start_of (parts_of m) (i / 3 % 2) (i % 3)).opcode))

-- ---- a string that the listing may have
pub record Listed (off : ℕ) (m : Instruction) (s : List ℕ) : Type 0 where
  pub reads_it : ReadsAs off m s
  pub are_bytes : Bytes s
  pub some : 1 ≤ length s
  pub short : length s ≤ 7

listed : (off : ℕ) (m : Instruction) (s : List ℕ) → Bytes s → ReadsAs off m s → Listed off m s
listed off m s bs e = let (a, b) = read_size off s m (length s) e in record { reads_it = e; are_bytes = bs; some = a; short = b }

pub candidate_listed : (off : ℕ) (m : Instruction) (i : ℕ) → T (is_listed off m i) → Listed off m (candidate off m i)
unfolding is_listed reads_as
candidate_listed off m i t =
    let s = candidate off m i in
    listed off m s (candidate_bytes off m i) (whole_is (reads off s) m (length s) (both_right (possible (parts_of m) i) (reads_as off m s) t))

-- ---- standing in a list
cases : {s t : List ℕ} {l : List (List ℕ)} → Among s (t ∷ l) → (s ≡ t) ⊎ Among s l
cases here = inl refl
cases (later a) = inr a

nowhere : {s : List ℕ} → Among s [] → ⊥
nowhere = elim [ ]

first_is : {s t : List ℕ} {l : List (List ℕ)} → s ≡ t → Among s (t ∷ l)
first_is {s} {t} {l} e = subst (λ (t : List ℕ). Among s (t ∷ l)) e here

-- ---- insertion
-- a string of the list, or the one inserted
insert_only : (s t : List ℕ) (l : List (List ℕ)) → Among s (insert_by key t l) → (s ≡ t) ⊎ Among s l
unfolding insert_by
insert_only s t [] = λ a. cases a
insert_only s t (u ∷ l) =
    three (key t) (key u) (Among s (insert_by key t (u ∷ l)) → (s ≡ t) ⊎ Among s (u ∷ l))
    (λ e _. rw e (λ a. cases a))
    (λ e d _. rw (e, d) (λ a. inr a))
    (λ e d _. rw (e, d) (λ a. ⊎_elim (λ z. inr (first_is z)) (λ b. ⊎_elim (λ z. inl z) (λ c. inr (later c)) (insert_only s t l b)) (cases a)))

-- the strings of the list stay
insert_old : (s t : List ℕ) (l : List (List ℕ)) → Among s l → Among s (insert_by key t l)
unfolding insert_by
insert_old s t [] a = absurd (nowhere a)
insert_old s t (u ∷ l) a =
    three (key t) (key u) (Among s (insert_by key t (u ∷ l)))
    (λ e _. rw e (later a))
    (λ e d _. rw (e, d) a)
    (λ e d _. rw (e, d) (⊎_elim (λ z. first_is z) (λ b. later (insert_old s t l b)) (cases a)))

-- the one inserted stands in it, where equal numbers are of equal strings
insert_here : (t : List ℕ) (l : List (List ℕ)) → ((u : List ℕ) → Among u l → key t ≡ key u → t ≡ u) → Among t (insert_by key t l)
unfolding insert_by
insert_here t [] f = here
insert_here t (u ∷ l) f =
    three (key t) (key u) (Among t (insert_by key t (u ∷ l)))
    (λ e _. rw e here)
    (λ e d z. rw (e, d) (first_is (f u here z)))
    (λ e d _. rw (e, d) (later (insert_here t l (λ v a. f v (later a)))))

-- ---- the candidates one after the other
two : (P : List (List ℕ) → Type 0) (q : Bool) (a b : List (List ℕ)) → (T q → P a) → P b → P (pick q a b)
two P true a b f h = f tt
two P false a b f h = h

yes : (P : List (List ℕ) → Type 0) (q : Bool) (a b : List (List ℕ)) → T q → P a → P (pick q a b)
yes P true a b t h = h
yes P false a b t h = absurd t

module _ (off : ℕ) (m : Instruction) where
  abbrev s : ℕ → List ℕ
  s i = candidate off m i

  among_rising : (n : ℕ) → Rising key (among off m n)
  unfolding among
  among_rising zero = tt
  among_rising (suc n) =
      two (Rising key) (is_listed off m n) (insert_by key (s n) (among off m n)) (among off m n) (λ _. insert_rising key (s n) (among off m n) (among_rising n)) (among_rising n)

  among-length : (n : ℕ) → length (among off m n) ≤ n
  unfolding among
  among-length zero = zero-le
  among-length (suc n) =
      two (λ (l : List (List ℕ)). length l ≤ suc n) (is_listed off m n) (insert_by key (s n) (among off m n)) (among off m n)
      (λ _. omega (arith, insert_length key (s n) (among off m n), among-length n)) (omega (arith, among-length n))

  pub among_only : (t : List ℕ) (n : ℕ) → Among t (among off m n) → Listed off m t
  unfolding among
  among_only t zero = λ a. absurd (nowhere a)
  among_only t (suc n) =
      two (λ (l : List (List ℕ)). Among t l → Listed off m t) (is_listed off m n) (insert_by key (s n) (among off m n)) (among off m n)
      (λ q a. ⊎_elim (λ e. subst (Listed off m) (sym e) (candidate_listed off m n q)) (λ b. among_only t n b) (insert_only t (s n) (among off m n) a))
      (λ a. among_only t n a)

  -- equal numbers are of equal strings
  same_string : (t : List ℕ) (n : ℕ) → Listed off m t → (u : List ℕ) → Among u (among off m n) → key t ≡ key u → t ≡ u
  same_string t n l u a e = let k = among_only u n a in key_same t u l.short k.short l.are_bytes k.are_bytes e

  among_in : (i n : ℕ) → i < n → T (is_listed off m i) → Among (s i) (among off m n)
  unfolding among
  among_in i zero h t = absurd (not-suc-le-zero h)
  among_in i (suc n) h t =
      ⊎_elim
      (λ (e : i ≡ n).
      subst (λ (j : ℕ). Among (s i) (pick (is_listed off m j) (insert_by key (s j) (among off m n)) (among off m n))) e
      (yes (Among (s i)) (is_listed off m i) (insert_by key (s i) (among off m n)) (among off m n) t
      (insert_here (s i) (among off m n) (same_string (s i) n (candidate_listed off m i t)))))
      (λ l.
      two (Among (s i)) (is_listed off m n) (insert_by key (s n) (among off m n)) (among off m n)
      (λ _. insert_old (s i) (s n) (among off m n) (among_in i n l t)) (among_in i n l t))
      (eq-or-lt_of_le (le_of_suc-le-suc h))

-- ---- what reads as m is a listed candidate
pub record SomeCandidate (off : ℕ) (m : Instruction) (s : List ℕ) : Type 0 where
  pub i : ℕ
  pub below : i < 12
  pub is : s ≡ candidate off m i
  pub listed : T (is_listed off m i)

pub some_candidate : (off : ℕ) (m : Instruction) → off < 65536 → (s : List ℕ) → Bytes s → ReadsAs off m s → SomeCandidate off m s
unfolding is_listed reads_as
some_candidate off m h s bs e =
    let f = none_missing off s m h bs e in
    let r : T (reads_as off m (candidate off m f.i)) = subst (λ (u : List ℕ). T (is_whole (reads off u) m (length u))) f.is (is_whole_lem (reads off s) m (length s) e) in
    record { i = f.i; below = f.below; is = f.is; listed = both_true (possible (parts_of m) f.i) (reads_as off m (candidate off m f.i)) f.can r }

pub listed_in : (off : ℕ) (m : Instruction) → off < 65536 → (s : List ℕ) → Bytes s → ReadsAs off m s → Among s (listing off m)
listed_in off m h s bs e =
    let c = some_candidate off m h s bs e in
    subst (λ (u : List ℕ). Among u (listing off m)) (sym c.is) (among_in off m c.i 12 c.below c.listed)

-- ---- demand 3 for every instruction
pub listing_is : (off : ℕ) (m : Instruction) → off < 65536 → IsListing off m (listing off m)
listing_is off m h =
    record {
      none_missing = λ s bs one seven e. listed_in off m h s bs e;
      none_beside = λ s a. let l = among_only off m s 12 a in (l.are_bytes, l.some, l.short, l.reads_it);
      in_order = λ i j k l.
          let a = among_only off m (get_or (listing off m) i []) 12 (at_among (listing off m) i (omega arith)) in
          let b = among_only off m (get_or (listing off m) j []) 12 (at_among (listing off m) j l) in
          key_before (get_or (listing off m) i []) (get_or (listing off m) j []) a.are_bytes b.are_bytes a.short b.short
          (rising_at key [] (listing off m) i j (among_rising off m 12) k l);
    }

-- twelve at most
pub few : (off : ℕ) (m : Instruction) → length (listing off m) ≤ 12
few off m = among-length off m 12

-- ---- the first
over_lower : (s b : List ℕ) (l : List (List ℕ)) → Over key s l → Among b l → key s < key b
over_lower s b [] o a = absurd (nowhere a)
over_lower s b (t ∷ l) o a =
    ⊎_elim (λ (e : b ≡ t). subst (λ (u : List ℕ). key s < key u) (sym e) o.0) (λ r. let k = over_lower t b l o.1 r in let j = o.0 in omega arith) (cases a)

lowest : (b : List ℕ) (l : List (List ℕ)) → Rising key l → Among b l → key (get_or l 0 []) ≤ key b
lowest b [] r a = absurd (nowhere a)
lowest b (t ∷ l) r a =
    ⊎_elim (λ (e : b ≡ t). subst (λ (u : List ℕ). key t ≤ key u) (sym e) (omega arith)) (λ i. let k = over_lower t b l r i in omega arith) (cases a)

-- a list with a string has a first
pub first_of_some : (b : List ℕ) (l : List (List ℕ)) → Among b l → Among (get_or l 0 []) l
first_of_some b [] a = absurd (nowhere a)
first_of_some b (t ∷ l) a = here

-- its number is the lowest
pub first_lowest : (off : ℕ) (m : Instruction) (b : List ℕ) → Among b (listing off m) → key (get_or (listing off m) 0 []) ≤ key b
first_lowest off m b a = lowest b (listing off m) (among_rising off m 12) a
