-- The laws that the loader's loops rest on: the step over a record, and what stands at the front of a lent slice.
-- Assumes nothing.
use Rattle.std.proofs.Common.{◌≡◌, ℕ, zero, suc, ◌+◌, ◌-◌, ◌*◌, ◌<◌, ◌≤◌, Bool, true, false, ltb, List, [], ◌∷◌, ◌++◌, length, take, refl, sym, ap, ◌∙◌, ⊎_elim, le_of_suc-le-suc, eq-or-lt_of_le, add-one, arith, length-append, le-ltb, lt-ltb, Err, Ok, Result}
use Rattle.mrc_compiler.specs.declared.encoder.EncodeError.{EncodeError}
use Rattle.mrc_compiler.specs.Choose.{pick}
use Rattle.encode_spec.specs.Answer.{Answer, bytes, refused}
use Rattle.encode_spec.proofs.Outcomes.{Short, answer_short}
use Rattle.encode_run.specs.declared.ByteRun.{ByteRun}
use Rattle.encode_run.specs.Run.{empty_run, appended}
use Rattle.encode_codes.specs.Emit.{emitted}
use Rattle.encoder.specs.Lengths.{length_of}
use Rattle.show_file.specs.declared.Header.{Header}
use Rattle.show_file.specs.declared.LoadError.{LoadError}
use Rattle.show_file.specs.declared.LoadError.TheVariants as Le
use Rattle.show_file.specs.Show.{insn_at, opened, first_from, first_unknown}
use Rattle.show_file.proofs.Opening.{Exact, opened_exact}
use Rattle.show_load.specs.Loading.{Walk, all, stopped, offset_behind, answer_at, bytes_of, followed, further, walk, bytes_in, is_all, is_over, first_over, measured, show_accepted, accepted_by, accepted}

-- ---- the run of an answer: its bytes, at most seven
pub record Ran (run : ByteRun) (bs : List ℕ) : Type 0 where
  pub shown : take run.len run.bytes ≡ bs
  pub count : run.len ≡ length bs
  pub whole : length run.bytes ≡ 7
  pub short : length bs ≤ 7

ran_bytes : (bs : List ℕ) → length bs ≤ 7 → Ran (appended empty_run bs) bs
ran_bytes [] h = record { shown = refl; count = refl; whole = refl; short = h }
ran_bytes (a ∷ []) h = record { shown = refl; count = refl; whole = refl; short = h }
ran_bytes (a ∷ b ∷ []) h = record { shown = refl; count = refl; whole = refl; short = h }
ran_bytes (a ∷ b ∷ c ∷ []) h = record { shown = refl; count = refl; whole = refl; short = h }
ran_bytes (a ∷ b ∷ c ∷ d ∷ []) h = record { shown = refl; count = refl; whole = refl; short = h }
ran_bytes (a ∷ b ∷ c ∷ d ∷ e ∷ []) h = record { shown = refl; count = refl; whole = refl; short = h }
ran_bytes (a ∷ b ∷ c ∷ d ∷ e ∷ f ∷ []) h = record { shown = refl; count = refl; whole = refl; short = h }
ran_bytes (a ∷ b ∷ c ∷ d ∷ e ∷ f ∷ g ∷ []) h = record { shown = refl; count = refl; whole = refl; short = h }
ran_bytes (a ∷ b ∷ c ∷ d ∷ e ∷ f ∷ g ∷ x ∷ bs) h = absurd (omega arith)

ran_by : {run : ByteRun} (a : Answer) → Short a → emitted empty_run a ≡ Ok run → Ran run (bytes_of a)
ran_by {run} (bytes bs) h q = let r : appended empty_run bs ≡ run = cc in rw (← r) (ran_bytes bs h)
ran_by (refused e) h q = cc

pub answer_at_short : (file : List ℕ) (origin k at : ℕ) → Short (answer_at file origin k at)
answer_at_short file origin k at = answer_short (insn_at file k) (offset_behind origin at) (omega arith)

-- what run_at gives: a run, or a refusal, which has no bytes
pub ran : (file : List ℕ) (origin k at : ℕ) {d : Result ByteRun EncodeError} → d ≡ emitted empty_run (answer_at file origin k at)
    → {run : ByteRun} → d ≡ Ok run → Ran run (bytes_of (answer_at file origin k at))
ran file origin k at hd q = ran_by (answer_at file origin k at) (answer_at_short file origin k at) (sym hd ∙ q)

none_by : {e : EncodeError} (a : Answer) → emitted empty_run a ≡ Err e → bytes_of a ≡ []
none_by (bytes bs) q = cc
none_by (refused x) q = refl

pub none_ran : (file : List ℕ) (origin k at : ℕ) {d : Result ByteRun EncodeError} → d ≡ emitted empty_run (answer_at file origin k at)
    → {e : EncodeError} → d ≡ Err e → bytes_of (answer_at file origin k at) ≡ []
none_ran file origin k at hd q = none_by (answer_at file origin k at) (sym hd ∙ q)

-- ---- the walk
walk_next : (file : List ℕ) (origin k : ℕ) (bs : List ℕ) → walk file origin k ≡ all bs
    → walk file origin (suc k) ≡ followed k bs (answer_at file origin k (length bs))
unfolding walk
walk_next file origin k bs e = rw e

walk_on : (file : List ℕ) (origin k i : ℕ) (e : EncodeError) → walk file origin k ≡ stopped i e → walk file origin (suc k) ≡ stopped i e
unfolding walk
walk_on file origin k i e q = rw q

-- a refusal stays, whatever follows
stays : (file : List ℕ) (origin k n i : ℕ) (e : EncodeError) → walk file origin k ≡ stopped i e → k ≤ n → walk file origin n ≡ stopped i e
stays file origin k zero i e q h = let z : k ≡ 0 = omega arith in rw z at q
stays file origin k (suc n) i e q h =
    ⊎_elim (λ z. rw z at q) (λ l. walk_on file origin n i e (stays file origin k n i e q (le_of_suc-le-suc l))) (eq-or-lt_of_le h)

-- ---- where all are accepted
all_not_stopped : {k : ℕ} {e : EncodeError} {w : Walk} → is_all w ≡ true → w ≡ stopped k e → ⊥
all_not_stopped t q = let f : false ≡ true = rw q at t in let z : ◌≡◌ {A = ℕ} 0 1 = cc in omega arith

-- the first k records are accepted, and end at `at`
pub record Upto (file : List ℕ) (origin k at : ℕ) : Type 0 where
  pub whole : walk file origin k ≡ all (bytes_in (walk file origin k))
  pub ends : at ≡ length (bytes_in (walk file origin k))

pub upto_start : (file : List ℕ) (origin : ℕ) → Upto file origin 0 0
unfolding walk
upto_start file origin = record { whole = refl; ends = refl }

-- one step: record k's bytes stand behind the others
pub record Step (file : List ℕ) (origin k at : ℕ) : Type 0 where
  pub after : bytes_in (walk file origin (k + 1)) ≡ bytes_in (walk file origin k) ++ bytes_of (answer_at file origin k at)
  pub upto : Upto file origin (k + 1) (at + length (bytes_of (answer_at file origin k at)))

module _ (file : List ℕ) (origin k at : ℕ) (u : Upto file origin k at) where
  next_is : walk file origin (suc k) ≡ followed k (bytes_in (walk file origin k)) (answer_at file origin k at)
  next_is = rw u.ends (walk_next file origin k (bytes_in (walk file origin k)) u.whole)

  pub step_bytes : (cs : List ℕ) → answer_at file origin k at ≡ bytes cs → Step file origin k at
  step_bytes cs e =
      let n : walk file origin (k + 1) ≡ all (bytes_in (walk file origin k) ++ cs) = rw (add-one k) (next_is ∙ rw e) in
      record {
        after = rw (n, e) refl;
        upto = record { whole = rw n refl; ends = rw (n, e, length-append (bytes_in (walk file origin k)) cs, ← u.ends) refl };
      }

  pub step_stops : (e : EncodeError) → answer_at file origin k at ≡ refused e → (n : ℕ) → k < n → walk file origin n ≡ stopped k e
  step_stops e q n h = stays file origin (suc k) n k e (next_is ∙ rw q) h

  -- by what length_at gives
  pub step_length : (m : ℕ) → Ok m ≡ length_of (answer_at file origin k at) → Step file origin k at × (m ≡ length (bytes_of (answer_at file origin k at)))
  step_length m q = go (answer_at file origin k at) refl
    where
      go : (a : Answer) → answer_at file origin k at ≡ a → Step file origin k at × (m ≡ length (bytes_of (answer_at file origin k at)))
      go (bytes cs) e = let r : Ok m ≡ Ok (length cs) = rw e at q in (step_bytes cs e, rw e (cc))
      go (refused x) e = let r : Ok m ≡ Err x = rw e at q in let z : ◌≡◌ {A = ℕ} 0 1 = cc in absurd (omega arith)

  pub step_refused : (x : EncodeError) → Err x ≡ length_of (answer_at file origin k at) → (n : ℕ) → k < n → walk file origin n ≡ stopped k x
  step_refused x q n h = go (answer_at file origin k at) refl
    where
      go : (a : Answer) → answer_at file origin k at ≡ a → walk file origin n ≡ stopped k x
      go (bytes cs) e = let r : Err x ≡ Ok (length cs) = rw e at q in let z : ◌≡◌ {A = ℕ} 0 1 = cc in absurd (omega arith)
      go (refused y) e = let r : Err x ≡ Err y = rw e at q in let same : y ≡ x = cc in step_stops x (rw same at e) n h

  -- where the first n are accepted
  module _ (n : ℕ) (t : is_all (walk file origin n) ≡ true) (h : k < n) where
    pub answered_all : (cs : List ℕ) × (answer_at file origin k at ≡ bytes cs)
    answered_all = go (answer_at file origin k at) refl
      where
        go : (a : Answer) → answer_at file origin k at ≡ a → (cs : List ℕ) × (answer_at file origin k at ≡ bytes cs)
        go (bytes cs) e = (cs, e)
        go (refused x) e = absurd (all_not_stopped t (step_stops x e n h))

    pub step_all : Step file origin k at
    step_all = step_bytes answered_all.0 answered_all.1

-- where they are, no later record ends earlier
grows : (file : List ℕ) (origin n j k at : ℕ) → Upto file origin k at → is_all (walk file origin n) ≡ true → n ≡ k + j → at ≤ length (bytes_in (walk file origin n))
grows file origin n zero k at u t e = let z : n ≡ k = omega arith in rw z (omega (arith, u.ends))
grows file origin n (suc j) k at u t e =
    let s = step_all file origin k at u n t (omega arith) in
    let g = grows file origin n j (k + 1) (at + length (bytes_of (answer_at file origin k at))) s.upto t (omega arith) in
    omega arith

pub step_in : (file : List ℕ) (origin k at : ℕ) → Upto file origin k at → (n : ℕ) → is_all (walk file origin n) ≡ true → k < n
    → at + length (bytes_of (answer_at file origin k at)) ≤ length (bytes_in (walk file origin n))
step_in file origin k at u n t h = grows file origin n (n - (k + 1)) (k + 1) _ (step_all file origin k at u n t h).upto t (omega arith)

-- ---- records have at most seven bytes each
within_by : (k : ℕ) (bs : List ℕ) → length bs ≤ 7 * k → (a : Answer) → Short a → length (bytes_in (followed k bs a)) ≤ 7 * suc k
within_by k bs h (bytes cs) q = rw (length-append bs cs) (omega arith)
within_by k bs h (refused e) q = omega arith

within_next : (file : List ℕ) (origin k : ℕ) (w : Walk) → length (bytes_in w) ≤ 7 * k → length (bytes_in (further file origin k w)) ≤ 7 * suc k
within_next file origin k (all bs) h = within_by k bs h (answer_at file origin k (length bs)) (answer_at_short file origin k (length bs))
within_next file origin k (stopped i e) h = omega arith

pub within_seven : (file : List ℕ) (origin n : ℕ) → length (bytes_in (walk file origin n)) ≤ 7 * n
unfolding walk
within_seven file origin zero = omega arith
within_seven file origin (suc n) = within_next file origin n (walk file origin n) (within_seven file origin n)

-- ---- an end behind the image's
module _ (file : List ℕ) (origin size k m : ℕ) (e : m ≡ length (bytes_in (walk file origin (k + 1)))) where
  pub over_yes : size < m → is_over file origin size k ≡ true
  unfolding is_over
  over_yes z = lt-ltb size (length (bytes_in (walk file origin (suc k)))) (rw (← (add-one k), ← e) z)

  pub over_no : m ≤ size → is_over file origin size k ≡ false
  unfolding is_over
  over_no z = le-ltb size (length (bytes_in (walk file origin (suc k)))) (rw (← (add-one k), ← e) z)

-- ---- the first that does not fit is one of the records
from_le : (f : ℕ → Bool) (k i j : ℕ) → i ≤ j → j < i + k → f j ≡ true → first_from f k i ≤ j
from_le f zero i j a b t = absurd (omega arith)
from_le f (suc k) i j a b t = go (f i) refl (λ h. from_le f k (suc i) j h (omega arith) t)
  where
    go : (c : Bool) → f i ≡ c → (suc i ≤ j → first_from f k (suc i) ≤ j) → pick c i (first_from f k (suc i)) ≤ j
    go true e r = a
    go false e r = ⊎_elim (λ q. let w : f i ≡ true = rw q t in let z : ◌≡◌ {A = ℕ} 0 1 = cc in absurd (omega arith)) r (eq-or-lt_of_le a)

pub over_below : (file : List ℕ) (origin size n : ℕ) → size < length (bytes_in (walk file origin n)) → first_over file origin size n < n
unfolding is_over walk
over_below file origin size zero h = absurd (omega arith)
over_below file origin size (suc n) h =
    let l = from_le (is_over file origin size) (suc n) 0 n (omega arith) (omega arith) (lt-ltb size (length (bytes_in (walk file origin (suc n)))) h) in
    omega arith

-- ---- an accepted show: the length of its records is asked, and each is accepted
pub record Accepted (limit : ℕ) (file : List ℕ) (h : Header) (n : ℕ) : Type 0 where
  pub exact : Exact limit file h
  pub all_in : is_all (walk file h.origin h.count) ≡ true
  pub size : n ≡ length (bytes_in (walk file h.origin h.count))

-- a header with a length, and how two of them are the same
abbrev pub as_image : Header → ℕ → Result (Header × ℕ) LoadError
as_image h n = Ok (h, n)

pub same_image : {g h : Header} {m n : ℕ} → as_image g m ≡ as_image h n → (g ≡ h) × (m ≡ n)
same_image {g} {h} {m} {n} q =
    let p : ◌≡◌ {A = Header × ℕ} (g, m) (h, n) = cc in
    (ap (λ (x : Header × ℕ). x.0) p, ap (λ (x : Header × ℕ). x.1) p)

pub refused_image : {x : LoadError} {h : Header} {n : ℕ} → Err x ≡ as_image h n → ⊥
refused_image e = let z : ◌≡◌ {A = ℕ} 0 1 = cc in omega arith

module _ (limit : ℕ) (file : List ℕ) (h : Header) (n : ℕ) where
  measured_image : (g : Header) (w : Walk) → measured g w ≡ Ok (h, n) → (g ≡ h) × (is_all w ≡ true) × (n ≡ length (bytes_in w))
  measured_image g (all bs) q = let (a, b) = same_image q in (a, refl, sym b)
  measured_image g (stopped k e) q = absurd (refused_image q)

  show_image : (g : Header) → opened limit file ≡ Ok g → show_accepted file g ≡ Ok (h, n) → Accepted limit file h n
  unfolding show_accepted
  show_image g e q = go (ltb (first_unknown file g.count) g.count) q
    where
      go : (b : Bool) → pick b (Err (Le.UnknownCode (first_unknown file g.count))) (measured g (walk file g.origin g.count)) ≡ Ok (h, n)
          → Accepted limit file h n
      go true q = absurd (refused_image q)
      go false q =
          let (same, t, size) = measured_image g (walk file g.origin g.count) q in
          record { exact = opened_exact limit file h (rw same at e); all_in = rw same at t; size = rw same at size }

  pub accepted_image : accepted limit file ≡ Ok (h, n) → Accepted limit file h n
  accepted_image q = go (opened limit file) refl q
    where
      go : (o : Result Header LoadError) → opened limit file ≡ o → accepted_by file o ≡ Ok (h, n) → Accepted limit file h n
      go (Ok g) e q = show_image g e q
      go (Err x) e q = absurd (refused_image q)
