-- Demand 2 for a show that loads: each record's part of the image reads as the record's instruction.
-- Assumes nothing.
use Rattle.std.proofs.Common.{◌≡◌, ℕ, zero, suc, ◌+◌, ◌-◌, ◌<◌, ◌≤◌, Bool, true, false, leb, List, [], ◌++◌, length, take, drop, sym, refl, ◌∙◌, append_assoc, append-nil, add-one, arith, length-append, Err, Ok, Result}
use lib.Seq.{take-append_seam, drop-append_seam}
use Rattle.mrc_compiler.specs.Choose.{pick}
use Rattle.encode_spec.specs.Meaning.{meaning}
use Rattle.encode_spec.specs.Answer.{bytes}
use Rattle.encode_spec.proofs.Accepted.{Reads, accepted_reads}
use Rattle.show_file.specs.declared.LoadError.{LoadError}
use Rattle.show_file.specs.declared.Header.{Header}
use Rattle.show_file.specs.Show.{most_records, insn_at}
use Rattle.show_load.specs.Loading.{offset_behind, answer_at, walk, bytes_in, is_all, too_short, first_over, fitted, accepted, loaded, image_after}
use Rattle.show_load.specs.Demand2.{part, Loaded2}
use Rattle.show_load.proofs.Laws.{Upto, upto_start, answered_all, step_all, as_image, refused_image, accepted_image}

-- ---- the records of a file of which all n are accepted
module _ (file : List ℕ) (origin n : ℕ) (t : is_all (walk file origin n) ≡ true) where
  -- the bytes of the first k records
  abbrev w : ℕ → List ℕ
  w k = bytes_in (walk file origin k)

  pub upto : (k : ℕ) → k ≤ n → Upto file origin k (length (w k))
  upto zero h = record { whole = (upto_start file origin).whole; ends = refl }
  upto (suc k) h =
      let u = (step_all file origin k (length (w k)) (upto k (omega arith)) n t (omega arith)).upto in
      record { whole = rw (add-one k) at u.whole; ends = refl }

  module _ (k : ℕ) (h : k < n) where
    abbrev own : List ℕ
    own = (answered_all file origin k (length (w k)) (upto k (omega arith)) n t h).0

    is_own : answer_at file origin k (length (w k)) ≡ bytes own
    is_own = (answered_all file origin k (length (w k)) (upto k (omega arith)) n t h).1

    next : w (k + 1) ≡ w k ++ own
    next = (step_all file origin k (length (w k)) (upto k (omega arith)) n t h).after ∙ rw is_own

    own_reads : Reads (offset_behind origin (length (w k))) (meaning (insn_at file k)) own
    own_reads = accepted_reads (insn_at file k) (offset_behind origin (length (w k))) (omega arith) own is_own

  -- the bytes of the others stand behind those of the first k
  behind : (j k : ℕ) → k + j ≡ n → (r : List ℕ) × (w n ≡ w k ++ r)
  behind zero k e = let z : n ≡ k = omega arith in ([], rw z (sym (append-nil (w k))))
  behind (suc j) k e =
      let (r, q) = behind j (k + 1) (omega arith) in
      let m = next k (omega arith) in
      (own k (omega arith) ++ r, q ∙ rw (m) (append_assoc (w k) (own k (omega arith)) r))

  -- record k's part
  module _ (k : ℕ) (h : k < n) (d : List ℕ) where
    its_part : part (length (w k)) (length (w (k + 1))) (w n ++ d) ≡ own k h
    its_part =
        let l : length (w (k + 1)) - length (w k) ≡ length (own k h) = rw (next k h, length-append (w k) (own k h)) (omega arith) in
        let (s, p) = behind (n - (k + 1)) (k + 1) (omega arith) in
        let whole : w n ++ d ≡ w k ++ (own k h ++ (s ++ d)) = rw (p, next k h) (simp append_assoc) in
        rw (l, whole, drop-append_seam (w k) (own k h ++ (s ++ d)), take-append_seam (own k h) (s ++ d)) refl

-- ---- a file that loads
module _ (file : List ℕ) (h : Header) (n : ℕ) (image : List ℕ) where
  fits : (a : Result (Header × ℕ) LoadError) → fitted file (length image) a ≡ Ok (h, n) → a ≡ Ok (h, n)
  fits (Err e) q = q
  fits (Ok (g, m)) q = go (leb m (length image)) q
    where
      go : (b : Bool) → pick b (as_image g m) (Err (too_short file (first_over file g.origin (length image) g.count))) ≡ as_image h n → as_image g m ≡ as_image h n
      go true q = q
      go false q = absurd (refused_image q)

  -- record k's bytes begin behind those of the records before it
  pub reads_at : loaded file (length image) ≡ Ok (h, n) → Loaded2 file h n (λ k. length (bytes_in (walk file h.origin k))) image (image_after file image)
  reads_at q =
      let a = accepted_image most_records file h n (fits (accepted most_records file) q) in
      let t = a.all_in in
      let o = h.origin in
      let c = h.count in
      let d = drop (length (w file o c t c)) image in
      let after : image_after file image ≡ w file o c t c ++ d = rw q refl in
      record {
        first = rw (← (upto_start file o).ends) refl;
        last = sym a.size;
        follows = λ k l. rw (next file o c t k l, length-append (w file o c t k) (own file o c t k l)) (omega (arith, (own_reads file o c t k l).some));
        whole = λ k l. rw (after, its_part file o c t k l d, next file o c t k l, length-append (w file o c t k) (own file o c t k l)) refl;
        each_reads = λ k l. rw (after, its_part file o c t k l d) (own_reads file o c t k l).reads_it;
        rest = rw (after, a.size) (drop-append_seam (w file o c t c) d);
      }

  pub show_reads : loaded file (length image) ≡ Ok (h, n) → (starts : ℕ → ℕ) × Loaded2 file h n starts image (image_after file image)
  show_reads q = (λ k. length (bytes_in (walk file h.origin k)), reads_at q)
