-- The written file as the loader reads it: its header, its length, and its records.
-- Assumes nothing.
use mathlib.Core.Path.{◌≡◌, refl, sym, ◌∙◌, ap}
use mathlib.Core.Bool.{Bool, true, false}
use mathlib.Core.List.{List, [], ◌∷◌, ◌++◌, append_assoc, append-nil}
use mathlib.Core.Logic.{⊎_elim}
use Prim.Native.Nat.{ℕ, zero, suc, ◌+◌, ◌*◌, ◌<◌, ◌≤◌}
use native.Mathlib.Nat.{le_of_suc-le-suc, eq-or-lt_of_le}
use native.Mathlib.Omega.{arith}
use lib.IntN.{ℤ, pos}
use lib.ListN.{length, take, drop, get_or, length-append, length-drop, get_or-append}
use lib.Seq.{length-take-le, take_at, drop_at, get_or-take, get_or-append-add}
use lib.Signed.{mag}
use Rattle.mrc_compiler.specs.declared.encoder.InstructionData.{InstructionData}
use Rattle.mrc_compiler.specs.Choose.{pick}
use Rattle.encode_spec.specs.Records.{dst, src}
use Rattle.encode_spec.specs.Layout.{word_bytes}
use Rattle.show_record.specs.Record.{first_place, second_place, imm_place, instruction_at, codes_known}
use Rattle.show_file.specs.declared.Header.{Header}
use Rattle.show_file.specs.Show.{count_place, origin_place, version_place, has_mark, u16_at, header, record_bytes, record_place, record_at, insn_at}
use Rattle.convert_spec.specs.Counts.{has_count, times, with_imm, with_operands, with_count_one}
use Rattle.convert_spec.specs.OldStarts.{first_copy}
use Rattle.convert_spec.specs.Targets.{branch_of, is_branch}
use Rattle.convert_spec.specs.Written.{new_imm, replaced, new_record, copies, records, written}
use Rattle.convert_laws.specs.NewRecords.{with_first, new_insn}
use Rattle.convert_laws.specs.Passed.{Show1}
use Rattle.convert_laws.proofs.Fields.{replaced-length, no_repeat, first_known, second_known, first_replaced, second_replaced}
use Rattle.convert_laws.proofs.Shown.{each_is}

-- ---- the copies before a place
pub copies_next : (file : List ℕ) (k : ℕ) → first_copy file (suc k) ≡ first_copy file k + times (insn_at file k)
unfolding first_copy
copies_next file k = refl

pub copies_below : (file : List ℕ) (k n : ℕ) → k ≤ n → first_copy file k ≤ first_copy file n
unfolding first_copy
copies_below file k zero h = let e : k ≡ 0 = omega arith in rw e (omega arith)
copies_below file k (suc n) h =
    ⊎_elim (λ e. rw e (omega arith)) (λ l. let b = copies_below file k n (le_of_suc-le-suc l) in omega arith) (eq-or-lt_of_le h)

-- ---- lists
pub copies_length : (i : ℕ) (rec : List ℕ) → length rec ≡ 56 → length (copies i rec) ≡ 56 * i
copies_length zero rec h = refl
copies_length (suc i) rec h = rw (length-append (copies i rec) rec, copies_length i rec h) (omega arith)

regrouped : (a b c d : List ℕ) → a ++ (b ++ (c ++ d)) ≡ ((a ++ b) ++ c) ++ d
regrouped a b c d = simp append_assoc

-- copy i, and what follows it
copies_split : (t i : ℕ) (rec : List ℕ) → i < t → (rest : List ℕ) × (copies t rec ≡ copies i rec ++ (rec ++ rest))
copies_split zero i rec h = absurd (omega arith)
copies_split (suc t) i rec h =
    ⊎_elim (λ e. let d : i ≡ t = omega arith in ([], rw (d, append-nil rec)))
    (λ l. let (rest, e) = copies_split t i rec (le_of_suc-le-suc l) in (rest ++ rec, rw e (simp append_assoc)))
    (eq-or-lt_of_le h)

-- ---- a file that was opened
module _ (file : List ℕ) (h : Header) (x : Show1 file h) where
  abbrev n : ℕ
  n = h.count

  abbrev origin : ℕ
  origin = h.origin

  abbrev W : List ℕ
  W = written file h

  pub record_length : (k : ℕ) → k < n → length (record_at file k) ≡ 56
  record_length k l =
      let d = length-drop (9 + 56 * k) file in
      rw x.each (length-take-le 56 (drop (9 + 56 * k) file) (omega (arith, x.its_length)))

  pub new_length : (k : ℕ) → k < n → length (new_record file origin n k) ≡ 56
  unfolding new_record
  new_length k l = go (is_branch (branch_of (insn_at file k))) (has_count (insn_at file k))
    where
      is : length (record_at file k) ≡ 56
      is = record_length k l

      go : (b c : Bool) → length (pick b (replaced (record_at file k) (first_place + imm_place) (new_imm file origin n (insn_at file k))) (pick c (replaced (record_at file k) (second_place + imm_place) (pos 1)) (record_at file k))) ≡ 56
      go true c = replaced-length (record_at file k) 17 (new_imm file origin n (insn_at file k)) (rw is (omega arith)) ∙ is
      go false true = replaced-length (record_at file k) 40 (pos 1) (rw is (omega arith)) ∙ is
      go false false = is

  pub records-length : (k : ℕ) → k ≤ n → length (records file origin n k) ≡ 56 * first_copy file k
  unfolding records first_copy
  records-length zero l = refl
  records-length (suc k) l =
      let rec = new_record file origin n k in
      rw (length-append (records file origin n k) (copies (times (insn_at file k)) rec), records-length k (omega arith), copies_length (times (insn_at file k)) rec (new_length k l)) (omega arith)

  records_next : (k : ℕ) → records file origin n (suc k) ≡ records file origin n k ++ copies (times (insn_at file k)) (new_record file origin n k)
  unfolding records
  records_next k = refl

  -- what follows the records of the first k
  records_split : (j k : ℕ) → k ≤ j → (rest : List ℕ) × (records file origin n j ≡ records file origin n k ++ rest)
  records_split zero k l = let e : k ≡ 0 = omega arith in ([], rw e (sym (append-nil (records file origin n 0))))
  records_split (suc j) k l =
      ⊎_elim (λ e. ([], rw e (sym (append-nil (records file origin n (suc j))))))
      (λ g. let (rest, e) = records_split j k (le_of_suc-le-suc g) in (rest ++ copies (times (insn_at file j)) (new_record file origin n j), rw (records_next j, e) (append_assoc (records file origin n k) rest _)))
      (eq-or-lt_of_le l)

  -- ---- the header
  front_length : length (take 7 file) ≡ 7
  front_length = length-take-le 7 file (omega (arith, x.its_length))

  front : (i : ℕ) → i < 7 → get_or W i 0 ≡ get_or file i 0
  unfolding written
  front i l =
      let t = front_length in
      get_or-append (take 7 file) (word_bytes (first_copy file n) ++ records file origin n n) 0 i (omega arith) ∙ get_or-take 7 file i 0 l

  behind : (i : ℕ) → get_or W (7 + i) 0 ≡ get_or (word_bytes (first_copy file n) ++ records file origin n n) i 0
  unfolding written
  behind i = rw front_length at (get_or-append-add (take 7 file) (word_bytes (first_copy file n) ++ records file origin n n) i 0)

  pub its_mark : has_mark W ≡ true
  unfolding has_mark
  its_mark = rw (front 0 (omega arith), front 1 (omega arith), front 2 (omega arith)) x.marked

  pub its_version : u16_at W version_place ≡ 1
  unfolding u16_at
  its_version = rw (front 3 (omega arith), front 4 (omega arith)) x.version

  its_origin : u16_at W origin_place ≡ u16_at file origin_place
  unfolding u16_at
  its_origin = rw (front 5 (omega arith), front 6 (omega arith)) refl

  its_count : u16_at W count_place ≡ first_copy file n
  unfolding u16_at
  its_count = rw (behind 0, behind 1) (omega arith)

  abbrev pub new_header : Header
  new_header = record { version = 1; origin = origin; count = first_copy file n }

  pub its_header : header W ≡ new_header
  its_header =
      let o : u16_at file origin_place ≡ origin = ap (λ (y : Header). y.origin) x.its_header in
      rw (its_version, its_origin, its_count, o) refl

  pub its_each : record_bytes W ≡ 56
  its_each = each_is W its_version

  pub its_length : length W ≡ 9 + 56 * first_copy file n
  unfolding written
  its_length =
      let t = front_length in
      let r = records-length n (omega arith) in
      simp length-append (omega arith)

  -- ---- its records
  module _ (k i : ℕ) (l : k < n) (g : i < times (insn_at file k)) where
    abbrev rec : List ℕ
    rec = new_record file origin n k

    records_at : (rest : List ℕ) × (records file origin n n ≡ (records file origin n k ++ copies i rec) ++ (rec ++ rest))
    records_at =
        let (later, e) = records_split n (suc k) l in
        let (more, d) = copies_split (times (insn_at file k)) i rec g in
        (more ++ later, rw (e, records_next k, d) (simp append_assoc))

    pub record_is : record_at W (first_copy file k + i) ≡ rec
    unfolding written
    record_is =
        let (rest, e) = records_at in
        let B = records file origin n k ++ copies i rec in
        let head = take count_place file ++ word_bytes (first_copy file n) in
        let whole : take count_place file ++ (word_bytes (first_copy file n) ++ records file origin n n) ≡ (head ++ B) ++ (rec ++ rest) = rw e (regrouped (take count_place file) (word_bytes (first_copy file n)) B (rec ++ rest)) in
        let t = front_length in
        let b = records-length k (omega arith) in
        let s = copies_length i rec (new_length k l) in
        let place : length (head ++ B) ≡ 9 + 56 * (first_copy file k + i) = (
        let p = length-append head B in
        let q = length-append (take count_place file) (word_bytes (first_copy file n)) in
        let u = length-append (records file origin n k) (copies i rec) in
        omega arith) in
        rw (its_each, whole, drop_at (head ++ B) (rec ++ rest) (9 + 56 * (first_copy file k + i)) place) (take_at rec rest 56 (new_length k l))

    -- its codes are those of the old record
    pub known_is : codes_known (record_at W (first_copy file k + i)) ≡ codes_known (record_at file k)
    unfolding new_record
    known_is = ap codes_known record_is ∙ go (is_branch (branch_of (insn_at file k))) (has_count (insn_at file k))
      where
        go : (b c : Bool)
            → codes_known (pick b (replaced (record_at file k) (first_place + imm_place) (new_imm file origin n (insn_at file k))) (pick c (replaced (record_at file k) (second_place + imm_place) (pos 1)) (record_at file k))) ≡ codes_known (record_at file k)
        go true c = first_known (record_at file k) (record_length k l) (new_imm file origin n (insn_at file k))
        go false true = second_known (record_at file k) (record_length k l) (pos 1)
        go false false = refl

    -- it is the new instruction, where a branch's new immediate is an i32
    pub insn_is : (is_branch (branch_of (insn_at file k)) ≡ true → mag (new_imm file origin n (insn_at file k)) < 2147483648) → insn_at W (first_copy file k + i) ≡ new_insn file origin n k
    unfolding new_record new_insn with_count_one
    insn_is small = ap instruction_at record_is ∙ go (is_branch (branch_of (insn_at file k))) (has_count (insn_at file k)) refl
      where
        go : (b c : Bool) → is_branch (branch_of (insn_at file k)) ≡ b
            → instruction_at (pick b (replaced (record_at file k) (first_place + imm_place) (new_imm file origin n (insn_at file k))) (pick c (replaced (record_at file k) (second_place + imm_place) (pos 1)) (record_at file k)))
            ≡ pick b (with_first (insn_at file k) (new_imm file origin n (insn_at file k))) (pick c (with_operands (insn_at file k) (dst (insn_at file k)) (with_imm (src (insn_at file k)) (pos 1))) (insn_at file k))
        go true c e = first_replaced (record_at file k) (record_length k l) (new_imm file origin n (insn_at file k)) (small e)
        go false true e = second_replaced (record_at file k) (record_length k l) (pos 1) (omega arith)
        go false false e = refl

  pub plain : (k : ℕ) → k < n → (insn_at file k).repeat ≡ 0
  plain k l = no_repeat (record_at file k) (record_length k l)
