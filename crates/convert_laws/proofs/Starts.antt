-- Where the records of a written file that loads start: the first copy of a record at its old start and what is gained before it. So its
-- branches go to the first copy of the record that they went to, or to the new end.
-- Assumes nothing.
use Rattle.std.specs.Prelude.{None, Option, Some}
use mathlib.Core.Path.{◌≡◌, refl, sym, ◌∙◌, ap}
use mathlib.Core.Bool.{Bool, true, false, cond}
use mathlib.Core.List.{List}
use Prim.Native.Nat.{ℕ, zero, suc, ◌+◌, ◌*◌, ◌-◌, ◌%◌, ◌<◌, ◌≤◌}
use native.Mathlib.Omega.{arith}
use lib.Dec.{ltb, eqb}
use lib.IntN.{ℤ, pos, negsuc, ◌+ℤ◌}
use lib.ListN.{length}
use borrow.Author.Tests.{ltb-true, ltb-false, eqb-true}
use Rattle.mrc_compiler.specs.declared.encoder.InstructionData.{InstructionData}
use Rattle.mrc_compiler.specs.Choose.{pick}
use Rattle.mrc_compiler.specs.Values.{mod_z}
use Rattle.encode_spec.specs.Records.{dst}
use Rattle.encode_spec.specs.Answer.{bytes, answer}
use Rattle.encode_spec.proofs.Accepted.{accepted_reads}
use Rattle.encode_spec.proofs.Values.{false-true}
use Rattle.show_file.specs.declared.Header.{Header}
use Rattle.show_file.specs.Show.{insn_at}
use Rattle.show_load.specs.Loading.{offset_behind, bytes_of, walk, bytes_in, is_all}
use Rattle.show_load.proofs.Laws.{Upto, upto_start, answered_all}
use Rattle.convert_spec.specs.declared.Branch.{Branch}
use Rattle.convert_spec.specs.declared.Branch.TheVariants as B
use Rattle.convert_spec.specs.Counts.{times, with_count_one, old_bytes, gained}
use Rattle.convert_spec.specs.OldStarts.{length_of, old_start, old_offset, old_answer, gain, first_copy}
use Rattle.convert_spec.specs.Targets.{branch_of, is_branch, target_of, place_of}
use Rattle.convert_spec.specs.Written.{moved_by, new_imm, written}
use Rattle.convert_laws.specs.NewRecords.{with_first, new_insn}
use Rattle.convert_laws.specs.Passed.{Show1, Convertible}
use Rattle.convert_laws.proofs.Firsts.{found}
use Rattle.convert_laws.proofs.Lengths.{same_length, branch_length}
use Rattle.convert_laws.proofs.Ranges.{old_within, its_bytes, branch_taken}
use Rattle.convert_laws.proofs.Walked.{copied, some_copy, copies_within, walk_on}

-- ---- a target modulo 65,536
plus_cond : (t : Bool) (n g : ℕ) → ltb g (suc n) ≡ t → mod_z 65536 (cond t (negsuc (suc n - suc g)) (pos (g - suc n))) ≡ (65535 - n % 65536 + g) % 65536
plus_cond true n g e = omega (arith, ltb-true g (suc n) e)
plus_cond false n g e = omega (arith, ltb-false g (suc n) e)

pub plus : (z : ℤ) (g : ℕ) → mod_z 65536 (z +ℤ pos g) ≡ (mod_z 65536 z + g) % 65536
plus (pos n) g = omega arith
plus (negsuc n) g = plus_cond (ltb g (suc n)) n g refl

moved_is : (b : Option Branch) (z : ℤ) (g : ℕ) → is_branch b ≡ true → mod_z 65536 (moved_by b z g) ≡ (mod_z 65536 z + g) % 65536
moved_is None z g h = false-true h
moved_is (Some B.Short) z g h = plus z g
moved_is (Some B.Near) z g h = let e = plus z g in omega arith

module _ (file : List ℕ) (h : Header) (x : Show1 file h) (c : Convertible file h.origin h.count) (loads : is_all (walk (written file h) h.origin (first_copy file h.count)) ≡ true) where
  abbrev n : ℕ
  n = h.count

  abbrev origin : ℕ
  origin = h.origin

  abbrev W : List ℕ
  W = written file h

  module _ (k : ℕ) (l : k < n) where
    abbrev insn : InstructionData
    insn = insn_at file k

    abbrev m : ℕ
    m = length_of (old_answer file origin k)

    old_is : answer (with_count_one insn) (old_offset file origin k) ≡ bytes (bytes_of (old_answer file origin k))
    old_is = its_bytes (old_answer file origin k) (c.taken k l)

    -- a copy has the length that the old record had without its count
    copy_length : (off : ℕ) (cs : List ℕ) → answer (new_insn file origin n k) off ≡ bytes cs → length cs ≡ m
    unfolding new_insn
    copy_length off cs e = sym (go (is_branch (branch_of insn)) refl e)
      where
        go : (b : Bool) → is_branch (branch_of insn) ≡ b → answer (pick b (with_first insn (new_imm file origin n insn)) (with_count_one insn)) off ≡ bytes cs → m ≡ length cs
        go true d e = branch_length insn (new_imm file origin n insn) (old_offset file origin k) off (bytes_of (old_answer file origin k)) cs d (branch_taken file origin n c x.few k l d) e
        go false d e = same_length (with_count_one insn) (old_offset file origin k) off (bytes_of (old_answer file origin k)) cs old_is e

    some_bytes : 1 ≤ m
    some_bytes = (accepted_reads (with_count_one insn) (old_offset file origin k) (omega arith) (bytes_of (old_answer file origin k)) old_is).some

    -- the old record and what it gains are its copies
    together : old_bytes insn m + gained insn m ≡ times insn * m
    together = let w = old_within insn m (c.counts.counted k l) some_bytes in omega arith

    next_start : Upto W origin (first_copy file k) (old_start file origin k + gain file origin k)
        → Upto W origin (first_copy file (suc k)) (old_start file origin (suc k) + gain file origin (suc k))
    unfolding old_start gain
    next_start u =
        let at = old_start file origin k + gain file origin k in
        let s = some_copy file h x c k l in
        let b = copies_within file h x c k l in
        let (cs, a) = answered_all W origin (first_copy file k) at u (first_copy file n) loads (omega arith) in
        let z : first_copy file k + 0 ≡ first_copy file k = omega arith in
        let q : answer (new_insn file origin n k) (offset_behind origin at) ≡ bytes cs = ap (λ (y : InstructionData). answer y (offset_behind origin at)) (sym (rw z at (copied file h x c k l 0 s))) ∙ a in
        let len = copy_length (offset_behind origin at) cs q in
        let t = together in
        let e : old_start file origin (suc k) + gain file origin (suc k) ≡ at + times insn * m = omega arith in
        rw e (rw len at (walk_on file h x c k l at u cs q))

  -- the first copy of each record, and the end behind the last
  pub starts : (k : ℕ) → k ≤ n → Upto W origin (first_copy file k) (old_start file origin k + gain file origin k)
  unfolding first_copy old_start gain
  starts zero l = upto_start W origin
  starts (suc k) l = next_start k l (starts k (omega arith))

  -- where record j of the written file starts, as the loader lays it out; j = count: its end
  abbrev pub new_offset : ℕ → ℕ
  new_offset j = offset_behind origin (length (bytes_in (walk W origin j)))

  pub copy_starts : (k : ℕ) → k ≤ n → new_offset (first_copy file k) ≡ offset_behind origin (old_start file origin k + gain file origin k)
  copy_starts k l = rw (starts k l).ends refl

  -- the target of a branch is the offset of the first copy of its old target
  pub goes_there : (k : ℕ) → k < n → is_branch (branch_of (insn_at file k)) ≡ true
      → mod_z 65536 (new_imm file origin n (insn_at file k)) ≡ new_offset (first_copy file (place_of (old_offset file origin) n (insn_at file k)))
  unfolding new_imm
  goes_there k l b =
      let insn = insn_at file k in
      let place = place_of (old_offset file origin) n insn in
      let p = c.placed k l b in
      let stands = eqb-true (old_offset file origin place) (target_of insn) (found (λ j. eqb (old_offset file origin j) (target_of insn)) (suc n) 0 (omega arith)) in
      let m = moved_is (branch_of insn) (dst insn).imm (gain file origin place) b in
      rw (copy_starts place p, m) (omega arith)
