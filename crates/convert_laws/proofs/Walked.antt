-- The written file, walked as the loader walks it: the copies of a record follow each other, and only the first can be refused.
-- Assumes nothing.
use mathlib.Core.Path.{◌≡◌, refl, sym, ◌∙◌, ap}
use mathlib.Core.Bool.{Bool, true, false}
use mathlib.Core.List.{List}
use Prim.Native.Nat.{ℕ, zero, suc, ◌+◌, ◌*◌, ◌<◌, ◌≤◌}
use native.Mathlib.Omega.{arith}
use lib.IntN.{ℤ, pos, nat_abs}
use lib.ListN.{length}
use Rattle.mrc_compiler.specs.declared.encoder.EncodeError.{EncodeError}
use Rattle.mrc_compiler.specs.declared.encoder.InstructionData.{InstructionData}
use Rattle.mrc_compiler.specs.declared.encoder.OperandKind.{OperandKind}
use Rattle.mrc_compiler.specs.declared.encoder.OperandKind.TheVariants as K
use Rattle.mrc_compiler.specs.Choose.{pick, by_kind}
use Rattle.encode_spec.specs.Records.{dst, src}
use Rattle.encode_spec.specs.Answer.{Answer, bytes, refused, answer}
use Rattle.encode_spec.proofs.Values.{false-true}
use Rattle.show_file.specs.declared.Header.{Header}
use Rattle.show_file.specs.Show.{insn_at}
use Rattle.show_load.specs.Loading.{offset_behind, answer_at, bytes_of, walk, stopped}
use Rattle.show_load.proofs.Laws.{Upto, step_bytes, step_stops}
use Rattle.shift_copies.specs.Shifting.{is_shift}
use Rattle.convert_spec.specs.Counts.{has_count, count_of, times, with_imm, with_operands, with_count_one}
use Rattle.convert_spec.specs.OldStarts.{first_copy}
use Rattle.convert_spec.specs.Targets.{branch_of, is_branch}
use Rattle.convert_spec.specs.Written.{new_imm, written}
use Rattle.convert_laws.specs.NewRecords.{with_first, new_insn}
use Rattle.convert_laws.specs.Passed.{Show1, Convertible}
use Rattle.convert_laws.proofs.Branches.{branch_no_count}
use Rattle.convert_laws.proofs.Anywhere.{same_answer}
use Rattle.convert_laws.proofs.Written.{copies_next, copies_below, insn_is}
use Rattle.convert_laws.proofs.Ranges.{times_within, new_imm_fits}

-- ---- a step by its answer
upto_bytes : (file : List ℕ) (origin k at : ℕ) → Upto file origin k at → (cs : List ℕ) → answer_at file origin k at ≡ bytes cs → Upto file origin (k + 1) (at + length cs)
upto_bytes file origin k at u cs e = rw e at (step_bytes file origin k at u cs e).upto

-- ---- a record that becomes more than one is a shift
many_counted : (insn : InstructionData) → 1 < times insn → has_count insn ≡ true
unfolding count_of
many_counted insn h = go (has_count insn) h
  where
    go : (b : Bool) → 1 < nat_abs (pick b (src insn).imm (pos 1)) → b ≡ true
    go true l = refl
    go false l = absurd (omega arith)

if_true : (k : OperandKind) (t : Bool) → by_kind k t false false false ≡ true → t ≡ true
if_true K.Imm t h = h
if_true K.Reg t h = false-true h
if_true K.Seg t h = false-true h
if_true K.Mem t h = false-true h

pub counted_shift : (insn : InstructionData) → has_count insn ≡ true → is_shift insn.operation ≡ true
unfolding has_count
counted_shift insn h = if_true (src insn).kind (is_shift insn.operation) h

pub counted_no_branch : (insn : InstructionData) → has_count insn ≡ true → is_branch (branch_of insn) ≡ false
counted_no_branch insn h = go (is_branch (branch_of insn)) refl
  where
    go : (b : Bool) → is_branch (branch_of insn) ≡ b → b ≡ false
    go true e = false-true (sym (branch_no_count insn e) ∙ h)
    go false e = refl

one_operation : (insn : InstructionData) → (with_count_one insn).operation ≡ insn.operation
unfolding with_count_one
one_operation insn = go (has_count insn)
  where
    go : (b : Bool) → (pick b (with_operands insn (dst insn) (with_imm (src insn) (pos 1))) insn).operation ≡ insn.operation
    go true = refl
    go false = refl

pub counted_new : (file : List ℕ) (origin n k : ℕ) → has_count (insn_at file k) ≡ true → new_insn file origin n k ≡ with_count_one (insn_at file k)
unfolding new_insn
counted_new file origin n k h = rw (counted_no_branch (insn_at file k) h)

-- so it is answered alike everywhere
pub alike : (file : List ℕ) (origin n k off off' : ℕ) → 1 < times (insn_at file k) → answer (new_insn file origin n k) off ≡ answer (new_insn file origin n k) off'
alike file origin n k off off' h =
    let c = many_counted (insn_at file k) h in
    let e = counted_new file origin n k c in
    let s : is_shift (new_insn file origin n k).operation ≡ true = rw (e, one_operation (insn_at file k)) (counted_shift (insn_at file k) c) in
    same_answer (new_insn file origin n k) off off' s

-- ---- a file that is converted
module _ (file : List ℕ) (h : Header) (x : Show1 file h) (c : Convertible file h.origin h.count) where
  abbrev n : ℕ
  n = h.count

  abbrev origin : ℕ
  origin = h.origin

  abbrev W : List ℕ
  W = written file h

  module _ (k : ℕ) (l : k < n) where
    abbrev insn : InstructionData
    insn = insn_at file k

    pub copied : (i : ℕ) → i < times insn → insn_at W (first_copy file k + i) ≡ new_insn file origin n k
    copied i g = insn_is file h x k i l g (new_imm_fits file origin n c x.few k l)

    pub some_copy : 1 ≤ times insn
    some_copy = (times_within insn (c.counts.counted k l)).0

    pub copies_within : first_copy file k + times insn ≤ first_copy file n
    copies_within = rw (← (copies_next file k)) (copies_below file (suc k) n l)

    module _ (at : ℕ) (u : Upto W origin (first_copy file k) at) where
      -- its first copy is refused: the walk stops there
      pub walk_stops : (e : EncodeError) → answer (new_insn file origin n k) (offset_behind origin at) ≡ refused e → walk W origin (first_copy file n) ≡ stopped (first_copy file k) e
      walk_stops e q =
          let s = some_copy in
          let b = copies_within in
          let z : first_copy file k + 0 ≡ first_copy file k = omega arith in
          step_stops W origin (first_copy file k) at u e (ap (λ (y : InstructionData). answer y (offset_behind origin at)) (rw z at (copied 0 s)) ∙ q) (first_copy file n) (omega arith)

      module _ (cs : List ℕ) (q : answer (new_insn file origin n k) (offset_behind origin at) ≡ bytes cs) where
        copy_answer : (i : ℕ) → i < times insn → answer (new_insn file origin n k) (offset_behind origin (at + i * length cs)) ≡ bytes cs
        copy_answer zero g = let z : at + 0 * length cs ≡ at = omega arith in rw z q
        copy_answer (suc i) g = alike file origin n k (offset_behind origin (at + suc i * length cs)) (offset_behind origin at) (omega arith) ∙ q

        -- else all of them are accepted
        walk_copies : (i : ℕ) → i ≤ times insn → Upto W origin (first_copy file k + i) (at + i * length cs)
        walk_copies zero g =
            let z : first_copy file k + 0 ≡ first_copy file k = omega arith in
            let w : at + 0 * length cs ≡ at = omega arith in
            rw (z, w) u
        walk_copies (suc i) g =
            let j = first_copy file k + i in
            let v = walk_copies i (omega arith) in
            let a : answer_at W origin j (at + i * length cs) ≡ bytes cs = ap (λ (y : InstructionData). answer y (offset_behind origin (at + i * length cs))) (copied i g) ∙ copy_answer i g in
            let z : first_copy file k + suc i ≡ j + 1 = omega arith in
            let w : at + suc i * length cs ≡ at + i * length cs + length cs = omega arith in
            rw (z, w) (upto_bytes W origin j (at + i * length cs) v cs a)

        pub walk_on : Upto W origin (first_copy file (suc k)) (at + times insn * length cs)
        walk_on = rw (copies_next file k) (walk_copies (times insn) (omega arith))
