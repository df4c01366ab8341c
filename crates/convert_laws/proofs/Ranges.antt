-- The new immediate of a branch is an i32: a short one goes near, and what is gained before a place is not much.
-- Assumes nothing.
use Rattle.std.specs.Prelude.{None, Option, Some}
use mathlib.Core.Path.{◌≡◌, refl, sym, ◌∙◌, ap}
use mathlib.Core.Bool.{Bool, true, false, cond, ◌&&◌}
use mathlib.Core.List.{List}
use Prim.Native.Nat.{ℕ, zero, suc, ◌+◌, ◌*◌, ◌-◌, ◌<◌, ◌≤◌}
use native.Mathlib.Nat.{mul-le-mul, mul-le-mul_right}
use native.Mathlib.Omega.{arith}
use lib.Dec.{ltb, leb}
use lib.IntN.{ℤ, pos, negsuc, nat_abs, ◌+ℤ◌, ◌-ℤ◌}
use lib.Signed.{mag}
use borrow.Author.Tests.{ltb-true, ltb-false, leb-true}
use Rattle.mrc_compiler.specs.declared.encoder.InstructionData.{InstructionData}
use Rattle.mrc_compiler.specs.declared.encoder.OperandData.{OperandData}
use Rattle.mrc_compiler.specs.Choose.{pick}
use Rattle.mrc_compiler.specs.Values.{within}
use Rattle.base_values.specs.Distances.{distance_of}
use Rattle.x86.specs.Forms.{Slot, rm, rm_near, mem, mem_far, reg, sreg, sreg_not_cs, acc, low3, bits34, bits34_not_cs, cl, dx, one, moffs, xlat, ib, iw, ib_sx, cb, cw, ptr, nil}
use Rattle.encode_spec.specs.Records.{dst}
use Rattle.encode_spec.specs.Choice.{Choice, none, straight, crossed}
use Rattle.encode_spec.specs.Limits.{short_distance}
use Rattle.encode_spec.specs.Questions.{chosen, questions}
use Rattle.encode_spec.specs.Answer.{all_yes, first_no, record_bytes, Answer, bytes, refused, answer}
use Rattle.encode_spec.proofs.Accepted.{gives_bytes, ChosenAs, chosen_is}
use Rattle.encode_spec.proofs.Slots.{Given, yes}
use Rattle.encode_spec.proofs.Outcomes.{Short, answer_short}
use Rattle.encode_spec.proofs.Values.{false-true, under_65536}
use Rattle.show_file.specs.Show.{insn_at}
use Rattle.show_load.specs.Loading.{bytes_of}
use Rattle.convert_spec.specs.declared.Branch.{Branch}
use Rattle.convert_spec.specs.declared.Branch.TheVariants as B
use Rattle.convert_spec.specs.Counts.{count_of, count_taken, times, with_count_one, old_bytes, gained}
use Rattle.convert_spec.specs.OldStarts.{length_of, is_refused, old_offset, old_answer, gain}
use Rattle.convert_spec.specs.Targets.{in_slot, in_form, branch_of, is_branch, place_of}
use Rattle.convert_spec.specs.Written.{moved_by, new_imm}
use Rattle.convert_laws.specs.Passed.{Counted, Convertible}
use Rattle.convert_laws.proofs.Branches.{branch_as_is}

and_true : (a b : Bool) → a && b ≡ true → (a ≡ true) × (b ≡ true)
and_true true b e = (refl, e)
and_true false b e = false-true e

-- ---- counts
count_within : (z : ℤ) → within (pos 1) (pos 31) z ≡ true → (1 ≤ nat_abs z) × (nat_abs z ≤ 31)
count_within (pos n) h =
    let (a, b) = and_true (leb 1 n) (leb n 31) h in
    (leb-true 1 n a, leb-true n 31 b)
count_within (negsuc n) h = false-true h

pub times_within : (insn : InstructionData) → count_taken insn ≡ true → (1 ≤ times insn) × (times insn ≤ 31)
times_within insn h = count_within (count_of insn) h

-- the old record is no longer than its copies
pub old_within : (insn : InstructionData) (m : ℕ) → count_taken insn ≡ true → 1 ≤ m → old_bytes insn m ≤ times insn * m
unfolding old_bytes
old_within insn m c some = go (ltb 1 (times insn)) refl
  where
    go : (b : Bool) → ltb 1 (times insn) ≡ b → m + pick b 1 0 ≤ times insn * m
    go true e =
        let t = ltb-true 1 (times insn) e in
        let p = mul-le-mul_right m t in
        omega arith
    go false e =
        let t = times_within insn c in
        let p = mul-le-mul_right m t.0 in
        omega arith

-- ---- answers
pub its_bytes : (a : Answer) → is_refused a ≡ false → a ≡ bytes (bytes_of a)
its_bytes (bytes bs) e = refl
its_bytes (refused x) e = false-true (sym e)

short_by : (a : Answer) → Short a → length_of a ≤ 7
short_by (bytes bs) h = h
short_by (refused e) h = omega arith

pub seven : (insn : InstructionData) (off : ℕ) → off < 65536 → length_of (answer insn off) ≤ 7
seven insn off h = short_by (answer insn off) (answer_short insn off h)

-- ---- the target of a short branch that is accepted
never : {P : Type 0} → None ≡ Some B.Short → P
never e = let z : ◌≡◌ {A = ℕ} 0 1 = cc in absurd (omega arith)

near_not_short : {P : Type 0} → Some B.Near ≡ Some B.Short → P
near_not_short e = let z : ◌≡◌ {A = ℕ} 0 1 = cc in absurd (omega arith)

minus_cond : (t : Bool) (n k : ℕ) → k < 65538 → ltb n (suc k) ≡ t → within (negsuc 127) (pos 127) (cond t (negsuc (suc k - suc n)) (pos (n - suc k))) ≡ true → n < 70000
minus_cond true n k h e w = omega (arith, ltb-true n (suc k) e)
minus_cond false n k h e w = let t = leb-true (n - suc k) 127 w in omega arith

in_reach : (z : ℤ) (k : ℕ) → k < 65538 → within (negsuc 127) (pos 127) (z -ℤ pos (suc k)) ≡ true → mag z < 70000
in_reach (pos n) k h w = minus_cond (ltb n (suc k)) n k h refl w
in_reach (negsuc n) k h w = let t = leb-true (suc (n + k)) 127 (and_true (leb (suc (n + k)) 127) true w).0 in omega arith

-- a distance byte is asked about
slot_reach : (s : Slot) (off : ℕ) (o : OperandData) → off < 65536 → in_slot s ≡ Some B.Short → Given s off o → mag o.imm < 70000
slot_reach (rm w) off o h e g = never e
slot_reach rm_near off o h e g = never e
slot_reach mem off o h e g = never e
slot_reach mem_far off o h e g = never e
slot_reach (reg w) off o h e g = never e
slot_reach sreg off o h e g = never e
slot_reach sreg_not_cs off o h e g = never e
slot_reach (acc w) off o h e g = never e
slot_reach (low3 w) off o h e g = never e
slot_reach bits34 off o h e g = never e
slot_reach bits34_not_cs off o h e g = never e
slot_reach cl off o h e g = never e
slot_reach dx off o h e g = never e
slot_reach one off o h e g = never e
slot_reach (moffs w) off o h e g = never e
slot_reach xlat off o h e g = never e
slot_reach ib off o h e g = never e
slot_reach iw off o h e g = never e
slot_reach ib_sx off o h e g = never e
slot_reach cb off o h e g =
    let w : within (negsuc 127) (pos 127) (distance_of o.imm off 2) ≡ true = (yes _ all_yes (short_distance off o) g.asked).0 in
    let p : off + 2 ≡ suc (off + 1) = omega arith in
    in_reach o.imm (off + 1) (omega arith) (rw p at w)
slot_reach cw off o h e g = near_not_short e
slot_reach ptr off o h e g = never e
slot_reach nil off o h e g = never e

pub short_imm : (insn : InstructionData) (off : ℕ) (bs : List ℕ) → off < 65536 → answer insn off ≡ bytes bs → branch_of insn ≡ Some B.Short → mag (dst insn).imm < 70000
unfolding answer branch_of
short_imm insn off bs h e b =
    go (chosen insn) b (chosen_is insn off (gives_bytes (first_no (questions insn off)) (record_bytes insn off) bs e).0)
  where
    go : (c : Choice) → in_form c ≡ Some B.Short → ChosenAs insn off c → mag (dst insn).imm < 70000
    go none b k = never b
    go (straight f) b k = slot_reach f.first off (dst insn) h b k.first
    go (crossed f) b k = never b

-- ---- what is gained before a place
pub gained_little : (insn : InstructionData) (m : ℕ) → count_taken insn ≡ true → m ≤ 7 → gained insn m ≤ 217
gained_little insn m c h = let t = times_within insn c in let p = mul-le-mul t.1 h in omega arith

pub gain_below : (file : List ℕ) (origin n : ℕ) → Counted file n → (k : ℕ) → k ≤ n → gain file origin k ≤ 217 * k
unfolding gain
gain_below file origin n c zero h = omega arith
gain_below file origin n c (suc k) h =
    let g = gain_below file origin n c k (omega arith) in
    let s = seven (with_count_one (insn_at file k)) (old_offset file origin k) (omega arith) in
    let p = gained_little (insn_at file k) (length_of (old_answer file origin k)) (c.counted k h) s in
    omega arith

sum_cond : (t : Bool) (m g : ℕ) → ltb g (suc m) ≡ t → mag (cond t (negsuc (suc m - suc g)) (pos (g - suc m))) ≤ m + g
sum_cond true m g e = omega (arith, ltb-true g (suc m) e)
sum_cond false m g e = omega (arith, ltb-false g (suc m) e)

pub sum_mag : (z : ℤ) (g : ℕ) → mag (z +ℤ pos g) ≤ mag z + g
sum_mag (pos m) g = omega arith
sum_mag (negsuc m) g = sum_cond (ltb g (suc m)) m g refl

module _ (file : List ℕ) (origin n : ℕ) (c : Convertible file origin n) (few : n ≤ 1000) (k : ℕ) (h : k < n) where
  abbrev insn : InstructionData
  insn = insn_at file k

  -- a branch is accepted as it stands
  pub branch_taken : is_branch (branch_of insn) ≡ true → answer insn (old_offset file origin k) ≡ bytes (bytes_of (old_answer file origin k))
  branch_taken b = ap (λ (x : InstructionData). answer x (old_offset file origin k)) (sym (branch_as_is insn b)) ∙ its_bytes (old_answer file origin k) (c.taken k h)

  pub gain_little : is_branch (branch_of insn) ≡ true → gain file origin (place_of (old_offset file origin) n insn) ≤ 217000
  gain_little b =
      let p = c.placed k h b in
      let g = gain_below file origin n c.counts (place_of (old_offset file origin) n insn) p in
      omega arith

  pub short_near : branch_of insn ≡ Some B.Short → mag (dst insn).imm < 70000
  short_near q = short_imm insn (old_offset file origin k) (bytes_of (old_answer file origin k)) (omega arith) (branch_taken (ap is_branch q)) q

  pub new_imm_fits : is_branch (branch_of insn) ≡ true → mag (new_imm file origin n insn) < 2147483648
  unfolding new_imm
  new_imm_fits b = go (branch_of insn) refl b
    where
      go : (x : Option Branch) → branch_of insn ≡ x → is_branch x ≡ true → mag (moved_by x (dst insn).imm (gain file origin (place_of (old_offset file origin) n insn))) < 2147483648
      go None q t = false-true t
      go (Some B.Short) q t =
          let m = short_near q in
          let l = gain_little (ap is_branch q) in
          let s = sum_mag (dst insn).imm (gain file origin (place_of (old_offset file origin) n insn)) in
          omega arith
      go (Some B.Near) q t = let u = under_65536 ((dst insn).imm +ℤ pos (gain file origin (place_of (old_offset file origin) n insn))) in omega arith
