-- Readings whose operands keep their places, and the words of operands by their slots.
-- Assumes nothing.
use Rattle.std.specs.Prelude.{Ok, Some}
use mathlib.Core.Path.{◌≡◌, refl, ◌∙◌, ap}
use Prim.Native.Nat.{ℕ, ◌+◌, ◌≤◌, ◌<◌}
use native.Mathlib.Omega.{arith}
use mathlib.Core.Bool.{Bool, true, false}
use mathlib.Core.List.{List, []}
use lib.Dec.{eqb, ltb}
use lib.ListN.{length, get_or, drop}
use borrow.Author.Tests.{le-leb}
use Rattle.mrc_compiler.specs.declared.encoder.OperandSize.{OperandSize}
use Rattle.mrc_compiler.specs.declared.operations.Operation.{Operation}
use Rattle.mrc_compiler.specs.declared.operations.Operation.TheVariants.{XCHG, TEST}
use Rattle.mrc_compiler.specs.Choose.{pick, both, either}
use Rattle.mrc_compiler.specs.Operations.{same_operation}
use Rattle.x86.specs.declared.Instruction.{Instruction}
use Rattle.x86.specs.declared.Operand.{Operand}
use Rattle.x86.specs.Forms.{Slot, rm, rm_near, mem, mem_far, reg, sreg, sreg_not_cs, acc, low3, bits34, bits34_not_cs, cl, dx, one, moffs, xlat, ib, iw, ib_sx, cb, cw, ptr, nil}
use Rattle.x86.specs.Instructions.{instruction, memory_first, canonical}
use Rattle.x86.specs.Listing.{Bytes}
use Rattle.x86.specs.Reading.{at, sign_extended, width_of, head_length, memory_length, tail_length, names_memory, read_form}
use Rattle.read_table.specs.Rows.{found_at, exchanges, tests_register, any_form, form_at}
use Rattle.read_table.proofs.Agree.{shape_of, settles, tests}
use Rattle.reader.specs.Answer.{reading}
use Rattle.reader.specs.ByRow.{read_shape, decoded_shape}
use Rattle.reader.proofs.Laws.{alike_tests}
use Rattle.fast_reader.specs.Words.{operand_head, operand_values}
use Rattle.fast_reader.specs.Plans.{value_by}

-- ---- readings whose operands keep their places
kept : (op : Operation) (w : OperandSize) (a b : Operand) → same_operation op XCHG ≡ false → both (same_operation op TEST) (memory_first a b) ≡ false
    → canonical op w a b ≡ instruction op w a b
unfolding canonical
kept op w a b e f = rw (e, f) refl

-- the reading of first byte c and second byte x, where the operation found is neither XCHG nor TEST of a register
module _ (off p c x : ℕ) (t : List ℕ) (op : Operation) (below : c < 256) (found : found_at (shape_of c x) c x ≡ Some op)
    (no_xchg : exchanges c ≡ false) (no_test : tests_register c ≡ false) where
  as_placed : (w : OperandSize) (a : Operand) (next : ℕ) (v u : List ℕ)
      → canonical op w a (at (shape_of c x).second p c x next v u) ≡ instruction op w a (at (shape_of c x).second p c x next v u)
  as_placed w a next v u =
      kept op w a _ (settles c x op below found ∙ no_xchg)
      (alike_tests (same_operation op TEST) false (shape_of c x).second p c x next v u a (tests c x op below found ∙ no_test))

  pub whole : either (eqb p 0) (names_memory (any_form (shape_of c x)) x) ≡ true → tail_length (any_form (shape_of c x)) x ≤ length t
      → decoded_shape off p (shape_of c x) c x t
      ≡ (let next = off + (head_length p (any_form (shape_of c x)) + tail_length (any_form (shape_of c x)) x) in
      let u = drop (memory_length (any_form (shape_of c x)) x) t in
      Ok (reading (instruction op (width_of (any_form (shape_of c x))) (at (shape_of c x).first p c x next t u) (at (shape_of c x).second p c x next t u))
      (form_at (shape_of c x).class c x) (head_length p (any_form (shape_of c x)) + tail_length (any_form (shape_of c x)) x)))
  unfolding decoded_shape read_shape read_form
  whole y h = rw (found, y, le-leb _ _ h) (ap (λ (m : Instruction). Ok (reading m (form_at (shape_of c x).class c x) (head_length p (any_form (shape_of c x)) + tail_length (any_form (shape_of c x)) x))) (as_placed _ _ _ _ _))

-- ---- slots whose operand is told by the first byte, but for its value: how it is read; 8 for the others
abbrev pub mode_of : Slot → ℕ
mode_of (rm w) = 8
mode_of rm_near = 8
mode_of mem = 8
mode_of mem_far = 8
mode_of (reg w) = 8
mode_of sreg = 8
mode_of sreg_not_cs = 8
mode_of (acc w) = 0
mode_of (low3 w) = 0
mode_of bits34 = 0
mode_of bits34_not_cs = 0
mode_of cl = 0
mode_of dx = 0
mode_of one = 0
mode_of (moffs w) = 8
mode_of xlat = 8
mode_of ib = 1
mode_of iw = 2
mode_of ib_sx = 3
mode_of cb = 4
mode_of cw = 5
mode_of ptr = 6
mode_of nil = 0

abbrev pub still_head : Slot → ℕ → ℕ
still_head g c = operand_head (at g 0 c 0 0 [] [])

pub head_still : (g : Slot) (p c x next : ℕ) (t u : List ℕ) → mode_of g < 8 → operand_head (at g p c x next t u) ≡ still_head g c
unfolding operand_head
head_still (rm w) p c x next t u h = absurd (omega arith)
head_still rm_near p c x next t u h = absurd (omega arith)
head_still mem p c x next t u h = absurd (omega arith)
head_still mem_far p c x next t u h = absurd (omega arith)
head_still (reg w) p c x next t u h = absurd (omega arith)
head_still sreg p c x next t u h = absurd (omega arith)
head_still sreg_not_cs p c x next t u h = absurd (omega arith)
head_still (acc w) p c x next t u h = refl
head_still (low3 w) p c x next t u h = refl
head_still bits34 p c x next t u h = refl
head_still bits34_not_cs p c x next t u h = refl
head_still cl p c x next t u h = refl
head_still dx p c x next t u h = refl
head_still one p c x next t u h = refl
head_still (moffs w) p c x next t u h = absurd (omega arith)
head_still xlat p c x next t u h = absurd (omega arith)
head_still ib p c x next t u h = refl
head_still iw p c x next t u h = refl
head_still ib_sx p c x next t u h = refl
head_still cb p c x next t u h = refl
head_still cw p c x next t u h = refl
head_still ptr p c x next t u h = refl
head_still nil p c x next t u h = refl

pub extended_below : (b : ℕ) → b < 256 → sign_extended b < 65536
extended_below b h = go (ltb b 128)
  where
    go : (q : Bool) → pick q b (b + 65280) < 65536
    go true = omega arith
    go false = omega arith

pub value_still : (g : Slot) (p c x next : ℕ) (t u : List ℕ) → Bytes u → mode_of g < 8 → operand_values (at g p c x next t u) ≡ value_by (mode_of g) next u
unfolding operand_values
value_still (rm w) p c x next t u bs h = absurd (omega arith)
value_still rm_near p c x next t u bs h = absurd (omega arith)
value_still mem p c x next t u bs h = absurd (omega arith)
value_still mem_far p c x next t u bs h = absurd (omega arith)
value_still (reg w) p c x next t u bs h = absurd (omega arith)
value_still sreg p c x next t u bs h = absurd (omega arith)
value_still sreg_not_cs p c x next t u bs h = absurd (omega arith)
value_still (acc w) p c x next t u bs h = refl
value_still (low3 w) p c x next t u bs h = refl
value_still bits34 p c x next t u bs h = refl
value_still bits34_not_cs p c x next t u bs h = refl
value_still cl p c x next t u bs h = refl
value_still dx p c x next t u bs h = refl
value_still one p c x next t u bs h = refl
value_still (moffs w) p c x next t u bs h = absurd (omega arith)
value_still xlat p c x next t u bs h = absurd (omega arith)
value_still ib p c x next t u bs h = omega (arith, bs 0)
value_still iw p c x next t u bs h = omega (arith, bs 0, bs 1)
value_still ib_sx p c x next t u bs h = omega (arith, extended_below (get_or u 0 0) (bs 0))
value_still cb p c x next t u bs h = omega arith
value_still cw p c x next t u bs h = omega arith
value_still ptr p c x next t u bs h = omega (arith, bs 0, bs 1)
value_still nil p c x next t u bs h = refl
