-- A candidate has at most seven bytes.
-- Assumes nothing.
use Rattle.std.specs.Prelude.{Option, Some, None}
use Prim.Native.Nat.{ℕ, ◌+◌, ◌/◌, ◌%◌, ◌≤◌}
use native.Mathlib.Omega.{arith}
use mathlib.Core.List.{List, [], ◌∷◌, ◌++◌}
use lib.Dec.{eqb, ltb, lit≤}
use lib.ListN.{length, length-append}
use Rattle.mrc_compiler.specs.declared.encoder.OperandSize.{OperandSize}
use Rattle.mrc_compiler.specs.declared.encoder.OperandSize.TheVariants as S
use Rattle.mrc_compiler.specs.Choose.{pick, both}
use Rattle.x86.specs.declared.Instruction.{Instruction}
use Rattle.x86.specs.Reading.{mode, low, displacement_length}
use Rattle.encode_spec.specs.Layout.{prefix_bytes}
use Rattle.encode_groups.specs.declared.Group.{Group}
use Rattle.encode_groups.specs.declared.Group.TheVariants as Gr
use Rattle.x86.specs.declared.operands.OperandType.{OperandType}
use Rattle.list_spec.specs.declared.Second.{Second}
use Rattle.list_spec.specs.declared.Second.TheVariants as X
use Rattle.list_spec.specs.declared.Tail.{Tail}
use Rattle.list_spec.specs.declared.Tail.TheVariants as L
use Rattle.list_spec.specs.declared.Start.{Start}
use Rattle.x86.specs.Operands.{a_register, a_segment, in_memory, an_immediate, a_near, a_far}
use Rattle.list_spec.specs.declared.Parts.{Parts}
use Rattle.list_spec.specs.Parts.{parts_of}
use Rattle.list_spec.specs.Starts.{primary, immediate, arithmetic_immediate, arithmetic, unary, inc_dec, move_immediate, move_from, move_into, move, exchange, test_immediate, test, stack, ret, load, shift, call, jump, single, port, start_in, start_of}
use Rattle.list_spec.specs.Candidates.{displacement_bytes, second_bytes, tail_bytes, string_of, candidate_of, candidate}
use Rattle.list_spec.proofs.Choices.{picked}

-- the most bytes that a second byte has with its displacement
abbrev second_most : Option Second → ℕ
second_most None = 0
second_most (Some (X.ModRm x)) = 3
second_most (Some (X.Fixed x)) = 1

abbrev tail_most : Option Tail → ℕ
tail_most None = 0
tail_most (Some L.Byte) = 1
tail_most (Some L.Word) = 2
tail_most (Some L.Near8) = 1
tail_most (Some L.Near16) = 2
tail_most (Some L.Far) = 4
tail_most (Some L.Address) = 2

-- behind the opcode
abbrev most : Start → ℕ
most s = second_most s.second + tail_most s.tail

-- ---- no start has more than five bytes behind its opcode
abbrev Few : Start → Type 0
Few s = most s ≤ 5

immediate_most : (w : OperandSize) → tail_most (immediate w) ≤ 2
immediate_most S.Unspecified = lit≤ tt
immediate_most S.Byte = lit≤ tt
immediate_most S.Word = lit≤ tt

module _ (n : ℕ) (w : OperandSize) (a b : OperandType) (encoding k : ℕ) where
  arithmetic_immediate_lem : most (arithmetic_immediate n w a encoding k) ≤ 5
  unfolding arithmetic_immediate
  arithmetic_immediate_lem =
      picked Few (eqb encoding primary)
      (picked Few (both (eqb a.kind a_register) (eqb k 0)) (omega (arith, immediate_most w)) (omega (arith, immediate_most w))) (lit≤ tt)

  in_group : (g : Group) → most (start_in g n w a b encoding k) ≤ 5
  unfolding start_in arithmetic unary inc_dec move_immediate move_from move_into move exchange test_immediate test stack ret load shift call jump single port
  in_group Gr.Arithmetic = picked Few (eqb b.kind an_immediate) arithmetic_immediate_lem (picked Few (eqb encoding primary) (lit≤ tt) (lit≤ tt))
  in_group Gr.Unary = lit≤ tt
  in_group Gr.Mov =
      picked Few (eqb b.kind an_immediate) (picked Few (eqb encoding primary) (omega (arith, immediate_most w)) (omega (arith, immediate_most w)))
      (picked Few (eqb b.kind a_segment) (lit≤ tt) (picked Few (eqb a.kind a_segment) (lit≤ tt) (picked Few (eqb b.kind in_memory)
      (picked Few (eqb encoding primary) (lit≤ tt) (lit≤ tt)) (picked Few (eqb encoding 0) (lit≤ tt) (picked Few (eqb a.kind in_memory) (lit≤ tt) (lit≤ tt))))))
  in_group Gr.Test =
      picked Few (eqb b.kind an_immediate) (picked Few (eqb encoding primary) (omega (arith, immediate_most w)) (omega (arith, immediate_most w)))
      (picked Few (eqb b.kind in_memory) (lit≤ tt) (lit≤ tt))
  in_group Gr.Xchg = picked Few (eqb encoding primary) (picked Few (both (eqb b.kind a_register) (eqb k 0)) (lit≤ tt) (lit≤ tt)) (lit≤ tt)
  in_group Gr.IncDec = picked Few (eqb encoding primary) (lit≤ tt) (lit≤ tt)
  in_group Gr.Push = picked Few (eqb encoding primary) (lit≤ tt) (lit≤ tt)
  in_group Gr.Pop = picked Few (eqb encoding primary) (lit≤ tt) (lit≤ tt)
  in_group Gr.Ret = picked Few (eqb a.kind an_immediate) (lit≤ tt) (lit≤ tt)
  in_group Gr.Lea = lit≤ tt
  in_group Gr.LesLds = lit≤ tt
  in_group Gr.Shift = lit≤ tt
  in_group Gr.Call = picked Few (eqb a.kind a_near) (lit≤ tt) (lit≤ tt)
  in_group Gr.Jmp = picked Few (eqb a.kind a_near) (picked Few (eqb encoding primary) (lit≤ tt) (lit≤ tt)) (picked Few (eqb a.kind a_far) (lit≤ tt) (lit≤ tt))
  in_group Gr.Jcc = lit≤ tt
  in_group Gr.Loopc = lit≤ tt
  in_group Gr.NoOperands = picked Few (eqb encoding primary) (lit≤ tt) (lit≤ tt)
  in_group Gr.Prefixes = lit≤ tt
  in_group Gr.Int = lit≤ tt
  in_group Gr.Aam = lit≤ tt
  in_group Gr.Aad = lit≤ tt
  in_group Gr.Xlat = lit≤ tt
  in_group Gr.In = picked Few (eqb b.kind an_immediate) (lit≤ tt) (lit≤ tt)
  in_group Gr.Out = picked Few (eqb a.kind an_immediate) (lit≤ tt) (lit≤ tt)
  in_group Gr.Unsupported = lit≤ tt

start_most : (q : Parts) (encoding k : ℕ) → most (start_of q encoding k) ≤ 5
unfolding start_of
start_most q encoding k = in_group q.base q.width q.first q.second encoding k q.group

-- ---- lengths
abbrev Within : ℕ → List ℕ → Type 0
Within n s = length s ≤ n

displacement_short : (n d : ℕ) → length (displacement_bytes n d) ≤ 2
displacement_short n d =
    picked (Within 2) (eqb n 0) (lit≤ tt) (picked (Within 2) (eqb n 1) (lit≤ tt) (lit≤ tt))

second_short : (x : Option Second) (d : ℕ) → length (second_bytes x d) ≤ second_most x
second_short None d = lit≤ tt
second_short (Some (X.ModRm x)) d = omega (arith, displacement_short (displacement_length (mode x) (low x)) d)
second_short (Some (X.Fixed x)) d = lit≤ tt

tail_short : (t : Option Tail) (off d v s : ℕ) → length (tail_bytes t off d v s) ≤ tail_most t
tail_short None off d v s = lit≤ tt
tail_short (Some L.Byte) off d v s = lit≤ tt
tail_short (Some L.Word) off d v s = lit≤ tt
tail_short (Some L.Near8) off d v s = lit≤ tt
tail_short (Some L.Near16) off d v s = lit≤ tt
tail_short (Some L.Far) off d v s = lit≤ tt
tail_short (Some L.Address) off d v s = lit≤ tt

string_short : (off p : ℕ) (s : Start) (q : Parts) → most s ≤ 5 → length (string_of off p s q) ≤ 7
unfolding string_of
string_short off p s q h =
    let d = q.displacement in
    let x = second_bytes s.second d in
    let t = tail_bytes s.tail off d q.value q.segment in
    let e = length-append (prefix_bytes p) (s.opcode % 256 ∷ (x ++ t)) in
    let f = length-append x t in
    omega (arith, e, f, picked (Within 1) (eqb p 0) {s = []} {t = p ∷ []} (lit≤ tt) (lit≤ tt), second_short s.second d, tail_short s.tail off d q.value q.segment)

pub candidate_short : (off : ℕ) (m : Instruction) (i : ℕ) → length (candidate off m i) ≤ 7
unfolding candidate_of
candidate_short off m i =
    let q = parts_of m in
    picked (Within 7) (eqb q.repeat 0)
    (string_short off (pick (ltb i 6) 0 q.prefix) (start_of q (i / 3 % 2) (i % 3)) q (start_most q (i / 3 % 2) (i % 3))) (lit≤ tt)
