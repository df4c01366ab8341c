-- The start that a form has with first byte c and second byte x, and the test of equality for starts.
-- Assumes nothing.
use Rattle.std.specs.Prelude.{Option, Some, None}
use mathlib.Core.Path.{◌≡◌, refl, sym, ◌∙◌, ap}
use Prim.Native.Nat.{ℕ}
use mathlib.Core.Bool.{Bool}
use mathlib.Core.List.{[], ◌∷◌}
use lib.Dec.{T, eqb, eqb→eq}
use lib.ListN.{get_or}
use Rattle.mrc_compiler.specs.Choose.{pick, both}
use Rattle.x86.specs.Forms.{Slot, rm, rm_near, mem, mem_far, reg, sreg, sreg_not_cs, acc, low3, bits34, bits34_not_cs, cl, dx, one, moffs, xlat, ib, iw, ib_sx, cb, cw, ptr, nil, Extension, Form}
use Rattle.x86.specs.Forms as F
use Rattle.x86.proofs.Tests.{both_parts}
use Rattle.list_spec.specs.declared.Second.{Second}
use Rattle.list_spec.specs.declared.Second.TheVariants as X
use Rattle.list_spec.specs.declared.Tail.{Tail}
use Rattle.list_spec.specs.declared.Tail.TheVariants as L
use Rattle.list_spec.specs.declared.Start.{Start}
use Rattle.list_spec.specs.Starts.{start}

abbrev pub second_for : Extension → ℕ → Option Second
second_for F.no x = None
second_for F.+r x = None
second_for F.+s x = None
second_for F./r x = Some (X.ModRm x)
second_for (F./ n) x = Some (X.ModRm x)
second_for F.0A x = Some (X.Fixed x)

abbrev pub tail_in : Slot → Option Tail
tail_in (rm w) = None
tail_in rm_near = None
tail_in mem = None
tail_in mem_far = None
tail_in (reg w) = None
tail_in sreg = None
tail_in sreg_not_cs = None
tail_in (acc w) = None
tail_in (low3 w) = None
tail_in bits34 = None
tail_in bits34_not_cs = None
tail_in cl = None
tail_in dx = None
tail_in one = None
tail_in (moffs w) = Some L.Address
tail_in xlat = None
tail_in ib = Some L.Byte
tail_in iw = Some L.Word
tail_in ib_sx = Some L.Byte
tail_in cb = Some L.Near8
tail_in cw = Some L.Near16
tail_in ptr = Some L.Far
tail_in nil = None

-- the tail of two slots, of which one at most has one
abbrev pub joined : Option Tail → Option Tail → Option Tail
joined None u = u
joined (Some L.Byte) u = Some L.Byte
joined (Some L.Word) u = Some L.Word
joined (Some L.Near8) u = Some L.Near8
joined (Some L.Near16) u = Some L.Near16
joined (Some L.Far) u = Some L.Far
joined (Some L.Address) u = Some L.Address

abbrev pub start_by : Form → ℕ → ℕ → Start
start_by f c x = start c (second_for f.extension x) (joined (tail_in f.first) (tail_in f.second))

-- ---- equality, as a test
abbrev second_kind : Option Second → ℕ
second_kind None = 0
second_kind (Some (X.ModRm x)) = 1
second_kind (Some (X.Fixed x)) = 2

abbrev second_byte : Option Second → ℕ
second_byte None = 0
second_byte (Some (X.ModRm x)) = x
second_byte (Some (X.Fixed x)) = x

abbrev pub tail_number : Option Tail → ℕ
tail_number None = 0
tail_number (Some L.Byte) = 1
tail_number (Some L.Word) = 2
tail_number (Some L.Near8) = 3
tail_number (Some L.Near16) = 4
tail_number (Some L.Far) = 5
tail_number (Some L.Address) = 6

abbrev pub same_start : Start → Start → Bool
same_start a b =
    both (eqb a.opcode b.opcode)
    (both (eqb (second_kind a.second) (second_kind b.second))
    (both (eqb (second_byte a.second) (second_byte b.second)) (eqb (tail_number a.tail) (tail_number b.tail))))

-- from the numbers
abbrev second_at : ℕ → ℕ → Option Second
second_at k x = pick (eqb k 1) (Some (X.ModRm x)) (pick (eqb k 2) (Some (X.Fixed x)) None)

second_at_lem : (x : Option Second) → second_at (second_kind x) (second_byte x) ≡ x
second_at_lem None = refl
second_at_lem (Some (X.ModRm x)) = refl
second_at_lem (Some (X.Fixed x)) = refl

abbrev tail_at : ℕ → Option Tail
tail_at n = get_or (None ∷ Some L.Byte ∷ Some L.Word ∷ Some L.Near8 ∷ Some L.Near16 ∷ Some L.Far ∷ Some L.Address ∷ []) n None

tail_at_lem : (t : Option Tail) → tail_at (tail_number t) ≡ t
tail_at_lem None = refl
tail_at_lem (Some L.Byte) = refl
tail_at_lem (Some L.Word) = refl
tail_at_lem (Some L.Near8) = refl
tail_at_lem (Some L.Near16) = refl
tail_at_lem (Some L.Far) = refl
tail_at_lem (Some L.Address) = refl

-- a conjunction of equalities, one taken off
first_eq : (a b : ℕ) (q : Bool) → T (both (eqb a b) q) → (a ≡ b) × T q
first_eq a b q t = let (x, y) = both_parts (eqb a b) q t in (eqb→eq a b x, y)

pub start_eq : (a b : Start) → T (same_start a b) → a ≡ b
start_eq a b t =
    let u = eqb (tail_number a.tail) (tail_number b.tail) in
    let v = both (eqb (second_byte a.second) (second_byte b.second)) u in
    let (e0, t1) = first_eq a.opcode b.opcode (both (eqb (second_kind a.second) (second_kind b.second)) v) t in
    let (e1, t2) = first_eq (second_kind a.second) (second_kind b.second) v t1 in
    let (e2, t3) = first_eq (second_byte a.second) (second_byte b.second) u t2 in
    let e3 = eqb→eq (tail_number a.tail) (tail_number b.tail) t3 in
    let s : a.second ≡ b.second = sym (second_at_lem a.second) ∙ ((λ i. second_at (e1 i) (e2 i)) ∙ second_at_lem b.second) in
    let l : a.tail ≡ b.tail = sym (tail_at_lem a.tail) ∙ (ap tail_at e3 ∙ tail_at_lem b.tail) in
    λ i. record { opcode = e0 i; second = s i; tail = l i }
