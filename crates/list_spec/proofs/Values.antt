-- What the bytes behind opcode and second byte are, from the numbers that they were read as.
-- Assumes nothing.
use Rattle.std.specs.Prelude.{Option, Some, None}
use mathlib.Core.Path.{◌≡◌, refl, sym, ap, ap₂}
use Prim.Native.Nat.{ℕ, zero, suc, ◌+◌, ◌*◌, ◌/◌, ◌%◌, ◌≤◌, ◌<◌}
use native.Mathlib.Omega.{arith}
use mathlib.Core.Bool.{Bool, true, false}
use mathlib.Core.List.{List, [], ◌∷◌, ◌++◌}
use lib.Dec.{eqb, ltb}
use lib.ListN.{length, get_or, drop}
use borrow.Author.Tests.{ltb-true, ltb-false, ne_eqb, eqb-true}
use Rattle.mrc_compiler.specs.declared.ast.Segment.{Segment}
use Rattle.mrc_compiler.specs.declared.ast.Segment.TheVariants as G
use Rattle.mrc_compiler.specs.Builders.{prefix_for}
use Rattle.mrc_compiler.specs.Choose.{pick, either}
use Rattle.x86.specs.declared.Operand.{Operand}
use Rattle.x86.specs.declared.Operand.TheVariants as O
use Rattle.x86.specs.Instructions.{in_effect}
use Rattle.x86.specs.Forms.{Slot, rm, rm_near, mem, mem_far, reg, sreg, sreg_not_cs, acc, low3, bits34, bits34_not_cs, cl, dx, one, moffs, xlat, ib, iw, ib_sx, cb, cw, ptr, nil}
use Rattle.x86.specs.Reading.{Place, nowhere, by_modrm, by_address, by_bx_al, mode, low, displacement_length, about, address_length, in_memory, displacement_at, memory_at, rm_at, at, prefix}
use Rattle.x86.specs.Listing.{Bytes}
use Rattle.encode_spec.specs.Layout.{word_bytes}
use Rattle.x86.specs.Operands.{displacement_in, value_in, far_segment_in}
use Rattle.list_spec.specs.Operands.{prefix_in}
use Rattle.list_spec.specs.Candidates.{byte_of, displacement_bytes, distance, tail_bytes}
use Rattle.list_spec.specs.declared.Tail.{Tail}
use Rattle.list_spec.specs.declared.Tail.TheVariants as L
use Rattle.list_spec.proofs.ByForm.{tail_in, tail_number}

-- ---- numbers and their bytes
extended : (b : ℕ) (q : Bool) → ltb b 128 ≡ q → b < 256 → pick q b (b + 65280) % 256 ≡ b
extended b true q h = omega (arith, ltb-true b 128 q)
extended b false q h = omega (arith, ltb-false b 128 q)

word_low : (a b : ℕ) → a < 256 → (a + 256 * b) % 256 ≡ a
word_low a b h = omega arith

word_high : (a b : ℕ) → a < 256 → b < 256 → (a + 256 * b) / 256 ≡ b
word_high a b h k = omega arith

-- the distance byte from the target that it gave, at an offset
far_byte : (b off : ℕ) (q : Bool) → ltb b 128 ≡ q → b < 256 → off < 65536 → distance ((off + 2 + pick q b (b + 65280)) % 65536) off 2 % 256 ≡ b
far_byte b off true q h k = omega (arith, ltb-true b 128 q)
far_byte b off false q h k = omega (arith, ltb-false b 128 q)

-- the distance word
far_low : (a b off : ℕ) → a < 256 → b < 256 → off < 65536 → distance ((off + 3 + (a + 256 * b)) % 65536) off 3 % 256 ≡ a
far_low a b off h k l = omega arith

far_high : (a b off : ℕ) → a < 256 → b < 256 → off < 65536 → distance ((off + 3 + (a + 256 * b)) % 65536) off 3 / 256 ≡ b
far_high a b off h k l = omega arith

-- ---- lists of one, two, four
no_more : (u : List ℕ) → length u ≡ 0 → u ≡ []
no_more [] e = refl
no_more (a ∷ u) e = absurd (omega arith)

single : (v : ℕ) (u : List ℕ) → length u ≡ 1 → v % 256 ≡ get_or u 0 0 → u ≡ byte_of v
single v [] e f = absurd (omega arith)
single v (a ∷ []) e f = ap (λ (w : ℕ). w ∷ []) (sym f)
single v (a ∷ b ∷ u) e f = absurd (omega arith)

double : (v : ℕ) (u : List ℕ) → length u ≡ 2 → v % 256 ≡ get_or u 0 0 → v / 256 ≡ get_or u 1 0 → u ≡ word_bytes v
double v [] e f g = absurd (omega arith)
double v (a ∷ []) e f g = absurd (omega arith)
double v (a ∷ b ∷ []) e f g = ap₂ (λ (w z : ℕ). w ∷ z ∷ []) (sym f) (sym g)
double v (a ∷ b ∷ c ∷ u) e f g = absurd (omega arith)

words : (u : List ℕ) → length u ≡ 4 → Bytes u → u ≡ word_bytes (get_or u 0 0 + 256 * get_or u 1 0) ++ word_bytes (get_or u 2 0 + 256 * get_or u 3 0)
words [] e bs = absurd (omega arith)
words (a ∷ []) e bs = absurd (omega arith)
words (a ∷ b ∷ []) e bs = absurd (omega arith)
words (a ∷ b ∷ c ∷ []) e bs = absurd (omega arith)
words (a ∷ b ∷ c ∷ d ∷ []) e bs =
    λ i. sym (word_low a b (bs 0)) i ∷ sym (word_high a b (bs 0) (bs 1)) i ∷ sym (word_low c d (bs 2)) i ∷ sym (word_high c d (bs 2) (bs 3)) i ∷ []
words (a ∷ b ∷ c ∷ d ∷ x ∷ u) e bs = absurd (omega arith)

-- ---- the displacement or address
pub displacement_back : (n : ℕ) (t : List ℕ) → n ≤ 2 → n ≤ length t → Bytes t → t ≡ displacement_bytes n (displacement_at n t) ++ drop n t
displacement_back zero t h k bs = refl
displacement_back (suc zero) [] h k bs = absurd (omega arith)
displacement_back (suc zero) (a ∷ t) h k bs = ap (λ (v : ℕ). v ∷ t) (sym (extended a (ltb a 128) refl (bs 0)))
displacement_back (suc (suc zero)) [] h k bs = absurd (omega arith)
displacement_back (suc (suc zero)) (a ∷ []) h k bs = absurd (omega arith)
displacement_back (suc (suc zero)) (a ∷ b ∷ t) h k bs =
    ap₂ (λ (v w : ℕ). v ∷ w ∷ t) (sym (word_low a b (bs 0))) (sym (word_high a b (bs 0) (bs 1)))
displacement_back (suc (suc (suc n))) t h k bs = absurd (omega arith)

extended_small : (b : ℕ) (q : Bool) → b < 256 → pick q b (b + 65280) < 65536
extended_small b true h = omega arith
extended_small b false h = omega arith

pub displacement_small : (n : ℕ) (t : List ℕ) → n ≤ 2 → Bytes t → displacement_at n t < 65536
displacement_small zero t h bs = omega arith
displacement_small (suc zero) t h bs = extended_small (get_or t 0 0) (ltb (get_or t 0 0) 128) (bs 0)
displacement_small (suc (suc zero)) t h bs = omega (arith, bs 0, bs 1)
displacement_small (suc (suc (suc n))) t h bs = absurd (omega arith)

-- a register has no displacement
register_length : (m l : ℕ) → 3 ≤ m → displacement_length m l ≡ 0
register_length m l h = rw (ne_eqb m 0 (λ e. omega arith), ne_eqb m 1 (λ e. omega arith), ne_eqb m 2 (λ e. omega arith)) refl

rm_displacement : (p x : ℕ) (t : List ℕ) → displacement_in (rm_at p x t) ≡ displacement_at (displacement_length (mode x) (low x)) t
rm_displacement p x t = go (ltb (mode x) 3) refl
  where
    go : (b : Bool) → ltb (mode x) 3 ≡ b → displacement_in (rm_at p x t) ≡ displacement_at (displacement_length (mode x) (low x)) t
    go true e = rw e refl
    go false e = rw (e, register_length (mode x) (low x) (ltb-false (mode x) 3 e)) refl

-- ---- the prefix
-- a prefix byte names its segment
prefix_named : (p : ℕ) → prefix p ≡ true → (default : Segment) → prefix_for (in_effect p default) ≡ p
unfolding prefix
prefix_named p e default = go (eqb p 0x26) (eqb p 0x2E) (eqb p 0x36) (eqb p 0x3E) refl refl refl refl e
  where
    go : (i j k l : Bool) → eqb p 0x26 ≡ i → eqb p 0x2E ≡ j → eqb p 0x36 ≡ k → eqb p 0x3E ≡ l → either i (either j (either k l)) ≡ true
        → prefix_for (in_effect p default) ≡ p
    go true j k l a b d f e = rw (eqb-true p 0x26 a) refl
    go false true k l a b d f e = rw (eqb-true p 0x2E b) refl
    go false false true l a b d f e = rw (eqb-true p 0x36 d) refl
    go false false false true a b d f e = rw (eqb-true p 0x3E f) refl
    go false false false false a b d f e = let z : ◌≡◌ {A = ℕ} 0 1 = cc in absurd (omega arith)

rm_prefix : (p x : ℕ) (t : List ℕ) → prefix p ≡ true → prefix_in (rm_at p x t) ≡ pick (ltb (mode x) 3) p 0
rm_prefix p x t e = go (ltb (mode x) 3)
  where
    go : (b : Bool) → prefix_in (pick b (memory_at p x t) (O.Register (low x))) ≡ pick b p 0
    go true = prefix_named p e _
    go false = refl

-- ---- the immediate of a tail, by the tail's kind: value v, or target v with the segment s
abbrev pub immediate_bytes : Option Tail → ℕ → ℕ → ℕ → List ℕ
immediate_bytes None off v s = []
immediate_bytes (Some L.Byte) off v s = byte_of v
immediate_bytes (Some L.Word) off v s = word_bytes v
immediate_bytes (Some L.Near8) off v s = byte_of (distance v off 2)
immediate_bytes (Some L.Near16) off v s = word_bytes (distance v off 3)
immediate_bytes (Some L.Far) off v s = word_bytes v ++ word_bytes s
immediate_bytes (Some L.Address) off v s = []

-- the length of an instruction with a near target
abbrev pub near : Option Tail → ℕ
near None = 0
near (Some L.Byte) = 0
near (Some L.Word) = 0
near (Some L.Near8) = 2
near (Some L.Near16) = 3
near (Some L.Far) = 0
near (Some L.Address) = 0

-- an address that is no displacement
abbrev pub address_only : Place → ℕ
address_only nowhere = 0
address_only by_modrm = 0
address_only by_address = 2
address_only by_bx_al = 0

-- ---- a slot
rm_value : (p x : ℕ) (t : List ℕ) → value_in (rm_at p x t) ≡ 0
rm_value p x t = go (ltb (mode x) 3)
  where
    go : (b : Bool) → value_in (pick b (memory_at p x t) (O.Register (low x))) ≡ 0
    go true = refl
    go false = refl

rm_segment : (p x : ℕ) (t : List ℕ) → far_segment_in (rm_at p x t) ≡ 0
rm_segment p x t = go (ltb (mode x) 3)
  where
    go : (b : Bool) → far_segment_in (pick b (memory_at p x t) (O.Register (low x))) ≡ 0
    go true = refl
    go false = refl

module _ (off p x next : ℕ) (t u : List ℕ) where
  -- what the bytes t (address) and u (immediate) of a slot have to do with its operand o, where memory is at l, the immediate takes k bytes and the tail is y
  pub record Holds (o : Operand) (l : Place) (k : ℕ) (y : Option Tail) : Type 0 where
    -- the displacement is that of the address bytes
    pub displacement : displacement_in o ≡ displacement_at (address_length l x) t
    -- memory behind a prefix is in its segment
    pub prefixed : prefix p ≡ true → prefix_in o ≡ pick (in_memory l x) p 0
    -- values fit a word
    pub small : Bytes u → (value_in o < 65536) × (far_segment_in o < 65536)
    -- without immediate bytes there is no value
    pub quiet : k ≡ 0 → (value_in o ≡ 0) × (far_segment_in o ≡ 0) × ((v s : ℕ) → immediate_bytes y off v s ≡ [])
    -- the immediate bytes are those of the value that they give
    pub back : off < 65536 → Bytes u → length u ≡ k → (0 < near y → next ≡ off + near y) → u ≡ immediate_bytes y off (value_in o) (far_segment_in o)
    -- the tail is address and immediate
    pub tail : (d v s : ℕ) → tail_bytes y off d v s ≡ displacement_bytes (address_only l) d ++ immediate_bytes y off v s
    pub address : tail_number y ≡ 0 → address_only l ≡ 0

  -- no immediate and no address
  still : {o : Operand} {l : Place} → address_only l ≡ 0 → displacement_in o ≡ displacement_at (address_length l x) t
      → (prefix p ≡ true → prefix_in o ≡ pick (in_memory l x) p 0) → value_in o ≡ 0 → far_segment_in o ≡ 0 → Holds o l 0 None
  still a d q v s =
      record {
        displacement = d;
        prefixed = q;
        small = λ _. (omega arith, omega arith);
        quiet = λ _. (v, s, λ _ _. refl);
        back = λ _ _ e _. no_more u e;
        tail = λ _ _ _. rw a refl;
        address = λ _. a;
      }

  plain : {o : Operand} → displacement_in o ≡ 0 → prefix_in o ≡ 0 → value_in o ≡ 0 → far_segment_in o ≡ 0 → Holds o nowhere 0 None
  plain d q v s = still refl d (λ _. q) v s

  in_rm : Holds (rm_at p x t) by_modrm 0 None
  in_rm = still refl (rm_displacement p x t) (rm_prefix p x t) (rm_value p x t) (rm_segment p x t)

  -- an immediate alone
  given : {o : Operand} {k : ℕ} {y : Option Tail} → displacement_in o ≡ 0 → prefix_in o ≡ 0 → 0 < k → (Bytes u → (value_in o < 65536) × (far_segment_in o < 65536))
      → ((d v s : ℕ) → tail_bytes y off d v s ≡ immediate_bytes y off v s)
      → (off < 65536 → Bytes u → length u ≡ k → (0 < near y → next ≡ off + near y) → u ≡ immediate_bytes y off (value_in o) (far_segment_in o))
      → Holds o nowhere k y
  given d q n l e b =
      record { displacement = d; prefixed = λ _. q; small = l; quiet = λ z. absurd (omega arith); back = b; tail = e; address = λ _. refl }

  pub holds : (c : ℕ) (a : Slot) → Holds (at a p c x next t u) (about a).place (about a).takes (tail_in a)
  holds c (rm w) = in_rm
  holds c rm_near = in_rm
  holds c mem = in_rm
  holds c mem_far = in_rm
  holds c (reg w) = plain refl refl refl refl
  holds c sreg = plain refl refl refl refl
  holds c sreg_not_cs = plain refl refl refl refl
  holds c (acc w) = plain refl refl refl refl
  holds c (low3 w) = plain refl refl refl refl
  holds c bits34 = plain refl refl refl refl
  holds c bits34_not_cs = plain refl refl refl refl
  holds c cl = plain refl refl refl refl
  holds c dx = plain refl refl refl refl
  holds c one = plain refl refl refl refl
  holds c (moffs w) =
      record {
        displacement = refl;
        prefixed = λ e. prefix_named p e G.DS;
        small = λ _. (omega arith, omega arith);
        quiet = λ _. (refl, refl, λ _ _. refl);
        back = λ _ _ e _. no_more u e;
        tail = λ _ _ _. refl;
        address = λ e. absurd (omega arith);
      }
  holds c xlat = still refl refl (λ e. prefix_named p e G.DS) refl refl
  holds c ib = given refl refl (omega arith) (λ bs. (omega (arith, bs 0), omega arith)) (λ _ _ _. refl) (λ _ bs e _. single _ u e (omega (arith, bs 0)))
  holds c iw =
      given refl refl (omega arith) (λ bs. (omega (arith, bs 0, bs 1), omega arith)) (λ _ _ _. refl)
      (λ _ bs e _. double _ u e (word_low _ _ (bs 0)) (word_high _ _ (bs 0) (bs 1)))
  holds c ib_sx =
      given refl refl (omega arith) (λ bs. (extended_small (get_or u 0 0) (ltb (get_or u 0 0) 128) (bs 0), omega arith)) (λ _ _ _. refl)
      (λ _ bs e _. single _ u e (extended _ _ refl (bs 0)))
  holds c cb =
      given refl refl (omega arith) (λ _. (omega arith, omega arith)) (λ _ _ _. refl)
      (λ h bs e n. rw (n (omega arith)) (single _ u e (far_byte _ off _ refl (bs 0) h)))
  holds c cw =
      given refl refl (omega arith) (λ _. (omega arith, omega arith)) (λ _ _ _. refl)
      (λ h bs e n. rw (n (omega arith)) (double _ u e (far_low _ _ off (bs 0) (bs 1) h) (far_high _ _ off (bs 0) (bs 1) h)))
  holds c ptr =
      given refl refl (omega arith) (λ bs. (omega (arith, bs 0, bs 1), omega (arith, bs 2, bs 3))) (λ _ _ _. refl) (λ _ bs e _. words u e bs)
  holds c nil = plain refl refl refl refl
