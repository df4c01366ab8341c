-- What stands in a slot: the field of opcode or ModRM that an operand's number goes to, and that the operand is read back from there.
-- Assumes nothing.
use mathlib.Core.Path.{◌≡◌, refl, sym, ◌∙◌, ap}
use Prim.Native.Nat.{ℕ, suc, ◌+◌, ◌*◌, ◌/◌, ◌%◌, ◌≤◌, ◌<◌}
use native.Mathlib.Omega.{arith}
use mathlib.Core.Bool.{Bool, true, false}
use mathlib.Core.List.{List, [], ◌++◌}
use lib.Dec.{T, eqb}
use lib.IntN.{ℤ, pos, negsuc}
use lib.ListN.{length, get_or}
use borrow.Author.Tests.{lt-ltb, eqb-true}
use Rattle.mrc_compiler.specs.declared.encoder.OperandData.{OperandData}
use Rattle.mrc_compiler.specs.declared.encoder.OperandKind.TheVariants as K
use Rattle.mrc_compiler.specs.declared.encoder.OperandSize.{OperandSize}
use Rattle.mrc_compiler.specs.Choose.{pick, both, by_size, by_kind}
use Rattle.mrc_compiler.specs.Values.{within, mod_z}
use Rattle.base_values.specs.Distances.{distance_of}
use Rattle.x86.specs.declared.Operand.{Operand}
use Rattle.x86.specs.declared.Operand.TheVariants as O
use Rattle.x86.specs.Instructions.{in_effect, default_segment}
use Rattle.x86.specs.Forms.{byte, word, Slot, rm, rm_near, mem, mem_far, reg, sreg, sreg_not_cs, acc, low3, bits34, bits34_not_cs, cl, dx, one, moffs, xlat, ib, iw, ib_sx, cb, cw, ptr, nil}
use Rattle.x86.specs.Reading.{mode, digit, low, Place, nowhere, by_modrm, about, allows_opcode, allows_second, sign_extended, word_at, rm_at, at}
use Rattle.x86.specs.Reading as R
use Rattle.x86.specs.Listing.{Bytes}
use Rattle.encode_spec.specs.WellFormed.{bytes_of, is_prefix, well_formed}
use Rattle.encode_spec.specs.Records.{same_size}
use Rattle.encode_groups.specs.declared.Group.{Group}
use Rattle.encode_spec.specs.Operands.{counted}
use Rattle.encode_spec.specs.Choice.{takes}
use Rattle.encode_spec.specs.Layout.{word_of, displacement_bytes, Part, nothing, in_rm, in_reg, in_opcode, behind_opcode, part}
use Rattle.encode_spec.specs.Limits.{Asked, of_slot, short_distance}
use Rattle.encode_spec.specs.Answer.{First, all_yes, no, first_no}
use Rattle.encode_spec.proofs.Operands.{imm_taken, reg_taken, seg_taken, mem_taken, no_displacement, InRm, mem_in_rm, mem_mode, mem_value, mem_size, taken_in_rm, taken_reg, taken_seg, taken_mem}
use Rattle.encode_spec.proofs.Values.{both_true, signed_back, word_back, far_back, target_back, no_byte, bytes_append, bytes_byte, bytes_word}

-- ---- where a slot's operand stands
pub data Field : Type 0 where
  at_rm : Field  -- mode and r/m of ModRM
  at_reg : Field  -- reg of ModRM
  in_low3 : Field  -- the opcode's low three bits
  in_bits34 : Field  -- the opcode's bits 3 and 4
  by_address : Field  -- the word behind the opcode
  by_bx_al : Field
  distance : ℕ → Field  -- a distance from the end, so many bytes on
  elsewhere : Field  -- in the opcode as a whole, or in the immediate

abbrev pub field : Slot → Field
field (rm w) = at_rm
field rm_near = at_rm
field mem = at_rm
field mem_far = at_rm
field (reg w) = at_reg
field sreg = at_reg
field sreg_not_cs = at_reg
field (acc w) = elsewhere
field (low3 w) = in_low3
field bits34 = in_bits34
field bits34_not_cs = in_bits34
field cl = elsewhere
field dx = elsewhere
field one = elsewhere
field (moffs w) = by_address
field xlat = by_bx_al
field ib = elsewhere
field iw = elsewhere
field ib_sx = elsewhere
field cb = distance 2
field cw = distance 3
field ptr = elsewhere
field nil = elsewhere

-- ---- what a slot holds of an operand
abbrev pub holds : Slot → OperandData → Operand
holds (rm w) o = counted w o
holds rm_near o = counted word o
holds mem o = counted word o
holds mem_far o = counted word o
holds (reg w) o = counted w o
holds sreg o = counted word o
holds sreg_not_cs o = counted word o
holds (acc w) o = counted w o
holds (low3 w) o = counted w o
holds bits34 o = counted word o
holds bits34_not_cs o = counted word o
holds cl o = O.Register o.rm
holds dx o = O.Register o.rm
holds one o = O.One
holds (moffs w) o = counted w o
holds xlat o = counted byte o
holds ib o = O.Immediate (mod_z 256 o.imm)
holds iw o = O.Immediate (mod_z 65536 o.imm)
holds ib_sx o = O.Immediate (mod_z 65536 o.imm)
holds cb o = O.Near (mod_z 65536 o.imm)
holds cw o = O.Near (mod_z 65536 o.imm)
holds ptr o = O.Far (mod_z 65536 o.imm) (mod_z 65536 o.displacement)
holds nil o = O.None

-- ---- an operand accepted in a slot
pub record Given (s : Slot) (off : ℕ) (o : OperandData) : Type 0 where
  pub size : OperandSize
  pub taken : takes s size o ≡ true
  pub formed : well_formed o ≡ true
  pub group : Group
  pub asked : first_no (of_slot group s off o) ≡ all_yes

-- the operand's numbers fit its field
abbrev pub Bounded : Field → OperandData → Type 0
Bounded at_rm o = InRm o
Bounded at_reg o = o.rm < 8
Bounded in_low3 o = o.rm < 8
Bounded in_bits34 o = o.rm < 4
Bounded by_address o = is_prefix o.segment_prefix ≡ true
Bounded by_bx_al o = is_prefix o.segment_prefix ≡ true
Bounded (distance k) o = T true
Bounded elsewhere o = T true

pub bounded : (s : Slot) (off : ℕ) (o : OperandData) → Given s off o → Bounded (field s) o
bounded (rm w) off o g = taken_in_rm o g.formed _ g.taken
bounded rm_near off o g = taken_in_rm o g.formed _ g.taken
bounded mem off o g = mem_in_rm o g.formed (mem_taken o.kind true g.taken).0
bounded mem_far off o g = mem_in_rm o g.formed (mem_taken o.kind _ g.taken).0
bounded (reg w) off o g = taken_reg o g.formed _ g.taken
bounded sreg off o g = let h = taken_seg o g.formed _ g.taken in omega arith
bounded sreg_not_cs off o g = let h = taken_seg o g.formed _ g.taken in omega arith
bounded (acc w) off o g = tt
bounded (low3 w) off o g = taken_reg o g.formed _ g.taken
bounded bits34 off o g = taken_seg o g.formed _ g.taken
bounded bits34_not_cs off o g = taken_seg o g.formed _ g.taken
bounded cl off o g = tt
bounded dx off o g = tt
bounded one off o g = tt
bounded (moffs w) off o g = taken_mem o g.formed _ g.taken
bounded xlat off o g = taken_mem o g.formed _ g.taken
bounded ib off o g = tt
bounded iw off o g = tt
bounded ib_sx off o g = tt
bounded cb off o g = tt
bounded cw off o g = tt
bounded ptr off o g = tt
bounded nil off o g = tt

-- ---- where an operand stands in some bytes: prefix p, first byte c, second byte x, the offset past them, the bytes t behind opcode and ModRM
pub record StandsInRm (o : OperandData) (p x : ℕ) (t : List ℕ) : Type 0 where
  pub p_is : p ≡ o.segment_prefix
  pub mode_is : mode x ≡ o.mode
  pub low_is : low x ≡ o.rm
  pub rest : List ℕ
  pub t_is : t ≡ displacement_bytes o ++ rest

pub record StandsBehind (o : OperandData) (p : ℕ) (t : List ℕ) : Type 0 where
  pub p_is : p ≡ o.segment_prefix
  pub rest : List ℕ
  pub t_is : t ≡ word_of o.displacement ++ rest

abbrev pub Stands : Field → OperandData → ℕ → ℕ → ℕ → ℕ → ℕ → List ℕ → Type 0
Stands at_rm o off p c x next t = StandsInRm o p x t
Stands at_reg o off p c x next t = digit x ≡ o.rm
Stands in_low3 o off p c x next t = c % 8 ≡ o.rm
Stands in_bits34 o off p c x next t = c / 8 ≡ o.rm
Stands by_address o off p c x next t = StandsBehind o p t
Stands by_bx_al o off p c x next t = p ≡ o.segment_prefix
Stands (distance k) o off p c x next t = next ≡ off + k
Stands elsewhere o off p c x next t = T true

-- the first k bytes are the same
abbrev pub Alike : ℕ → List ℕ → List ℕ → Type 0
Alike k s t = (i : ℕ) → i < k → get_or s i 0 ≡ get_or t i 0

-- the slot has these first and second bytes, and the operand is read from it
pub record Found (s : Slot) (o : OperandData) (p c x next : ℕ) (t u : List ℕ) : Type 0 where
  pub opcode : allows_opcode (about s).restriction c ≡ true
  pub second : allows_second (about s).restriction x ≡ true
  pub reads : at s p c x next t u ≡ holds s o

got : {s : Slot} {o : OperandData} {p c x next : ℕ} {t u : List ℕ} → allows_opcode (about s).restriction c ≡ true → allows_second (about s).restriction x ≡ true
    → at s p c x next t u ≡ holds s o → Found s o p c x next t u
got e f r = record { opcode = e; second = f; reads = r }

-- ---- the operands read, at the width z
rm_read : (z : OperandSize) (o : OperandData) (p x : ℕ) (t : List ℕ) → InRm o → StandsInRm o p x t → rm_at p x t ≡ counted z o
rm_read z o p x t i h = rw (h.p_is, h.mode_is, h.low_is, h.t_is) (i.reads z h.rest)

reg_read : (z : OperandSize) (o : OperandData) (b : Bool) (n : ℕ) → by_kind o.kind false b false false ≡ true → n ≡ o.rm
    → O.Register n ≡ counted z o
unfolding counted
reg_read z o b n e h = rw ((reg_taken o.kind b e).0, h)

seg_read : (z : OperandSize) (o : OperandData) (b : Bool) (n : ℕ) → by_kind o.kind false false b false ≡ true → n ≡ o.rm
    → O.SegmentRegister n ≡ counted z o
unfolding counted
seg_read z o b n e h = rw ((seg_taken o.kind b e).0, h)

-- mode 0 with r/m 6 has no base
address_read : (z : OperandSize) (o : OperandData) (p : ℕ) (t : List ℕ) → o.kind ≡ K.Mem → both (eqb o.mode 0) (eqb o.rm 6) ≡ true
    → StandsBehind o p t
    → O.Memory 8 (word_at 0 t) (in_effect p (default_segment 0 6)) ≡ counted z o
unfolding counted
address_read z o p t k e h =
    let m = both_true (eqb o.mode 0) (eqb o.rm 6) e in
    rw (k, eqb-true o.mode 0 m.0, eqb-true o.rm 6 m.1, h.p_is, h.t_is, word_back o.displacement h.rest)

-- mode 0 with r/m 7 has no displacement
bx_al_read : (z : OperandSize) (o : OperandData) (p : ℕ) → well_formed o ≡ true → o.kind ≡ K.Mem → both (eqb o.mode 0) (eqb o.rm 7) ≡ true
    → p ≡ o.segment_prefix
    → O.Memory 7 0 (in_effect p (default_segment 0 7)) ≡ counted z o
unfolding counted
bx_al_read z o p w k e h =
    let (m, r) = both_true (eqb o.mode 0) (eqb o.rm 7) e in
    let d : bytes_of o.displacement_size ≡ 0 = mem_size o w k ∙ rw (eqb-true o.mode 0 m, eqb-true o.rm 7 r) in
    let f : mod_z 65536 o.displacement ≡ 0 = no_displacement o.displacement_size o.displacement d (mem_value o w k) in
    rw (k, eqb-true o.mode 0 m, eqb-true o.rm 7 r, h, f)

-- a branch's distance, read and added to the end, is its target
near_read : (z : ℤ) (off k next b : ℕ) → off < 65536 → k ≤ 2 → next ≡ off + suc k → b ≡ mod_z 65536 (distance_of z off (suc k))
    → O.Near ((next + b) % 65536) ≡ O.Near (mod_z 65536 z)
near_read z off k next b h l e f = rw (e, f) (ap (λ (n : ℕ). O.Near n) (target_back z off k (omega arith)))

-- a question answered yes, and those behind it
pub yes : (b : Bool) (f : First) (q : Asked) → pick b f (no q) ≡ all_yes → (b ≡ true) × (f ≡ all_yes)
yes true f q e = (refl, e)
yes false f q e = let z : ◌≡◌ {A = ℕ} 0 1 = cc in absurd (omega arith)

-- ---- every slot: the operand that stands in it is read from it
pub found : (s : Slot) (off : ℕ) (o : OperandData) → off < 65536 → Given s off o → (p c x next : ℕ) (t u : List ℕ)
    → Stands (field s) o off p c x next t → Alike (about s).takes u (part s off o).immediate → Found s o p c x next t u
found (rm w) off o h g p c x next t u i a = got refl refl (rm_read w o p x t (bounded (rm w) off o g) i)
found rm_near off o h g p c x next t u i a = got refl refl (rm_read word o p x t (bounded rm_near off o g) i)
found mem off o h g p c x next t u i a =
    let m = mem_mode o g.formed (mem_taken o.kind true g.taken).0 in
    got refl (lt-ltb (x / 64) 3 (omega (arith, i.mode_is))) (rm_read word o p x t (bounded mem off o g) i)
found mem_far off o h g p c x next t u i a =
    let m = mem_mode o g.formed (mem_taken o.kind _ g.taken).0 in
    got refl (lt-ltb (x / 64) 3 (omega (arith, i.mode_is))) (rm_read word o p x t (bounded mem_far off o g) i)
found (reg w) off o h g p c x next t u i a = got refl refl (reg_read w o _ _ g.taken i)
found sreg off o h g p c x next t u i a =
    got refl (rw i (lt-ltb o.rm 4 (taken_seg o g.formed true g.taken))) (seg_read word o _ _ g.taken i)
found sreg_not_cs off o h g p c x next t u i a =
    got refl (rw (i, lt-ltb o.rm 4 (taken_seg o g.formed _ g.taken)) (seg_taken o.kind _ g.taken).1) (seg_read word o _ _ g.taken i)
found (acc w) off o h g p c x next t u i a =
    let k = both_true (same_size w g.size) (eqb o.rm 0) (reg_taken o.kind _ g.taken).1 in
    got refl refl (reg_read w o _ 0 g.taken (sym (eqb-true o.rm 0 k.1)))
found (low3 w) off o h g p c x next t u i a = got refl refl (reg_read w o _ _ g.taken i)
found bits34 off o h g p c x next t u i a = got refl refl (seg_read word o _ _ g.taken i)
found bits34_not_cs off o h g p c x next t u i a = got (rw i (seg_taken o.kind _ g.taken).1) refl (seg_read word o _ _ g.taken i)
found cl off o h g p c x next t u i a =
    let k = both_true (by_size o.size false true false) (eqb o.rm 1) (reg_taken o.kind _ g.taken).1 in
    got refl refl (rw (eqb-true o.rm 1 k.1))
found dx off o h g p c x next t u i a =
    let k = both_true (by_size o.size false false true) (eqb o.rm 2) (reg_taken o.kind _ g.taken).1 in
    got refl refl (rw (eqb-true o.rm 2 k.1))
found one off o h g p c x next t u i a = got refl refl refl
found (moffs w) off o h g p c x next t u i a =
    let (k, e) = mem_taken o.kind (both (same_size w g.size) (both (eqb o.mode 0) (eqb o.rm 6))) g.taken in
    got refl refl (address_read w o p t k (both_true (same_size w g.size) (both (eqb o.mode 0) (eqb o.rm 6)) e).1 i)
found xlat off o h g p c x next t u i a =
    let (k, e) = mem_taken o.kind _ g.taken in
    got refl refl (bx_al_read byte o p g.formed k e i)
found ib off o h g p c x next t u i a = got refl refl (rw (a 0 (omega arith)))
found iw off o h g p c x next t u i a = got refl refl (rw (a 0 (omega arith), a 1 (omega arith), word_back o.imm []))
found ib_sx off o h g p c x next t u i a = got refl refl (rw (a 0 (omega arith), signed_back o.imm (imm_taken o.kind _ g.taken).1))
found cb off o h g p c x next t u i a =
    let d = distance_of o.imm off 2 in
    let s = (yes (within (negsuc 127) (pos 127) d) all_yes (short_distance off o) g.asked).0 in
    got refl refl (near_read o.imm off 1 next (sign_extended (get_or u 0 0)) h (omega arith) i (ap sign_extended (a 0 (omega arith)) ∙ signed_back d s))
found cw off o h g p c x next t u i a =
    let d = distance_of o.imm off 3 in
    got refl refl (near_read o.imm off 2 next (word_at 0 u) h (omega arith) i (rw (a 0 (omega arith), a 1 (omega arith)) (word_back d [])))
found ptr off o h g p c x next t u i a =
    got refl refl
    (rw (a 0 (omega arith), a 1 (omega arith), a 2 (omega arith), a 3 (omega arith), word_back o.imm [], far_back o.imm o.displacement))
found nil off o h g p c x next t u i a = got refl refl refl

-- ---- how each field names memory, and what it gives to the bytes
abbrev pub place_of : Field → Place
place_of at_rm = by_modrm
place_of at_reg = nowhere
place_of in_low3 = nowhere
place_of in_bits34 = nowhere
place_of by_address = R.by_address
place_of by_bx_al = R.by_bx_al
place_of (distance k) = nowhere
place_of elsewhere = nowhere

abbrev pub laid : Field → OperandData → Part
laid at_rm o = in_rm o
laid at_reg o = in_reg o.rm
laid in_low3 o = in_opcode o.rm
laid in_bits34 o = in_opcode (8 * o.rm)
laid by_address o = behind_opcode o.segment_prefix (word_of o.displacement)
laid by_bx_al o = behind_opcode o.segment_prefix []
laid (distance k) o = nothing
laid elsewhere o = nothing

-- the same with an immediate
abbrev pub holding : List ℕ → Part → Part
holding i q = record { prefix = q.prefix; opcode = q.opcode; modrm = q.modrm; memory = q.memory; immediate = i }

-- a slot's part of the bytes goes by its field, but for the immediate
pub record ByField (s : Slot) (off : ℕ) (o : OperandData) : Type 0 where
  pub part_is : part s off o ≡ holding (part s off o).immediate (laid (field s) o)
  pub place_is : (about s).place ≡ place_of (field s)
  pub takes_is : length (part s off o).immediate ≡ (about s).takes
  pub are_bytes : Bytes (part s off o).immediate

far_bytes : (z y : ℤ) → Bytes (word_of z ++ word_of y)
far_bytes z y = bytes_append (word_of z) (word_of y) (bytes_word z) (bytes_word y)

pub by_field : (s : Slot) (off : ℕ) (o : OperandData) → ByField s off o
by_field (rm w) off o = record { part_is = refl; place_is = refl; takes_is = refl; are_bytes = no_byte }
by_field rm_near off o = record { part_is = refl; place_is = refl; takes_is = refl; are_bytes = no_byte }
by_field mem off o = record { part_is = refl; place_is = refl; takes_is = refl; are_bytes = no_byte }
by_field mem_far off o = record { part_is = refl; place_is = refl; takes_is = refl; are_bytes = no_byte }
by_field (reg w) off o = record { part_is = refl; place_is = refl; takes_is = refl; are_bytes = no_byte }
by_field sreg off o = record { part_is = refl; place_is = refl; takes_is = refl; are_bytes = no_byte }
by_field sreg_not_cs off o = record { part_is = refl; place_is = refl; takes_is = refl; are_bytes = no_byte }
by_field (acc w) off o = record { part_is = refl; place_is = refl; takes_is = refl; are_bytes = no_byte }
by_field (low3 w) off o = record { part_is = refl; place_is = refl; takes_is = refl; are_bytes = no_byte }
by_field bits34 off o = record { part_is = refl; place_is = refl; takes_is = refl; are_bytes = no_byte }
by_field bits34_not_cs off o = record { part_is = refl; place_is = refl; takes_is = refl; are_bytes = no_byte }
by_field cl off o = record { part_is = refl; place_is = refl; takes_is = refl; are_bytes = no_byte }
by_field dx off o = record { part_is = refl; place_is = refl; takes_is = refl; are_bytes = no_byte }
by_field one off o = record { part_is = refl; place_is = refl; takes_is = refl; are_bytes = no_byte }
by_field (moffs w) off o = record { part_is = refl; place_is = refl; takes_is = refl; are_bytes = no_byte }
by_field xlat off o = record { part_is = refl; place_is = refl; takes_is = refl; are_bytes = no_byte }
by_field ib off o = record { part_is = refl; place_is = refl; takes_is = refl; are_bytes = bytes_byte o.imm }
by_field iw off o = record { part_is = refl; place_is = refl; takes_is = refl; are_bytes = bytes_word o.imm }
by_field ib_sx off o = record { part_is = refl; place_is = refl; takes_is = refl; are_bytes = bytes_byte o.imm }
by_field cb off o = record { part_is = refl; place_is = refl; takes_is = refl; are_bytes = bytes_byte (distance_of o.imm off 2) }
by_field cw off o = record { part_is = refl; place_is = refl; takes_is = refl; are_bytes = bytes_word (distance_of o.imm off 3) }
by_field ptr off o = record { part_is = refl; place_is = refl; takes_is = refl; are_bytes = far_bytes o.imm o.displacement }
by_field nil off o = record { part_is = refl; place_is = refl; takes_is = refl; are_bytes = no_byte }
