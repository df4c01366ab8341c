-- The codes of a record whose operands are well formed answer the bytes that stand in it.
-- Assumes nothing.
use Rattle.std.proofs.Common.{◌≡◌, ℕ, zero, suc, ◌+◌, ◌-◌, ◌*◌, ◌/◌, ◌%◌, ◌<◌, ◌≤◌, Bool, true, false, eqb, List, [], ◌∷◌, ◌++◌, length, get_or, ℤ, pos, negsuc, ◌-ℤ◌, sym, refl, ap, ◌∙◌, append_assoc, append-nil, arith}
use Rattle.mrc_compiler.specs.declared.ast.Span.{Span}
use Rattle.base_values.specs.Distances.{as_i_32}
use Rattle.base_values.proofs.Laws.{near}
use Rattle.mrc_compiler.specs.declared.encoder.OperandSize.TheVariants as S
use Rattle.mrc_compiler.specs.declared.encoder.generate.Code.{Code}
use Rattle.mrc_compiler.specs.declared.encoder.generate.Code.TheVariants as C
use Rattle.mrc_compiler.specs.Choose.{pick, by_size}
use Rattle.mrc_compiler.specs.Values.{within, mod_z}
use Rattle.encode_spec.specs.Records.{dst, src}
use Rattle.encode_spec.specs.Layout.{prefix_bytes, byte_of, word_of, displacement_bytes}
use Rattle.encode_spec.specs.Answer.{Answer, bytes, refused}
use Rattle.encode_lines.specs.Lines.{bit, one_code, two_codes}
use Rattle.encode_fields.specs.Fields.{mod_rm_byte, mod_reg_rm, immediate_byte, immediate_word, relative_byte, relative_word, operand, other, code_answer}
use Rattle.show_record.specs.Record.{sizes, byte_at, u32_at, i32_at, operand_at, instruction_at}
use Rattle.fast_value.proofs.Laws.{low_byte, low_word, in_range, short_distance}
use Rattle.fast_run.specs.Packed.{over, digits, displaced, unpacked, Valued}
use Rattle.fast_rows.specs.Rows.{data_of}
use Rattle.fast_operand.specs.Formed.{Formed}
use Rattle.fast_forms.specs.Ready.{Ready, Operand, place, other_place, codes_at, Answers}

-- ---- values of no byte, of one and of two
pub none : Valued 0 0
none = record { few = omega arith; small = omega arith; whole = refl }

pub one : (v : ℕ) → v < 256 → Valued 1 v
one v h = record { few = omega arith; small = omega arith; whole = omega arith }

pub two : (v : ℕ) → v < 65536 → Valued 2 v
two v h = record { few = omega arith; small = h; whole = omega arith }

-- the bit of a size
pub bit_is : (n : ℕ) → 0 < n → n ≤ 2 → bit (data_of n) ≡ n - 1
bit_is zero l h = absurd (omega arith)
bit_is (suc zero) l h = refl
bit_is (suc (suc zero)) l h = refl
bit_is (suc (suc (suc n))) l h = absurd (omega arith)

-- a word of two bytes
low_half : (a b : ℕ) → a < 256 → (a + 256 * b) % 256 ≡ a
low_half a b h = omega arith

high_half : (a b : ℕ) → a < 256 → b < 256 → (a + 256 * b) / 256 % 256 ≡ b
high_half a b h k = omega arith

word_halves : (n : ℕ) → n < 65536 → n % 256 ∷ n / 256 ∷ [] ≡ digits 2 n
word_halves n h = let e : n / 256 ≡ n / 256 % 256 = omega arith in ap (λ (x : ℕ). n % 256 ∷ x ∷ []) e

-- a sum modulo 2^32, and modulo 2^16
wrapped_sum : (a b : ℕ) → (a % 65536 + b % 65536) % 65536 ≡ (a + b) % 65536
wrapped_sum a b = omega arith

twice : (n : ℕ) → n % 4294967296 % 65536 ≡ n % 65536
twice n = omega arith

near_sum : (d b u v m : ℕ) → (d + b) % 4294967296 ≡ u → v ≡ d % 65536 → m ≡ u % 65536 → (v + b % 65536) % 65536 ≡ m
near_sum d b u v m e f g = rw (f, wrapped_sum d b) (sym (rw (g, ← e) (twice (d + b))))

module _ (s : List ℕ) (h : Ready s) where
  -- ---- the operands
  pub operand_at_lem : (k : ℕ) → operand (instruction_at s) k ≡ operand_at s (place k)
  unfolding instruction_at
  operand_at_lem k = rw h.length_is (go (eqb k 0))
    where
      go : (t : Bool) → pick t (operand_at s 10) (operand_at s 33) ≡ operand_at s (pick t 10 33)
      go true = refl
      go false = refl

  pub other_at : (k : ℕ) → other (instruction_at s) k ≡ operand_at s (other_place k)
  unfolding instruction_at
  other_at k = rw h.length_is (go (eqb k 0))
    where
      go : (t : Bool) → pick t (operand_at s 33) (operand_at s 10) ≡ operand_at s (pick t 33 10)
      go true = refl
      go false = refl

  pub first_operand : Operand s 10
  first_operand = record { inside = omega (arith, h.length_is); formed = h.first }

  pub second_operand : Operand s 33
  second_operand = record { inside = omega (arith, h.length_is); formed = h.second }

  -- ---- the low bytes of a number
  u32_below : (i : ℕ) → u32_at s i < 4294967296
  u32_below i = omega (arith, h.below i, h.below (i + 1), h.below (i + 2), h.below (i + 3))

  pub byte_digits : (i : ℕ) → byte_of (i32_at s i) ≡ digits 1 (byte_at s i)
  byte_digits i =
      let e : mod_z 256 (i32_at s i) ≡ byte_at s i % 256 = low_byte (u32_at s i) (u32_below i) ∙ omega arith in
      rw e

  pub word_digits : (i : ℕ) → word_of (i32_at s i) ≡ digits 2 (byte_at s i + 256 * byte_at s (i + 1))
  word_digits i =
      let e : mod_z 65536 (i32_at s i) ≡ byte_at s i + 256 * byte_at s (i + 1) = low_word (u32_at s i) (u32_below i) ∙ omega (arith, h.below i, h.below (i + 1)) in
      rw e (word_halves (byte_at s i + 256 * byte_at s (i + 1)) (omega (arith, h.below i, h.below (i + 1))))

  -- ---- ModRM and what stands around it
  displacement_is : (at d : ℕ) → d < 3
      → by_size (get_or sizes d S.Unspecified) [] (byte_of (i32_at s (at + 11))) (word_of (i32_at s (at + 11))) ≡ displaced d (byte_at s (at + 11)) (byte_at s (at + 11 + 1))
  displacement_is at zero l = refl
  displacement_is at (suc zero) l = let e : byte_at s (at + 11) % 256 ≡ byte_at s (at + 11) = omega (arith, h.below (at + 11)) in
      byte_digits (at + 11) ∙ rw e
  displacement_is at (suc (suc zero)) l =
      let a = byte_at s (at + 11) in
      let b = byte_at s (at + 11 + 1) in
      word_digits (at + 11) ∙ rw (low_half a b (h.below (at + 11)), high_half a b (h.below (at + 11)) (h.below (at + 11 + 1)))
  displacement_is at (suc (suc (suc d))) l = absurd (omega arith)

  pub rm_bytes : (op at reg : ℕ) → Formed s at → reg < 8
      → mod_reg_rm op (operand_at s at) reg
      ≡ prefix_bytes (byte_at s (at + 2)) ++ (op ∷ (byte_at s (at + 5) * 64 + reg * 8 + byte_at s (at + 6)) ∷ displaced (byte_at s (at + 3)) (byte_at s (at + 11)) (byte_at s (at + 11 + 1)))
  unfolding mod_reg_rm operand_at
  rm_bytes op at reg f r =
      let m : byte_at s (at + 5) % 4 ≡ byte_at s (at + 5) = omega (arith, f.mode) in
      let g : reg % 8 ≡ reg = omega arith in
      let l : byte_at s (at + 6) % 8 ≡ byte_at s (at + 6) = omega (arith, f.rm) in
      rw (m, g, l, displacement_is at (byte_at s (at + 3)) f.displacement_size)

  -- before what follows them
  pub rm_before : (op at reg : ℕ) (bs : List ℕ) → Formed s at → reg < 8
      → prefix_bytes (byte_at s (at + 2))
      ++ (op ∷ (byte_at s (at + 5) * 64 + reg * 8 + byte_at s (at + 6)) ∷ (displaced (byte_at s (at + 3)) (byte_at s (at + 11)) (byte_at s (at + 11 + 1)) ++ bs))
      ≡ mod_reg_rm op (operand_at s at) reg ++ bs
  rm_before op at reg bs f r = rw (rm_bytes op at reg f r, append_assoc)

  -- ---- the answers of code lists
  pub in_reg : (k off o at other r : ℕ) → at ≡ place k → other ≡ other_place k
      → unpacked r ≡ mod_reg_rm o (operand_at s at) (byte_at s (other + 6)) ++ digits 0 0 → codes_at s off (one_code (C.ModRegRM k o)) ≡ bytes (unpacked r)
  unfolding operand_at
  in_reg k off o at other r ek eo e =
      rw (operand_at_lem k, other_at k, ← ek, ← eo) (ap bytes (sym (rw append-nil at e)))

  pub alone : (off o digit r : ℕ) → unpacked r ≡ mod_reg_rm o (operand_at s 10) digit ++ digits 0 0 → codes_at s off (one_code (C.ModRM 0 o digit)) ≡ bytes (unpacked r)
  alone off o digit r e = rw (operand_at_lem 0) (ap bytes (sym (rw append-nil at e)))

  pub in_opcode : (k off o at r : ℕ) → at ≡ place k → byte_at s (at + 6) < 8 → o < 248 → unpacked r ≡ (o + byte_at s (at + 6)) ∷ digits 0 0
      → codes_at s off (one_code (C.RegByte k o)) ≡ bytes (unpacked r)
  unfolding operand_at
  in_opcode k off o at r ek l ho e =
      let f : (o + byte_at s (at + 6) % 8) % 256 ≡ o + byte_at s (at + 6) = omega arith in
      rw (operand_at_lem k, ← ek, f, e)

  pub in_segment : (off o r : ℕ) → byte_at s 10 ≡ 2 → o < 224 → unpacked r ≡ (o + 8 * byte_at s 16) ∷ digits 0 0
      → codes_at s off (one_code (C.SegByte 0 o)) ≡ bytes (unpacked r)
  unfolding operand_at
  in_segment off o r ek ho e =
      let f : (o + 8 * (byte_at s 16 % 4)) % 256 ≡ o + 8 * byte_at s 16 = omega (arith, h.first.segment ek) in
      rw (operand_at_lem 0, f, e)

  pub in_memory : (off o r : ℕ) → unpacked r ≡ prefix_bytes (byte_at s 12) ++ (o ∷ digits 0 0) → codes_at s off (one_code (C.MemByte 0 o)) ≡ bytes (unpacked r)
  unfolding operand_at
  in_memory off o r e = rw (operand_at_lem 0, e)

  module _ (off : ℕ) (code : Code) (n v : ℕ) (a : code_answer code (instruction_at s) off ≡ bytes (digits n v)) where
    pub rm_then : (o digit r : ℕ) → unpacked r ≡ mod_reg_rm o (operand_at s 10) digit ++ digits n v
        → codes_at s off (two_codes (C.ModRM 0 o digit) code) ≡ bytes (unpacked r)
    rm_then o digit r e = rw (a, operand_at_lem 0, e)

    pub byte_then : (o r : ℕ) → unpacked r ≡ o ∷ digits n v → codes_at s off (two_codes (C.Byte o) code) ≡ bytes (unpacked r)
    byte_then o r e = rw (a, e)

    pub reg_then : (o r : ℕ) → o < 248 → unpacked r ≡ (o + byte_at s 16) ∷ digits n v → codes_at s off (two_codes (C.RegByte 0 o) code) ≡ bytes (unpacked r)
    unfolding operand_at
    reg_then o r l e =
        let f : (o + byte_at s 16 % 8) % 256 ≡ o + byte_at s 16 = omega (arith, h.first.rm) in
        rw (a, operand_at_lem 0, f, e)

    pub memory_then : (k o at r : ℕ) → at ≡ place k → unpacked r ≡ prefix_bytes (byte_at s (at + 2)) ++ (o ∷ digits n v)
        → codes_at s off (two_codes (C.MemByte k o) code) ≡ bytes (unpacked r)
    unfolding operand_at
    memory_then k o at r ek e = rw (a, operand_at_lem k, e, ek, append_assoc)

  -- ---- the answers of values in their limits
  byte_value : (low high : ℤ) (span : Span) (i v : ℕ) → within low high (i32_at s i) ≡ true → v ≡ byte_at s i → Answers 1 v (immediate_byte low high (i32_at s i) span)
  unfolding immediate_byte
  byte_value low high span i v w e = record {
    valued = one v (omega (arith, h.below i));
    is = rw (w, e) (ap bytes (byte_digits i));
  }

  word_value : (low high : ℤ) (span : Span) (i v : ℕ) → within low high (i32_at s i) ≡ true → v ≡ byte_at s i + 256 * byte_at s (i + 1)
      → Answers 2 v (immediate_word low high (i32_at s i) span)
  unfolding immediate_word
  word_value low high span i v w e = record {
    valued = two v (omega (arith, h.below i, h.below (i + 1)));
    is = rw (w, e) (ap bytes (word_digits i));
  }

  pub imm_byte : (v off : ℕ) → within (negsuc 127) (pos 255) (i32_at s 40) ≡ true → v ≡ byte_at s 40 → Answers 1 v (code_answer (C.ImmByte 1) (instruction_at s) off)
  unfolding operand_at
  imm_byte v off w e = rw (operand_at_lem 1) (byte_value (negsuc 127) (pos 255) (operand_at s 33).span 40 v w e)

  pub imm_word : (v off : ℕ) → within (negsuc 32767) (pos 65535) (i32_at s 40) ≡ true → v ≡ byte_at s 40 + 256 * byte_at s 41
      → Answers 2 v (code_answer (C.ImmWord 1) (instruction_at s) off)
  unfolding operand_at
  imm_word v off w e = rw (operand_at_lem 1) (word_value (negsuc 32767) (pos 65535) (operand_at s 33).span 40 v w e)

  pub sign_extended : (v off : ℕ) → v ≡ byte_at s 40 → Answers 1 v (code_answer (C.ImmSignExtended 1) (instruction_at s) off)
  unfolding operand_at
  sign_extended v off e = record {
    valued = one v (omega (arith, h.below 40));
    is = rw (operand_at_lem 1, e) (ap bytes (byte_digits 40));
  }

  pub disp_word : (k at v off : ℕ) → at ≡ place k → within (pos 0) (pos 65535) (i32_at s (at + 11)) ≡ true → v ≡ byte_at s (at + 11) + 256 * byte_at s (at + 11 + 1)
      → Answers 2 v (code_answer (C.DispWord k) (instruction_at s) off)
  unfolding operand_at
  disp_word k at v off ek w e = rw (operand_at_lem k, ← ek) (word_value (pos 0) (pos 65535) (operand_at s at).span (at + 11) v w e)

  pub unsigned_byte : (k at v off : ℕ) → at ≡ place k → within (pos 0) (pos 255) (i32_at s (at + 7)) ≡ true → v ≡ byte_at s (at + 7)
      → Answers 1 v (code_answer (C.UnsignedByte k) (instruction_at s) off)
  unfolding operand_at
  unsigned_byte k at v off ek w e = rw (operand_at_lem k, ← ek) (byte_value (pos 0) (pos 255) (operand_at s at).span (at + 7) v w e)

  pub unsigned_word : (v off : ℕ) → within (pos 0) (pos 65535) (i32_at s 17) ≡ true → v ≡ byte_at s 17 + 256 * byte_at s 18
      → Answers 2 v (code_answer (C.UnsignedWord 0) (instruction_at s) off)
  unfolding operand_at
  unsigned_word v off w e = rw (operand_at_lem 0) (word_value (pos 0) (pos 65535) (operand_at s 10).span 17 v w e)

  pub far : (off r : ℕ) → within (pos 0) (pos 65535) (i32_at s 17) ≡ true → within (pos 0) (pos 65535) (i32_at s 21) ≡ true
      → unpacked r ≡ 0xEA ∷ byte_at s 17 ∷ byte_at s 18 ∷ byte_at s 21 ∷ byte_at s 22 ∷ [] → codes_at s off (two_codes (C.Byte 0xEA) (C.FarWords 0)) ≡ bytes (unpacked r)
  unfolding operand_at
  far off r w x e =
      let p = low_half (byte_at s 17) (byte_at s 18) (h.below 17) in
      let q = high_half (byte_at s 17) (byte_at s 18) (h.below 17) (h.below 18) in
      let t = low_half (byte_at s 21) (byte_at s 22) (h.below 21) in
      let u = high_half (byte_at s 21) (byte_at s 22) (h.below 21) (h.below 22) in
      rw (operand_at_lem 0, (word_value (pos 0) (pos 65535) (operand_at s 10).span 17 _ w refl).is, (word_value (pos 0) (pos 65535) (operand_at s 10).span 21 _ x refl).is, p, q, t, u, e)

  pub rel_byte : (off d v : ℕ) → off < 65536 → d < 4294967296 → (d + (off + 2)) % 4294967296 ≡ u32_at s 17
      → within (negsuc 127) (pos 127) (as_i_32 d) ≡ true → v ≡ d % 256 → Answers 1 v (code_answer (C.RelByte 0 2) (instruction_at s) off)
  unfolding operand_at relative_byte
  rel_byte off d v ho hd e w ev =
      let n : off + 2 ≡ suc (off + 1) = omega arith in
      let t = sym (in_range d 128 256 hd (omega arith) (omega arith)) ∙ w in
      let f : i32_at s 17 -ℤ pos (off + 2) ≡ as_i_32 d = rw n (short_distance (u32_at s 17) d (off + 1) (u32_below 17) hd (omega arith) (rw n at e) t) in
      let g : v % 256 ≡ d % 256 = omega arith in
      record {
        valued = one v (omega arith);
        is = rw (operand_at_lem 0, f, w, low_byte d hd, g);
      }

  pub rel_word : (off d v : ℕ) → off < 65536 → d < 4294967296 → (d + (off + 3)) % 4294967296 ≡ u32_at s 17
      → within (pos 0) (pos 65535) (i32_at s 17) ≡ true → v ≡ d % 65536 → Answers 2 v (code_answer (C.RelWord 0) (instruction_at s) off)
  unfolding operand_at relative_word
  rel_word off d v ho hd e w ev =
      let l = low_word (u32_at s 17) (u32_below 17) in
      let f : v ≡ mod_z 65536 (i32_at s 17 -ℤ pos (off + 3)) = near (i32_at s 17) off v (omega arith) (near_sum d (off + 3) (u32_at s 17) v (mod_z 65536 (i32_at s 17)) e ev l) in
      record {
        valued = two v (omega arith);
        is = rw (operand_at_lem 0, w, ← f) (ap bytes (word_halves v (omega arith)));
      }
