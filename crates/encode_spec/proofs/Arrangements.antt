-- How a form's two slots share opcode, ModRM, prefix and memory: every number is found again in its field.
-- Assumes nothing.
use mathlib.Core.Path.{◌≡◌, refl}
use Prim.Native.Nat.{ℕ, suc, ◌+◌, ◌*◌, ◌/◌, ◌%◌, ◌<◌}
use native.Mathlib.Omega.{arith}
use mathlib.Core.Bool.{Bool, true, false}
use mathlib.Core.List.{List, [], ◌++◌}
use lib.Dec.{T, eqb, ltb, ltb→lt}
use lib.ListN.{length}
use borrow.Author.Tests.{eq-eqb, lt-ltb}
use Rattle.mrc_compiler.specs.declared.encoder.OperandData.{OperandData}
use Rattle.mrc_compiler.specs.Choose.{pick, either}
use Rattle.x86.specs.Forms.{Extension}
use Rattle.x86.specs.Forms as F
use Rattle.x86.specs.Reading.{mode, digit, low, Place, nowhere, by_modrm, opcode_fits, second_fits, address_length, has_second, in_memory}
use Rattle.x86.specs.Reading as R
use Rattle.x86.specs.Listing.{Bytes}
use Rattle.x86.proofs.Unambiguous.{digit_ok}
use Rattle.encode_spec.specs.WellFormed.{is_prefix}
use Rattle.encode_spec.specs.Layout.{word_of, prefix_bytes, displacement_bytes}
use Rattle.encode_spec.proofs.Values.{either_right, no_byte, bytes_word, bytes_size}
use Rattle.encode_spec.proofs.Operands.{InRm}
use Rattle.encode_spec.proofs.Slots.{Field, at_rm, at_reg, in_low3, in_bits34, by_address, by_bx_al, distance, elsewhere, place_of, laid, Bounded, StandsInRm, StandsBehind, Stands}

-- the arrangements that occur: extension, opcode, and of each slot the field and the number of immediate bytes
pub data Arranged : Extension → ℕ → Field → ℕ → Field → ℕ → Type 0 where
  bare : {o i j : ℕ} → Arranged F.no o elsewhere i elsewhere j
  adjust : {o i j : ℕ} → Arranged F.0A o elsewhere i elsewhere j
  branch : {o k : ℕ} → Arranged F.no o (distance (suc k)) k elsewhere 0
  address_first : {o i j : ℕ} → Arranged F.no o by_address i elsewhere j
  address_second : {o i j : ℕ} → Arranged F.no o elsewhere i by_address j
  bx_al : {o i j : ℕ} → Arranged F.no o by_bx_al i elsewhere j
  rm_digit : {n o i j : ℕ} → Arranged (F./ n) o at_rm i elsewhere j
  rm_reg : {o i j : ℕ} → Arranged F./r o at_rm i at_reg j
  reg_rm : {o i j : ℕ} → Arranged F./r o at_reg i at_rm j
  low3_first : {o i j : ℕ} → o % 8 ≡ 0 → Arranged F.+r o in_low3 i elsewhere j
  low3_second : {o i j : ℕ} → o % 8 ≡ 0 → Arranged F.+r o elsewhere i in_low3 j
  segment : {o i j : ℕ} → o < 8 → Arranged F.+s o in_bits34 i elsewhere j

-- ---- the memory that a form names, if any: its prefix p and its bytes m, where the slots name it by P and Q
pub record Names (p : ℕ) (P Q : Place) (x : ℕ) (m : List ℕ) : Type 0 where
  pub prefixed : is_prefix p ≡ true
  pub before_memory : either (eqb p 0) (either (in_memory P x) (in_memory Q x)) ≡ true
  pub size : length m ≡ address_length P x + address_length Q x
  pub are_bytes : Bytes m

either-false : (a : Bool) → either a false ≡ a
either-false true = refl
either-false false = refl

no_memory : (x : ℕ) → Names 0 nowhere nowhere x []
no_memory x = record { prefixed = refl; before_memory = refl; size = refl; are_bytes = no_byte }

by_rm : (o : OperandData) (x : ℕ) → InRm o → mode x ≡ o.mode → low x ≡ o.rm → Names o.segment_prefix by_modrm nowhere x (displacement_bytes o)
by_rm o x h m l =
    record {
      prefixed = h.prefixed;
      before_memory = rw (m, either-false (ltb o.mode 3)) h.before_memory;
      size = rw (m, l) (omega (arith, h.size));
      are_bytes = bytes_size o.displacement_size o.displacement;
    }

by_word : (o : OperandData) (x : ℕ) → is_prefix o.segment_prefix ≡ true → Names o.segment_prefix R.by_address nowhere x (word_of o.displacement)
by_word o x h = record { prefixed = h; before_memory = either_right (eqb o.segment_prefix 0) true refl; size = refl; are_bytes = bytes_word o.displacement }

by_registers : (o : OperandData) (x : ℕ) → is_prefix o.segment_prefix ≡ true → Names o.segment_prefix R.by_bx_al nowhere x []
by_registers o x h = record { prefixed = h; before_memory = either_right (eqb o.segment_prefix 0) true refl; size = refl; are_bytes = no_byte }

-- by the second slot in place of the first
second_names : {p : ℕ} {P : Place} {x : ℕ} {m : List ℕ} → Names p P nowhere x m → Names p nowhere P x m
second_names {P = P} {x = x} h =
    record {
      prefixed = h.prefixed;
      before_memory = rw (either-false (in_memory P x)) at h.before_memory;
      size = omega (arith, h.size);
      are_bytes = h.are_bytes;
    }

-- ---- opcode and second byte of an arrangement with operands a and b
abbrev pub first_byte : ℕ → Field → Field → OperandData → OperandData → ℕ
first_byte o F G a b = o + (laid F a).opcode + (laid G b).opcode

abbrev pub second_byte : Extension → ℕ → ℕ
second_byte F.no m = 0
second_byte F.+r m = 0
second_byte F.+s m = 0
second_byte F./r m = m
second_byte (F./ n) m = m + n * 8
second_byte F.0A m = 0x0A

abbrev pub modrm_byte : Extension → Field → Field → OperandData → OperandData → ℕ
modrm_byte e F G a b = second_byte e ((laid F a).modrm + (laid G b).modrm)

-- the offset past the instruction
abbrev pub past_it : ℕ → ℕ → Extension → ℕ → ℕ → ℕ → ℕ → ℕ
past_it off p e m n i j = off + (pick (eqb p 0) 0 1 + pick (has_second e) 2 1 + (m + n + (i + j)))

-- both operands stand in their fields
pub record Placed (e : Extension) (o : ℕ) (F : Field) (i : ℕ) (G : Field) (j : ℕ) (off : ℕ) (a b : OperandData) (c x : ℕ) : Type 0 where
  pub p : ℕ
  pub memory : List ℕ
  pub prefix_is : (r : List ℕ) → (laid F a).prefix ++ ((laid G b).prefix ++ r) ≡ prefix_bytes p ++ r
  pub memory_is : (r : List ℕ) → (laid F a).memory ++ ((laid G b).memory ++ r) ≡ memory ++ r
  pub names : Names p (place_of F) (place_of G) x memory
  pub opcode : opcode_fits e o c ≡ true
  pub second : second_fits e x ≡ true
  pub c_byte : c < 256
  pub x_byte : x < 256
  pub first_stands : (r : List ℕ)
      → Stands F a off p c x (past_it off p e (address_length (place_of F) x) (address_length (place_of G) x) i j) (memory ++ r)
  pub second_stands : (r : List ℕ)
      → Stands G b off p c x (past_it off p e (address_length (place_of F) x) (address_length (place_of G) x) i j) (memory ++ r)

-- the reg field of a ModRM byte
digit_at : (x m n r : ℕ) → x ≡ m * 64 + n * 8 + r → n < 8 → r < 8 → digit x ≡ n
digit_at x m n r e h l = let q : x / 8 ≡ m * 8 + n = omega arith in omega arith

in_modrm : (o : OperandData) (x : ℕ) (r : List ℕ) → mode x ≡ o.mode → low x ≡ o.rm → StandsInRm o o.segment_prefix x (displacement_bytes o ++ r)
in_modrm o x r m l = record { p_is = refl; mode_is = m; low_is = l; rest = r; t_is = refl }

behind : (o : OperandData) (r : List ℕ) → StandsBehind o o.segment_prefix (word_of o.displacement ++ r)
behind o r = record { p_is = refl; rest = r; t_is = refl }

-- the fields in their order
placing : {e : Extension} {o : ℕ} {F : Field} {i : ℕ} {G : Field} {j : ℕ} {off : ℕ} {a b : OperandData} {c x : ℕ} (p : ℕ) (m : List ℕ)
    → ((r : List ℕ) → (laid F a).prefix ++ ((laid G b).prefix ++ r) ≡ prefix_bytes p ++ r)
    → ((r : List ℕ) → (laid F a).memory ++ ((laid G b).memory ++ r) ≡ m ++ r)
    → Names p (place_of F) (place_of G) x m → opcode_fits e o c ≡ true → second_fits e x ≡ true → c < 256 → x < 256
    → ((r : List ℕ) → Stands F a off p c x (past_it off p e (address_length (place_of F) x) (address_length (place_of G) x) i j) (m ++ r))
    → ((r : List ℕ) → Stands G b off p c x (past_it off p e (address_length (place_of F) x) (address_length (place_of G) x) i j) (m ++ r))
    → Placed e o F i G j off a b c x
placing p m q n s e f c x g h = record { p = p; memory = m; prefix_is = q; memory_is = n; names = s; opcode = e; second = f; c_byte = c; x_byte = x; first_stands = g; second_stands = h }

pub placed : {e : Extension} {o : ℕ} {F : Field} {i : ℕ} {G : Field} {j : ℕ} → Arranged e o F i G j → o < 256 → T (digit_ok e)
    → (off : ℕ) (a b : OperandData)
    → Bounded F a → Bounded G b → Placed e o F i G j off a b (first_byte o F G a b) (modrm_byte e F G a b)
placed {o = o} bare l d off a b f g =
    placing 0 [] (λ r. refl) (λ r. refl) (no_memory 0) (eq-eqb _ o (omega arith))
    refl (omega arith) (omega arith) (λ r. tt) (λ r. tt)
placed {o = o} adjust l d off a b f g =
    placing 0 [] (λ r. refl) (λ r. refl) (no_memory 10) (eq-eqb _ o (omega arith))
    refl (omega arith) (omega arith) (λ r. tt) (λ r. tt)
placed {o = o} branch l d off a b f g =
    placing 0 [] (λ r. refl) (λ r. refl) (no_memory 0) (eq-eqb _ o (omega arith))
    refl (omega arith) (omega arith) (λ r. omega arith) (λ r. tt)
placed {o = o} address_first l d off a b f g =
    placing a.segment_prefix (word_of a.displacement) (λ r. refl) (λ r. refl) (by_word a 0 f) (eq-eqb _ o (omega arith))
    refl (omega arith) (omega arith) (λ r. behind a r) (λ r. tt)
placed {o = o} address_second l d off a b f g =
    placing b.segment_prefix (word_of b.displacement) (λ r. refl) (λ r. refl) (second_names (by_word b 0 g)) (eq-eqb _ o (omega arith))
    refl (omega arith) (omega arith) (λ r. tt) (λ r. behind b r)
placed {o = o} bx_al l d off a b f g =
    placing a.segment_prefix [] (λ r. refl) (λ r. refl) (by_registers a 0 f) (eq-eqb _ o (omega arith))
    refl (omega arith) (omega arith) (λ r. refl) (λ r. tt)
placed {o = o} (rm_digit {n = n}) l d off a b f g =
    let x : ℕ = a.mode * 64 + a.rm + 0 + n * 8 in
    let k : n < 8 = ltb→lt n 8 d in
    let m : mode x ≡ a.mode = omega arith in
    let w : low x ≡ a.rm = omega arith in
    placing a.segment_prefix (displacement_bytes a) (λ r. refl) (λ r. refl) (by_rm a x f m w) (eq-eqb _ o (omega arith))
    (eq-eqb _ n (digit_at x a.mode n a.rm (omega arith) k f.rm_8)) (omega arith) (omega arith) (λ r. in_modrm a x r m w) (λ r. tt)
placed {o = o} rm_reg l d off a b f g =
    let x : ℕ = a.mode * 64 + a.rm + b.rm * 8 in
    let m : mode x ≡ a.mode = omega arith in
    let w : low x ≡ a.rm = omega arith in
    placing a.segment_prefix (displacement_bytes a) (λ r. refl) (λ r. refl) (by_rm a x f m w) (eq-eqb _ o (omega arith))
    refl (omega arith) (omega arith) (λ r. in_modrm a x r m w) (λ r. digit_at x a.mode b.rm a.rm (omega arith) g f.rm_8)
placed {o = o} reg_rm l d off a b f g =
    let x : ℕ = a.rm * 8 + (b.mode * 64 + b.rm) in
    let m : mode x ≡ b.mode = omega arith in
    let w : low x ≡ b.rm = omega arith in
    placing b.segment_prefix (displacement_bytes b) (λ r. refl) (λ r. refl) (second_names (by_rm b x g m w)) (eq-eqb _ o (omega arith))
    refl (omega arith) (omega arith) (λ r. digit_at x b.mode a.rm b.rm (omega arith) f g.rm_8) (λ r. in_modrm b x r m w)
placed {o = o} (low3_first k) l d off a b f g =
    placing 0 [] (λ r. refl) (λ r. refl) (no_memory 0) (eq-eqb _ (o / 8) (omega arith))
    refl (omega arith) (omega arith) (λ r. omega arith) (λ r. tt)
placed {o = o} (low3_second k) l d off a b f g =
    placing 0 [] (λ r. refl) (λ r. refl) (no_memory 0) (eq-eqb _ (o / 8) (omega arith))
    refl (omega arith) (omega arith) (λ r. tt) (λ r. omega arith)
placed {o = o} (segment k) l d off a b f g =
    placing 0 [] (λ r. refl) (λ r. refl) (no_memory 0) (rw (lt-ltb (o + 8 * a.rm + 0) 0x20 (omega arith)) (eq-eqb _ o (omega arith)))
    refl (omega arith) (omega arith) (λ r. omega arith) (λ r. tt)
