-- No start of an instruction is lower than that of a form whose first and second byte pass the test. Computed over all of them, whatever the offset, the prefix and the
-- bytes behind.
-- Assumes nothing.
use Rattle.x86.specs.Operands.{in_memory as a_memory}
use Rattle.std.specs.Prelude.{Option, Some, None}
use mathlib.Core.Path.{◌≡◌, sym, subst}
use Prim.Native.Nat.{ℕ, ◌+◌, ◌/◌, ◌%◌, ◌<◌}
use native.Mathlib.Omega.{arith}
use mathlib.Core.Bool.{Bool, true, false}
use mathlib.Core.List.{List, Memᴰ}
use lib.Dec.{T, eqb, ltb, eqb→eq}
use Rattle.mrc_compiler.specs.Choose.{pick, both, either, isnt}
use Rattle.mrc_compiler.specs.Operations.{number_of}
use Rattle.x86.specs.declared.Instruction.{Instruction}
use Rattle.x86.specs.Instructions.{canonical}
use Rattle.x86.specs.declared.operands.OperandType.{OperandType}
use Rattle.x86.specs.Forms.{Form, forms}
use Rattle.x86.specs.Reading.{fits, mode, low, displacement_length, some, starting_with, fitting, has_second, memory_length, names_memory, prefix, instruction_of}
use Rattle.x86.proofs.Tests.{is_true, up_to, up_to_at, each_of, each_at, kept}
use Rattle.encode_groups.specs.Grouping.{grouped_of}
use Rattle.list_spec.specs.declared.Second.{Second}
use Rattle.list_spec.specs.declared.Second.TheVariants as X
use Rattle.list_spec.specs.declared.Tail.{Tail}
use Rattle.list_spec.specs.declared.Tail.TheVariants as L
use Rattle.list_spec.specs.declared.Start.{Start}
use Rattle.list_spec.specs.Operands.{prefix_of}
use Rattle.list_spec.specs.Parts.{parts_of}
use Rattle.list_spec.specs.Starts.{arithmetic_immediate, arithmetic, unary, inc_dec, move_immediate, move_from, move_into, move, exchange, test_immediate, test, stack, ret, load, shift, call, jump, single, port, start_in, start_of}
use Rattle.list_spec.specs.Possible.{is_a, is_accumulator, is_address, mode_for, mode_fits, with_alternate, immediate_fits, arithmetic_fits, move_alternate, exchange_fits, encoding_fits, start_fits}
use Rattle.list_spec.proofs.ByForm.{start_by, same_start}
use Rattle.list_spec.proofs.Covered.{thirty_two, in_eight}
use Rattle.list_spec.proofs.Written.{Fits, with_second_byte, without_one}
use Rattle.list_first.specs.First.{has_modrm, least_by_modrm, least_alone, in_stack, own_prefix}

-- ---- lengths
abbrev pub second_length : Option Second → ℕ
second_length None = 0
second_length (Some (X.ModRm x)) = 1 + displacement_length (mode x) (low x)
second_length (Some (X.Fixed x)) = 1

abbrev pub tail_length : Option Tail → ℕ
tail_length None = 0
tail_length (Some L.Byte) = 1
tail_length (Some L.Word) = 2
tail_length (Some L.Near8) = 1
tail_length (Some L.Near16) = 2
tail_length (Some L.Far) = 4
tail_length (Some L.Address) = 2

abbrev pub start_length : Start → ℕ
start_length s = 1 + (second_length s.second + tail_length s.tail)

-- ---- the comparison
-- a is the same as b, or shorter, or as short and its opcode lower
abbrev pub not_above : Start → Start → Bool
not_above a b =
    either (ltb (start_length a) (start_length b))
    (both (eqb (start_length a) (start_length b)) (either (ltb (a.opcode % 256) (b.opcode % 256)) (same_start a b)))

-- lazily, where a holds
abbrev pub implies : Bool → Bool → Bool
implies true b = b
implies false b = true

-- where it is possible; its opcode is not a prefix
abbrev pub compared : Instruction → Bool → Bool → Start → ℕ → ℕ → Bool
compared m zero short s encoding k =
    implies (start_fits (parts_of m) zero short encoding k)
    (both (isnt (prefix ((start_of (parts_of m) encoding k).opcode % 256))) (not_above s (start_of (parts_of m) encoding k)))

-- with the six
abbrev pub least : Instruction → Bool → Bool → Start → Bool
least m zero short s = up_to 2 (λ encoding. up_to 3 (λ k. compared m zero short s encoding k))

-- the displacement can be 0 without bytes, and short with one at most: by the mode
abbrev pub may_be_zero : ℕ → ℕ → Bool
may_be_zero c x = implies (has_modrm c) (either (ltb x 0x40) (ltb 0xBF x))

abbrev pub may_be_short : ℕ → ℕ → Bool
may_be_short c x = implies (has_modrm c) (either (ltb x 0x80) (ltb 0xBF x))

-- the test
abbrev pub passes : ℕ → ℕ → Bool
passes c x = pick (has_modrm c) (least_by_modrm c x) (least_alone c)

-- the displacement's length is by ModRM
abbrev pub by_modrm : Form → ℕ → ℕ → Bool
by_modrm f c x = implies (has_modrm c) (eqb (memory_length f x) (displacement_length (mode x) (low x)))

-- the prefix of the segment that memory is in without one, by its number; 0 without memory
abbrev pub home_in : OperandType → ℕ → ℕ
home_in o n = pick (is_a a_memory o) (pick (either (eqb o.number 6) (eqb (o.number / 2) 1)) 0x36 0x3E) n

abbrev pub home_of : Instruction → ℕ
home_of m = home_in (parts_of m).first (home_in (parts_of m).second 0)

abbrev pub home_by : Instruction → Form → ℕ → ℕ → Bool
home_by m f c x = implies (names_memory f x) (eqb (home_of m) (own_prefix c x))

abbrev pub least_by : Instruction → Form → ℕ → ℕ → Bool
least_by m f c x = both (by_modrm f c x) (both (home_by m f c x) (least m (may_be_zero c x) (may_be_short c x) (start_by f c x)))

-- ---- where there is ModRM, it is the second byte
abbrev second_there : ℕ → Bool
second_there c = implies (has_modrm c) (each_of (λ f. has_second f.extension) (starting_with c))

all_there : T (up_to 256 second_there)
unfolding has_modrm starting_with forms
all_there = tt

pub second_there_lem : {f : Form} (c x : ℕ) → c < 256 → Fits f c x → has_modrm c ≡ true → has_second f.extension ≡ true
second_there_lem {f} c x h fit e =
    is_true (has_second f.extension) (each_at (λ f. has_second f.extension) (starting_with c) (rw e at (up_to_at 256 second_there all_there c h)) (listed fit))
  where
    listed : Fits f c x → Memᴰ f (starting_with c)
    listed (with_second_byte q i) = kept (fits x) (starting_with c) i
    listed (without_one q i z) = i

-- ---- all first and second bytes
-- a test of the forms fs of the first byte c
module _ (q : ℕ → ℕ → Form → Bool) where
  abbrev row : ℕ → List Form → Bool → Bool
  row c fs true = up_to 256 (λ x. each_of (q c x) (fitting x fs))
  row c fs false = each_of (q c 0) fs

  abbrev rows : ℕ → Bool
  rows c = row c (starting_with c) (some (λ f. has_second f.extension) (starting_with c))

  in_row : {f : Form} (c x : ℕ) → x < 256 → Fits f c x → T (rows c) → T (q c x f)
  in_row {f} c x k fit w = go fit
    where
      with_it : (b : Bool) → b ≡ true → T (row c (starting_with c) b) → T (each_of (q c x) (fitting x (starting_with c)))
      with_it true e w = up_to_at 256 (λ x. each_of (q c x) (fitting x (starting_with c))) w x k
      with_it false e w = let z : ◌≡◌ {A = ℕ} 0 1 = cc in absurd (omega arith)

      alone : (b : Bool) → b ≡ false → T (row c (starting_with c) b) → T (each_of (q c 0) (starting_with c))
      alone true e w = let z : ◌≡◌ {A = ℕ} 0 1 = cc in absurd (omega arith)
      alone false e w = w

      go : Fits f c x → T (q c x f)
      go (with_second_byte e i) = each_at (q c x) (fitting x (starting_with c)) (with_it (some (λ f. has_second f.extension) (starting_with c)) e w) i
      go (without_one e i z) =
          subst (λ (x : ℕ). T (q c x f)) (sym z)
          (each_at (q c 0) (starting_with c) (alone (some (λ f. has_second f.extension) (starting_with c)) e w) i)

-- the comparison
module _ (off p : ℕ) (t : List ℕ) where
  abbrev comparison : ℕ → ℕ → Form → Bool
  comparison c x f = implies (passes c x) (least_by (instruction_of off p f c x t) f c x)

  compared_0 : T (thirty_two (rows comparison) 0)
  unfolding starting_with forms canonical number_of grouped_of arithmetic_immediate arithmetic unary inc_dec move_immediate move_from move_into move exchange test_immediate test stack ret load shift call jump single port start_in start_of is_accumulator is_address mode_for mode_fits with_alternate immediate_fits arithmetic_fits move_alternate exchange_fits encoding_fits start_fits has_modrm least_by_modrm least_alone prefix in_stack own_prefix
  compared_0 = tt

  compared_32 : T (thirty_two (rows comparison) 32)
  unfolding starting_with forms canonical number_of grouped_of arithmetic_immediate arithmetic unary inc_dec move_immediate move_from move_into move exchange test_immediate test stack ret load shift call jump single port start_in start_of is_accumulator is_address mode_for mode_fits with_alternate immediate_fits arithmetic_fits move_alternate exchange_fits encoding_fits start_fits has_modrm least_by_modrm least_alone prefix in_stack own_prefix
  compared_32 = tt

  compared_64 : T (thirty_two (rows comparison) 64)
  unfolding starting_with forms canonical number_of grouped_of arithmetic_immediate arithmetic unary inc_dec move_immediate move_from move_into move exchange test_immediate test stack ret load shift call jump single port start_in start_of is_accumulator is_address mode_for mode_fits with_alternate immediate_fits arithmetic_fits move_alternate exchange_fits encoding_fits start_fits has_modrm least_by_modrm least_alone prefix in_stack own_prefix
  compared_64 = tt

  compared_96 : T (thirty_two (rows comparison) 96)
  unfolding starting_with forms canonical number_of grouped_of arithmetic_immediate arithmetic unary inc_dec move_immediate move_from move_into move exchange test_immediate test stack ret load shift call jump single port start_in start_of is_accumulator is_address mode_for mode_fits with_alternate immediate_fits arithmetic_fits move_alternate exchange_fits encoding_fits start_fits has_modrm least_by_modrm least_alone prefix in_stack own_prefix
  compared_96 = tt

  compared_128 : T (thirty_two (rows comparison) 128)
  unfolding starting_with forms canonical number_of grouped_of arithmetic_immediate arithmetic unary inc_dec move_immediate move_from move_into move exchange test_immediate test stack ret load shift call jump single port start_in start_of is_accumulator is_address mode_for mode_fits with_alternate immediate_fits arithmetic_fits move_alternate exchange_fits encoding_fits start_fits has_modrm least_by_modrm least_alone prefix in_stack own_prefix
  compared_128 = tt

  compared_160 : T (thirty_two (rows comparison) 160)
  unfolding starting_with forms canonical number_of grouped_of arithmetic_immediate arithmetic unary inc_dec move_immediate move_from move_into move exchange test_immediate test stack ret load shift call jump single port start_in start_of is_accumulator is_address mode_for mode_fits with_alternate immediate_fits arithmetic_fits move_alternate exchange_fits encoding_fits start_fits has_modrm least_by_modrm least_alone prefix in_stack own_prefix
  compared_160 = tt

  compared_192 : T (thirty_two (rows comparison) 192)
  unfolding starting_with forms canonical number_of grouped_of arithmetic_immediate arithmetic unary inc_dec move_immediate move_from move_into move exchange test_immediate test stack ret load shift call jump single port start_in start_of is_accumulator is_address mode_for mode_fits with_alternate immediate_fits arithmetic_fits move_alternate exchange_fits encoding_fits start_fits has_modrm least_by_modrm least_alone prefix in_stack own_prefix
  compared_192 = tt

  compared_224 : T (thirty_two (rows comparison) 224)
  unfolding starting_with forms canonical number_of grouped_of arithmetic_immediate arithmetic unary inc_dec move_immediate move_from move_into move exchange test_immediate test stack ret load shift call jump single port start_in start_of is_accumulator is_address mode_for mode_fits with_alternate immediate_fits arithmetic_fits move_alternate exchange_fits encoding_fits start_fits has_modrm least_by_modrm least_alone prefix in_stack own_prefix
  compared_224 = tt

  pub compares : {f : Form} (c x : ℕ) → c < 256 → x < 256 → Fits f c x → passes c x ≡ true → T (least_by (instruction_of off p f c x t) f c x)
  compares c x h k fit e =
      rw e at (in_row comparison c x k fit
      (in_eight (rows comparison) compared_0 compared_32 compared_64 compared_96 compared_128 compared_160 compared_192 compared_224 c h))

-- the segment without a prefix
module _ (off : ℕ) (t : List ℕ) where
  abbrev at_home : ℕ → ℕ → Form → Bool
  at_home c x f = let m = instruction_of off 0 f c x t in eqb (prefix_of m) (home_of m)

  home_0 : T (thirty_two (rows at_home) 0)
  unfolding starting_with forms canonical number_of
  home_0 = tt

  home_32 : T (thirty_two (rows at_home) 32)
  unfolding starting_with forms canonical number_of
  home_32 = tt

  home_64 : T (thirty_two (rows at_home) 64)
  unfolding starting_with forms canonical number_of
  home_64 = tt

  home_96 : T (thirty_two (rows at_home) 96)
  unfolding starting_with forms canonical number_of
  home_96 = tt

  home_128 : T (thirty_two (rows at_home) 128)
  unfolding starting_with forms canonical number_of
  home_128 = tt

  home_160 : T (thirty_two (rows at_home) 160)
  unfolding starting_with forms canonical number_of
  home_160 = tt

  home_192 : T (thirty_two (rows at_home) 192)
  unfolding starting_with forms canonical number_of
  home_192 = tt

  home_224 : T (thirty_two (rows at_home) 224)
  unfolding starting_with forms canonical number_of
  home_224 = tt

  pub home_prefix : {f : Form} (c x : ℕ) → c < 256 → x < 256 → Fits f c x → prefix_of (instruction_of off 0 f c x t) ≡ home_of (instruction_of off 0 f c x t)
  home_prefix {f} c x h k fit =
      eqb→eq (prefix_of (instruction_of off 0 f c x t)) (home_of (instruction_of off 0 f c x t))
      (in_row at_home c x k fit (in_eight (rows at_home) home_0 home_32 home_64 home_96 home_128 home_160 home_192 home_224 c h))
