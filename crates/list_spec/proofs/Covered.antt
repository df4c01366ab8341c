-- No start is forgotten: that of each form, first byte and second byte is among the six starts of the instruction read, and possible for it where its displacement is
-- as short as the form's. Computed over all of them, whatever the offset, the prefix and the bytes behind.
-- Assumes nothing.
use mathlib.Core.Path.{◌≡◌, refl, subst}
use Prim.Native.Nat.{ℕ, ◌+◌, ◌-◌, ◌≤◌, ◌<◌}
use native.Mathlib.Omega.{arith}
use mathlib.Core.Bool.{Bool, true, false}
use mathlib.Core.List.{List, Memᴰ}
use lib.Dec.{T, eqb, ltb}
use borrow.Author.Tests.{ltb-true, ltb-false}
use Rattle.mrc_compiler.specs.Choose.{both, either}
use Rattle.mrc_compiler.specs.Operations.{number_of}
use Rattle.x86.specs.declared.Instruction.{Instruction}
use Rattle.x86.specs.Instructions.{canonical}
use Rattle.x86.specs.Forms.{Form, forms}
use Rattle.x86.specs.Reading.{some, starting_with, fitting, has_second, memory_length, instruction_of}
use Rattle.x86.proofs.Tests.{up_to, up_to_at, each_of, each_at}
use Rattle.encode_groups.specs.Grouping.{grouped_of}
use Rattle.list_spec.specs.declared.Start.{Start}
use Rattle.list_spec.specs.Parts.{parts_of}
use Rattle.list_spec.specs.Starts.{arithmetic_immediate, arithmetic, unary, inc_dec, move_immediate, move_from, move_into, move, exchange, test_immediate, test, stack, ret, load, shift, call, jump, single, port, start_in, start_of}
use Rattle.list_spec.specs.Possible.{is_accumulator, is_address, mode_for, mode_fits, with_alternate, immediate_fits, arithmetic_fits, move_alternate, exchange_fits, encoding_fits, start_fits}
use Rattle.list_spec.proofs.ByForm.{start_by, same_start}

-- s is a start that can be m's
abbrev pub fitting_start : Instruction → Bool → Bool → Start → ℕ → ℕ → Bool
fitting_start m zero short s encoding mode = both (start_fits (parts_of m) zero short encoding mode) (same_start (start_of (parts_of m) encoding mode) s)

-- s is one of the six
abbrev pub chosen : Instruction → Bool → Bool → Start → Bool
chosen m zero short s =
    let fit = fitting_start m zero short s in
    either (fit 0 0) (either (fit 0 1) (either (fit 0 2) (either (fit 1 0) (either (fit 1 1) (fit 1 2)))))

-- that of a form, whose displacement is 0 without bytes, and short with one
abbrev pub chosen_by : Instruction → Form → ℕ → ℕ → Bool
chosen_by m f c x = chosen m (eqb (memory_length f x) 0) (ltb (memory_length f x) 2) (start_by f c x)

-- ---- a test of all first bytes in eight: memory goes with the size of a test
-- 32 first bytes from n on
abbrev pub thirty_two : (ℕ → Bool) → ℕ → Bool
thirty_two q n = up_to 32 (λ c. q (c + n))

more : (q : ℕ → Bool) (n c : ℕ) → T (thirty_two q n) → (c < n → T (q c)) → c < n + 32 → T (q c)
more q n c t f h = go (ltb c n) refl
  where
    go : (b : Bool) → ltb c n ≡ b → T (q c)
    go true e = f (ltb-true c n e)
    go false e =
        let l : n ≤ c = ltb-false c n e in
        let d : (c - n) + n ≡ c = omega arith in
        subst (λ (k : ℕ). T (q k)) d (up_to_at 32 (λ k. q (k + n)) t (c - n) (omega arith))

pub in_eight : (q : ℕ → Bool) → T (thirty_two q 0) → T (thirty_two q 32) → T (thirty_two q 64) → T (thirty_two q 96) → T (thirty_two q 128) → T (thirty_two q 160)
    → T (thirty_two q 192) → T (thirty_two q 224) → (c : ℕ) → c < 256 → T (q c)
in_eight q t0 t32 t64 t96 t128 t160 t192 t224 c h =
    more q 224 c t224 (more q 192 c t192 (more q 160 c t160 (more q 128 c t128 (more q 96 c t96 (more q 64 c t64 (more q 32 c t32
    (more q 0 c t0 (λ l. absurd (omega arith))))))))) h

module _ (off p : ℕ) (t : List ℕ) where
  abbrev each : ℕ → ℕ → List Form → Bool
  each c x fs = each_of (λ f. chosen_by (instruction_of off p f c x t) f c x) fs

  -- the forms fs of the first byte c
  abbrev row_covered : ℕ → List Form → Bool → Bool
  row_covered c fs true = up_to 256 (λ x. each c x (fitting x fs))
  row_covered c fs false = each c 0 fs

  abbrev covered : ℕ → Bool
  covered c = row_covered c (starting_with c) (some (λ f. has_second f.extension) (starting_with c))

  covered_0 : T (thirty_two covered 0)
  unfolding starting_with forms canonical number_of grouped_of arithmetic_immediate arithmetic unary inc_dec move_immediate move_from move_into move exchange test_immediate test stack ret load shift call jump single port start_in start_of is_accumulator is_address mode_for mode_fits with_alternate immediate_fits arithmetic_fits move_alternate exchange_fits encoding_fits start_fits
  covered_0 = tt

  covered_32 : T (thirty_two covered 32)
  unfolding starting_with forms canonical number_of grouped_of arithmetic_immediate arithmetic unary inc_dec move_immediate move_from move_into move exchange test_immediate test stack ret load shift call jump single port start_in start_of is_accumulator is_address mode_for mode_fits with_alternate immediate_fits arithmetic_fits move_alternate exchange_fits encoding_fits start_fits
  covered_32 = tt

  covered_64 : T (thirty_two covered 64)
  unfolding starting_with forms canonical number_of grouped_of arithmetic_immediate arithmetic unary inc_dec move_immediate move_from move_into move exchange test_immediate test stack ret load shift call jump single port start_in start_of is_accumulator is_address mode_for mode_fits with_alternate immediate_fits arithmetic_fits move_alternate exchange_fits encoding_fits start_fits
  covered_64 = tt

  covered_96 : T (thirty_two covered 96)
  unfolding starting_with forms canonical number_of grouped_of arithmetic_immediate arithmetic unary inc_dec move_immediate move_from move_into move exchange test_immediate test stack ret load shift call jump single port start_in start_of is_accumulator is_address mode_for mode_fits with_alternate immediate_fits arithmetic_fits move_alternate exchange_fits encoding_fits start_fits
  covered_96 = tt

  covered_128 : T (thirty_two covered 128)
  unfolding starting_with forms canonical number_of grouped_of arithmetic_immediate arithmetic unary inc_dec move_immediate move_from move_into move exchange test_immediate test stack ret load shift call jump single port start_in start_of is_accumulator is_address mode_for mode_fits with_alternate immediate_fits arithmetic_fits move_alternate exchange_fits encoding_fits start_fits
  covered_128 = tt

  covered_160 : T (thirty_two covered 160)
  unfolding starting_with forms canonical number_of grouped_of arithmetic_immediate arithmetic unary inc_dec move_immediate move_from move_into move exchange test_immediate test stack ret load shift call jump single port start_in start_of is_accumulator is_address mode_for mode_fits with_alternate immediate_fits arithmetic_fits move_alternate exchange_fits encoding_fits start_fits
  covered_160 = tt

  covered_192 : T (thirty_two covered 192)
  unfolding starting_with forms canonical number_of grouped_of arithmetic_immediate arithmetic unary inc_dec move_immediate move_from move_into move exchange test_immediate test stack ret load shift call jump single port start_in start_of is_accumulator is_address mode_for mode_fits with_alternate immediate_fits arithmetic_fits move_alternate exchange_fits encoding_fits start_fits
  covered_192 = tt

  covered_224 : T (thirty_two covered 224)
  unfolding starting_with forms canonical number_of grouped_of arithmetic_immediate arithmetic unary inc_dec move_immediate move_from move_into move exchange test_immediate test stack ret load shift call jump single port start_in start_of is_accumulator is_address mode_for mode_fits with_alternate immediate_fits arithmetic_fits move_alternate exchange_fits encoding_fits start_fits
  covered_224 = tt

  all_covered : (c : ℕ) → c < 256 → T (covered c)
  all_covered = in_eight covered covered_0 covered_32 covered_64 covered_96 covered_128 covered_160 covered_192 covered_224

  -- a form that fits a first and second byte
  pub with_second : (c x : ℕ) → c < 256 → x < 256 → some (λ f. has_second f.extension) (starting_with c) ≡ true → {f : Form}
      → Memᴰ f (fitting x (starting_with c)) → T (chosen_by (instruction_of off p f c x t) f c x)
  with_second c x h k e {f} m = go (some (λ f. has_second f.extension) (starting_with c)) e (all_covered c h)
    where
      go : (b : Bool) → b ≡ true → T (row_covered c (starting_with c) b) → T (chosen_by (instruction_of off p f c x t) f c x)
      go true e w = each_at (λ f. chosen_by (instruction_of off p f c x t) f c x) (fitting x (starting_with c)) (up_to_at 256 (λ x. each c x (fitting x (starting_with c))) w x k) m
      go false e w = let z : ◌≡◌ {A = ℕ} 0 1 = cc in absurd (omega arith)

  -- a form that has no second byte
  pub without_second : (c : ℕ) → c < 256 → some (λ f. has_second f.extension) (starting_with c) ≡ false → {f : Form}
      → Memᴰ f (starting_with c) → T (chosen_by (instruction_of off p f c 0 t) f c 0)
  without_second c h e {f} m = go (some (λ f. has_second f.extension) (starting_with c)) e (all_covered c h)
    where
      go : (b : Bool) → b ≡ false → T (row_covered c (starting_with c) b) → T (chosen_by (instruction_of off p f c 0 t) f c 0)
      go true e w = let z : ◌≡◌ {A = ℕ} 0 1 = cc in absurd (omega arith)
      go false e w = each_at (λ f. chosen_by (instruction_of off p f c 0 t) f c 0) (starting_with c) w m
