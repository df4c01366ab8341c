-- What is read to the last byte, without a repeat, is the string of its instruction with some start.
-- Assumes nothing.
use Rattle.std.specs.Prelude.{Ok, Err}
use mathlib.Core.Path.{◌≡◌, refl, sym, ◌∙◌, ap, ap₂, subst}
use Prim.Native.Nat.{ℕ, zero, suc, ◌+◌, ◌%◌, ◌<◌}
use native.Mathlib.Omega.{arith}
use mathlib.Core.Bool.{Bool, true, false}
use mathlib.Core.Logic.{◌⊎◌, inl, inr}
use mathlib.Core.List.{List, [], ◌∷◌, ◌++◌, Memᴰ}
use lib.Dec.{T, eqb, ltb, leb, eqb-suc-zero}
use lib.ListN.{length, length-append}
use Rattle.mrc_compiler.specs.Choose.{pick, either}
use Rattle.x86.specs.declared.Instruction.{Instruction}
use Rattle.x86.specs.declared.ReadError.TheVariants.{NotAnInstruction, NotComplete}
use Rattle.x86.specs.Forms.{Form, forms}
use Rattle.x86.specs.Reading.{fits, some, starting_with, fitting, has_second, head_length, memory_length, tail_length, displacement_at, names_memory, may_name_memory, instruction_of, read_form, read_first, read_second, read_opcode, prefix, read_plain}
use Rattle.x86.specs.Listing.{Bytes}
use Rattle.x86.proofs.Tests.{kept, some-false}
use Rattle.x86.proofs.Unambiguous.{second_agrees}
use Rattle.x86.proofs.ByForm.{more_not_whole, nothing_not_whole, same_parts, pick_whole, in_forms}
use Rattle.encode_spec.specs.Layout.{prefix_bytes}
use Rattle.list_spec.specs.declared.Start.{Start}
use Rattle.list_spec.specs.Operands.{prefix_of, displacement_of}
use Rattle.list_spec.specs.Parts.{is_short, parts_of}
use Rattle.list_spec.specs.Candidates.{string_of}
use Rattle.list_spec.proofs.ByForm.{start_by}
use Rattle.list_spec.proofs.Covered.{chosen, chosen_by, with_second, without_second}
use Rattle.list_spec.proofs.Behind.{displacement_is, prefix_is, behind_start}
use Rattle.list_spec.proofs.Possible.{no_bytes, short_bytes}

-- ---- inversion of the reading
-- a form that fits first byte c and second byte x; 0 stands for none
pub data Fits (f : Form) (c x : ℕ) : Type 0 where
  with_second_byte : some (λ f. has_second f.extension) (starting_with c) ≡ true → Memᴰ f (fitting x (starting_with c)) → Fits f c x
  without_one : some (λ f. has_second f.extension) (starting_with c) ≡ false → Memᴰ f (starting_with c) → x ≡ 0 → Fits f c x

-- the form, opcode and second byte by which the bytes s behind the prefix p were read, and the bytes t behind them
pub record Parsed (off p : ℕ) (s : List ℕ) (m : Instruction) (n : ℕ) : Type 0 where
  pub c : ℕ
  pub x : ℕ
  pub t : List ℕ
  pub f : Form
  pub listed : Memᴰ f forms
  pub fits_them : Fits f c x
  pub read : read_form off p c x t f ≡ Ok (m, n)
  pub is : s ≡ c ∷ (pick (has_second f.extension) (x ∷ []) [] ++ t)
  pub c_byte : c < 256
  pub x_byte : x < 256
  pub t_bytes : Bytes t
  pub found : T (chosen_by (instruction_of off p f c x t) f c x)

first_by : (off p c x : ℕ) (t : List ℕ) (fs : List Form) {m : Instruction} {n : ℕ} → read_first off p c x t fs ≡ Ok (m, n)
    → (f : Form) × (gs : List Form) × (fs ≡ f ∷ gs) × (read_form off p c x t f ≡ Ok (m, n))
first_by off p c x t [] e = absurd (nothing_not_whole e)
first_by off p c x t (f ∷ fs) e = (f, fs, refl, e)

in_list : (f : Form) (fs gs : List Form) → fs ≡ f ∷ gs → Memᴰ f fs
in_list f fs gs e = rw e (Memᴰ.head refl)

by_second : (off p c : ℕ) (t : List ℕ) {m : Instruction} {n : ℕ} → Bytes (c ∷ t) → some (λ f. has_second f.extension) (starting_with c) ≡ true
    → read_second off p c (starting_with c) t ≡ Ok (m, n) → Parsed off p (c ∷ t) m n
by_second off p c [] bs q e = absurd (more_not_whole e)
by_second off p c (x ∷ t) bs q e =
    let (f, gs, l, r) = first_by off p c x t (fitting x (starting_with c)) e in
    let k = in_list f (fitting x (starting_with c)) gs l in
    let i = kept (fits x) (starting_with c) k in
    let h : has_second f.extension ≡ true = second_agrees c (bs 0) i ∙ q in
    record {
      c = c;
      x = x;
      t = t;
      f = f;
      listed = in_forms c i;
      fits_them = with_second_byte q k;
      read = r;
      is = rw h refl;
      c_byte = bs 0;
      x_byte = bs 1;
      t_bytes = λ i. bs (suc (suc i));
      found = with_second off p t c x (bs 0) (bs 1) q k;
    }

by_first : (off p c : ℕ) (t : List ℕ) {m : Instruction} {n : ℕ} → Bytes (c ∷ t) → some (λ f. has_second f.extension) (starting_with c) ≡ false
    → read_first off p c 0 t (starting_with c) ≡ Ok (m, n) → Parsed off p (c ∷ t) m n
by_first off p c t bs q e =
    let (f, gs, l, r) = first_by off p c 0 t (starting_with c) e in
    let i = in_list f (starting_with c) gs l in
    let h : has_second f.extension ≡ false = some-false (λ f. has_second f.extension) (starting_with c) q i in
    record {
      c = c;
      x = 0;
      t = t;
      f = f;
      listed = in_forms c i;
      fits_them = without_one q i refl;
      read = r;
      is = rw h refl;
      c_byte = bs 0;
      x_byte = omega arith;
      t_bytes = λ i. bs (suc i);
      found = without_second off p t c (bs 0) q i;
    }

pub parsed : (off p : ℕ) (s : List ℕ) {m : Instruction} {n : ℕ} → Bytes s → read_opcode off p s ≡ Ok (m, n) → Parsed off p s m n
parsed off p [] bs e = absurd (more_not_whole e)
parsed off p (c ∷ t) {m} {n} bs e =
    go (some (λ f. has_second f.extension) fs) refl (pick_whole (some (λ f. either (eqb p 0) (may_name_memory f)) fs) _ (Err NotAnInstruction) nothing_not_whole e).1
  where
    fs : List Form
    fs = starting_with c

    go : (b : Bool) → some (λ f. has_second f.extension) fs ≡ b → pick b (read_second off p c fs t) (read_first off p c 0 t fs) ≡ Ok (m, n)
        → Parsed off p (c ∷ t) m n
    go true q e = by_second off p c t bs q e
    go false q e = by_first off p c t bs q e

-- what a form reads whole
form_whole : (off p c x : ℕ) (t : List ℕ) (f : Form) {m : Instruction} {n : ℕ} → read_form off p c x t f ≡ Ok (m, n)
    → (either (eqb p 0) (names_memory f x) ≡ true) × (instruction_of off p f c x t ≡ m) × (head_length p f + tail_length f x ≡ n)
unfolding read_form
form_whole off p c x t f e =
    let (o, a) = pick_whole (either (eqb p 0) (names_memory f x)) _ (Err NotAnInstruction) nothing_not_whole e in
    let (l, w) = pick_whole (leb (tail_length f x) (length t)) (Ok (instruction_of off p f c x t, head_length p f + tail_length f x)) (Err NotComplete) more_not_whole a in
    (o, (same_parts w).0, (same_parts w).1)

prefix_length : (p : ℕ) → length (prefix_bytes p) ≡ pick (eqb p 0) 0 1
prefix_length p = go (eqb p 0)
  where
    go : (b : Bool) → length (pick b [] (p ∷ [])) ≡ pick b 0 1
    go true = refl
    go false = refl

second_length : (b : Bool) (x : ℕ) (t : List ℕ) → suc (length (pick b (x ∷ []) [] ++ t)) ≡ pick b 2 1 + length t
second_length true x t = omega arith
second_length false x t = omega arith

-- ---- the string that was read, and its start
pub record Written (off : ℕ) (s : List ℕ) (m : Instruction) : Type 0 where
  pub p : ℕ
  pub start : Start
  pub is : s ≡ string_of off p start (parts_of m)
  -- the displacement has no bytes; one at most
  pub zero : Bool
  pub short : Bool
  pub is_zero : T zero → T (eqb (displacement_of m) 0)
  pub is_short_displacement : T short → T (is_short (displacement_of m))
  pub is_chosen : T (chosen m zero short start)
  pub prefix_none : (p ≡ 0) ⊎ (p ≡ prefix_of m)

-- no prefix, or a prefix byte
abbrev Front : ℕ → Type 0
Front p = (p ≡ 0) ⊎ ((prefix p ≡ true) × (p < 256))

pub prefix_not_0 : (p : ℕ) → prefix p ≡ true → eqb p 0 ≡ false
unfolding prefix
prefix_not_0 zero e = sym e
prefix_not_0 (suc p) e = eqb-suc-zero p

-- a form, opcode and second byte give the string s₀ behind the prefix p its start and the instruction its displacement
module _ (off p : ℕ) (s₀ s : List ℕ) (m : Instruction) (e : s₀ ≡ prefix_bytes p ++ s) (h : off < 65536) (r : Parsed off p s m (length s₀)) where
  abbrev read_by : (either (eqb p 0) (names_memory r.f r.x) ≡ true) × (instruction_of off p r.f r.c r.x r.t ≡ m) × (head_length p r.f + tail_length r.f r.x ≡ length s₀)
  read_by = form_whole off p r.c r.x r.t r.f r.read

  pub instruction_is : instruction_of off p r.f r.c r.x r.t ≡ m
  instruction_is = read_by.1

  pub displacement_of_lem : displacement_of m ≡ displacement_at (memory_length r.f r.x) r.t
  displacement_of_lem = sym (ap displacement_of instruction_is) ∙ displacement_is off p r.c r.x r.t r.f r.listed r.t_bytes

  pub string_is : s₀ ≡ string_of off p (start_by r.f r.c r.x) (parts_of m)
  unfolding string_of
  string_is =
      let c = r.c in
      let x = r.x in
      let t = r.t in
      let f = r.f in
      let (o, d, n) = read_by in
      let whole : s₀ ≡ prefix_bytes p ++ (c ∷ (pick (has_second f.extension) (x ∷ []) [] ++ t)) = cc r.is in
      let l : length s₀ ≡ length (prefix_bytes p) + suc (length (pick (has_second f.extension) (x ∷ []) [] ++ t)) = ap length whole ∙ length-append (prefix_bytes p) _ in
      let lt : length t ≡ tail_length f x = omega (arith, prefix_length p, second_length (has_second f.extension) x t) in
      let b = behind_start off p c x t f r.listed h r.t_bytes lt o r.x_byte in
      let z : c ≡ c % 256 = omega (arith, r.c_byte) in
      whole ∙ (ap₂ (λ (k : ℕ) (l : List ℕ). prefix_bytes p ++ (k ∷ l)) z b
      ∙ ap (λ (m : Instruction). string_of off p (start_by f c x) (parts_of m)) d)

  -- behind a prefix there is memory, in its segment
  pub names_memory_lem : prefix p ≡ true → names_memory r.f r.x ≡ true
  names_memory_lem q = rw (prefix_not_0 p q) at read_by.0

  pub prefix_of_lem : prefix p ≡ true → p < 256 → prefix_of m ≡ p
  prefix_of_lem q k = sym (ap prefix_of instruction_is) ∙ prefix_is off p r.c r.x r.t r.f r.listed q k (names_memory_lem q)

  from_parsed : Front p → Written off s₀ m
  from_parsed front =
      let x = r.x in
      let f = r.f in
      let i = displacement_of_lem in
      record {
        p = p;
        start = start_by f r.c x;
        is = string_is;
        zero = eqb (memory_length f x) 0;
        short = ltb (memory_length f x) 2;
        is_zero = λ h. subst (λ (k : ℕ). T (eqb k 0)) (sym i) (no_bytes (memory_length f x) r.t h);
        is_short_displacement = λ h. subst (λ (k : ℕ). T (is_short k)) (sym i) (short_bytes (memory_length f x) r.t r.t_bytes h);
        is_chosen = subst (λ (m : Instruction). T (chosen_by m f r.c x)) instruction_is r.found;
        prefix_none = segment front;
      }
    where
      segment : Front p → (p ≡ 0) ⊎ (p ≡ prefix_of m)
      segment (inl z) = inl z
      segment (inr (q, k)) = inr (sym (prefix_of_lem q k))

pub written : (off : ℕ) (s : List ℕ) (m : Instruction) → off < 65536 → Bytes s → read_plain off s ≡ Ok (m, length s) → Written off s m
unfolding read_plain
written off [] m h bs e = absurd (more_not_whole e)
written off (b ∷ s) m h bs e = go (prefix b) refl e
  where
    go : (q : Bool) → prefix b ≡ q → pick q (read_opcode off b s) (read_opcode off 0 (b ∷ s)) ≡ Ok (m, length (b ∷ s)) → Written off (b ∷ s) m
    go true q e = from_parsed off b (b ∷ s) s m (rw (prefix_not_0 b q) refl) h (parsed off b s (λ i. bs (suc i)) e) (inr (q, bs 0))
    go false q e = from_parsed off 0 (b ∷ s) (b ∷ s) m refl h (parsed off 0 (b ∷ s) bs e) (inl refl)
