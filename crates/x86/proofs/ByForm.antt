-- Which form read an instruction, and from which bytes.
-- Assumes nothing.
use Rattle.std.specs.Prelude.{Ok, Err}
use mathlib.Core.Path.{◌≡◌, refl, sym, ap}
use Prim.Native.Nat.{ℕ, ◌+◌, ◌≤◌}
use native.Mathlib.Omega.{arith}
use mathlib.Core.Bool.{Bool, true, false}
use mathlib.Core.List.{List, [], ◌∷◌, Memᴰ}
use lib.Dec.{eqb, leb}
use lib.ListN.{length}
use borrow.Author.Tests.{leb-true}
use Rattle.mrc_compiler.specs.Choose.{pick, either}
use Rattle.x86.specs.declared.Instruction.{Instruction}
use Rattle.x86.specs.declared.ReadError.TheVariants.{NotAnInstruction, NotComplete}
use Rattle.x86.specs.Forms.{Form, forms}
use Rattle.x86.specs.Reading.{Read, has_opcode, fits, some, starting_with, fitting, has_second, head_length, tail_length, names_memory, may_name_memory, instruction_of, read_form, read_first, read_second, read_opcode, prefix, read_plain}
use Rattle.x86.proofs.Tests.{kept, some-false}

-- the answers differ
pub more_not_whole : {m : Instruction} {n : ℕ} → ◌≡◌ {A = Read} (Err NotComplete) (Ok (m, n)) → ⊥
more_not_whole e = let z : ◌≡◌ {A = ℕ} 0 1 = cc in omega arith

pub nothing_not_whole : {m : Instruction} {n : ℕ} → ◌≡◌ {A = Read} (Err NotAnInstruction) (Ok (m, n)) → ⊥
nothing_not_whole e = let z : ◌≡◌ {A = ℕ} 0 1 = cc in omega arith

pub nothing_not_more : ◌≡◌ {A = Read} (Err NotAnInstruction) (Err NotComplete) → ⊥
nothing_not_more e = let z : ◌≡◌ {A = ℕ} 0 1 = cc in omega arith

-- and of two instructions that are one answer, each part is one
pub same_parts : {m k : Instruction} {n l : ℕ} → ◌≡◌ {A = Read} (Ok (m, n)) (Ok (k, l)) → (m ≡ k) × (n ≡ l)
same_parts e = let p : ◌≡◌ {A = Instruction × ℕ} _ _ = cc in (ap (λ (q : Instruction × ℕ). q.0) p, ap (λ (q : Instruction × ℕ). q.1) p)

-- a reading that ends whole was not refused
pub pick_whole : (b : Bool) (r s : Read) {m : Instruction} {n : ℕ} → (s ≡ Ok (m, n) → ⊥) → pick b r s ≡ Ok (m, n) → (b ≡ true) × (r ≡ Ok (m, n))
pick_whole true r s f e = (refl, e)
pick_whole false r s f e = absurd (f e)

-- the form, with first byte c, second byte x and the bytes t behind them, of the bytes s behind the prefix p (0: none)
pub record ByForm (off p : ℕ) (s : List ℕ) (m : Instruction) (n : ℕ) : Type 0 where
  pub c : ℕ
  pub x : ℕ
  pub t : List ℕ
  pub f : Form
  pub listed : Memᴰ f (starting_with c)
  pub read : read_form off p c x t f ≡ Ok (m, n)
  pub behind : pick (has_second f.extension) 2 1 + length t ≤ length s

first_by : (off p c x : ℕ) (t : List ℕ) (fs : List Form) {m : Instruction} {n : ℕ} → read_first off p c x t fs ≡ Ok (m, n)
    → (f : Form) × Memᴰ f fs × (read_form off p c x t f ≡ Ok (m, n))
first_by off p c x t [] e = absurd (nothing_not_whole e)
first_by off p c x t (f ∷ fs) e = (f, Memᴰ.head refl, e)

at_most_two : (b : Bool) → pick b 2 1 ≤ 2
at_most_two true = omega arith
at_most_two false = omega arith

second_by : (off p c : ℕ) (t : List ℕ) {m : Instruction} {n : ℕ} → read_second off p c (starting_with c) t ≡ Ok (m, n) → ByForm off p (c ∷ t) m n
second_by off p c [] e = absurd (more_not_whole e)
second_by off p c (x ∷ t) e =
    let (f, m, r) = first_by off p c x t (fitting x (starting_with c)) e in
    record { c = c; x = x; t = t; f = f; listed = kept (fits x) (starting_with c) m; read = r; behind = omega (arith, at_most_two (has_second f.extension)) }

-- a form that begins with c is one of the forms
pub in_forms : (c : ℕ) {f : Form} → Memᴰ f (starting_with c) → Memᴰ f forms
unfolding starting_with
in_forms c m = kept (has_opcode c) forms m

-- what is read whole behind a prefix was read by some form
pub opcode_by : (off p : ℕ) (s : List ℕ) {m : Instruction} {n : ℕ} → read_opcode off p s ≡ Ok (m, n) → ByForm off p s m n
opcode_by off p [] e = absurd (more_not_whole e)
opcode_by off p (c ∷ t) {m} {n} e =
    go (some (λ f. has_second f.extension) fs) refl (pick_whole (some (λ f. either (eqb p 0) (may_name_memory f)) fs) _ (Err NotAnInstruction) nothing_not_whole e).1
  where
    fs : List Form
    fs = starting_with c

    go : (b : Bool) → some (λ f. has_second f.extension) fs ≡ b → pick b (read_second off p c fs t) (read_first off p c 0 t fs) ≡ Ok (m, n)
        → ByForm off p (c ∷ t) m n
    go true q e = second_by off p c t e
    go false q e =
        let (f, m, r) = first_by off p c 0 t fs e in
        let z : has_second f.extension ≡ false = some-false (λ f. has_second f.extension) fs q m in
        record { c = c; x = 0; t = t; f = f; listed = m; read = r; behind = rw z (omega arith) }

-- a form reads its head and its tail, and the tail is there
pub form_length : (off p c x : ℕ) (t : List ℕ) (f : Form) {m : Instruction} {n : ℕ} → read_form off p c x t f ≡ Ok (m, n)
    → (n ≡ head_length p f + tail_length f x) × (tail_length f x ≤ length t)
unfolding read_form
form_length off p c x t f e =
    let a = (pick_whole (either (eqb p 0) (names_memory f x)) _ (Err NotAnInstruction) nothing_not_whole e).1 in
    let (l, w) = pick_whole (leb (tail_length f x) (length t)) (Ok (instruction_of off p f c x t, head_length p f + tail_length f x)) (Err NotComplete) more_not_whole a in
    (sym (same_parts w).1, leb-true (tail_length f x) (length t) l)

-- and gives its instruction
pub form_reads : (off p c x : ℕ) (t : List ℕ) (f : Form) {m : Instruction} {n : ℕ} → read_form off p c x t f ≡ Ok (m, n) → m ≡ instruction_of off p f c x t
unfolding read_form
form_reads off p c x t f e =
    let a = (pick_whole (either (eqb p 0) (names_memory f x)) _ (Err NotAnInstruction) nothing_not_whole e).1 in
    let (l, w) = pick_whole (leb (tail_length f x) (length t)) (Ok (instruction_of off p f c x t, head_length p f + tail_length f x)) (Err NotComplete) more_not_whole a in
    sym (same_parts w).0

-- a prefix is at most one byte
pub prefix_length : (p : ℕ) → pick (eqb p 0) 0 1 ≤ 1
prefix_length p = go (eqb p 0)
  where
    go : (b : Bool) → pick b 0 1 ≤ 1
    go true = omega arith
    go false = omega arith

-- an instruction is not longer than the bytes
pub plain_not_longer : (off : ℕ) (s : List ℕ) (m : Instruction) (n : ℕ) → read_plain off s ≡ Ok (m, n) → n ≤ length s
unfolding read_plain
plain_not_longer off [] m n e = absurd (more_not_whole e)
plain_not_longer off (b ∷ s) m n e = go (prefix b) e
  where
    go : (q : Bool) → pick q (read_opcode off b s) (read_opcode off 0 (b ∷ s)) ≡ Ok (m, n) → n ≤ length (b ∷ s)
    go true e =
        let r = opcode_by off b s e in
        let (k, l) = form_length off b r.c r.x r.t r.f r.read in
        omega (arith, prefix_length b, r.behind)
    go false e =
        let r = opcode_by off 0 (b ∷ s) e in
        let (k, l) = form_length off 0 r.c r.x r.t r.f r.read in
        omega (arith, r.behind)
