-- REPNE and REP: what is read of F2 or F3 alone and before a string operation, and where the reading is that without a repeat.
-- Assumes nothing.
use Rattle.std.specs.Prelude.{Ok, Err}
use mathlib.Core.Path.{◌≡◌, refl, sym, ap, ◌∙◌}
use Prim.Native.Nat.{ℕ, ◌≤◌, ◌<◌, zero-le}
use native.Mathlib.Omega.{arith}
use mathlib.Core.Bool.{Bool, true, false}
use mathlib.Core.List.{List, [], ◌∷◌, Memᴰ}
use lib.Dec.{T, eqb}
use lib.ListN.{length}
use borrow.Author.Tests.{eqb-true, le-leb}
use Rattle.mrc_compiler.specs.declared.encoder.OperandSize.{OperandSize}
use Rattle.mrc_compiler.specs.declared.encoder.OperandSize.TheVariants as S
use Rattle.mrc_compiler.specs.declared.operations.Operation.{Operation}
use Rattle.mrc_compiler.specs.declared.operations.Operation.TheVariants as Op
use Rattle.mrc_compiler.specs.Choose.{pick, both, either, isnt}
use Rattle.mrc_compiler.specs.Operations.{number_of, is_string}
use Rattle.x86.specs.declared.Operand.{Operand}
use Rattle.x86.specs.declared.Operand.TheVariants as O
use Rattle.x86.specs.declared.Instruction.{Instruction}
use Rattle.x86.specs.declared.ReadError.TheVariants.{NotAnInstruction}
use Rattle.x86.specs.Instructions.{instruction, is_nop, crossing, canonical, repeated}
use Rattle.x86.specs.Forms.{Extension, Form, form, forms}
use Rattle.x86.specs.Forms as F
use Rattle.x86.specs.Reading.{Read, opcode_fits, has_opcode, some, starting_with, read_form, read_opcode, prefix, read_plain, is_repeat, begins_string, repeats, reads}
use Rattle.x86.proofs.Tests.{both_parts, both_first, is_true, each_of, each_at, passed}
use Rattle.x86.proofs.ByForm.{more_not_whole, nothing_not_whole, same_parts, opcode_by, form_reads, in_forms, plain_not_longer}

-- an instruction without operands
abbrev pub bare : Operation → Instruction
bare op = instruction op S.Unspecified O.None O.None

-- some form of a list passes a test
some_member : (q : Form → Bool) (fs : List Form) → some q fs ≡ true → (f : Form) × Memᴰ f fs × (q f ≡ true)
some_member q [] e = let z : ◌≡◌ {A = ℕ} 0 1 = cc in absurd (omega arith)
some_member q (f ∷ fs) e = go (q f) refl (λ h. some_member q fs h) e
  where
    go : (b : Bool) → q f ≡ b → (some q fs ≡ true → (g : Form) × Memᴰ g fs × (q g ≡ true)) → either b (some q fs) ≡ true
        → (g : Form) × Memᴰ g (f ∷ fs) × (q g ≡ true)
    go true k r e = (f, Memᴰ.head refl, k)
    go false k r e = let (g, m, h) = r e in (g, Memᴰ.tail m, h)

either_cases : {A : Type 0} (a b : Bool) → either a b ≡ true → (a ≡ true → A) → (b ≡ true → A) → A
either_cases true b e f g = f refl
either_cases false b e f g = g e

-- ---- a first byte whose only form has nothing behind it
abbrev pub single : ℕ → Operation → Form
single c op = form c F.no op F.nil F.nil

single_reads : (off c : ℕ) (s : List ℕ) (op : Operation) → starting_with c ≡ single c op ∷ [] → prefix c ≡ false → canonical op S.Unspecified O.None O.None ≡ bare op
    → read_plain off (c ∷ s) ≡ Ok (bare op, 1)
unfolding read_plain read_form
single_reads off c s op e p k = rw (p, e, le-leb 0 (length s) zero-le, k) refl

-- F2 and F3, whatever stands behind
pub alone : (off b : ℕ) (s : List ℕ) → is_repeat b ≡ true → (op : Operation) × (read_plain off (b ∷ s) ≡ Ok (bare op, 1))
unfolding is_repeat starting_with prefix forms canonical number_of
alone off b s e =
    either_cases (eqb b 0xF2) (eqb b 0xF3) e
    (λ k. rw (eqb-true b 0xF2 k) (Op.REPNE, single_reads off 0xF2 s Op.REPNE refl refl refl))
    (λ k. rw (eqb-true b 0xF3 k) (Op.REP, single_reads off 0xF3 s Op.REP refl refl refl))

-- ---- the string operations
-- their forms are single bytes
abbrev is_single : Extension → Bool
is_single F.no = true
is_single F.+r = false
is_single F.+s = false
is_single F./r = false
is_single (F./ n) = false
is_single F.0A = false

single_opcode : (x : Extension) (o c : ℕ) → T (is_single x) → opcode_fits x o c ≡ true → c ≡ o
single_opcode F.no o c t e = eqb-true c o e
single_opcode F.+r o c t e = absurd t
single_opcode F.+s o c t e = absurd t
single_opcode F./r o c t e = absurd t
single_opcode (F./ n) o c t e = absurd t
single_opcode F.0A o c t e = absurd t

abbrev pub one_of : List ℕ → ℕ → Bool
one_of [] c = false
one_of (a ∷ l) c = either (eqb c a) (one_of l c)

abbrev opcodes : List ℕ
opcodes = 0xA4 ∷ 0xA5 ∷ 0xA6 ∷ 0xA7 ∷ 0xAA ∷ 0xAB ∷ 0xAC ∷ 0xAD ∷ 0xAE ∷ 0xAF ∷ []

abbrev string_form : Form → Bool
string_form f = pick (is_string f.operation) (both (is_single f.extension) (one_of opcodes f.opcode)) true

string_forms : T (each_of string_form forms)
unfolding forms is_string number_of
string_forms = tt

-- so they begin with these bytes alone
string_first : (c : ℕ) → some (λ f. is_string f.operation) (starting_with c) ≡ true → one_of opcodes c ≡ true
unfolding starting_with
string_first c e =
    let (f, m, k) = some_member (λ f. is_string f.operation) (starting_with c) e in
    let (l, r) = both_parts (is_single f.extension) (one_of opcodes f.opcode) (rw k at (each_at string_form forms string_forms (in_forms c m))) in
    let o : c ≡ f.opcode = single_opcode f.extension f.opcode c l (both_first (opcode_fits f.extension f.opcode c) _ (passed (has_opcode c) forms m)) in
    rw o (is_true (one_of opcodes f.opcode) r)

-- and are read as one byte, whatever stands behind
pub record StringAt (off : ℕ) (s : List ℕ) : Type 0 where
  pub c : ℕ
  pub behind : List ℕ
  pub op : Operation
  pub in_order : s ≡ c ∷ behind
  pub op_is_string : is_string op ≡ true
  pub one_form : starting_with c ≡ single c op ∷ []
  pub no_prefix : prefix c ≡ false
  pub listed : Memᴰ (single c op) forms
  pub reads_it : read_plain off s ≡ Ok (bare op, 1)

string_is : (off c : ℕ) (s : List ℕ) (op : Operation) → is_string op ≡ true → starting_with c ≡ single c op ∷ [] → prefix c ≡ false
    → canonical op S.Unspecified O.None O.None ≡ bare op → StringAt off (c ∷ s)
string_is off c s op h e p k = record {
  c = c;
  behind = s;
  op = op;
  in_order = refl;
  op_is_string = h;
  one_form = e;
  no_prefix = p;
  listed = in_forms c (rw e (Memᴰ.head refl));
  reads_it = single_reads off c s op e p k;
}

pub string_at : (off : ℕ) (s : List ℕ) → begins_string s ≡ true → StringAt off s
unfolding starting_with prefix forms canonical is_string number_of
string_at off [] e = let z : ◌≡◌ {A = ℕ} 0 1 = cc in absurd (omega arith)
string_at off (c ∷ s) e =
    either_cases (eqb c 0xA4) _ (string_first c e) (λ k. rw (eqb-true c 0xA4 k) (string_is off 0xA4 s Op.MOVSB refl refl refl refl))
    (λ e. either_cases (eqb c 0xA5) _ e (λ k. rw (eqb-true c 0xA5 k) (string_is off 0xA5 s Op.MOVSW refl refl refl refl))
    (λ e. either_cases (eqb c 0xA6) _ e (λ k. rw (eqb-true c 0xA6 k) (string_is off 0xA6 s Op.CMPSB refl refl refl refl))
    (λ e. either_cases (eqb c 0xA7) _ e (λ k. rw (eqb-true c 0xA7 k) (string_is off 0xA7 s Op.CMPSW refl refl refl refl))
    (λ e. either_cases (eqb c 0xAA) _ e (λ k. rw (eqb-true c 0xAA k) (string_is off 0xAA s Op.STOSB refl refl refl refl))
    (λ e. either_cases (eqb c 0xAB) _ e (λ k. rw (eqb-true c 0xAB k) (string_is off 0xAB s Op.STOSW refl refl refl refl))
    (λ e. either_cases (eqb c 0xAC) _ e (λ k. rw (eqb-true c 0xAC k) (string_is off 0xAC s Op.LODSB refl refl refl refl))
    (λ e. either_cases (eqb c 0xAD) _ e (λ k. rw (eqb-true c 0xAD k) (string_is off 0xAD s Op.LODSW refl refl refl refl))
    (λ e. either_cases (eqb c 0xAE) _ e (λ k. rw (eqb-true c 0xAE k) (string_is off 0xAE s Op.SCASB refl refl refl refl))
    (λ e. either_cases (eqb c 0xAF) false e (λ k. rw (eqb-true c 0xAF k) (string_is off 0xAF s Op.SCASW refl refl refl refl))
    (λ e. let z : ◌≡◌ {A = ℕ} 0 1 = cc in absurd (omega arith)))))))))))

-- ---- the reading: with a repeat, or as it is without one
pub record Repeated (off : ℕ) (s : List ℕ) : Type 0 where
  pub b : ℕ
  pub behind : List ℕ
  pub string : StringAt off behind
  pub in_order : s ≡ b ∷ behind
  pub byte_is_repeat : is_repeat b ≡ true
  pub repeats_it : repeats s ≡ true
  pub reads_it : reads off s ≡ Ok (repeated b (bare string.op), 2)
  pub long : 2 ≤ length s

pub plain : (off : ℕ) (s : List ℕ) → repeats s ≡ false → reads off s ≡ read_plain off s
unfolding reads read_plain
plain off [] e = refl
plain off (b ∷ s) e = rw e refl

pub data HowRead (off : ℕ) (s : List ℕ) : Type 0 where
  with_repeat : Repeated off s → HowRead off s
  without : repeats s ≡ false → reads off s ≡ read_plain off s → HowRead off s

two_bytes : (b : ℕ) (s : List ℕ) → begins_string s ≡ true → 2 ≤ length (b ∷ s)
two_bytes b [] e = let z : ◌≡◌ {A = ℕ} 0 1 = cc in absurd (omega arith)
two_bytes b (c ∷ s) e = omega arith

pub how_read : (off : ℕ) (s : List ℕ) → HowRead off s
unfolding reads read_plain repeats
how_read off [] = without refl refl
how_read off (b ∷ s) = go (is_repeat b) (begins_string s) refl refl
  where
    go : (i j : Bool) → is_repeat b ≡ i → begins_string s ≡ j → HowRead off (b ∷ s)
    go true true e k =
        let r = string_at off s k in
        with_repeat (record {
          b = b;
          behind = s;
          string = r;
          in_order = refl;
          byte_is_repeat = e;
          repeats_it = rw (e, k) refl;
          reads_it = rw (e, k, r.reads_it) refl;
          long = two_bytes b s k;
        })
    go true false e k = let h : repeats (b ∷ s) ≡ false = rw (e, k) refl in without h (plain off (b ∷ s) h)
    go false j e k = let h : repeats (b ∷ s) ≡ false = rw e refl in without h (plain off (b ∷ s) h)

-- F2 or F3 with bytes behind it is not read to the last byte without them
pub whole_plain : (off : ℕ) (s : List ℕ) (m : Instruction) → read_plain off s ≡ Ok (m, length s) → reads off s ≡ Ok (m, length s)
whole_plain off s m e = go (how_read off s)
  where
    go : HowRead off s → reads off s ≡ Ok (m, length s)
    go (with_repeat r) =
        let (op, k) = alone off r.b r.behind r.byte_is_repeat in
        let p : ◌≡◌ {A = Read} (Ok (m, length s)) (Ok (bare op, 1)) = cc in
        let z : length s ≡ 1 = (same_parts p).1 in
        absurd (omega (arith, r.long))
    go (without n q) = q ∙ e

-- what is no instruction without a repeat is none
pub unread_plain : (off : ℕ) (s : List ℕ) → ((m : Instruction) (n : ℕ) → read_plain off s ≡ Ok (m, n) → ⊥) → repeats s ≡ false
unfolding repeats
unread_plain off [] h = refl
unread_plain off (b ∷ s) h = go (is_repeat b) refl
  where
    go : (i : Bool) → is_repeat b ≡ i → both i (begins_string s) ≡ false
    go true e = let (op, k) = alone off b s e in absurd (h (bare op) 1 k)
    go false e = refl

pub nothing_plain : (off : ℕ) (s : List ℕ) → read_plain off s ≡ Err NotAnInstruction → reads off s ≡ Err NotAnInstruction
nothing_plain off s e = plain off s (unread_plain off s (λ m n k. nothing_not_whole (sym e ∙ k))) ∙ e

-- ---- the repeat of what is read
pub unrepeated : (b : ℕ) (m : Instruction) → b ≡ m.repeat → repeated b m ≡ m
unrepeated b m e = rw e refl

pick_repeat : (t : Bool) (m n : Instruction) → m.repeat ≡ 0 → n.repeat ≡ 0 → (pick t m n).repeat ≡ 0
pick_repeat true m n h k = h
pick_repeat false m n h k = k

pub canonical_repeat : (op : Operation) (w : OperandSize) (a b : Operand) → (canonical op w a b).repeat ≡ 0
unfolding canonical
canonical_repeat op w a b = pick_repeat (is_nop op w a b) _ _ refl (pick_repeat (crossing op a b) _ _ refl refl)

opcode_repeat : (off p : ℕ) (s : List ℕ) (m : Instruction) (n : ℕ) → read_opcode off p s ≡ Ok (m, n) → m.repeat ≡ 0
opcode_repeat off p s m n e =
    let r = opcode_by off p s e in
    rw (form_reads off p r.c r.x r.t r.f r.read) (canonical_repeat _ _ _ _)

pub plain_repeat : (off : ℕ) (s : List ℕ) (m : Instruction) (n : ℕ) → read_plain off s ≡ Ok (m, n) → m.repeat ≡ 0
unfolding read_plain
plain_repeat off [] m n e = absurd (more_not_whole e)
plain_repeat off (b ∷ s) m n e = go (prefix b) e
  where
    go : (q : Bool) → pick q (read_opcode off b s) (read_opcode off 0 (b ∷ s)) ≡ Ok (m, n) → m.repeat ≡ 0
    go true e = opcode_repeat off b s m n e
    go false e = opcode_repeat off 0 (b ∷ s) m n e

-- a repeat is a byte, and not 0
pub repeat_byte : (b : ℕ) → is_repeat b ≡ true → b < 256
unfolding is_repeat
repeat_byte b e =
    either_cases (eqb b 0xF2) (eqb b 0xF3) e (λ k. omega (arith, eqb-true b 0xF2 k)) (λ k. omega (arith, eqb-true b 0xF3 k))

pub repeat_some : (b : ℕ) → is_repeat b ≡ true → eqb b 0 ≡ false
unfolding is_repeat
repeat_some b e =
    either_cases (eqb b 0xF2) (eqb b 0xF3) e (λ k. rw (eqb-true b 0xF2 k) refl) (λ k. rw (eqb-true b 0xF3 k) refl)

-- what is read has a repeat where the bytes begin with one
pub repeats_by : (off : ℕ) (s : List ℕ) (m : Instruction) (n : ℕ) → reads off s ≡ Ok (m, n) → repeats s ≡ isnt (eqb m.repeat 0)
repeats_by off s m n e = go (how_read off s)
  where
    go : HowRead off s → repeats s ≡ isnt (eqb m.repeat 0)
    go (with_repeat r) = let q : m.repeat ≡ r.b = ap (λ (i : Instruction). i.repeat) (same_parts (sym e ∙ r.reads_it)).0 in rw (q, repeat_some r.b r.byte_is_repeat) r.repeats_it
    go (without h q) = rw (plain_repeat off s m n (sym q ∙ e)) h

-- ---- an instruction is not longer than the bytes
pub not_longer : (off : ℕ) (s : List ℕ) (m : Instruction) (n : ℕ) → reads off s ≡ Ok (m, n) → n ≤ length s
not_longer off s m n e = go (how_read off s)
  where
    go : HowRead off s → n ≤ length s
    go (with_repeat r) = let q : n ≡ 2 = (same_parts (sym e ∙ r.reads_it)).1 in omega (arith, r.long)
    go (without h q) = plain_not_longer off s m n (sym q ∙ e)
