-- The reader's two questions: NotAnInstruction (refusal 10) where no continuation reads, NotComplete (refusal 11) where only a continuation does, and what
-- stands behind an instruction is not looked at.
-- Assumes nothing.
use Rattle.std.specs.Prelude.{Ok, Err}
use mathlib.Core.Path.{◌≡◌, refl, sym, ◌∙◌}
use Prim.Native.Nat.{ℕ, zero, suc, ◌+◌, ◌*◌, ◌≤◌, ◌<◌}
use native.Mathlib.Omega.{arith}
use mathlib.Core.Bool.{Bool, true, false}
use mathlib.Core.List.{List, [], ◌∷◌, ◌++◌, append-nil, Memᴰ}
use lib.Dec.{T, eqb, ltb, leb, ltb→lt, eqb-suc-zero}
use lib.ListN.{length, get_or, drop, replicate, length-append, length-replicate, get_or-append}
use lib.Seq.{get_or-drop}
use borrow.Author.Tests.{le-leb, leb-true}
use Rattle.mrc_compiler.specs.declared.operations.Operation.TheVariants as Op
use Rattle.mrc_compiler.specs.declared.encoder.OperandSize.TheVariants as S
use Rattle.mrc_compiler.specs.Operations.{number_of}
use Rattle.mrc_compiler.specs.Choose.{pick, both, either}
use Rattle.x86.specs.declared.Operand.TheVariants as O
use Rattle.x86.specs.declared.Instruction.{Instruction}
use Rattle.x86.specs.declared.ReadError.TheVariants.{NotAnInstruction, NotComplete}
use Rattle.x86.specs.Instructions.{instruction, canonical}
use Rattle.x86.specs.Forms.{Slot, rm, rm_near, mem, mem_far, reg, sreg, sreg_not_cs, acc, low3, bits34, bits34_not_cs, cl, dx, one, moffs, xlat, ib, iw, ib_sx, cb, cw, ptr, nil, Extension, Form, form, forms}
use Rattle.x86.specs.Forms as F
use Rattle.x86.specs.Reading.{Read, mode, low, displacement_length, about, fits, some, starting_with, fitting, address_length, has_second, head_length, memory_length, tail_length, names_memory, may_name_memory, displacement_at, rm_at, at, instruction_of, read_form, read_first, read_second, read_opcode, prefix, read_plain, is_repeat, repeats, behind_repeat, reads}
use Rattle.x86.specs.Listing.{Bytes}
use Rattle.x86.proofs.Tests.{both_parts, same, same_is, is_true, each_of, each_at}
use Rattle.x86.proofs.ByForm.{more_not_whole, nothing_not_whole, nothing_not_more, in_forms}
use Rattle.x86.proofs.Repeats.{bare, alone, plain, HowRead, with_repeat, without, how_read, not_longer}
use Rattle.x86.proofs.Unambiguous.{memory_agrees}

-- ---- an operand looks only at the bytes that its slot takes
-- the first k bytes are the same
abbrev Alike : ℕ → List ℕ → List ℕ → Type 0
Alike k s t = (i : ℕ) → i < k → get_or s i 0 ≡ get_or t i 0

displacement_alike : (n : ℕ) (s t : List ℕ) → Alike n s t → displacement_at n s ≡ displacement_at n t
displacement_alike zero s t h = refl
displacement_alike (suc zero) s t h = rw (h 0 (omega arith)) refl
displacement_alike (suc (suc n)) s t h = simp (eqb-suc-zero, h 0 (omega arith), h 1 (omega arith))

rm_alike : (p x : ℕ) (s t : List ℕ) → Alike (displacement_length (mode x) (low x)) s t → rm_at p x s ≡ rm_at p x t
rm_alike p x s t h = rw (displacement_alike (displacement_length (mode x) (low x)) s t h) refl

at_alike : (a : Slot) (p c x next : ℕ) (s t u v : List ℕ) → Alike (address_length (about a).place x) s t → Alike (about a).takes u v
    → at a p c x next s u ≡ at a p c x next t v
at_alike (rm w) p c x next s t u v h k = rm_alike p x s t h
at_alike rm_near p c x next s t u v h k = rm_alike p x s t h
at_alike mem p c x next s t u v h k = rm_alike p x s t h
at_alike mem_far p c x next s t u v h k = rm_alike p x s t h
at_alike (reg w) p c x next s t u v h k = refl
at_alike sreg p c x next s t u v h k = refl
at_alike sreg_not_cs p c x next s t u v h k = refl
at_alike (acc w) p c x next s t u v h k = refl
at_alike (low3 w) p c x next s t u v h k = refl
at_alike bits34 p c x next s t u v h k = refl
at_alike bits34_not_cs p c x next s t u v h k = refl
at_alike cl p c x next s t u v h k = refl
at_alike dx p c x next s t u v h k = refl
at_alike one p c x next s t u v h k = refl
at_alike (moffs w) p c x next s t u v h k = cc (h 0 (omega arith), h 1 (omega arith))
at_alike xlat p c x next s t u v h k = refl
at_alike ib p c x next s t u v h k = cc (k 0 (omega arith))
at_alike iw p c x next s t u v h k = cc (k 0 (omega arith), k 1 (omega arith))
at_alike ib_sx p c x next s t u v h k = rw (k 0 (omega arith)) refl
at_alike cb p c x next s t u v h k = rw (k 0 (omega arith)) refl
at_alike cw p c x next s t u v h k = cc (k 0 (omega arith), k 1 (omega arith))
at_alike ptr p c x next s t u v h k = cc (k 0 (omega arith), k 1 (omega arith), k 2 (omega arith), k 3 (omega arith))
at_alike nil p c x next s t u v h k = refl

front_alike : (k : ℕ) (t u : List ℕ) → k ≤ length t → Alike k t (t ++ u)
front_alike k t u l i h = sym (get_or-append t u 0 i (omega arith))

rest_alike : (m k : ℕ) (t u : List ℕ) → m + k ≤ length t → Alike k (drop m t) (drop m (t ++ u))
rest_alike m k t u l i h = simp get_or-drop (sym (get_or-append t u 0 (m + i) (omega arith)))

instruction_stays : (off p c x : ℕ) (t u : List ℕ) (f : Form) → tail_length f x ≤ length t
    → instruction_of off p f c x t ≡ instruction_of off p f c x (t ++ u)
instruction_stays off p c x t u f h =
    let next = off + (head_length p f + tail_length f x) in
    let m = memory_length f x in
    cc (
      at_alike f.first p c x next t (t ++ u) (drop m t) (drop m (t ++ u)) (front_alike _ t u (omega arith)) (rest_alike m _ t u (omega arith)),
      at_alike f.second p c x next t (t ++ u) (drop m t) (drop m (t ++ u)) (front_alike _ t u (omega arith)) (rest_alike m _ t u (omega arith)),
    )

-- ---- an instruction and refusal 10 stay when bytes are added
-- r, what is read of some bytes, decides r', what is read of them and more
pub record Stays (r r' : Read) : Type 0 where
  pub whole : (m : Instruction) (n : ℕ) → r ≡ Ok (m, n) → r' ≡ Ok (m, n)
  pub nothing : r ≡ Err NotAnInstruction → r' ≡ Err NotAnInstruction

unchanged : (r : Read) → Stays r r
unchanged r = record { whole = λ m n e. e; nothing = λ e. e }

open_end : (r : Read) → Stays (Err NotComplete) r
open_end r = record { whole = λ m n e. absurd (more_not_whole e); nothing = λ e. absurd (nothing_not_more (sym e)) }

stays_pick : (b : Bool) {r s r' s' : Read} → Stays r r' → Stays s s' → Stays (pick b r s) (pick b r' s')
stays_pick true h k = h
stays_pick false h k = k

form_stays : (off p c x : ℕ) (t u : List ℕ) (f : Form) → Stays (read_form off p c x t f) (read_form off p c x (t ++ u) f)
unfolding read_form
form_stays off p c x t u f = stays_pick (either (eqb p 0) (names_memory f x)) (go (leb (tail_length f x) (length t)) refl) (unchanged (Err NotAnInstruction))
  where
    n : ℕ
    n = head_length p f + tail_length f x

    go : (b : Bool) → leb (tail_length f x) (length t) ≡ b
        → Stays (pick b (Ok (instruction_of off p f c x t, n)) (Err NotComplete))
        (pick (leb (tail_length f x) (length (t ++ u))) (Ok (instruction_of off p f c x (t ++ u), n)) (Err NotComplete))
    go true e =
        let h : tail_length f x ≤ length t = leb-true _ _ e in
        let l : tail_length f x ≤ length (t ++ u) = omega (arith, length-append t u) in
        rw (le-leb (tail_length f x) (length (t ++ u)) l, ← (instruction_stays off p c x t u f h)) (unchanged _)
    go false e = open_end _

first_stays : (off p c x : ℕ) (t u : List ℕ) (fs : List Form) → Stays (read_first off p c x t fs) (read_first off p c x (t ++ u) fs)
first_stays off p c x t u [] = unchanged (Err NotAnInstruction)
first_stays off p c x t u (f ∷ fs) = form_stays off p c x t u f

second_stays : (off p c : ℕ) (fs : List Form) (t u : List ℕ) → Stays (read_second off p c fs t) (read_second off p c fs (t ++ u))
second_stays off p c fs [] u = open_end _
second_stays off p c fs (x ∷ t) u = first_stays off p c x t u (fitting x fs)

opcode_stays : (off p : ℕ) (s u : List ℕ) → Stays (read_opcode off p s) (read_opcode off p (s ++ u))
opcode_stays off p [] u = open_end _
opcode_stays off p (c ∷ t) u =
    let fs = starting_with c in
    stays_pick (some (λ f. either (eqb p 0) (may_name_memory f)) fs)
    (stays_pick (some (λ f. has_second f.extension) fs) (second_stays off p c fs t u) (first_stays off p c 0 t u fs))
    (unchanged (Err NotAnInstruction))

plain_stays : (off : ℕ) (s u : List ℕ) → Stays (read_plain off s) (read_plain off (s ++ u))
unfolding read_plain
plain_stays off [] u = open_end _
plain_stays off (b ∷ s) u = stays_pick (prefix b) (opcode_stays off b s u) (opcode_stays off 0 (b ∷ s) u)

-- F2 or F3 alone: the one string where the byte behind it is looked at
abbrev pub is_repeat_alone : List ℕ → Bool
is_repeat_alone [] = false
is_repeat_alone (b ∷ []) = is_repeat b
is_repeat_alone (b ∷ c ∷ s) = false

same_repeats : (s u : List ℕ) → is_repeat_alone s ≡ false → 1 ≤ length s → repeats (s ++ u) ≡ repeats s
unfolding repeats
same_repeats [] u e l = absurd (omega arith)
same_repeats (b ∷ []) u e l = rw e refl
same_repeats (b ∷ c ∷ s) u e l = refl

behind_stays : (b : ℕ) (r r' : Read) → Stays r r' → Stays (behind_repeat b r) (behind_repeat b r')
behind_stays b (Ok (m, n)) r' h = rw (h.whole m n refl) (unchanged _)
behind_stays b (Err NotAnInstruction) r' h = rw (h.nothing refl) (unchanged _)
behind_stays b (Err NotComplete) r' h = open_end _

-- adding bytes changes neither answer, but of F2 or F3 alone
pub stays : (off : ℕ) (s u : List ℕ) → is_repeat_alone s ≡ false → Stays (reads off s) (reads off (s ++ u))
unfolding reads
stays off [] u e = open_end _
stays off (b ∷ s) u e =
    rw (same_repeats (b ∷ s) u e (omega arith)) (stays_pick (repeats (b ∷ s)) (behind_stays b _ _ (plain_stays off s u)) (plain_stays off (b ∷ s) u))

-- ---- what is not complete has a continuation
-- g reads some bytes t
abbrev Some : (List ℕ → Read) → Type 0
Some g = (t : List ℕ) × Bytes t × (m : Instruction) × (n : ℕ) × (g t ≡ Ok (m, n))

-- lists of bytes
pub no_bytes : Bytes []
no_bytes i = omega arith

pub one_more : (b : ℕ) (s : List ℕ) → b < 256 → Bytes s → Bytes (b ∷ s)
one_more b s h k zero = h
one_more b s h k (suc i) = k i

zeros : (n : ℕ) → Bytes (replicate n 0)
zeros zero = no_bytes
zeros (suc n) = one_more 0 (replicate n 0) (omega arith) (zeros n)

pick_more : (b : Bool) (r : Read) → pick b r (Err NotAnInstruction) ≡ Err NotComplete → (b ≡ true) × (r ≡ Err NotComplete)
pick_more true r e = (refl, e)
pick_more false r e = absurd (nothing_not_more e)

-- where a form may stand, enough zeros complete it
form_some : (off p c x : ℕ) (t : List ℕ) (f : Form) → either (eqb p 0) (names_memory f x) ≡ true → Some (λ u. read_form off p c x (t ++ u) f)
unfolding read_form
form_some off p c x t f e =
    let n = tail_length f x in
    let l : n ≤ length (t ++ replicate n 0) = omega (arith, length-append t (replicate n 0), length-replicate {A = ℕ} n 0) in
    (replicate n 0, zeros n, instruction_of off p f c x (t ++ replicate n 0), head_length p f + n, rw (e, le-leb n (length (t ++ replicate n 0)) l) refl)

first_some : (off p c x : ℕ) (t : List ℕ) (fs : List Form) → read_first off p c x t fs ≡ Err NotComplete → Some (λ u. read_first off p c x (t ++ u) fs)
unfolding read_form
first_some off p c x t [] e = absurd (nothing_not_more e)
first_some off p c x t (f ∷ fs) e = form_some off p c x t f (pick_more (either (eqb p 0) (names_memory f x)) _ e).0

-- a second byte that a form has, and with it the form names memory where it may
abbrev second_of : Extension → ℕ
second_of F.no = 0
second_of F.+r = 0
second_of F.+s = 0
second_of F./r = 0
second_of (F./ n) = 8 * n
second_of F.0A = 0x0A

abbrev goes_on : ℕ → Form → Bool
goes_on x f = both (ltb x 256) (both (fits x f) (same (names_memory f x) (may_name_memory f)))

all_go_on : T (each_of (λ f. goes_on (second_of f.extension) f) forms)
unfolding forms
all_go_on = tt

goes_on_lem : {f : Form} → Memᴰ f forms
    → (second_of f.extension < 256) × (fits (second_of f.extension) f ≡ true) × (names_memory f (second_of f.extension) ≡ may_name_memory f)
goes_on_lem {f} m =
    let x = second_of f.extension in
    let agrees = same (names_memory f x) (may_name_memory f) in
    let (h, t) = both_parts (ltb x 256) (both (fits x f) agrees) (each_at (λ f. goes_on (second_of f.extension) f) forms all_go_on m) in
    let (k, l) = both_parts (fits x f) agrees t in
    (ltb→lt x 256 h, is_true (fits x f) k, same_is (names_memory f x) (may_name_memory f) l)

with_second : (off p c x : ℕ) (f : Form) (fs : List Form) → fits x f ≡ true → x < 256 → Some (λ u. read_form off p c x u f)
    → Some (λ u. read_second off p c (f ∷ fs) u)
with_second off p c x f fs ok h (u, bs, m, k, w) = (x ∷ u, one_more x u h bs, m, k, rw ok w)

-- so a first byte that wants a second one has one to go on with: its first form's
next_byte : (off p c : ℕ) (fs : List Form) → ((f : Form) → Memᴰ f fs → Memᴰ f forms)
    → ((f : Form) → Memᴰ f fs → may_name_memory f ≡ some may_name_memory fs) → some (λ f. either (eqb p 0) (may_name_memory f)) fs ≡ true
    → Some (λ u. read_second off p c fs u)
next_byte off p c [] among agrees e = let z : ◌≡◌ {A = ℕ} 0 1 = cc in absurd (omega arith)
next_byte off p c (f ∷ fs) among agrees e =
    let x : ℕ = second_of f.extension in
    let here : Memᴰ f (f ∷ fs) = mathlib.Core.List.Memᴰ.head refl in
    let (h, ok, n) = goes_on_lem (among f here) in
    with_second off p c x f fs ok h (form_some off p c x [] f (allowed (eqb p 0) (names_memory f x) (n ∙ agrees f here) e))
  where
    allowed : (b d : Bool) → d ≡ some may_name_memory (f ∷ fs) → some (λ f. either b (may_name_memory f)) (f ∷ fs) ≡ true → either b d ≡ true
    allowed true d q e = refl
    allowed false d q e = q ∙ e

second_some : (off p c : ℕ) (t : List ℕ) → c < 256 → some (λ f. either (eqb p 0) (may_name_memory f)) (starting_with c) ≡ true
    → read_second off p c (starting_with c) t ≡ Err NotComplete → Some (λ u. read_second off p c (starting_with c) (t ++ u))
second_some off p c [] h o e = next_byte off p c (starting_with c) (λ f m. in_forms c m) (λ f m. memory_agrees c h m) o
second_some off p c (x ∷ t) h o e = first_some off p c x t (fitting x (starting_with c)) e

abbrev xlatb : Form
xlatb = form 0xD7 F.no Op.XLATB xlat nil

-- XLATB reads, with a prefix and without
xlat_reads : (off p : ℕ) → Some (λ u. read_opcode off p u)
unfolding starting_with forms read_form
xlat_reads off p = go (eqb p 0) refl
  where
    go : (b : Bool) → eqb p 0 ≡ b → Some (λ u. read_opcode off p u)
    go true e = (0xD7 ∷ [], one_more 0xD7 [] (omega arith) no_bytes, instruction_of off p xlatb 0xD7 0 [], 1, rw e refl)
    go false e = (0xD7 ∷ [], one_more 0xD7 [] (omega arith) no_bytes, instruction_of off p xlatb 0xD7 0 [], 2, rw e refl)

opcode_some : (off p : ℕ) (s : List ℕ) → Bytes s → read_opcode off p s ≡ Err NotComplete → Some (λ u. read_opcode off p (s ++ u))
opcode_some off p [] bs e = xlat_reads off p
opcode_some off p (c ∷ t) bs e =
    let (o, r) = pick_more (some (λ f. either (eqb p 0) (may_name_memory f)) fs) _ e in
    go (some (λ f. either (eqb p 0) (may_name_memory f)) fs) (some (λ f. has_second f.extension) fs) o o r
  where
    fs : List Form
    fs = starting_with c

    go : (d b : Bool) → d ≡ true → some (λ f. either (eqb p 0) (may_name_memory f)) fs ≡ true
        → pick b (read_second off p c fs t) (read_first off p c 0 t fs) ≡ Err NotComplete
        → Some (λ u. pick d (pick b (read_second off p c fs (t ++ u)) (read_first off p c 0 (t ++ u) fs)) (Err NotAnInstruction))
    go true true q o e = second_some off p c t (bs 0) o e
    go true false q o e = first_some off p c 0 t fs e
    go false b q o e = let z : ◌≡◌ {A = ℕ} 0 1 = cc in absurd (omega arith)

-- ---- the two questions
-- some continuation makes s read
abbrev pub Continues : ℕ → List ℕ → Type 0
Continues off s = (t : List ℕ) × Bytes t × (m : Instruction) × (n : ℕ) × (reads off (s ++ t) ≡ Ok (m, n))

-- what stands behind an instruction is not looked at, but behind F2 or F3 alone
pub whole_stays : (off : ℕ) (s t : List ℕ) (m : Instruction) (n : ℕ) → is_repeat_alone s ≡ false → reads off s ≡ Ok (m, n) → reads off (s ++ t) ≡ Ok (m, n)
whole_stays off s t m n h e = (stays off s t h).whole m n e

-- F2 or F3 alone is whole
pub alone_whole : (off : ℕ) (s : List ℕ) → is_repeat_alone s ≡ true → (m : Instruction) × (reads off s ≡ Ok (m, 1))
unfolding reads repeats
alone_whole off [] e = let z : ◌≡◌ {A = ℕ} 0 1 = cc in absurd (omega arith)
alone_whole off (b ∷ []) e = let (op, k) = alone off b [] e in (bare op, rw e k)
alone_whole off (b ∷ c ∷ s) e = let z : ◌≡◌ {A = ℕ} 0 1 = cc in absurd (omega arith)

-- so what is no instruction is not it
not_alone : (off : ℕ) (s : List ℕ) → ((m : Instruction) (n : ℕ) → reads off s ≡ Ok (m, n) → ⊥) → is_repeat_alone s ≡ false
not_alone off s h = go (is_repeat_alone s) refl
  where
    go : (i : Bool) → is_repeat_alone s ≡ i → i ≡ false
    go true e = let (m, k) = alone_whole off s e in absurd (h m 1 k)
    go false e = refl

-- what reads as nothing does so whatever follows
pub nothing_never : (off : ℕ) (s t : List ℕ) → reads off s ≡ Err NotAnInstruction → reads off (s ++ t) ≡ Err NotAnInstruction
nothing_never off s t e = (stays off s t (not_alone off s (λ m n k. nothing_not_whole (sym e ∙ k)))).nothing e

nothing_yet : (off : ℕ) → Continues off []
unfolding reads read_plain repeats is_repeat read_form starting_with prefix forms canonical number_of
nothing_yet off = (0x90 ∷ [], one_more 0x90 [] (omega arith) no_bytes, instruction Op.NOP S.Unspecified O.None O.None, 1, refl)

plain_some : (off : ℕ) (s : List ℕ) → Bytes s → 1 ≤ length s → read_plain off s ≡ Err NotComplete → Some (λ u. read_plain off (s ++ u))
unfolding read_plain
plain_some off [] bs l e = absurd (omega arith)
plain_some off (b ∷ s) bs l e = go (prefix b) e
  where
    go : (q : Bool) → pick q (read_opcode off b s) (read_opcode off 0 (b ∷ s)) ≡ Err NotComplete
        → Some (λ u. pick q (read_opcode off b (s ++ u)) (read_opcode off 0 (b ∷ (s ++ u))))
    go true e = opcode_some off b s (λ i. bs (suc i)) e
    go false e = opcode_some off 0 (b ∷ s) bs e

-- what is not complete has a continuation that is
pub more_some : (off : ℕ) (s : List ℕ) → Bytes s → reads off s ≡ Err NotComplete → Continues off s
more_some off [] bs e = nothing_yet off
more_some off (b ∷ s) bs e = go (how_read off (b ∷ s))
  where
    n : is_repeat_alone (b ∷ s) ≡ false
    n = not_alone off (b ∷ s) (λ m n k. more_not_whole (sym e ∙ k))

    go : HowRead off (b ∷ s) → Continues off (b ∷ s)
    go (with_repeat r) = absurd (more_not_whole (sym e ∙ r.reads_it))
    go (without h q) =
        let (u, us, m, k, w) = plain_some off (b ∷ s) bs (omega arith) (sym q ∙ e) in
        (u, us, m, k, plain off ((b ∷ s) ++ u) (same_repeats (b ∷ s) u n (omega arith) ∙ h) ∙ w)

-- the three answers
pub data Answer (off : ℕ) (s : List ℕ) : Type 0 where
  is_whole : (m : Instruction) (n : ℕ) → reads off s ≡ Ok (m, n) → Answer off s
  is_nothing : reads off s ≡ Err NotAnInstruction → Answer off s
  is_more : reads off s ≡ Err NotComplete → Answer off s

-- every string has one of them
pub answer : (off : ℕ) (s : List ℕ) → Answer off s
answer off s = go (reads off s) refl
  where
    go : (r : Read) → reads off s ≡ r → Answer off s
    go (Ok (m, n)) e = is_whole m n e
    go (Err NotAnInstruction) e = is_nothing e
    go (Err NotComplete) e = is_more e

-- what documents 01 and 02 (No. 11) say of the answers: 10 exactly where no continuation reads, 11 exactly where a continuation reads and s does not;
-- behind F2 or F3 alone, and nowhere else, the next byte is looked at
pub record Answers (off : ℕ) (s : List ℕ) : Type 0 where
  pub behind : (t : List ℕ) (m : Instruction) (n : ℕ) → is_repeat_alone s ≡ false → reads off s ≡ Ok (m, n) → reads off (s ++ t) ≡ Ok (m, n)
  pub fits_in : (m : Instruction) (n : ℕ) → reads off s ≡ Ok (m, n) → n ≤ length s
  pub ten : reads off s ≡ Err NotAnInstruction → Continues off s → ⊥
  pub ten_only : (Continues off s → ⊥) → reads off s ≡ Err NotAnInstruction
  pub eleven : reads off s ≡ Err NotComplete → ((m : Instruction) (n : ℕ) → reads off s ≡ Ok (m, n) → ⊥) × Continues off s
  pub eleven_only : ((m : Instruction) (n : ℕ) → reads off s ≡ Ok (m, n) → ⊥) → Continues off s → reads off s ≡ Err NotComplete

never : (off : ℕ) (s : List ℕ) → reads off s ≡ Err NotAnInstruction → Continues off s → ⊥
never off s e (t, bs, m, n, w) = nothing_not_whole (sym (nothing_never off s t e) ∙ w)

-- s continued by no bytes is s
itself : (off : ℕ) (s : List ℕ) (m : Instruction) (n : ℕ) → reads off s ≡ Ok (m, n) → Continues off s
itself off s m n e = ([], no_bytes, m, n, rw (append-nil s) e)

-- and so it is
pub answers : (off : ℕ) (s : List ℕ) → Bytes s → Answers off s
answers off s bs =
    record {
      behind = λ t m n h e. whole_stays off s t m n h e;
      fits_in = not_longer off s;
      ten = never off s;
      ten_only = only_ten (answer off s);
      eleven = λ e. (λ m n w. more_not_whole (sym e ∙ w), more_some off s bs e);
      eleven_only = only_eleven (answer off s);
    }
  where
    only_ten : Answer off s → (Continues off s → ⊥) → reads off s ≡ Err NotAnInstruction
    only_ten (is_whole m n e) h = absurd (h (itself off s m n e))
    only_ten (is_nothing e) h = e
    only_ten (is_more e) h = absurd (h (more_some off s bs e))

    only_eleven : Answer off s → ((m : Instruction) (n : ℕ) → reads off s ≡ Ok (m, n) → ⊥) → Continues off s → reads off s ≡ Err NotComplete
    only_eleven (is_whole m n e) h k = absurd (h m n e)
    only_eleven (is_nothing e) h k = absurd (never off s e k)
    only_eleven (is_more e) h k = e
