-- The list of forms by itself: no two forms for the same bytes, no first byte that is a prefix, no operation forgotten.
-- Assumes nothing.
use mathlib.Core.Path.{◌≡◌, refl}
use Prim.Native.Nat.{ℕ, ◌≤◌, ◌<◌}
use native.Mathlib.Omega.{arith}
use mathlib.Core.Bool.{Bool, true, false}
use mathlib.Core.List.{List, [], ◌∷◌, Memᴰ}
use lib.Dec.{T, eqb, ltb, leb, leb→le}
use lib.ListN.{length}
use borrow.Author.Tests.{eqb-true, ne_eqb}
use Rattle.mrc_compiler.specs.declared.operations.Operation.{Operation}
use Rattle.mrc_compiler.specs.declared.operations.Operation.TheVariants as Op
use Rattle.mrc_compiler.specs.Choose.{both, either, isnt}
use Rattle.mrc_compiler.specs.Operations.{number_of, same_operation}
use Rattle.x86.specs.Forms.{word, acc, low3, nil, Extension, Form, form, forms}
use Rattle.x86.specs.Forms as F
use Rattle.x86.specs.Instructions.{canonical}
use Rattle.x86.specs.Reading.{some, starting_with, fits, fitting, has_second, may_name_memory, read_form, prefix}
use Rattle.x86.proofs.Tests.{both_left, both_right, same, same_is, up_to, up_to_at, each_of, each_at, keep_shorter}

-- as many forms as the list has
pub how_many : length forms ≡ 228
unfolding forms
how_many = refl

-- a digit below 8
abbrev pub digit_ok : Extension → Bool
digit_ok F.no = true
digit_ok F.+r = true
digit_ok F.+s = true
digit_ok F./r = true
digit_ok (F./ n) = ltb n 8
digit_ok F.0A = true

-- every opcode is a byte, every digit below 8
pub all_bytes : T (each_of (λ f. both (ltb f.opcode 256) (digit_ok f.extension)) forms)
unfolding forms
all_bytes = tt

-- ---- a first byte: its forms fs agree on the second byte and on memory, and at most one fits each second byte
abbrev second_same : List Form → Form → Bool
second_same fs f = same (has_second f.extension) (some (λ f. has_second f.extension) fs)

abbrev memory_same : List Form → Form → Bool
memory_same fs f = same (may_name_memory f) (some may_name_memory fs)

abbrev agree : List Form → Bool
agree fs = each_of (λ f. both (second_same fs f) (memory_same fs f)) fs

abbrev at_most_one : List Form → Bool → Bool
at_most_one fs true = up_to 256 (λ x. leb (length (fitting x fs)) 1)
at_most_one fs false = leb (length fs) 1

abbrev first_ok : ℕ → List Form → Bool
first_ok c fs = both (agree fs) (either (eqb c 0x90) (at_most_one fs (some (λ f. has_second f.extension) fs)))

firsts : T (up_to 256 (λ c. first_ok c (starting_with c)))
unfolding starting_with forms
firsts = tt

first_ok_lem : (c : ℕ) → c < 256 → T (first_ok c (starting_with c))
first_ok_lem c h = up_to_at 256 (λ c. first_ok c (starting_with c)) firsts c h

one_fits : (fs : List Form) (b : Bool) (x : ℕ) → x < 256 → T (at_most_one fs b) → length (fitting x fs) ≤ 1
one_fits fs true x h t = leb→le _ _ (up_to_at 256 (λ x. leb (length (fitting x fs)) 1) t x h)
one_fits fs false x h t = omega (arith, keep_shorter (fits x) fs, leb→le (length fs) 1 t)

-- no two forms for the same first and second byte, but for 90
pub unambiguous : (c x : ℕ) → c < 256 → x < 256 → (c ≡ 0x90 → ⊥) → length (fitting x (starting_with c)) ≤ 1
unambiguous c x hc hx n =
    let fs = starting_with c in
    let b = some (λ f. has_second f.extension) fs in
    let t : T (either (eqb c 0x90) (at_most_one fs b)) = both_right (agree fs) (either (eqb c 0x90) (at_most_one fs b)) (first_ok_lem c hc) in
    one_fits fs b x hx (rw (ne_eqb c 0x90) at t)

-- the two forms of 90
abbrev pub xchg_ax : Form
xchg_ax = form 0x90 F.+r Op.XCHG (acc word) (low3 word)

abbrev pub nop : Form
nop = form 0x90 F.no Op.NOP nil nil

-- there are no others
pub at_90 : starting_with 0x90 ≡ xchg_ax ∷ nop ∷ []
unfolding starting_with forms
at_90 = refl

-- they read as the same instruction
pub same_at_90 : (off p x : ℕ) (t : List ℕ) → read_form off p 0x90 x t xchg_ax ≡ read_form off p 0x90 x t nop
unfolding read_form canonical number_of
same_at_90 off p x t = refl

-- ---- the forms of a first byte agree
agreed : (c : ℕ) → c < 256 → {f : Form} → Memᴰ f (starting_with c) → T (both (second_same (starting_with c) f) (memory_same (starting_with c) f))
agreed c h m =
    let fs = starting_with c in
    each_at (λ f. both (second_same fs f) (memory_same fs f)) fs
    (both_left (agree fs) (either (eqb c 0x90) (at_most_one fs (some (λ f. has_second f.extension) fs))) (first_ok_lem c h)) m

-- on whether there is a second byte
pub second_agrees : (c : ℕ) → c < 256 → {f : Form} → Memᴰ f (starting_with c)
    → has_second f.extension ≡ some (λ f. has_second f.extension) (starting_with c)
second_agrees c h {f} m =
    let fs = starting_with c in
    same_is (has_second f.extension) (some (λ f. has_second f.extension) fs) (both_left (second_same fs f) (memory_same fs f) (agreed c h m))

-- on whether an operand may be memory
pub memory_agrees : (c : ℕ) → c < 256 → {f : Form} → Memᴰ f (starting_with c) → may_name_memory f ≡ some may_name_memory (starting_with c)
memory_agrees c h {f} m =
    let fs = starting_with c in
    same_is (may_name_memory f) (some may_name_memory fs) (both_right (second_same fs f) (memory_same fs f) (agreed c h m))

-- ---- no form begins with a prefix byte
pub no_prefix : (c : ℕ) → prefix c ≡ true → starting_with c ≡ []
unfolding prefix starting_with forms
no_prefix c e = go (eqb c 0x26) (eqb c 0x2E) (eqb c 0x36) (eqb c 0x3E) refl refl refl refl e
  where
    go : (i j k l : Bool) → eqb c 0x26 ≡ i → eqb c 0x2E ≡ j → eqb c 0x36 ≡ k → eqb c 0x3E ≡ l → either i (either j (either k l)) ≡ true → starting_with c ≡ []
    go true j k l a b d f e = rw (eqb-true c 0x26 a) refl
    go false true k l a b d f e = rw (eqb-true c 0x2E b) refl
    go false false true l a b d f e = rw (eqb-true c 0x36 d) refl
    go false false false true a b d f e = rw (eqb-true c 0x3E f) refl
    go false false false false a b d f e = cc

-- ---- every operation has a form but INT1 and ESC
-- some form has the operation
unfoldable pub has : Operation → Bool
has op = some (λ f. same_operation f.operation op) forms

-- just those two have none
pub has_form : (op : Operation) → has op ≡ isnt (either (same_operation op Op.INT1) (same_operation op Op.ESC))
unfolding has forms number_of
has_form Op.MOV = refl
has_form Op.PUSH = refl
has_form Op.POP = refl
has_form Op.XCHG = refl
has_form Op.IN = refl
has_form Op.OUT = refl
has_form Op.XLATB = refl
has_form Op.LEA = refl
has_form Op.LDS = refl
has_form Op.LES = refl
has_form Op.LAHF = refl
has_form Op.SAHF = refl
has_form Op.PUSHF = refl
has_form Op.POPF = refl
has_form Op.ADD = refl
has_form Op.ADC = refl
has_form Op.INC = refl
has_form Op.AAA = refl
has_form Op.DAA = refl
has_form Op.SUB = refl
has_form Op.SBB = refl
has_form Op.DEC = refl
has_form Op.NEG = refl
has_form Op.CMP = refl
has_form Op.AAS = refl
has_form Op.DAS = refl
has_form Op.MUL = refl
has_form Op.IMUL = refl
has_form Op.AAM = refl
has_form Op.DIV = refl
has_form Op.IDIV = refl
has_form Op.AAD = refl
has_form Op.CBW = refl
has_form Op.CWD = refl
has_form Op.NOT = refl
has_form Op.SHL = refl
has_form Op.SHR = refl
has_form Op.SAR = refl
has_form Op.ROL = refl
has_form Op.ROR = refl
has_form Op.RCL = refl
has_form Op.RCR = refl
has_form Op.AND = refl
has_form Op.TEST = refl
has_form Op.OR = refl
has_form Op.XOR = refl
has_form Op.REP = refl
has_form Op.REPNE = refl
has_form Op.MOVSB = refl
has_form Op.MOVSW = refl
has_form Op.CMPSB = refl
has_form Op.CMPSW = refl
has_form Op.SCASB = refl
has_form Op.SCASW = refl
has_form Op.LODSB = refl
has_form Op.LODSW = refl
has_form Op.STOSB = refl
has_form Op.STOSW = refl
has_form Op.CALL = refl
has_form Op.JMP = refl
has_form Op.RET = refl
has_form Op.JE = refl
has_form Op.JL = refl
has_form Op.JLE = refl
has_form Op.JB = refl
has_form Op.JBE = refl
has_form Op.JP = refl
has_form Op.JO = refl
has_form Op.JS = refl
has_form Op.JNE = refl
has_form Op.JNL = refl
has_form Op.JNLE = refl
has_form Op.JNB = refl
has_form Op.JNBE = refl
has_form Op.JNP = refl
has_form Op.JNO = refl
has_form Op.JNS = refl
has_form Op.LOOP = refl
has_form Op.LOOPZ = refl
has_form Op.LOOPNZ = refl
has_form Op.JCXZ = refl
has_form Op.INT = refl
has_form Op.INT1 = refl
has_form Op.INT3 = refl
has_form Op.INTO = refl
has_form Op.IRET = refl
has_form Op.CLC = refl
has_form Op.CMC = refl
has_form Op.STC = refl
has_form Op.CLD = refl
has_form Op.STD = refl
has_form Op.CLI = refl
has_form Op.STI = refl
has_form Op.HLT = refl
has_form Op.WAIT = refl
has_form Op.ESC = refl
has_form Op.LOCK = refl
has_form Op.NOP = refl
has_form Op.SALC = refl
