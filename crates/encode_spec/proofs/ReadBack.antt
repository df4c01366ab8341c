-- The bytes of a form with its operands read back as that form with what its slots hold.
-- Assumes nothing.
use Rattle.std.specs.Prelude.{Ok}
use mathlib.Core.Path.{◌≡◌, refl, sym, ◌∙◌, ap, subst}
use Prim.Native.Nat.{ℕ, zero, suc, ◌+◌, ◌/◌, ◌≤◌, ◌<◌}
use native.Mathlib.Omega.{arith}
use mathlib.Core.Bool.{Bool, true, false}
use mathlib.Core.List.{List, [], ◌∷◌, ◌++◌, Memᴰ}
use lib.Dec.{T, eqb, ltb, ltb→lt, eqb-suc-zero}
use lib.ListN.{length, drop, length-append, get_or-append}
use lib.Seq.{drop_at}
use borrow.Author.Tests.{eqb-true, le-leb}
use Rattle.mrc_compiler.specs.declared.encoder.OperandData.{OperandData}
use Rattle.mrc_compiler.specs.Choose.{pick, both, either, isnt}
use Rattle.mrc_compiler.specs.Operations.{number_of, is_string}
use Rattle.x86.specs.declared.Instruction.{Instruction}
use Rattle.x86.specs.declared.Operand.{Operand}
use Rattle.x86.specs.Instructions.{canonical, repeated}
use Rattle.x86.specs.Forms.{Extension, Form, forms}
use Rattle.x86.specs.Forms as F
use Rattle.x86.specs.Reading.{Place, nowhere, by_modrm, by_address, by_bx_al, about, width_of, has_second, head_length, memory_length, tail_length, address_length, in_memory, somewhere, names_memory, may_name_memory, at, starting_with, read_form, prefix, read_plain, is_repeat, begins_string, repeats, reads}
use Rattle.x86.specs.Listing.{Bytes}
use Rattle.x86.proofs.Tests.{both_left, both_right, each_of, each_at}
use Rattle.x86.proofs.Repeats.{repeat_byte, whole_plain}
use Rattle.x86.proofs.Sizes.{read_size}
use Rattle.x86.proofs.Unambiguous.{all_bytes, digit_ok}
use Rattle.encode_spec.specs.WellFormed.{is_prefix}
use Rattle.encode_spec.specs.Layout.{Part, prefix_bytes, part, second, layout}
use Rattle.encode_spec.proofs.Front.{some-true, second_bytes, Begins, among, front}
use Rattle.encode_spec.proofs.Values.{no_byte, bytes_cons, bytes_append}
use Rattle.encode_spec.proofs.Slots.{field, place_of, laid, holding, ByField, by_field, holds, Given, bounded, Alike, Found, found}
use Rattle.encode_spec.proofs.Arrangements.{Arranged, first_byte, second_byte, modrm_byte, past_it, Placed, placed}

-- bs reads, to the last byte and without a repeat, as the instruction m
pub record ReadsPlain (off : ℕ) (m : Instruction) (bs : List ℕ) : Type 0 where
  pub reads_it : read_plain off bs ≡ Ok (m, length bs)
  pub are_bytes : Bytes bs

-- bs reads, to the last byte, as the instruction m, and is a string that the listing speaks of
pub record Reads (off : ℕ) (m : Instruction) (bs : List ℕ) : Type 0 where
  pub reads_it : reads off bs ≡ Ok (m, length bs)
  pub some : 1 ≤ length bs
  pub short : length bs ≤ 7
  pub are_bytes : Bytes bs

read_whole : (off : ℕ) (m : Instruction) (bs : List ℕ) → reads off bs ≡ Ok (m, length bs) → Bytes bs → Reads off m bs
read_whole off m bs e h = let n = read_size off bs m (length bs) e in record { reads_it = e; some = n.0; short = n.1; are_bytes = h }

-- without a repeat
pub plain_reads : (off : ℕ) (m : Instruction) (bs : List ℕ) → ReadsPlain off m bs → Reads off m bs
plain_reads off m bs r = read_whole off m bs (whole_plain off bs m r.reads_it) r.are_bytes

-- and with one, before a string operation
pub repeated_reads : (off b : ℕ) (m : Instruction) (bs : List ℕ) → is_repeat b ≡ true → begins_string bs ≡ true → ReadsPlain off m bs
    → Reads off (repeated b m) (b ∷ bs)
unfolding reads repeats
repeated_reads off b m bs e k r =
    read_whole off (repeated b m) (b ∷ bs) (rw (e, k, r.reads_it) refl) (bytes_cons b bs (repeat_byte b e) r.are_bytes)

-- bs begins with a prefix or none, and the first and second byte of the form f
pub record Begun (f : Form) (bs : List ℕ) : Type 0 where
  pub p : ℕ
  pub c : ℕ
  pub x : ℕ
  pub rest : List ℕ
  pub in_order : bs ≡ prefix_bytes p ++ (c ∷ (second_bytes f.extension x ++ rest))
  pub begins : Begins p c x f
  pub prefixed : is_prefix p ≡ true

-- ---- a string operation is read off its first byte
-- it names no memory, so it has no prefix
abbrev without_memory : Form → Bool
without_memory f = pick (is_string f.operation) (isnt (may_name_memory f)) true

string_forms : T (each_of without_memory forms)
unfolding forms is_string number_of
string_forms = tt

no_prefix_before : (f : Form) (p c x : ℕ) → is_string f.operation ≡ true → Begins p c x f → eqb p 0 ≡ true
no_prefix_before f p c x k b =
    let t : T (isnt (may_name_memory f)) = rw k at (each_at without_memory forms string_forms b.listed) in
    go (eqb p 0) (may_name_memory f) t b.memory
  where
    go : (i m : Bool) → T (isnt m) → either i m ≡ true → i ≡ true
    go true m t e = refl
    go false true t e = absurd t
    go false false t e = e

pub string_in_order : (f : Form) (bs : List ℕ) → is_string f.operation ≡ true → (b : Begun f bs) → bs ≡ b.c ∷ (second_bytes f.extension b.x ++ b.rest)
string_in_order f bs k b = rw (no_prefix_before f b.p b.c b.x k b.begins) at b.in_order

pub string_begun : (f : Form) (bs : List ℕ) → is_string f.operation ≡ true → Begun f bs → begins_string bs ≡ true
string_begun f bs k b =
    rw (string_in_order f bs k b)
    (some-true (λ f. is_string f.operation) (starting_with b.c) {f = f} k (among 0 b.p b.c b.x [] f b.begins))

-- ---- of every form's slots one at most takes immediate bytes
abbrev one_immediate : Form → Bool
one_immediate f = either (eqb (about f.first).takes 0) (eqb (about f.second).takes 0)

one_immediate_lem : T (each_of one_immediate forms)
unfolding forms
one_immediate_lem = tt

-- ---- bytes in front
prefix_length : (p : ℕ) → length (prefix_bytes p) ≡ pick (eqb p 0) 0 1
prefix_length p = go (eqb p 0)
  where
    go : (b : Bool) → length (pick b [] (p ∷ [])) ≡ pick b 0 1
    go true = refl
    go false = refl

second_length : (e : Extension) (x : ℕ) → suc (length (second_bytes e x)) ≡ pick (has_second e) 2 1
second_length e x = go (has_second e)
  where
    go : (b : Bool) → suc (length (pick b (x ∷ []) [])) ≡ pick b 2 1
    go true = refl
    go false = refl

-- the layout's second byte
second_is : (e : Extension) (m : ℕ) → second e m ≡ second_bytes e (second_byte e m)
second_is F.no m = refl
second_is F.+r m = refl
second_is F.+s m = refl
second_is F./r m = refl
second_is (F./ n) m = refl
second_is F.0A m = refl

-- where there is none it counts as 0
no_second : (e : Extension) (m : ℕ) → has_second e ≡ false → second_byte e m ≡ 0
no_second F.no m h = refl
no_second F.+r m h = refl
no_second F.+s m h = refl
no_second F./r m h = absurd (subst T h tt)
no_second (F./ n) m h = absurd (subst T h tt)
no_second F.0A m h = absurd (subst T h tt)

-- a prefix is a byte
prefix_byte : (p : ℕ) → is_prefix p ≡ true → p < 256
unfolding prefix
prefix_byte p e = go (eqb p 0) (eqb p 0x26) (eqb p 0x2E) (eqb p 0x36) (eqb p 0x3E) refl refl refl refl refl e
  where
    go : (h i j k l : Bool) → eqb p 0 ≡ h → eqb p 0x26 ≡ i → eqb p 0x2E ≡ j → eqb p 0x36 ≡ k → eqb p 0x3E ≡ l
        → either h (either i (either j (either k l))) ≡ true → p < 256
    go true i j k l a b c d f e = omega (arith, eqb-true p 0 a)
    go false true j k l a b c d f e = omega (arith, eqb-true p 0x26 b)
    go false false true k l a b c d f e = omega (arith, eqb-true p 0x2E c)
    go false false false true l a b c d f e = omega (arith, eqb-true p 0x36 d)
    go false false false false true a b c d f e = omega (arith, eqb-true p 0x3E f)
    go false false false false false a b c d f e = let z : ◌≡◌ {A = ℕ} 0 1 = cc in absurd (omega arith)

pick_bytes : (b : Bool) (s t : List ℕ) → Bytes s → Bytes t → Bytes (pick b s t)
pick_bytes true s t h l = h
pick_bytes false s t h l = l

-- and so is all in front
head_bytes : (p c x : ℕ) (e : Extension) (t : List ℕ) → p < 256 → c < 256 → x < 256 → Bytes t → Bytes (prefix_bytes p ++ (c ∷ (second_bytes e x ++ t)))
head_bytes p c x e t hp hc hx h =
    bytes_append (prefix_bytes p) (c ∷ (second_bytes e x ++ t))
    (pick_bytes (eqb p 0) [] (p ∷ []) no_byte (bytes_cons p [] hp no_byte))
    (bytes_cons c (second_bytes e x ++ t) hc
    (bytes_append (second_bytes e x) t (pick_bytes (has_second e) (x ∷ []) [] (bytes_cons x [] hx no_byte) no_byte) h))

-- a form that names memory may name it
in_somewhere : (P : Place) (x : ℕ) → in_memory P x ≡ true → somewhere P ≡ true
in_somewhere nowhere x e = e
in_somewhere by_modrm x e = refl
in_somewhere by_address x e = refl
in_somewhere by_bx_al x e = refl

may_name : (t : Bool) (P Q : Place) (x : ℕ) → either t (either (in_memory P x) (in_memory Q x)) ≡ true
    → either t (either (somewhere P) (somewhere Q)) ≡ true
may_name t P Q x e = go t (in_memory P x) (somewhere P) (in_somewhere P x) e
  where
    go : (t a a' : Bool) → (a ≡ true → a' ≡ true) → either t (either a (in_memory Q x)) ≡ true → either t (either a' (somewhere Q)) ≡ true
    go true a a' f e = refl
    go false true a' f e = rw (f refl)
    go false false true f e = refl
    go false false false f e = in_somewhere Q x e

-- ---- the immediate bytes of the second slot, behind those of the first: one of the two has none
second_alike : (i j : ℕ) (s t : List ℕ) → length s ≡ i → T (either (eqb i 0) (eqb j 0)) → Alike j (s ++ t) t
second_alike i j [] t e o k h = refl
second_alike i zero (n ∷ s) t e o k h = absurd (omega arith)
second_alike i (suc j) (n ∷ s) t e o k h = absurd (rw (← e, eqb-suc-zero (length s), eqb-suc-zero j) at o)

-- a form reads what its slots read
whole : (off p c x : ℕ) (f : Form) (t u : List ℕ) (A B : Operand) → either (eqb p 0) (names_memory f x) ≡ true → length t ≡ tail_length f x
    → drop (memory_length f x) t ≡ u
    → at f.first p c x (off + (head_length p f + tail_length f x)) t u ≡ A → at f.second p c x (off + (head_length p f + tail_length f x)) t u ≡ B
    → read_form off p c x t f ≡ Ok (canonical f.operation (width_of f) A B, head_length p f + tail_length f x)
unfolding read_form
whole off p c x f t u A B n l d a b = rw (n, le-leb (tail_length f x) (length t) (omega (arith, l)), d, a, b)

-- ---- a form of the list, with its operands
abbrev pub ArrangedForm : Form → Type 0
ArrangedForm f = Arranged f.extension f.opcode (field f.first) (about f.first).takes (field f.second) (about f.second).takes

-- the bytes by the parts of the two operands
abbrev joined : Extension → ℕ → Part → Part → List ℕ
joined e o p q =
    p.prefix ++ (q.prefix ++ ((o + p.opcode + q.opcode) ∷ (second e (p.modrm + q.modrm) ++ (p.memory ++ (q.memory ++ (p.immediate ++ q.immediate))))))

-- prefix, first byte, second byte and the rest
abbrev string_of_parts : ℕ → ℕ → ℕ → Extension → List ℕ → List ℕ
string_of_parts p c x e t = prefix_bytes p ++ (c ∷ (second_bytes e x ++ t))

module _ (f : Form) (m : Memᴰ f forms) (r : ArrangedForm f) (off : ℕ) (h : off < 65536)
    (a b : OperandData) (ga : Given f.first off a) (gb : Given f.second off b) where
  abbrev c : ℕ
  c = first_byte f.opcode (field f.first) (field f.second) a b

  abbrev x : ℕ
  x = modrm_byte f.extension (field f.first) (field f.second) a b

  -- both operands are in their places
  pl : Placed f.extension f.opcode (field f.first) (about f.first).takes (field f.second) (about f.second).takes off a b c x
  pl =
      let t = each_at (λ f. both (ltb f.opcode 256) (digit_ok f.extension)) forms all_bytes m in
      placed r (ltb→lt _ 256 (both_left (ltb f.opcode 256) (digit_ok f.extension) t)) (both_right (ltb f.opcode 256) (digit_ok f.extension) t) off a b
      (bounded f.first off a ga) (bounded f.second off b gb)

  abbrev ia : List ℕ
  ia = (part f.first off a).immediate

  abbrev ib : List ℕ
  ib = (part f.second off b).immediate

  abbrev t : List ℕ
  t = pl.memory ++ (ia ++ ib)

  abbrev bs : List ℕ
  bs = string_of_parts pl.p c x f.extension t

  -- what the form, with what its slots hold, is
  abbrev held : Instruction
  held = canonical f.operation (width_of f) (holds f.first a) (holds f.second b)

  first_by : ByField f.first off a
  first_by = by_field f.first off a

  second_by : ByField f.second off b
  second_by = by_field f.second off b

  laid_out : layout f off a b ≡ bs
  unfolding layout
  laid_out =
      ap (λ (q : Part). joined f.extension f.opcode q (part f.second off b)) first_by.part_is
      ∙ ap (λ (q : Part). joined f.extension f.opcode (holding ia (laid (field f.first) a)) q) second_by.part_is
      ∙ rw (pl.memory_is (ia ++ ib), second_is f.extension ((laid (field f.first) a).modrm + (laid (field f.second) b).modrm)) (pl.prefix_is _)

  -- lengths
  rest_length : length t ≡ tail_length f x
  rest_length =
      rw (first_by.place_is, second_by.place_is)
      (omega (arith, length-append pl.memory (ia ++ ib), length-append ia ib, pl.names.size, first_by.takes_is, second_by.takes_is))

  all_length : length bs ≡ head_length pl.p f + tail_length f x
  all_length =
      omega (
        arith,
        length-append (prefix_bytes pl.p) (c ∷ (second_bytes f.extension x ++ t)),
        length-append (second_bytes f.extension x) t,
        prefix_length pl.p,
        second_length f.extension x,
        rest_length,
      )

  immediates : drop (memory_length f x) t ≡ ia ++ ib
  immediates = drop_at pl.memory (ia ++ ib) (memory_length f x) (rw (first_by.place_is, second_by.place_is) pl.names.size)

  -- the offset past the instruction
  abbrev past : ℕ
  past =
      past_it off pl.p f.extension (address_length (place_of (field f.first)) x) (address_length (place_of (field f.second)) x)
      (about f.first).takes (about f.second).takes

  past_is : off + (head_length pl.p f + tail_length f x) ≡ past
  past_is = rw (first_by.place_is, second_by.place_is)

  -- each slot holds its operand
  first_found : Found f.first a pl.p c x past t (ia ++ ib)
  first_found =
      found f.first off a h ga pl.p c x past t (ia ++ ib) (pl.first_stands (ia ++ ib))
      (λ i l. get_or-append ia ib 0 i (omega (arith, l, first_by.takes_is)))

  second_found : Found f.second b pl.p c x past t (ia ++ ib)
  second_found =
      found f.second off b h gb pl.p c x past t (ia ++ ib) (pl.second_stands (ia ++ ib))
      (second_alike (about f.first).takes (about f.second).takes ia ib first_by.takes_is (each_at one_immediate forms one_immediate_lem m))

  before_memory : either (eqb pl.p 0) (names_memory f x) ≡ true
  before_memory = rw (first_by.place_is, second_by.place_is) pl.names.before_memory

  begins : Begins pl.p c x f
  begins = record {
    listed = m;
    opcode = rw pl.opcode first_found.opcode;
    second = rw (pl.second, first_found.second) second_found.second;
    c_byte = pl.c_byte;
    x_byte = pl.x_byte;
    memory = may_name (eqb pl.p 0) (about f.first).place (about f.second).place x before_memory;
  }

  read_it : read_plain off bs ≡ Ok (held, length bs)
  read_it =
      front off pl.p c x t f begins pl.names.prefixed (no_second f.extension _)
      ∙ whole off pl.p c x f t (ia ++ ib) (holds f.first a) (holds f.second b) before_memory rest_length immediates
      (ap (λ (n : ℕ). at f.first pl.p c x n t (ia ++ ib)) past_is ∙ first_found.reads)
      (ap (λ (n : ℕ). at f.second pl.p c x n t (ia ++ ib)) past_is ∙ second_found.reads)
      ∙ ap (λ (n : ℕ). Ok (held, n)) (sym all_length)

  bytes_in_order : Bytes bs
  bytes_in_order =
      head_bytes pl.p c x f.extension t (prefix_byte pl.p pl.names.prefixed) pl.c_byte pl.x_byte
      (bytes_append pl.memory (ia ++ ib) pl.names.are_bytes (bytes_append ia ib first_by.are_bytes second_by.are_bytes))

  pub begun : Begun f (layout f off a b)
  begun = record { p = pl.p; c = c; x = x; rest = t; in_order = laid_out; begins = begins; prefixed = pl.names.prefixed }

  -- its first byte is the opcode with what the operands add to it
  pub begun_opcode : begun.c ≡ f.opcode + (part f.first 0 a).opcode + (part f.second 0 b).opcode
  unfolding begun
  begun_opcode =
      rw (ap (λ (q : Part). q.opcode) (by_field f.first 0 a).part_is, ap (λ (q : Part). q.opcode) (by_field f.second 0 b).part_is) refl

  -- the bytes of the form read back
  pub reads_back : ReadsPlain off held (layout f off a b)
  reads_back = subst (ReadsPlain off held) (sym laid_out) (record { reads_it = read_it; are_bytes = bytes_in_order })
