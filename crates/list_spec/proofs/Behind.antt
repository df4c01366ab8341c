-- The bytes behind opcode and second byte are determined by the instruction read.
-- Assumes nothing.
use Rattle.std.specs.Prelude.{Option, Some, None}
use mathlib.Core.Path.{◌≡◌, refl, sym, ◌∙◌, ap}
use Prim.Native.Nat.{ℕ, zero, suc, ◌+◌, ◌%◌, ◌≤◌, ◌<◌, zero-le}
use native.Mathlib.Omega.{arith}
use mathlib.Core.Bool.{Bool, true, false}
use mathlib.Core.Logic.{◌⊎◌, inl, inr, ⊎_elim}
use mathlib.Core.List.{List, [], ◌∷◌, ◌++◌, append-nil, Memᴰ}
use lib.Dec.{T, eqb, eqb→eq, lit≤}
use lib.ListN.{length, drop, length-drop}
use borrow.Author.Tests.{eqb-true}
use Rattle.mrc_compiler.specs.Choose.{pick, both, either, isnt}
use Rattle.x86.specs.declared.Operand.{Operand}
use Rattle.x86.specs.declared.Instruction.{Instruction}
use Rattle.x86.specs.Forms.{Slot, Extension, Form, forms}
use Rattle.x86.specs.Forms as F
use Rattle.x86.specs.Reading.{Place, nowhere, by_modrm, by_address, by_bx_al, about, width_of, displacement_length, mode, low, address_length, has_second, head_length, memory_length, tail_length, in_memory, somewhere, names_memory, displacement_at, at, instruction_of, prefix}
use Rattle.x86.specs.Listing.{Bytes}
use Rattle.x86.proofs.Tests.{both_parts, each_of, each_at}
use Rattle.x86.specs.Operands.{displacement_in, value_in, far_segment_in}
use Rattle.list_spec.specs.Operands.{prefix_in, prefix_of, displacement_of, value_of, far_segment_of}
use Rattle.list_spec.specs.Candidates.{displacement_bytes, second_bytes, tail_bytes}
use Rattle.list_spec.specs.declared.Tail.{Tail}
use Rattle.list_spec.specs.declared.Tail.TheVariants as L
use Rattle.list_spec.proofs.Choices.{either_parts}
use Rattle.list_spec.proofs.ByForm.{second_for, tail_in, joined, tail_number, start_by}
use Rattle.list_spec.proofs.Values.{displacement_back, displacement_small, immediate_bytes, near, address_only, Holds, holds}
use Rattle.list_spec.proofs.Sums.{canonical-sum}

-- ---- what each form of the list has: one slot at most in memory, one at most with immediate bytes, and a near target alone behind its opcode
abbrev by_rm : Place → Bool
by_rm nowhere = false
by_rm by_modrm = true
by_rm by_address = false
by_rm by_bx_al = false

abbrev alone : Form → Slot → Bool
alone f a =
    either (eqb (near (tail_in a)) 0)
    (both (isnt (has_second f.extension))
    (both (eqb (1 + ((about f.first).takes + (about f.second).takes)) (near (tail_in a)))
    (both (isnt (somewhere (about f.first).place)) (isnt (somewhere (about f.second).place)))))

abbrev one_place : Form → Bool
one_place f = either (isnt (somewhere (about f.first).place)) (isnt (somewhere (about f.second).place))

abbrev one_immediate : Form → Bool
one_immediate f = either (eqb (about f.first).takes 0) (eqb (about f.second).takes 0)

abbrev formed : Form → Bool
formed f = both (one_place f) (both (one_immediate f) (both (alone f f.first) (alone f f.second)))

-- memory by ModRM exactly where there is a ModRM byte
abbrev placed_in : Extension → Place → Place → Bool
placed_in F.no a b = both (isnt (by_rm a)) (isnt (by_rm b))
placed_in F.+r a b = both (isnt (by_rm a)) (isnt (by_rm b))
placed_in F.+s a b = both (isnt (by_rm a)) (isnt (by_rm b))
placed_in F./r a b = either (both (by_rm a) (isnt (somewhere b))) (both (isnt (somewhere a)) (by_rm b))
placed_in (F./ n) a b = either (both (by_rm a) (isnt (somewhere b))) (both (isnt (somewhere a)) (by_rm b))
placed_in F.0A a b = both (isnt (somewhere a)) (isnt (somewhere b))

abbrev one_tail : Form → Bool
one_tail f = either (eqb (tail_number (tail_in f.first)) 0) (eqb (tail_number (tail_in f.second)) 0)

abbrev ended : Form → Bool
ended f = both (placed_in f.extension (about f.first).place (about f.second).place) (one_tail f)

all_formed : T (each_of formed forms)
unfolding forms
all_formed = tt

all_ended : T (each_of ended forms)
unfolding forms
all_ended = tt

absent : (l : Place) → T (isnt (somewhere l)) → (x : ℕ) → (address_length l x ≡ 0) × (in_memory l x ≡ false) × (address_only l ≡ 0)
absent nowhere t x = (refl, refl, refl)
absent by_modrm t x = absurd t
absent by_address t x = absurd t
absent by_bx_al t x = absurd t

pick-le : (b : Bool) (m n k : ℕ) → m ≤ k → n ≤ k → pick b m n ≤ k
pick-le true m n k h l = h
pick-le false m n k h l = l

address_le : (a : Place) (x : ℕ) → address_length a x ≤ 2
address_le nowhere x = zero-le
address_le by_modrm x = search (pick-le, lit≤, tt) depth 12
address_le by_address x = lit≤ tt
address_le by_bx_al x = zero-le

one_displacement : (i j : ℕ) (t : List ℕ) → (i ≡ 0) ⊎ (j ≡ 0) → displacement_at i t + displacement_at j t ≡ displacement_at (i + j) t
one_displacement i j t (inl e) = let d : i + j ≡ j = omega arith in rw (d, e) (omega arith)
one_displacement i j t (inr e) = let d : i + j ≡ i = omega arith in rw (d, e) (omega arith)

bytes_drop : (n : ℕ) (s : List ℕ) → Bytes s → Bytes (drop n s)
bytes_drop zero s bs = bs
bytes_drop (suc n) [] bs = bs
bytes_drop (suc n) (a ∷ s) bs = bytes_drop n s (λ i. bs (suc i))

not_memory : (p : ℕ) (a b : Bool) → a ≡ false → b ≡ false → either (eqb p 0) (either a b) ≡ true → p ≡ 0
not_memory p true b d f e = let z : ◌≡◌ {A = ℕ} 0 1 = cc in absurd (omega arith)
not_memory p false true d f e = let z : ◌≡◌ {A = ℕ} 0 1 = cc in absurd (omega arith)
not_memory p false false d f e = eqb-true p 0 (go (eqb p 0) e)
  where
    go : (q : Bool) → either q false ≡ true → q ≡ true
    go true e = refl
    go false e = e

one_prefix : (p : ℕ) (a b : Bool) → (a ≡ false) ⊎ (b ≡ false) → either a b ≡ true → pick a p 0 + pick b p 0 ≡ p
one_prefix p true true (inl n) e = let z : ◌≡◌ {A = ℕ} 0 1 = cc in absurd (omega arith)
one_prefix p true true (inr n) e = let z : ◌≡◌ {A = ℕ} 0 1 = cc in absurd (omega arith)
one_prefix p true false n e = omega arith
one_prefix p false true n e = omega arith
one_prefix p false false n e = let z : ◌≡◌ {A = ℕ} 0 1 = cc in absurd (omega arith)

-- ---- the tail of two slots, of which one has none
is_none : (u : Option Tail) → tail_number u ≡ 0 → u ≡ None
is_none None e = refl
is_none (Some L.Byte) e = absurd (omega arith)
is_none (Some L.Word) e = absurd (omega arith)
is_none (Some L.Near8) e = absurd (omega arith)
is_none (Some L.Near16) e = absurd (omega arith)
is_none (Some L.Far) e = absurd (omega arith)
is_none (Some L.Address) e = absurd (omega arith)

none_right : (t : Option Tail) → joined t None ≡ t
none_right None = refl
none_right (Some L.Byte) = refl
none_right (Some L.Word) = refl
none_right (Some L.Near8) = refl
none_right (Some L.Near16) = refl
none_right (Some L.Far) = refl
none_right (Some L.Address) = refl

two_tails : (off p c x next d v s : ℕ) (t u : List ℕ) (a b : Slot) → T (either (eqb (tail_number (tail_in a)) 0) (eqb (tail_number (tail_in b)) 0))
    → tail_bytes (joined (tail_in a) (tail_in b)) off d v s
    ≡ displacement_bytes (address_only (about a).place + address_only (about b).place) d ++ (immediate_bytes (tail_in a) off v s ++ immediate_bytes (tail_in b) off v s)
two_tails off p c x next d v s t u a b w =
    ⊎_elim
    (λ h.
    let e = eqb→eq (tail_number (tail_in a)) 0 h in
    let n : address_only (about a).place + address_only (about b).place ≡ address_only (about b).place = omega (arith, ha.address e) in
    rw (is_none (tail_in a) e, n) (hb.tail d v s))
    (λ h.
    let e = eqb→eq (tail_number (tail_in b)) 0 h in
    let n : address_only (about a).place + address_only (about b).place ≡ address_only (about a).place = omega (arith, hb.address e) in
    rw (is_none (tail_in b) e, n, none_right (tail_in a), append-nil (immediate_bytes (tail_in a) off v s)) (ha.tail d v s))
    (either_parts (eqb (tail_number (tail_in a)) 0) (eqb (tail_number (tail_in b)) 0) w)
  where
    ha : Holds off p x next t u (at a p c x next t u) (about a).place (about a).takes (tail_in a)
    ha = holds off p x next t u c a

    hb : Holds off p x next t u (at b p c x next t u) (about b).place (about b).takes (tail_in b)
    hb = holds off p x next t u c b

-- what follows the opcode, by extension and places; u stands for the immediate
abbrev Follows : Extension → Place → Place → ℕ → ℕ → List ℕ → Type 0
Follows e a b x d u =
    pick (has_second e) (x ∷ []) [] ++ (displacement_bytes (address_length a x + address_length b x) d ++ u)
    ≡ second_bytes (second_for e x) d ++ (displacement_bytes (address_only a + address_only b) d ++ u)

same_length : (a : Place) (x : ℕ) → T (isnt (by_rm a)) → address_length a x ≡ address_only a
same_length nowhere x t = refl
same_length by_modrm x t = absurd t
same_length by_address x t = refl
same_length by_bx_al x t = refl

no_second : (a b : Place) (x d : ℕ) (u : List ℕ) → T (both (isnt (by_rm a)) (isnt (by_rm b)))
    → displacement_bytes (address_length a x + address_length b x) d ++ u ≡ displacement_bytes (address_only a + address_only b) d ++ u
no_second a b x d u t =
    let (i, j) = both_parts (isnt (by_rm a)) (isnt (by_rm b)) t in
    rw (same_length a x i, same_length b x j) refl

is_rm : (a : Place) → T (by_rm a) → a ≡ by_modrm
is_rm nowhere t = absurd t
is_rm by_modrm t = refl
is_rm by_address t = absurd t
is_rm by_bx_al t = absurd t

rm_alone : (a b : Place) (x : ℕ) → T (by_rm a) → T (isnt (somewhere b))
    → (address_length a x + address_length b x ≡ displacement_length (mode x) (low x)) × (address_only a + address_only b ≡ 0)
rm_alone a b x s t = let (l, _, o) = absent b t x in rw (is_rm a s) (omega arith, omega arith)

with_modrm : (a b : Place) (x d : ℕ) (u : List ℕ) → x < 256 → T (either (both (by_rm a) (isnt (somewhere b))) (both (isnt (somewhere a)) (by_rm b)))
    → x ∷ (displacement_bytes (address_length a x + address_length b x) d ++ u)
    ≡ x % 256 ∷ (displacement_bytes (displacement_length (mode x) (low x)) d ++ (displacement_bytes (address_only a + address_only b) d ++ u))
with_modrm a b x d u h t =
    let (m, n) =
    ⊎_elim (λ z. let (i, j) = both_parts (by_rm a) (isnt (somewhere b)) z in rm_alone a b x i j)
    (λ z. let (i, j) = both_parts (isnt (somewhere a)) (by_rm b) z in let (m, n) = rm_alone b a x j i in (omega arith, omega arith))
    (either_parts (both (by_rm a) (isnt (somewhere b))) (both (isnt (somewhere a)) (by_rm b)) t) in
    let z : x % 256 ≡ x = omega arith in
    rw (m, n, z) refl

fixed : (a b : Place) (x d : ℕ) (u : List ℕ) → x < 256 → T (both (isnt (somewhere a)) (isnt (somewhere b)))
    → x ∷ (displacement_bytes (address_length a x + address_length b x) d ++ u) ≡ x % 256 ∷ (displacement_bytes (address_only a + address_only b) d ++ u)
fixed a b x d u h t =
    let (i, j) = both_parts (isnt (somewhere a)) (isnt (somewhere b)) t in
    let (k, _, m) = absent a i x in
    let (l, _, n) = absent b j x in
    let z : x % 256 ≡ x = omega arith in
    rw (k, l, m, n, z) refl

follows : (e : Extension) (a b : Place) (x d : ℕ) (u : List ℕ) → x < 256 → T (placed_in e a b) → Follows e a b x d u
follows F.no a b x d u h t = no_second a b x d u t
follows F.+r a b x d u h t = no_second a b x d u t
follows F.+s a b x d u h t = no_second a b x d u t
follows F./r a b x d u h t = with_modrm a b x d u h t
follows (F./ n) a b x d u h t = with_modrm a b x d u h t
follows F.0A a b x d u h t = fixed a b x d u h t

module _ (off p c x : ℕ) (t : List ℕ) (f : Form) (listed : Memᴰ f forms) where
  abbrev m : Instruction
  m = instruction_of off p f c x t

  abbrev next : ℕ
  next = off + (head_length p f + tail_length f x)

  abbrev u : List ℕ
  u = drop (memory_length f x) t

  abbrev a : Operand
  a = at f.first p c x next t u

  abbrev b : Operand
  b = at f.second p c x next t u

  ha : Holds off p x next t u a (about f.first).place (about f.first).takes (tail_in f.first)
  ha = holds off p x next t u c f.first

  hb : Holds off p x next t u b (about f.second).place (about f.second).takes (tail_in f.second)
  hb = holds off p x next t u c f.second

  ok : T (one_place f) × T (one_immediate f) × T (alone f f.first) × T (alone f f.second)
  ok =
      let (i, r) = both_parts (one_place f) (both (one_immediate f) (both (alone f f.first) (alone f f.second))) (each_at formed forms all_formed listed) in
      let (j, q) = both_parts (one_immediate f) (both (alone f f.first) (alone f f.second)) r in
      let (k, l) = both_parts (alone f f.first) (alone f f.second) q in
      (i, j, k, l)

  placed : ((y : ℕ) → (address_length (about f.first).place y ≡ 0) × (in_memory (about f.first).place y ≡ false) × (address_only (about f.first).place ≡ 0))
      ⊎ ((y : ℕ) → (address_length (about f.second).place y ≡ 0) × (in_memory (about f.second).place y ≡ false) × (address_only (about f.second).place ≡ 0))
  placed =
      ⊎_elim (λ h. inl (absent (about f.first).place h)) (λ h. inr (absent (about f.second).place h))
      (either_parts (isnt (somewhere (about f.first).place)) (isnt (somewhere (about f.second).place)) ok.0)

  memory_le : memory_length f x ≤ 2
  memory_le =
      ⊎_elim (λ h. omega (arith, (h x).0, address_le (about f.second).place x)) (λ h. omega (arith, (h x).0, address_le (about f.first).place x)) placed

  -- the displacement
  pub displacement_is : Bytes t → displacement_of m ≡ displacement_at (memory_length f x) t
  displacement_is bs =
      let e = canonical-sum displacement_in refl (λ n. refl) f.operation (width_of f) a b in
      let s = one_displacement (address_length (about f.first).place x) (address_length (about f.second).place x) t
      (⊎_elim (λ h. inl (h x).0) (λ h. inr (h x).0) placed) in
      omega (arith, e, ha.displacement, hb.displacement, s, displacement_small (memory_length f x) t memory_le bs)

  -- the prefix, where there is one
  pub prefix_is : prefix p ≡ true → p < 256 → names_memory f x ≡ true → prefix_of m ≡ p
  prefix_is e h n =
      let s = canonical-sum prefix_in refl (λ n. refl) f.operation (width_of f) a b in
      let o = one_prefix p (in_memory (about f.first).place x) (in_memory (about f.second).place x)
      (⊎_elim (λ h. inl (h x).1) (λ h. inr (h x).1) placed) n in
      omega (arith, s, ha.prefixed e, hb.prefixed e, o)

  -- a near target ends the instruction, which has no prefix
  near_next : either (eqb p 0) (names_memory f x) ≡ true → (s : Slot) → T (alone f s) → 0 < near (tail_in s) → next ≡ off + near (tail_in s)
  near_next n s w h = ⊎_elim (λ z. let e = eqb→eq (near (tail_in s)) 0 z in absurd (omega arith)) (λ z. go z) (either_parts (eqb (near (tail_in s)) 0) rest w)
    where
      i : Bool
      i = isnt (has_second f.extension)

      j : Bool
      j = eqb (1 + ((about f.first).takes + (about f.second).takes)) (near (tail_in s))

      k : Bool
      k = isnt (somewhere (about f.first).place)

      l : Bool
      l = isnt (somewhere (about f.second).place)

      rest : Bool
      rest = both i (both j (both k l))

      short : (b : Bool) → T (isnt b) → ◌≡◌ {A = ℕ} (pick b 2 1) 1
      short true t = absurd t
      short false t = refl

      go : T rest → next ≡ off + near (tail_in s)
      go z =
          let (zi, y) = both_parts i (both j (both k l)) z in
          let (zj, q) = both_parts j (both k l) y in
          let (zk, zl) = both_parts k l q in
          let (ea, fa, _) = absent (about f.first).place zk x in
          let (eb, fb, _) = absent (about f.second).place zl x in
          let e0 = not_memory p (in_memory (about f.first).place x) (in_memory (about f.second).place x) fa fb n in
          let e1 : ◌≡◌ {A = ℕ} (pick (eqb p 0) 0 1) 0 = rw e0 refl in
          let e2 = short (has_second f.extension) zi in
          let e3 = eqb→eq (1 + ((about f.first).takes + (about f.second).takes)) (near (tail_in s)) zj in
          omega (arith, e1, e2, e3, ea, eb)

  Immediates : Type 0
  Immediates = u ≡ immediate_bytes (tail_in f.first) off (value_of m) (far_segment_of m) ++ immediate_bytes (tail_in f.second) off (value_of m) (far_segment_of m)

  module _ (h : off < 65536) (bs : Bytes t) (e : length t ≡ tail_length f x) (n : either (eqb p 0) (names_memory f x) ≡ true) where
    bu : Bytes u
    bu = bytes_drop (memory_length f x) t bs

    value_sum : value_in m.first + value_in m.second ≡ value_in a + value_in b
    value_sum = canonical-sum value_in refl (λ n. refl) f.operation (width_of f) a b

    segment_sum : far_segment_in m.first + far_segment_in m.second ≡ far_segment_in a + far_segment_in b
    segment_sum = canonical-sum far_segment_in refl (λ n. refl) f.operation (width_of f) a b

    first_only : (about f.second).takes ≡ 0 → Immediates
    unfolding Immediates
    first_only z =
        let q = hb.quiet z in
        let s = ha.small bu in
        let ev : value_of m ≡ value_in a = omega (arith, value_sum, q.0, s.0) in
        let es : far_segment_of m ≡ far_segment_in a = omega (arith, segment_sum, q.1, s.1) in
        let l : length u ≡ (about f.first).takes = length-drop (memory_length f x) t ∙ omega arith in
        let i = ha.back h bu l (near_next n f.first ok.2) in
        rw (ev, es, q.2 (value_in a) (far_segment_in a)) (i ∙ sym (append-nil (immediate_bytes (tail_in f.first) off (value_in a) (far_segment_in a))))

    second_only : (about f.first).takes ≡ 0 → Immediates
    unfolding Immediates
    second_only z =
        let q = ha.quiet z in
        let s = hb.small bu in
        let ev : value_of m ≡ value_in b = omega (arith, value_sum, q.0, s.0) in
        let es : far_segment_of m ≡ far_segment_in b = omega (arith, segment_sum, q.1, s.1) in
        let l : length u ≡ (about f.second).takes = length-drop (memory_length f x) t ∙ omega arith in
        let i = hb.back h bu l (near_next n f.second ok.3) in
        rw (ev, es, q.2 (value_in b) (far_segment_in b)) i

    -- displacement or address, then the immediate
    behind_is : t ≡ displacement_bytes (memory_length f x) (displacement_of m)
        ++ (immediate_bytes (tail_in f.first) off (value_of m) (far_segment_of m) ++ immediate_bytes (tail_in f.second) off (value_of m) (far_segment_of m))
    unfolding Immediates
    behind_is =
        let d = displacement_back (memory_length f x) t memory_le (omega arith) bs in
        let i = ⊎_elim (λ z. second_only (eqb→eq (about f.first).takes 0 z)) (λ z. first_only (eqb→eq (about f.second).takes 0 z))
        (either_parts (eqb (about f.first).takes 0) (eqb (about f.second).takes 0) ok.1) in
        rw (displacement_is bs) (d ∙ ap (λ (l : List ℕ). displacement_bytes (memory_length f x) (displacement_at (memory_length f x) t) ++ l) i)

    -- so what follows the opcode is what the form's start has
    pub behind_start : x < 256 → pick (has_second f.extension) (x ∷ []) [] ++ t
        ≡ second_bytes (start_by f c x).second (displacement_of m) ++ tail_bytes (start_by f c x).tail off (displacement_of m) (value_of m) (far_segment_of m)
    behind_start k =
        let i = immediate_bytes (tail_in f.first) off (value_of m) (far_segment_of m) ++ immediate_bytes (tail_in f.second) off (value_of m) (far_segment_of m) in
        let (y, z) = both_parts (placed_in f.extension (about f.first).place (about f.second).place) (one_tail f) (each_at ended forms all_ended listed) in
        ap (λ (l : List ℕ). pick (has_second f.extension) (x ∷ []) [] ++ l) behind_is
        ∙ (follows f.extension (about f.first).place (about f.second).place x (displacement_of m) i k y
        ∙ ap (λ (l : List ℕ). second_bytes (start_by f c x).second (displacement_of m) ++ l)
        (sym (two_tails off p c x next (displacement_of m) (value_of m) (far_segment_of m) t u f.first f.second z)))
