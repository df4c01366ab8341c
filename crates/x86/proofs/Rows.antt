-- The table of 256 rows says what the forms say: computed over all first bytes, and the rules that it gives.
-- Assumes nothing.
use mathlib.Core.Path.{◌≡◌, refl, sym, ◌∙◌, ap, subst}
use Prim.Native.Nat.{ℕ, zero, suc, ◌+◌, ◌-◌, ◌≤◌, ◌<◌}
use native.Mathlib.Omega.{arith}
use native.Mathlib.Nat.{not-suc-le-zero, eq-or-lt_of_le, le_of_suc-le-suc}
use mathlib.Core.Bool.{Bool, true, false}
use mathlib.Core.Logic.{⊎_elim}
use mathlib.Core.List.{List, [], ◌∷◌, map, Memᴰ}
use lib.Dec.{eqb, ltb}
use lib.ListN.{length, get_or, take}
use borrow.Author.Tests.{ltb-true, ltb-false, eqb-true, eqb-false}
use Rattle.mrc_compiler.specs.Choose.{pick, both}
use Rattle.x86.specs.Forms.{Slot, rm, rm_near, mem, mem_far, reg, sreg, sreg_not_cs, acc, low3, bits34, bits34_not_cs, cl, dx, one, moffs, xlat, ib, iw, ib_sx, cb, cw, ptr, nil, Extension, Form, forms}
use Rattle.x86.specs.Forms as F
use Rattle.x86.specs.Reading.{digit, about, second_fits, allows_second, fits, fitting, starting_with, at}
use Rattle.x86.specs.Rows.{as_read, Shape, shape_of, rows, shape_at}
use Rattle.x86.proofs.Tests.{both_first, kept, passed}
use Rattle.x86.proofs.Unambiguous.{xchg_ax, nop, at_90}

-- the values of g below n, the last first
abbrev table : {A : Type 0} → ℕ → (ℕ → A) → List A
table zero g = []
table (suc n) g = g n ∷ table n g

table_at : {A : Type 0} (n : ℕ) (g h : ℕ → A) → table n g ≡ table n h → (k : ℕ) → k < n → g k ≡ h k
table_at zero g h e k l = absurd (not-suc-le-zero l)
table_at (suc n) g h e k l = ⊎_elim (λ z. rw z (cc)) (λ l. table_at n g h (cc) k l) (eq-or-lt_of_le (le_of_suc-le-suc l))

-- a list of no forms
abbrev pub empty : List Form → Bool
empty [] = true
empty (f ∷ fs) = false

-- of the two forms of 90 the first; NOP reads as the same instruction
abbrev alone : ℕ → List Form
alone c = pick (eqb c 0x90) (take 1 (starting_with c)) (starting_with c)

-- does a form with this extension have the digit d?
abbrev has_digit : Extension → ℕ → Bool
has_digit F.no d = true
has_digit F.+r d = true
has_digit F.+s d = true
has_digit F./r d = true
has_digit (F./ n) d = eqb d n
has_digit F.0A d = true

-- the shapes of forms at each digit: what row c says where a form has the digit, and each form's own
abbrev shape_said : ℕ → Form → ℕ → Shape
shape_said c f d = pick (has_digit f.extension d) (shape_at c d) (shape_of f)

abbrev shapes_said : ℕ → List Form → List (List Shape)
shapes_said c fs = map (λ f. table 8 (shape_said c f)) fs

abbrev shapes_seen : List Form → List (List Shape)
shapes_seen fs = map (λ f. table 8 (λ d. shape_of f)) fs

-- what row c says of the forms fs: whether there are none, and the shape of each
abbrev said : ℕ → List Form → Bool × List (List Shape)
said c fs = (eqb (get_or rows c 0) 0, shapes_said c fs)

abbrev seen : List Form → Bool × List (List Shape)
seen fs = (empty fs, shapes_seen fs)

-- a row for each first byte
pub how_many_rows : length rows ≡ 256
how_many_rows = refl

-- the test, in two parts, since memory goes with its size
rows_low : table 128 (λ c. said c (alone c)) ≡ table 128 (λ c. seen (alone c))
unfolding shape_at starting_with forms
rows_low = refl

rows_high : table 128 (λ c. said (c + 128) (alone (c + 128))) ≡ table 128 (λ c. seen (alone (c + 128)))
unfolding shape_at starting_with forms
rows_high = refl

row_right : (c : ℕ) → c < 256 → said c (alone c) ≡ seen (alone c)
row_right c h = go (ltb c 128) refl
  where
    go : (b : Bool) → ltb c 128 ≡ b → said c (alone c) ≡ seen (alone c)
    go true e = table_at 128 (λ c. said c (alone c)) (λ c. seen (alone c)) rows_low c (ltb-true c 128 e)
    go false e =
        let l : 128 ≤ c = ltb-false c 128 e in
        let d : (c - 128) + 128 ≡ c = omega arith in
        subst (λ (k : ℕ). said k (alone k) ≡ seen (alone k)) d
        (table_at 128 (λ c. said (c + 128) (alone (c + 128))) (λ c. seen (alone (c + 128))) rows_high (c - 128) (omega arith))

-- row 0 exactly where no form begins
pub row_unused : (c : ℕ) → c < 256 → eqb (get_or rows c 0) 0 ≡ empty (starting_with c)
row_unused c h = ap (λ (r : Bool × List (List Shape)). r.0) (row_right c h) ∙ go (eqb c 0x90) (starting_with c)
  where
    go : (b : Bool) (fs : List Form) → empty (pick b (take 1 fs) fs) ≡ empty fs
    go true [] = refl
    go true (f ∷ fs) = refl
    go false fs = refl

each_shape : (c : ℕ) (fs : List Form) → shapes_said c fs ≡ shapes_seen fs
    → {f : Form} → Memᴰ f fs → (d : ℕ) → d < 8 → has_digit f.extension d ≡ true → shape_of f ≡ shape_at c d
each_shape c [] e m d l h = absurd (mathlib.Core.List.Memᴰ.not-nil m)
each_shape c (g ∷ fs) e {f} m d l h = ⊎_elim (λ z. at_head z) (λ k. each_shape c fs (cc) k d l h) (mathlib.Core.List.Memᴰ.cases_cons m)
  where
    at_head : f ≡ g → shape_of f ≡ shape_at c d
    at_head z =
        let q : has_digit g.extension d ≡ true = rw z at h in
        let r : shape_said c g d ≡ shape_of g = table_at 8 (shape_said c g) (λ d. shape_of g) (cc) d l in
        rw z (sym (rw q at r))

-- each form has its row's shape at each digit that it has, but for NOP at 90
pub row_shape : (c : ℕ) → c < 256 → (c ≡ 0x90 → ⊥) → {f : Form} → Memᴰ f (starting_with c) → (d : ℕ) → d < 8 → has_digit f.extension d ≡ true → shape_of f ≡ shape_at c d
row_shape c h n {f} m d l k = go (eqb c 0x90) refl (ap (λ (r : Bool × List (List Shape)). r.1) (row_right c h))
  where
    go : (b : Bool) → eqb c 0x90 ≡ b
        → shapes_said c (pick b (take 1 (starting_with c)) (starting_with c)) ≡ shapes_seen (pick b (take 1 (starting_with c)) (starting_with c))
        → shape_of f ≡ shape_at c d
    go true q e = absurd (n (eqb-true c 0x90 q))
    go false q e = each_shape c (starting_with c) e m d l k

digit_fits : (e : Extension) (x : ℕ) → second_fits e x ≡ true → has_digit e (digit x) ≡ true
digit_fits F.no x h = refl
digit_fits F.+r x h = refl
digit_fits F.+s x h = refl
digit_fits F./r x h = refl
digit_fits (F./ n) x h = h
digit_fits F.0A x h = refl

-- the form by which the bytes c, x read has the row's shape at its digit
pub read_shape : (c x : ℕ) → c < 256 → (f : Form) (fs : List Form) → fitting x (starting_with c) ≡ f ∷ fs → shape_of f ≡ shape_at c (digit x)
unfolding shape_at
read_shape c x h f fs e = go (eqb c 0x90) refl
  where
    go : (b : Bool) → eqb c 0x90 ≡ b → shape_of f ≡ shape_at c (digit x)
    go true q =
        let z : c ≡ 0x90 = eqb-true c 0x90 q in
        let l : fitting x (xchg_ax ∷ nop ∷ []) ≡ f ∷ fs = rw (z, at_90) at e in
        let k : f ≡ xchg_ax = cc in
        rw (k, z) refl
    go false q =
        let m : Memᴰ f (fitting x (starting_with c)) = rw e (mathlib.Core.List.Memᴰ.head refl) in
        let y : fits x f ≡ true = passed (fits x) (starting_with c) m in
        row_shape c h (eqb-false c 0x90 q) (kept (fits x) (starting_with c) m) (digit x) (omega arith)
        (digit_fits f.extension x (both_first (second_fits f.extension x) (both (allows_second (about f.first).restriction x) (allows_second (about f.second).restriction x)) y))

-- a slot reads as the shape's
pub record ReadsLike (a b : Slot) : Type 0 where
  pub knows : about a ≡ about b
  pub reads : (p c x next : ℕ) (t u : List ℕ) → at a p c x next t u ≡ at b p c x next t u

itself : (a : Slot) → ReadsLike a a
itself a = record { knows = refl; reads = λ p c x next t u. refl }

-- each slot does
pub as_read_lem : (a : Slot) → ReadsLike (as_read a) a
as_read_lem (rm w) = itself (rm w)
as_read_lem rm_near = record { knows = refl; reads = λ p c x next t u. refl }
as_read_lem mem = itself mem
as_read_lem mem_far = record { knows = refl; reads = λ p c x next t u. refl }
as_read_lem (reg w) = itself (reg w)
as_read_lem sreg = itself sreg
as_read_lem sreg_not_cs = itself sreg_not_cs
as_read_lem (acc w) = itself (acc w)
as_read_lem (low3 w) = itself (low3 w)
as_read_lem bits34 = itself bits34
as_read_lem bits34_not_cs = itself bits34_not_cs
as_read_lem cl = itself cl
as_read_lem dx = itself dx
as_read_lem one = itself one
as_read_lem (moffs w) = itself (moffs w)
as_read_lem xlat = itself xlat
as_read_lem ib = itself ib
as_read_lem iw = itself iw
as_read_lem ib_sx = itself ib_sx
as_read_lem cb = itself cb
as_read_lem cw = itself cw
as_read_lem ptr = itself ptr
as_read_lem nil = itself nil
