-- What is read of bytes that begin with a form's first and second byte is what that form reads.
-- Assumes nothing.
use mathlib.Core.Path.{◌≡◌, refl, sym, ◌∙◌, ap}
use Prim.Native.Nat.{ℕ, ◌≤◌, ◌<◌}
use native.Mathlib.Omega.{arith}
use mathlib.Core.Bool.{Bool, true, false}
use mathlib.Core.Logic.{⊎_elim}
use mathlib.Core.List.Memᴰ
use mathlib.Core.List.{List, [], ◌∷◌, ◌++◌, Memᴰ}
use lib.Dec.{T, eqb, leb, leb→le}
use lib.ListN.{length}
use borrow.Author.Tests.{eqb-true, eqb-false, ne_eqb}
use Rattle.mrc_compiler.specs.Choose.{pick, either}
use Rattle.x86.specs.Forms.{Extension, Form, forms}
use Rattle.x86.specs.Reading.{has_opcode, fits, put, keep, some, starting_with, fitting, has_second, may_name_memory, read_form, read_first, read_second, read_opcode, prefix, read_plain}
use Rattle.x86.proofs.Tests.{up_to, up_to_at}
use Rattle.x86.proofs.Unambiguous.{unambiguous, at_90, xchg_ax, nop, same_at_90, second_agrees, no_prefix}
use Rattle.encode_spec.specs.WellFormed.{is_prefix}
use Rattle.encode_spec.specs.Layout.{prefix_bytes}
use Rattle.encode_spec.proofs.Values.{either_right}

-- ---- lists of forms
-- a form that passes the test is kept
keeps : (q : Form → Bool) (fs : List Form) {f : Form} → q f ≡ true → Memᴰ f fs → Memᴰ f (keep q fs)
keeps q [] e m = m
keeps q (g ∷ fs) {f} e m = ⊎_elim (λ z. here z) (λ l. there (q g) (keeps q fs e l)) (Memᴰ.cases_cons m)
  where
    here : f ≡ g → Memᴰ f (put (q g) g (keep q fs))
    here z = rw (ap q (sym z) ∙ e) (Memᴰ.head z)

    there : (b : Bool) → Memᴰ f (keep q fs) → Memᴰ f (put b g (keep q fs))
    there true l = Memᴰ.tail l
    there false l = l

-- a form that passes the test is some form that does
pub some-true : (q : Form → Bool) (fs : List Form) {f : Form} → q f ≡ true → Memᴰ f fs → some q fs ≡ true
some-true q [] e m = absurd (Memᴰ.not-nil m)
some-true q (g ∷ fs) {f} e m = ⊎_elim (λ z. here z) (λ l. either_right (q g) (some q fs) (some-true q fs e l)) (Memᴰ.cases_cons m)
  where
    here : f ≡ g → either (q g) (some q fs) ≡ true
    here z = rw (ap q (sym z) ∙ e)

-- the only form of a list
only_one : (fs : List Form) {f : Form} → Memᴰ f fs → length fs ≤ 1 → fs ≡ f ∷ []
only_one [] m h = absurd (Memᴰ.not-nil m)
only_one (g ∷ []) m h = rw (Memᴰ.eq_of_singleton m)
only_one (g ∷ h ∷ fs) m l = absurd (omega arith)

-- ---- a first byte without a second has one form, but for 90
abbrev alone_at : ℕ → List Form → Bool
alone_at c fs = either (eqb c 0x90) (either (some (λ f. has_second f.extension) fs) (leb (length fs) 1))

alone_tested : T (up_to 256 (λ c. alone_at c (starting_with c)))
unfolding starting_with forms
alone_tested = tt

alone : (c : ℕ) → c < 256 → (c ≡ 0x90 → ⊥) → some (λ f. has_second f.extension) (starting_with c) ≡ false → length (starting_with c) ≤ 1
alone c h n e =
    let t : T (alone_at c (starting_with c)) = up_to_at 256 (λ c. alone_at c (starting_with c)) alone_tested c h in
    leb→le _ _ (rw (ne_eqb c 0x90 n, e) at t)

-- ---- the second byte, where the form has one
abbrev pub second_bytes : Extension → ℕ → List ℕ
second_bytes e x = pick (has_second e) (x ∷ []) []

-- a form f with first byte c and second byte x
pub record Begins (p c x : ℕ) (f : Form) : Type 0 where
  pub listed : Memᴰ f forms
  pub opcode : has_opcode c f ≡ true
  pub second : fits x f ≡ true
  pub c_byte : c < 256
  pub x_byte : x < 256
  pub memory : either (eqb p 0) (may_name_memory f) ≡ true

module _ (off p c x : ℕ) (t : List ℕ) (f : Form) (b : Begins p c x f) where
  pub among : Memᴰ f (starting_with c)
  unfolding starting_with
  among = keeps (has_opcode c) forms b.opcode b.listed

  -- at 90 the two forms read the same
  either_90 : Memᴰ f (xchg_ax ∷ nop ∷ []) → (z : ℕ) → read_form off p 0x90 z t xchg_ax ≡ read_form off p 0x90 z t f
  either_90 m z =
      ⊎_elim (λ e. ap (λ (g : Form). read_form off p 0x90 z t g) (sym e))
      (λ l. same_at_90 off p z t ∙ ap (λ (g : Form). read_form off p 0x90 z t g) (sym (Memᴰ.eq_of_singleton l)))
      (Memᴰ.cases_cons m)

  -- but for 90 no other form goes on with the second byte, or without one
  pub fits_alone : (c ≡ 0x90 → ⊥) → (i : Bool) → has_second f.extension ≡ i → pick i (fitting x (starting_with c)) (starting_with c) ≡ f ∷ []
  fits_alone n true e =
      only_one (fitting x (starting_with c)) {f = f} (keeps (fits x) (starting_with c) b.second among) (unambiguous c x b.c_byte b.x_byte n)
  fits_alone n false e = only_one (starting_with c) {f = f} among (alone c b.c_byte n (sym (second_agrees c b.c_byte {f = f} among) ∙ e))

  -- the form that fits is read, whatever stands behind
  read_second_lem : (m : Memᴰ f (starting_with c)) (i : Bool) → eqb c 0x90 ≡ i → has_second f.extension ≡ true
      → read_first off p c x t (fitting x (starting_with c)) ≡ read_form off p c x t f
  read_second_lem m true e z = rw (eqb-true c 0x90 e, at_90) (either_90 (rw (ap starting_with (eqb-true c 0x90 e) ∙ at_90) at m) x)
  read_second_lem m false e z = rw (fits_alone (eqb-false c 0x90 e) true z)

  read_first_lem : (m : Memᴰ f (starting_with c)) (i : Bool) → eqb c 0x90 ≡ i → has_second f.extension ≡ false
      → read_first off p c 0 t (starting_with c) ≡ read_form off p c 0 t f
  read_first_lem m true e z = rw (eqb-true c 0x90 e, at_90) (either_90 (rw (ap starting_with (eqb-true c 0x90 e) ∙ at_90) at m) 0)
  read_first_lem m false e z = rw (fits_alone (eqb-false c 0x90 e) false z)

  -- behind the prefix
  read_opcode_lem : (has_second f.extension ≡ false → x ≡ 0) → read_opcode off p (c ∷ (second_bytes f.extension x ++ t)) ≡ read_form off p c x t f
  read_opcode_lem z =
      let fs = starting_with c in
      rw (some-true (λ f. either (eqb p 0) (may_name_memory f)) fs {f = f} b.memory among, ← (second_agrees c b.c_byte {f = f} among))
      (go (has_second f.extension) refl)
    where
      go : (i : Bool) → has_second f.extension ≡ i
          → pick i (read_second off p c (starting_with c) (pick i (x ∷ []) [] ++ t)) (read_first off p c 0 (pick i (x ∷ []) [] ++ t) (starting_with c))
          ≡ read_form off p c x t f
      go true e = read_second_lem among (eqb c 0x90) refl e
      go false e = rw (z e) (read_first_lem among (eqb c 0x90) refl e)

  -- a first byte of a form is no prefix
  pub no_prefix_byte : (i : Bool) → prefix c ≡ i → prefix c ≡ false
  no_prefix_byte true e = absurd (Memᴰ.not-nil (rw (no_prefix c e) at among))
  no_prefix_byte false e = e

  -- the bytes of a form, with its prefix, are read by that form
  pub front : is_prefix p ≡ true → (has_second f.extension ≡ false → x ≡ 0)
      → read_plain off (prefix_bytes p ++ (c ∷ (second_bytes f.extension x ++ t))) ≡ read_form off p c x t f
  unfolding read_plain
  front q z = go (eqb p 0) refl q
    where
      s : List ℕ
      s = c ∷ (second_bytes f.extension x ++ t)

      go : (i : Bool) → eqb p 0 ≡ i → either i (prefix p) ≡ true → read_plain off (pick i [] (p ∷ []) ++ s) ≡ read_form off p c x t f
      go true e h = rw (no_prefix_byte (prefix c) refl) (ap (λ (q : ℕ). read_opcode off q s) (sym (eqb-true p 0 e)) ∙ read_opcode_lem z)
      go false e h = rw h (read_opcode_lem z)
