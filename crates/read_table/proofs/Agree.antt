-- The code's tables say what the forms say: computed over all first and second bytes, and the rules that it gives.
-- Assumes nothing.
use Rattle.std.specs.Prelude.{None, Option, Some}
use mathlib.Core.Path.{◌≡◌, refl, subst, ap}
use Prim.Native.Nat.{ℕ, zero, suc, ◌+◌, ◌-◌, ◌≤◌, ◌<◌}
use native.Mathlib.Omega.{arith}
use native.Mathlib.Nat.{not-suc-le-zero, eq-or-lt_of_le, le_of_suc-le-suc}
use mathlib.Core.Bool.{Bool, true, false}
use mathlib.Core.Logic.{⊎_elim}
use mathlib.Core.List.{List, [], ◌∷◌}
use lib.Dec.{T, eqb, ltb}
use lib.ListN.{get_or}
use borrow.Author.Tests.{ltb-true, ltb-false}
use Rattle.mrc_compiler.specs.declared.operations.Operation.{Operation}
use Rattle.mrc_compiler.specs.declared.operations.Operation.TheVariants as Op
use Rattle.mrc_compiler.specs.Choose.{pick, both}
use Rattle.mrc_compiler.specs.Operations.{number_of, operations, same_operation}
use Rattle.x86_forms.specs.declared.FormName.{FormName}
use Rattle.x86.specs.Forms.{Slot, Form, forms}
use Rattle.x86.specs.Reading.{digit, about, some, starting_with, fitting, has_second, may_name_memory}
use Rattle.x86.specs.Rows.{Class, Shape, as_read, rows, shape_numbered, by_digit}
use Rattle.x86.specs.Rows as K
use Rattle.x86.proofs.Rows.{empty}
use Rattle.x86.proofs.Tests.{both_left, both_right, same, same_is, up_to, up_to_at}
use Rattle.read_table.specs.Rows.{name_of, operation_at, digits_of, found_of, slots_fit, found_at, exchanges, tests_register, extension_at, any_form, form_at}

-- what is said of a first and a second byte: no form, or its operation, its name, whether it has a second byte, its slots as they read
pub data Said : Type 0 where
  none : Said
  one : Operation → FormName → Bool → Slot → Slot → Said

-- by the forms
abbrev pub seen : List Form → Said
seen [] = none
seen (f ∷ fs) = one f.operation (name_of f) (has_second f.extension) (as_read f.first) (as_read f.second)

-- by the row's shape
abbrev pub said_by : Shape → ℕ → ℕ → Option Operation → Said
said_by s c x None = none
said_by s c x (Some op) = one op (form_at s.class c x) (has_second (extension_at s.class)) s.first s.second

abbrev pub said : Shape → ℕ → ℕ → Said
said s c x = said_by s c x (found_at s c x)

-- the values of g below n, the last first
abbrev pub table : {A : Type 0} → ℕ → (ℕ → A) → List A
table zero g = []
table (suc n) g = g n ∷ table n g

pub table_at : {A : Type 0} (n : ℕ) (g h : ℕ → A) → table n g ≡ table n h → (k : ℕ) → k < n → g k ≡ h k
table_at zero g h e k l = absurd (not-suc-le-zero l)
table_at (suc n) g h e k l = ⊎_elim (λ z. rw z (cc)) (λ l. table_at n g h (cc) k l) (eq-or-lt_of_le (le_of_suc-le-suc l))

-- of each second byte, where there is one; s x is the shape with second byte x
abbrev said_each : (ℕ → Shape) → ℕ → Bool → List Said
said_each s c true = table 256 (λ x. said (s x) c x)
said_each s c false = said (s 0) c 0 ∷ []

abbrev seen_each : List Form → Bool → List Said
seen_each fs true = table 256 (λ x. seen (fitting x fs))
seen_each fs false = seen fs ∷ []

-- of a first byte: whether no form begins, may name memory, has a second byte; and of each second byte
pub record Row : Type 0 where
  pub unused : Bool
  pub memory : Bool
  pub second : Bool
  pub each : List Said

abbrev said_of : ℕ → (ℕ → Shape) → ℕ → Row
said_of n s c =
    record {
      unused = eqb n 0;
      memory = may_name_memory (any_form (s 0));
      second = has_second (extension_at (s 0).class);
      each = said_each s c (has_second (extension_at (s 0).class));
    }

abbrev seen_of : List Form → Row
seen_of fs =
    record {
      unused = empty fs;
      memory = some may_name_memory fs;
      second = some (λ f. has_second f.extension) fs;
      each = seen_each fs (some (λ f. has_second f.extension) fs);
    }

-- the shape of first byte c and second byte x
abbrev pub shape_of : ℕ → ℕ → Shape
shape_of c x = shape_numbered (by_digit (get_or rows c 0) (digit x))

abbrev said_row : ℕ → Row
said_row c = said_of (get_or rows c 0) (shape_of c) c

abbrev seen_row : ℕ → Row
seen_row c = seen_of (starting_with c)

-- the test, in parts, since memory goes with its size
rows_0 : table 64 (λ c. said_row (c + 0)) ≡ table 64 (λ c. seen_row (c + 0))
unfolding found_at starting_with forms operations
rows_0 = refl

rows_4 : table 64 (λ c. said_row (c + 64)) ≡ table 64 (λ c. seen_row (c + 64))
unfolding found_at starting_with forms operations
rows_4 = refl

rows_8 : table 64 (λ c. said_row (c + 128)) ≡ table 64 (λ c. seen_row (c + 128))
unfolding found_at starting_with forms operations
rows_8 = refl

rows_c : table 64 (λ c. said_row (c + 192)) ≡ table 64 (λ c. seen_row (c + 192))
unfolding found_at starting_with forms operations
rows_c = refl

part : (k c : ℕ) → table 64 (λ i. said_row (i + k)) ≡ table 64 (λ i. seen_row (i + k)) → k ≤ c → c < k + 64 → said_row c ≡ seen_row c
part k c e l h =
    let d : (c - k) + k ≡ c = omega arith in
    subst (λ (j : ℕ). said_row j ≡ seen_row j) d (table_at 64 (λ i. said_row (i + k)) (λ i. seen_row (i + k)) e (c - k) (omega arith))

row_agrees : (c : ℕ) → c < 256 → said_row c ≡ seen_row c
row_agrees c h = go (ltb c 64) (ltb c 128) (ltb c 192) refl refl refl
  where
    go : (i j k : Bool) → ltb c 64 ≡ i → ltb c 128 ≡ j → ltb c 192 ≡ k → said_row c ≡ seen_row c
    go true j k p q r = part 0 c rows_0 (omega arith) (ltb-true c 64 p)
    go false true k p q r = part 64 c rows_4 (ltb-false c 64 p) (ltb-true c 128 q)
    go false false true p q r = part 128 c rows_8 (ltb-false c 128 q) (ltb-true c 192 r)
    go false false false p q r = part 192 c rows_c (ltb-false c 192 r) (omega arith)

-- ---- the rules
-- of a first byte, with the forms that begin with it
pub record Agrees (c : ℕ) (n : ℕ) (s : ℕ → Shape) (fs : List Form) : Type 0 where
  pub unused : eqb n 0 ≡ empty fs
  pub memory : may_name_memory (any_form (s 0)) ≡ some may_name_memory fs
  pub second : has_second (extension_at (s 0).class) ≡ some (λ f. has_second f.extension) fs
  pub with_second : (x : ℕ) → x < 256 → some (λ f. has_second f.extension) fs ≡ true → said (s x) c x ≡ seen (fitting x fs)
  pub without : some (λ f. has_second f.extension) fs ≡ false → said (s 0) c 0 ≡ seen fs

agreed : (c n : ℕ) (s : ℕ → Shape) (fs : List Form) → said_of n s c ≡ seen_of fs → Agrees c n s fs
agreed c n s fs e =
    record {
      unused = ap (λ (r : Row). r.unused) e;
      memory = ap (λ (r : Row). r.memory) e;
      second = ap (λ (r : Row). r.second) e;
      with_second = λ x h z. table_at 256 (λ x. said (s x) c x) (λ x. seen (fitting x fs)) (one_true (has_second (extension_at (s 0).class)) (some (λ f. has_second f.extension) fs) (ap (λ (r : Row). r.second) e) z (ap (λ (r : Row). r.each) e)) x h;
      without = λ z. one_false (has_second (extension_at (s 0).class)) (some (λ f. has_second f.extension) fs) (ap (λ (r : Row). r.second) e) z (ap (λ (r : Row). r.each) e);
    }
  where
    one_true : (a b : Bool) → a ≡ b → b ≡ true → said_each s c a ≡ seen_each fs b → table 256 (λ x. said (s x) c x) ≡ table 256 (λ x. seen (fitting x fs))
    one_true true true p q e = e
    one_true true false p q e = cc
    one_true false true p q e = cc
    one_true false false p q e = cc

    one_false : (a b : Bool) → a ≡ b → b ≡ false → said_each s c a ≡ seen_each fs b → said (s 0) c 0 ≡ seen fs
    one_false true true p q e = cc
    one_false true false p q e = cc
    one_false false true p q e = cc
    one_false false false p q e = cc

-- each row agrees with the forms
pub agrees : (c : ℕ) → c < 256 → Agrees c (get_or rows c 0) (shape_of c) (starting_with c)
agrees c h = agreed c (get_or rows c 0) (shape_of c) (starting_with c) (row_agrees c h)

-- ---- XCHG by its first bytes, and TEST without an immediate
abbrev found_ok : ℕ → Slot → Option Operation → Bool
found_ok c b None = true
found_ok c b (Some op) =
    both (same (same_operation op Op.XCHG) (exchanges c)) (same (both (same_operation op Op.TEST) (eqb (about b).takes 0)) (tests_register c))

-- with digit d; b is the second slot
abbrev class_ok : ℕ → ℕ → Slot → Class → Bool
class_ok c d b K.unused = true
class_ok c d b K.plain = found_ok c b (operation_at c)
class_ok c d b K.plus_register = found_ok c b (operation_at c)
class_ok c d b K.plus_segment = found_ok c b (operation_at c)
class_ok c d b K.modrm = found_ok c b (operation_at c)
class_ok c d b K.modrm_digit = found_ok c b (operation_at (digits_of c + d))
class_ok c d b K.second_0a = found_ok c b (operation_at c)

abbrev row_ok : ℕ → ℕ → Bool
row_ok c d = let s = shape_numbered (by_digit (get_or rows c 0) d) in class_ok c d s.second s.class

rows_ok : T (up_to 256 (λ c. up_to 8 (row_ok c)))
unfolding number_of operations
rows_ok = tt

found_ok_lem : (k : Class) (b : Slot) (c x : ℕ) → T (class_ok c (digit x) b k) → T (found_ok c b (found_of k c x))
unfolding operations
found_ok_lem K.unused b c x t = tt
found_ok_lem K.plain b c x t = t
found_ok_lem K.plus_register b c x t = t
found_ok_lem K.plus_segment b c x t = t
found_ok_lem K.modrm b c x t = t
found_ok_lem K.modrm_digit b c x t = t
found_ok_lem K.second_0a b c x t = go (eqb x 0x0A)
  where
    go : (q : Bool) → T (found_ok c b (operation_at (pick q c 312)))
    go true = t
    go false = tt

found_at_lem : (c x : ℕ) (op : Operation) → c < 256 → found_at (shape_of c x) c x ≡ Some op → T (found_ok c (shape_of c x).second (Some op))
unfolding found_at
found_at_lem c x op h e = rw e at (go (slots_fit (shape_of c x) x))
  where
    go : (q : Bool) → T (found_ok c (shape_of c x).second (pick q (found_of (shape_of c x).class c x) None))
    go true = found_ok_lem (shape_of c x).class (shape_of c x).second c x (up_to_at 8 (row_ok c) (up_to_at 256 (λ c. up_to 8 (row_ok c)) rows_ok c h) (digit x) (omega arith))
    go false = tt

-- the operation found is XCHG just where the first byte is one of XCHG's
pub settles : (c x : ℕ) (op : Operation) → c < 256 → found_at (shape_of c x) c x ≡ Some op → same_operation op Op.XCHG ≡ exchanges c
settles c x op h e =
    same_is (same_operation op Op.XCHG) (exchanges c)
    (both_left (same (same_operation op Op.XCHG) (exchanges c)) (same (both (same_operation op Op.TEST) (eqb (about (shape_of c x).second).takes 0)) (tests_register c)) (found_at_lem c x op h e))

-- it is TEST without an immediate just where the first byte is 84 or 85
pub tests : (c x : ℕ) (op : Operation) → c < 256 → found_at (shape_of c x) c x ≡ Some op
    → both (same_operation op Op.TEST) (eqb (about (shape_of c x).second).takes 0) ≡ tests_register c
tests c x op h e =
    same_is (both (same_operation op Op.TEST) (eqb (about (shape_of c x).second).takes 0)) (tests_register c)
    (both_right (same (same_operation op Op.XCHG) (exchanges c)) (same (both (same_operation op Op.TEST) (eqb (about (shape_of c x).second).takes 0)) (tests_register c)) (found_at_lem c x op h e))
