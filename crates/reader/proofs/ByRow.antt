-- The reading by rows is the reading by forms, with the form that reads.
-- Assumes nothing.
use Rattle.std.specs.Prelude.{Err, None, Option, Some}
use mathlib.Core.Path.{◌≡◌, refl, sym}
use Prim.Native.Nat.{ℕ, suc}
use mathlib.Core.Bool.{Bool, true, false}
use mathlib.Core.List.{List, [], ◌∷◌}
use lib.Dec.{eqb}
use lib.ListN.{get_or}
use Rattle.mrc_compiler.specs.declared.operations.Operation.{Operation}
use Rattle.mrc_compiler.specs.Choose.{pick, either}
use Rattle.x86.specs.declared.ReadError.TheVariants.{NotAnInstruction}
use Rattle.x86.specs.Forms.{Slot, Extension, Form, form}
use Rattle.x86.specs.Listing.{Bytes}
use Rattle.x86.specs.Reading.{some, starting_with, fitting, has_second, may_name_memory, read_form, read_first, read_behind, read_second, read_opcode}
use Rattle.x86.specs.Rows.{Shape, as_read, rows}
use Rattle.x86.proofs.Rows.{as_read_lem}
use Rattle.read_table.specs.Rows.{name_of, no_form, found_at, extension_at, shape_form, any_form, form_at}
use Rattle.read_table.proofs.Agree.{seen, said_by, said, Agrees, agrees}
use Rattle.reader.specs.Answer.{first_of, going_on, form_behind, with_form}
use Rattle.reader.specs.ByRow.{by_found, read_shape, decoded_shape, shape_with, decoded_second, may_follow, decoded_behind, decoded_opcode}

-- the reading looks at nothing else of a form
alike : (off p c x : ℕ) (t : List ℕ) (f : Form) (e : Extension) (op : Operation) (a b : Slot)
    → f.operation ≡ op → has_second f.extension ≡ has_second e → as_read f.first ≡ a → as_read f.second ≡ b
    → read_form off p c x t (form 0 e op a b) ≡ read_form off p c x t f
unfolding read_form
alike off p c x t f e op a b ho he ha hb =
    rw (← ho, ← he, ← ha, ← hb)
    (simp ((as_read_lem f.first).knows, (as_read_lem f.second).knows, (as_read_lem f.first).reads, (as_read_lem f.second).reads))

-- what a row says of c and x it reads, with the form's name
shape_reads : (off p c x : ℕ) (t : List ℕ) (s : Shape) (gs : List Form) → said s c x ≡ seen gs
    → decoded_shape off p s c x t ≡ with_form (read_first off p c x t gs) (first_of gs)
unfolding decoded_shape read_shape
shape_reads off p c x t s gs e = go (found_at s c x) gs e
  where
    go : (o : Option Operation) (gs : List Form) → said_by s c x o ≡ seen gs
        → with_form (by_found o (Err NotAnInstruction) (λ op. read_form off p c x t (shape_form s op))) (form_at s.class c x)
        ≡ with_form (read_first off p c x t gs) (first_of gs)
    go None [] e = refl
    go None (g ∷ gs) e = cc
    go (Some op) [] e = cc
    go (Some op) (g ∷ gs) e =
        let n : form_at s.class c x ≡ name_of g = cc in
        rw (n, alike off p c x t g (extension_at s.class) op s.first s.second (cc) (cc) (cc) (cc))

-- forms that agree on memory may follow a prefix together
follow : (b m : Bool) (f : Form) (fs : List Form) → m ≡ some may_name_memory (f ∷ fs) → some (λ f. either b (may_name_memory f)) (f ∷ fs) ≡ either b m
follow true m f fs e = refl
follow false m f fs e = sym e

behind : (off p c n : ℕ) (t : List ℕ) (fs : List Form) → Bytes t → Agrees c n (shape_with n) fs
    → pick (eqb n 0) (with_form (Err NotAnInstruction) no_form) (decoded_behind off p n c t) ≡ with_form (read_behind off p c fs t) (first_of (going_on fs t))
behind off p c n t [] bs h = rw h.unused refl
behind off p c n t (f ∷ fs) bs h =
    rw (h.unused, follow (eqb p 0) (may_name_memory (any_form (shape_with n 0))) f fs h.memory)
    (go (may_follow p (shape_with n 0)) (has_second (extension_at (shape_with n 0).class)) (some (λ f. has_second f.extension) (f ∷ fs)) h.second refl t bs)
  where
    go : (o k l : Bool) → k ≡ l → some (λ f. has_second f.extension) (f ∷ fs) ≡ l → (t : List ℕ) → Bytes t
        → pick o (pick k (decoded_second off p n c t) (decoded_shape off p (shape_with n 0) c 0 t)) (with_form (Err NotAnInstruction) no_form)
        ≡ with_form (pick o (pick l (read_second off p c (f ∷ fs) t) (read_first off p c 0 t (f ∷ fs))) (Err NotAnInstruction)) (first_of (pick l (fitting (get_or t 0 0) (f ∷ fs)) (f ∷ fs)))
    go false k l e z t bs = refl
    go true true true e z [] bs = refl
    go true true true e z (x ∷ t) bs = shape_reads off p c x t (shape_with n x) (fitting x (f ∷ fs)) (h.with_second x (bs 0) z)
    go true true false e z t bs = cc
    go true false true e z t bs = cc
    go true false false e z t bs = shape_reads off p c 0 t (shape_with n 0) (f ∷ fs) (h.without z)

-- behind a prefix the two readings are one
pub opcode_by_row : (off p : ℕ) (s : List ℕ) → Bytes s → decoded_opcode off p s ≡ with_form (read_opcode off p s) (form_behind s)
unfolding decoded_opcode
opcode_by_row off p [] bs = refl
opcode_by_row off p (c ∷ t) bs = behind off p c (get_or rows c 0) t (starting_with c) (λ i. bs (suc i)) (agrees c (bs 0))
