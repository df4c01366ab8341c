-- What the table does not read, by document 01's sentences: the first bytes and the second bytes that read as nothing, all of them and no other.
-- Assumes nothing.
use Rattle.std.specs.Prelude.{Err}
use mathlib.Core.Path.{◌≡◌, refl, sym, ◌∙◌}
use Prim.Native.Nat.{ℕ, ◌<◌}
use mathlib.Core.Bool.{Bool, true, false}
use mathlib.Core.List.{List, [], ◌∷◌}
use lib.Dec.{T, eqb, leb}
use lib.ListN.{get_or}
use Rattle.mrc_compiler.specs.Choose.{pick, both, either, isnt}
use Rattle.x86.specs.declared.ReadError.TheVariants.{NotAnInstruction}
use Rattle.x86.specs.Forms.{Form, forms}
use Rattle.x86.specs.Reading.{Read, mode, digit, some, starting_with, fitting, has_second, may_name_memory, read_opcode, prefix, read_plain, reads}
use Rattle.x86.specs.Rows.{rows}
use Rattle.x86.proofs.Tests.{same, same_is, up_to, up_to_at}
use Rattle.x86.proofs.Repeats.{one_of, nothing_plain}
use Rattle.x86.proofs.Rows.{empty, row_unused}

-- from a to b
abbrev between : ℕ → ℕ → ℕ → Bool
between a b c = both (leb a c) (leb c b)

-- the table's first bytes leave out POP CS (0F), 60 to 6F, 82, 9A, C0, C1, C8 to CB, ESC (D8 to DF) and F1; a prefix byte begins nothing after a prefix
abbrev pub unread_first : ℕ → Bool
unread_first c =
    either (prefix c)
    (either (between 0x60 0x6F c)
    (either (between 0xC0 0xC1 c)
    (either (between 0xC8 0xCB c)
    (either (between 0xD8 0xDF c) (one_of (0x0F ∷ 0x82 ∷ 0x9A ∷ 0xF1 ∷ []) c)))))

-- unused /n; 8C with /4 to /7; 8E with /1 (CS) and /4 to /7
abbrev unread_digit : ℕ → ℕ → Bool
unread_digit c n =
    either (both (either (eqb c 0x8F) (between 0xC6 0xC7 c)) (isnt (eqb n 0)))
    (either (both (between 0xD0 0xD3 c) (eqb n 6))
    (either (both (between 0xF6 0xF7 c) (eqb n 1))
    (either (both (eqb c 0xFE) (leb 2 n))
    (either (both (eqb c 0xFF) (either (eqb n 5) (eqb n 7)))
    (either (both (eqb c 0x8C) (leb 4 n)) (both (eqb c 0x8E) (either (eqb n 1) (leb 4 n))))))))

-- and mode 3 for LEA, LES, LDS and the far CALL; D4 and D5 with another byte than 0A
abbrev pub unread_second : ℕ → ℕ → Bool
unread_second c x =
    either (unread_digit c (digit x))
    (either (both (either (one_of (0x8D ∷ 0xC4 ∷ 0xC5 ∷ []) c) (both (eqb c 0xFF) (eqb (digit x) 3))) (eqb (mode x) 3)) (both (one_of (0xD4 ∷ 0xD5 ∷ []) c) (isnt (eqb x 0x0A))))

-- the forms have a second byte
abbrev pub wants_second : List Form → Bool
wants_second fs = some (λ f. has_second f.extension) fs

abbrev seconds_ok : ℕ → List Form → Bool → Bool
seconds_ok c fs true = up_to 256 (λ x. same (empty (fitting x fs)) (unread_second c x))
seconds_ok c fs false = true

firsts : T (up_to 256 (λ c. same (eqb (get_or rows c 0) 0) (unread_first c)))
unfolding prefix
firsts = tt

seconds : T (up_to 256 (λ c. seconds_ok c (starting_with c) (wants_second (starting_with c))))
unfolding starting_with forms
seconds = tt

-- no form begins with just these
pub first_is : (c : ℕ) → c < 256 → empty (starting_with c) ≡ unread_first c
first_is c h =
    sym (row_unused c h) ∙ same_is (eqb (get_or rows c 0) 0) (unread_first c) (up_to_at 256 (λ c. same (eqb (get_or rows c 0) 0) (unread_first c)) firsts c h)

-- no form goes on with just these
pub second_is : (c x : ℕ) → c < 256 → x < 256 → wants_second (starting_with c) ≡ true → empty (fitting x (starting_with c)) ≡ unread_second c x
second_is c x h k w = go (wants_second fs) w (up_to_at 256 (λ c. seconds_ok c (starting_with c) (wants_second (starting_with c))) seconds c h)
  where
    fs : List Form
    fs = starting_with c

    go : (b : Bool) → b ≡ true → T (seconds_ok c fs b) → empty (fitting x fs) ≡ unread_second c x
    go true e t = same_is (empty (fitting x fs)) (unread_second c x) (up_to_at 256 (λ x. same (empty (fitting x fs)) (unread_second c x)) t x k)
    go false e t = cc

-- ---- so these strings read as nothing, at every offset and whatever follows
is_empty : (fs : List Form) → empty fs ≡ true → fs ≡ []
is_empty [] e = refl
is_empty (f ∷ fs) e = cc

opcode_first : (off p c : ℕ) (t : List ℕ) → c < 256 → unread_first c ≡ true → read_opcode off p (c ∷ t) ≡ Err NotAnInstruction
opcode_first off p c t h u =
    let e : starting_with c ≡ [] = is_empty (starting_with c) (first_is c h ∙ u) in
    rw e refl

opcode_second : (off p c x : ℕ) (t : List ℕ) → c < 256 → x < 256 → wants_second (starting_with c) ≡ true → unread_second c x ≡ true → read_opcode off p (c ∷ x ∷ t) ≡ Err NotAnInstruction
opcode_second off p c x t h k w u =
    let e : fitting x (starting_with c) ≡ [] = is_empty (fitting x (starting_with c)) (second_is c x h k w ∙ u) in
    rw (w, e) (go (some (λ f. either (eqb p 0) (may_name_memory f)) (starting_with c)))
  where
    go : (b : Bool) → ◌≡◌ {A = Read} (pick b (Err NotAnInstruction) (Err NotAnInstruction)) (Err NotAnInstruction)
    go true = refl
    go false = refl

-- first in the string
pub first_nothing : (off c : ℕ) (s : List ℕ) → c < 256 → prefix c ≡ false → unread_first c ≡ true → reads off (c ∷ s) ≡ Err NotAnInstruction
unfolding read_plain
first_nothing off c s h b u = nothing_plain off (c ∷ s) (rw b (opcode_first off 0 c s h u))

-- behind a prefix
pub behind_prefix_nothing : (off p c : ℕ) (s : List ℕ) → c < 256 → prefix p ≡ true → unread_first c ≡ true → reads off (p ∷ c ∷ s) ≡ Err NotAnInstruction
unfolding read_plain
behind_prefix_nothing off p c s h b u = nothing_plain off (p ∷ c ∷ s) (rw b (opcode_first off p c s h u))

-- as the second byte
pub second_nothing : (off c x : ℕ) (s : List ℕ) → c < 256 → x < 256 → prefix c ≡ false → wants_second (starting_with c) ≡ true → unread_second c x ≡ true
    → reads off (c ∷ x ∷ s) ≡ Err NotAnInstruction
unfolding read_plain
second_nothing off c x s h k b w u = nothing_plain off (c ∷ x ∷ s) (rw b (opcode_second off 0 c x s h k w u))
