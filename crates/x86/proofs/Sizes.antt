-- An instruction is 1 to 7 bytes long.
-- Assumes nothing.
use Rattle.std.specs.Prelude.{Ok}
use mathlib.Core.Path.{◌≡◌, sym, ◌∙◌}
use Prim.Native.Nat.{ℕ, ◌+◌, ◌≤◌, zero-le}
use native.Mathlib.Omega.{arith}
use mathlib.Core.Bool.{Bool, true, false}
use mathlib.Core.List.{List, [], ◌∷◌}
use lib.Dec.{T, leb, leb→le, lit≤}
use Rattle.mrc_compiler.specs.Choose.{pick}
use Rattle.x86.specs.declared.Instruction.{Instruction}
use Rattle.x86.specs.Forms.{Form, forms}
use Rattle.x86.specs.Reading.{Place, nowhere, by_modrm, by_address, by_bx_al, about, address_length, has_second, read_opcode, prefix, read_plain, reads}
use Rattle.x86.proofs.Tests.{each_of, each_at}
use Rattle.x86.proofs.ByForm.{more_not_whole, same_parts, ByForm, opcode_by, form_length, in_forms, prefix_length}
use Rattle.x86.proofs.Repeats.{HowRead, with_repeat, without, how_read}

-- the most address bytes that a place takes
abbrev most : Place → ℕ
most nowhere = 0
most by_modrm = 2
most by_address = 2
most by_bx_al = 0

pick-le : (b : Bool) (m n k : ℕ) → m ≤ k → n ≤ k → pick b m n ≤ k
pick-le true m n k h l = h
pick-le false m n k h l = l

address_le : (a : Place) (x : ℕ) → address_length a x ≤ most a
address_le nowhere x = zero-le
address_le by_modrm x = search (pick-le, lit≤, tt) depth 12
address_le by_address x = lit≤ tt
address_le by_bx_al x = zero-le

-- without a prefix no form is longer than six bytes
abbrev longest : Form → ℕ
longest f =
    pick (has_second f.extension) 2 1
    + (most (about f.first).place + most (about f.second).place + ((about f.first).takes + (about f.second).takes))

all_short : T (each_of (λ f. leb (longest f) 6) forms)
unfolding forms
all_short = tt

head_some : (b : Bool) → 1 ≤ pick b 2 1
head_some true = lit≤ tt
head_some false = lit≤ tt

form_size : (off p : ℕ) (s : List ℕ) (m : Instruction) (n : ℕ) → ByForm off p s m n → (1 ≤ n) × (n ≤ 7)
form_size off p s m n r =
    let f = r.f in
    let (e, l) = form_length off p r.c r.x r.t f r.read in
    let short : longest f ≤ 6 = leb→le (longest f) 6 (each_at (λ f. leb (longest f) 6) forms all_short (in_forms r.c r.listed)) in (
      omega (arith, head_some (has_second f.extension)),
      omega (arith, prefix_length p, address_le (about f.first).place r.x, address_le (about f.second).place r.x),
    )

-- with its prefix an instruction has 1 to 7 bytes
plain_size : (off : ℕ) (s : List ℕ) (m : Instruction) (n : ℕ) → read_plain off s ≡ Ok (m, n) → (1 ≤ n) × (n ≤ 7)
unfolding read_plain
plain_size off [] m n e = absurd (more_not_whole e)
plain_size off (b ∷ s) m n e = go (prefix b) e
  where
    go : (q : Bool) → pick q (read_opcode off b s) (read_opcode off 0 (b ∷ s)) ≡ Ok (m, n) → (1 ≤ n) × (n ≤ 7)
    go true e = form_size off b s m n (opcode_by off b s e)
    go false e = form_size off 0 (b ∷ s) m n (opcode_by off 0 (b ∷ s) e)

-- and so it has with a repeat
pub read_size : (off : ℕ) (s : List ℕ) (m : Instruction) (n : ℕ) → reads off s ≡ Ok (m, n) → (1 ≤ n) × (n ≤ 7)
read_size off s m n e = go (how_read off s)
  where
    go : HowRead off s → (1 ≤ n) × (n ≤ 7)
    go (with_repeat r) = let q : n ≡ 2 = (same_parts (sym e ∙ r.reads_it)).1 in (omega arith, omega arith)
    go (without h q) = plain_size off s m n (sym q ∙ e)
