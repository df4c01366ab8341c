-- No string is missing: whatever reads as an instruction to its last byte is one of the twelve candidates.
-- Assumes nothing.
use Rattle.std.specs.Prelude.{Ok}
use mathlib.Core.Path.{◌≡◌, refl, sym, ◌∙◌, ap}
use Prim.Native.Nat.{ℕ, ◌+◌, ◌/◌, ◌%◌, ◌<◌}
use native.Mathlib.Omega.{arith}
use mathlib.Core.Bool.{Bool, true, false}
use mathlib.Core.Logic.{◌⊎◌, inl, inr}
use mathlib.Core.List.{List, [], ◌∷◌}
use lib.Dec.{T, eqb, ltb, ltb→lt}
use lib.ListN.{length}
use borrow.Author.Tests.{eqb-true, lt-ltb, le-ltb}
use Rattle.mrc_compiler.specs.Choose.{pick, either}
use Rattle.mrc_compiler.specs.Operations.{number_of, is_string}
use Rattle.encode_groups.specs.Grouping.{grouped_of}
use Rattle.x86.specs.declared.Instruction.{Instruction}
use Rattle.x86.specs.Forms.{Form, forms}
use Rattle.x86.specs.Reading.{read_plain}
use Rattle.x86.specs.Listing.{Bytes, ReadsAs}
use Rattle.x86.proofs.Tests.{is_true, both_parts, each_of, each_at}
use Rattle.x86.proofs.Repeats.{bare, Repeated, HowRead, with_repeat, without, how_read, repeat_byte, repeat_some, plain_repeat}
use Rattle.x86.specs.Instructions.{repeated}
use Rattle.list_spec.specs.declared.Start.{Start}
use Rattle.list_spec.specs.Operands.{prefix_of, displacement_of}
use Rattle.list_spec.specs.Parts.{is_short, parts_of}
use Rattle.list_spec.specs.Possible.{start_fits, prefix_fits, possible}
use Rattle.list_spec.specs.Starts.{primary, start_of, start_in}
use Rattle.list_spec.specs.Starts as St
use Rattle.list_spec.specs.Candidates.{string_of, candidate_of, candidate}
use Rattle.x86.proofs.ByForm.{same_parts}
use Rattle.list_spec.proofs.ByForm.{same_start, start_eq}
use Rattle.list_spec.proofs.Covered.{fitting_start, chosen}
use Rattle.list_spec.proofs.Choices.{both_true}
use Rattle.list_spec.proofs.Possible.{start_fits_lem}
use Rattle.list_spec.proofs.Written.{Written, written}

-- start j of the six
abbrev start_at : Instruction → ℕ → Start
start_at m j = start_of (parts_of m) (j / 3 % 2) (j % 3)

-- one of the six
record Six (m : Instruction) (zero short : Bool) (s : Start) : Type 0 where
  pub j : ℕ
  pub below : j < 6
  pub is : start_at m j ≡ s
  pub fits : T (start_fits (parts_of m) zero short (j / 3 % 2) (j % 3))

six : (m : Instruction) (zero short : Bool) (s : Start) → T (chosen m zero short s) → Six m zero short s
six m zero short s t = step 0 tt _ t λ t. step 1 tt _ t λ t. step 2 tt _ t λ t. step 3 tt _ t λ t. step 4 tt _ t λ t. this 5 tt t
  where
    fit : ℕ → Bool
    fit j = fitting_start m zero short s (j / 3 % 2) (j % 3)

    this : (j : ℕ) → T (ltb j 6) → T (fit j) → Six m zero short s
    this j l t =
        let (f, e) = both_parts (start_fits (parts_of m) zero short (j / 3 % 2) (j % 3)) (same_start (start_at m j) s) t in
        record { j = j; below = ltb→lt j 6 l; is = start_eq (start_at m j) s e; fits = f }

    step : (j : ℕ) → T (ltb j 6) → (b : Bool) → T (either (fit j) b) → (T b → Six m zero short s) → Six m zero short s
    step j l b t f = go (fit j) (this j l) t
      where
        go : (a : Bool) → (T a → Six m zero short s) → T (either a b) → Six m zero short s
        go true g t = g tt
        go false g t = f t

-- s is candidate i, which is possible
pub record Found (off : ℕ) (s : List ℕ) (m : Instruction) : Type 0 where
  pub i : ℕ
  pub below : i < 12
  pub is : s ≡ candidate off m i
  pub can : T (possible (parts_of m) i)

at_index : (off : ℕ) (s : List ℕ) (m : Instruction) (p : ℕ) (start : Start) (i j : ℕ) → s ≡ string_of off p start (parts_of m) → start_at m j ≡ start
    → i / 3 % 2 ≡ j / 3 % 2 → i % 3 ≡ j % 3 → pick (ltb i 6) 0 (prefix_of m) ≡ p → m.repeat ≡ 0 → s ≡ candidate off m i
unfolding candidate_of
at_index off s m p start i j e es ew em ep z = e ∙ sym (rw (ew, em, es, ep, z) refl)

plain_found : (off : ℕ) (s : List ℕ) (m : Instruction) → off < 65536 → Bytes s → read_plain off s ≡ Ok (m, length s) → Found off s m
unfolding possible start_fits
plain_found off s m h bs e = let w = written off s m h bs e in finish w (six m w.zero w.short w.start w.is_chosen) w.prefix_none
  where
    d : ℕ
    d = displacement_of m

    r : m.repeat ≡ 0
    r = plain_repeat off s m (length s) e

    -- the start's index is a candidate's, with its prefix or without
    can : (w : Written off s m) (g : Six m w.zero w.short w.start) (i : ℕ) → i / 3 % 2 ≡ g.j / 3 % 2 → i % 3 ≡ g.j % 3
        → T (prefix_fits (prefix_of m) i) → T (possible (parts_of m) i)
    can w g i ew em t =
        rw (r, ew, em)
        (both_true (prefix_fits (prefix_of m) i) (start_fits (parts_of m) (eqb d 0) (is_short d) (g.j / 3 % 2) (g.j % 3)) t
        (start_fits_lem w.zero w.short (eqb d 0) (is_short d) w.is_zero w.is_short_displacement (parts_of m) (g.j / 3 % 2) (g.j % 3) g.fits))

    without_prefix : (w : Written off s m) → Six m w.zero w.short w.start → w.p ≡ 0 → Found off s m
    without_prefix w g z =
        record {
          i = g.j;
          below = omega (arith, g.below);
          is = at_index off s m w.p w.start g.j g.j w.is g.is refl refl (rw (lt-ltb g.j 6 g.below) (sym z)) r;
          can = can w g g.j refl refl (rw (lt-ltb g.j 6 g.below) tt);
        }

    finish : (w : Written off s m) → Six m w.zero w.short w.start → (w.p ≡ 0) ⊎ (w.p ≡ prefix_of m) → Found off s m
    finish w g (inl z) = without_prefix w g z
    finish w g (inr z) = go (eqb (prefix_of m) 0) refl
      where
        go : (q : Bool) → eqb (prefix_of m) 0 ≡ q → Found off s m
        go true q = without_prefix w g (z ∙ eqb-true (prefix_of m) 0 q)
        go false q =
            let l = le-ltb (g.j + 6) 6 (omega arith) in
            record {
              i = g.j + 6;
              below = omega (arith, g.below);
              is =
                  at_index off s m w.p w.start (g.j + 6) g.j w.is g.is (omega arith) (omega arith)
                  (rw l (sym z)) r;
              can = can w g (g.j + 6) (omega arith) (omega arith) (rw (l, q) tt);
            }

-- ---- with a repeat
-- a string operation's start is its opcode
abbrev own_start : Form → Bool
own_start f = pick (is_string f.operation) (eqb ((start_of (parts_of (bare f.operation)) primary 0).opcode % 256) f.opcode) true

own_starts : T (each_of own_start forms)
unfolding forms is_string number_of start_of start_in St.single grouped_of
own_starts = tt

repeat_found : (off : ℕ) (s : List ℕ) (m : Instruction) → ReadsAs off m s → Repeated off s → Found off s m
unfolding candidate_of start_of possible
repeat_found off s m e r = record { i = 0; below = omega arith; is = is_it r.string.behind r.string.in_order; can = first }
  where
    op_opcode : (start_of (parts_of (bare r.string.op)) primary 0).opcode % 256 ≡ r.string.c
    op_opcode =
        eqb-true _ _ (is_true _ (rw r.string.op_is_string at (each_at own_start forms own_starts r.string.listed)))

    is_m : repeated r.b (bare r.string.op) ≡ m
    is_m = (same_parts (sym r.reads_it ∙ e)).0

    first : T (possible (parts_of m) 0)
    first = rw (← is_m, repeat_some r.b r.byte_is_repeat) tt

    two : length s ≡ 2
    two = (same_parts (sym e ∙ r.reads_it)).1

    is_it : (t : List ℕ) → r.behind ≡ r.string.c ∷ t → s ≡ candidate off m 0
    is_it [] q =
        let y : s ≡ r.b ∷ r.string.c ∷ [] = r.in_order ∙ ap (λ (l : List ℕ). r.b ∷ l) q in
        let w : r.b % 256 ≡ r.b = omega (arith, repeat_byte r.b r.byte_is_repeat) in
        rw (← is_m, repeat_some r.b r.byte_is_repeat, op_opcode, w) y
    is_it (x ∷ t) q = let y = two in absurd (omega (arith, y, ap length r.in_order, ap length q))

pub none_missing : (off : ℕ) (s : List ℕ) (m : Instruction) → off < 65536 → Bytes s → ReadsAs off m s → Found off s m
none_missing off s m h bs e = go (how_read off s)
  where
    go : HowRead off s → Found off s m
    go (with_repeat r) = repeat_found off s m e r
    go (without n q) = plain_found off s m h bs (sym q ∙ e)
