-- Demands 1 and 2 for what encode returns and leaves in the lent slice: where it answers a length, that many bytes at the front read, to the
-- last one, as the record's instruction, and the bytes behind stay; where it refuses, no byte changes.
-- Assumes nothing.
use Rattle.std.specs.Prelude.{Err, Ok}
use mathlib.Core.Path.{◌≡◌, refl, ap}
use mathlib.Core.Bool.{Bool, true, false}
use mathlib.Core.List.{List, [], ◌∷◌, ◌++◌}
use Prim.Native.Nat.{ℕ, ◌<◌}
use native.Mathlib.Omega.{arith}
use lib.Dec.{leb}
use lib.ListN.{length, take, drop}
use Rattle.mrc_compiler.specs.declared.encoder.EncodeError.{EncodeError}
use Rattle.mrc_compiler.specs.declared.encoder.EncodeError.TheVariants as E
use Rattle.mrc_compiler.specs.declared.encoder.InstructionData.{InstructionData}
use Rattle.mrc_compiler.specs.Choose.{pick}
use Rattle.encode_spec.specs.Meaning.{meaning}
use Rattle.encode_spec.specs.Answer.{Answer, bytes, refused, answer, outcome, slice_after}
use Rattle.encode_spec.proofs.Accepted.{Reads, accepted_reads}

front : (bs s : List ℕ) → take (length bs) (bs ++ s) ≡ bs
front [] s = refl
front (b ∷ bs) s = ap (λ (l : List ℕ). b ∷ l) (front bs s)

behind : (bs s : List ℕ) → drop (length bs) (bs ++ s) ≡ s
behind [] s = refl
behind (b ∷ bs) s = behind bs s

not_both : {n : ℕ} {e : EncodeError} → Err e ≡ Ok n → ⊥
not_both q = let z : ◌≡◌ {A = ℕ} 0 1 = cc in omega arith

-- the slice after an answer of n bytes at an offset
pub record Written (insn : InstructionData) (off n : ℕ) (before after : List ℕ) : Type 0 where
  pub reads : Reads off (meaning insn) (take n after)
  pub count : length (take n after) ≡ n
  pub rest : drop n after ≡ drop n before

module _ (insn : InstructionData) (off : ℕ) (s : List ℕ) where
  written_by : off < 65536 → (a : Answer) → answer insn off ≡ a → (n : ℕ) → outcome a insn.opers_span s ≡ Ok n
      → Written insn off n s (slice_after a s)
  written_by h (refused e) q n o = absurd (not_both o)
  written_by h (bytes bs) q n o = go (leb (length bs) (length s)) o
    where
      go : (t : Bool) → pick t (Ok (length bs)) (Err (E.SliceTooShort insn.opers_span)) ≡ Ok n
          → Written insn off n s (pick t (bs ++ drop (length bs) s) s)
      go false o = absurd (not_both o)
      go true o =
          let e : n ≡ length bs = cc in
          rw (e)
          (record {
            reads = rw (front bs (drop (length bs) s)) (accepted_reads insn off h bs q);
            count = rw (front bs (drop (length bs) s));
            rest = behind bs (drop (length bs) s);
          })

  pub encoded_reads : off < 65536 → (n : ℕ) → outcome (answer insn off) insn.opers_span s ≡ Ok n
      → Written insn off n s (slice_after (answer insn off) s)
  encoded_reads h = written_by h (answer insn off) refl

  unchanged : (a : Answer) (e : EncodeError) → outcome a insn.opers_span s ≡ Err e → slice_after a s ≡ s
  unchanged (refused x) e o = refl
  unchanged (bytes bs) e o = go (leb (length bs) (length s)) o
    where
      go : (t : Bool) → pick t (Ok (length bs)) (Err (E.SliceTooShort insn.opers_span)) ≡ Err e
          → pick t (bs ++ drop (length bs) s) s ≡ s
      go false o = refl
      go true o = let z : ◌≡◌ {A = ℕ} 0 1 = cc in absurd (omega arith)

  pub refused_leaves : (e : EncodeError) → outcome (answer insn off) insn.opers_span s ≡ Err e → slice_after (answer insn off) s ≡ s
  refused_leaves e = unchanged (answer insn off) e
