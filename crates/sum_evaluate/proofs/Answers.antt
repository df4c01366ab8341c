-- The answer by the shape of the text and the value of the sum that stands at its front.
-- Assumes nothing.
use Rattle.std.specs.Prelude.{ℤ, Option, Some, None, Err}
use mathlib.Core.Path.{◌≡◌, refl}
use mathlib.Core.Bool.{true}
use mathlib.Core.List.{List}
use Prim.Native.Nat.{ℕ, ◌≤◌, ◌<◌}
use native.Mathlib.Omega.{arith}
use borrow.Author.Tests.{le-leb, lt-leb}
use Rattle.sum_spec.specs.declared.SumError.TheVariants as E
use Rattle.sum_spec.specs.Sums.{Sum, sum_depth, sum_value, Read, reads, no_text, most_depth, answer_of_value}
use Rattle.sum_spec.specs.Reading.{reading, answer_of}
use Rattle.sum_shape.specs.Pass.{shape_of}
use Rattle.sum_evaluate.specs.Parts.{SumTo, ends_sum}
use Rattle.sum_evaluate.proofs.Laws.{whole_value}

-- a text whose shape is known reads
reads_deep : (r : Read) (d : ℕ) → shape_of r ≡ Some d → (t : Sum) × (r ≡ reads t) × (sum_depth t ≡ d)
reads_deep (reads t) d e = (t, refl, deep e)
  where
    deep : {m n : ℕ} → Some m ≡ Some n → m ≡ n
    deep e = cc
reads_deep no_text d e = let z : ◌≡◌ {A = ℕ} 0 1 = cc in absurd (omega arith)

reads_none : (r : Read) → shape_of r ≡ None → r ≡ no_text
reads_none (reads t) e = let z : ◌≡◌ {A = ℕ} 0 1 = cc in absurd (omega arith)
reads_none no_text e = refl

module _ (text : List ℕ) (d : ℕ) (shape : shape_of (reading text) ≡ Some d) where
  pub with_value : d ≤ most_depth → (v : Option ℤ) (rest : List ℕ) → SumTo text most_depth v rest → ends_sum rest ≡ true → answer_of_value v ≡ answer_of text
  unfolding answer_of reading
  with_value l v rest sum stops =
      let x = reads_deep (reading text) d shape in
      let same : v ≡ sum_value x.0 = whole_value text most_depth v rest x.0 (omega (arith, x.2)) sum stops x.1 in
      rw (x.1, le-leb (sum_depth x.0) most_depth (omega (arith, x.2)), same)

  pub too_deep : most_depth < d → Err E.TooDeep ≡ answer_of text
  unfolding answer_of
  too_deep l =
      let x = reads_deep (reading text) d shape in
      rw (x.1, lt-leb (sum_depth x.0) most_depth (omega (arith, x.2)))

pub no_such_text : (text : List ℕ) → shape_of (reading text) ≡ None → Err E.NoText ≡ answer_of text
unfolding answer_of
no_such_text text shape = rw (reads_none (reading text) shape)
