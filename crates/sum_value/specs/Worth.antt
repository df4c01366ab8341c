-- A row of minus signs before a value, the innermost first.
-- Definitions only.
use Rattle.std.specs.Prelude.{ℕ, zero, suc, ℤ, Option}
use Rattle.sum_spec.specs.Sums.{negated}

abbrev pub negations : ℕ → Option ℤ → Option ℤ
negations zero v = v
negations (suc n) v = negations n (negated v)
