-- The syntax pass, as the code makes it: where it stands, how many brackets are open, and how many were at most.
-- Definitions only.
use Rattle.std.specs.Prelude.{ℕ, ◌+◌, ◌-◌, max, List, [], ◌∷◌, eqb, Option, Some, None}
use Rattle.mrc_compiler.specs.Choose.{pick}
use Rattle.sum_spec.specs.Sums.{sum_depth, Read, reads, no_text}
use Rattle.sum_spec.specs.Reading.{Token, digit, plus_sign, minus_sign, star, slash, opens, closes, other, token_of}
use Rattle.sum_shape.specs.declared.Kind.{Kind}
use Rattle.sum_shape.specs.declared.Kind.TheVariants as K
use Rattle.sum_shape.specs.declared.Stand.{Stand}
use Rattle.sum_shape.specs.declared.Stand.TheVariants as S
use Rattle.sum_shape.specs.declared.Pass.{Pass}

abbrev pub shape_of : Read → Option ℕ
shape_of (reads s) = Some (sum_depth s)
shape_of no_text = None

abbrev pub kind_of : Token → Kind
kind_of (digit d) = K.Digit
kind_of plus_sign = K.Operator
kind_of minus_sign = K.Minus
kind_of star = K.Operator
kind_of slash = K.Operator
kind_of opens = K.Opens
kind_of closes = K.Closes
kind_of other = K.Other

abbrev pub pass_at : Stand → ℕ → ℕ → Pass
pass_at s depth deepest = record { stand = s; depth = depth; deepest = deepest }

abbrev pub stuck_pass : Pass
stuck_pass = pass_at S.Stuck 0 0

abbrev pub start_pass : Pass
start_pass = pass_at S.Due 0 0

abbrev pub pass_after : ℕ → ℕ → Kind → Pass
pass_after depth deepest K.Digit = stuck_pass
pass_after depth deepest K.Operator = pass_at S.Due depth deepest
pass_after depth deepest K.Minus = pass_at S.Due depth deepest
pass_after depth deepest K.Opens = stuck_pass
pass_after depth deepest K.Closes = pick (eqb depth 0) stuck_pass (pass_at S.Behind (depth - 1) deepest)
pass_after depth deepest K.Other = stuck_pass

abbrev pub pass_due : ℕ → ℕ → Kind → Pass
pass_due depth deepest K.Digit = pass_at S.Digits depth deepest
pass_due depth deepest K.Operator = stuck_pass
pass_due depth deepest K.Minus = pass_at S.Due depth deepest
pass_due depth deepest K.Opens = pass_at S.Due (depth + 1) (max deepest (depth + 1))
pass_due depth deepest K.Closes = stuck_pass
pass_due depth deepest K.Other = stuck_pass

abbrev pub pass_digits : ℕ → ℕ → Kind → Pass
pass_digits depth deepest K.Digit = pass_at S.Digits depth deepest
pass_digits depth deepest K.Operator = pass_after depth deepest K.Operator
pass_digits depth deepest K.Minus = pass_after depth deepest K.Minus
pass_digits depth deepest K.Opens = pass_after depth deepest K.Opens
pass_digits depth deepest K.Closes = pass_after depth deepest K.Closes
pass_digits depth deepest K.Other = pass_after depth deepest K.Other

abbrev pub pass_by : Stand → ℕ → ℕ → Kind → Pass
pass_by S.Due depth deepest k = pass_due depth deepest k
pass_by S.Digits depth deepest k = pass_digits depth deepest k
pass_by S.Behind depth deepest k = pass_after depth deepest k
pass_by S.Stuck depth deepest k = stuck_pass

abbrev pub pass_next : Pass → Kind → Pass
pass_next p k = pass_by p.stand p.depth p.deepest k

abbrev pub pass_over : Pass → List ℕ → Pass
pass_over p [] = p
pass_over p (c ∷ s) = pass_over (pass_next p (kind_of (token_of c))) s

abbrev pub shape_by : Stand → ℕ → Option ℕ
shape_by S.Due deepest = None
shape_by S.Digits deepest = Some deepest
shape_by S.Behind deepest = Some deepest
shape_by S.Stuck deepest = None

abbrev pub pass_end : Pass → Option ℕ
pass_end p = pick (eqb p.depth 0) (shape_by p.stand p.deepest) None
