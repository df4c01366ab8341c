use Rattle.std.proofs.Common.{ℕ, List, [], ◌∷◌, ◌≡◌, ◌∙◌, arith}
use Rattle.std.proofs.lemmas.Bool.Decides.{nat_tests}
use Rattle.std.specs.Prelude.{nat_eq}
use Rattle.std.specs.List.{starts_with}
use Rattle.show_file.specs.Show.{has_mark}
use Rattle.show_file.proofs.has_mark.Goals as goal

-- the three bytes in front, one by one
marked : (file : List ℕ) → starts_with nat_eq file (0x46 ∷ 0x53 ∷ 0x51 ∷ []) ≡ has_mark file
unfolding has_mark
marked [] = grind (arith, nat_tests)
marked (a ∷ []) = grind (arith, nat_tests)
marked (a ∷ b ∷ []) = grind (arith, nat_tests)
marked (a ∷ b ∷ d ∷ file) = grind (arith, nat_tests)

pub returns : goal.returns
returns c = c.starts_with.ensures.value ∙ marked c.args.file.now
