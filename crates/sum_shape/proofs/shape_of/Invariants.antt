use Rattle.std.proofs.Common.{◌≡◌, ◌≤◌, drop}
use Rattle.sum_shape.specs.Pass.{start_pass, pass_over}
use Rattle.sum_shape.proofs.shape_of.Given as goal

abbrev pub invariant-loop-c : goal.invariant-loop-c
invariant-loop-c l = (l.pass.depth ≤ l.c-index) × (pass_over l.pass (drop l.c-index l.text) ≡ pass_over start_pass l.text)
