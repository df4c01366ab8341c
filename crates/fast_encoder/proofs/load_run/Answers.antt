use mathlib.Core.Path.{◌≡◌, refl}
use native.Mathlib.Omega.{arith}
use Prim.Native.Nat.{◌+◌}
use Rattle.fast_forms.proofs.Laws.{first_operand, second_operand}
use Rattle.fast_encoder.proofs.load_run.Goals as goal

pub returns-then-rec-ne2 : goal.returns-then-rec-ne2
returns-then-rec-ne2 c = λ off h. absurd (omega arith)

pub rm_reg-requires : goal.rm_reg-requires
rm_reg-requires c = (c.requires.0, (second_operand _ c.requires.0, (first_operand _ c.requires.0, (omega arith, c.requires.1))))

pub returns : goal.returns
returns c =
    λ off h. let e : c.args.base + 0 ≡ c.args.base = omega arith in
    (c.if-rec-ne2.false, rw e at (c.rm_reg.ensures 1 off refl refl h).1)
