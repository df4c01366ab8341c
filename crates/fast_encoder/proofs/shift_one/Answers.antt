use mathlib.Core.Path.{sym, ◌∙◌}
use native.Mathlib.Omega.{arith}
use Rattle.fast_encoder.proofs.shift_one.Goals as goal

pub returns-then-u32_at-ne1 : goal.returns-then-u32_at-ne1
returns-then-u32_at-ne1 c = λ off h. absurd (omega arith)

pub returns : goal.returns
returns c =
    λ off h. let z = c.rm_alone.ensures off h in
    let e = sym c.u32_at.ensures ∙ c.if-u32_at-ne1.false in
    (z.0, rw e z.1)
