use mathlib.Core.Path.{◌≡◌, sym, ◌∙◌}
use native.Mathlib.Omega.{arith}
use Prim.Native.Nat.{◌+◌, ◌%◌}
use Rattle.fast_encoder.proofs.arithmetic_imm.Goals as goal

pub returns-then-in_range : goal.returns-then-in_range
returns-then-in_range c = λ off h. rw (c.if-size-eq2.true, rw c.u32_at.ensures at (sym c.in_range.ensures ∙ c.if-in_range.true)) (omega arith, c.rm_sign_extended.ensures off h)

pub returns-then-acc : goal.returns-then-acc
returns-then-acc c =
    λ off h. let b = c.args.base in
    let e : (b + 5) % 256 ≡ b + 4 + 1 = omega arith in
    rw (c.if-size-eq2.true, rw c.u32_at.ensures at (sym c.in_range.ensures ∙ c.if-in_range.false), c.if-acc.true, e) (omega arith, (c.bare_imm.ensures off h).1)

pub returns-then-size-eq2 : goal.returns-then-size-eq2
returns-then-size-eq2 c = λ off h. rw (c.if-size-eq2.true, rw c.u32_at.ensures at (sym c.in_range.ensures ∙ c.if-in_range.false), c.if-acc.false) (omega arith, (c.rm_imm.ensures off h).1)

pub returns-then-acc-2 : goal.returns-then-acc-2
returns-then-acc-2 c =
    λ off h. let z = c.bare_imm-then-acc-2.ensures off h in
    let b = c.args.base in
    let n : c.args.size ≡ 1 = omega (arith, z.0, c.requires.1.0, c.if-size-eq2.false) in
    let e : (b + 4) % 256 ≡ b + 4 + 0 = omega arith in
    rw (n, c.if-acc-2.true, e) (omega arith, rw n at z.1)

pub returns : goal.returns
returns c =
    λ off h. let z = c.rm_imm-2.ensures off h in
    let n : c.args.size ≡ 1 = omega (arith, z.0, c.requires.1.0, c.if-size-eq2.false) in
    rw (n, c.if-acc-2.false) (omega arith, rw n at z.1)
