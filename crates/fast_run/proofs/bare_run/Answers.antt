use Rattle.fast_run.proofs.Laws.{unpacked_of, digits_bytes, digits-length, more}
use native.Mathlib.Omega.{arith}
use borrow.Author.Rules.{rules}
use Rattle.fast_run.proofs.bare_run.Goals as goal

pub returns : goal.returns
returns c =
    let n = c.args.n in
    let v = c.args.value in
    unpacked_of _ _ (more (search rules) (digits_bytes n v)) (omega (arith, digits-length n v, c.requires.few))
    (omega (arith, digits-length n v, c.requires.whole))
