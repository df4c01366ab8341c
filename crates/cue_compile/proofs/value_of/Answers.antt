use Prim.Native.Nat.{◌<◌}
use mathlib.Core.Path.{refl, ◌∙◌}
use mir.Syntax.{w32}
use mir.ValLaws.{to_z_pos}
use borrow.Author.Rules.{rules}
use Rattle.cue_compile.proofs.value_of.Goals as goal

pub returns : goal.returns
returns c =
    let n = c.args.n in
    let h : n < 2147483648 = search rules in
    c.immediate.ensures ∙ rw (c.no_span.ensures, to_z_pos w32 n h) refl
