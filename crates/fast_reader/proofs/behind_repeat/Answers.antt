use mathlib.Core.Path.{sym, ◌∙◌}
use native.Mathlib.Omega.{arith}
use Rattle.fast_reader.proofs.Repeats.{string_some, repeat_reads}
use Rattle.fast_reader.proofs.behind_repeat.Goals as goal

pub returns-then-bytes-lt2 : goal.returns-then-bytes-lt2
returns-then-bytes-lt2 c = λ off h. absurd (omega (arith, c.no_words.ensures))

pub returns-then-is_string : goal.returns-then-is_string
returns-then-is_string c = λ off h. rw c.repeated.ensures (repeat_reads off _ c.args.bytes.now c.if-bytes-lt2.false (λ i. (c.shared_slice_known-1.given i).fits) (sym c.is_repeat.ensures ∙ c.if-is_repeat.true) (c.plan_of-plan.ensures (string_some _ (sym c.is_string.ensures ∙ c.if-is_string.true))) (sym c.is_string.ensures ∙ c.if-is_string.true))

pub returns-then-is_repeat : goal.returns-then-is_repeat
returns-then-is_repeat c = λ off h. absurd (omega (arith, c.no_words-then-is_repeat.ensures))

pub returns : goal.returns
returns c = λ off h. absurd (omega (arith, c.no_words-2.ensures))
