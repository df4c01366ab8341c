use native.Mathlib.Omega.{arith}
use Rattle.fast_reader.proofs.words_at.Goals as goal

pub by_modrm-requires : goal.by_modrm-requires
by_modrm-requires c = (c.if-start-bytes.true, c.opcode_start-start.ensures.value, c.prefix_of.ensures, c.plan_of-plan.ensures (omega (arith, c.if-group-gt1.true)), c.if-group-gt1.true)

pub returns-then-group-gt1 : goal.returns-then-group-gt1
returns-then-group-gt1 c = λ h. c.by_modrm.ensures _ h

pub bare-requires : goal.bare-requires
bare-requires c = (c.if-bytes-gt0.true, rw c.if-start-eq0.true at (c.plan_of-plan.ensures (omega (arith, c.if-group-eq1.true))), c.if-group-eq1.true)

pub returns-then-group-eq1 : goal.returns-then-group-eq1
returns-then-group-eq1 c = λ h. absurd (omega (arith, c.no_words.ensures))

pub returns-then-start-bytes : goal.returns-then-start-bytes
returns-then-start-bytes c = λ h. c.behind_repeat.ensures _ h

pub returns-then-bytes-gt0 : goal.returns-then-bytes-gt0
returns-then-bytes-gt0 c = λ h. absurd (omega (arith, c.no_words-then-bytes-gt0.ensures))

pub returns : goal.returns
returns c = λ h. absurd (omega (arith, c.no_words-2.ensures))
