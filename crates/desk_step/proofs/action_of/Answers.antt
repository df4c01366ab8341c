-- Each arm's facts, put into the definition.
use Rattle.std.proofs.Common.{◌≡◌, rules}
use Rattle.mrc_compiler.specs.Operations.{number_of}
use Rattle.x86.specs.declared.Operand.TheVariants as O
use Rattle.desk_step.specs.Step.{register_in, immediate_in, action_of}
use Rattle.desk_step.proofs.Laws.{not_carried, no_register, no_immediate, no_target, no_width, no_byte}
use Rattle.std.proofs.Common.{ne_eqb}
use Rattle.desk_step.proofs.action_of.Goals as goal

pub returns-in-MOV-Word-Register-Immediate : goal.returns-in-MOV-Word-Register-Immediate
unfolding action_of number_of
returns-in-MOV-Word-Register-Immediate c = rw (c.in-MOV-Word-Register-Immediate.is-0, c.in-MOV-Word-Register-Immediate.is-1, c.in-MOV-Word-Register-Immediate.is-2, c.in-MOV-Word-Register-Immediate.is-3)

pub returns-in-MOV-Byte-Register-Immediate : goal.returns-in-MOV-Byte-Register-Immediate
unfolding action_of number_of
returns-in-MOV-Byte-Register-Immediate c = rw (c.in-MOV-Byte-Register-Immediate.is-0, c.in-MOV-Byte-Register-Immediate.is-1, c.in-MOV-Byte-Register-Immediate.is-2, c.in-MOV-Byte-Register-Immediate.is-3)

pub returns-in-LOOP-default-Near-default : goal.returns-in-LOOP-default-Near-default
unfolding action_of number_of
returns-in-LOOP-default-Near-default c = rw (c.in-LOOP-default-Near-default.is-0, c.in-LOOP-default-Near-default.is-2)

pub returns-in-JMP-default-Near-default : goal.returns-in-JMP-default-Near-default
unfolding action_of number_of
returns-in-JMP-default-Near-default c = rw (c.in-JMP-default-Near-default.is-0, c.in-JMP-default-Near-default.is-2)

pub returns-in-OUT-Byte-Immediate-Register-eq0 : goal.returns-in-OUT-Byte-Immediate-Register-eq0
unfolding action_of number_of
returns-in-OUT-Byte-Immediate-Register-eq0 c = let h = c.in-OUT-Byte-Immediate-Register-eq0 in let e : c.args.m.second ≡ O.Register 0 = cc in rw (h.is-0, h.is-1, h.is-2, e)

pub returns-in-HLT-default-default-default : goal.returns-in-HLT-default-default-default
unfolding action_of number_of
returns-in-HLT-default-default-default c = rw (c.in-HLT-default-default-default.is-0)

pub returns-in_default : goal.returns-in_default
unfolding action_of number_of
returns-in_default c = rw (c.in_default.is-0, c.in_default.is-1, c.in_default.is-2, no_immediate _ c.in_default.not-Immediate-3)

pub returns-in_default-2 : goal.returns-in_default-2
unfolding action_of number_of
returns-in_default-2 c = rw (c.in_default.is-0, c.in_default.is-1, no_register _ c.in_default.not-Register-2)

pub returns-in_default-3 : goal.returns-in_default-3
unfolding action_of number_of
returns-in_default-3 c = rw (c.in_default.is-0, c.in_default.is-1, c.in_default.is-2, no_immediate _ c.in_default.not-Immediate-3)

pub returns-in_default-4 : goal.returns-in_default-4
unfolding action_of number_of
returns-in_default-4 c = rw (c.in_default.is-0, c.in_default.is-1, no_register _ c.in_default.not-Register-2)

pub returns-in_default-5 : goal.returns-in_default-5
unfolding action_of number_of
returns-in_default-5 c = rw (c.in_default.is-0, c.in_default.is-1) (no_width (register_in c.args.m.first) (immediate_in c.args.m.second))

pub returns-in_default-6 : goal.returns-in_default-6
unfolding action_of number_of
returns-in_default-6 c = rw (c.in_default.is-0, no_target _ c.in_default.not-Near-2)

pub returns-in_default-7 : goal.returns-in_default-7
unfolding action_of number_of
returns-in_default-7 c = rw (c.in_default.is-0, no_target _ c.in_default.not-Near-2)

pub returns-in_default-8 : goal.returns-in_default-8
unfolding action_of number_of
returns-in_default-8 c = let d = c.in_default in rw (d.is-0, d.is-1, d.is-2, d.is-3, ne_eqb d.field-0-3 0 d.field-0-3-test.1)

pub returns-in_default-9 : goal.returns-in_default-9
unfolding action_of number_of
returns-in_default-9 c = rw (c.in_default.is-0, c.in_default.is-1, c.in_default.is-2, no_register _ c.in_default.not-Register-3)

pub returns-in_default-10 : goal.returns-in_default-10
unfolding action_of number_of
returns-in_default-10 c = rw (c.in_default.is-0, c.in_default.is-1, no_immediate _ c.in_default.not-Immediate-2)

pub returns-in_default-11 : goal.returns-in_default-11
unfolding action_of number_of
returns-in_default-11 c = rw c.in_default.is-0 (no_byte c.args.m.width c.in_default.not-Byte-1 (immediate_in c.args.m.first) (register_in c.args.m.second))

pub returns-in_default-12 : goal.returns-in_default-12
returns-in_default-12 c = not_carried c.args.m (search rules) (search rules) (search rules) (search rules) c.in_default.not-HLT-0
