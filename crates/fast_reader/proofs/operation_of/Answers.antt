use borrow.Author.Rules.{rules}
use Rattle.fast_reader.proofs.operation_of.Goals as goal

pub returns-in-0 : goal.returns-in-0
returns-in-0 c = λ h. search rules

pub returns-in-1 : goal.returns-in-1
returns-in-1 c = λ h. search rules

pub returns-in-2 : goal.returns-in-2
returns-in-2 c = λ h. search rules

pub returns-in-3 : goal.returns-in-3
returns-in-3 c = λ h. search rules

pub returns-in-4 : goal.returns-in-4
returns-in-4 c = λ h. search rules

pub returns-in-5 : goal.returns-in-5
returns-in-5 c = λ h. search rules

pub returns-in-6 : goal.returns-in-6
returns-in-6 c = λ h. search rules

pub returns-in-7 : goal.returns-in-7
returns-in-7 c = λ h. search rules

pub returns-in-8 : goal.returns-in-8
returns-in-8 c = λ h. search rules

pub returns-in-16 : goal.returns-in-16
returns-in-16 c = λ h. search rules

pub returns-in-24 : goal.returns-in-24
returns-in-24 c = λ h. search rules

pub returns-in-25 : goal.returns-in-25
returns-in-25 c = λ h. search rules

pub returns-in-26 : goal.returns-in-26
returns-in-26 c = λ h. search rules

pub returns-in-27 : goal.returns-in-27
returns-in-27 c = λ h. search rules

pub returns-in-28 : goal.returns-in-28
returns-in-28 c = λ h. search rules

pub returns-in-29 : goal.returns-in-29
returns-in-29 c = λ h. search rules

pub returns-in-31 : goal.returns-in-31
returns-in-31 c = λ h. search rules

pub returns-in-34 : goal.returns-in-34
returns-in-34 c = λ h. search rules

pub returns-in-35 : goal.returns-in-35
returns-in-35 c = λ h. search rules

pub returns-in-36 : goal.returns-in-36
returns-in-36 c = λ h. search rules

pub returns-in-37 : goal.returns-in-37
returns-in-37 c = λ h. search rules

pub returns-in-38 : goal.returns-in-38
returns-in-38 c = λ h. search rules

pub returns-in-39 : goal.returns-in-39
returns-in-39 c = λ h. search rules

pub returns-in-40 : goal.returns-in-40
returns-in-40 c = λ h. search rules

pub returns-in-41 : goal.returns-in-41
returns-in-41 c = λ h. search rules

pub returns-in-48 : goal.returns-in-48
returns-in-48 c = λ h. search rules

pub returns-in-49 : goal.returns-in-49
returns-in-49 c = λ h. search rules

pub returns-in-50 : goal.returns-in-50
returns-in-50 c = λ h. search rules

pub returns-in-52 : goal.returns-in-52
returns-in-52 c = λ h. search rules

pub returns-in-54 : goal.returns-in-54
returns-in-54 c = λ h. search rules
