use borrow.Author.Rules.{rules}
use Rattle.fast_rows.proofs.common_of.Goals as goal

pub returns-in-1 : goal.returns-in-1
returns-in-1 c = λ h. search rules

pub returns-in-2 : goal.returns-in-2
returns-in-2 c = λ h. search rules

pub returns-in-3 : goal.returns-in-3
returns-in-3 c = λ h. search rules

pub returns-in-4 : goal.returns-in-4
returns-in-4 c = λ h. search rules

pub returns-in-6 : goal.returns-in-6
returns-in-6 c = λ h. search rules

pub returns-in-8 : goal.returns-in-8
returns-in-8 c = λ h. search rules
