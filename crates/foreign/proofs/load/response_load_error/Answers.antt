use Rattle.foreign.proofs.load.response_load_error.Goals as goal

pub returns-in-NoMark : goal.returns-in-NoMark
returns-in-NoMark c = rw c.in-NoMark.is c.response_alone.ensures

pub returns-in-WrongVersion : goal.returns-in-WrongVersion
returns-in-WrongVersion c = rw c.in-WrongVersion.is c.response_alone-in-WrongVersion.ensures

pub returns-in-WrongLength : goal.returns-in-WrongLength
returns-in-WrongLength c = rw c.in-WrongLength.is c.response_alone-in-WrongLength.ensures

pub returns-in-UnknownCode : goal.returns-in-UnknownCode
returns-in-UnknownCode c = rw c.in-UnknownCode.is (rw c.response_alone-in-UnknownCode.ensures at c.of_record.ensures)

pub returns-in-Record : goal.returns-in-Record
returns-in-Record c = rw c.in-Record.is (rw c.response_refusal.ensures at c.of_record-in-Record.ensures)
