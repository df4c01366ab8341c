use Rattle.foreign.proofs.convert.response_convert_error.Goals as goal

pub returns-in-Load : goal.returns-in-Load
returns-in-Load c = rw c.in-Load.is c.response_load_error.ensures

pub returns-in-ShiftCountOutOfRange : goal.returns-in-ShiftCountOutOfRange
returns-in-ShiftCountOutOfRange c = rw c.in-ShiftCountOutOfRange.is (rw c.response_alone.ensures at c.of_record.ensures)

pub returns-in-NoRecordAtTarget : goal.returns-in-NoRecordAtTarget
returns-in-NoRecordAtTarget c = rw c.in-NoRecordAtTarget.is (rw c.response_alone-in-NoRecordAtTarget.ensures at c.of_record-in-NoRecordAtTarget.ensures)

pub returns-in-SliceTooShort : goal.returns-in-SliceTooShort
returns-in-SliceTooShort c = rw c.in-SliceTooShort.is c.response_alone-in-SliceTooShort.ensures
