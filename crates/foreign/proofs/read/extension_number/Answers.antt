use Rattle.foreign.proofs.read.extension_number.Goals as goal

pub returns-in-Digit : goal.returns-in-Digit
returns-in-Digit c = rw c.in-Digit.is c.wrapping_add_u8.ensures.value
