use borrow.Author.Tests.{lt-ltb, le-ltb}
use Rattle.reader.proofs.Laws.{string_byte_lem}
use Rattle.reader.proofs.begins_string.Goals as goal

pub returns-then-c-lt164 : goal.returns-then-c-lt164
returns-then-c-lt164 c = rw (← (string_byte_lem _ c.ranges.c.fits), lt-ltb _ _ c.if-c-lt164.true)

pub returns-then-c-lt168 : goal.returns-then-c-lt168
returns-then-c-lt168 c = rw (← (string_byte_lem _ c.ranges.c.fits), le-ltb _ _ c.if-c-lt164.false, lt-ltb _ _ c.if-c-lt168.true)

pub returns-then-c-lt170 : goal.returns-then-c-lt170
returns-then-c-lt170 c = rw (← (string_byte_lem _ c.ranges.c.fits), le-ltb _ _ c.if-c-lt164.false, le-ltb _ _ c.if-c-lt168.false, lt-ltb _ _ c.if-c-lt170.true)

pub returns : goal.returns
returns c = rw (← (string_byte_lem _ c.ranges.c.fits), le-ltb _ _ c.if-c-lt164.false, le-ltb _ _ c.if-c-lt168.false, le-ltb _ _ c.if-c-lt170.false)
