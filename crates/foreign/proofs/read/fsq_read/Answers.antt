use Rattle.std.proofs.Common.{sym, ◌∙◌, le-leb}
use borrow.Author.Tests.{lt-leb}
use Rattle.foreign.proofs.read.fsq_read.Goals as goal

-- by the words, with and without room for them
pub returns-then-out-lt24 : goal.returns-then-out-lt24
returns-then-out-lt24 c =
    let w = c.words_at-words.ensures c.if-words-gt0.true in
    record { value = rw w.is; out_after = rw (w.is, lt-leb _ _ c.if-out-lt24.true) }

pub returns-then-words-gt0 : goal.returns-then-words-gt0
returns-then-words-gt0 c =
    let w = c.words_at-words.ensures c.if-words-gt0.true in
    record { value = rw w.is; out_after = rw (w.is, le-leb _ _ c.if-out-lt24.false) (rw (w.head, w.extension, w.a, w.b, w.c, w.d) at c.write_words.ensures) }

-- by the reader
pub returns-then-out-lt24-2 : goal.returns-then-out-lt24-2
returns-then-out-lt24-2 c =
    let e = sym c.read-read.ensures ∙ c.in-Ok.is in
    record { value = rw e; out_after = rw (e, lt-leb _ _ c.if-out-lt24-2.true) }

pub returns-else-out-lt24-2 : goal.returns-else-out-lt24-2
returns-else-out-lt24-2 c =
    let e = sym c.read-read.ensures ∙ c.in-Ok.is in
    record { value = rw e; out_after = rw (e, le-leb _ _ c.if-out-lt24-2.false) c.write_read.ensures }

pub returns-in-Err : goal.returns-in-Err
returns-in-Err c =
    let e = sym c.read-read.ensures ∙ c.in-Err.is in
    record { value = rw e c.number.ensures; out_after = rw e }
