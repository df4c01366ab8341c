use Rattle.foreign.specs.EncodeRecord.{record_of}
use Rattle.std.proofs.Common.{sym, ◌∙◌, rules}
use Rattle.foreign.proofs.encode.record_number.Goals as goal

pub is_record-requires : goal.is_record-requires
unfolding record_of
is_record-requires c = search rules

pub codes_known-requires : goal.codes_known-requires
unfolding record_of
codes_known-requires c = sym c.is_record.ensures ∙ c.if-is_record.true

pub returns-then-codes_known : goal.returns-then-codes_known
unfolding record_of
returns-then-codes_known c = rw (sym c.is_record.ensures ∙ c.if-is_record.true, sym c.codes_known.ensures ∙ c.if-codes_known.true)

pub returns-then-is_record : goal.returns-then-is_record
unfolding record_of
returns-then-is_record c = rw (sym c.is_record.ensures ∙ c.if-is_record.true, sym c.codes_known.ensures ∙ c.if-codes_known.false)

pub returns : goal.returns
unfolding record_of
returns c = rw (sym c.is_record.ensures ∙ c.if-is_record.false)
