use borrow.Author.Rules.{rules}
use Rattle.show_record.proofs.Laws.{times_bit, times_bit_fits}
use Rattle.show_record.proofs.repeat_of.Goals as goal

pub overflow_mul-result : goal.overflow_mul-result
overflow_mul-result c = record { fits = times_bit_fits c.args.byte c.args.d c.requires (search rules) }

pub returns : goal.returns
returns c = times_bit c.args.byte c.args.d c.requires
