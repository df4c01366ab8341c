use Rattle.show_text.proofs.Laws.{refused_made}
use Rattle.show_text.proofs.refused_line.Goals as goal

pub returns : goal.returns
returns c = refused_made c.args.error _ c.number.ensures c.empty_line.ensures c.push_text-refused.ensures c.push_decimal-number.ensures c.push-behind_number.ensures c.push_record-record.ensures c.push.ensures
