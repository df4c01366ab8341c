use Rattle.show_text.proofs.Laws.{first_made}
use Rattle.show_text.proofs.first_line.Goals as goal

pub returns : goal.returns
returns c = first_made c.args.header c.empty_line.ensures c.push_text-mark.ensures c.push_decimal-version.ensures c.push-behind_version.ensures c.push_hex_word-origin.ensures c.push-behind_origin.ensures c.push_decimal-count.ensures c.push.ensures
