use Rattle.text_line.proofs.Laws.{then, byte}
use mathlib.Core.List.{◌∷◌, ◌++◌}
use Rattle.text_line.specs.Numbers.{blank}
use Rattle.text_form.specs.Lines.{kind_name, size_name, operand_text}
use Rattle.text_form.proofs.push_operand.Goals as goal

pub returns : goal.returns
unfolding operand_text
returns c =
    let o = c.args.oper in
    byte c.args.line blank (kind_name o.kind ++ (0x3A ∷ size_name o.size)) c.push-behind.ensures
    (then _ (kind_name o.kind) (0x3A ∷ size_name o.size) c.push_kind-named.ensures
    (byte c.push_kind-named.result 0x3A (size_name o.size) c.push-colon.ensures c.push_size.ensures))
