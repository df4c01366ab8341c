use Rattle.std.proofs.Common.{◌≡◌, take}
use Rattle.text_line.specs.Steps.{appended}
use Rattle.text_line.proofs.push_text.Given as goal

abbrev pub invariant-loop-byte : goal.invariant-loop-byte
invariant-loop-byte l = l.so_far ≡ appended l.initial.so_far (take l.byte-index l.text)
