use Rattle.std.proofs.Common.{◌≡◌, take}
use Rattle.text_line.specs.Numbers.{hex_bytes}
use Rattle.text_line.specs.Steps.{appended}
use Rattle.show_text.proofs.push_run.Given as goal

abbrev pub invariant-loop-byte : goal.invariant-loop-byte
invariant-loop-byte l = l.so_far ≡ appended l.initial.so_far (hex_bytes (take l.byte-index (take l.fn.run.len l.fn.run.bytes)))
