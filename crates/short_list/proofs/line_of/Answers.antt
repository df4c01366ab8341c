use mathlib.Core.List.{[], ◌∷◌, ◌++◌}
use Prim.Native.Nat.{◌-◌, ◌/◌, ◌%◌}
use borrow.Author.Tests.{lt-ltb, le-ltb}
use Rattle.text_line.specs.Numbers.{line_feed, hex_byte}
use Rattle.text_line.specs.Steps.{empty_line}
use Rattle.text_line.proofs.Laws.{then}
use Rattle.short_list.proofs.line_of.Goals as goal

-- a byte or two, and the line feed
pub returns-then-k-lt256 : goal.returns-then-k-lt256
unfolding hex_byte
returns-then-k-lt256 c =
    let k = c.args.k in
    let e = rw c.empty_line.ensures at c.push_hex_byte-one.ensures in
    rw (lt-ltb _ _ c.if-k-lt256.true) (then empty_line (hex_byte k) (line_feed ∷ []) e c.push.ensures)

pub returns-else-k-lt256 : goal.returns-else-k-lt256
unfolding hex_byte
returns-else-k-lt256 c =
    let k = c.args.k in
    let a = (k - 256) / 256 in
    let b = (k - 256) % 256 in
    let e = rw c.empty_line-else-k-lt256.ensures at c.push_hex_byte-first.ensures in
    rw (le-ltb _ _ c.if-k-lt256.false)
    (then empty_line (hex_byte a) (hex_byte b ++ (line_feed ∷ [])) e
    (then c.push_hex_byte-first.result (hex_byte b) (line_feed ∷ []) c.push_hex_byte-second.ensures c.push-else-k-lt256.ensures))
