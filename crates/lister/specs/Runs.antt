-- The number that the entry of a run of bytes spells.
-- Definitions only.
use Rattle.std.specs.Prelude.{ℕ, ◌+◌, ◌*◌, get_or}
use Rattle.encode_run.specs.declared.ByteRun.{ByteRun}

abbrev pub key_of : ByteRun → ℕ
key_of run =
    run.len * 72057594037927936 + get_or run.bytes 0 0 * 281474976710656 + get_or run.bytes 1 0 * 1099511627776 + get_or run.bytes 2 0 * 4294967296
    + get_or run.bytes 3 0 * 16777216 + get_or run.bytes 4 0 * 65536 + get_or run.bytes 5 0 * 256 + get_or run.bytes 6 0
