-- Laws of the bytes of a candidate.
-- Assumes nothing.
use Rattle.std.proofs.Common.{◌≡◌, ℕ, ◌%◌, ◌<◌, arith}
use Rattle.encode_spec.specs.Layout.{prefix_bytes}
use Rattle.encode_run.specs.declared.ByteRun.{ByteRun}
use Rattle.encode_run.specs.Run.{empty_run, pushed, appended}
use Rattle.encode_run.proofs.Laws.{appended-append}
use Rattle.list_spec.specs.declared.Start.{Start}
use Rattle.list_spec.specs.declared.Parts.{Parts}
use Rattle.list_spec.specs.Candidates.{byte_of, second_bytes, tail_bytes, string_of}

-- a byte is itself modulo 256
pub same_byte : (x : ℕ) → x < 256 → x % 256 ≡ x
same_byte x h = omega arith

-- prefix, opcode, second byte and tail, one after the other
pub string_of_lem : {r1 r2 r3 r4 r5 : ByteRun} (off p : ℕ) (s : Start) (q : Parts) → r1 ≡ empty_run
    → r2 ≡ appended r1 (prefix_bytes p) → r3 ≡ appended r2 (byte_of s.opcode) → r4 ≡ appended r3 (second_bytes s.second q.displacement)
    → r5 ≡ appended r4 (tail_bytes s.tail off q.displacement q.value q.segment)
    → r5 ≡ appended empty_run (string_of off p s q)
unfolding string_of
string_of_lem off p s q h1 h2 h3 h4 h5 =
    rw (
      appended-append empty_run (prefix_bytes p),
      appended-append (pushed (appended empty_run (prefix_bytes p)) (s.opcode % 256)) (second_bytes s.second q.displacement),
    ) (cc)
