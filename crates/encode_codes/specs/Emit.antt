-- What the code list emits: the bytes of its codes, one after the other, or the refusal (003).
-- Definitions only.
use Rattle.std.specs.Prelude.{ℕ, Option, Some, None, Result, Ok, Err}
use Rattle.mrc_compiler.specs.declared.encoder.EncodeError.{EncodeError}
use Rattle.mrc_compiler.specs.declared.encoder.InstructionData.{InstructionData}
use Rattle.mrc_compiler.specs.declared.encoder.generate.Code.{Code}
use Rattle.mrc_compiler.specs.declared.encoder.generate.Codes.{Codes}
use Rattle.encode_spec.specs.Answer.{Answer, bytes, refused}
use Rattle.encode_run.specs.declared.ByteRun.{ByteRun}
use Rattle.encode_run.specs.Run.{appended}
use Rattle.encode_fields.specs.Fields.{joined, code_answer}

-- ---- what is emitted
-- the run with an answer's bytes behind it, or the refusal
abbrev pub emitted : ByteRun → Answer → Result ByteRun EncodeError
emitted run (bytes bs) = Ok (appended run bs)
emitted run (refused e) = Err e

-- what an emitter tells of an answer
abbrev pub told : Answer → Result (Unit {0}) EncodeError
told (bytes bs) = Ok tt
told (refused e) = Err e

-- and the run that it leaves: with the answer's bytes behind it, or as it was
abbrev pub after : ByteRun → Answer → ByteRun
after run (bytes bs) = appended run bs
after run (refused e) = run

-- one answer more, behind what was not refused
abbrev pub behind : ByteRun → Answer → Answer → ByteRun
behind run (bytes bs) a = after (appended run bs) a
behind run (refused e) a = run

-- ---- one or two codes
abbrev pub second_answer : Answer → Option Code → InstructionData → ℕ → Answer
second_answer a None insn off = a
second_answer a (Some c) insn off = joined a (code_answer c insn off)

abbrev pub codes_answer : Codes → InstructionData → ℕ → Answer
codes_answer codes insn off = second_answer (code_answer codes.first insn off) codes.second insn off

-- what the codes leave of a run: one after the other, until one is refused
abbrev pub second_after : ByteRun → Answer → Option Code → InstructionData → ℕ → ByteRun
second_after run a None insn off = after run a
second_after run a (Some c) insn off = behind run a (code_answer c insn off)

abbrev pub codes_after : ByteRun → Codes → InstructionData → ℕ → ByteRun
codes_after run codes insn off = second_after run (code_answer codes.first insn off) codes.second insn off
