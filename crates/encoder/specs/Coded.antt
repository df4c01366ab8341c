-- The answer as the code finds it: question 1, the dispatch's plan, and the bytes of its code list. proofs/Tied shows that it is the answer of
-- the questions and forms (answers, Answer), which is what a reader has to believe.
-- Definitions only.
use Rattle.std.specs.Prelude.{ℕ, ◌++◌, eqb, leb, get_or, Result, Ok, Err}
use Rattle.mrc_compiler.specs.declared.encoder.EncodeError.{EncodeError}
use Rattle.mrc_compiler.specs.declared.encoder.EncodeError.TheVariants as E
use Rattle.mrc_compiler.specs.declared.encoder.InstructionData.{InstructionData}
use Rattle.mrc_compiler.specs.declared.encoder.generate.Codes.{Codes}
use Rattle.mrc_compiler.specs.declared.encoder.generate.NoForm.{NoForm}
use Rattle.mrc_compiler.specs.Choose.{pick}
use Rattle.encode_spec.specs.Records.{dst, src}
use Rattle.encode_spec.specs.WellFormed.{well_formed, repeat_formed}
use Rattle.encode_spec.specs.Layout.{prefix_bytes}
use Rattle.encode_spec.specs.Questions.{error_of}
use Rattle.encode_spec.specs.Answer.{Answer, bytes, refused}
use Rattle.encode_plans.specs.Plans.{plan_of}
use Rattle.encode_run.specs.declared.ByteRun.{ByteRun}
use Rattle.encode_run.specs.Run.{empty_run, pushed}
use Rattle.encode_codes.specs.Emit.{codes_answer}

abbrev pub plan_answer : Result Codes NoForm → InstructionData → ℕ → Answer
plan_answer (Ok codes) insn off = codes_answer codes insn off
plan_answer (Err e) insn off = refused (error_of e.why e.at insn)

-- an answer's bytes behind the repeat p
abbrev pub behind_repeat : ℕ → Answer → Answer
behind_repeat p (bytes bs) = bytes (prefix_bytes p ++ bs)
behind_repeat p (refused e) = refused e

-- the run of a string operation, which is one byte, behind its repeat
abbrev pub with_repeat : ℕ → ByteRun → ByteRun
with_repeat p run = pick (eqb p 0) run (pushed (pushed empty_run p) (get_or run.bytes 0 0))

-- question 1: the operands' count, each operand, the repeat
abbrev pub formed : InstructionData → Result (Unit {0}) EncodeError
formed insn =
    pick (leb insn.num_opers 2)
    (pick (well_formed (dst insn))
    (pick (well_formed (src insn))
    (pick (repeat_formed insn.repeat insn.operation) (Ok tt) (Err (E.InvalidRepeat insn.opers_span)))
    (Err (E.NotWellFormed (src insn).span)))
    (Err (E.NotWellFormed (dst insn).span)))
    (Err (E.NotWellFormed insn.opers_span))

-- an answer behind question 1
abbrev pub behind_formed : Result (Unit {0}) EncodeError → Answer → Answer
behind_formed (Ok u) a = a
behind_formed (Err e) a = refused e

unfoldable pub coded : InstructionData → ℕ → Answer
coded insn off = behind_formed (formed insn) (behind_repeat insn.repeat (plan_answer (plan_of insn) insn off))
