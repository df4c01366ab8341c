-- The run of a list of codes, none of which is refused, has the bytes of their answer.
-- Assumes nothing.
use mathlib.Core.Path.{◌≡◌, refl}
use Prim.Native.Nat.{ℕ}
use Rattle.std.specs.Prelude.{Option, Some, None, Ok}
use Rattle.mrc_compiler.specs.declared.encoder.InstructionData.{InstructionData}
use Rattle.mrc_compiler.specs.declared.encoder.generate.Code.{Code}
use Rattle.mrc_compiler.specs.declared.encoder.generate.Codes.{Codes}
use Rattle.encode_spec.specs.Answer.{Answer, bytes, refused}
use Rattle.encode_run.specs.declared.ByteRun.{ByteRun}
use Rattle.encode_run.proofs.Laws.{appended-append}
use Rattle.encode_fields.specs.Fields.{joined, code_answer}
use Rattle.encode_codes.specs.Emit.{emitted, told, behind, second_answer, second_after, codes_answer, codes_after}

pub codes_kept : (run : ByteRun) (codes : Codes) (insn : InstructionData) (off : ℕ) {u : Unit {0}} → told (codes_answer codes insn off) ≡ Ok u
    → Ok (codes_after run codes insn off) ≡ emitted run (codes_answer codes insn off)
codes_kept run codes insn off {u} = by_second codes.second (code_answer codes.first insn off) where
  joins : (a b : Answer) → told (joined a b) ≡ Ok u → Ok (behind run a b) ≡ emitted run (joined a b)
  joins (refused e) b h = cc
  joins (bytes xs) (refused e) h = cc
  joins (bytes xs) (bytes ys) h = rw (appended-append run xs ys)

  by_second : (s : Option Code) (a : Answer) → told (second_answer a s insn off) ≡ Ok u → Ok (second_after run a s insn off) ≡ emitted run (second_answer a s insn off)
  by_second None (bytes xs) h = refl
  by_second None (refused e) h = cc
  by_second (Some c) a h = joins a (code_answer c insn off) h
