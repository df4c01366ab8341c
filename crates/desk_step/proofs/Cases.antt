-- Steps by the manual (SDM, volume 2: MOV, LOOP, JMP, OUT, HLT), one row each. The registers are AX CX DX BX SP BP SI DI.
-- Assumes nothing.
use Rattle.std.proofs.Common.{◌≡◌, ℕ, [], ◌∷◌, refl}
use Rattle.mrc_compiler.specs.Operations.{number_of, is_string}
use Rattle.x86.specs.Instructions.{canonical}
use Rattle.x86.specs.Forms.{forms}
use Rattle.x86.specs.Reading.{reads, read_plain, is_repeat, repeats, read_form, starting_with, prefix}
use Rattle.desk_step.specs.declared.Machine.{Machine}
use Rattle.desk_step.specs.declared.Effect.TheVariants as E
use Rattle.desk_step.specs.Step.{machine, start, shown, refused_at, action_of, performed, carried_out, step_of}

-- each register with a value of its own
abbrev from : ℕ → ℕ → Machine
from cx ip = machine (0x1234 ∷ cx ∷ 0x5678 ∷ 0x9ABC ∷ 0xDEF0 ∷ 5 ∷ 6 ∷ 7 ∷ []) ip

record Rows : Type 0 where
  -- the low and the high half of a register, and a word, by both forms
  mov_al : step_of (0xB0 ∷ 0x99 ∷ []) (from 1 0) ≡ shown E.Goes (0x1299 ∷ 1 ∷ 0x5678 ∷ 0x9ABC ∷ 0xDEF0 ∷ 5 ∷ 6 ∷ 7 ∷ []) 2
  mov_ah : step_of (0xB4 ∷ 0x99 ∷ []) (from 1 0) ≡ shown E.Goes (0x9934 ∷ 1 ∷ 0x5678 ∷ 0x9ABC ∷ 0xDEF0 ∷ 5 ∷ 6 ∷ 7 ∷ []) 2
  mov_bh : step_of (0xB7 ∷ 0x99 ∷ []) (from 1 0) ≡ shown E.Goes (0x1234 ∷ 1 ∷ 0x5678 ∷ 0x99BC ∷ 0xDEF0 ∷ 5 ∷ 6 ∷ 7 ∷ []) 2
  mov_sp : step_of (0xBC ∷ 0x22 ∷ 0x11 ∷ []) (from 1 0) ≡ shown E.Goes (0x1234 ∷ 1 ∷ 0x5678 ∷ 0x9ABC ∷ 0x1122 ∷ 5 ∷ 6 ∷ 7 ∷ []) 3
  mov_dl_c6 : step_of (0xC6 ∷ 0xC2 ∷ 0x99 ∷ []) (from 1 0) ≡ shown E.Goes (0x1234 ∷ 1 ∷ 0x5699 ∷ 0x9ABC ∷ 0xDEF0 ∷ 5 ∷ 6 ∷ 7 ∷ []) 3
  mov_di_c7 : step_of (0xC7 ∷ 0xC7 ∷ 0x22 ∷ 0x11 ∷ []) (from 1 0) ≡ shown E.Goes (0x1234 ∷ 1 ∷ 0x5678 ∷ 0x9ABC ∷ 0xDEF0 ∷ 5 ∷ 6 ∷ 0x1122 ∷ []) 4
  -- LOOP counts CX down, and jumps where it is not 0 then
  loop_2 : step_of (0xE2 ∷ 0xFE ∷ []) (from 2 0) ≡ shown E.Goes (0x1234 ∷ 1 ∷ 0x5678 ∷ 0x9ABC ∷ 0xDEF0 ∷ 5 ∷ 6 ∷ 7 ∷ []) 0
  loop_1 : step_of (0xE2 ∷ 0xFE ∷ []) (from 1 0) ≡ shown E.Goes (0x1234 ∷ 0 ∷ 0x5678 ∷ 0x9ABC ∷ 0xDEF0 ∷ 5 ∷ 6 ∷ 7 ∷ []) 2
  loop_0 : step_of (0xE2 ∷ 0xFE ∷ []) (from 0 0) ≡ shown E.Goes (0x1234 ∷ 65535 ∷ 0x5678 ∷ 0x9ABC ∷ 0xDEF0 ∷ 5 ∷ 6 ∷ 7 ∷ []) 0
  -- JMP, near and short, forward and back, and over the start
  jmp_near : step_of (0xE9 ∷ 0 ∷ 1 ∷ []) (from 1 0) ≡ shown E.Goes (from 1 0).registers 0x103
  jmp_short : step_of (0xEB ∷ 0x10 ∷ []) (from 1 0) ≡ shown E.Goes (from 1 0).registers 0x12
  jmp_back : step_of (0xEB ∷ 0xFD ∷ []) (from 1 0) ≡ shown E.Goes (from 1 0).registers 65535
  -- OUT shows AL, at its port
  out_al : step_of (0xE6 ∷ 0x61 ∷ []) (from 1 0) ≡ shown (E.Outputs 0x61 0x34) (from 1 0).registers 2
  hlt : step_of (0xF4 ∷ []) (from 1 0) ≡ shown E.Halts (from 1 0).registers 1
  -- at the start every register is 0
  out_at_the_start : step_of (0xE6 ∷ 0x61 ∷ []) start ≡ shown (E.Outputs 0x61 0) (0 ∷ 0 ∷ 0 ∷ 0 ∷ 0 ∷ 0 ∷ 0 ∷ 0 ∷ []) 2
  -- the offset behind an instruction wraps at 65,536, and so does a target
  wraps : carried_out (from 1 65534) (reads 65534 (0xE6 ∷ 0x61 ∷ [])) ≡ shown (E.Outputs 0x61 0x34) (from 1 0).registers 0
  wraps_by_one : carried_out (from 1 65535) (reads 65535 (0xE6 ∷ 0x61 ∷ [])) ≡ shown (E.Outputs 0x61 0x34) (from 1 0).registers 1
  jmp_over_the_wrap : carried_out (from 1 65533) (reads 65533 (0xE9 ∷ 3 ∷ 0 ∷ [])) ≡ shown E.Goes (from 1 0).registers 3

-- Other instructions, those that are not whole, and none: the machine stays
record Refused : Type 0 where
  out_ax : step_of (0xE7 ∷ 0x61 ∷ []) (from 1 0) ≡ refused_at (from 1 0)
  out_dx : step_of (0xEE ∷ []) (from 1 0) ≡ refused_at (from 1 0)
  in_al : step_of (0xE4 ∷ 0x61 ∷ []) (from 1 0) ≡ refused_at (from 1 0)
  loopnz : step_of (0xE0 ∷ 0xFE ∷ []) (from 1 0) ≡ refused_at (from 1 0)
  loopz : step_of (0xE1 ∷ 0xFE ∷ []) (from 1 0) ≡ refused_at (from 1 0)
  jcxz : step_of (0xE3 ∷ 0xFE ∷ []) (from 1 0) ≡ refused_at (from 1 0)
  call : step_of (0xE8 ∷ 0 ∷ 0 ∷ []) (from 1 0) ≡ refused_at (from 1 0)
  jmp_far : step_of (0xEA ∷ 0 ∷ 0 ∷ 0 ∷ 0 ∷ []) (from 1 0) ≡ refused_at (from 1 0)
  jmp_ax : step_of (0xFF ∷ 0xE0 ∷ []) (from 1 0) ≡ refused_at (from 1 0)
  mov_memory : step_of (0xC6 ∷ 0x07 ∷ 0x99 ∷ []) (from 1 0) ≡ refused_at (from 1 0)
  mov_al_cl : step_of (0x8A ∷ 0xC1 ∷ []) (from 1 0) ≡ refused_at (from 1 0)
  nop : step_of (0x90 ∷ []) (from 1 0) ≡ refused_at (from 1 0)
  rep : step_of (0xF3 ∷ 0xF4 ∷ []) (from 1 0) ≡ refused_at (from 1 0)
  prefixed : step_of (0x26 ∷ 0xB0 ∷ 0x99 ∷ []) (from 1 0) ≡ refused_at (from 1 0)
  not_whole : step_of (0xB8 ∷ 0x22 ∷ []) (from 1 0) ≡ refused_at (from 1 0)
  nothing : step_of [] (from 1 0) ≡ refused_at (from 1 0)
  beyond : step_of (0xF4 ∷ []) (from 1 1) ≡ refused_at (from 1 1)

rows : Rows
unfolding step_of reads read_plain is_repeat repeats read_form starting_with prefix forms canonical action_of performed is_string number_of
rows = record {
  mov_al = refl;
  mov_ah = refl;
  mov_bh = refl;
  mov_sp = refl;
  mov_dl_c6 = refl;
  mov_di_c7 = refl;
  loop_2 = refl;
  loop_1 = refl;
  loop_0 = refl;
  jmp_near = refl;
  jmp_short = refl;
  jmp_back = refl;
  out_al = refl;
  hlt = refl;
  out_at_the_start = refl;
  wraps = refl;
  wraps_by_one = refl;
  jmp_over_the_wrap = refl;
}

refused : Refused
unfolding step_of reads read_plain is_repeat repeats read_form starting_with prefix forms canonical action_of performed is_string number_of
refused = record {
  out_ax = refl;
  out_dx = refl;
  in_al = refl;
  loopnz = refl;
  loopz = refl;
  jcxz = refl;
  call = refl;
  jmp_far = refl;
  jmp_ax = refl;
  mov_memory = refl;
  mov_al_cl = refl;
  nop = refl;
  rep = refl;
  prefixed = refl;
  not_whole = refl;
  nothing = refl;
  beyond = refl;
}
