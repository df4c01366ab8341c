-- Runs of document 02, No. 10, worked out, one row each.
-- Assumes nothing.
use Rattle.std.specs.Prelude.{Ok}
use mathlib.Core.Path.{◌≡◌, refl}
use mathlib.Core.List.{List, [], ◌∷◌, ◌++◌}
use Prim.Native.Nat.{ℕ}
use lib.ListN.{replicate}
use Rattle.mrc_compiler.specs.Operations.{number_of, is_string}
use Rattle.x86.specs.Instructions.{canonical}
use Rattle.x86.specs.Forms.{forms}
use Rattle.x86.specs.Reading.{reads, read_plain, is_repeat, repeats, read_form, starting_with, prefix}
use Rattle.desk_step.specs.Step.{action_of, performed, step_of}
use Rattle.desk_run.specs.declared.RunError.TheVariants as N
use Rattle.desk_run.specs.Running.{halted, refused, ran, ending, halted_with, answered, log_after, number_of as number}

pub record Rows : Type 0 where
  pub halt : ending (0xF4 ∷ []) 1 0 ≡ halted 1 []
  pub no_budget : ending (0xF4 ∷ []) 0 0 ≡ refused N.BudgetSpent
  pub no_bytes : ending [] 1 0 ≡ refused N.NotCarriedOut
  pub no_bytes_no_budget : ending [] 0 0 ≡ refused N.BudgetSpent
  -- MOV AL,7; OUT 1,AL; HLT, with C6 and with B0
  pub move_c6 : ending (0xC6 ∷ 0xC0 ∷ 0x07 ∷ 0xE6 ∷ 0x01 ∷ 0xF4 ∷ []) 9 2 ≡ halted 3 (1 ∷ 7 ∷ [])
  pub move_b0 : ending (0xB0 ∷ 0x07 ∷ 0xE6 ∷ 0x01 ∷ 0xF4 ∷ []) 3 2 ≡ halted 3 (1 ∷ 7 ∷ [])
  -- the step is cut off by the budget before the bytes are looked at
  pub budget_first : ending (0xB0 ∷ 0x07 ∷ 0x90 ∷ []) 1 0 ≡ refused N.BudgetSpent
  pub another : ending (0xB0 ∷ 0x07 ∷ 0x90 ∷ []) 2 0 ≡ refused N.NotCarriedOut
  pub not_whole : ending (0xB0 ∷ []) 1 0 ≡ refused N.NotCarriedOut
  -- AH leaves AL, and AX sets it
  pub high_half : ending (0xB0 ∷ 0x05 ∷ 0xB4 ∷ 0x09 ∷ 0xE6 ∷ 0x01 ∷ 0xF4 ∷ []) 4 2 ≡ halted 4 (1 ∷ 5 ∷ [])
  pub word : ending (0xB8 ∷ 0x34 ∷ 0x12 ∷ 0xE6 ∷ 0x01 ∷ 0xF4 ∷ []) 3 2 ≡ halted 3 (1 ∷ 0x34 ∷ [])
  -- OUT of AX, and to the port in DX
  pub out_word : ending (0xE7 ∷ 0x01 ∷ 0xF4 ∷ []) 2 2 ≡ refused N.NotCarriedOut
  pub out_dx : ending (0xEE ∷ 0xF4 ∷ []) 2 2 ≡ refused N.NotCarriedOut
  -- no two bytes left
  pub log_short : ending (0xE6 ∷ 0x01 ∷ 0xF4 ∷ []) 2 1 ≡ refused N.LogTooShort
  -- E9 over a byte, and back over the end of 65,536 to 65,535, where nothing stands
  pub jump : ending (0xE9 ∷ 0x01 ∷ 0x00 ∷ 0x90 ∷ 0xF4 ∷ []) 2 0 ≡ halted 2 []
  pub jump_back : ending (0xE9 ∷ 0xFC ∷ 0xFF ∷ []) 2 0 ≡ refused N.NotCarriedOut
  -- MOV CX,2; LOOP to itself; HLT
  pub loop_twice : ending (0xB9 ∷ 0x02 ∷ 0x00 ∷ 0xE2 ∷ 0xFE ∷ 0xF4 ∷ []) 4 0 ≡ halted 4 []

-- The numbers, the order of the questions at a step, and what is left in the lent log
pub record Order : Type 0 where
  pub not_carried_out : number N.NotCarriedOut ≡ 21
  pub budget_spent : number N.BudgetSpent ≡ 22
  pub log_too_short : number N.LogTooShort ≡ 9
  -- OUT without room: 22 before 9; another instruction behind a full log: 21, and 22 before it; HLT behind a full log
  pub spent_before_9 : ending (0xE6 ∷ 0x01 ∷ []) 0 0 ≡ refused N.BudgetSpent
  pub full_log : ending (0xE6 ∷ 0x01 ∷ 0x90 ∷ []) 2 2 ≡ refused N.NotCarriedOut
  pub full_log_spent : ending (0xE6 ∷ 0x01 ∷ 0x90 ∷ []) 1 2 ≡ refused N.BudgetSpent
  pub full_log_halts : ending (0xE6 ∷ 0x01 ∷ 0xF4 ∷ []) 2 2 ≡ halted 2 (1 ∷ 0 ∷ [])
  pub no_log_at_all : ending (0x90 ∷ []) 1 0 ≡ refused N.NotCarriedOut
  -- a third byte is not enough for a second pair, a fourth is
  pub odd_log : ending (0xE6 ∷ 0x01 ∷ 0xE6 ∷ 0x02 ∷ 0xF4 ∷ []) 3 3 ≡ refused N.LogTooShort
  pub even_log : ending (0xE6 ∷ 0x01 ∷ 0xE6 ∷ 0x02 ∷ 0xF4 ∷ []) 3 4 ≡ halted 3 (1 ∷ 0 ∷ 2 ∷ 0 ∷ [])
  -- the budget to its last step, and one less
  pub last_step : ending (0xB0 ∷ 0x07 ∷ 0xF4 ∷ []) 2 0 ≡ halted 2 []
  pub one_less : ending (0xB0 ∷ 0x07 ∷ 0xF4 ∷ []) 1 0 ≡ refused N.BudgetSpent
  -- two bytes a pair; the log behind them, and all of it where the run is refused
  pub length_in_bytes : answered (ending (0xE6 ∷ 0x01 ∷ 0xE6 ∷ 0x02 ∷ 0xF4 ∷ []) 3 4) ≡ Ok (halted_with 3 4)
  pub log_behind : log_after (ending (0xB0 ∷ 0x07 ∷ 0xE6 ∷ 0x01 ∷ 0xF4 ∷ []) 3 4) (9 ∷ 9 ∷ 9 ∷ 9 ∷ []) ≡ 1 ∷ 7 ∷ 9 ∷ 9 ∷ []
  pub log_of_a_refusal : log_after (ending (0xB0 ∷ 0x07 ∷ 0xE6 ∷ 0x01 ∷ 0x90 ∷ []) 3 4) (9 ∷ 9 ∷ 9 ∷ 9 ∷ []) ≡ 9 ∷ 9 ∷ 9 ∷ 9 ∷ []

-- JMP to 65,526, JMP to 65,535; were B0 carried out there, the next offset would be 1, where HLT stands
abbrev around : List ℕ → List ℕ
around end = 0xEB ∷ 0xF4 ∷ (replicate 65524 0 ++ (0xEB ∷ 0x07 ∷ (replicate 7 0 ++ end)))

-- Images of 65,536 bytes and of one more
pub record Reach : Type 0 where
  pub last_byte : ending (around (0xF4 ∷ [])) 3 0 ≡ halted 3 []
  pub does_not_wrap : ending (around (0xB0 ∷ [])) 4 0 ≡ refused N.NotCarriedOut
  pub not_beyond : ending (around (0xB0 ∷ 0x07 ∷ [])) 4 0 ≡ refused N.NotCarriedOut

rows : Rows
unfolding ran step_of reads read_plain is_repeat repeats read_form starting_with prefix forms canonical action_of performed is_string number_of
rows = record {
  halt = refl;
  no_budget = refl;
  no_bytes = refl;
  no_bytes_no_budget = refl;
  move_c6 = refl;
  move_b0 = refl;
  budget_first = refl;
  another = refl;
  not_whole = refl;
  high_half = refl;
  word = refl;
  out_word = refl;
  out_dx = refl;
  log_short = refl;
  jump = refl;
  jump_back = refl;
  loop_twice = refl;
}

order : Order
unfolding ran step_of reads read_plain is_repeat repeats read_form starting_with prefix forms canonical action_of performed is_string number_of
order = record {
  not_carried_out = refl;
  budget_spent = refl;
  log_too_short = refl;
  spent_before_9 = refl;
  full_log = refl;
  full_log_spent = refl;
  full_log_halts = refl;
  no_log_at_all = refl;
  odd_log = refl;
  even_log = refl;
  last_step = refl;
  one_less = refl;
  length_in_bytes = refl;
  log_behind = refl;
  log_of_a_refusal = refl;
}

reach : Reach
unfolding ran step_of reads read_plain is_repeat repeats read_form starting_with prefix forms canonical action_of performed is_string number_of
reach = record { last_byte = refl; does_not_wrap = refl; not_beyond = refl }
