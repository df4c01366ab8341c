-- Small shows and what checking their targets answers, worked out by hand from the lengths that document 01 gives.
-- Assumes nothing.
use Rattle.std.specs.Prelude.{Ok, Err}
use mathlib.Core.Path.{◌≡◌, refl}
use mathlib.Core.List.{List, [], ◌∷◌, ◌++◌}
use Prim.Native.Nat.{ℕ}
use Rattle.mrc_compiler.specs.declared.encoder.EncodeError.TheVariants as N
use Rattle.mrc_compiler.specs.Operations.{number_of, operations, is_string}
use Rattle.x86.specs.Forms.{forms}
use Rattle.x86.specs.Reading.{prefix, is_repeat}
use Rattle.encode_groups.specs.Grouping.{grouped_of}
use Rattle.encode_spec.specs.WellFormed.{well_formed}
use Rattle.encode_spec.specs.Choice.{forms_of}
use Rattle.encode_spec.specs.Layout.{layout}
use Rattle.encode_spec.specs.Questions.{questions}
use Rattle.encode_spec.specs.Answer.{answer}
use Rattle.show_record.specs.Record.{operand_at, instruction_at, operand_known, codes_known}
use Rattle.show_file.specs.declared.LoadError.TheVariants as E
use Rattle.show_file.specs.Show.{has_mark, u16_at, record_bytes, is_count, headed, opened, is_unknown}
use Rattle.show_load.specs.Loading.{walk, show_accepted}
use Rattle.convert_spec.specs.Targets.{branch_of, is_stray}
use Rattle.convert_spec.proofs.Cases.{i32, ax, imm, target, rec, je, call, hlt, int1, unknown, of, show, at}
use Rattle.check_spec.specs.declared.CheckError.TheVariants as C
use Rattle.check_spec.specs.Checking.{is_inside, targets_checked, checked}

-- MOV AX,imm, three bytes
abbrev mov : ℕ → List ℕ
mov n = rec 0 2 (ax 0) (imm n)

-- LOOP, LOOPZ, LOOPNZ, JCXZ
abbrev loop : ℕ → ℕ → List ℕ
loop op t = rec op 1 (imm t) (imm 0)

-- JMP of a jump kind: 1 far, 2 near, 3 short
abbrev jmp : ℕ → ℕ → List ℕ
jmp j t = rec 59 1 (target j t) (imm 0)

-- of version 3, with a repeat
abbrev rec3 : ℕ → ℕ → ℕ → List ℕ → List ℕ
rec3 op n r a = op ∷ n ∷ r ∷ (i32 9 ++ (i32 9 ++ (a ++ imm 0)))

record Landings : Type 0 where
  nothing : checked (show 100 []) ≡ Ok 0
  -- the first record, the branch itself, the end
  to_the_first : checked (show 100 (hlt ∷ je 100 ∷ [])) ≡ Ok 3
  to_itself : checked (show 100 (hlt ∷ je 101 ∷ [])) ≡ Ok 3
  to_the_end : checked (show 100 (hlt ∷ je 103 ∷ [])) ≡ Ok 3
  forth : checked (show 100 (je 105 ∷ mov 7 ∷ hlt ∷ [])) ≡ Ok 6
  -- the end stands at 65,536, which counts as 0; a target of -1 is the offset 65,535
  end_wraps : checked (show 65534 (je 65536 ∷ [])) ≡ Ok 2
  below_0 : checked (show 65535 (hlt ∷ hlt ∷ je 0xFFFFFFFF ∷ [])) ≡ Ok 4
  -- no near target: EA, an immediate
  far : checked (show 100 (jmp 1 101 ∷ [])) ≡ Ok 5
  immediate : checked (show 100 (mov 101 ∷ [])) ≡ Ok 3
  -- version 3: REP MOVSB has two bytes
  behind_a_repeat : checked (of 3 100 (rec3 48 0 0xF3 (imm 0) ∷ rec3 61 1 0 (imm 102) ∷ [])) ≡ Ok 4

landings : Landings
unfolding record_bytes opened headed is_count has_mark u16_at show_accepted is_unknown walk codes_known operand_known operations instruction_at operand_at answer questions well_formed prefix is_repeat is_string grouped_of forms_of forms number_of layout branch_of is_stray is_inside targets_checked
landings = record {
  nothing = refl;
  to_the_first = refl;
  to_itself = refl;
  to_the_end = refl;
  forth = refl;
  end_wraps = refl;
  below_0 = refl;
  far = refl;
  immediate = refl;
  behind_a_repeat = refl;
}

record Strays : Type 0 where
  -- JE, LOOP, LOOPZ, LOOPNZ, JCXZ, EB, E9, E8 into their own second byte
  jcc : checked (show 100 (je 101 ∷ [])) ≡ Err (C.Inside 0 101 0)
  e2 : checked (show 100 (loop 77 101 ∷ [])) ≡ Err (C.Inside 0 101 0)
  e1 : checked (show 100 (loop 78 101 ∷ [])) ≡ Err (C.Inside 0 101 0)
  e0 : checked (show 100 (loop 79 101 ∷ [])) ≡ Err (C.Inside 0 101 0)
  e3 : checked (show 100 (loop 80 101 ∷ [])) ≡ Err (C.Inside 0 101 0)
  eb : checked (show 100 (jmp 3 101 ∷ [])) ≡ Err (C.Inside 0 101 0)
  e9 : checked (show 100 (jmp 2 102 ∷ [])) ≡ Err (C.Inside 0 102 0)
  e8 : checked (show 100 (call 102 ∷ [])) ≡ Err (C.Inside 0 102 0)
  -- the first of two; both bytes of a record behind its first
  first : checked (show 100 (mov 7 ∷ je 101 ∷ je 104 ∷ [])) ≡ Err (C.Inside 1 101 0)
  last_byte : checked (show 100 (mov 7 ∷ je 102 ∷ hlt ∷ [])) ≡ Err (C.Inside 1 102 0)
  later : checked (show 100 (je 104 ∷ mov 7 ∷ [])) ≡ Err (C.Inside 0 104 1)
  -- one behind the end, one before the origin, far from both
  behind_the_end : checked (show 100 (je 103 ∷ [])) ≡ Err (C.Outside 0 103)
  before_the_origin : checked (show 100 (hlt ∷ je 99 ∷ [])) ≡ Err (C.Outside 1 99)
  elsewhere : checked (show 100 (call 50000 ∷ [])) ≡ Err (C.Outside 0 50000)
  -- MOV stands at 65,535, 0 and 1
  over_the_wrap : checked (show 65535 (mov 7 ∷ je 0 ∷ [])) ≡ Err (C.Inside 1 0 0)
  below_0 : checked (show 65535 (hlt ∷ je 0xFFFFFFFE ∷ [])) ≡ Err (C.Outside 1 65534)
  -- between F3 and A4
  into_a_repeat : checked (of 3 100 (rec3 48 0 0xF3 (imm 0) ∷ rec3 61 1 0 (imm 101) ∷ [])) ≡ Err (C.Inside 1 101 0)

strays : Strays
unfolding record_bytes opened headed is_count has_mark u16_at show_accepted is_unknown walk codes_known operand_known operations instruction_at operand_at answer questions well_formed prefix is_repeat is_string grouped_of forms_of forms number_of layout branch_of is_stray is_inside targets_checked
strays = record {
  jcc = refl;
  e2 = refl;
  e1 = refl;
  e0 = refl;
  e3 = refl;
  eb = refl;
  e9 = refl;
  e8 = refl;
  first = refl;
  last_byte = refl;
  later = refl;
  behind_the_end = refl;
  before_the_origin = refl;
  elsewhere = refl;
  over_the_wrap = refl;
  below_0 = refl;
  into_a_repeat = refl;
}

-- ---- the loader's refusals come first, also of a record behind the stray
record Order : Type 0 where
  no_mark : checked [] ≡ Err (C.Load E.NoMark)
  version : checked (of 4 100 []) ≡ Err (C.Load E.WrongVersion)
  too_long : checked (show 100 (je 101 ∷ []) ++ (0 ∷ [])) ≡ Err (C.Load E.WrongLength)
  code : checked (show 100 (je 101 ∷ unknown ∷ [])) ≡ Err (C.Load (E.UnknownCode 1))
  own : checked (show 100 (je 101 ∷ int1 ∷ [])) ≡ Err (C.Load (E.Record 1 (N.NotSupported (at 9))))

order : Order
unfolding record_bytes opened headed is_count has_mark u16_at show_accepted is_unknown walk codes_known operand_known operations instruction_at operand_at answer questions well_formed prefix grouped_of forms_of forms number_of layout branch_of is_stray is_inside targets_checked
order = record { no_mark = refl; version = refl; too_long = refl; code = refl; own = refl }
