-- The laws that the step's functions rest on.
-- Assumes nothing.
use Rattle.std.specs.Prelude.{Option, Some, None}
use Rattle.std.proofs.Common.{◌≡◌, ℕ, ◌+◌, ◌-◌, ◌%◌, ◌<◌, ◌≤◌, false, List, length, get_or, take, drop, sym, refl, ap, ◌∙◌, arith, length-drop, drop_of_length-le, take_all, ne_eqb, Ok, Err}
use Rattle.std.specs.Option.{option_and_then}
use Rattle.mrc_compiler.specs.declared.encoder.OperandSize.{OperandSize}
use Rattle.mrc_compiler.specs.declared.encoder.OperandSize.TheVariants as S
use Rattle.mrc_compiler.specs.declared.operations.Operation.{Operation}
use Rattle.mrc_compiler.specs.declared.operations.Operation.TheVariants as Op
use Rattle.mrc_compiler.specs.Operations.{number_of, same_operation, operations}
use Rattle.mrc_compiler.proofs.Numbers.{operation_at}
use Rattle.x86.specs.declared.Operand.{Operand}
use Rattle.x86.specs.declared.Operand.TheVariants as O
use Rattle.x86.specs.declared.Instruction.{Instruction}
use Rattle.x86.specs.declared.ReadError.{ReadError}
use Rattle.x86.specs.Reading.{Read, reads}
use Rattle.desk_step.specs.declared.Machine.{Machine}
use Rattle.desk_step.specs.declared.Action.{Action}
use Rattle.desk_step.specs.declared.Fetched.{Fetched}
use Rattle.desk_step.specs.declared.Known.{Known}
use Rattle.desk_step.specs.Step.{register_in, immediate_in, near_in, move_of, out_of, action_of, performed, carried_out, step_of, fetched_by, fetched_at, none_known, known_at, IsKnown}

-- ---- which action an instruction is
-- an operation that is another
pub another : (a b : Operation) → (a ≡ b → ⊥) → same_operation a b ≡ false
another a b h = ne_eqb (number_of a) (number_of b) (λ e. h (sym (operation_at a) ∙ ap (λ n. get_or operations n Op.MOV) e ∙ operation_at b))

-- an instruction of another operation
pub not_carried : (m : Instruction) → (m.operation ≡ Op.MOV → ⊥) → (m.operation ≡ Op.LOOP → ⊥) → (m.operation ≡ Op.JMP → ⊥) → (m.operation ≡ Op.OUT → ⊥) → (m.operation ≡ Op.HLT → ⊥)
    → None ≡ action_of m
unfolding action_of
not_carried m a b c d e = let op = m.operation in rw (another op Op.MOV a, another op Op.LOOP b, another op Op.JMP c, another op Op.OUT d, another op Op.HLT e) refl

-- an operand of another kind
pub no_register : (o : Operand) → ((n : ℕ) → o ≡ O.Register n → ⊥) → register_in o ≡ None
no_register O.None h = refl
no_register (O.Register n) h = absurd (h n refl)
no_register (O.SegmentRegister n) h = refl
no_register (O.Memory b d s) h = refl
no_register (O.Immediate v) h = refl
no_register (O.Near t) h = refl
no_register (O.Far t s) h = refl
no_register O.One h = refl

pub no_immediate : (o : Operand) → ((v : ℕ) → o ≡ O.Immediate v → ⊥) → immediate_in o ≡ None
no_immediate O.None h = refl
no_immediate (O.Register n) h = refl
no_immediate (O.SegmentRegister n) h = refl
no_immediate (O.Memory b d s) h = refl
no_immediate (O.Immediate v) h = absurd (h v refl)
no_immediate (O.Near t) h = refl
no_immediate (O.Far t s) h = refl
no_immediate O.One h = refl

pub no_target : (o : Operand) → ((t : ℕ) → o ≡ O.Near t → ⊥) → near_in o ≡ None
no_target O.None h = refl
no_target (O.Register n) h = refl
no_target (O.SegmentRegister n) h = refl
no_target (O.Memory b d s) h = refl
no_target (O.Immediate v) h = refl
no_target (O.Near t) h = absurd (h t refl)
no_target (O.Far t s) h = refl
no_target O.One h = refl

-- a width that is none of the action's
pub no_width : (a b : Option ℕ) → None ≡ option_and_then (λ r. option_and_then (λ v. move_of S.Unspecified r v) b) a
no_width None b = refl
no_width (Some r) None = refl
no_width (Some r) (Some v) = refl

pub no_byte : (w : OperandSize) → (w ≡ S.Byte → ⊥) → (a b : Option ℕ) → None ≡ option_and_then (λ p. option_and_then (λ r. out_of w p r) b) a
no_byte w h None b = refl
no_byte w h (Some p) None = refl
no_byte S.Unspecified h (Some p) (Some r) = refl
no_byte S.Byte h (Some p) (Some r) = absurd (h refl)
no_byte S.Word h (Some p) (Some r) = refl

-- ---- the step
-- the part of a slice that starts at a place
pub rest_is : (image : List ℕ) (at : ℕ) → take (length image - at) (drop at image) ≡ drop at image
rest_is image at = take_all (length image - at) (drop at image) (rw (length-drop at image) (omega arith))

module _ (image : List ℕ) (ip : ℕ) (f : Fetched) where
  -- by its parts
  fetched_is : (a : Option Action) (n : ℕ) → (f.action ≡ a) × (f.length ≡ n % 65536) → f ≡ record { action = a; length = n % 65536 }
  fetched_is a n (e, h) = rw (← e, ← h) refl

  pub outside : length image ≤ ip → (f.action ≡ None) × (f.length ≡ 0 % 65536) → f ≡ fetched_at image ip
  unfolding fetched_at reads
  outside h e = rw (drop_of_length-le image {i = ip} h) (fetched_is None 0 e)

  module _ (r : Read) (q : r ≡ reads ip (take (length image - ip) (drop ip image))) where
    by_read : fetched_at image ip ≡ fetched_by r
    unfolding fetched_at
    by_read = rw (q, rest_is image ip) refl

    pub not_read : (why : ReadError) → r ≡ Err why → (f.action ≡ None) × (f.length ≡ 0 % 65536) → f ≡ fetched_at image ip
    not_read why z e = rw (by_read, z) (fetched_is None 0 e)

    pub whole_read : (i : Instruction) (n : ℕ) → r ≡ Ok (i, n) → (a : Option Action) → a ≡ action_of i → (f.action ≡ a) × (f.length ≡ n % 65536) → f ≡ fetched_at image ip
    whole_read i n z a ea e = rw (by_read, z, ← ea) (fetched_is a n e)

-- what is fetched there, carried out
pub step_is : (image : List ℕ) (m : Machine) → performed (fetched_at image m.ip).action ((m.ip + (fetched_at image m.ip).length) % 65536) m ≡ step_of image m
unfolding fetched_at step_of performed
step_is image m = go (reads m.ip (drop m.ip image))
  where
    go : (r : Read) → performed (fetched_by r).action ((m.ip + (fetched_by r).length) % 65536) m ≡ carried_out m r
    go (Ok (i, n)) = let e : (m.ip + n % 65536) % 65536 ≡ (m.ip + n) % 65536 = omega arith in rw e
    go (Err e) = refl

pub known_is : (image : List ℕ) (ip : ℕ) (k : Known) → k ≡ known_at image ip → IsKnown image k
known_is image ip k e = rw e (λ h. refl)

pub none_is : (image : List ℕ) (k : Known) → k ≡ none_known → IsKnown image k
none_is image k e = rw e (λ h. absurd (omega arith))

pub same_known : (image : List ℕ) (ip : ℕ) (k : Known) → ip < 65536 → IsKnown image k → k.at ≡ ip → k ≡ known_at image ip
same_known image ip k h known e = let f = known (rw e h) in rw (← e, ← f) refl
