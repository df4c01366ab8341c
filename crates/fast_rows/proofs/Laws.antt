-- The rows are those of the operations, and the sizes those that two operands share.
-- Assumes nothing.
use Prim.Native.Nat.{ℕ, zero, suc, ◌+◌, ◌*◌, ◌/◌, ◌%◌, ◌≤◌, ◌<◌}
use mathlib.Core.Path.{◌≡◌, refl}
use mathlib.Core.Bool.{Bool, true, false}
use native.Mathlib.Omega.{arith}
use lib.Dec.{T, eqb, ltb, eqb→eq, ltb→lt}
use lib.ListN.{get_or, get_or-eq_default}
use borrow.Author.Tests.{ltb-true, ltb-false}
use Rattle.mrc_compiler.specs.declared.operations.Operation.TheVariants as Op
use Rattle.mrc_compiler.specs.declared.encoder.OperandSize.TheVariants as S
use Rattle.mrc_compiler.specs.Choose.{both}
use Rattle.mrc_compiler.specs.Operations.{operations}
use Rattle.x86.proofs.Tests.{up_to, up_to_at, both_parts}
use Rattle.encode_groups.specs.declared.Group.{Group}
use Rattle.encode_groups.specs.declared.Group.TheVariants as G
use Rattle.encode_groups.specs.Grouping.{grouped_of, group_of, base_of}
use Rattle.std.specs.Prelude.{Ok}
use Rattle.encode_plans.specs.Sizes.{common_of}
use Rattle.show_record.specs.Record.{sizes}
use Rattle.fast_rows.specs.Rows.{groups, group_number, row_of, rows, no_row, commons, data_of}

-- ---- a row is its operation's
abbrev right : ℕ → Bool
right n = let op = get_or operations n Op.MOV in both (eqb (get_or rows n no_row) (row_of op)) (ltb (base_of op) 256)

all_right : T (up_to 99 right)
unfolding operations grouped_of
all_right = tt

-- what a row below the last one says of its number
pub record Row (n : ℕ) : Type 0 where
  pub known : n < 99
  pub group : group_number (group_of (get_or operations n Op.MOV)) ≡ get_or rows n no_row / 4096
  pub base : base_of (get_or operations n Op.MOV) ≡ get_or rows n no_row % 256
  pub between : get_or rows n no_row / 256 % 16 ≡ 0

parted : (r g b n : ℕ) → r ≡ g * 4096 + b → b < 256 → n < 99 → (g ≡ r / 4096) × ((b ≡ r % 256) × (r / 256 % 16 ≡ 0))
parted r g b n e h k = (omega arith, (omega arith, omega arith))

found : (n : ℕ) → n < 99 → Row n
found n k =
    let op = get_or operations n Op.MOV in
    let parts = both_parts (eqb (get_or rows n no_row) (row_of op)) (ltb (base_of op) 256) (up_to_at 99 right all_right n k) in
    let r = parted (get_or rows n no_row) (group_number (group_of op)) (base_of op) n (eqb→eq (get_or rows n no_row) (row_of op) parts.0) (ltb→lt (base_of op) 256 parts.1) k in
    record { known = k; group = r.0; base = r.1.0; between = r.1.1 }

pub row_is : (n : ℕ) → get_or rows n no_row < no_row → Row n
row_is n h = go (ltb n 99) refl
  where
    go : (t : Bool) → ltb n 99 ≡ t → Row n
    go true e = found n (ltb-true n 99 e)
    go false e = absurd (omega (arith, get_or-eq_default rows no_row (ltb-false n 99 e)))

-- the group of a number
pub group_at : (g : Group) → g ≡ get_or groups (group_number g) G.Unsupported
group_at G.Arithmetic = refl
group_at G.Mov = refl
group_at G.Test = refl
group_at G.Xchg = refl
group_at G.Unary = refl
group_at G.IncDec = refl
group_at G.Push = refl
group_at G.Pop = refl
group_at G.Lea = refl
group_at G.LesLds = refl
group_at G.Shift = refl
group_at G.Call = refl
group_at G.Jmp = refl
group_at G.Jcc = refl
group_at G.Loopc = refl
group_at G.Int = refl
group_at G.Xlat = refl
group_at G.In = refl
group_at G.Out = refl
group_at G.NoOperands = refl
group_at G.Prefixes = refl
group_at G.Aam = refl
group_at G.Aad = refl
group_at G.Ret = refl
group_at G.Unsupported = refl

-- ---- the size of two operands
pub common_is : (i j : ℕ) → i < 3 → j < 3 → 0 < get_or commons (3 * i + j) 0
    → common_of (get_or sizes i S.Unspecified) (get_or sizes j S.Unspecified) ≡ Ok (data_of (get_or commons (3 * i + j) 0))
common_is zero zero hi hj h = absurd (omega arith)
common_is zero (suc zero) hi hj h = refl
common_is zero (suc (suc zero)) hi hj h = refl
common_is (suc zero) zero hi hj h = refl
common_is (suc zero) (suc zero) hi hj h = refl
common_is (suc zero) (suc (suc zero)) hi hj h = absurd (omega arith)
common_is (suc (suc zero)) zero hi hj h = refl
common_is (suc (suc zero)) (suc zero) hi hj h = absurd (omega arith)
common_is (suc (suc zero)) (suc (suc zero)) hi hj h = refl
common_is (suc (suc (suc i))) j hi hj h = absurd (omega arith)
common_is zero (suc (suc (suc j))) hi hj h = absurd (omega arith)
common_is (suc zero) (suc (suc (suc j))) hi hj h = absurd (omega arith)
common_is (suc (suc zero)) (suc (suc (suc j))) hi hj h = absurd (omega arith)

pub common_small : (n : ℕ) → get_or commons n 0 ≤ 2
common_small zero = omega arith
common_small (suc zero) = omega arith
common_small (suc (suc zero)) = omega arith
common_small (suc (suc (suc zero))) = omega arith
common_small (suc (suc (suc (suc zero)))) = omega arith
common_small (suc (suc (suc (suc (suc zero))))) = omega arith
common_small (suc (suc (suc (suc (suc (suc zero)))))) = omega arith
common_small (suc (suc (suc (suc (suc (suc (suc zero))))))) = omega arith
common_small (suc (suc (suc (suc (suc (suc (suc (suc zero)))))))) = omega arith
common_small (suc (suc (suc (suc (suc (suc (suc (suc (suc n))))))))) = omega arith
