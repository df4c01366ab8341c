use Rattle.std.proofs.Common.{◌≡◌, Bool, true, false, refl}
use Rattle.shift_copies.specs.Shifting.{Shift, rol, ror, rcl, rcr, shl, shr, sar, operation_of, is_shift}
use Rattle.shift_copies.proofs.Named.{named}
use Rattle.convert_record.proofs.is_shift.Goals as goal

pub returns-in_default : goal.returns-in_default
returns-in_default c = go (is_shift c.args.operation) refl
  where
    none : (s : Shift) → c.args.operation ≡ operation_of s → false ≡ true
    none rol q = absurd (c.in_default.not-ROL q)
    none ror q = absurd (c.in_default.not-ROR q)
    none rcl q = absurd (c.in_default.not-RCL q)
    none rcr q = absurd (c.in_default.not-RCR q)
    none shl q = absurd (c.in_default.not-SHL q)
    none shr q = absurd (c.in_default.not-SHR q)
    none sar q = absurd (c.in_default.not-SAR q)

    go : (b : Bool) → is_shift c.args.operation ≡ b → false ≡ b
    go true e = let (s, q) = named c.args.operation e in none s q
    go false e = refl
