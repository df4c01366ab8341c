use mathlib.Core.Path.{refl}
use native.Mathlib.Nat.{mul-le-mul}
use native.Mathlib.Omega.{arith}
use Rattle.convert_laws.proofs.Ranges.{times_within, old_within, gained_little}
use Rattle.convert_record.proofs.gained_by.Goals as goal

pub overflow_mul-result : goal.overflow_mul-result
overflow_mul-result c =
    let p = c.requires in
    let t = mul-le-mul (times_within c.args.insn p.0).1 p.2 in
    rw c.times_of.ensures (omega arith)

pub overflow_sub-result : goal.overflow_sub-result
overflow_sub-result c =
    let p = c.requires in
    rw (c.times_of.ensures, c.old_bytes.ensures) (old_within c.args.insn c.args.m p.0 p.1)

pub returns : goal.returns
returns c =
    let p = c.requires in
    let insn = c.args.insn in
    let m = c.args.m in
    rw (c.times_of.ensures, c.old_bytes.ensures) (record { value = refl; small = gained_little insn m p.0 p.2 })
