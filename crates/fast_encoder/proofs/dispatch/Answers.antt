use Rattle.encode_lines.specs.Lines.{invalid_operands, invalid_size, size_not_specified, size_not_specified_first}
use mathlib.Core.Path.{◌≡◌, refl, sym, ap}
use native.Mathlib.Omega.{arith}
use Prim.Native.Nat.{◌+◌, ◌%◌}
use lib.Dec.{lit<, lit≤}
use Rattle.encode_lines.specs.Lines.{bit}
use Rattle.show_record.specs.Record.{operand_at}
use Rattle.fast_rows.specs.Rows.{data_of}
use Rattle.fast_forms.proofs.Laws.{first_operand, second_operand, one}
use Rattle.fast_encoder.specs.Packing.{decided_at}
use Rattle.fast_encoder.proofs.Laws.{keyed, through_is, stated_second, base_zero, four, sixteen, one_left, inc_code, short_jump, common_at, size_small, stated_at, bit_small, arithmetic_code}
use Rattle.encode_spec.specs.Answer.{bytes}
use Rattle.fast_encoder.proofs.dispatch.Goals as goal

pub arithmetic_imm-requires : goal.arithmetic_imm-requires
arithmetic_imm-requires c =
    let k = keyed _ c.args.code c.requires c.row_of-row.result _ c.row_of-row.ensures c.in-4.is (lit< tt) in
    (c.requires, (size_small _ c.requires c.common_of-size.result c.common_of-size.ensures, omega (arith, k.base_most)))

pub rm_reg-requires : goal.rm_reg-requires
rm_reg-requires c =
    let k = keyed _ c.args.code c.requires c.row_of-row.result _ c.row_of-row.ensures c.in-5.is (lit< tt) in
    (c.requires, (first_operand _ c.requires, (second_operand _ c.requires, (size_small _ c.requires c.common_of-size.result c.common_of-size.ensures, omega (arith, k.base_most)))))

pub overflow_add-base : goal.overflow_add-base
overflow_add-base c = let k = keyed _ c.args.code c.requires c.row_of-row.result _ c.row_of-row.ensures c.in-7.is (lit< tt) in omega (arith, k.base_most)

pub rm_reg-requires-in-7 : goal.rm_reg-requires-in-7
rm_reg-requires-in-7 c =
    let k = keyed _ c.args.code c.requires c.row_of-row.result _ c.row_of-row.ensures c.in-7.is (lit< tt) in
    (c.requires, (second_operand _ c.requires, (first_operand _ c.requires, (size_small _ c.requires c.common_of-size.result c.common_of-size.ensures, omega (arith, k.base_most)))))

pub arithmetic_imm-requires-in-12 : goal.arithmetic_imm-requires-in-12
arithmetic_imm-requires-in-12 c =
    let k = keyed _ c.args.code c.requires c.row_of-row.result _ c.row_of-row.ensures c.in-12.is (lit< tt) in
    (c.requires, (size_small _ c.requires c.common_of-size.result c.common_of-size.ensures, omega (arith, k.base_most)))

pub rm_reg-requires-in-13 : goal.rm_reg-requires-in-13
rm_reg-requires-in-13 c =
    let k = keyed _ c.args.code c.requires c.row_of-row.result _ c.row_of-row.ensures c.in-13.is (lit< tt) in
    (c.requires, (first_operand _ c.requires, (second_operand _ c.requires, (size_small _ c.requires c.common_of-size.result c.common_of-size.ensures, omega (arith, k.base_most)))))

pub reg_imm-requires : goal.reg_imm-requires
reg_imm-requires c = (c.requires, size_small _ c.requires c.common_of-size.result c.common_of-size.ensures)

pub rm_reg-requires-in-21 : goal.rm_reg-requires-in-21
rm_reg-requires-in-21 c = (c.requires, (first_operand _ c.requires, (second_operand _ c.requires, (size_small _ c.requires c.common_of-size.result c.common_of-size.ensures, lit< tt))))

pub mov_from-requires : goal.mov_from-requires
mov_from-requires c = (c.requires, size_small _ c.requires c.common_of-size.result c.common_of-size.ensures)

pub rm_imm-requires : goal.rm_imm-requires
rm_imm-requires c = (c.requires, (size_small _ c.requires c.common_of-size.result c.common_of-size.ensures, (lit< tt, lit< tt)))

pub mov_into-requires : goal.mov_into-requires
mov_into-requires c = (c.requires, size_small _ c.requires c.common_of-size.result c.common_of-size.ensures)

pub test_imm-requires : goal.test_imm-requires
test_imm-requires c = (c.requires, size_small _ c.requires c.common_of-size.result c.common_of-size.ensures)

pub rm_reg-requires-in-37 : goal.rm_reg-requires-in-37
rm_reg-requires-in-37 c = (c.requires, (first_operand _ c.requires, (second_operand _ c.requires, (size_small _ c.requires c.common_of-size.result c.common_of-size.ensures, lit< tt))))

pub rm_reg-requires-in-39 : goal.rm_reg-requires-in-39
rm_reg-requires-in-39 c = (c.requires, (second_operand _ c.requires, (first_operand _ c.requires, (size_small _ c.requires c.common_of-size.result c.common_of-size.ensures, lit< tt))))

pub rm_imm-requires-in-44 : goal.rm_imm-requires-in-44
rm_imm-requires-in-44 c = (c.requires, (size_small _ c.requires c.common_of-size.result c.common_of-size.ensures, (lit< tt, lit< tt)))

pub rm_reg-requires-in-45 : goal.rm_reg-requires-in-45
rm_reg-requires-in-45 c = (c.requires, (first_operand _ c.requires, (second_operand _ c.requires, (size_small _ c.requires c.common_of-size.result c.common_of-size.ensures, lit< tt))))

pub xchg_regs-requires : goal.xchg_regs-requires
xchg_regs-requires c = (c.requires, size_small _ c.requires c.common_of-size.result c.common_of-size.ensures)

pub rm_reg-requires-in-55 : goal.rm_reg-requires-in-55
rm_reg-requires-in-55 c = (c.requires, (second_operand _ c.requires, (first_operand _ c.requires, (size_small _ c.requires c.common_of-size.result c.common_of-size.ensures, lit< tt))))

pub rm_reg-requires-in-61 : goal.rm_reg-requires-in-61
rm_reg-requires-in-61 c = (c.requires, (first_operand _ c.requires, (second_operand _ c.requires, (size_small _ c.requires c.common_of-size.result c.common_of-size.ensures, lit< tt))))

pub word_alone-requires : goal.word_alone-requires
word_alone-requires c = (c.requires, (lit< tt, lit< tt))

pub pop_sreg-requires : goal.pop_sreg-requires
pop_sreg-requires c =
    let k = keyed _ c.args.code c.requires c.row_of-row.result _ c.row_of-row.ensures c.in-120.is (lit< tt) in
    (c.requires, k.first_number)

pub word_alone-requires-in-124 : goal.word_alone-requires-in-124
word_alone-requires-in-124 c = (c.requires, (lit< tt, lit< tt))

pub load_run-requires : goal.load_run-requires
load_run-requires c =
    let k = keyed _ c.args.code c.requires c.row_of-row.result _ c.row_of-row.ensures c.in-135.is (lit< tt) in
    (c.requires, omega (arith, k.base_most))

pub load_run-requires-in-151 : goal.load_run-requires-in-151
load_run-requires-in-151 c =
    let k = keyed _ c.args.code c.requires c.row_of-row.result _ c.row_of-row.ensures c.in-151.is (lit< tt) in
    (c.requires, omega (arith, k.base_most))

pub shift_one-requires : goal.shift_one-requires
shift_one-requires c =
    let k = keyed _ c.args.code c.requires c.row_of-row.result _ c.row_of-row.ensures c.in-164.is (lit< tt) in
    (c.requires, (omega (arith, c.requires.first.size), omega (arith, k.base_most)))

pub shift_cl-requires : goal.shift_cl-requires
shift_cl-requires c =
    let k = keyed _ c.args.code c.requires c.row_of-row.result _ c.row_of-row.ensures c.in-165.is (lit< tt) in
    (c.requires, (omega (arith, c.requires.first.size), omega (arith, k.base_most)))

pub shift_one-requires-in-172 : goal.shift_one-requires-in-172
shift_one-requires-in-172 c =
    let k = keyed _ c.args.code c.requires c.row_of-row.result _ c.row_of-row.ensures c.in-172.is (lit< tt) in
    (c.requires, (omega (arith, c.requires.first.size), omega (arith, k.base_most)))

pub shift_cl-requires-in-173 : goal.shift_cl-requires-in-173
shift_cl-requires-in-173 c =
    let k = keyed _ c.args.code c.requires c.row_of-row.result _ c.row_of-row.ensures c.in-173.is (lit< tt) in
    (c.requires, (omega (arith, c.requires.first.size), omega (arith, k.base_most)))

pub call_near-requires : goal.call_near-requires
call_near-requires c = c.requires

pub through-requires : goal.through-requires
through-requires c = (c.requires, lit< tt)

pub call_memory-requires : goal.call_memory-requires
call_memory-requires c = c.requires

pub jmp_imm-requires : goal.jmp_imm-requires
jmp_imm-requires c = c.requires

pub through-requires-in-196 : goal.through-requires-in-196
through-requires-in-196 c = (c.requires, lit< tt)

pub through-requires-in-204 : goal.through-requires-in-204
through-requires-in-204 c = (c.requires, lit< tt)

pub unsigned_run-requires : goal.unsigned_run-requires
unsigned_run-requires c = (c.requires, first_operand _ c.requires)

pub xlat-requires : goal.xlat-requires
xlat-requires c = c.requires

pub port_imm-requires : goal.port_imm-requires
port_imm-requires c = (c.requires, (first_operand _ c.requires, (second_operand _ c.requires, lit< tt)))

pub port_dx-requires : goal.port_dx-requires
port_dx-requires c = (c.requires, (first_operand _ c.requires, (second_operand _ c.requires, lit< tt)))

pub port_imm-requires-in-289 : goal.port_imm-requires-in-289
port_imm-requires-in-289 c = (c.requires, (second_operand _ c.requires, (first_operand _ c.requires, lit< tt)))

pub port_dx-requires-in-293 : goal.port_dx-requires-in-293
port_dx-requires-in-293 c = (c.requires, (second_operand _ c.requires, (first_operand _ c.requires, lit< tt)))

pub bare_run-requires : goal.bare_run-requires
bare_run-requires c = one 10 (lit< tt)

pub bare_run-requires-in-352 : goal.bare_run-requires-in-352
bare_run-requires-in-352 c = one 10 (lit< tt)

pub ret-requires : goal.ret-requires
ret-requires c = c.requires

pub rm_alone-requires : goal.rm_alone-requires
rm_alone-requires c =
    let k = four _ c.args.code c.requires c.row_of-row.result 68 c.row_of-row.ensures refl (lit< tt) c.in-68-to-71.if-this-lt68-own.false c.in-68-to-71.if-this-lt72-own.true in
    (c.requires, (omega (arith, c.requires.first.size), (lit< tt, omega (arith, k.base_most))))

pub rm_alone-requires-in-76-to-79 : goal.rm_alone-requires-in-76-to-79
rm_alone-requires-in-76-to-79 c =
    let k = four _ c.args.code c.requires c.row_of-row.result 76 c.row_of-row.ensures refl (lit< tt) c.in-76-to-79.if-this-lt76-own.false c.in-76-to-79.if-this-lt80-own.true in
    (c.requires, (omega (arith, c.requires.first.size), (lit< tt, omega (arith, k.base_most))))

pub overflow_mul-base : goal.overflow_mul-base
overflow_mul-base c = let k = four _ c.args.code c.requires c.row_of-row.result 84 c.row_of-row.ensures refl (lit< tt) c.in-84-to-87.if-this-lt84-own.false c.in-84-to-87.if-this-lt88-own.true in omega (arith, k.base_most)

pub overflow_add-base-then-own-eq2 : goal.overflow_add-base-then-own-eq2
overflow_add-base-then-own-eq2 c = let k = four _ c.args.code c.requires c.row_of-row.result 84 c.row_of-row.ensures refl (lit< tt) c.in-84-to-87.if-this-lt84-own.false c.in-84-to-87.if-this-lt88-own.true in omega (arith, k.base_most)

pub reg_run-requires : goal.reg_run-requires
reg_run-requires c =
    let k = four _ c.args.code c.requires c.row_of-row.result 84 c.row_of-row.ensures refl (lit< tt) c.in-84-to-87.if-this-lt84-own.false c.in-84-to-87.if-this-lt88-own.true in
    (c.requires, (first_operand _ c.requires, omega (arith, k.base_most)))

pub returns-then-own-eq2 : goal.returns-then-own-eq2
unfolding decided_at operand_at
returns-then-own-eq2 c =
    λ h. let k = four _ c.args.code c.requires c.row_of-row.result 84 c.row_of-row.ensures refl (lit< tt) c.in-84-to-87.if-this-lt84-own.false c.in-84-to-87.if-this-lt88-own.true in
    let w = c.if-own-eq2.true in
    (k.known, rw (k.group_is, k.base_is, w, k.first_is, inc_code (c.row_of-row.result % 256) k.base_most) (c.reg_run.ensures 0 c.args.offset refl h))

pub rm_alone-requires-in-84-to-87 : goal.rm_alone-requires-in-84-to-87
rm_alone-requires-in-84-to-87 c =
    let k = four _ c.args.code c.requires c.row_of-row.result 84 c.row_of-row.ensures refl (lit< tt) c.in-84-to-87.if-this-lt84-own.false c.in-84-to-87.if-this-lt88-own.true in
    (c.requires, (omega (arith, c.requires.first.size), (lit< tt, omega (arith, k.base_most))))

pub rm_alone-requires-in-92-to-95 : goal.rm_alone-requires-in-92-to-95
rm_alone-requires-in-92-to-95 c =
    let k = four _ c.args.code c.requires c.row_of-row.result 92 c.row_of-row.ensures refl (lit< tt) c.in-92-to-95.if-this-lt92-own.false c.in-92-to-95.if-this-lt96-own.true in
    (c.requires, (omega (arith, c.requires.first.size), (lit< tt, omega (arith, k.base_most))))

pub returns-then-own-ne2 : goal.returns-then-own-ne2
returns-then-own-ne2 c = λ h. absurd (omega arith)

pub reg_run-requires-in-100-to-103 : goal.reg_run-requires-in-100-to-103
reg_run-requires-in-100-to-103 c = (c.requires, (first_operand _ c.requires, lit< tt))

pub segment_run-requires : goal.segment_run-requires
segment_run-requires c =
    let k = four _ c.args.code c.requires c.row_of-row.result 104 c.row_of-row.ensures refl (lit< tt) c.in-104-to-107.if-this-lt104-own.false c.in-104-to-107.if-this-lt108-own.true in
    (c.requires, (k.first_number, lit< tt))

pub returns-then-own-ne2-2 : goal.returns-then-own-ne2-2
returns-then-own-ne2-2 c = λ h. absurd (omega arith)

pub reg_run-requires-in-116-to-119 : goal.reg_run-requires-in-116-to-119
reg_run-requires-in-116-to-119 c = (c.requires, (first_operand _ c.requires, lit< tt))

pub returns-then-jump-eq1 : goal.returns-then-jump-eq1
returns-then-jump-eq1 c = λ h. absurd (omega arith)

pub returns-then-jump-eq2 : goal.returns-then-jump-eq2
returns-then-jump-eq2 c = λ h. absurd (omega arith)

pub returns-then-jump-eq1-2 : goal.returns-then-jump-eq1-2
returns-then-jump-eq1-2 c = λ h. absurd (omega arith)

pub returns-then-jump-eq2-2 : goal.returns-then-jump-eq2-2
returns-then-jump-eq2-2 c = λ h. absurd (omega arith)

pub returns-in-4 : goal.returns-in-4
unfolding decided_at operand_at
returns-in-4 c =
    λ h. let k = keyed _ c.args.code c.requires c.row_of-row.result _ c.row_of-row.ensures c.in-4.is (lit< tt) in
    let z = c.arithmetic_imm.ensures c.args.offset h in
    (k.known, rw (k.group_is, k.base_is, common_at _ c.requires c.common_of-size.result c.common_of-size.ensures z.0, k.first_is, k.second_is) z.1)

pub returns-in-5 : goal.returns-in-5
unfolding decided_at operand_at
returns-in-5 c =
    λ h. let k = keyed _ c.args.code c.requires c.row_of-row.result _ c.row_of-row.ensures c.in-5.is (lit< tt) in
    let z = c.rm_reg.ensures 0 c.args.offset refl refl h in
    let e : (c.row_of-row.result % 256 + (bit (data_of c.common_of-size.result))) % 256 ≡ c.row_of-row.result % 256 + (bit (data_of c.common_of-size.result)) = omega (arith, k.base_most, bit_small (data_of c.common_of-size.result)) in
    (k.known, rw (k.group_is, k.base_is, common_at _ c.requires c.common_of-size.result c.common_of-size.ensures z.0, k.first_is, k.second_is, e) z.1)

pub returns-in-7 : goal.returns-in-7
unfolding decided_at operand_at
returns-in-7 c =
    λ h. let k = keyed _ c.args.code c.requires c.row_of-row.result _ c.row_of-row.ensures c.in-7.is (lit< tt) in
    let z = c.rm_reg-in-7.ensures 1 c.args.offset refl refl h in
    let e = arithmetic_code (c.row_of-row.result % 256) 2 (bit (data_of c.common_of-size.result)) k.base_most (lit≤ tt) (bit_small (data_of c.common_of-size.result)) in
    (k.known, rw (k.group_is, k.base_is, common_at _ c.requires c.common_of-size.result c.common_of-size.ensures z.0, k.first_is, k.second_is, e) z.1)

pub returns-in-12 : goal.returns-in-12
unfolding decided_at operand_at
returns-in-12 c =
    λ h. let k = keyed _ c.args.code c.requires c.row_of-row.result _ c.row_of-row.ensures c.in-12.is (lit< tt) in
    let z = c.arithmetic_imm-in-12.ensures c.args.offset h in
    (k.known, rw (k.group_is, k.base_is, common_at _ c.requires c.common_of-size.result c.common_of-size.ensures z.0, k.first_is, k.second_is) z.1)

pub returns-in-13 : goal.returns-in-13
unfolding decided_at operand_at
returns-in-13 c =
    λ h. let k = keyed _ c.args.code c.requires c.row_of-row.result _ c.row_of-row.ensures c.in-13.is (lit< tt) in
    let z = c.rm_reg-in-13.ensures 0 c.args.offset refl refl h in
    let e : (c.row_of-row.result % 256 + (bit (data_of c.common_of-size.result))) % 256 ≡ c.row_of-row.result % 256 + (bit (data_of c.common_of-size.result)) = omega (arith, k.base_most, bit_small (data_of c.common_of-size.result)) in
    (k.known, rw (k.group_is, k.base_is, common_at _ c.requires c.common_of-size.result c.common_of-size.ensures z.0, k.first_is, k.second_is, e) z.1)

pub returns-in-20 : goal.returns-in-20
unfolding decided_at operand_at
returns-in-20 c =
    λ h. let k = keyed _ c.args.code c.requires c.row_of-row.result _ c.row_of-row.ensures c.in-20.is (lit< tt) in
    let z = c.reg_imm.ensures c.args.offset h in
    (k.known, rw (k.group_is, common_at _ c.requires c.common_of-size.result c.common_of-size.ensures z.0, k.first_is, k.second_is) z.1)

pub returns-in-21 : goal.returns-in-21
unfolding decided_at operand_at
returns-in-21 c =
    λ h. let k = keyed _ c.args.code c.requires c.row_of-row.result _ c.row_of-row.ensures c.in-21.is (lit< tt) in
    let z = c.rm_reg-in-21.ensures 0 c.args.offset refl refl h in
    (k.known, rw (k.group_is, common_at _ c.requires c.common_of-size.result c.common_of-size.ensures z.0, k.first_is, k.second_is) z.1)

pub returns-in-22 : goal.returns-in-22
unfolding decided_at operand_at
returns-in-22 c =
    λ h. let k = keyed _ c.args.code c.requires c.row_of-row.result _ c.row_of-row.ensures c.in-22.is (lit< tt) in
    let z = c.mov_sreg.ensures c.args.offset h in
    (k.known, rw (k.group_is, base_zero k refl, common_at _ c.requires c.common_of-size.result c.common_of-size.ensures z.0, k.first_is, k.second_is) z.1)

pub returns-in-23 : goal.returns-in-23
unfolding decided_at operand_at
returns-in-23 c =
    λ h. let k = keyed _ c.args.code c.requires c.row_of-row.result _ c.row_of-row.ensures c.in-23.is (lit< tt) in
    let z = c.mov_from.ensures c.args.offset h in
    (k.known, rw (k.group_is, base_zero k refl, common_at _ c.requires c.common_of-size.result c.common_of-size.ensures z.0, k.first_is, k.second_is) z.1)

pub returns-in-25 : goal.returns-in-25
unfolding decided_at operand_at
returns-in-25 c =
    λ h. let k = keyed _ c.args.code c.requires c.row_of-row.result _ c.row_of-row.ensures c.in-25.is (lit< tt) in
    let z = c.mov_into_sreg.ensures c.args.offset h in
    (k.known, rw (k.group_is, base_zero k refl, common_at _ c.requires c.common_of-size.result c.common_of-size.ensures z.0, k.first_is, k.second_is) z.1)

pub returns-in-27 : goal.returns-in-27
unfolding decided_at operand_at
returns-in-27 c =
    λ h. let k = keyed _ c.args.code c.requires c.row_of-row.result _ c.row_of-row.ensures c.in-27.is (lit< tt) in
    let z = c.mov_into_sreg-in-27.ensures c.args.offset h in
    (k.known, rw (k.group_is, base_zero k refl, common_at _ c.requires c.common_of-size.result c.common_of-size.ensures z.0, k.first_is, k.second_is) z.1)

pub returns-in-28 : goal.returns-in-28
unfolding decided_at operand_at
returns-in-28 c =
    λ h. let k = keyed _ c.args.code c.requires c.row_of-row.result _ c.row_of-row.ensures c.in-28.is (lit< tt) in
    let z = c.rm_imm.ensures c.args.offset h in
    (k.known, rw (k.group_is, common_at _ c.requires c.common_of-size.result c.common_of-size.ensures z.0, k.first_is, k.second_is) z.1)

pub returns-in-29 : goal.returns-in-29
unfolding decided_at operand_at
returns-in-29 c =
    λ h. let k = keyed _ c.args.code c.requires c.row_of-row.result _ c.row_of-row.ensures c.in-29.is (lit< tt) in
    let z = c.mov_into.ensures c.args.offset h in
    (k.known, rw (k.group_is, base_zero k refl, common_at _ c.requires c.common_of-size.result c.common_of-size.ensures z.0, k.first_is, k.second_is) z.1)

pub returns-in-30 : goal.returns-in-30
unfolding decided_at operand_at
returns-in-30 c =
    λ h. let k = keyed _ c.args.code c.requires c.row_of-row.result _ c.row_of-row.ensures c.in-30.is (lit< tt) in
    let z = c.mov_sreg-in-30.ensures c.args.offset h in
    (k.known, rw (k.group_is, base_zero k refl, common_at _ c.requires c.common_of-size.result c.common_of-size.ensures z.0, k.first_is, k.second_is) z.1)

pub returns-in-36 : goal.returns-in-36
unfolding decided_at operand_at
returns-in-36 c =
    λ h. let k = keyed _ c.args.code c.requires c.row_of-row.result _ c.row_of-row.ensures c.in-36.is (lit< tt) in
    let z = c.test_imm.ensures c.args.offset h in
    (k.known, rw (k.group_is, base_zero k refl, common_at _ c.requires c.common_of-size.result c.common_of-size.ensures z.0, k.first_is, k.second_is) z.1)

pub returns-in-37 : goal.returns-in-37
unfolding decided_at operand_at
returns-in-37 c =
    λ h. let k = keyed _ c.args.code c.requires c.row_of-row.result _ c.row_of-row.ensures c.in-37.is (lit< tt) in
    let z = c.rm_reg-in-37.ensures 0 c.args.offset refl refl h in
    (k.known, rw (k.group_is, common_at _ c.requires c.common_of-size.result c.common_of-size.ensures z.0, k.first_is, k.second_is) z.1)

pub returns-in-39 : goal.returns-in-39
unfolding decided_at operand_at
returns-in-39 c =
    λ h. let k = keyed _ c.args.code c.requires c.row_of-row.result _ c.row_of-row.ensures c.in-39.is (lit< tt) in
    let z = c.rm_reg-in-39.ensures 1 c.args.offset refl refl h in
    (k.known, rw (k.group_is, common_at _ c.requires c.common_of-size.result c.common_of-size.ensures z.0, k.first_is, k.second_is) z.1)

pub returns-in-44 : goal.returns-in-44
unfolding decided_at operand_at
returns-in-44 c =
    λ h. let k = keyed _ c.args.code c.requires c.row_of-row.result _ c.row_of-row.ensures c.in-44.is (lit< tt) in
    let z = c.rm_imm-in-44.ensures c.args.offset h in
    (k.known, rw (k.group_is, common_at _ c.requires c.common_of-size.result c.common_of-size.ensures z.0, k.first_is, k.second_is) z.1)

pub returns-in-45 : goal.returns-in-45
unfolding decided_at operand_at
returns-in-45 c =
    λ h. let k = keyed _ c.args.code c.requires c.row_of-row.result _ c.row_of-row.ensures c.in-45.is (lit< tt) in
    let z = c.rm_reg-in-45.ensures 0 c.args.offset refl refl h in
    (k.known, rw (k.group_is, common_at _ c.requires c.common_of-size.result c.common_of-size.ensures z.0, k.first_is, k.second_is) z.1)

pub returns-in-53 : goal.returns-in-53
unfolding decided_at operand_at
returns-in-53 c =
    λ h. let k = keyed _ c.args.code c.requires c.row_of-row.result _ c.row_of-row.ensures c.in-53.is (lit< tt) in
    let z = c.xchg_regs.ensures c.args.offset h in
    (k.known, rw (k.group_is, base_zero k refl, common_at _ c.requires c.common_of-size.result c.common_of-size.ensures z.0, k.first_is, k.second_is) z.1)

pub returns-in-55 : goal.returns-in-55
unfolding decided_at operand_at
returns-in-55 c =
    λ h. let k = keyed _ c.args.code c.requires c.row_of-row.result _ c.row_of-row.ensures c.in-55.is (lit< tt) in
    let z = c.rm_reg-in-55.ensures 1 c.args.offset refl refl h in
    (k.known, rw (k.group_is, common_at _ c.requires c.common_of-size.result c.common_of-size.ensures z.0, k.first_is, k.second_is) z.1)

pub returns-in-61 : goal.returns-in-61
unfolding decided_at operand_at
returns-in-61 c =
    λ h. let k = keyed _ c.args.code c.requires c.row_of-row.result _ c.row_of-row.ensures c.in-61.is (lit< tt) in
    let z = c.rm_reg-in-61.ensures 0 c.args.offset refl refl h in
    (k.known, rw (k.group_is, common_at _ c.requires c.common_of-size.result c.common_of-size.ensures z.0, k.first_is, k.second_is) z.1)

pub returns-in-108 : goal.returns-in-108
unfolding decided_at operand_at
returns-in-108 c =
    λ h. let k = keyed _ c.args.code c.requires c.row_of-row.result _ c.row_of-row.ensures c.in-108.is (lit< tt) in
    let z = c.word_alone.ensures c.args.offset h in
    (k.known, rw (k.group_is, z.0, k.first_is) z.1)

pub returns-in-120 : goal.returns-in-120
unfolding decided_at operand_at
returns-in-120 c =
    λ h. let k = keyed _ c.args.code c.requires c.row_of-row.result _ c.row_of-row.ensures c.in-120.is (lit< tt) in
    let z = c.pop_sreg.ensures c.args.offset h in
    (k.known, rw (k.group_is, z.0, k.first_is, z.1.0) z.1.1)

pub returns-in-124 : goal.returns-in-124
unfolding decided_at operand_at
returns-in-124 c =
    λ h. let k = keyed _ c.args.code c.requires c.row_of-row.result _ c.row_of-row.ensures c.in-124.is (lit< tt) in
    let z = c.word_alone-in-124.ensures c.args.offset h in
    (k.known, rw (k.group_is, z.0, k.first_is) z.1)

pub returns-in-135 : goal.returns-in-135
unfolding decided_at operand_at
returns-in-135 c =
    λ h. let k = keyed _ c.args.code c.requires c.row_of-row.result _ c.row_of-row.ensures c.in-135.is (lit< tt) in
    let z = c.load_run.ensures c.args.offset h in
    (k.known, rw (k.group_is, k.base_is, z.0, k.first_is, k.second_is) z.1)

pub returns-in-151 : goal.returns-in-151
unfolding decided_at operand_at
returns-in-151 c =
    λ h. let k = keyed _ c.args.code c.requires c.row_of-row.result _ c.row_of-row.ensures c.in-151.is (lit< tt) in
    let z = c.load_run-in-151.ensures c.args.offset h in
    (k.known, rw (k.group_is, k.base_is, z.0, k.first_is, k.second_is) z.1)

pub returns-in-164 : goal.returns-in-164
unfolding decided_at operand_at
returns-in-164 c =
    λ h. let k = keyed _ c.args.code c.requires c.row_of-row.result _ c.row_of-row.ensures c.in-164.is (lit< tt) in
    let z = c.shift_one.ensures c.args.offset h in
    (k.known, rw (k.group_is, k.base_is, stated_at _ c.requires z.0 size_not_specified_first, k.first_is, k.second_is) z.1)

pub returns-in-165 : goal.returns-in-165
unfolding decided_at operand_at
returns-in-165 c =
    λ h. let k = keyed _ c.args.code c.requires c.row_of-row.result _ c.row_of-row.ensures c.in-165.is (lit< tt) in
    let z = c.shift_cl.ensures c.args.offset h in
    (k.known, rw (k.group_is, k.base_is, stated_at _ c.requires z.0 size_not_specified_first, k.first_is, k.second_is) z.1)

pub returns-in-172 : goal.returns-in-172
unfolding decided_at operand_at
returns-in-172 c =
    λ h. let k = keyed _ c.args.code c.requires c.row_of-row.result _ c.row_of-row.ensures c.in-172.is (lit< tt) in
    let z = c.shift_one-in-172.ensures c.args.offset h in
    (k.known, rw (k.group_is, k.base_is, stated_at _ c.requires z.0 size_not_specified_first, k.first_is, k.second_is) z.1)

pub returns-in-173 : goal.returns-in-173
unfolding decided_at operand_at
returns-in-173 c =
    λ h. let k = keyed _ c.args.code c.requires c.row_of-row.result _ c.row_of-row.ensures c.in-173.is (lit< tt) in
    let z = c.shift_cl-in-173.ensures c.args.offset h in
    (k.known, rw (k.group_is, k.base_is, stated_at _ c.requires z.0 size_not_specified_first, k.first_is, k.second_is) z.1)

pub returns-in-176 : goal.returns-in-176
unfolding decided_at operand_at
returns-in-176 c =
    λ h. let k = keyed _ c.args.code c.requires c.row_of-row.result _ c.row_of-row.ensures c.in-176.is (lit< tt) in
    (k.known, rw (k.group_is, base_zero k refl, k.first_is) (c.call_near.ensures h))

pub returns-in-180 : goal.returns-in-180
unfolding decided_at operand_at
returns-in-180 c =
    λ h. let k = keyed _ c.args.code c.requires c.row_of-row.result _ c.row_of-row.ensures c.in-180.is (lit< tt) in
    let z = c.through.ensures c.args.offset h in
    (k.known, rw (k.group_is, k.first_is, through_is _ c.requires z.0 _ _ _ _) z.1)

pub returns-in-188 : goal.returns-in-188
unfolding decided_at operand_at
returns-in-188 c =
    λ h. let k = keyed _ c.args.code c.requires c.row_of-row.result _ c.row_of-row.ensures c.in-188.is (lit< tt) in
    (k.known, rw (k.group_is, base_zero k refl, k.first_is) (c.call_memory.ensures c.args.offset h))

pub returns-in-192 : goal.returns-in-192
unfolding decided_at operand_at
returns-in-192 c =
    λ h. let k = keyed _ c.args.code c.requires c.row_of-row.result _ c.row_of-row.ensures c.in-192.is (lit< tt) in
    (k.known, rw (k.group_is, base_zero k refl, k.first_is) (c.jmp_imm.ensures h))

pub returns-in-196 : goal.returns-in-196
unfolding decided_at operand_at
returns-in-196 c =
    λ h. let k = keyed _ c.args.code c.requires c.row_of-row.result _ c.row_of-row.ensures c.in-196.is (lit< tt) in
    let z = c.through-in-196.ensures c.args.offset h in
    (k.known, rw (k.group_is, k.first_is, through_is _ c.requires z.0 _ _ _ _) z.1)

pub returns-in-204 : goal.returns-in-204
unfolding decided_at operand_at
returns-in-204 c =
    λ h. let k = keyed _ c.args.code c.requires c.row_of-row.result _ c.row_of-row.ensures c.in-204.is (lit< tt) in
    let z = c.through-in-204.ensures c.args.offset h in
    (k.known, rw (k.group_is, k.first_is, through_is _ c.requires z.0 _ _ _ _) z.1)

pub returns-in-240 : goal.returns-in-240
unfolding decided_at operand_at
returns-in-240 c =
    λ h. let k = keyed _ c.args.code c.requires c.row_of-row.result _ c.row_of-row.ensures c.in-240.is (lit< tt) in
    (k.known, rw (k.group_is, k.first_is) (c.unsigned_run.ensures 0 c.args.offset refl h))

pub returns-in-268 : goal.returns-in-268
unfolding decided_at operand_at
returns-in-268 c =
    λ h. let k = keyed _ c.args.code c.requires c.row_of-row.result _ c.row_of-row.ensures c.in-268.is (lit< tt) in
    let z = c.xlat.ensures c.args.offset h in
    (k.known, rw (k.group_is, z.0, k.first_is, z.1.0) z.1.1)

pub returns-in-276 : goal.returns-in-276
unfolding decided_at operand_at
returns-in-276 c =
    λ h. let k = keyed _ c.args.code c.requires c.row_of-row.result _ c.row_of-row.ensures c.in-276.is (lit< tt) in
    let z = c.port_imm.ensures 1 c.args.offset refl h in
    (k.known, rw (k.group_is, stated_at _ c.requires z.0 invalid_operands, k.first_is, k.second_is, z.1.0) z.1.1)

pub returns-in-277 : goal.returns-in-277
unfolding decided_at operand_at
returns-in-277 c =
    λ h. let k = keyed _ c.args.code c.requires c.row_of-row.result _ c.row_of-row.ensures c.in-277.is (lit< tt) in
    let z = c.port_dx.ensures h in
    (k.known, rw (k.group_is, stated_at _ c.requires z.0 invalid_operands, k.first_is, k.second_is, z.1.0, z.1.1.0.0, z.1.1.0.1) (ap bytes (sym z.1.1.1)))

pub returns-in-289 : goal.returns-in-289
unfolding decided_at operand_at
returns-in-289 c =
    λ h. let k = keyed _ c.args.code c.requires c.row_of-row.result _ c.row_of-row.ensures c.in-289.is (lit< tt) in
    let z = c.port_imm-in-289.ensures 0 c.args.offset refl h in
    (k.known, rw (k.group_is, stated_second _ c.requires z.0 invalid_operands, k.first_is, k.second_is, z.1.0) z.1.1)

pub returns-in-293 : goal.returns-in-293
unfolding decided_at operand_at
returns-in-293 c =
    λ h. let k = keyed _ c.args.code c.requires c.row_of-row.result _ c.row_of-row.ensures c.in-293.is (lit< tt) in
    let z = c.port_dx-in-293.ensures h in
    (k.known, rw (k.group_is, stated_second _ c.requires z.0 invalid_operands, k.first_is, k.second_is, z.1.0, z.1.1.0.0, z.1.1.0.1) (ap bytes (sym z.1.1.1)))

pub returns-in-336 : goal.returns-in-336
unfolding decided_at operand_at
returns-in-336 c =
    λ h. let k = keyed _ c.args.code c.requires c.row_of-row.result _ c.row_of-row.ensures c.in-336.is (lit< tt) in
    (k.known, rw k.group_is (ap bytes (sym c.bare_run.ensures)))

pub returns-in-352 : goal.returns-in-352
unfolding decided_at operand_at
returns-in-352 c =
    λ h. let k = keyed _ c.args.code c.requires c.row_of-row.result _ c.row_of-row.ensures c.in-352.is (lit< tt) in
    (k.known, rw k.group_is (ap bytes (sym c.bare_run-in-352.ensures)))

pub returns-in-368 : goal.returns-in-368
unfolding decided_at operand_at
returns-in-368 c =
    λ h. let k = keyed _ c.args.code c.requires c.row_of-row.result _ c.row_of-row.ensures c.in-368.is (lit< tt) in
    (k.known, rw (k.group_is, k.base_is, k.first_is) (c.ret.ensures c.args.offset (c.row_of-row.result % 256) h))

pub returns-in-68-to-71 : goal.returns-in-68-to-71
unfolding decided_at operand_at
returns-in-68-to-71 c =
    λ h. let k = four _ c.args.code c.requires c.row_of-row.result 68 c.row_of-row.ensures refl (lit< tt) c.in-68-to-71.if-this-lt68-own.false c.in-68-to-71.if-this-lt72-own.true in
    let z = c.rm_alone.ensures c.args.offset h in
    (k.known, rw (k.group_is, k.base_is, stated_at _ c.requires z.0 size_not_specified, k.first_is) z.1)

pub returns-in-76-to-79 : goal.returns-in-76-to-79
unfolding decided_at operand_at
returns-in-76-to-79 c =
    λ h. let k = four _ c.args.code c.requires c.row_of-row.result 76 c.row_of-row.ensures refl (lit< tt) c.in-76-to-79.if-this-lt76-own.false c.in-76-to-79.if-this-lt80-own.true in
    let z = c.rm_alone-in-76-to-79.ensures c.args.offset h in
    (k.known, rw (k.group_is, k.base_is, stated_at _ c.requires z.0 size_not_specified, k.first_is) z.1)

pub returns-else-own-eq2 : goal.returns-else-own-eq2
unfolding decided_at operand_at
returns-else-own-eq2 c =
    λ h. let k = four _ c.args.code c.requires c.row_of-row.result 84 c.row_of-row.ensures refl (lit< tt) c.in-84-to-87.if-this-lt84-own.false c.in-84-to-87.if-this-lt88-own.true in
    let z = c.rm_alone-in-84-to-87.ensures c.args.offset h in
    let w = one_left _ z.0 c.requires.first.size c.if-own-eq2.false in
    (k.known, rw (k.group_is, k.base_is, stated_at _ c.requires z.0 invalid_size, k.first_is, w) (rw w at z.1))

pub returns-in-92-to-95 : goal.returns-in-92-to-95
unfolding decided_at operand_at
returns-in-92-to-95 c =
    λ h. let k = four _ c.args.code c.requires c.row_of-row.result 92 c.row_of-row.ensures refl (lit< tt) c.in-92-to-95.if-this-lt92-own.false c.in-92-to-95.if-this-lt96-own.true in
    let z = c.rm_alone-in-92-to-95.ensures c.args.offset h in
    (k.known, rw (k.group_is, k.base_is, stated_at _ c.requires z.0 invalid_size, k.first_is) z.1)

pub returns-else-own-ne2 : goal.returns-else-own-ne2
unfolding decided_at operand_at
returns-else-own-ne2 c =
    λ h. let k = four _ c.args.code c.requires c.row_of-row.result 100 c.row_of-row.ensures refl (lit< tt) c.in-100-to-103.if-this-lt100-own.false c.in-100-to-103.if-this-lt104-own.true in
    (k.known, rw (k.group_is, c.if-own-ne2.false, k.first_is) (c.reg_run-in-100-to-103.ensures 0 c.args.offset refl h))

pub returns-in-104-to-107 : goal.returns-in-104-to-107
unfolding decided_at operand_at
returns-in-104-to-107 c =
    λ h. let k = four _ c.args.code c.requires c.row_of-row.result 104 c.row_of-row.ensures refl (lit< tt) c.in-104-to-107.if-this-lt104-own.false c.in-104-to-107.if-this-lt108-own.true in
    (k.known, rw (k.group_is, k.first_is) (c.segment_run.ensures c.args.offset h))

pub returns-else-own-ne2-2 : goal.returns-else-own-ne2-2
unfolding decided_at operand_at
returns-else-own-ne2-2 c =
    λ h. let k = four _ c.args.code c.requires c.row_of-row.result 116 c.row_of-row.ensures refl (lit< tt) c.in-116-to-119.if-this-lt116-own.false c.in-116-to-119.if-this-lt120-own.true in
    (k.known, rw (k.group_is, c.if-own-ne2-2.false, k.first_is) (c.reg_run-in-116-to-119.ensures 0 c.args.offset refl h))

pub returns-else-jump-eq2 : goal.returns-else-jump-eq2
unfolding decided_at operand_at
returns-else-jump-eq2 c =
    λ h. let k = four _ c.args.code c.requires c.row_of-row.result 208 c.row_of-row.ensures refl (lit< tt) c.in-208-to-211.if-this-lt208-own.false c.in-208-to-211.if-this-lt212-own.true in
    (k.known, rw (k.group_is, k.base_is, k.first_is, short_jump _ _ _ _ c.requires.first.jump c.if-jump-eq1.false c.if-jump-eq2.false) (c.short_run.ensures h))

pub returns-else-jump-eq2-2 : goal.returns-else-jump-eq2-2
unfolding decided_at operand_at
returns-else-jump-eq2-2 c =
    λ h. let k = four _ c.args.code c.requires c.row_of-row.result 224 c.row_of-row.ensures refl (lit< tt) c.in-224-to-227.if-this-lt224-own.false c.in-224-to-227.if-this-lt228-own.true in
    (k.known, rw (k.group_is, k.base_is, k.first_is, short_jump _ _ _ _ c.requires.first.jump c.if-jump-eq1-2.false c.if-jump-eq2-2.false) (c.short_run-in-224-to-227.ensures h))

pub returns-in-304-to-319 : goal.returns-in-304-to-319
unfolding decided_at operand_at
returns-in-304-to-319 c =
    λ h. let k = sixteen _ c.args.code c.requires c.row_of-row.result 304 c.row_of-row.ensures refl (lit< tt) c.in-304-to-319.if-this-lt304-own.false c.in-304-to-319.if-this-lt320-own.true in
    (k.known, rw (k.group_is, k.base_is) (ap bytes (sym c.byte_run.ensures)))

pub returns-in-320-to-335 : goal.returns-in-320-to-335
unfolding decided_at operand_at
returns-in-320-to-335 c =
    λ h. let k = sixteen _ c.args.code c.requires c.row_of-row.result 320 c.row_of-row.ensures refl (lit< tt) c.in-320-to-335.if-this-lt320-own.false c.in-320-to-335.if-this-lt336-own.true in
    (k.known, rw (k.group_is, k.base_is) (ap bytes (sym c.byte_run-in-320-to-335.ensures)))

pub returns-in_default : goal.returns-in_default
returns-in_default c = λ h. absurd (omega arith)

pub returns-in_default-2 : goal.returns-in_default-2
returns-in_default-2 c = λ h. absurd (omega arith)

pub returns-in_default-3 : goal.returns-in_default-3
returns-in_default-3 c = λ h. absurd (omega arith)

pub returns-in_default-4 : goal.returns-in_default-4
returns-in_default-4 c = λ h. absurd (omega arith)

pub returns-in_default-5 : goal.returns-in_default-5
returns-in_default-5 c = λ h. absurd (omega arith)

pub returns-in_default-6 : goal.returns-in_default-6
returns-in_default-6 c = λ h. absurd (omega arith)

pub returns-in_default-7 : goal.returns-in_default-7
returns-in_default-7 c = λ h. absurd (omega arith)

pub returns-in_default-8 : goal.returns-in_default-8
returns-in_default-8 c = λ h. absurd (omega arith)

pub returns-in_default-9 : goal.returns-in_default-9
returns-in_default-9 c = λ h. absurd (omega arith)

pub returns-in_default-10 : goal.returns-in_default-10
returns-in_default-10 c = λ h. absurd (omega arith)
