use mir.ValLaws.{to_z-of_z}
use mir.Val.{SFits}
use mir.Syntax.{w32}
use Rattle.foreign_report.proofs.Laws.{reported}
use borrow.Author.Tests.{lt-leb}
use Rattle.foreign_report.proofs.write_report.Goals as goal

pub returns-then-report-lt28 : goal.returns-then-report-lt28
returns-then-report-lt28 c = rw (lt-leb _ _ c.if-report-lt28.true)

pub returns : goal.returns
returns c =
    let a = c.args in
    let v : SFits w32 a.response.value = record { sfits = c.struct_told-1.given.1.1.1.0.1 } in
    let l : SFits w32 a.response.low = record { sfits = c.struct_told-2-1.given.1.1.1.1.0.1 } in
    let h : SFits w32 a.response.high = record { sfits = c.struct_told-3-1.given.1.1.1.1.1.0.1 } in
    let value = rw (to_z-of_z w32 a.response.value v) at c.bits_of-value.ensures in
    let low = rw (to_z-of_z w32 a.response.low l) at c.bits_of-low.ensures in
    let high = rw (to_z-of_z w32 a.response.high h) at c.bits_of-high.ensures in
    reported a.response a.report.now c.put_three.new.report c.put_three-2.new.report c.put_u32.new.report c.if-report-lt28.false c.put_three.ensures
    (rw (value, low, high) at c.put_three-2.ensures) c.put_u32.ensures
