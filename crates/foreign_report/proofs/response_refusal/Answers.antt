use mir.ValLaws.{to_z-of_z}
use mir.Val.{SFits}
use mir.Syntax.{w32}
use borrow.Author.Rules.{rules}
use Rattle.foreign_report.proofs.response_refusal.Goals as goal

pub returns-in-InvalidOperands : goal.returns-in-InvalidOperands
returns-in-InvalidOperands c = rw c.in-InvalidOperands.is c.response_span.ensures

pub returns-in-OperandSizeNotSpecified : goal.returns-in-OperandSizeNotSpecified
returns-in-OperandSizeNotSpecified c = rw c.in-OperandSizeNotSpecified.is c.response_span-in-OperandSizeNotSpecified.ensures

pub returns-in-OperandSizesDoNotMatch : goal.returns-in-OperandSizesDoNotMatch
returns-in-OperandSizesDoNotMatch c = rw c.in-OperandSizesDoNotMatch.is c.response_span-in-OperandSizesDoNotMatch.ensures

pub returns-in-InvalidOperandSize : goal.returns-in-InvalidOperandSize
returns-in-InvalidOperandSize c = rw c.in-InvalidOperandSize.is c.response_span-in-InvalidOperandSize.ensures

pub returns-in-ImmediateOutOfRange : goal.returns-in-ImmediateOutOfRange
returns-in-ImmediateOutOfRange c =
    let v : SFits w32 c.in-ImmediateOutOfRange.value = search rules in
    let l : SFits w32 c.in-ImmediateOutOfRange.low = search rules in
    let h : SFits w32 c.in-ImmediateOutOfRange.high = search rules in
    rw (c.in-ImmediateOutOfRange.is, to_z-of_z w32 c.in-ImmediateOutOfRange.value v, to_z-of_z w32 c.in-ImmediateOutOfRange.low l, to_z-of_z w32 c.in-ImmediateOutOfRange.high h)

pub returns-in-RelativeJumpOutOfRange : goal.returns-in-RelativeJumpOutOfRange
returns-in-RelativeJumpOutOfRange c =
    let d : SFits w32 c.in-RelativeJumpOutOfRange.distance = search rules in
    rw (c.in-RelativeJumpOutOfRange.is, to_z-of_z w32 c.in-RelativeJumpOutOfRange.distance d)

pub returns-in-NotSupported : goal.returns-in-NotSupported
returns-in-NotSupported c = rw c.in-NotSupported.is c.response_span-in-NotSupported.ensures

pub returns-in-NotWellFormed : goal.returns-in-NotWellFormed
returns-in-NotWellFormed c = rw c.in-NotWellFormed.is c.response_span-in-NotWellFormed.ensures

pub returns-in-InvalidRepeat : goal.returns-in-InvalidRepeat
returns-in-InvalidRepeat c = rw c.in-InvalidRepeat.is c.response_span-in-InvalidRepeat.ensures

pub returns-in-SliceTooShort : goal.returns-in-SliceTooShort
returns-in-SliceTooShort c = rw c.in-SliceTooShort.is c.response_span-in-SliceTooShort.ensures
