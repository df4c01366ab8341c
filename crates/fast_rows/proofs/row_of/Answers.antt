use borrow.Author.Rules.{rules}
use Rattle.fast_rows.proofs.row_of.Goals as goal

pub returns-in-0 : goal.returns-in-0
returns-in-0 c = λ h. search rules

pub returns-in-1 : goal.returns-in-1
returns-in-1 c = λ h. search rules

pub returns-in-2 : goal.returns-in-2
returns-in-2 c = λ h. search rules

pub returns-in-3 : goal.returns-in-3
returns-in-3 c = λ h. search rules

pub returns-in-4 : goal.returns-in-4
returns-in-4 c = λ h. search rules

pub returns-in-5 : goal.returns-in-5
returns-in-5 c = λ h. search rules

pub returns-in-6 : goal.returns-in-6
returns-in-6 c = λ h. search rules

pub returns-in-7 : goal.returns-in-7
returns-in-7 c = λ h. search rules

pub returns-in-8 : goal.returns-in-8
returns-in-8 c = λ h. search rules

pub returns-in-9 : goal.returns-in-9
returns-in-9 c = λ h. search rules

pub returns-in-10 : goal.returns-in-10
returns-in-10 c = λ h. search rules

pub returns-in-11 : goal.returns-in-11
returns-in-11 c = λ h. search rules

pub returns-in-12 : goal.returns-in-12
returns-in-12 c = λ h. search rules

pub returns-in-13 : goal.returns-in-13
returns-in-13 c = λ h. search rules

pub returns-in-14 : goal.returns-in-14
returns-in-14 c = λ h. search rules

pub returns-in-15 : goal.returns-in-15
returns-in-15 c = λ h. search rules

pub returns-in-16 : goal.returns-in-16
returns-in-16 c = λ h. search rules

pub returns-in-17 : goal.returns-in-17
returns-in-17 c = λ h. search rules

pub returns-in-18 : goal.returns-in-18
returns-in-18 c = λ h. search rules

pub returns-in-19 : goal.returns-in-19
returns-in-19 c = λ h. search rules

pub returns-in-20 : goal.returns-in-20
returns-in-20 c = λ h. search rules

pub returns-in-21 : goal.returns-in-21
returns-in-21 c = λ h. search rules

pub returns-in-22 : goal.returns-in-22
returns-in-22 c = λ h. search rules

pub returns-in-23 : goal.returns-in-23
returns-in-23 c = λ h. search rules

pub returns-in-24 : goal.returns-in-24
returns-in-24 c = λ h. search rules

pub returns-in-25 : goal.returns-in-25
returns-in-25 c = λ h. search rules

pub returns-in-26 : goal.returns-in-26
returns-in-26 c = λ h. search rules

pub returns-in-27 : goal.returns-in-27
returns-in-27 c = λ h. search rules

pub returns-in-28 : goal.returns-in-28
returns-in-28 c = λ h. search rules

pub returns-in-29 : goal.returns-in-29
returns-in-29 c = λ h. search rules

pub returns-in-30 : goal.returns-in-30
returns-in-30 c = λ h. search rules

pub returns-in-31 : goal.returns-in-31
returns-in-31 c = λ h. search rules

pub returns-in-32 : goal.returns-in-32
returns-in-32 c = λ h. search rules

pub returns-in-33 : goal.returns-in-33
returns-in-33 c = λ h. search rules

pub returns-in-34 : goal.returns-in-34
returns-in-34 c = λ h. search rules

pub returns-in-35 : goal.returns-in-35
returns-in-35 c = λ h. search rules

pub returns-in-36 : goal.returns-in-36
returns-in-36 c = λ h. search rules

pub returns-in-37 : goal.returns-in-37
returns-in-37 c = λ h. search rules

pub returns-in-38 : goal.returns-in-38
returns-in-38 c = λ h. search rules

pub returns-in-39 : goal.returns-in-39
returns-in-39 c = λ h. search rules

pub returns-in-40 : goal.returns-in-40
returns-in-40 c = λ h. search rules

pub returns-in-41 : goal.returns-in-41
returns-in-41 c = λ h. search rules

pub returns-in-42 : goal.returns-in-42
returns-in-42 c = λ h. search rules

pub returns-in-43 : goal.returns-in-43
returns-in-43 c = λ h. search rules

pub returns-in-44 : goal.returns-in-44
returns-in-44 c = λ h. search rules

pub returns-in-45 : goal.returns-in-45
returns-in-45 c = λ h. search rules

pub returns-in-46 : goal.returns-in-46
returns-in-46 c = λ h. search rules

pub returns-in-47 : goal.returns-in-47
returns-in-47 c = λ h. search rules

pub returns-in-48 : goal.returns-in-48
returns-in-48 c = λ h. search rules

pub returns-in-49 : goal.returns-in-49
returns-in-49 c = λ h. search rules

pub returns-in-50 : goal.returns-in-50
returns-in-50 c = λ h. search rules

pub returns-in-51 : goal.returns-in-51
returns-in-51 c = λ h. search rules

pub returns-in-52 : goal.returns-in-52
returns-in-52 c = λ h. search rules

pub returns-in-53 : goal.returns-in-53
returns-in-53 c = λ h. search rules

pub returns-in-54 : goal.returns-in-54
returns-in-54 c = λ h. search rules

pub returns-in-55 : goal.returns-in-55
returns-in-55 c = λ h. search rules

pub returns-in-56 : goal.returns-in-56
returns-in-56 c = λ h. search rules

pub returns-in-57 : goal.returns-in-57
returns-in-57 c = λ h. search rules

pub returns-in-58 : goal.returns-in-58
returns-in-58 c = λ h. search rules

pub returns-in-59 : goal.returns-in-59
returns-in-59 c = λ h. search rules

pub returns-in-60 : goal.returns-in-60
returns-in-60 c = λ h. search rules

pub returns-in-61 : goal.returns-in-61
returns-in-61 c = λ h. search rules

pub returns-in-62 : goal.returns-in-62
returns-in-62 c = λ h. search rules

pub returns-in-63 : goal.returns-in-63
returns-in-63 c = λ h. search rules

pub returns-in-64 : goal.returns-in-64
returns-in-64 c = λ h. search rules

pub returns-in-65 : goal.returns-in-65
returns-in-65 c = λ h. search rules

pub returns-in-66 : goal.returns-in-66
returns-in-66 c = λ h. search rules

pub returns-in-67 : goal.returns-in-67
returns-in-67 c = λ h. search rules

pub returns-in-68 : goal.returns-in-68
returns-in-68 c = λ h. search rules

pub returns-in-69 : goal.returns-in-69
returns-in-69 c = λ h. search rules

pub returns-in-70 : goal.returns-in-70
returns-in-70 c = λ h. search rules

pub returns-in-71 : goal.returns-in-71
returns-in-71 c = λ h. search rules

pub returns-in-72 : goal.returns-in-72
returns-in-72 c = λ h. search rules

pub returns-in-73 : goal.returns-in-73
returns-in-73 c = λ h. search rules

pub returns-in-74 : goal.returns-in-74
returns-in-74 c = λ h. search rules

pub returns-in-75 : goal.returns-in-75
returns-in-75 c = λ h. search rules

pub returns-in-76 : goal.returns-in-76
returns-in-76 c = λ h. search rules

pub returns-in-77 : goal.returns-in-77
returns-in-77 c = λ h. search rules

pub returns-in-78 : goal.returns-in-78
returns-in-78 c = λ h. search rules

pub returns-in-79 : goal.returns-in-79
returns-in-79 c = λ h. search rules

pub returns-in-80 : goal.returns-in-80
returns-in-80 c = λ h. search rules

pub returns-in-81 : goal.returns-in-81
returns-in-81 c = λ h. search rules

pub returns-in-83 : goal.returns-in-83
returns-in-83 c = λ h. search rules

pub returns-in-84 : goal.returns-in-84
returns-in-84 c = λ h. search rules

pub returns-in-85 : goal.returns-in-85
returns-in-85 c = λ h. search rules

pub returns-in-86 : goal.returns-in-86
returns-in-86 c = λ h. search rules

pub returns-in-87 : goal.returns-in-87
returns-in-87 c = λ h. search rules

pub returns-in-88 : goal.returns-in-88
returns-in-88 c = λ h. search rules

pub returns-in-89 : goal.returns-in-89
returns-in-89 c = λ h. search rules

pub returns-in-90 : goal.returns-in-90
returns-in-90 c = λ h. search rules

pub returns-in-91 : goal.returns-in-91
returns-in-91 c = λ h. search rules

pub returns-in-92 : goal.returns-in-92
returns-in-92 c = λ h. search rules

pub returns-in-93 : goal.returns-in-93
returns-in-93 c = λ h. search rules

pub returns-in-94 : goal.returns-in-94
returns-in-94 c = λ h. search rules

pub returns-in-96 : goal.returns-in-96
returns-in-96 c = λ h. search rules

pub returns-in-97 : goal.returns-in-97
returns-in-97 c = λ h. search rules

pub returns-in-98 : goal.returns-in-98
returns-in-98 c = λ h. search rules
