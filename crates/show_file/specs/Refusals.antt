-- The refusals of a show file (REFERENCE 8).
-- Definitions only.
use Rattle.std.specs.Prelude.{ℕ}
use Rattle.mrc_compiler.specs.Refusals.{report_of}
use Rattle.show_file.specs.declared.LoadError.{LoadError}
use Rattle.show_file.specs.declared.LoadError.TheVariants as E

-- document 01's number for each case
abbrev pub number_of : LoadError → ℕ
number_of E.NoMark = 12
number_of E.WrongVersion = 13
number_of E.WrongLength = 14
number_of (E.UnknownCode k) = 15
number_of (E.Record k e) = (report_of e).number
