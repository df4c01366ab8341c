-- What of an instruction its strings are made of, found once for all twelve candidates.
-- Definitions only.
use Rattle.std.specs.Prelude.{ℕ, Bool, eqb, ltb, leb}
use Rattle.mrc_compiler.specs.Choose.{either}
use Rattle.x86.specs.declared.Instruction.{Instruction}
use Rattle.x86.specs.Operands.{type_of}
use Rattle.encode_groups.specs.Grouping.{grouped_of}
use Rattle.list_spec.specs.declared.Parts.{Parts}
use Rattle.list_spec.specs.Operands.{prefix_of, displacement_of, value_of, far_segment_of}

-- a displacement of -128 to 127
abbrev pub is_short : ℕ → Bool
is_short d = either (ltb d 128) (leb 65408 d)

abbrev pub parts_of : Instruction → Parts
parts_of m =
    record {
      repeat = m.repeat;
      group = (grouped_of m.operation).group;
      base = (grouped_of m.operation).base;
      width = m.width;
      first = type_of m.first;
      second = type_of m.second;
      prefix = prefix_of m;
      displacement = displacement_of m;
      zero = eqb (displacement_of m) 0;
      short = is_short (displacement_of m);
      value = value_of m;
      segment = far_segment_of m;
    }
