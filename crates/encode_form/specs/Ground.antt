-- Why a record is answered as it is (REFERENCE 9): the form by which it is written, or the question that refused it.
-- Definitions only.
use Rattle.std.specs.Prelude.{ℕ, ◌+◌, Option, Some, None}
use Rattle.mrc_compiler.specs.declared.encoder.InstructionData.{InstructionData}
use Rattle.mrc_compiler.specs.declared.encoder.OperandData.{OperandData}
use Rattle.x86.specs.Forms.{Slot, rm, rm_near, mem, mem_far, reg, sreg, sreg_not_cs, acc, low3, bits34, bits34_not_cs, cl, dx, one, moffs, xlat, ib, iw, ib_sx, cb, cw, ptr, nil, Extension, Form}
use Rattle.x86.specs.Forms as F
use Rattle.encode_groups.specs.declared.Group.{Group}
use Rattle.encode_groups.specs.Grouping.{group_of}
use Rattle.encode_spec.specs.Records.{dst, src}
use Rattle.encode_spec.specs.Rules.{Special, ordinary, unordered, unordered_memory, by_count, target_first, not_supported, rule}
use Rattle.encode_spec.specs.Choice.{Choice, none, straight, crossed}
use Rattle.encode_spec.specs.Layout.{part}
use Rattle.encode_spec.specs.Limits.{Kind, sign_extended, target, limits, byte_kind, word_kind}
use Rattle.encode_spec.specs.Questions.{chosen, questions}
use Rattle.encode_spec.specs.Answer.{First, all_yes, no, first_no}
use Rattle.encode_form.specs.declared.Limits.{Limits}
use Rattle.encode_form.specs.declared.Written.{Written}
use Rattle.encode_form.specs.declared.Ground.{Ground}
use Rattle.encode_form.specs.declared.Ground.TheVariants as G

-- the digit belongs to the opcode: the reg field of /r is an operand
abbrev pub digit_of : Extension → Option ℕ
digit_of F.no = None
digit_of F.+r = None
digit_of F.+s = None
digit_of F./r = None
digit_of (F./ n) = Some n
digit_of F.0A = None

-- ---- question 6's limits on an immediate
abbrev pub between : Kind → Option Limits
between k = Some (record { low = (limits k).low; high = (limits k).high })

-- of a short target: only JMP's is asked about
abbrev pub target_by : Special → Option Limits
target_by ordinary = None
target_by unordered = None
target_by unordered_memory = None
target_by by_count = None
target_by target_first = between target
target_by not_supported = None

-- an address is no immediate, and a far target has the limits of its offset
abbrev pub limits_in : Group → Slot → Option Limits
limits_in g (rm w) = None
limits_in g rm_near = None
limits_in g mem = None
limits_in g mem_far = None
limits_in g (reg w) = None
limits_in g sreg = None
limits_in g sreg_not_cs = None
limits_in g (acc w) = None
limits_in g (low3 w) = None
limits_in g bits34 = None
limits_in g bits34_not_cs = None
limits_in g cl = None
limits_in g dx = None
limits_in g one = None
limits_in g (moffs w) = None
limits_in g xlat = None
limits_in g ib = between (byte_kind g)
limits_in g iw = between (word_kind g)
limits_in g ib_sx = between sign_extended
limits_in g cb = target_by (rule g).special
limits_in g cw = between target
limits_in g ptr = between target
limits_in g nil = None

abbrev pub or_else : Option Limits → Option Limits → Option Limits
or_else None m = m
or_else (Some l) m = Some l

-- ---- a form with a in its first slot and b in its second
-- 0 for the slot of no operand. A form fills its slots from the first on, and so does a record its operands
abbrev pub uses : Slot → ℕ
uses (rm w) = 1
uses rm_near = 1
uses mem = 1
uses mem_far = 1
uses (reg w) = 1
uses sreg = 1
uses sreg_not_cs = 1
uses (acc w) = 1
uses (low3 w) = 1
uses bits34 = 1
uses bits34_not_cs = 1
uses cl = 1
uses dx = 1
uses one = 1
uses (moffs w) = 1
uses xlat = 1
uses ib = 1
uses iw = 1
uses ib_sx = 1
uses cb = 1
uses cw = 1
uses ptr = 1
uses nil = 0

-- the opcode with what the operands add to it: BB for MOV BX
abbrev pub written_by : Group → Form → OperandData → OperandData → Written
written_by g f a b =
    record {
      opcode = f.opcode + (part f.first 0 a).opcode + (part f.second 0 b).opcode;
      digit = digit_of f.extension;
      operands = uses f.first + uses f.second;
      limits = or_else (limits_in g f.first) (limits_in g f.second);
    }

abbrev pub no_form : Written
no_form = record { opcode = 0; digit = None; operands = 0; limits = None }

abbrev pub written_as : Group → Choice → OperandData → OperandData → Written
written_as g none a b = no_form  -- never: question 5 has said no
written_as g (straight f) a b = written_by g f a b
written_as g (crossed f) a b = written_by g f b a

-- ---- the form, or the first question whose answer is no
abbrev pub ground_by : First → Written → Ground
ground_by all_yes w = G.Form w
ground_by (no q) w = G.Question q.number

unfoldable pub ground : InstructionData → ℕ → Ground
ground insn off = ground_by (first_no (questions insn off)) (written_as (group_of insn.operation) (chosen insn) (dst insn) (src insn))
