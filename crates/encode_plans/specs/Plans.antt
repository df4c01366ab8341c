-- The code lists of 003: how a form with its operands is handed to emit_codes, and what a group answers.
-- Definitions only.
use Rattle.std.specs.Prelude.{ℕ, Bool, true, false, List, [], ◌∷◌, ◌++◌, Result, Ok, Err}
use Rattle.mrc_compiler.specs.declared.encoder.InstructionData.{InstructionData}
use Rattle.mrc_compiler.specs.declared.encoder.OperandData.{OperandData}
use Rattle.mrc_compiler.specs.declared.encoder.generate.Code.{Code}
use Rattle.mrc_compiler.specs.declared.encoder.generate.Code.TheVariants as C
use Rattle.mrc_compiler.specs.declared.encoder.generate.Codes.{Codes}
use Rattle.mrc_compiler.specs.declared.encoder.generate.NoForm.{NoForm}
use Rattle.mrc_compiler.specs.Choose.{pick}
use Rattle.x86.specs.Forms.{Slot, rm, rm_near, mem, mem_far, reg, sreg, sreg_not_cs, acc, low3, bits34, bits34_not_cs, cl, dx, one, moffs, xlat, ib, iw, ib_sx, cb, cw, ptr, nil, Extension, Form}
use Rattle.x86.specs.Forms as F
use Rattle.x86.specs.Reading.{Place, nowhere, by_modrm, by_address, by_bx_al, about}
use Rattle.encode_spec.specs.Records.{dst, src}
use Rattle.encode_groups.specs.declared.Group.{Group}
use Rattle.encode_groups.specs.Grouping.{group_of}
use Rattle.encode_spec.specs.Limits.{Kind, data_byte, data_word, sign_extended, vector, port, popped, address, target, segment, byte_kind, word_kind}
use Rattle.encode_spec.specs.Choice.{Choice, none, straight, crossed, choice, forms_of}
use Rattle.encode_spec.specs.Questions.{Ask, group_asks, is_supported}
use Rattle.encode_lines.specs.Lines.{one_code, two_codes, not_supported}

-- ---- a form's codes; i and j say which operands stand in its slots
-- the code of an immediate
abbrev pub immediate_code : Kind → ℕ → Code
immediate_code data_byte k = C.ImmByte k
immediate_code data_word k = C.ImmWord k
immediate_code sign_extended k = C.ImmSignExtended k
immediate_code vector k = C.UnsignedByte k
immediate_code port k = C.UnsignedByte k
immediate_code popped k = C.UnsignedWord k
immediate_code address k = C.DispWord k
immediate_code target k = C.RelWord k
immediate_code segment k = C.FarWords k

-- what follows the opcode and ModRM
abbrev pub tail : Group → Slot → ℕ → List Code
tail g (rm w) k = []
tail g rm_near k = []
tail g mem k = []
tail g mem_far k = []
tail g (reg w) k = []
tail g sreg k = []
tail g sreg_not_cs k = []
tail g (acc w) k = []
tail g (low3 w) k = []
tail g bits34 k = []
tail g bits34_not_cs k = []
tail g cl k = []
tail g dx k = []
tail g one k = []
tail g (moffs w) k = immediate_code address k ∷ []
tail g xlat k = []
tail g ib k = immediate_code (byte_kind g) k ∷ []
tail g iw k = immediate_code (word_kind g) k ∷ []
tail g ib_sx k = immediate_code sign_extended k ∷ []
tail g cb k = C.RelByte k 2 ∷ []
tail g cw k = immediate_code target k ∷ []
tail g ptr k = immediate_code segment k ∷ []
tail g nil k = []

-- is the operand's register in the opcode?
abbrev pub in_low_3 : Slot → Bool
in_low_3 (rm w) = false
in_low_3 rm_near = false
in_low_3 mem = false
in_low_3 mem_far = false
in_low_3 (reg w) = false
in_low_3 sreg = false
in_low_3 sreg_not_cs = false
in_low_3 (acc w) = false
in_low_3 (low3 w) = true
in_low_3 bits34 = false
in_low_3 bits34_not_cs = false
in_low_3 cl = false
in_low_3 dx = false
in_low_3 one = false
in_low_3 (moffs w) = false
in_low_3 xlat = false
in_low_3 ib = false
in_low_3 iw = false
in_low_3 ib_sx = false
in_low_3 cb = false
in_low_3 cw = false
in_low_3 ptr = false
in_low_3 nil = false

-- an opcode with no ModRM: memory beside it brings its prefix
abbrev pub bare : Place → Place → ℕ → ℕ → ℕ → Code
bare nowhere nowhere c i j = C.Byte c
bare nowhere by_modrm c i j = C.Byte c
bare nowhere by_address c i j = C.MemByte j c
bare nowhere by_bx_al c i j = C.MemByte j c
bare by_modrm q c i j = C.Byte c
bare by_address q c i j = C.MemByte i c
bare by_bx_al q c i j = C.MemByte i c

abbrev pub is_mod_rm : Place → Bool
is_mod_rm nowhere = false
is_mod_rm by_modrm = true
is_mod_rm by_address = false
is_mod_rm by_bx_al = false

-- the code of prefix, opcode, ModRM and displacement
abbrev pub head : Extension → ℕ → Slot → Slot → ℕ → ℕ → Code
head F.no c f s i j = bare (about f).place (about s).place c i j
head F.+r c f s i j = pick (in_low_3 f) (C.RegByte i c) (C.RegByte j c)
head F.+s c f s i j = C.SegByte i c
head F./r c f s i j = pick (is_mod_rm (about f).place) (C.ModRegRM i c) (C.ModRegRM j c)
head (F./ n) c f s i j = C.ModRM i c n
head F.0A c f s i j = C.Byte c

abbrev pub fixed : Extension → List Code
fixed F.no = []
fixed F.+r = []
fixed F.+s = []
fixed F./r = []
fixed (F./ n) = []
fixed F.0A = C.Byte 0x0A ∷ []

abbrev pub emitting : Code → List Code → Result Codes NoForm
emitting c [] = Ok (one_code c)
emitting c (d ∷ ds) = Ok (two_codes c d)

abbrev pub form_plan : Group → Form → ℕ → ℕ → Result Codes NoForm
form_plan g f i j =
    emitting (head f.extension f.opcode f.first f.second i j)
    (fixed f.extension ++ (tail g f.first i ++ tail g f.second j))

-- ---- a group's answer: the first of its questions that gets no, or the codes of the form chosen
abbrev pub choice_plan : Group → Choice → Result Codes NoForm
choice_plan g none = Ok (one_code (C.Byte 0))  -- never: question 5 has said no
choice_plan g (straight f) = form_plan g f 0 1
choice_plan g (crossed f) = form_plan g f 1 0

abbrev pub refusing : List Ask → Result Codes NoForm → Result Codes NoForm
refusing [] p = p
refusing (q ∷ qs) p = pick q.yes (refusing qs p) (Err (record { why = q.why; at = q.at }))

-- the plan of a group for operands a and b, where c is the form chosen
abbrev pub plan_for : Group → Choice → OperandData → OperandData → Result Codes NoForm
plan_for g c a b = refusing (group_asks g c a b) (choice_plan g c)

-- the plan of a group with these forms for a record
abbrev pub plan_in : Group → List Form → ℕ → OperandData → OperandData → Result Codes NoForm
plan_in g fs k a b = plan_for g (choice g fs k a b) a b

-- what the encoder's dispatch answers: question 2, then the record's group with the forms of its operation
unfoldable pub plan_of : InstructionData → Result Codes NoForm
plan_of insn =
    let op = insn.operation in
    pick (is_supported (group_of op)) (plan_in (group_of op) (forms_of op) insn.num_opers (dst insn) (src insn)) (Err not_supported)
