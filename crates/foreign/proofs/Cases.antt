-- What crosses, byte by byte: reports of the loader's answers, of the check's, of the converter's and of the lister's refusals, of sums and of cues, the result of a run, and a read instruction with each
-- extension and kind of operand.
-- Assumes nothing.
use Rattle.std.proofs.Common.{◌≡◌, ℕ, true, List, [], ◌∷◌, ◌++◌, replicate, pos, negsuc, refl, Err, Ok}
use Rattle.mrc_compiler.specs.declared.ast.Segment.TheVariants as G
use Rattle.mrc_compiler.specs.declared.encoder.EncodeError.TheVariants as E
use Rattle.mrc_compiler.specs.declared.encoder.OperandSize.TheVariants as S
use Rattle.mrc_compiler.specs.declared.operations.Operation.TheVariants as Op
use Rattle.mrc_compiler.specs.Operations as Ops
use Rattle.x86_forms.specs.declared.Extension.TheVariants as X
use Rattle.x86.specs.declared.Operand.TheVariants as O
use Rattle.x86.specs.Instructions.{instruction, repeated as behind}
use Rattle.show_record.specs.Record.{operand_at, instruction_at, operand_known, codes_known}
use Rattle.show_file.specs.declared.Header.{Header}
use Rattle.show_file.specs.declared.LoadError.{LoadError}
use Rattle.show_file.specs.declared.LoadError.TheVariants as R
use Rattle.show_file.specs.Refusals.{number_of}
use Rattle.sum_spec.specs.declared.SumError.TheVariants as Sum
use Rattle.cue_compile.specs.declared.CueError.TheVariants as Q
use Rattle.foreign_report.specs.Crossing.{u32_bytes, report_bytes}
use Rattle.foreign_report.proofs.Cases.{span, zeros4, span_bytes, zeros12, ones4}
use Rattle.x86_forms.specs.declared.Extension.{Extension}
use Rattle.x86_forms.specs.declared.FormName.{FormName}
use Rattle.x86.specs.Forms.{forms}
use Rattle.x86.specs.Reading.{prefix, is_repeat}
use Rattle.encode_groups.specs.Grouping.{grouped_of}
use Rattle.encode_spec.specs.WellFormed.{well_formed}
use Rattle.encode_spec.specs.Choice.{forms_of}
use Rattle.encode_spec.specs.Layout.{layout}
use Rattle.encode_spec.specs.Questions.{questions}
use Rattle.encode_spec.specs.Answer.{answer}
use Rattle.foreign.specs.CompileCues.{response_compiled}
use Rattle.foreign.specs.EncodeRecord.{record_of, response_of, response_record}
use Rattle.foreign.specs.EvaluateText.{response_answer}
use Rattle.foreign.specs.ListRecord.{response_listing}
use Rattle.foreign.specs.ShortestRecord.{response_shortest}
use Rattle.shortest_encoder.specs.Shortest.{shortest_answer}
use Rattle.foreign.specs.LoadShow.{response_load_error, response_loaded}
use Rattle.foreign.specs.ConvertShow.{response_convert_error, response_converted}
use Rattle.foreign.specs.CheckShow.{response_checked}
use Rattle.check_spec.specs.declared.CheckError.TheVariants as Ck
use Rattle.convert_spec.specs.declared.ConvertError.{ConvertError}
use Rattle.convert_spec.specs.declared.ConvertError.TheVariants as Ce
use Rattle.convert_spec.specs.Refusals as Convert
use Rattle.foreign.specs.ReadBytes.{operand_head, operand_values, read_bytes}
use Rattle.desk_run.specs.declared.RunError.TheVariants as N
use Rattle.desk_run.specs.Running.{halted_with}
use Rattle.foreign.specs.RunImage.{run_number, result_after}

record Rows : Type 0 where
  image : (h : Header) → report_bytes (response_loaded (Ok (h, 7000))) ≡ (0x58 ∷ 0x1B ∷ 0 ∷ 0 ∷ []) ++ (zeros4 ++ (zeros4 ++ (zeros12 ++ ones4)))
  no_mark : report_bytes (response_loaded (Err R.NoMark)) ≡ zeros12 ++ (zeros12 ++ ones4)
  unknown_code : report_bytes (response_loaded (Err (R.UnknownCode 999))) ≡ zeros12 ++ (zeros12 ++ (0xE7 ∷ 3 ∷ 0 ∷ 0 ∷ []))
  refused_record : report_bytes (response_loaded (Err (R.Record 1 (E.RelativeJumpOutOfRange span S.Byte true (negsuc 128)))))
      ≡ zeros4 ++ (span_bytes ++ ((0x7F ∷ 0xFF ∷ 0xFF ∷ 0xFF ∷ []) ++ (zeros4 ++ (zeros4 ++ (1 ∷ 0 ∷ 0 ∷ 0 ∷ [])))))

rows : Rows
unfolding u32_bytes
rows = record { image = λ h. refl; no_mark = refl; unknown_code = refl; refused_record = refl }

-- its number is the loader's
its_number : (e : LoadError) → (response_load_error e).number ≡ number_of e
its_number R.NoMark = refl
its_number R.WrongVersion = refl
its_number R.WrongLength = refl
its_number (R.UnknownCode k) = refl
its_number (R.Record k e) = refl

-- ---- the answers of the check of targets
record Checks : Type 0 where
  passes : report_bytes (response_checked (Ok 56000)) ≡ (0xC0 ∷ 0xDA ∷ 0 ∷ 0 ∷ []) ++ (zeros4 ++ (zeros4 ++ (zeros12 ++ ones4)))
  passes_number : (response_checked (Ok 56000)).number ≡ 0
  inside : (response_checked (Err (Ck.Inside 999 65535 7999))).number ≡ 25
  inside_report : report_bytes (response_checked (Err (Ck.Inside 999 65535 7999))) ≡ (0x3F ∷ 0x1F ∷ 0 ∷ 0 ∷ []) ++ (zeros4 ++ (zeros4 ++ (0xFF ∷ 0xFF ∷ 0 ∷ 0 ∷ 0 ∷ 0 ∷ 0 ∷ 0 ∷ 0 ∷ 0 ∷ 0 ∷ 0 ∷ 0xE7 ∷ 3 ∷ 0 ∷ 0 ∷ [])))
  outside : (response_checked (Err (Ck.Outside 1 257))).number ≡ 25
  outside_report : report_bytes (response_checked (Err (Ck.Outside 1 257))) ≡ ones4 ++ (zeros4 ++ (zeros4 ++ (1 ∷ 1 ∷ 0 ∷ 0 ∷ 0 ∷ 0 ∷ 0 ∷ 0 ∷ 0 ∷ 0 ∷ 0 ∷ 0 ∷ 1 ∷ 0 ∷ 0 ∷ 0 ∷ [])))
  of_load : report_bytes (response_checked (Err (Ck.Load (R.UnknownCode 999)))) ≡ zeros12 ++ (zeros12 ++ (0xE7 ∷ 3 ∷ 0 ∷ 0 ∷ []))

checks : Checks
unfolding u32_bytes
checks = record { passes = refl; passes_number = refl; inside = refl; inside_report = refl; outside = refl; outside_report = refl; of_load = refl }

-- ---- the converter's answers
record Conversions : Type 0 where
  file : report_bytes (response_converted (Ok 56009)) ≡ (0xC9 ∷ 0xDA ∷ 0 ∷ 0 ∷ []) ++ (zeros4 ++ (zeros4 ++ (zeros12 ++ ones4)))
  of_load : report_bytes (response_converted (Err (Ce.Load (R.UnknownCode 999)))) ≡ zeros12 ++ (zeros12 ++ (0xE7 ∷ 3 ∷ 0 ∷ 0 ∷ []))
  miscounted : (response_converted (Err (Ce.ShiftCountOutOfRange 999))).number ≡ 24
  miscounted_report : report_bytes (response_converted (Err (Ce.ShiftCountOutOfRange 999))) ≡ zeros12 ++ (zeros12 ++ (0xE7 ∷ 3 ∷ 0 ∷ 0 ∷ []))
  no_record : (response_converted (Err (Ce.NoRecordAtTarget 1))).number ≡ 25
  no_record_report : report_bytes (response_converted (Err (Ce.NoRecordAtTarget 1))) ≡ zeros12 ++ (zeros12 ++ (1 ∷ 0 ∷ 0 ∷ 0 ∷ []))
  too_short : (response_converted (Err Ce.SliceTooShort)).number ≡ 9
  too_short_report : report_bytes (response_converted (Err Ce.SliceTooShort)) ≡ zeros12 ++ (zeros12 ++ ones4)

conversions : Conversions
unfolding u32_bytes
conversions = record {
  file = refl;
  of_load = refl;
  miscounted = refl;
  miscounted_report = refl;
  no_record = refl;
  no_record_report = refl;
  too_short = refl;
  too_short_report = refl;
}

-- its number is the converter's
convert_number : (e : ConvertError) → (response_convert_error e).number ≡ Convert.number_of e
convert_number (Ce.Load e) = its_number e
convert_number (Ce.ShiftCountOutOfRange k) = refl
convert_number (Ce.NoRecordAtTarget k) = refl
convert_number Ce.SliceTooShort = refl

-- ---- a record's own refusals, in fsq_encode, fsq_shortest and fsq_list
-- an operation without operands, with the span of the rows above
abbrev plain : ℕ → List ℕ
plain op = (op ∷ 0 ∷ span_bytes) ++ replicate 46 0

-- the same with a repeat
abbrev repeated : ℕ → ℕ → List ℕ
repeated op repeat = (op ∷ 0 ∷ repeat ∷ span_bytes) ++ replicate 46 0

abbrev unknown_kind : List ℕ
unknown_kind = (82 ∷ 1 ∷ span_bytes) ++ (4 ∷ replicate 45 0)

-- a span and no values
abbrev refusal : List ℕ
refusal = zeros4 ++ (span_bytes ++ (zeros12 ++ ones4))

record Lists : Type 0 where
  -- the record's length before its codes
  encode_short : (response_record (record_of (99 ∷ replicate 54 0)) 0 []).number ≡ 14
  encode_unknown : (response_record (record_of (plain 99)) 0 []).number ≡ 15
  shortest_short : (response_shortest (record_of (99 ∷ replicate 54 0)) 0 []).number ≡ 14
  shortest_unknown : (response_shortest (record_of (plain 99)) 0 []).number ≡ 15
  list_short : (response_listing (record_of (99 ∷ replicate 54 0)) 0 []).number ≡ 14
  list_long : (response_listing (record_of (plain 97 ++ (0 ∷ 0 ∷ []))) 0 (replicate 96 0)).number ≡ 14
  list_unknown : (response_listing (record_of (plain 99)) 0 []).number ≡ 15
  list_unknown_report : report_bytes (response_listing (record_of (plain 99)) 0 []) ≡ zeros12 ++ (zeros12 ++ ones4)
  -- INT1 with an operand of an unknown kind: 15 before 7
  encode_unknown_kind : (response_record (record_of unknown_kind) 0 []).number ≡ 15
  list_unknown_kind : (response_listing (record_of unknown_kind) 0 []).number ≡ 15
  -- INT1: 7 before 9
  shortest_refused : (response_shortest (record_of (plain 82)) 0 []).number ≡ 7
  shortest_refused_report : report_bytes (response_shortest (record_of (plain 82)) 0 []) ≡ refusal
  list_refused : (response_listing (record_of (plain 82)) 0 []).number ≡ 7
  list_refused_report : report_bytes (response_listing (record_of (plain 82)) 0 []) ≡ refusal
  -- 57 bytes: MOVSB with F3 fits two bytes; LOCK with F3, and MOVSB with 99, are 23 with the span, before 9 and 7 but behind 15 (No. 11)
  encode_rep_movsb : (response_record (record_of (repeated 48 0xF3)) 0 (replicate 2 0)).length ≡ 2
  encode_rep_lock : (response_record (record_of (repeated 96 0xF3)) 0 []).number ≡ 23
  encode_repeat_99 : (response_record (record_of (repeated 48 99)) 0 []).number ≡ 23
  encode_repeat_99_report : report_bytes (response_record (record_of (repeated 48 99)) 0 []) ≡ refusal
  shortest_repeat_99 : (response_shortest (record_of (repeated 48 99)) 0 []).number ≡ 23
  encode_repeat_code : (response_record (record_of (repeated 99 99)) 0 []).number ≡ 15
  list_rep_int1 : (response_listing (record_of (repeated 82 0xF3)) 0 []).number ≡ 23
  -- HLT: 9 in 95 bytes
  list_95 : (response_listing (record_of (plain 93)) 0 (replicate 95 0)).number ≡ 9
  list_95_report : report_bytes (response_listing (record_of (plain 93)) 0 (replicate 95 0)) ≡ refusal
  encode_0 : (response_record (record_of (plain 93)) 0 []).number ≡ 9
  encode_0_report : report_bytes (response_record (record_of (plain 93)) 0 []) ≡ refusal

lists : Lists
unfolding u32_bytes response_of record_of codes_known operand_known Ops.operations instruction_at operand_at answer shortest_answer questions well_formed prefix is_repeat Ops.is_string grouped_of forms_of forms Ops.number_of layout
lists = record {
  encode_short = refl;
  encode_unknown = refl;
  shortest_short = refl;
  shortest_unknown = refl;
  list_short = refl;
  list_long = refl;
  list_unknown = refl;
  list_unknown_report = refl;
  encode_unknown_kind = refl;
  list_unknown_kind = refl;
  shortest_refused = refl;
  shortest_refused_report = refl;
  list_refused = refl;
  list_refused_report = refl;
  encode_rep_movsb = refl;
  encode_rep_lock = refl;
  encode_repeat_99 = refl;
  encode_repeat_99_report = refl;
  shortest_repeat_99 = refl;
  encode_repeat_code = refl;
  list_rep_int1 = refl;
  list_95 = refl;
  list_95_report = refl;
  encode_0 = refl;
  encode_0_report = refl;
}

-- ---- a read instruction, byte by byte: each extension, kind of operand, width and segment
abbrev zeros8 : List ℕ
zeros8 = zeros4 ++ zeros4

abbrev named : ℕ → Extension → FormName
named c e = record { opcode = c; extension = e }

record Reads : Type 0 where
  push_bx : read_bytes (instruction Op.PUSH S.Word (O.Register 3) O.None) (named 0x50 X.PlusRegister) 1
      ≡ (1 ∷ 1 ∷ 2 ∷ 0x50 ∷ 1 ∷ 0 ∷ 0 ∷ 0 ∷ []) ++ ((1 ∷ 3 ∷ 0 ∷ 0 ∷ 0 ∷ 0 ∷ 0 ∷ 0 ∷ []) ++ zeros8)
  push_ss : read_bytes (instruction Op.PUSH S.Word (O.SegmentRegister 2) O.None) (named 0x06 X.PlusSegment) 1
      ≡ (1 ∷ 1 ∷ 2 ∷ 0x06 ∷ 2 ∷ 0 ∷ 0 ∷ 0 ∷ []) ++ ((2 ∷ 2 ∷ 0 ∷ 0 ∷ 0 ∷ 0 ∷ 0 ∷ 0 ∷ []) ++ zeros8)
  mov_cl_cs : read_bytes (instruction Op.MOV S.Byte (O.Register 1) (O.Memory 7 0x1234 G.CS)) (named 0x8A X.ModRm) 5
      ≡ (5 ∷ 0 ∷ 1 ∷ 0x8A ∷ 3 ∷ 0 ∷ 0 ∷ 0 ∷ []) ++ ((1 ∷ 1 ∷ 0 ∷ 0 ∷ 0 ∷ 0 ∷ 0 ∷ 0 ∷ []) ++ (3 ∷ 7 ∷ 1 ∷ 0 ∷ 0x34 ∷ 0x12 ∷ 0 ∷ 0 ∷ []))
  mov_es : read_bytes (instruction Op.MOV S.Byte (O.Memory 8 0x1234 G.ES) (O.Register 0)) (named 0xA2 X.None) 4
      ≡ (4 ∷ 0 ∷ 1 ∷ 0xA2 ∷ 0 ∷ 0 ∷ 0 ∷ 0 ∷ []) ++ ((3 ∷ 8 ∷ 0 ∷ 0 ∷ 0x34 ∷ 0x12 ∷ 0 ∷ 0 ∷ []) ++ (1 ∷ 0 ∷ 0 ∷ 0 ∷ 0 ∷ 0 ∷ 0 ∷ 0 ∷ []))
  not_bp : read_bytes (instruction Op.NOT S.Word (O.Memory 6 0xFFFE G.SS) O.None) (named 0xF7 (X.Digit 2)) 3
      ≡ (3 ∷ 34 ∷ 2 ∷ 0xF7 ∷ 10 ∷ 0 ∷ 0 ∷ 0 ∷ []) ++ ((3 ∷ 6 ∷ 2 ∷ 0 ∷ 0xFE ∷ 0xFF ∷ 0 ∷ 0 ∷ []) ++ zeros8)
  not_bx : read_bytes (instruction Op.NOT S.Word (O.Memory 7 0 G.DS) O.None) (named 0xF7 (X.Digit 2)) 2
      ≡ (2 ∷ 34 ∷ 2 ∷ 0xF7 ∷ 10 ∷ 0 ∷ 0 ∷ 0 ∷ []) ++ ((3 ∷ 7 ∷ 3 ∷ 0 ∷ 0 ∷ 0 ∷ 0 ∷ 0 ∷ []) ++ zeros8)
  mov_ax : read_bytes (instruction Op.MOV S.Word (O.Register 0) (O.Immediate 0x1234)) (named 0xB8 X.PlusRegister) 3
      ≡ (3 ∷ 0 ∷ 2 ∷ 0xB8 ∷ 1 ∷ 0 ∷ 0 ∷ 0 ∷ []) ++ ((1 ∷ 0 ∷ 0 ∷ 0 ∷ 0 ∷ 0 ∷ 0 ∷ 0 ∷ []) ++ (4 ∷ 0 ∷ 0 ∷ 0 ∷ 0x34 ∷ 0x12 ∷ 0 ∷ 0 ∷ []))
  aam : read_bytes (instruction Op.AAM S.Unspecified O.None O.None) (named 0xD4 X.Second0A) 2 ≡ (2 ∷ 28 ∷ 0 ∷ 0xD4 ∷ 4 ∷ 0 ∷ 0 ∷ 0 ∷ []) ++ (zeros8 ++ zeros8)
  sar_cx : read_bytes (instruction Op.SAR S.Word (O.Register 1) O.One) (named 0xD1 (X.Digit 7)) 2
      ≡ (2 ∷ 37 ∷ 2 ∷ 0xD1 ∷ 15 ∷ 0 ∷ 0 ∷ 0 ∷ []) ++ ((1 ∷ 1 ∷ 0 ∷ 0 ∷ 0 ∷ 0 ∷ 0 ∷ 0 ∷ []) ++ (7 ∷ 0 ∷ 0 ∷ 0 ∷ 0 ∷ 0 ∷ 0 ∷ 0 ∷ []))
  call_near : read_bytes (instruction Op.CALL S.Unspecified (O.Near 0x1234) O.None) (named 0xE8 X.None) 3
      ≡ (3 ∷ 58 ∷ 0 ∷ 0xE8 ∷ 0 ∷ 0 ∷ 0 ∷ 0 ∷ []) ++ ((5 ∷ 0 ∷ 0 ∷ 0 ∷ 0x34 ∷ 0x12 ∷ 0 ∷ 0 ∷ []) ++ zeros8)
  jmp_far : read_bytes (instruction Op.JMP S.Unspecified (O.Far 0x1234 0x5678) O.None) (named 0xEA X.None) 5
      ≡ (5 ∷ 59 ∷ 0 ∷ 0xEA ∷ 0 ∷ 0 ∷ 0 ∷ 0 ∷ []) ++ ((6 ∷ 0 ∷ 0 ∷ 0 ∷ 0x34 ∷ 0x12 ∷ 0x78 ∷ 0x56 ∷ []) ++ zeros8)
  rep_movsb : read_bytes (behind 0xF3 (instruction Op.MOVSB S.Unspecified O.None O.None)) (named 0xA4 X.None) 2
      ≡ (2 ∷ 48 ∷ 0 ∷ 0xA4 ∷ 0 ∷ 0xF3 ∷ 0 ∷ 0 ∷ []) ++ (zeros8 ++ zeros8)

reads : Reads
unfolding u32_bytes operand_head operand_values Ops.number_of
reads = record {
  push_bx = refl;
  push_ss = refl;
  mov_cl_cs = refl;
  mov_es = refl;
  not_bp = refl;
  not_bx = refl;
  mov_ax = refl;
  aam = refl;
  sar_cx = refl;
  call_near = refl;
  jmp_far = refl;
  rep_movsb = refl;
}

-- ---- sums: the value where a refusal 5 has its, and the numbers
record Sums : Type 0 where
  value : report_bytes (response_answer (Ok (negsuc 124))) ≡ zeros12 ++ ((0x83 ∷ 0xFF ∷ 0xFF ∷ 0xFF ∷ []) ++ (zeros4 ++ (zeros4 ++ ones4)))
  has_value : (response_answer (Ok (pos 125))).number ≡ 0
  no_sum : ((response_answer (Err Sum.NoText)).number ≡ 16) × (report_bytes (response_answer (Err Sum.NoText)) ≡ zeros12 ++ (zeros12 ++ ones4))
  too_deep : (response_answer (Err Sum.TooDeep)).number ≡ 17
  out_of_range : ((response_answer (Err Sum.OutOfRange)).number ≡ 18) × (report_bytes (response_answer (Err Sum.OutOfRange)) ≡ zeros12 ++ (zeros12 ++ ones4))

sums : Sums
unfolding u32_bytes
sums = record { value = refl; has_value = refl; no_sum = (refl, refl); too_deep = refl; out_of_range = (refl, refl) }

-- ---- cues: the length, and refusals without a span or a record
record Cues : Type 0 where
  most : ((response_compiled (Ok 1801)).number ≡ 0)
      × (report_bytes (response_compiled (Ok 1801)) ≡ (9 ∷ 7 ∷ 0 ∷ 0 ∷ []) ++ (zeros4 ++ (zeros4 ++ (zeros12 ++ ones4))))
  no_cue_list : ((response_compiled (Err Q.WrongLength)).number ≡ 19) × (report_bytes (response_compiled (Err Q.WrongLength)) ≡ zeros12 ++ (zeros12 ++ ones4))
  no_delay : ((response_compiled (Err Q.NoDelay)).number ≡ 20) × (report_bytes (response_compiled (Err Q.NoDelay)) ≡ zeros12 ++ (zeros12 ++ ones4))
  too_short : ((response_compiled (Err Q.ImageTooShort)).number ≡ 9) × (report_bytes (response_compiled (Err Q.ImageTooShort)) ≡ zeros12 ++ (zeros12 ++ ones4))

cues : Cues
unfolding u32_bytes
cues = record { most = (refl, refl); no_cue_list = (refl, refl); no_delay = (refl, refl); too_short = (refl, refl) }

-- ---- runs: 13,107,601 instructions, the most of 200 cues, with their 400 bytes of pairs; a log of more than 2^32 bytes; the numbers; a result that is too short
record Runs : Type 0 where
  halted : result_after (Ok (halted_with 13107601 400)) (replicate 17 9) ≡ (0x91 ∷ 0x01 ∷ 0xC8 ∷ 0 ∷ []) ++ (zeros4 ++ ((0x90 ∷ 0x01 ∷ 0 ∷ 0 ∷ []) ++ (zeros4 ++ (9 ∷ []))))
  long_log : result_after (Ok (halted_with 4294967295 8589934588)) (replicate 16 9) ≡ ones4 ++ (zeros4 ++ ((0xFC ∷ 0xFF ∷ 0xFF ∷ 0xFF ∷ []) ++ (1 ∷ 0 ∷ 0 ∷ 0 ∷ [])))
  short_result : result_after (Ok (halted_with 13107601 400)) (replicate 15 9) ≡ replicate 15 9
  refused : result_after (Err N.BudgetSpent) (replicate 16 9) ≡ zeros8 ++ zeros8
  halts : run_number (Ok (halted_with 1 0)) ≡ 0
  not_carried_out : run_number (Err N.NotCarriedOut) ≡ 21
  budget_spent : run_number (Err N.BudgetSpent) ≡ 22
  log_too_short : run_number (Err N.LogTooShort) ≡ 9

runs : Runs
unfolding u32_bytes
runs = record { halted = refl; long_log = refl; short_result = refl; refused = refl; halts = refl; not_carried_out = refl; budget_spent = refl; log_too_short = refl }
