-- A file that is written loads at the same origin, its branches land where they landed, and its shifts do what they did (specs/Converts).
-- Assumes nothing.
use Rattle.std.specs.Prelude.{Ok, Err}
use mathlib.Core.Path.{◌≡◌, refl, sym, ◌∙◌, ap, subst}
use mathlib.Core.Bool.{Bool, true, false}
use mathlib.Core.List.{List}
use Prim.Native.Nat.{ℕ, suc, ◌+◌, ◌<◌, ◌≤◌}
use native.Mathlib.Omega.{arith}
use lib.Dec.{leb, eqb}
use lib.IntN.{pos}
use lib.ListN.{length}
use borrow.Author.Tests.{leb-true, leb-false, le-leb, eqb-true}
use Rattle.mrc_compiler.specs.declared.encoder.InstructionData.{InstructionData}
use Rattle.mrc_compiler.specs.declared.encoder.OperandData.{OperandData}
use Rattle.mrc_compiler.specs.declared.encoder.OperandKind.{OperandKind}
use Rattle.mrc_compiler.specs.declared.encoder.OperandKind.TheVariants as K
use Rattle.mrc_compiler.specs.declared.encoder.OperandSize.{OperandSize}
use Rattle.mrc_compiler.specs.declared.encoder.OperandSize.TheVariants as S
use Rattle.mrc_compiler.specs.declared.operations.Operation.{Operation}
use Rattle.mrc_compiler.specs.Choose.{by_kind}
use Rattle.mrc_compiler.specs.Builders.{is_specified}
use Rattle.mrc_compiler.specs.Operations.{number_of}
use Rattle.x86.specs.declared.Instruction.{Instruction}
use Rattle.x86.specs.declared.Operand.{Operand}
use Rattle.x86.specs.declared.Operand.TheVariants as Op
use Rattle.x86.specs.Instructions.{instruction, repeated, canonical}
use Rattle.x86.specs.Listing.{ReadsAs}
use Rattle.x86.proofs.Repeats.{unrepeated, canonical_repeat}
use Rattle.encode_groups.specs.declared.Group.TheVariants as G
use Rattle.encode_groups.specs.declared.Group.{Group}
use Rattle.encode_groups.specs.Grouping.{group_of}
use Rattle.encode_spec.specs.Records.{dst, src}
use Rattle.encode_spec.specs.Operands.{counted, count}
use Rattle.encode_spec.specs.Meaning.{meant, meaning}
use Rattle.encode_spec.specs.Questions.{questions}
use Rattle.encode_spec.specs.Answer.{first_no, record_bytes, bytes, answer}
use Rattle.encode_spec.proofs.Accepted.{gives_bytes, every}
use Rattle.encode_spec.proofs.Values.{false-true}
use Rattle.show_file.specs.declared.Header.{Header}
use Rattle.show_file.specs.Show.{most_records, header, insn_at}
use Rattle.show_load.specs.Loading.{Walk, all, stopped, offset_behind, bytes_of, walk, bytes_in, is_all, measured, accepted, loaded, image_after}
use Rattle.show_load.specs.Loading as Loading
use Rattle.show_load.specs.Demand2.{part, Loaded2}
use Rattle.show_load.proofs.Laws.{within_seven}
use Rattle.show_load.proofs.Demand2.{reads_at}
use Rattle.shift_copies.specs.Shifting.{Shift, rol, ror, rcl, rcr, shl, shr, sar, operation_of, is_shift, Width, byte, word, size_of}
use Rattle.shift_copies.proofs.Named.{named}
use Rattle.shift_copies.proofs.Copies.{copies_same}
use Rattle.convert_spec.specs.declared.ConvertError.{ConvertError}
use Rattle.convert_spec.specs.Counts.{has_count, times, with_imm, with_operands, with_count_one}
use Rattle.convert_spec.specs.OldStarts.{old_offset, old_answer, first_copy}
use Rattle.convert_spec.specs.Targets.{branch_of, is_branch, target_of, place_of}
use Rattle.convert_spec.specs.Written.{new_imm}
use Rattle.convert_spec.specs.Converting.{fitted, converted}
use Rattle.convert_laws.specs.Converts.{origin_of, count_of, to, new_header, Lands, Shifts, Converts}
use Rattle.convert_laws.specs.NewRecords.{with_first, new_insn}
use Rattle.convert_laws.proofs.Branches.{branch_meaning, shift_group}
use Rattle.convert_laws.proofs.Firsts.{found}
use Rattle.convert_laws.proofs.Written.{plain}
use Rattle.convert_laws.proofs.Ranges.{times_within, its_bytes}
use Rattle.convert_laws.proofs.Walked.{copied, some_copy, copies_within, counted_shift, counted_new}
use Rattle.convert_laws.proofs.Starts.{goes_there}
use Rattle.convert_laws.proofs.Opens.{accepted_few, accepted_many}
use Rattle.convert_laws.proofs.Done.{Done, done}

-- ---- what a shift by 1 means
shift_canonical : (s : Shift) (w : OperandSize) (a : Operand) → canonical (operation_of s) w a Op.One ≡ instruction (operation_of s) w a Op.One
unfolding canonical number_of
shift_canonical rol w a = refl
shift_canonical ror w a = refl
shift_canonical rcl w a = refl
shift_canonical rcr w a = refl
shift_canonical shl w a = refl
shift_canonical shr w a = refl
shift_canonical sar w a = refl

imm_kind : (k : OperandKind) (t : Bool) → by_kind k t false false false ≡ true → k ≡ K.Imm
imm_kind K.Imm t h = refl
imm_kind K.Reg t h = false-true h
imm_kind K.Seg t h = false-true h
imm_kind K.Mem t h = false-true h

counted_imm : (insn : InstructionData) → has_count insn ≡ true → (src insn).kind ≡ K.Imm
unfolding has_count
counted_imm insn h = imm_kind (src insn).kind (is_shift insn.operation) h

group_means : (g : Group) (k : ℕ) (op : Operation) (a b : OperandData) → g ≡ G.Shift → meant g k op a b ≡ canonical op a.size (counted a.size a) (count b)
unfolding meant
group_means g k op a b e = rw e refl

module _ (insn : InstructionData) (c : has_count insn ≡ true) where
  abbrev one : InstructionData
  one = with_operands insn (dst insn) (with_imm (src insn) (pos 1))

  one_is : with_count_one insn ≡ one
  unfolding with_count_one
  one_is = rw c

  one_means : (s : Shift) → insn.operation ≡ operation_of s → insn.repeat ≡ 0
      → meaning (with_count_one insn) ≡ instruction (operation_of s) (dst insn).size (counted (dst insn).size (dst insn)) Op.One
  one_means s e r =
      let w = (dst insn).size in
      let a = counted w (dst insn) in
      let g : group_of insn.operation ≡ G.Shift = shift_group insn.operation (counted_shift insn c) in
      let m : meant (group_of insn.operation) insn.num_opers insn.operation (dst insn) (with_imm (src insn) (pos 1)) ≡ canonical insn.operation w a Op.One =
      group_means (group_of insn.operation) insn.num_opers insn.operation (dst insn) (with_imm (src insn) (pos 1)) g ∙ rw (counted_imm insn c) refl in
      ap meaning one_is ∙ ap (repeated insn.repeat) m ∙ unrepeated insn.repeat _ (r ∙ sym (canonical_repeat insn.operation w a Op.One))
      ∙ ap (λ (o : Operation). canonical o w a Op.One) e ∙ shift_canonical s w a

  -- where it is accepted its size is stated
  one_size : (off : ℕ) (bs : List ℕ) → answer (with_count_one insn) off ≡ bytes bs → (w : Width) × ((dst insn).size ≡ size_of w)
  unfolding answer questions
  one_size off bs e =
      let g : group_of insn.operation ≡ G.Shift = shift_group insn.operation (counted_shift insn c) in
      let q = (gives_bytes (first_no (questions (with_count_one insn) off)) (record_bytes (with_count_one insn) off) bs e).0 in
      let y = every (questions one off) (ap (λ (i : InstructionData). first_no (questions i off)) (sym one_is) ∙ q) 5 in
      go (dst insn).size (rw g at y)
    where
      go : (s : OperandSize) → is_specified s ≡ true → (w : Width) × (s ≡ size_of w)
      go S.Unspecified h = false-true h
      go S.Byte h = (byte, refl)
      go S.Word h = (word, refl)

-- ---- a written file is accepted
no_image : {P : Type 0} {m : ℕ} {e : ConvertError} → Err e ≡ Ok m → P
no_image q = let z : ◌≡◌ {A = ℕ} 0 1 = cc in absurd (omega arith)

walked : (h : Header) (w : Walk) (n size m : ℕ) → fitted n size (measured h w) ≡ Ok m → is_all w ≡ true
walked h (all bs) n size m q = refl
walked h (stopped k e) n size m q = no_image q

measured_all : (h : Header) (w : Walk) → is_all w ≡ true → measured h w ≡ Ok (h, length (bytes_in w))
measured_all h (all bs) t = refl
measured_all h (stopped k e) t = false-true t

record Loading1 (file : List ℕ) : Type 0 where
  pub few : first_copy file (count_of file) ≤ 1000
  pub all_in : is_all (walk (to file) (origin_of file) (first_copy file (count_of file))) ≡ true
  pub accepts : accepted most_records (to file) ≡ Ok (new_header file, length (bytes_in (walk (to file) (origin_of file) (first_copy file (count_of file)))))

loading : (file : List ℕ) (size m : ℕ) → Done file size m (header file) → Loading1 file
loading file size m d = go (leb (first_copy file (count_of file)) 1000) refl
  where
    go : (b : Bool) → leb (first_copy file (count_of file)) 1000 ≡ b → Loading1 file
    go true e =
        let few = leb-true (first_copy file (count_of file)) 1000 e in
        let w = walk (to file) (origin_of file) (first_copy file (count_of file)) in
        let a = accepted_few file (header file) d.show d.known few in
        let t = walked (new_header file) w (length (to file)) size m (ap (fitted (length (to file)) size) (sym a ∙ d.accepts) ∙ d.fits) in
        record { few = few; all_in = t; accepts = a ∙ measured_all (new_header file) w t }
    go false e =
        let a = accepted_many file (header file) d.show d.known (leb-false (first_copy file (count_of file)) 1000 e) in
        no_image (ap (fitted (length (to file)) size) (sym a ∙ d.accepts) ∙ d.fits)

-- ---- in an image of 7,000 bytes
module _ (file : List ℕ) (size m : ℕ) (d : Done file size m (header file)) (image : List ℕ) (room : 7000 ≤ length image) where
  abbrev h : Header
  h = header file

  abbrev W : List ℕ
  W = to file

  abbrev total : ℕ
  total = first_copy file (count_of file)

  abbrev starts : ℕ → ℕ
  starts j = length (bytes_in (walk W (origin_of file) j))

  accepts : Loading1 file
  accepts = loading file size m d

  image_is : loaded W (length image) ≡ Ok (new_header file, starts total)
  image_is =
      let s = within_seven W (origin_of file) total in
      let f = accepts.few in
      ap (Loading.fitted W (length image)) accepts.accepts ∙ rw (le-leb (starts total) (length image) (omega arith))

  records_are : Loaded2 W (new_header file) (starts total) starts image (image_after W image)
  records_are = reads_at W (new_header file) (starts total) image image_is

  -- record k's first copy, as it reads
  module _ (k : ℕ) (l : k < count_of file) where
    abbrev insn : InstructionData
    insn = insn_at file k

    copy_reads : (i : ℕ) → i < times insn
        → ReadsAs (offset_behind (origin_of file) (starts (first_copy file k + i))) (meaning (new_insn file (origin_of file) (count_of file) k)) (part (starts (first_copy file k + i)) (starts (first_copy file k + i + 1)) (image_after W image))
    copy_reads i g =
        let b = copies_within file h d.show d.convertible k l in
        subst (λ (y : InstructionData). ReadsAs (offset_behind (origin_of file) (starts (first_copy file k + i))) (meaning y) (part (starts (first_copy file k + i)) (starts (first_copy file k + i + 1)) (image_after W image)))
        (copied file h d.show d.convertible k l i g) (records_are.each_reads (first_copy file k + i) (omega arith))

    branch_lands : is_branch (branch_of insn) ≡ true → Lands file image starts k
    unfolding new_insn
    branch_lands b =
        let n = count_of file in
        let origin = origin_of file in
        let p = place_of (old_offset file origin) n insn in
        let there = d.convertible.placed k l b in
        let new : new_insn file origin n k ≡ with_first insn (new_imm file origin n insn) = rw b in
        let means = ap meaning new ∙ branch_meaning insn (new_imm file origin n insn) (plain file h d.show k l) b in
        let goes = goes_there file h d.show d.convertible accepts.all_in k l b in
        let z : first_copy file k + 0 ≡ first_copy file k = omega arith in
        let r = rw z at (copy_reads 0 (some_copy file h d.show d.convertible k l)) in
        record {
          place = p;
          there = there;
          stood = eqb-true (old_offset file origin p) (target_of insn) (found (λ j. eqb (old_offset file origin j) (target_of insn)) (suc n) 0 (omega arith));
          lands = rw (← goes) (rw means at r);
        }

    shift_copies : has_count insn ≡ true → Shifts file image starts k
    shift_copies c =
        let (s, e) = named insn.operation (counted_shift insn c) in
        let (w, q) = one_size insn c (old_offset file (origin_of file) k) (bytes_of (old_answer file (origin_of file) k)) (its_bytes (old_answer file (origin_of file) k) (d.convertible.taken k l)) in
        let t = times_within insn (d.convertible.counts.counted k l) in
        let o = counted (dst insn).size (dst insn) in
        let means : meaning (new_insn file (origin_of file) (count_of file) k) ≡ instruction (operation_of s) (size_of w) o Op.One =
        ap meaning (counted_new file (origin_of file) (count_of file) k c) ∙ one_means insn c s e (plain file h d.show k l) ∙ ap (λ (z : OperandSize). instruction (operation_of s) z o Op.One) q in
        record {
          op = s;
          width = w;
          operand = o;
          its_operation = e;
          its_size = q;
          each = λ i g. subst (λ (y : Instruction). ReadsAs (offset_behind (origin_of file) (starts (first_copy file k + i))) y (part (starts (first_copy file k + i)) (starts (first_copy file k + i + 1)) (image_after W image))) means (copy_reads i g);
          same = λ y f. copies_same s w (times insn) y t.0 t.1 f;
        }

  all_of_it : Converts file image starts
  all_of_it = record { loads = image_is; records = records_are; branches = branch_lands; shifts = shift_copies }

-- a conversion that answers a length: the file that it writes, in any image of 7,000 bytes or more
pub converts : (file : List ℕ) (size m : ℕ) → converted file size ≡ Ok m → (image : List ℕ) → 7000 ≤ length image → (starts : ℕ → ℕ) × Converts file image starts
converts file size m q image room =
    let (h, d) = done file size m q in
    let d' : Done file size m (header file) = subst (Done file size m) (sym d.show.its_header) d in
    (λ j. length (bytes_in (walk (to file) (origin_of file) j)), all_of_it file size m d' image room)
