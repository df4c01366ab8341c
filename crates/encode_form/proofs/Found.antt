-- The form read off the bytes that are written is that of the form chosen, and the question read off the refusal the first whose answer is no.
-- Assumes nothing.
use Rattle.std.specs.Prelude.{Option, Some, None}
use mathlib.Core.Path.{◌≡◌, refl, sym, ◌∙◌, ap, subst}
use mathlib.Core.Bool.{Bool, true, false}
use mathlib.Core.List.{List, [], ◌∷◌, ◌++◌, Memᴰ}
use Prim.Native.Nat.{ℕ, zero, suc, ◌+◌, ◌≤◌, ◌<◌}
use native.Mathlib.Omega.{arith}
use lib.Dec.{T, eqb}
use lib.IntN.{ℤ, pos, negsuc}
use lib.ListN.{length, get_or, replicate}
use borrow.Author.Tests.{eqb-true}
use Rattle.mrc_compiler.specs.declared.encoder.EncodeError.{EncodeError}
use Rattle.mrc_compiler.specs.declared.encoder.InstructionData.{InstructionData}
use Rattle.mrc_compiler.specs.declared.encoder.OperandData.{OperandData}
use Rattle.mrc_compiler.specs.declared.operations.Operation.{Operation}
use Rattle.mrc_compiler.specs.Choose.{pick, both, either, isnt}
use Rattle.mrc_compiler.specs.Operations.{is_string}
use Rattle.x86.specs.Forms.{Extension, Form, forms}
use Rattle.x86.specs.Forms as F
use Rattle.x86.specs.Reading.{starting_with, second_fits, digit, prefix, is_repeat}
use Rattle.x86.proofs.Tests.{both_left, both_right, same, same_is, up_to, up_to_at, each_of, each_at, is_true}
use Rattle.encode_groups.specs.declared.Group.{Group}
use Rattle.encode_groups.specs.Grouping.{grouped_of, group_of}
use Rattle.encode_run.specs.declared.ByteRun.{ByteRun}
use Rattle.encode_run.specs.Run.{empty_run, appended}
use Rattle.encode_spec.specs.Records.{dst, src}
use Rattle.encode_spec.specs.WellFormed.{repeat_formed}
use Rattle.encode_spec.specs.Rules.{Special, ordinary, unordered, unordered_memory, by_count, target_first, not_supported, rule}
use Rattle.encode_spec.specs.Choice.{Choice, none, straight, crossed, count_by, has_immediate}
use Rattle.encode_spec.specs.Layout.{prefix_bytes, part, layout}
use Rattle.encode_spec.specs.Questions.{chosen, questions}
use Rattle.encode_spec.specs.Answer.{First, all_yes, no, first_no, bytes, refused, answered, written, record_bytes, answer}
use Rattle.encode_spec.proofs.Values.{false-true, both_true}
use Rattle.encode_spec.proofs.Front.{second_bytes, among, no_prefix_byte}
use Rattle.encode_spec.proofs.ReadBack.{Begun, string_in_order, begun, begun_opcode}
use Rattle.encode_spec.proofs.Accepted.{gives_bytes, accepted_reads, Chosen, ChosenAs, chosen_is, repeat_yes, arranged_is, operation_is}
use Rattle.encode_form.specs.declared.Ground.TheVariants as N
use Rattle.encode_form.specs.declared.Written.{Written}
use Rattle.encode_form.specs.declared.Limits.{Limits}
use Rattle.encode_form.specs.Ground.{digit_of, limits_in, or_else, uses, written_by, written_as, ground_by, ground}
use Rattle.encode_form.specs.ByBytes.{has_digit, digit_at, limits_by, operands_in, written_at, opcode_place, written_in, question_by}
use Rattle.encode_form.specs.Grounds.{bytes_by}
use Rattle.encode_form.proofs.Questions.{told}

-- ---- equal limits, as a test
abbrev sameℤ : ℤ → ℤ → Bool
sameℤ (pos m) (pos n) = eqb m n
sameℤ (pos m) (negsuc n) = false
sameℤ (negsuc m) (pos n) = false
sameℤ (negsuc m) (negsuc n) = eqb m n

same_ℤ : (x y : ℤ) → sameℤ x y ≡ true → x ≡ y
same_ℤ (pos m) (pos n) e = ap pos (eqb-true m n e)
same_ℤ (pos m) (negsuc n) e = false-true e
same_ℤ (negsuc m) (pos n) e = false-true e
same_ℤ (negsuc m) (negsuc n) e = ap negsuc (eqb-true m n e)

abbrev same_limits : Option Limits → Option Limits → Bool
same_limits None None = true
same_limits None (Some l) = false
same_limits (Some l) None = false
same_limits (Some l) (Some m) = both (sameℤ l.low m.low) (sameℤ l.high m.high)

same_limits_lem : (a b : Option Limits) → T (same_limits a b) → a ≡ b
same_limits_lem None None t = refl
same_limits_lem None (Some l) t = absurd t
same_limits_lem (Some l) None t = absurd t
same_limits_lem (Some l) (Some m) t =
    let (x, y) = both_true (sameℤ l.low m.low) (sameℤ l.high m.high) (is_true _ t) in
    ap Some (ap (λ (h : ℤ). record { low = l.low; high = h }) (same_ℤ l.high m.high y) ∙ ap (λ (k : ℤ). record { low = k; high = m.high }) (same_ℤ l.low m.low x))

-- ---- the table: what each opcode has, as each of its forms has it
abbrev is_digit : Extension → Bool
is_digit F.no = false
is_digit F.+r = false
is_digit F.+s = false
is_digit F./r = false
is_digit (F./ n) = true
is_digit F.0A = false

abbrev limits_of : Group → Form → Option Limits
limits_of g f = or_else (limits_in g f.first) (limits_in g f.second)

-- the limits are those of the digit, and where there is none whatever stands there
abbrev limits_fit : Extension → ℕ → Option Limits → Bool
limits_fit F.no c l = both (same_limits (limits_by c true) l) (same_limits (limits_by c false) l)
limits_fit F.+r c l = both (same_limits (limits_by c true) l) (same_limits (limits_by c false) l)
limits_fit F.+s c l = both (same_limits (limits_by c true) l) (same_limits (limits_by c false) l)
limits_fit F./r c l = both (same_limits (limits_by c true) l) (same_limits (limits_by c false) l)
limits_fit (F./ n) c l = same_limits (limits_by c (eqb n 0)) l
limits_fit F.0A c l = both (same_limits (limits_by c true) l) (same_limits (limits_by c false) l)

abbrev opcode_fit : ℕ → Form → Bool
opcode_fit c f = both (same (has_digit c) (is_digit f.extension)) (limits_fit f.extension c (limits_of (group_of f.operation) f))

opcodes_fit : T (up_to 256 (λ c. each_of (opcode_fit c) (starting_with c)))
unfolding starting_with forms grouped_of
opcodes_fit = tt

opcode_fits : (c : ℕ) → c < 256 → {f : Form} → Memᴰ f (starting_with c) → T (opcode_fit c f)
opcode_fits c h m = each_at (opcode_fit c) (starting_with c) (up_to_at 256 (λ c. each_of (opcode_fit c) (starting_with c)) opcodes_fit c h) m

-- the byte behind the opcode, where the form has a digit
digit_found : (e : Extension) (c x : ℕ) → has_digit c ≡ is_digit e → second_fits e x ≡ true → digit_at c x ≡ digit_of e
digit_found F.no c x h s = rw h
digit_found F.+r c x h s = rw h
digit_found F.+s c x h s = rw h
digit_found F./r c x h s = rw h
digit_found (F./ n) c x h s = rw (h, eqb-true (digit x) n s)
digit_found F.0A c x h s = rw h

whatever : (t : Bool) (c : ℕ) (l : Option Limits) → T (both (same_limits (limits_by c true) l) (same_limits (limits_by c false) l)) → limits_by c t ≡ l
whatever true c l h = same_limits_lem _ l (both_left (same_limits (limits_by c true) l) (same_limits (limits_by c false) l) h)
whatever false c l h = same_limits_lem _ l (both_right (same_limits (limits_by c true) l) (same_limits (limits_by c false) l) h)

limits_found : (e : Extension) (c x : ℕ) (l : Option Limits) → T (limits_fit e c l) → second_fits e x ≡ true → limits_by c (eqb (digit x) 0) ≡ l
limits_found F.no c x l h s = whatever (eqb (digit x) 0) c l h
limits_found F.+r c x l h s = whatever (eqb (digit x) 0) c l h
limits_found F.+s c x l h s = whatever (eqb (digit x) 0) c l h
limits_found F./r c x l h s = whatever (eqb (digit x) 0) c l h
limits_found (F./ n) c x l h s = rw (eqb-true (digit x) n s) (same_limits_lem _ l h)
limits_found F.0A c x l h s = whatever (eqb (digit x) 0) c l h

-- ---- operands: those of the group
abbrev uses_fit : Form → Bool → ℕ → Bool
uses_fit f counts_none k =
    either (isnt (count_by (rule (group_of f.operation)).special k f)) (eqb (operands_in (group_of f.operation) counts_none) (uses f.first + uses f.second))

all_fit : T (each_of (λ f. both (uses_fit f true 0) (uses_fit f false 1)) forms)
unfolding forms grouped_of
all_fit = tt

-- the count is looked at for whether it is 0
count_is : (s : Special) (k : ℕ) (f : Form) → count_by s k f ≡ count_by s (pick (eqb k 0) 0 1) f
count_is ordinary k f = refl
count_is unordered k f = refl
count_is unordered_memory k f = refl
count_is by_count k f = go (eqb k 0)
  where
    go : (t : Bool) → pick t (isnt (has_immediate f)) (has_immediate f) ≡ count_by by_count (pick t 0 1) f
    go true = refl
    go false = refl
count_is target_first k f = refl
count_is not_supported k f = refl

if_so : (x y : Bool) → T (either (isnt x) y) → x ≡ true → y ≡ true
if_so true y h e = is_true y h
if_so false y h e = false-true e

-- ---- a form of the table with the operands x and y
module _ (insn : InstructionData) (off : ℕ) (h : off < 65536) (f : Form) (x y : OperandData) (k : Chosen insn off f x y) where
  abbrev g : Group
  g = group_of insn.operation

  same_operation : f.operation ≡ insn.operation
  same_operation = operation_is insn off f x y k

  b : Begun f (layout f off x y)
  b = begun f k.listed (arranged_is insn off f x y k) off h x y k.first k.second

  fit : T (opcode_fit b.c f)
  fit = opcode_fits b.c b.begins.c_byte {f = f} (among 0 b.p b.c b.x b.rest f b.begins)

  operands_found : operands_in g (eqb insn.num_opers 0) ≡ uses f.first + uses f.second
  operands_found = go (eqb insn.num_opers 0) (sym (count_is (rule g).special insn.num_opers f) ∙ k.counted)
    where
      tested : T (both (uses_fit f true 0) (uses_fit f false 1))
      tested = each_at (λ f. both (uses_fit f true 0) (uses_fit f false 1)) forms all_fit k.listed

      of_it : (t : Bool) (n : ℕ) → T (uses_fit f t n) → count_by (rule g).special n f ≡ true → operands_in g t ≡ uses f.first + uses f.second
      of_it t n h =
          subst (λ (o : Operation). count_by (rule (group_of o)).special n f ≡ true → operands_in (group_of o) t ≡ uses f.first + uses f.second) same_operation
          (λ c. eqb-true _ _ (if_so (count_by (rule (group_of f.operation)).special n f) _ h c))

      go : (t : Bool) → count_by (rule g).special (pick t 0 1) f ≡ true → operands_in g t ≡ uses f.first + uses f.second
      go true c = of_it true 0 (both_left (uses_fit f true 0) (uses_fit f false 1) tested) c
      go false c = of_it false 1 (both_right (uses_fit f true 0) (uses_fit f false 1) tested) c

  opcode_found : b.c ≡ f.opcode + (part f.first 0 x).opcode + (part f.second 0 y).opcode
  unfolding b
  opcode_found = begun_opcode f k.listed (arranged_is insn off f x y k) off h x y k.first k.second

  -- by the opcode and the byte behind it, which is the second byte where the form has one
  at_found : (z : ℕ) → second_fits f.extension z ≡ true → written_at b.c z insn ≡ written_by g f x y
  at_found z s =
      let d = same_is (has_digit b.c) (is_digit f.extension) (both_left (same (has_digit b.c) (is_digit f.extension)) _ fit) in
      let l = both_right (same (has_digit b.c) (is_digit f.extension)) (limits_fit f.extension b.c (limits_of (group_of f.operation) f)) fit in
      let m = limits_found f.extension b.c z _ l s ∙ ap (λ (o : Operation). limits_of (group_of o) f) same_operation in
      rw (digit_found f.extension b.c z d s, m, operands_found, opcode_found) refl

  -- the opcode stands behind the prefix, or first
  abbrev behind : List ℕ
  behind = second_bytes f.extension b.x ++ b.rest

  from_found : (i : Bool) → either i (prefix b.p) ≡ true → eqb insn.repeat 0 ≡ true
      → written_in (pick i [] (b.p ∷ []) ++ (b.c ∷ behind)) insn ≡ written_at b.c (get_or behind 0 0) insn
  from_found true q z = rw (z, no_prefix_byte 0 b.p b.c b.x b.rest f b.begins (prefix b.c) refl) refl
  from_found false q z = rw (z, q) refl

  -- what stands behind it fits the form
  second_found : second_fits f.extension (get_or behind 0 0) ≡ true
  second_found = go f.extension b.x (both_true (second_fits f.extension b.x) _ b.begins.second).0
    where
      go : (e : Extension) (z : ℕ) → second_fits e z ≡ true → second_fits e (get_or (second_bytes e z ++ b.rest) 0 0) ≡ true
      go F.no z q = refl
      go F.+r z q = refl
      go F.+s z q = refl
      go F./r z q = refl
      go (F./ n) z q = q
      go F.0A z q = q

  -- or behind the repeat, which stands before a string operation
  form_found : repeat_formed insn.repeat insn.operation ≡ true → written_in (bytes_by insn off f x y) insn ≡ written_by g f x y
  form_found w = go (eqb insn.repeat 0) refl w ∙ at_found (get_or behind 0 0) second_found
    where
      go : (i : Bool) → eqb insn.repeat 0 ≡ i → either i (both (is_repeat insn.repeat) (is_string insn.operation)) ≡ true
          → written_in (pick i [] (insn.repeat ∷ []) ++ layout f off x y) insn ≡ written_at b.c (get_or behind 0 0) insn
      go true z w = rw b.in_order (from_found (eqb b.p 0) b.prefixed z)
      go false z w =
          let s = (both_true (is_repeat insn.repeat) (is_string insn.operation) w).1 in
          rw (z, string_in_order f (layout f off x y) (rw same_operation s) b) refl

-- ---- the run that is emitted has zeros behind its bytes
pad : (bs : List ℕ) (n i : ℕ) → get_or (bs ++ replicate n 0) i 0 ≡ get_or bs i 0
pad [] zero i = refl
pad [] (suc n) zero = refl
pad [] (suc n) (suc i) = pad [] n i
pad (x ∷ bs) n zero = refl
pad (x ∷ bs) n (suc i) = pad bs n i

run_bytes : (bs : List ℕ) → length bs ≤ 7 → (n : ℕ) × ((appended empty_run bs).bytes ≡ bs ++ replicate n 0)
run_bytes [] h = (7, refl)
run_bytes (a ∷ []) h = (6, refl)
run_bytes (a ∷ b ∷ []) h = (5, refl)
run_bytes (a ∷ b ∷ c ∷ []) h = (4, refl)
run_bytes (a ∷ b ∷ c ∷ d ∷ []) h = (3, refl)
run_bytes (a ∷ b ∷ c ∷ d ∷ e ∷ []) h = (2, refl)
run_bytes (a ∷ b ∷ c ∷ d ∷ e ∷ f ∷ []) h = (1, refl)
run_bytes (a ∷ b ∷ c ∷ d ∷ e ∷ f ∷ g ∷ []) h = (0, refl)
run_bytes (a ∷ b ∷ c ∷ d ∷ e ∷ f ∷ g ∷ x ∷ bs) h = absurd (omega arith)

in_run : (bs : List ℕ) (insn : InstructionData) → length bs ≤ 7 → written_in (appended empty_run bs).bytes insn ≡ written_in bs insn
in_run bs insn h =
    let (n, e) = run_bytes bs h in
    let i = opcode_place insn.repeat (get_or bs 0 0) in
    rw (e, pad bs n 0, pad bs n i, pad bs n (suc i)) refl

-- ---- a record
module _ (insn : InstructionData) (off : ℕ) (h : off < 65536) where
  choice_found : repeat_formed insn.repeat insn.operation ≡ true → (c : Choice) → ChosenAs insn off c
      → written_in (prefix_bytes insn.repeat ++ written c off (dst insn) (src insn)) insn ≡ written_as (group_of insn.operation) c (dst insn) (src insn)
  choice_found r none k = absurd k
  choice_found r (straight f) k = form_found insn off h f (dst insn) (src insn) k r
  choice_found r (crossed f) (k, w) = form_found insn off h f (src insn) (dst insn) k r

  pub form_of_list : (bs : List ℕ) → answer insn off ≡ bytes bs → ground insn off ≡ N.Form (written_in bs insn)
  unfolding answer ground
  form_of_list bs e =
      let (y, w) = gives_bytes (first_no (questions insn off)) (record_bytes insn off) bs e in
      rw (y, ← w, choice_found (repeat_yes insn off y) (chosen insn) (chosen_is insn off y)) refl

  -- by the run that is emitted for its bytes
  pub form_of_run : (run : ByteRun) (bs : List ℕ) → run ≡ appended empty_run bs → answer insn off ≡ bytes bs → ground insn off ≡ N.Form (written_in run.bytes insn)
  form_of_run run bs r e =
      form_of_list bs e ∙ ap N.Form (sym (in_run bs insn (accepted_reads insn off h bs e).short) ∙ ap (λ (y : ByteRun). written_in y.bytes insn) (sym r))

  pub question_of_refusal : (x : EncodeError) → answer insn off ≡ refused x → ground insn off ≡ N.Question (question_by x insn)
  unfolding answer ground
  question_of_refusal x e = go (first_no (questions insn off)) refl e
    where
      w : Written
      w = written_as (group_of insn.operation) (chosen insn) (dst insn) (src insn)

      go : (r : First) → first_no (questions insn off) ≡ r → answered r (record_bytes insn off) ≡ refused x → ground_by r w ≡ N.Question (question_by x insn)
      go all_yes h q = let z : ◌≡◌ {A = ℕ} 0 1 = cc in absurd (omega arith)
      go (no q) h r = let z : q.refusal ≡ x = cc in rw (← z, (told insn off).tells q h) refl
