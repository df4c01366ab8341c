-- The answer by question 1 and the plan, and what a run of at most seven bytes writes of it.
-- Assumes nothing.
use Rattle.std.specs.Prelude.{Ok}
use mathlib.Core.Path.{◌≡◌, refl, sym, ◌∙◌}
use mathlib.Core.Bool.{Bool, true, false}
use mathlib.Core.List.{List, [], ◌∷◌, ◌++◌, append_assoc, append-nil}
use Prim.Native.Nat.{ℕ, ◌+◌, ◌<◌, ◌≤◌}
use native.Mathlib.Numerals.{add-one}
use native.Mathlib.Omega.{arith}
use lib.Dec.{eqb, leb}
use lib.ListN.{length, get_or, take, drop, length-set, length-append}
use lib.Seq.{take-suc-set}
use borrow.Author.Tests.{lt-ltb, eqb-false}
use Rattle.std.specs.Prelude.{Result, Ok, Err}
use Rattle.mrc_compiler.specs.declared.ast.Span.{Span}
use Rattle.mrc_compiler.specs.declared.encoder.EncodeError.{EncodeError}
use Rattle.mrc_compiler.specs.declared.encoder.EncodeError.TheVariants as E
use Rattle.mrc_compiler.specs.declared.encoder.InstructionData.{InstructionData}
use Rattle.mrc_compiler.specs.Choose.{pick}
use Rattle.x86.proofs.ByForm.{same_parts}
use Rattle.x86.specs.Reading.{reads}
use Rattle.x86.proofs.Repeats.{HowRead, with_repeat, without, how_read, plain_repeat}
use Rattle.encode_spec.specs.Records.{no_operand, dst, src}
use Rattle.encode_spec.specs.WellFormed.{well_formed}
use Rattle.encode_spec.specs.Meaning.{meaning}
use Rattle.encode_spec.specs.Answer.{Answer, bytes, refused, answer, outcome, slice_after}
use Rattle.encode_spec.proofs.Accepted.{accepted_reads}
use Rattle.encode_plans.specs.Plans.{plan_of}
use Rattle.encode_run.specs.declared.ByteRun.{ByteRun}
use Rattle.encode_run.specs.Run.{empty_run, pushed, appended}
use Rattle.encode_codes.specs.Emit.{emitted}
use Rattle.encoder.specs.Coded.{plan_answer, behind_repeat, formed, coded}
use Rattle.encoder.specs.Coded as Coded
use Rattle.encoder.specs.Lengths.{length_of}
use Rattle.encoder.proofs.Tied.{tied}

-- ---- question 1, then the plan
module _ (insn : InstructionData) (off : ℕ) where
  pub not_formed : {e : EncodeError} → formed insn ≡ Err e → answer insn off ≡ refused e
  unfolding coded
  not_formed h = sym (tied insn off) ∙ rw h

  planned : {u : Unit {0}} → formed insn ≡ Ok u → answer insn off ≡ behind_repeat insn.repeat (plan_answer (plan_of insn) insn off)
  unfolding coded
  planned h = sym (tied insn off) ∙ rw h

  -- a record with a repeat has two bytes
  two_bytes : off < 65536 → (bs : List ℕ) → eqb insn.repeat 0 ≡ false → answer insn off ≡ bytes (insn.repeat ∷ bs) → length bs ≡ 1
  two_bytes h bs z e = go (how_read off s)
    where
      s : List ℕ
      s = insn.repeat ∷ bs

      r : reads off s ≡ Ok (meaning insn, length s)
      r = (accepted_reads insn off h s e).reads_it

      go : HowRead off s → length bs ≡ 1
      go (with_repeat k) = omega (arith, (same_parts (sym r ∙ k.reads_it)).1)
      go (without n q) = absurd (eqb-false insn.repeat 0 z (plain_repeat off s (meaning insn) (length s) (sym q ∙ r)))

  -- the plan's run behind the repeat is the answer's; its refusal is the answer's too
  pushed-one : (p : ℕ) (bs : List ℕ) → length bs ≡ 1 → pushed (pushed empty_run p) (get_or (appended empty_run bs).bytes 0 0) ≡ appended (pushed empty_run p) bs
  pushed-one p [] l = absurd (omega arith)
  pushed-one p (b ∷ []) l = refl
  pushed-one p (b ∷ c ∷ bs) l = absurd (omega arith)

  module _ {u : Unit {0}} (w : formed insn ≡ Ok u) where
    pub run_planned : off < 65536 → {run : ByteRun} → emitted empty_run (plan_answer (plan_of insn) insn off) ≡ Ok run
        → Ok (Coded.with_repeat insn.repeat run) ≡ emitted empty_run (answer insn off)
    run_planned h {run} = go (eqb insn.repeat 0) refl (plan_answer (plan_of insn) insn off) (planned w)
      where
        go : (z : Bool) → eqb insn.repeat 0 ≡ z → (a : Answer) → answer insn off ≡ behind_repeat insn.repeat a
            → emitted empty_run a ≡ Ok run → Ok (Coded.with_repeat insn.repeat run) ≡ emitted empty_run (answer insn off)
        go z q (refused x) e d = cc
        go true z (bytes bs) e d = let r : appended empty_run bs ≡ run = cc in rw (e, z, ← r) refl
        go false z (bytes bs) e d =
            let r : appended empty_run bs ≡ run = cc in
            let q : answer insn off ≡ bytes (insn.repeat ∷ bs) = rw z at e in
            rw (q, z, ← r, pushed-one insn.repeat bs (two_bytes h bs z q)) refl

    pub run_refused : {e : EncodeError} → emitted empty_run (plan_answer (plan_of insn) insn off) ≡ Err e → answer insn off ≡ refused e
    run_refused {e} d = planned w ∙ go (plan_answer (plan_of insn) insn off) d
      where
        go : (a : Answer) → emitted empty_run a ≡ Err e → behind_repeat insn.repeat a ≡ refused e
        go (refused x) d = cc
        go (bytes bs) d = cc

-- ---- a run and the lent slice
-- what a run holds
pub record Holds (run : ByteRun) (bs : List ℕ) : Type 0 where
  pub shown : take run.len run.bytes ≡ bs
  pub count : run.len ≡ length bs
  pub whole : length run.bytes ≡ 7

push_holds : (run : ByteRun) (bs : List ℕ) (b : ℕ) → Holds run bs → length bs < 7 → Holds (pushed run b) (bs ++ (b ∷ []))
push_holds run bs b h less =
    let room : run.len < 7 = omega (arith, h.count) in
    rw (lt-ltb run.len 7 room)
    (record {
      shown = rw (add-one run.len, take-suc-set run.bytes run.len b (omega (arith, h.whole)), h.shown);
      count = omega (arith, h.count, length-append bs (b ∷ []));
      whole = length-set run.bytes run.len b ∙ h.whole;
    })

appended_holds : (run : ByteRun) (bs cs : List ℕ) → Holds run bs → length bs + length cs ≤ 7 → Holds (appended run cs) (bs ++ cs)
appended_holds run bs [] h less = rw (append-nil bs) h
appended_holds run bs (c ∷ cs) h less =
    rw (← (append_assoc bs (c ∷ []) cs))
    (appended_holds (pushed run c) (bs ++ (c ∷ [])) cs (push_holds run bs c h (omega arith)) (omega (arith, length-append bs (c ∷ []))))

all_holds : (bs : List ℕ) → length bs ≤ 7 → Holds (appended empty_run bs) bs
all_holds bs less = appended_holds empty_run [] bs (record { shown = refl; count = refl; whole = refl }) (omega arith)

-- at most seven bytes, where there are bytes
abbrev pub Short : Answer → Type 0
Short (refused e) = Unit {0}
Short (bytes bs) = length bs ≤ 7

short_from : (insn : InstructionData) (off : ℕ) → off < 65536 → (a : Answer) → answer insn off ≡ a → Short a
short_from insn off h (refused e) q = tt
short_from insn off h (bytes bs) q = (accepted_reads insn off h bs q).short

-- d is what was emitted for an answer
module _ (d : Result ByteRun EncodeError) where
  pub refused_by : (a : Answer) {e : EncodeError} → d ≡ emitted empty_run a → d ≡ Err e → a ≡ refused e
  refused_by (refused x) hd nd = cc
  refused_by (bytes bs) hd nd = cc

  module _ {run : ByteRun} (nd : d ≡ Ok run) where
    run_by : (bs : List ℕ) → d ≡ emitted empty_run (bytes bs) → run ≡ appended empty_run bs
    run_by bs hd = cc

    pub bytes_by : (a : Answer) → d ≡ emitted empty_run a → (bs : List ℕ) × (a ≡ bytes bs) × (run ≡ appended empty_run bs)
    bytes_by (refused x) hd = cc
    bytes_by (bytes bs) hd = (bs, refl, run_by bs hd)

    pub len_of : (a : Answer) → Short a → d ≡ emitted empty_run a → run.len ≤ 7
    len_of (refused e) sh hd = cc
    len_of (bytes bs) sh hd = rw (run_by bs hd, (all_holds bs sh).count) sh

    pub length_by : (a : Answer) → Short a → d ≡ emitted empty_run a → Ok run.len ≡ length_of a
    length_by (refused e) sh hd = cc
    length_by (bytes bs) sh hd = rw (run_by bs hd, (all_holds bs sh).count)

    pub out_by : (span : Span) (s : List ℕ) (a : Answer) (x : List ℕ) (t : Bool) → Short a → d ≡ emitted empty_run a
        → t ≡ leb run.len (length s)
        → x ≡ pick (leb run.len (length s)) (take run.len run.bytes ++ drop run.len s) s
        → (pick t (Ok run.len) (Err (E.SliceTooShort span)) ≡ outcome a span s) × (x ≡ slice_after a s)
    out_by span s (refused e) x t sh hd ht hx = cc
    out_by span s (bytes bs) x t sh hd ht hx =
        let h = all_holds bs sh in
        let hr = run_by bs hd in
        let ht' = rw (hr, h.count) at ht in
        let hx' = rw (hr, h.shown, h.count) at hx in
        (rw (ht', hr, h.count), hx')

-- d is what run_of gives for a record
module _ (insn : InstructionData) (off : ℕ) (h : off < 65536) (d : Result ByteRun EncodeError) (hd : d ≡ emitted empty_run (answer insn off)) where
  short_answer : Short (answer insn off)
  short_answer = short_from insn off h (answer insn off) refl

  pub is_refused : {e : EncodeError} → d ≡ Err e → answer insn off ≡ refused e
  is_refused nd = refused_by d (answer insn off) hd nd

  module _ {run : ByteRun} (nd : d ≡ Ok run) where
    pub len_ok : run.len ≤ 7
    len_ok = len_of d nd (answer insn off) short_answer hd

    pub is_bytes : (bs : List ℕ) × (answer insn off ≡ bytes bs) × (run ≡ appended empty_run bs)
    is_bytes = bytes_by d nd (answer insn off) hd

    pub length_ok : Ok run.len ≡ length_of (answer insn off)
    length_ok = length_by d nd (answer insn off) short_answer hd

    pub out_ok : (s x : List ℕ) (t : Bool)
        → t ≡ leb run.len (length s)
        → x ≡ pick (leb run.len (length s)) (take run.len run.bytes ++ drop run.len s) s
        → (pick t (Ok run.len) (Err (E.SliceTooShort insn.opers_span)) ≡ outcome (answer insn off) insn.opers_span s)
        × (x ≡ slice_after (answer insn off) s)
    out_ok s x t ht hx = out_by d nd insn.opers_span s (answer insn off) x t short_answer hd ht hx

-- ---- question 1 of the operands, one by one
pub data Before (insn : InstructionData) : ℕ → Type 0 where
  none : Before insn 0
  one : well_formed (dst insn) ≡ true → Before insn 1
  two : well_formed (dst insn) ≡ true → well_formed (src insn) ≡ true → Before insn 2

pub one_more : {insn : InstructionData} {i : ℕ} → Before insn i → i < 2 → well_formed (get_or insn.opers i no_operand) ≡ true → Before insn (i + 1)
one_more none l f = one f
one_more (one a) l f = two a f
one_more (two a b) l f = absurd (omega arith)
