-- The laws that the texts rest on: how long lines are, and the texts of the records behind each other.
-- Assumes nothing.
use Rattle.std.specs.Prelude.{Err}
use mathlib.Core.Path.{◌≡◌, refl}
use mathlib.Core.Bool.{Bool, true, false}
use mathlib.Core.List.{List, [], ◌∷◌, ◌++◌}
use Prim.Native.Nat.{ℕ, zero, suc, ◌+◌, ◌*◌, ◌-◌, ◌<◌, ◌≤◌}
use native.Mathlib.Numerals.{add-one}
use native.Mathlib.Omega.{arith}
use lib.ListN.{length, take, drop, length-append}
use borrow.Rule.Slice.PartMut.{put_mid}
use Rattle.mrc_compiler.specs.Choose.{pick}
use Rattle.encode_spec.specs.Answer.{Answer, bytes, refused}
use Rattle.encode_spec.proofs.Outcomes.{Short}
use Rattle.encode_run.specs.Run.{empty_run}
use Rattle.encode_codes.specs.Emit.{emitted}
use Rattle.show_file.specs.declared.Header.{Header}
use Rattle.show_file.specs.declared.LoadError.{LoadError}
use Rattle.show_file.specs.declared.LoadError.TheVariants as E
use Rattle.show_file.specs.Show.{header, insn_at}
use Rattle.show_file.specs.Refusals.{number_of}
use Rattle.std.specs.Prelude.{Result, Ok}
use Rattle.mrc_compiler.specs.declared.encoder.EncodeError.{EncodeError}
use Rattle.encode_run.specs.declared.ByteRun.{ByteRun}
use Rattle.show_load.specs.Loading.{offset_behind, answer_at, bytes_of, walk, bytes_in, is_all, accepted}
use Rattle.base_values.proofs.Fronts.{Front, front_start, front_next, lent}
use Rattle.show_load.proofs.Laws.{Upto, upto_start, ran, step_all, answer_at_short}
use Rattle.text_line.specs.declared.Line.{Line}
use Rattle.text_line.specs.Numbers.{blank, line_feed, hex_word, hex_bytes, decimal}
use Rattle.text_line.specs.Steps.{line_length, empty_line, pushed, appended}
use Rattle.text_line.proofs.Laws.{then, byte, Holds, line_holds, hex_word_length, hex_bytes_length, decimal-length}
use Rattle.encode_form.specs.Ground.{ground}
use Rattle.text_form.specs.Lines.{most_ground}
use Rattle.text_form.proofs.Laws.{ground_length}
use Rattle.show_text.specs.Text.{first_line, line_of, record_of, refused_line, record_line, ground_at, record_text, lines_of, text_records, refused_ground, most_line, most_record}
use Rattle.show_text.specs.Forms.{form_at, question_of}
use Rattle.show_text.proofs.Grounds.{ground_accepted, ground_refused}

-- ---- the lines, part by part
pub line_made : {e o a n b s r : Line} (offset : ℕ) (bs : List ℕ) (size : ℕ) → size ≡ length bs
    → e ≡ empty_line → o ≡ appended e (hex_word offset) → a ≡ pushed o blank → n ≡ appended a (decimal size) → b ≡ pushed n blank → s ≡ appended b (hex_bytes bs)
    → r ≡ pushed s line_feed → r ≡ appended empty_line (line_of offset bs)
unfolding line_of
line_made {e} {o} {a} {n} {b} {s} {r} offset bs size hs he ho ha hn hb hx hr =
    let end = line_feed ∷ [] in
    let shown = blank ∷ hex_bytes bs ++ end in
    then empty_line (hex_word offset) (blank ∷ decimal (length bs) ++ shown) (rw he at ho)
    (byte o blank (decimal (length bs) ++ shown) ha
    (then a (decimal (length bs)) shown (rw hs at hn)
    (byte n blank (hex_bytes bs ++ end) hb
    (then b (hex_bytes bs) end hx hr))))

pub first_made : {e m v a o b n r : Line} (h : Header) → e ≡ empty_line → m ≡ appended e (0x46 ∷ 0x53 ∷ 0x51 ∷ blank ∷ [])
    → v ≡ appended m (decimal h.version) → a ≡ pushed v blank → o ≡ appended a (hex_word h.origin) → b ≡ pushed o blank → n ≡ appended b (decimal h.count)
    → r ≡ pushed n line_feed → r ≡ appended empty_line (first_line h)
unfolding first_line
first_made {e} {m} {v} {a} {o} {b} {n} {r} h he hm hv ha ho hb hn hr =
    let end = line_feed ∷ [] in
    let counted = blank ∷ decimal h.count ++ end in
    let placed = blank ∷ hex_word h.origin ++ counted in
    then empty_line (0x46 ∷ 0x53 ∷ 0x51 ∷ blank ∷ []) (decimal h.version ++ placed) (rw he at hm)
    (then m (decimal h.version) placed hv
    (byte v blank (hex_word h.origin ++ counted) ha
    (then a (hex_word h.origin) counted ho
    (byte o blank (decimal h.count ++ end) hb
    (then b (decimal h.count) end hn hr)))))

pub refused_made : {e w n a k r : Line} (x : LoadError) (number : ℕ) → number ≡ number_of x → e ≡ empty_line
    → w ≡ appended e (0x72 ∷ 0x65 ∷ 0x66 ∷ 0x75 ∷ 0x73 ∷ 0x65 ∷ 0x64 ∷ blank ∷ []) → n ≡ appended w (decimal number) → a ≡ pushed n blank
    → k ≡ appended a (record_of x) → r ≡ pushed k line_feed → r ≡ appended empty_line (refused_line x)
unfolding refused_line
refused_made {e} {w} {n} {a} {k} {r} x number hx he hw hn ha hk hr =
    let end = line_feed ∷ [] in
    let named = blank ∷ record_of x ++ end in
    then empty_line (0x72 ∷ 0x65 ∷ 0x66 ∷ 0x75 ∷ 0x73 ∷ 0x65 ∷ 0x64 ∷ blank ∷ []) (decimal (number_of x) ++ named) (rw he at hw)
    (then w (decimal (number_of x)) named (rw hx at hn)
    (byte n blank (record_of x ++ end) ha
    (then a (record_of x) end hk hr)))

-- ---- how long lines are
record_length : (e : LoadError) → length (record_of e) ≤ 5
record_length E.NoMark = omega arith
record_length E.WrongVersion = omega arith
record_length E.WrongLength = omega arith
record_length (E.UnknownCode k) = decimal-length k
record_length (E.Record k e) = decimal-length k

pub first_length : (h : Header) → length (first_line h) ≤ most_line
unfolding first_line
first_length h =
    let v = decimal-length h.version in
    let c = decimal-length h.count in
    let o = hex_word_length h.origin in
    rw (length-append (decimal h.version), length-append (hex_word h.origin), length-append (decimal h.count)) (omega arith)

pub refused_length : (e : LoadError) → length (refused_line e) ≤ most_line
unfolding refused_line
refused_length e =
    let n = decimal-length (number_of e) in
    let r = record_length e in
    rw (length-append (decimal (number_of e)), length-append (record_of e)) (omega arith)

line_length_lem : (offset : ℕ) (bs : List ℕ) → length bs ≤ 7 → length (line_of offset bs) ≤ most_line
unfolding line_of
line_length_lem offset bs h =
    let o = hex_word_length offset in
    let n = decimal-length (length bs) in
    let b = hex_bytes_length bs in
    rw (length-append (hex_word offset), length-append (decimal (length bs)), length-append (hex_bytes bs)) (omega arith)

pub first_holds : (line : Line) (h : Header) → line ≡ appended empty_line (first_line h) → Holds line (first_line h)
first_holds line h e = let l = first_length h in line_holds line (first_line h) (omega arith) e

-- ---- the refusal, with its ground
ground_at_length : (file : List ℕ) (origin k : ℕ) → length (ground_at file origin k) ≤ most_ground
unfolding ground_at
ground_at_length file origin k =
    ground_length (ground (insn_at file k) (offset_behind origin (length (bytes_in (walk file origin k))))) (insn_at file k)

refused_ground_length : (file : List ℕ) (e : LoadError) → length (refused_ground file e) ≤ most_ground
refused_ground_length file E.NoMark = omega arith
refused_ground_length file E.WrongVersion = omega arith
refused_ground_length file E.WrongLength = omega arith
refused_ground_length file (E.UnknownCode k) = omega arith
refused_ground_length file (E.Record k e) = ground_at_length file (header file).origin k

pick-length : (forms : Bool) (bs : List ℕ) → length bs ≤ most_ground → length (pick forms bs []) ≤ pick forms most_ground 0
pick-length true bs h = h
pick-length false bs h = omega arith

pub pick_most : (forms : Bool) → pick forms most_ground 0 ≤ most_ground
pick_most true = omega arith
pick_most false = omega arith

abbrev refused_text : Bool → List ℕ → LoadError → List ℕ
refused_text forms file e = refused_line e ++ pick forms (refused_ground file e) []

pub refused_text_length : (forms : Bool) (file : List ℕ) (e : LoadError) → length (refused_text forms file e) ≤ most_record forms
refused_text_length forms file e =
    let a = refused_length e in
    let b = pick-length forms (refused_ground file e) (refused_ground_length file e) in
    rw (length-append (refused_line e) (pick forms (refused_ground file e) [])) (omega arith)

-- by what the code appends
pub refused_holds : (forms : Bool) (file : List ℕ) (x : LoadError) → accepted text_records file ≡ Err x → {line text : Line} → line ≡ appended empty_line (refused_line x)
    → text ≡ appended line (pick forms (question_of file x) []) → Holds text (refused_text forms file x)
refused_holds forms file x q {line} {text} hl ht =
    let l = refused_text_length forms file x in
    let m = pick_most forms in
    line_holds text (refused_text forms file x) (omega arith)
    (then empty_line (refused_line x) (pick forms (refused_ground file x) []) hl (rw (← (ground_refused file x q)) at ht))

-- ---- the text of a record, which has at most seven bytes
record_short : (forms : Bool) (file : List ℕ) (origin k : ℕ) → length (record_text forms file origin k) ≤ most_record forms
unfolding record_text record_line
record_short forms file origin k =
    let at = length (bytes_in (walk file origin k)) in
    let l = line_length_lem (offset_behind origin at) (bytes_of (answer_at file origin k at)) (bytes_short (answer_at file origin k at) (answer_at_short file origin k at)) in
    let b = pick-length forms (ground_at file origin k) (ground_at_length file origin k) in
    rw (length-append (line_of (offset_behind origin at) (bytes_of (answer_at file origin k at))) (pick forms (ground_at file origin k) [])) (omega arith)
  where
    bytes_short : (a : Answer) → Short a → length (bytes_of a) ≤ 7
    bytes_short (bytes bs) h = h
    bytes_short (refused e) h = omega arith

lines_next : (forms : Bool) (file : List ℕ) (origin k : ℕ) → lines_of forms file origin (k + 1) ≡ lines_of forms file origin k ++ record_text forms file origin k
unfolding lines_of
lines_next forms file origin k = rw (add-one k) refl

one_more : (forms : Bool) (n : ℕ) → most_record forms * suc n ≡ most_record forms * n + most_record forms
one_more true n = omega arith
one_more false n = omega arith

room_for : (forms : Bool) (k n x y : ℕ) → k < n → x ≤ most_record forms * k → most_record forms * n ≤ y → x + most_record forms ≤ y
room_for true k n x y h a b = omega arith
room_for false k n x y h a b = omega arith

pub room_of : (forms : Bool) (n : ℕ) → n ≤ text_records → most_record forms * n ≤ most_record forms * text_records
room_of true n h = omega arith
room_of false n h = omega arith

pub lines_short : (forms : Bool) (file : List ℕ) (origin n : ℕ) → length (lines_of forms file origin n) ≤ most_record forms * n
unfolding lines_of
lines_short forms file origin zero = omega arith
lines_short forms file origin (suc n) =
    let l = record_short forms file origin n in
    let before = lines_short forms file origin n in
    rw (length-append (lines_of forms file origin n) (record_text forms file origin n), one_more forms n) (omega arith)

-- ---- the texts of the first k records stand at the front of out
pub record Lines (forms : Bool) (file : List ℕ) (origin k at to : ℕ) (out₀ out : List ℕ) : Type 0 where
  pub upto : Upto file origin k at
  pub ends : to ≡ length (lines_of forms file origin k)
  pub front : Front (lines_of forms file origin k) out₀ out

pub lines_start : (forms : Bool) (file : List ℕ) (origin : ℕ) (out : List ℕ) → Lines forms file origin 0 0 0 out out
unfolding lines_of
lines_start forms file origin out = record { upto = upto_start file origin; ends = refl; front = front_start out }

-- and the next has room
pub lines_in : (forms : Bool) (file : List ℕ) (origin k at to : ℕ) (out₀ out : List ℕ) → Lines forms file origin k at to out₀ out → (n : ℕ) → k < n
    → most_record forms * n ≤ length out₀ → to + most_record forms ≤ length out
lines_in forms file origin k at to out₀ out s n h room =
    let l = room_for forms k n (length (lines_of forms file origin k)) (length out₀) h (lines_short forms file origin k) room in
    let b = s.front.same in
    omega (arith, s.ends)

module _ (forms : Bool) (file : List ℕ) (origin k at to : ℕ) (out₀ out : List ℕ) (s : Lines forms file origin k at to out₀ out) {d : Result ByteRun EncodeError}
    (hd : d ≡ emitted empty_run (answer_at file origin k at)) {run : ByteRun} (hr : d ≡ Ok run) (n : ℕ) (t : is_all (walk file origin n) ≡ true) (h : k < n) {line text : Line}
    (hl : line ≡ appended empty_line (line_of (offset_behind origin at) (take run.len run.bytes))) (ht : text ≡ appended line (pick forms (form_at file k run.bytes) [])) where
  holds_record : Holds text (record_text forms file origin k)
  unfolding record_text record_line
  holds_record =
      let e : line_of (offset_behind origin at) (take run.len run.bytes) ≡ record_line file origin k = rw ((ran file origin k at hd hr).shown, s.upto.ends) refl in
      let r = record_short forms file origin k in
      let m = pick_most forms in
      line_holds text (record_text forms file origin k) (omega arith)
      (then empty_line (record_line file origin k) (pick forms (ground_at file origin k) []) (rw e at hl)
      (rw (← (ground_accepted file origin k at s.upto _ hd hr n t h)) at ht))

  pub text_short : text.len ≤ most_record forms
  text_short = let r = record_short forms file origin k in let c = holds_record.count in omega arith

  pub text_in_line : text.len ≤ line_length
  text_in_line = let t = text_short in let m = pick_most forms in omega arith

  -- where all n records are accepted, and their texts have room
  pub lines_more : most_record forms * n ≤ length out₀ → (last : List ℕ) (m : ℕ) → m ≡ text.len
      → last ≡ take text.len text.bytes ++ drop text.len (lent out to)
      → Lines forms file origin (k + 1) (at + run.len) (to + m) out₀ (put_mid to (length out - to) out last)
  lines_more room last m hm e =
      let q = rw (holds_record.shown, holds_record.count) at e in
      let r = lines_in forms file origin k at to out₀ out s n h room in
      let b = s.front.same in
      let c = holds_record.count in
      let l = text_short in
      record {
        upto = rw (ran file origin k at hd hr).count (step_all file origin k at s.upto n t h).upto;
        ends = rw (lines_next forms file origin k, length-append (lines_of forms file origin k) (record_text forms file origin k)) (omega (arith, s.ends));
        front = rw (lines_next forms file origin k) (front_next (lines_of forms file origin k) (record_text forms file origin k) out₀ out last to s.front s.ends (omega arith) q);
      }
