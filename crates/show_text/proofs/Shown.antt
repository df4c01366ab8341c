-- What a show that is accepted prints, and that no file is refused with 9.
-- Assumes nothing.
use Rattle.std.specs.Prelude.{Err, Ok, Result}
use mathlib.Core.Path.{◌≡◌, refl, ◌∙◌}
use mathlib.Core.Bool.{Bool, true, false}
use mathlib.Core.List.{List, ◌++◌}
use Prim.Native.Nat.{ℕ, zero, suc, ◌+◌, ◌*◌, ◌-◌, ◌≤◌}
use native.Mathlib.Omega.{arith}
use lib.Dec.{ltb, leb}
use lib.ListN.{length, take, drop, length-append}
use borrow.Author.Tests.{le-leb, leb-true}
use borrow.Rule.Slice.PartMut.{put_mid}
use Rattle.mrc_compiler.specs.Choose.{pick}
use Rattle.mrc_compiler.specs.Refusals.{report_of}
use Rattle.encode_spec.specs.Answer.{Answer, bytes, refused}
use Rattle.encode_spec.proofs.Outcomes.{number_in, answer_not_nine}
use Rattle.show_file.specs.declared.Header.{Header}
use Rattle.show_file.specs.declared.LoadError.{LoadError}
use Rattle.show_file.specs.declared.LoadError.TheVariants as E
use Rattle.show_file.specs.Show.{header, insn_at, first_unknown}
use Rattle.show_file.proofs.Opening.{by_opening}
use Rattle.show_file.specs.Refusals.{number_of}
use Rattle.show_load.specs.Loading.{Walk, all, stopped, offset_behind, answer_at, followed, further, walk, measured, show_accepted, accepted_by, accepted, fitted}
use Rattle.base_values.proofs.Fronts.{Front, front_is, front_next, lent, lent_length}
use Rattle.show_load.proofs.Laws.{accepted_image, within_seven}
use Rattle.text_line.specs.declared.Line.{Line}
use Rattle.text_line.specs.Steps.{line_length, empty_line, appended}
use Rattle.show_text.specs.Text.{first_line, lines_of, text_records, image_length, show_text, text_by, text, most_record, most_text, listed}
use Rattle.text_line.specs.declared.TooShort.{TooShort}
use Rattle.show_text.proofs.Laws.{first_length, first_holds, refused_text_length, lines_short, room_of}

-- ---- an image of 7,000 bytes holds every show that is printed: a record has at most seven
abbrev taken : List ℕ → Result (Header × ℕ) LoadError
taken file = accepted text_records file

pub all_fit : (file : List ℕ) → fitted file image_length (taken file) ≡ taken file
all_fit file = go (taken file) refl
  where
    go : (l : Result (Header × ℕ) LoadError) → taken file ≡ l → fitted file image_length l ≡ l
    go (Err e) q = refl
    go (Ok (h, n)) q =
        let x = accepted_image text_records file h n q in
        let w = within_seven file h.origin h.count in
        let few = x.exact.its_limit in
        let e = x.size in
        rw (le-leb n image_length (omega arith))

pub text_is : (forms : Bool) (file : List ℕ) (l : Result (Header × ℕ) LoadError) → taken file ≡ l → text forms file ≡ text_by forms file l
unfolding text
text_is forms file l e = rw (all_fit file, e) refl

-- ---- no text is longer than MOST_TEXT, or MOST_FORMS
module _ (forms : Bool) (file : List ℕ) where
  text_most : length (text forms file) ≤ most_text forms
  unfolding show_text
  text_most = go (taken file) refl
    where
      go : (l : Result (Header × ℕ) LoadError) → taken file ≡ l → length (text forms file) ≤ most_text forms
      go (Err e) q = let a = refused_text_length forms file e in rw (text_is forms file (Err e) q) (omega arith)
      go (Ok (h, n)) q =
          let few = room_of forms h.count (accepted_image text_records file h n q).exact.its_limit in
          let a = first_length h in
          let b = lines_short forms file h.origin h.count in
          rw (text_is forms file (Ok (h, n)) q, length-append (first_line h) (lines_of forms file h.origin h.count)) (omega arith)

  -- and it fits where a length is answered
  pub listed_fits : (size n : ℕ) → listed forms file size ≡ Ok n → n ≤ size
  unfolding listed
  listed_fits size n = go (leb (most_text forms) size) refl
    where
      go : (t : Bool) → leb (most_text forms) size ≡ t → pick {A = Result ℕ TooShort} t (Ok (length (text forms file))) (Err (record {})) ≡ Ok n → n ≤ size
      go true h e =
          let q : length (text forms file) ≡ n = cc in
          let m = text_most in
          let l = leb-true (most_text forms) size h in
          omega arith
      go false h e = let z : ◌≡◌ {A = ℕ} 0 1 = cc in absurd (omega arith)

-- ---- the first line, and the others behind it
module _ (forms : Bool) (file : List ℕ) (h : Header) (few : h.count ≤ text_records) (out₀ : List ℕ) (room : most_text forms ≤ length out₀) (line : Line)
    (hl : line ≡ appended empty_line (first_line h)) where
  abbrev lines : List ℕ
  lines = lines_of forms file h.origin h.count

  pub first_fits : (line.len ≤ line_length) × (line.len ≤ length out₀)
  first_fits = let a = first_length h in let b = (first_holds line h hl).count in (omega arith, omega arith)

  module _ (out : List ℕ) (to : ℕ) (ht : to ≡ line.len) (ho : out ≡ take line.len line.bytes ++ drop line.len out₀) where
    to_is : to ≡ length (first_line h)
    to_is = ht ∙ (first_holds line h hl).count

    front : Front (first_line h) out₀ out
    front =
        let f = first_holds line h hl in
        let a = first_length h in
        front_is (first_line h) out₀ out (omega arith) (rw (f.shown, f.count) at ho)

    pub first_in : (to ≤ length out) × (most_record forms * h.count ≤ length (lent out to)) × (to + length lines ≤ most_text forms)
    first_in =
        let a = first_length h in
        let b = to_is in
        let c = front.same in
        let d = lent_length out to in
        let e = lines_short forms file h.origin h.count in
        let f = room_of forms h.count few in
        (omega arith, omega arith, omega arith)

    pub whole_is : (last : List ℕ) (m : ℕ) → m ≡ length lines → last ≡ lines ++ drop (length lines) (lent out to)
        → (to + m ≡ length (show_text forms file h)) × (put_mid to (length out - to) out last ≡ show_text forms file h ++ drop (length (show_text forms file h)) out₀)
    unfolding show_text
    whole_is last m hm e =
        let i = first_in.2 in
        (rw (length-append (first_line h) lines, to_is, hm) refl, (front_next (first_line h) lines out₀ out last to front to_is (omega arith) e).is)

-- ---- refusal 9 is never printed
abbrev number_on : Walk → ℕ
number_on (all bs) = 0
number_on (stopped k e) = (report_of e).number

followed_not : (k : ℕ) (bs : List ℕ) (a : Answer) → (number_in a ≡ 9 → ⊥) → number_on (followed k bs a) ≡ 9 → ⊥
followed_not k bs (bytes cs) h = λ q. omega arith
followed_not k bs (refused e) h = h

further_not : (file : List ℕ) (origin k : ℕ) (w : Walk) → (number_on w ≡ 9 → ⊥) → number_on (further file origin k w) ≡ 9 → ⊥
further_not file origin k (all bs) h = followed_not k bs (answer_at file origin k (length bs)) (answer_not_nine (insn_at file k) (offset_behind origin (length bs)))
further_not file origin k (stopped i e) h = h

walk_not : (file : List ℕ) (origin n : ℕ) → number_on (walk file origin n) ≡ 9 → ⊥
unfolding walk
walk_not file origin zero = λ q. omega arith
walk_not file origin (suc n) = further_not file origin n (walk file origin n) (walk_not file origin n)

abbrev NotNine : Result (Header × ℕ) LoadError → Type 0
NotNine (Ok (h, n)) = Unit {0}
NotNine (Err e) = number_of e ≡ 9 → ⊥

measured_not : (h : Header) (w : Walk) → (number_on w ≡ 9 → ⊥) → NotNine (measured h w)
measured_not h (stopped k e) b = b
measured_not h (all bs) b = tt

show_not : (file : List ℕ) (h : Header) → NotNine (show_accepted file h)
unfolding show_accepted
show_not file h = go (ltb (first_unknown file h.count) h.count)
  where
    go : (b : Bool) → NotNine (pick b (Err (E.UnknownCode (first_unknown file h.count))) (measured h (walk file h.origin h.count)))
    go true = λ q. omega arith
    go false = measured_not h (walk file h.origin h.count) (walk_not file h.origin h.count)

-- a file that does not open is refused with 12, 13 or 14
accepted_not : (file : List ℕ) → NotNine (taken file)
accepted_not file =
    by_opening text_records file (λ o. NotNine (accepted_by file o)) (λ q. omega arith) (λ q. omega arith) (λ q. omega arith) (λ x. show_not file (header file))

pub never_nine : (file : List ℕ) (e : LoadError) → taken file ≡ Err e → number_of e ≡ 9 → ⊥
never_nine file e q = let n = accepted_not file in rw q at n
