-- Rows of the list and of its text: places and numbers are those of ndisasm's list (tests/short), and what is no instruction of one or two bytes is document 01's and 02's.
-- Assumes nothing.
use mathlib.Core.Path.{◌≡◌, refl, sym, ◌∙◌}
use mathlib.Core.Bool.{true}
use mathlib.Core.List.{List, [], ◌∷◌, ◌++◌, append_assoc, append-nil}
use Prim.Native.Nat.{ℕ, ◌+◌, ◌*◌, ◌<◌, ◌≤◌}
use native.Mathlib.Omega.{arith}
use lib.ListN.{length, get_or, length-append, get_or-append}
use lib.Seq.{get_or_at}
use Rattle.mrc_compiler.specs.Operations.{number_of, is_string}
use Rattle.x86.specs.Forms.{forms}
use Rattle.x86.specs.Reading.{starting_with, read_form, prefix, read_plain, is_repeat, repeats, reads}
use Rattle.x86.specs.Listing.{Among}
use Rattle.text_line.specs.Numbers.{hex_byte, digit_from, decimal}
use Rattle.std.specs.Prelude.{Ok, Err}
use Rattle.short_list.specs.Short.{strings, reads_whole, short_of, short_strings}
use Rattle.short_list.specs.Text.{lines_of, count_line, short_text, written}
use Rattle.short_list.proofs.Laws.{next, lines_append, grown}
use Rattle.short_list.proofs.ByNdisasm.{twos}
use Rattle.short_list.proofs.Counts.{counted, summed, of_one, how_many_of_one, two_at, before_string, count_is, text_is}
use Rattle.short_list.proofs.Complete.{not_whole, all_short}

-- ---- which string stands at a place, from 0
abbrev At : ℕ → List ℕ → Type 0
At i s = get_or short_strings i [] ≡ s

one : (i : ℕ) → i < 89 → get_or short_strings i [] ≡ get_or (short_of 256) i []
one i h =
    let g = grown 256 strings (omega arith) in
    let l = how_many_of_one in
    rw g.is (get_or-append (short_of 256) g.behind [] i (omega arith))

two : (c x i : ℕ) → c < 256 → x < 256 → reads_whole (c ∷ x ∷ []) ≡ true → 89 + summed twos c + counted (λ x. reads_whole (c ∷ x ∷ [])) x ≡ i
    → At i (c ∷ x ∷ [])
two c x i hc hx e h =
    let k = (256 + 256 * c) + x in
    let n : short_of (k + 1) ≡ short_of k ++ ((c ∷ x ∷ []) ∷ []) = rw (next k, two_at c x hx, e) refl in
    let l : length (short_of k) ≡ i = before_string c x hc (omega arith) ∙ h in
    let g = grown (k + 1) strings (omega arith) in
    let m : i < length (short_of (k + 1)) = rw (n, length-append (short_of k) ((c ∷ x ∷ []) ∷ [])) (omega arith) in
    rw g.is (get_or-append (short_of (k + 1)) g.behind [] i m ∙ rw n (get_or_at (short_of k) (c ∷ x ∷ []) [] [] i l))

pub record Places : Type 0 where
  pub push_es : At 0 (0x06 ∷ [])
  pub pop_es : At 1 (0x07 ∷ [])
  pub push_cs : At 2 (0x0E ∷ [])
  pub nop : At 43 (0x90 ∷ [])
  pub lock : At 78 (0xF0 ∷ [])
  pub repne : At 79 (0xF2 ∷ [])
  pub rep : At 80 (0xF3 ∷ [])
  pub std : At 88 (0xFD ∷ [])  -- the last of one byte
  pub add : At 89 (0x00 ∷ 0x00 ∷ [])
  pub xlatb_es : At 3769 (0x26 ∷ 0xD7 ∷ [])
  pub aam : At 14305 (0xD4 ∷ 0x0A ∷ [])
  pub repne_movsb : At 16611 (0xF2 ∷ 0xA4 ∷ [])
  pub rep_movsb : At 16621 (0xF3 ∷ 0xA4 ∷ [])
  pub rep_scasw : At 16630 (0xF3 ∷ 0xAF ∷ [])
  pub push_di : At 16922 (0xFF ∷ 0xF7 ∷ [])  -- the last
  pub none_behind : length short_strings ≡ 16923

pub places : Places
unfolding counted summed reads_whole reads read_plain repeats is_repeat prefix read_form starting_with forms is_string number_of
places = record {
  push_es = one 0 (omega arith) ∙ rw of_one refl;
  pop_es = one 1 (omega arith) ∙ rw of_one refl;
  push_cs = one 2 (omega arith) ∙ rw of_one refl;
  nop = one 43 (omega arith) ∙ rw of_one refl;
  lock = one 78 (omega arith) ∙ rw of_one refl;
  repne = one 79 (omega arith) ∙ rw of_one refl;
  rep = one 80 (omega arith) ∙ rw of_one refl;
  std = one 88 (omega arith) ∙ rw of_one refl;
  add = two 0x00 0x00 89 (omega arith) (omega arith) refl refl;
  xlatb_es = two 0x26 0xD7 3769 (omega arith) (omega arith) refl refl;
  aam = two 0xD4 0x0A 14305 (omega arith) (omega arith) refl refl;
  repne_movsb = two 0xF2 0xA4 16611 (omega arith) (omega arith) refl refl;
  rep_movsb = two 0xF3 0xA4 16621 (omega arith) (omega arith) refl refl;
  rep_scasw = two 0xF3 0xAF 16630 (omega arith) (omega arith) refl refl;
  push_di = two 0xFF 0xF7 16922 (omega arith) (omega arith) refl refl;
  none_behind = count_is;
}

-- ---- what stands nowhere
abbrev Nowhere : List ℕ → Type 0
Nowhere s = Among s short_strings → ⊥

pub record Missing : Type 0 where
  pub no_bytes : Nowhere []
  -- what only begins an instruction
  pub segment_prefix : Nowhere (0x26 ∷ [])
  pub mov : Nowhere (0x8B ∷ [])
  pub mov_ax : Nowhere (0xB8 ∷ 0x34 ∷ [])
  pub direct_address : Nowhere (0x00 ∷ 0x06 ∷ [])
  pub displacement : Nowhere (0x8B ∷ 0x47 ∷ [])
  -- more than one
  pub two_nops : Nowhere (0x90 ∷ 0x90 ∷ [])
  pub rep_nop : Nowhere (0xF3 ∷ 0x90 ∷ [])
  pub rep_rep : Nowhere (0xF3 ∷ 0xF3 ∷ [])
  pub lock_movsb : Nowhere (0xF0 ∷ 0xA4 ∷ [])
  -- none
  pub later_opcode : Nowhere (0x0F ∷ [])
  pub int1 : Nowhere (0xF1 ∷ [])
  pub prefix_before_nop : Nowhere (0x26 ∷ 0x90 ∷ [])
  pub prefix_before_movsb : Nowhere (0x26 ∷ 0xA4 ∷ [])
  pub mov_cs : Nowhere (0x8E ∷ 0xC8 ∷ [])
  pub other_base : Nowhere (0xD4 ∷ 0x00 ∷ [])
  pub call_far_register : Nowhere (0xFF ∷ 0xD8 ∷ [])
  pub last_of_all : Nowhere (0xFF ∷ 0xFF ∷ [])
  -- one of three bytes
  pub mov_ax_4660 : Nowhere (0xB8 ∷ 0x34 ∷ 0x12 ∷ [])

pub missing : Missing
unfolding reads_whole reads read_plain repeats is_repeat prefix read_form starting_with forms is_string number_of
missing = record {
  no_bytes = not_whole [] refl;
  segment_prefix = not_whole (0x26 ∷ []) refl;
  mov = not_whole (0x8B ∷ []) refl;
  mov_ax = not_whole (0xB8 ∷ 0x34 ∷ []) refl;
  direct_address = not_whole (0x00 ∷ 0x06 ∷ []) refl;
  displacement = not_whole (0x8B ∷ 0x47 ∷ []) refl;
  two_nops = not_whole (0x90 ∷ 0x90 ∷ []) refl;
  rep_nop = not_whole (0xF3 ∷ 0x90 ∷ []) refl;
  rep_rep = not_whole (0xF3 ∷ 0xF3 ∷ []) refl;
  lock_movsb = not_whole (0xF0 ∷ 0xA4 ∷ []) refl;
  later_opcode = not_whole (0x0F ∷ []) refl;
  int1 = not_whole (0xF1 ∷ []) refl;
  prefix_before_nop = not_whole (0x26 ∷ 0x90 ∷ []) refl;
  prefix_before_movsb = not_whole (0x26 ∷ 0xA4 ∷ []) refl;
  mov_cs = not_whole (0x8E ∷ 0xC8 ∷ []) refl;
  other_base = not_whole (0xD4 ∷ 0x00 ∷ []) refl;
  call_far_register = not_whole (0xFF ∷ 0xD8 ∷ []) refl;
  last_of_all = not_whole (0xFF ∷ 0xFF ∷ []) refl;
  mov_ax_4660 = λ a. absurd (omega (arith, (all_short.none_beside (0xB8 ∷ 0x34 ∷ 0x12 ∷ []) a).short));
}

-- ---- the text, and a slice on both sides of its length
pub record Texts : Type 0 where
  -- "06", "07", "0E", "16"
  pub begins : (rest : List ℕ) × (short_text ≡ 0x30 ∷ 0x36 ∷ 0x0A ∷ 0x30 ∷ 0x37 ∷ 0x0A ∷ 0x30 ∷ 0x45 ∷ 0x0A ∷ 0x31 ∷ 0x36 ∷ 0x0A ∷ rest)
  -- "FFF7", "16923"
  pub ends : (front : List ℕ) × (short_text ≡ front ++ (0x46 ∷ 0x46 ∷ 0x46 ∷ 0x37 ∷ 0x0A ∷ 0x31 ∷ 0x36 ∷ 0x39 ∷ 0x32 ∷ 0x33 ∷ 0x0A ∷ []))
  pub long : length short_text ≡ 84443
  pub fits : written 84443 ≡ Ok 84443
  pub fits_not : written 84442 ≡ Err (record {})

first_four : short_of 0x17 ≡ (0x06 ∷ []) ∷ (0x07 ∷ []) ∷ (0x0E ∷ []) ∷ (0x16 ∷ []) ∷ []
unfolding short_of reads_whole reads read_plain repeats is_repeat prefix read_form starting_with forms is_string number_of
first_four = refl

-- the text begins with the lines of the first strings
begun : (k : ℕ) → k ≤ strings → (rest : List ℕ) × (short_text ≡ lines_of (short_of k) ++ rest)
unfolding short_text
begun k h =
    let g = grown k strings h in
    let e : lines_of short_strings ≡ lines_of (short_of k) ++ lines_of g.behind = rw g.is (lines_append (short_of k) g.behind) in
    (lines_of g.behind ++ count_line (length short_strings), rw e (append_assoc (lines_of (short_of k)) (lines_of g.behind) (count_line (length short_strings))))

no_more : (l : List (List ℕ)) → length l ≡ 0 → l ≡ []
no_more [] e = refl
no_more (s ∷ l) e = absurd (omega arith)

-- where none is left, those that are there are all
all_there : (k : ℕ) → k ≤ strings → length (short_of k) ≡ length short_strings → short_strings ≡ short_of k
all_there k h e =
    let g = grown k strings h in
    let l : length short_strings ≡ length (short_of k) + length g.behind = rw g.is (length-append (short_of k) g.behind) in
    g.is ∙ rw (no_more g.behind (omega arith)) (append-nil (short_of k))

-- FF F7 is string 256 + FFF7
last_one : short_strings ≡ short_of 65783 ++ ((0xFF ∷ 0xF7 ∷ []) ∷ [])
unfolding counted summed reads_whole reads read_plain repeats is_repeat prefix read_form starting_with forms is_string number_of
last_one =
    let n : short_of 65784 ≡ short_of 65783 ++ ((0xFF ∷ 0xF7 ∷ []) ∷ []) = next 65783 in
    let l : length (short_of 65783) ≡ 16922 = before_string 0xFF 0xF7 (omega arith) (omega arith) in
    let m : length (short_of 65784) ≡ 16923 = rw (n, length-append (short_of 65783) ((0xFF ∷ 0xF7 ∷ []) ∷ []), l) refl in
    all_there 65784 (omega arith) (m ∙ sym count_is) ∙ n

pub texts : Texts
unfolding short_text written hex_byte decimal digit_from
texts = record {
  begins = let (rest, e) = begun 0x17 (omega arith) in (rest, rw first_four at e);
  ends = (
    lines_of (short_of 65783),
    rw (last_one, lines_append (short_of 65783) ((0xFF ∷ 0xF7 ∷ []) ∷ []), ← last_one, count_is)
        (append_assoc (lines_of (short_of 65783)) _ _),
  );
  long = text_is;
  fits = rw text_is refl;
  fits_not = rw text_is refl;
}
