-- The laws that the compiler's functions rest on: a record placed behind others, the four of a cue, the cues one after the other.
-- Assumes nothing.
use Rattle.std.specs.Prelude.{Err, Ok, Result, ℕ}
use mathlib.Core.Path.{◌≡◌, refl, sym, ap, ◌∙◌}
use mathlib.Core.Bool.{Bool, true, false}
use mathlib.Core.List.{List, [], ◌∷◌, ◌++◌, append-nil, append_assoc}
use Prim.Native.Nat.{ℕ, ◌+◌, ◌*◌, ◌-◌, ◌/◌, ◌%◌, ◌<◌, ◌≤◌}
use native.Mathlib.Omega.{arith}
use lib.Dec.{eqb, leb}
use lib.ListN.{length, take, drop, length-append, length-drop, take-append-drop, drop_of_length-le}
use lib.Seq.{length-take-le, take_at, take_all, drop-drop, drop-append-add}
use borrow.Author.Tests.{leb-true, le-leb, lt-leb, eqb-true, eq-eqb, ne_eqb}
use borrow.Rule.Slice.PartMut.{put_mid}
use Rattle.mrc_compiler.specs.declared.ast.Span.{Span}
use Rattle.mrc_compiler.specs.declared.encoder.EncodeError.{EncodeError}
use Rattle.mrc_compiler.specs.declared.encoder.InstructionData.{InstructionData}
use Rattle.mrc_compiler.specs.Choose.{either}
use Rattle.base_values.proofs.Fronts.{lent}
use Rattle.x86.specs.Listing.{Bytes}
use Rattle.encode_spec.specs.Answer.{Answer, bytes, refused, answer, outcome, slice_after}
use Rattle.encode_spec.proofs.Values.{both_true}
use Rattle.cue_compile.specs.declared.Cue.{Cue}
use Rattle.cue_compile.specs.declared.CueError.{CueError}
use Rattle.cue_compile.specs.declared.CueError.TheVariants as E
use Rattle.cue_compile.specs.Cues.{cue_at, cues_in, is_cue_list, some_without}
use Rattle.cue_compile.specs.Program.{move_delay, loop_to, move_mask, output, halt, of_cue, program, given, assembled, image_of}
use Rattle.cue_compile.specs.Compiling.{compiled, image_after}
use Rattle.cue_compile.proofs.Bytes.{Sound, cue_bytes, delay_is, loop_is, mask_is, output_is, halt_is, next_is, cue_is, length_is, all_sound}

-- ---- the part of the image from `at` on, as it is lent
lent_is : (image : List ℕ) (at : ℕ) → lent image at ≡ drop at image
lent_is image at = take_all (length image - at) (drop at image) (rw (length-drop at image) (omega arith))

-- what is put there, seen in the whole image
put_is : (image last : List ℕ) (at : ℕ) → put_mid at (length image - at) image last ≡ take at image ++ last
put_is image last at =
    let n : drop (length image - at) (drop at image) ≡ [] = drop_of_length-le (drop at image) {i = length image - at} (rw (length-drop at image) (omega arith)) in
    rw (n, append-nil last) refl

-- ---- place: what encode answers and leaves, where the bytes fit
pub record Placed (a : Answer) (at : ℕ) (image last : List ℕ) (n : ℕ) : Type 0 where
  pub ends : n ≡ at + length (given a)
  pub image_is : put_mid at (length image - at) image last ≡ take at image ++ (given a ++ drop (at + length (given a)) image)

module _ (span : Span) (at : ℕ) (image : List ℕ) where
  fits_is : (bs : List ℕ) → at + length bs ≤ length image → leb (length bs) (length (lent image at)) ≡ true
  fits_is bs h = le-leb (length bs) (length (lent image at)) (rw (lent_is image at, length-drop at image) (omega arith))

  last_is : (bs last : List ℕ) → at + length bs ≤ length image → last ≡ slice_after (bytes bs) (lent image at)
      → put_mid at (length image - at) image last ≡ take at image ++ (bs ++ drop (at + length bs) image)
  last_is bs last h e =
      let d : drop (length bs) (lent image at) ≡ drop (at + length bs) image = rw (lent_is image at) (drop-drop (length bs) at image) in
      let l : last ≡ bs ++ drop (at + length bs) image = e ∙ rw (fits_is bs h, d) refl in
      rw l (put_is image (bs ++ drop (at + length bs) image) at)

  pub placed_length : (a : Answer) → at + length (given a) ≤ length image → (r : Result ℕ EncodeError) → r ≡ outcome a span (lent image at) → (n : ℕ) → r ≡ Ok n
      → (last : List ℕ) → last ≡ slice_after a (lent image at) → Placed a at image last (at + n)
  placed_length (bytes bs) h r q n l last e =
      let t : Ok n ≡ Ok (length bs) = sym l ∙ q ∙ rw (fits_is bs h) refl in
      let m : n ≡ length bs = cc in
      record { ends = rw m refl; image_is = last_is bs last h e }
  placed_length (refused x) h r q n l last e = let z : ◌≡◌ {A = ℕ} 0 1 = cc in absurd (omega arith)

  pub placed_refused : (a : Answer) → at + length (given a) ≤ length image → (r : Result ℕ EncodeError) → r ≡ outcome a span (lent image at) → (x : EncodeError) → r ≡ Err x
      → (last : List ℕ) → last ≡ slice_after a (lent image at) → Placed a at image last at
  placed_refused (bytes bs) h r q x l last e =
      let t : Err x ≡ Ok (length bs) = sym l ∙ q ∙ rw (fits_is bs h) refl in
      let z : ◌≡◌ {A = ℕ} 0 1 = cc in
      absurd (omega arith)
  placed_refused (refused y) h r q x l last e =
      let z : at + 0 ≡ at = omega arith in
      record {
        ends = omega arith;
        image_is = rw (e, lent_is image at, z) (put_is image (drop at image) at);
      }

-- ---- bytes laid one behind the other: P stands at the front, and behind it what the slice s held
pub record Laid (s P : List ℕ) (at : ℕ) (image : List ℕ) : Type 0 where
  pub long : at ≡ length P
  pub is : image ≡ P ++ drop at s

pub laid_length : (s P : List ℕ) (at : ℕ) (image : List ℕ) → Laid s P at image → at ≤ length s → length image ≡ length s
laid_length s P at image l h = let a = l.long in rw (l.is, length-append P (drop at s), length-drop at s) (omega arith)

module _ (s P : List ℕ) (at : ℕ) (image : List ℕ) (l : Laid s P at image) where
  pub lay : (bs : List ℕ) (n : ℕ) → n ≡ at + length bs → (after : List ℕ) → after ≡ take at image ++ (bs ++ drop (at + length bs) image) → Laid s (P ++ bs) n after
  lay bs n en after ea =
      let a = l.long in
      let t : take at image ≡ P = rw l.is (take_at P (drop at s) at (sym a)) in
      let d : drop (at + length bs) image ≡ drop (at + length bs) s = rw (l.is, a) (drop-append-add P (drop (length P) s) (length bs) ∙ drop-drop (length bs) (length P) s) in
      record {
        long = en ∙ rw (length-append P bs, ← a) refl;
        is = ea ∙ rw (t, d, en) (sym (append_assoc P bs (drop (at + length bs) s)));
      }

  -- a record's bytes
  module _ (insn r : InstructionData) (same : insn ≡ r) (bs : List ℕ) (e : answer r at ≡ bytes bs) where
    its_are : given (answer insn at) ≡ bs
    its_are = rw (same, e) refl

    pub room_for : at < 65536 → at + length bs ≤ length s → (at < 65536) × (at + length (given (answer insn at)) ≤ length image)
    room_for h k = let n = laid_length s P at image l (omega arith) in rw its_are (h, omega arith)

    pub ends_at : (n : ℕ) → n ≡ at + length (given (answer insn at)) → n ≡ at + length bs
    ends_at n en = rw its_are at en

    pub lay_record : (n : ℕ) → n ≡ at + length (given (answer insn at)) → (after : List ℕ)
        → after ≡ take at image ++ (given (answer insn at) ++ drop (at + length (given (answer insn at))) image) → Laid s (P ++ bs) n after
    lay_record n en after ea = lay bs n (rw its_are at en) after (rw its_are at ea)

-- the slice as it is lent
pub laid_at : (s : List ℕ) (at : ℕ) → at ≤ length s → Laid s (take at s) at s
laid_at s at h = record { long = sym (length-take-le at s h); is = sym (take-append-drop at s) }

-- ---- a cue
pub cue_bytes_lem : (c : Cue) → Sound c → (at : ℕ) → assembled at (of_cue c) ≡ cue_bytes c
unfolding assembled
cue_bytes_lem c s at =
    let d = delay_is c.delay at s.delay_fits in
    let l = loop_is (at + 3) in
    let m = mask_is c.mask (at + 3 + 2) s.mask_fits in
    let p = output_is c.port (at + 3 + 2 + 2) s.port_fits in
    rw (d, l, m, p) refl

pub cue_laid : (s : List ℕ) (c : Cue) → Sound c → (at n : ℕ) → n ≡ at + 9 → (after : List ℕ)
    → Laid s (take at s ++ (0xB9 ∷ c.delay % 256 ∷ c.delay / 256 ∷ []) ++ (0xE2 ∷ 0xFE ∷ []) ++ (0xB0 ∷ c.mask ∷ []) ++ (0xE6 ∷ c.port ∷ [])) n after
    → (n ≡ at + 9) × (after ≡ take at s ++ (assembled at (of_cue c) ++ drop (at + 9) s))
cue_laid s c sound at n e after l = (e, rw (cue_bytes_lem c sound at) (l.is ∙ rw e (simp append_assoc)))

-- ---- the four records of a cue, each where the last one ended
module _ (s : List ℕ) (q : Cue) (k : Sound q) (at : ℕ) (h : (at + 9 < 65536) × (at + 9 ≤ length s)) (move : InstructionData) (em : move ≡ move_delay q.delay) where
  abbrev moved : List ℕ
  moved = 0xB9 ∷ q.delay % 256 ∷ q.delay / 256 ∷ []

  laid_0 : Laid s (take at s) at s
  laid_0 = let l = h.1 in laid_at s at (omega arith)

  pub fits_1 : (at < 65536) × (at + length (given (answer move at)) ≤ length s)
  fits_1 =
      let (b, l) = h in
      room_for s (take at s) at s laid_0 move (move_delay q.delay) em moved (delay_is q.delay at k.delay_fits) (omega arith) (omega arith)

  module _ (a : ℕ) (ea : a ≡ at + length (given (answer move at))) where
    pub ends_1 : a ≡ at + 3
    ends_1 = ends_at s (take at s) at s laid_0 move (move_delay q.delay) em moved (delay_is q.delay at k.delay_fits) a ea

    module _ (t : List ℕ) (et : t ≡ take at s ++ (given (answer move at) ++ drop (at + length (given (answer move at))) s)) (loop : InstructionData) (el : loop ≡ loop_to a) where
      laid_1 : Laid s (take at s ++ moved) a t
      laid_1 = lay_record s (take at s) at s laid_0 move (move_delay q.delay) em moved (delay_is q.delay at k.delay_fits) a ea t et

      pub fits_2 : (a < 65536) × (a + length (given (answer loop a)) ≤ length t)
      fits_2 =
          let (b, l) = h in
          let e = ends_1 in
          room_for s (take at s ++ moved) a t laid_1 loop (loop_to a) el (0xE2 ∷ 0xFE ∷ []) (loop_is a) (omega arith) (omega arith)

      module _ (b : ℕ) (eb : b ≡ a + length (given (answer loop a))) (u : List ℕ) (eu : u ≡ take a t ++ (given (answer loop a) ++ drop (a + length (given (answer loop a))) t))
          (mask : InstructionData) (ek : mask ≡ move_mask q.mask) where
        ends_2 : b ≡ at + 5
        ends_2 = let e = ends_1 in let f = ends_at s (take at s ++ moved) a t laid_1 loop (loop_to a) el (0xE2 ∷ 0xFE ∷ []) (loop_is a) b eb in omega arith

        laid_2 : Laid s (take at s ++ moved ++ (0xE2 ∷ 0xFE ∷ [])) b u
        laid_2 = lay_record s (take at s ++ moved) a t laid_1 loop (loop_to a) el (0xE2 ∷ 0xFE ∷ []) (loop_is a) b eb u eu

        pub fits_3 : (b < 65536) × (b + length (given (answer mask b)) ≤ length u)
        fits_3 =
            let (n, l) = h in
            let e = ends_2 in
            room_for s (take at s ++ moved ++ (0xE2 ∷ 0xFE ∷ [])) b u laid_2 mask (move_mask q.mask) ek (0xB0 ∷ q.mask ∷ []) (mask_is q.mask b k.mask_fits) (omega arith) (omega arith)

        module _ (d : ℕ) (ed : d ≡ b + length (given (answer mask b))) (v : List ℕ) (ev : v ≡ take b u ++ (given (answer mask b) ++ drop (b + length (given (answer mask b))) u))
            (out : InstructionData) (eo : out ≡ output q.port) where
          ends_3 : d ≡ at + 7
          ends_3 =
              let e = ends_2 in
              let f = ends_at s (take at s ++ moved ++ (0xE2 ∷ 0xFE ∷ [])) b u laid_2 mask (move_mask q.mask) ek (0xB0 ∷ q.mask ∷ []) (mask_is q.mask b k.mask_fits) d ed in
              omega arith

          laid_3 : Laid s (take at s ++ moved ++ (0xE2 ∷ 0xFE ∷ []) ++ (0xB0 ∷ q.mask ∷ [])) d v
          laid_3 = lay_record s (take at s ++ moved ++ (0xE2 ∷ 0xFE ∷ [])) b u laid_2 mask (move_mask q.mask) ek (0xB0 ∷ q.mask ∷ []) (mask_is q.mask b k.mask_fits) d ed v ev

          pub fits_4 : (d < 65536) × (d + length (given (answer out d)) ≤ length v)
          fits_4 =
              let (n, l) = h in
              let e = ends_3 in
              room_for s (take at s ++ moved ++ (0xE2 ∷ 0xFE ∷ []) ++ (0xB0 ∷ q.mask ∷ [])) d v laid_3 out (output q.port) eo (0xE6 ∷ q.port ∷ []) (output_is q.port d k.port_fits) (omega arith) (omega arith)

          pub cue_placed : (n : ℕ) → n ≡ d + length (given (answer out d)) → (w : List ℕ) → w ≡ take d v ++ (given (answer out d) ++ drop (d + length (given (answer out d))) v)
              → (n ≡ at + 9) × (w ≡ take at s ++ (assembled at (of_cue q) ++ drop (at + 9) s))
          cue_placed n en w ew =
              let e = ends_3 in
              let f = ends_at s (take at s ++ moved ++ (0xE2 ∷ 0xFE ∷ []) ++ (0xB0 ∷ q.mask ∷ [])) d v laid_3 out (output q.port) eo (0xE6 ∷ q.port ∷ []) (output_is q.port d k.port_fits) n en in
              cue_laid s q k at n (omega arith) w
              (lay_record s (take at s ++ moved ++ (0xE2 ∷ 0xFE ∷ []) ++ (0xB0 ∷ q.mask ∷ [])) d v laid_3 out (output q.port) eo (0xE6 ∷ q.port ∷ []) (output_is q.port d k.port_fits) n en w ew)

-- ---- the cues of a list
-- the one that the first four bytes hold, and those behind it
pub cues_first : (x t : List ℕ) → length x ≡ 4 → cues_in (x ++ t) ≡ cue_at x 0 ∷ cues_in t
unfolding cues_in
cues_first [] t h = absurd (omega arith)
cues_first (a ∷ []) t h = absurd (omega arith)
cues_first (a ∷ b ∷ []) t h = absurd (omega arith)
cues_first (a ∷ b ∷ p ∷ []) t h = absurd (omega arith)
cues_first (a ∷ b ∷ p ∷ m ∷ []) t h = refl
cues_first (a ∷ b ∷ p ∷ m ∷ y ∷ x) t h = absurd (omega arith)

pub cues_end : (t : List ℕ) → length t < 4 → cues_in t ≡ []
unfolding cues_in
cues_end [] h = refl
cues_end (a ∷ []) h = refl
cues_end (a ∷ b ∷ []) h = refl
cues_end (a ∷ b ∷ p ∷ []) h = refl
cues_end (a ∷ b ∷ p ∷ m ∷ t) h = absurd (omega arith)

-- ---- delays: t is what is still to be looked at
module _ (s t : List ℕ) (same : some_without (cues_in s) ≡ some_without (cues_in t)) where
  module _ (x rest : List ℕ) (parts : t ≡ x ++ rest) (four : length x ≡ 4) (c : Cue) (is : c ≡ cue_at x 0) where
    next_test : some_without (cues_in s) ≡ either (eqb (cue_at x 0).delay 0) (some_without (cues_in rest))
    unfolding some_without
    next_test = same ∙ rw (parts, cues_first x rest four) refl

    pub found : c.delay ≡ 0 → true ≡ some_without (cues_in s)
    found z = let y : (cue_at x 0).delay ≡ 0 = sym (ap (λ (x : Cue). x.delay) is) ∙ z in rw (next_test, eq-eqb (cue_at x 0).delay 0 y) refl

    pub searched_next : (c.delay ≡ 0 → ⊥) → some_without (cues_in s) ≡ some_without (cues_in rest)
    searched_next z = next_test ∙ rw (ne_eqb (cue_at x 0).delay 0 (λ y. z (ap (λ (x : Cue). x.delay) is ∙ y))) refl

  pub none_found : length t < 4 → false ≡ some_without (cues_in s)
  unfolding some_without
  none_found h = rw (same, cues_end t h) refl

-- ---- the program
-- four bytes a cue
pub four_each : (s : List ℕ) → 4 * length (cues_in s) ≤ length s
unfolding cues_in
four_each [] = omega arith
four_each (a ∷ []) = omega arith
four_each (a ∷ b ∷ []) = omega arith
four_each (a ∷ b ∷ p ∷ []) = omega arith
four_each (a ∷ b ∷ p ∷ m ∷ s) = let e = four_each s in omega arith

pub four_exact : (s : List ℕ) → length s % 4 ≡ 0 → 4 * length (cues_in s) ≡ length s
unfolding cues_in
four_exact [] h = refl
four_exact (a ∷ []) h = absurd (omega arith)
four_exact (a ∷ b ∷ []) h = absurd (omega arith)
four_exact (a ∷ b ∷ p ∷ []) h = absurd (omega arith)
four_exact (a ∷ b ∷ p ∷ m ∷ s) h = let e = four_exact s (omega arith) in omega arith

pub list_whole : (s : List ℕ) → is_cue_list s ≡ true → (length s % 4 ≡ 0) × (length s ≤ 800)
list_whole s t =
    let (a, b) = both_true (eqb (length s % 4) 0) (leb (length s) 800) t in
    (eqb-true (length s % 4) 0 a, leb-true (length s) 800 b)

-- all cues but those of t are in the image
pub record Building (s image₀ t : List ℕ) (at : ℕ) (image : List ℕ) : Type 0 where
  pub part : List ℕ
  pub laid : Laid image₀ part at image
  pub rest : image_of (cues_in s) ≡ part ++ assembled at (program (cues_in t))

pub building_start : (s image₀ : List ℕ) → Building s image₀ s 0 image₀
building_start s image₀ = record { part = []; laid = record { long = refl; is = refl }; rest = refl }

module _ (s : List ℕ) (bs : Bytes s) (list : is_cue_list s ≡ true) (image₀ : List ℕ) (room : length (image_of (cues_in s)) ≤ length image₀) (t : List ℕ) (at : ℕ) (image : List ℕ)
    (b : Building s image₀ t at image) where
  image_length : length (image_of (cues_in s)) ≡ 9 * length (cues_in s) + 1
  image_length = length_is (cues_in s) (all_sound s bs) 0

  end_is : at + length (assembled at (program (cues_in t))) ≡ length (image_of (cues_in s))
  end_is =
      let a = b.laid.long in
      let l : length (image_of (cues_in s)) ≡ length b.part + length (assembled at (program (cues_in t))) = rw b.rest (length-append b.part (assembled at (program (cues_in t)))) in
      omega arith

  below : length (image_of (cues_in s)) < 65536
  below = let f = four_each s in let w = list_whole s list in let i = image_length in omega arith

  same_length : at ≤ length image₀ → length image ≡ length image₀
  same_length h = laid_length image₀ b.part at image b.laid h

  pub length_kept : length image ≡ length image₀
  length_kept = let e = end_is in same_length (omega arith)

  module _ (c : Cue) (sound : Sound c) (x rest : List ℕ) (parts : t ≡ x ++ rest) (four : length x ≡ 4) (is : c ≡ cue_at x 0) where
    next_program : assembled at (program (cues_in t)) ≡ cue_bytes c ++ assembled (at + 9) (program (cues_in rest))
    next_program = rw (parts, cues_first x rest four, ← is) (cue_is c sound (cues_in rest) at)

    nine_more : at + 9 ≤ length (image_of (cues_in s))
    nine_more =
        let e = end_is in
        let l : length (assembled at (program (cues_in t))) ≡ 9 + length (assembled (at + 9) (program (cues_in rest))) = rw next_program (length-append (cue_bytes c) (assembled (at + 9) (program (cues_in rest)))) in
        omega arith

    pub room_for_cue : (at + 9 < 65536) × (at + 9 ≤ length image)
    room_for_cue = let n = nine_more in let x = below in let l = length_kept in (omega arith, omega arith)

    pub building_next : (n : ℕ) → n ≡ at + 9 → (after : List ℕ) → after ≡ take at image ++ (assembled at (of_cue c) ++ drop (at + 9) image) → Building s image₀ rest n after
    building_next n en after ea =
        let q : assembled at (of_cue c) ≡ cue_bytes c = cue_bytes_lem c sound at in
        record {
          part = b.part ++ cue_bytes c;
          laid = lay image₀ b.part at image b.laid (cue_bytes c) n en after (rw q at ea);
          rest = b.rest ∙ rw (next_program, en) (sym (append_assoc b.part (cue_bytes c) (assembled (at + 9) (program (cues_in rest)))));
        }

  module _ (h : length t < 4) (insn : InstructionData) (same : insn ≡ halt) where
    last_program : assembled at (program (cues_in t)) ≡ 0xF4 ∷ []
    unfolding program assembled
    last_program = rw (cues_end t h) (next_is (λ at. halt) [] at _ (halt_is at))

    last_is_one : length (image_of (cues_in s)) ≡ at + 1
    last_is_one = let e = end_is in let l : length (assembled at (program (cues_in t))) ≡ 1 = rw last_program refl in omega arith

    pub room_for_halt : (at < 65536) × (at + length (given (answer insn at)) ≤ length image)
    room_for_halt =
        let l = last_is_one in
        let x = below in
        room_for image₀ b.part at image b.laid insn halt same (0xF4 ∷ []) (halt_is at) (omega arith) (omega arith)

    module _ (after : List ℕ) (ea : after ≡ take at image ++ (given (answer insn at) ++ drop (at + length (given (answer insn at))) image)) where
      halt_laid : Laid image₀ (b.part ++ (0xF4 ∷ [])) (at + length (given (answer insn at))) after
      halt_laid = lay_record image₀ b.part at image b.laid insn halt same (0xF4 ∷ []) (halt_is at) (at + length (given (answer insn at))) refl after ea

      pub built_length : length after ≡ length image₀
      built_length =
          let l = last_is_one in
          let n : length (given (answer insn at)) ≡ 1 = rw (same, halt_is at) refl in
          laid_length image₀ (b.part ++ (0xF4 ∷ [])) (at + length (given (answer insn at))) after halt_laid (omega arith)

      pub built : after ≡ image_of (cues_in s) ++ drop (length (image_of (cues_in s))) image₀
      built =
          let r : image_of (cues_in s) ≡ b.part ++ (0xF4 ∷ []) = b.rest ∙ ap (λ (l : List ℕ). b.part ++ l) last_program in
          let l = halt_laid.long in
          rw (r, ← l) halt_laid.is

-- ---- the questions
module _ (s : List ℕ) (size : ℕ) where
  pub no_list : length s % 4 ≡ 0 → 800 < length s → Err E.WrongLength ≡ compiled s size
  unfolding compiled
  no_list f h = rw (eq-eqb (length s % 4) 0 f, lt-leb (length s) 800 h) refl

  pub no_multiple : (length s % 4 ≡ 0 → ⊥) → Err E.WrongLength ≡ compiled s size
  unfolding compiled
  no_multiple h = rw (ne_eqb (length s % 4) 0 h) refl

  module _ (f : length s % 4 ≡ 0) (h : length s ≤ 800) where
    pub is_list : is_cue_list s ≡ true
    is_list = rw (eq-eqb (length s % 4) 0 f, le-leb (length s) 800 h) refl

    pub no_delay : (b : Bool) → b ≡ some_without (cues_in s) → b ≡ true → Err E.NoDelay ≡ compiled s size
    unfolding compiled
    no_delay b e q = rw (is_list, ← e, q) refl

    module _ (bs : Bytes s) (b : Bool) (e : b ≡ some_without (cues_in s)) (q : b ≡ false) (n : ℕ) (en : n ≡ 9 * (length s / 4) + 1) where
      pub n_is : n ≡ length (image_of (cues_in s))
      n_is =
          let l = length_is (cues_in s) (all_sound s bs) 0 in
          let c = four_exact s f in
          omega arith

      pub no_room : size < n → Err E.ImageTooShort ≡ compiled s size
      unfolding compiled
      no_room l = rw (is_list, ← e, q, lt-leb (length (image_of (cues_in s))) size (rw (← n_is) l)) refl

      pub accepts : n ≤ size → Ok n ≡ compiled s size
      unfolding compiled
      accepts l = rw (is_list, ← e, q, le-leb (length (image_of (cues_in s))) size (rw (← n_is) l), ← n_is) refl

-- ---- the image with the answer
module _ (s image : List ℕ) where
  pub refused_so : (e : CueError) → Err e ≡ compiled s (length image) → (Err e ≡ compiled s (length image)) × (image ≡ image_after s image)
  refused_so e q = (q, rw (← q) refl)

  pub accepted_so : (n : ℕ) → Ok n ≡ compiled s (length image) → n ≡ length (image_of (cues_in s)) → (after : List ℕ)
      → after ≡ image_of (cues_in s) ++ drop (length (image_of (cues_in s))) image → (Ok n ≡ compiled s (length image)) × (after ≡ image_after s image)
  accepted_so n q en after ea = (q, rw (← q, en) ea)
