-- The text in the lent slice: it fits where a length is answered, and the count stands behind the lines.
-- Assumes nothing.
use Rattle.std.specs.Prelude.{Result, Ok, Err}
use mathlib.Core.Path.{◌≡◌, refl}
use mathlib.Core.Bool.{Bool, true, false}
use mathlib.Core.List.{List, ◌++◌}
use Prim.Native.Nat.{ℕ, ◌+◌, ◌-◌, ◌<◌, ◌≤◌}
use native.Mathlib.Omega.{arith}
use lib.Dec.{leb}
use lib.ListN.{length, drop, length-append}
use borrow.Author.Tests.{leb-true, le-leb, lt-leb}
use borrow.Rule.Slice.PartMut.{put_mid}
use Rattle.base_values.proofs.Fronts.{Front, front_is, front_next, lent, lent_length}
use Rattle.mrc_compiler.specs.Choose.{pick}
use Rattle.text_line.specs.declared.TooShort.{TooShort}
use Rattle.short_list.specs.Short.{short_strings}
use Rattle.short_list.specs.Text.{lines_of, count_line, short_text, written}
use Rattle.short_list.proofs.Laws.{count_length}
use Rattle.short_list.proofs.Counts.{lines_are, text_is}

pub written_fits : (size n : ℕ) → written size ≡ Ok n → (n ≡ length short_text) × (n ≤ size)
unfolding written
written_fits size n = go (leb (length short_text) size) refl
  where
    go : (t : Bool) → leb (length short_text) size ≡ t → ◌≡◌ {A = Result ℕ TooShort} (pick t (Ok (length short_text)) (Err (record {}))) (Ok n) → (n ≡ length short_text) × (n ≤ size)
    go true h e =
        let q : n ≡ length short_text = cc in
        let l = leb-true (length short_text) size h in
        (q, omega arith)
    go false h e = let z : ◌≡◌ {A = ℕ} 0 1 = cc in absurd (omega arith)

-- ---- does a slice hold it?
pub holds : (size : ℕ) → 84443 ≤ size → leb (length short_text) size ≡ true
holds size h = rw text_is (le-leb 84443 size h)

pub holds_not : (size : ℕ) → size < 84443 → leb (length short_text) size ≡ false
holds_not size h = rw text_is (lt-leb 84443 size h)

-- ---- the lines, and the count behind them
abbrev lines : List ℕ
lines = lines_of short_strings

module _ (out₀ : List ℕ) (room : 84443 ≤ length out₀) (out : List ℕ) (end count : ℕ) (hc : count ≡ length short_strings) (he : end ≡ length lines) (ho : out ≡ lines ++ drop (length lines) out₀) where
  front : Front lines out₀ out
  front = let l = lines_are in front_is lines out₀ out (omega arith) ho

  pub behind_in : (end ≤ length out) × (6 ≤ length (lent out end)) × (end ≡ 84437)
  behind_in =
      let l = lines_are in
      let s = front.same in
      let d = lent_length out end in
      (omega arith, omega arith, omega arith)

  pub whole_text : (last : List ℕ) (m : ℕ) → m ≡ length (count_line count) → last ≡ count_line count ++ drop (length (count_line count)) (lent out end)
      → (end + m ≡ length short_text) × (put_mid end (length out - end) out last ≡ short_text ++ drop (length short_text) out₀)
  unfolding short_text
  whole_text last m hm hl =
      let l = lines_are in
      let c = count_length count in
      rw (← hc) (rw (length-append lines (count_line count), ← he, hm) refl, (front_next lines (count_line count) out₀ out last end front he (omega arith) hl).is)
