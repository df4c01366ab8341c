-- The whole text of a run: what is answered says how the run ended, and the pairs and the last line stand one behind the other.
-- Assumes nothing.
use Rattle.std.specs.Prelude.{Ok, Err}
use mathlib.Core.Path.{◌≡◌, refl, sym, ap}
use mathlib.Core.Bool.{Bool, true, false}
use mathlib.Core.List.{List, [], ◌∷◌, ◌++◌}
use Prim.Native.Nat.{ℕ, zero, suc, ◌+◌, ◌*◌, ◌-◌, ◌<◌, ◌≤◌}
use native.Mathlib.Omega.{arith}
use lib.Dec.{leb}
use lib.ListN.{length, take, drop, length-append, length-drop}
use lib.Seq.{take-append_seam}
use borrow.Author.Tests.{le-leb, lt-leb, leb-true}
use borrow.Rule.Slice.PartMut.{put_mid}
use Rattle.base_values.proofs.Fronts.{Front, front_is, front_next, lent, lent_length}
use Rattle.mrc_compiler.specs.Choose.{pick, both}
use Rattle.desk_step.specs.declared.Machine.{Machine}
use Rattle.desk_step.specs.declared.Effect.{Effect}
use Rattle.desk_step.specs.declared.Effect.TheVariants as E
use Rattle.desk_step.specs.Step.{start, step_of}
use Rattle.desk_run.specs.declared.RunError.{RunError}
use Rattle.desk_run.specs.declared.RunError.TheVariants as N
use Rattle.desk_run.specs.declared.Halted.{Halted}
use Rattle.desk_run.specs.Running.{Ending, halted, refused, number_of, followed, ran, in_reach, ending, halted_with, answered, log_after}
use Rattle.desk_text.specs.Lines.{pairs_text, halted_line, refused_line, text_by, run_text, fits, too_short, written, out_after, logged_after}
use Rattle.desk_text.proofs.Laws.{pairs_length, pairs_short, halted_length, refused_length}

-- ---- how a run ended, by its answer
pub is_refused : (x : Ending) (e : RunError) → answered x ≡ Err e → x ≡ refused e
is_refused (halted n l) e q = let z : ◌≡◌ {A = ℕ} 0 1 = cc in absurd (omega arith)
is_refused (refused y) e q = let s : y ≡ e = cc in ap refused s

pub record HaltsWith (x : Ending) (h : Halted) : Type 0 where
  pub log : List ℕ
  pub is : x ≡ halted h.count log
  pub long : h.log_length ≡ length log

pub is_halted : (x : Ending) (h : Halted) → answered x ≡ Ok h → HaltsWith x h
is_halted (halted m l) h q =
    let e : halted_with m (length l) ≡ h = cc in
    record { log = l; is = ap (λ (i : Halted). halted i.count l) e; long = sym (ap (λ (i : Halted). i.log_length) e) }
is_halted (refused y) h q = let z : ◌≡◌ {A = ℕ} 0 1 = cc in absurd (omega arith)

-- ---- a log is no longer than its room
module _ (image : List ℕ) (room : ℕ) (n : ℕ) (l : List ℕ) where
  log_in : (budget count : ℕ) (m : Machine) (log : List ℕ) → length log ≤ room → ran image room budget count m log ≡ halted n l → length l ≤ room
  unfolding ran
  log_in zero count m log h q = let z : ◌≡◌ {A = ℕ} 0 1 = cc in absurd (omega arith)
  log_in (suc b) count m log h q = go (step_of image m).effect (λ g i. log_in b (suc count) (step_of image m).machine g i) q
    where
      go : (e : Effect) → ((g : List ℕ) → length g ≤ room → ran image room b (suc count) (step_of image m).machine g ≡ halted n l → length l ≤ room)
          → followed room count log e (λ g. ran image room b (suc count) (step_of image m).machine g) ≡ halted n l → length l ≤ room
      go E.Goes next q = next log h q
      go (E.Outputs p v) next q = on (leb (length log + 2) room) refl q
        where
          on : (t : Bool) → leb (length log + 2) room ≡ t
              → pick t (ran image room b (suc count) (step_of image m).machine (log ++ (p ∷ v ∷ []))) (refused N.LogTooShort) ≡ halted n l → length l ≤ room
          on true e q = next (log ++ (p ∷ v ∷ [])) (rw (length-append log (p ∷ v ∷ [])) (leb-true (length log + 2) room e)) q
          on false e q = let z : ◌≡◌ {A = ℕ} 0 1 = cc in absurd (omega arith)
      go E.Halts next q = let s : log ≡ l = cc in rw (← s) h
      go E.Refused next q = let z : ◌≡◌ {A = ℕ} 0 1 = cc in absurd (omega arith)

pub log_fits : (image : List ℕ) (budget room n : ℕ) (l : List ℕ) → ending image budget room ≡ halted n l → length l ≤ room
log_fits image budget room n l q = log_in (in_reach image) room n l budget 0 start [] (omega arith) q

-- ---- slices that are not taken
pub log_too_long : (room size : ℕ) → 65536 < room → fits room size ≡ false
unfolding fits
log_too_long room size h = rw (lt-leb room 65536 h) refl

pub out_too_short : (room size : ℕ) → room ≤ 65536 → size < 3 * room + 18 → fits room size ≡ false
unfolding fits
out_too_short room size h less = rw (le-leb room 65536 h, lt-leb (3 * room + 18) size less) refl

-- ---- the text
module _ (image : List ℕ) (budget : ℕ) (log out₀ : List ℕ) (few : length log ≤ 65536) (room : 3 * length log + 18 ≤ length out₀) where
  pub fits_is : fits (length log) (length out₀) ≡ true
  unfolding fits
  fits_is = rw (le-leb (length log) 65536 few, le-leb (3 * length log + 18) (length out₀) room)

  pub logged_is : (after : List ℕ) → after ≡ log_after (ending image budget (length log)) log → after ≡ logged_after image budget log (length out₀)
  unfolding logged_after
  logged_is after e = rw fits_is e

  -- what is answered and written is the text
  pub text_is : (m : ℕ) (out : List ℕ) → m ≡ length (run_text image budget (length log))
      → out ≡ run_text image budget (length log) ++ drop (length (run_text image budget (length log))) out₀
      → (Ok m ≡ written image budget (length log) (length out₀)) × (out ≡ out_after image budget (length log) out₀)
  unfolding written out_after
  text_is m out hm ho = rw fits_is (ap (λ (i : ℕ). Ok i) hm, ho)

  pub refused_is : (e : RunError) → ending image budget (length log) ≡ refused e
      → (m : ℕ) (out : List ℕ) → m ≡ length (refused_line (number_of e)) → out ≡ refused_line (number_of e) ++ drop (length (refused_line (number_of e))) out₀
      → (Ok m ≡ written image budget (length log) (length out₀)) × (out ≡ out_after image budget (length log) out₀)
  unfolding run_text
  refused_is e q m out hm ho = text_is m out (rw q hm) (rw q ho)

  module _ (h : Halted) (x : HaltsWith (ending image budget (length log)) h) (after : List ℕ) (ha : after ≡ log_after (ending image budget (length log)) log) where
    -- the log's pairs stand at its front
    in_log : take h.log_length after ≡ x.log
    in_log = rw (ha, x.is, x.long) (take-append_seam x.log (drop (length x.log) log))

    pub short_log : (h.log_length ≤ length log) × (length after ≡ length log)
    short_log =
        let l = log_fits image budget (length log) h.count x.log x.is in
        let e = x.long in
        (omega arith, rw (ha, x.is, length-append x.log, length-drop (length x.log) log) (omega arith))

    module _ (out : List ℕ) (end : ℕ) (he : end ≡ length (pairs_text (take h.log_length after))) (ho : out ≡ pairs_text (take h.log_length after) ++ drop (length (pairs_text (take h.log_length after))) out₀) where
      front : Front (pairs_text (take h.log_length after)) out₀ out
      front =
          let (k_in, same) = short_log in
          let l = pairs_short after h.log_length (omega arith) in
          front_is (pairs_text (take h.log_length after)) out₀ out (omega arith) ho

      pub behind_in : (end ≤ length out) × (18 ≤ length (lent out end)) × (end ≤ 3 * length log)
      behind_in =
          let (k_in, same) = short_log in
          let l = pairs_short after h.log_length (omega arith) in
          let s = front.same in
          let d = lent_length out end in
          (omega arith, omega arith, omega arith)

      pub whole_is : (last : List ℕ) (m : ℕ) → m ≡ length (halted_line h.count) → last ≡ halted_line h.count ++ drop (length (halted_line h.count)) (lent out end)
          → (end + m ≡ length (run_text image budget (length log))) × (put_mid end (length out - end) out last ≡ run_text image budget (length log) ++ drop (length (run_text image budget (length log))) out₀)
      unfolding run_text
      whole_is last m hm hl =
          let (k_in, same) = short_log in
          let l = pairs_short after h.log_length (omega arith) in
          let c = halted_length h.count in
          rw (x.is, ← in_log)
          (rw (length-append (pairs_text (take h.log_length after)) (halted_line h.count), ← he, hm) refl, (front_next (pairs_text (take h.log_length after)) (halted_line h.count) out₀ out last end front he (omega arith) hl).is)

-- ---- the text is inside the slice
short : (image : List ℕ) (budget room size : ℕ) → room ≤ 65536 → 3 * room + 18 ≤ size → length (run_text image budget room) ≤ size
unfolding run_text
short image budget room size few long = on (ending image budget room) refl
  where
    on : (x : Ending) → ending image budget room ≡ x → length (text_by x) ≤ size
    on (refused e) q = let l = refused_length (number_of e) in omega arith
    on (halted n log) q =
        let h = log_fits image budget room n log q in
        let l = pairs_length log in
        let m = halted_length n in
        rw (length-append (pairs_text log) (halted_line n)) (omega arith)

pub written_fits : (image : List ℕ) (budget room size n : ℕ) → written image budget room size ≡ Ok n → n ≤ size
unfolding written fits
written_fits image budget room size n q = on (leb room 65536) (leb (3 * room + 18) size) refl refl q
  where
    on : (s t : Bool) → leb room 65536 ≡ s → leb (3 * room + 18) size ≡ t → pick (both s t) (Ok (length (run_text image budget room))) (Err too_short) ≡ Ok n → n ≤ size
    on true true few long q =
        let m : length (run_text image budget room) ≡ n = cc in
        let l = short image budget room size (leb-true room 65536 few) (leb-true (3 * room + 18) size long) in
        omega arith
    on true false few long q = let z : ◌≡◌ {A = ℕ} 0 1 = cc in absurd (omega arith)
    on false true few long q = let z : ◌≡◌ {A = ℕ} 0 1 = cc in absurd (omega arith)
    on false false few long q = let z : ◌≡◌ {A = ℕ} 0 1 = cc in absurd (omega arith)
