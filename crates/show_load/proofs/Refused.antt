-- A file whose record is refused: the file itself is in order, and that record, at its own offset, is the one refused.
-- Assumes nothing.
use Rattle.std.proofs.Common.{◌≡◌, ℕ, zero, suc, ◌<◌, Bool, true, false, ltb, List, length, refl, ap, ◌∙◌, arith, Err, Ok, Result}
use Rattle.mrc_compiler.specs.declared.encoder.EncodeError.{EncodeError}
use Rattle.mrc_compiler.specs.Choose.{pick}
use Rattle.encode_spec.specs.Answer.{Answer, bytes, refused}
use Rattle.show_file.specs.declared.Header.{Header}
use Rattle.show_file.specs.declared.LoadError.{LoadError}
use Rattle.show_file.specs.declared.LoadError.TheVariants as Le
use Rattle.show_file.specs.Show.{header, opened, first_unknown}
use Rattle.show_file.proofs.Opening.{Exact, by_opening, opened_exact}
use Rattle.show_load.specs.Loading.{Walk, all, stopped, answer_at, followed, further, walk, bytes_in, measured, show_accepted, accepted_by, accepted}

-- ---- a walk stops at the record that is refused behind the bytes of those before it
pub record Stops (file : List ℕ) (origin n k : ℕ) (e : EncodeError) : Type 0 where
  pub below : k < n
  pub refuses : answer_at file origin k (length (bytes_in (walk file origin k))) ≡ refused e

walk_stops : (file : List ℕ) (origin n k : ℕ) (e : EncodeError) → walk file origin n ≡ stopped k e → Stops file origin n k e
unfolding walk
walk_stops file origin zero k e q = let z : ◌≡◌ {A = ℕ} 0 1 = cc in absurd (omega arith)
walk_stops file origin (suc n) k e q = go (walk file origin n) refl (λ h. walk_stops file origin n k e h) q
  where
    at_last : (bs : List ℕ) (a : Answer) → walk file origin n ≡ all bs → answer_at file origin n (length bs) ≡ a → followed n bs a ≡ stopped k e → Stops file origin (suc n) k e
    at_last bs (bytes cs) w h r = let z : ◌≡◌ {A = ℕ} 0 1 = cc in absurd (omega arith)
    at_last bs (refused x) w h r =
        let same : n ≡ k = cc in
        let its : x ≡ e = cc in
        rw (← same) (record { below = omega arith; refuses = rw w (h ∙ ap refused its) })

    go : (w : Walk) → walk file origin n ≡ w → (walk file origin n ≡ stopped k e → Stops file origin n k e) → further file origin n w ≡ stopped k e
        → Stops file origin (suc n) k e
    go (all bs) h rest r = at_last bs (answer_at file origin n (length bs)) h refl r
    go (stopped i x) h rest r = let s = rest (h ∙ r) in record { below = omega (arith, s.below); refuses = s.refuses }

-- ---- the file
pub record RefusedAt (limit : ℕ) (file : List ℕ) (k : ℕ) (e : EncodeError) : Type 0 where
  pub exact : Exact limit file (header file)
  pub stops : Stops file (header file).origin (header file).count k e

module _ (limit : ℕ) (file : List ℕ) (k : ℕ) (e : EncodeError) where
  -- no question about the file itself names a record
  no_record : opened limit file ≡ Err (Le.Record k e) → ⊥
  no_record =
      by_opening limit file (λ o. o ≡ Err (Le.Record k e) → ⊥) (λ q. let z : ◌≡◌ {A = ℕ} 0 1 = cc in omega arith) (λ q. let z : ◌≡◌ {A = ℕ} 0 1 = cc in omega arith)
      (λ q. let z : ◌≡◌ {A = ℕ} 0 1 = cc in omega arith) (λ x q. let z : ◌≡◌ {A = ℕ} 0 1 = cc in omega arith)

  measured_stops : (h : Header) (w : Walk) → measured h w ≡ Err (Le.Record k e) → w ≡ stopped k e
  measured_stops h (all bs) q = let z : ◌≡◌ {A = ℕ} 0 1 = cc in absurd (omega arith)
  measured_stops h (stopped i x) q = cc

  show_refused : opened limit file ≡ Ok (header file) → show_accepted file (header file) ≡ Err (Le.Record k e) → RefusedAt limit file k e
  unfolding show_accepted
  show_refused o = go (ltb (first_unknown file (header file).count) (header file).count)
    where
      go : (b : Bool) → pick b (Err (Le.UnknownCode (first_unknown file (header file).count))) (measured (header file) (walk file (header file).origin (header file).count))
          ≡ Err (Le.Record k e) → RefusedAt limit file k e
      go true q = let z : ◌≡◌ {A = ℕ} 0 1 = cc in absurd (omega arith)
      go false q =
          record {
            exact = opened_exact limit file (header file) o;
            stops = walk_stops file (header file).origin (header file).count k e (measured_stops (header file) _ q);
          }

  pub refused_at : accepted limit file ≡ Err (Le.Record k e) → RefusedAt limit file k e
  refused_at = go (opened limit file) refl
    where
      go : (o : Result Header LoadError) → opened limit file ≡ o → accepted_by file o ≡ Err (Le.Record k e) → RefusedAt limit file k e
      go (Ok h) o q = let s = (opened_exact limit file h o).its_header in show_refused (rw s o) (rw s q)
      go (Err x) o q = let z : x ≡ Le.Record k e = cc in absurd (no_record (rw z at o))
