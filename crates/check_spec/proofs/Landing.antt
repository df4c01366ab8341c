-- Where the check passes, every near branch of the image lands on the first byte of a record's part, or on the end (specs/Landing).
-- Assumes nothing.
use Rattle.std.specs.Prelude.{Err, Ok, Result}
use mathlib.Core.Path.{◌≡◌, refl, sym, ◌∙◌, ap, subst}
use mathlib.Core.Bool.{Bool, true, false}
use mathlib.Core.List.{List}
use Prim.Native.Nat.{ℕ, suc, ◌<◌, ◌≤◌}
use native.Mathlib.Omega.{arith}
use lib.Dec.{eqb, ltb}
use lib.ListN.{length}
use borrow.Author.Tests.{eqb-true, le-leb}
use Rattle.mrc_compiler.specs.declared.encoder.InstructionData.{InstructionData}
use Rattle.mrc_compiler.specs.Choose.{pick}
use Rattle.x86.specs.declared.Instruction.{Instruction}
use Rattle.x86.proofs.ByForm.{same_parts}
use Rattle.encode_spec.specs.Meaning.{meaning}
use Rattle.show_file.specs.declared.Header.{Header}
use Rattle.show_file.specs.declared.LoadError.{LoadError}
use Rattle.show_file.specs.Show.{most_records, header, insn_at}
use Rattle.show_load.specs.Loading.{offset_behind, walk, bytes_in, accepted, loaded, image_after}
use Rattle.show_load.specs.Loading as Loading
use Rattle.show_load.specs.Demand2.{Loaded2}
use Rattle.show_load.proofs.Laws.{Accepted, accepted_image, answered_all}
use Rattle.show_load.proofs.Demand2.{upto, reads_at}
use Rattle.convert_spec.specs.Targets.{target_of, place_of, is_stray, first_stray}
use Rattle.convert_laws.proofs.Firsts.{found, none}
use Rattle.convert_laws.proofs.Done.{stray_no}
use Rattle.check_spec.specs.declared.CheckError.TheVariants as C
use Rattle.check_spec.specs.Checking.{start_of, record_around, strayed, targets_checked, checked_by, checked}
use Rattle.check_spec.specs.Landing.{Goes, Lands, AllLand}
use Rattle.check_spec.proofs.Near.{accepted_near}

-- ---- the answer
stray_no_lands : {P : Type 0} (n k t j m : ℕ) → strayed n k t j ≡ Ok m → P
stray_no_lands n k t j m q = go (ltb j n) q
  where
    go : {P : Type 0} (b : Bool) → pick b (Err (C.Inside k t j)) (Err (C.Outside k t)) ≡ Ok m → P
    go true q = let z : ◌≡◌ {A = ℕ} 0 1 = cc in absurd (omega arith)
    go false q = let z : ◌≡◌ {A = ℕ} 0 1 = cc in absurd (omega arith)

passes : (starts : ℕ → ℕ) (insns : ℕ → InstructionData) (n l m : ℕ) → targets_checked starts insns n l ≡ Ok m → (ltb (first_stray starts insns n) n ≡ false) × (l ≡ m)
unfolding targets_checked
passes starts insns n l m q = go (ltb (first_stray starts insns n) n) q
  where
    k : ℕ
    k = first_stray starts insns n

    go : (b : Bool) → pick b (strayed n k (target_of (insns k)) (record_around starts n (target_of (insns k)))) (Ok l) ≡ Ok m → (b ≡ false) × (l ≡ m)
    go true q = stray_no_lands n k (target_of (insns k)) (record_around starts n (target_of (insns k))) m q
    go false q = (refl, cc)

-- ---- a file that loads
module _ (file : List ℕ) (m : ℕ) (q : accepted most_records file ≡ Ok (header file, m)) (image : List ℕ) (room : m ≤ length image) where
  abbrev origin : ℕ
  origin = (header file).origin

  abbrev n : ℕ
  n = (header file).count

  abbrev starts : ℕ → ℕ
  starts k = length (bytes_in (walk file origin k))

  its : Accepted most_records file (header file) m
  its = accepted_image most_records file (header file) m q

  loads : loaded file (length image) ≡ Ok (header file, m)
  loads = ap (Loading.fitted file (length image)) q ∙ rw (le-leb m (length image) room)

  records : Loaded2 file (header file) m starts image (image_after file image)
  records = reads_at file (header file) m image loads

  -- a branch that is not stray
  lands : (k t : ℕ) → k < n → is_stray (start_of file origin) n (insn_at file k) ≡ false → Goes file image starts k t → Lands file image starts t
  lands k t l s g =
      let insn = insn_at file k in
      let (bs, e) = answered_all file origin k (starts k) (upto file origin n its.all_in k (omega arith)) n its.all_in l in
      let r = records.each_reads k l in
      let i : g.instruction ≡ meaning insn = (same_parts (sym g.reads_it ∙ r)).0 in
      let b = accepted_near insn (offset_behind origin (starts k)) bs e t (ap (λ (x : Instruction). x.first) (sym i) ∙ g.near) in
      let p = place_of (start_of file origin) n insn in
      let there = stray_no (start_of file origin) file n k s b.branch in
      record {
        place = p;
        there = there;
        lands = b.target ∙ sym (eqb-true (start_of file origin p) (target_of insn) (found (λ j. eqb (start_of file origin j) (target_of insn)) (suc n) 0 (omega arith)));
      }

  all_of_them : ltb (first_stray (start_of file origin) (insn_at file) n) n ≡ false → AllLand file image starts m
  all_of_them z = record { loads = loads; records = records; branches = λ k t l g. lands k t l (none (λ k. is_stray (start_of file origin) n (insn_at file k)) n z k l) g }

-- ---- a file that passes
record Passed (file : List ℕ) (m : ℕ) : Type 0 where
  pub accepts : accepted most_records file ≡ Ok (header file, m)
  pub no_stray : ltb (first_stray (start_of file (header file).origin) (insn_at file) (header file).count) (header file).count ≡ false

passed : (file : List ℕ) (m : ℕ) → checked file ≡ Ok m → Passed file m
passed file m q = go (accepted most_records file) refl q
  where
    go : (a : Result (Header × ℕ) LoadError) → accepted most_records file ≡ a → checked_by file a ≡ Ok m → Passed file m
    go (Ok (h, l)) e q =
        let (z, s) = passes (start_of file h.origin) (insn_at file) h.count l m q in
        let w : header file ≡ h = (accepted_image most_records file h l e).exact.its_header in
        record {
          accepts = e ∙ rw (w, s) refl;
          no_stray = subst (λ (g : Header). ltb (first_stray (start_of file g.origin) (insn_at file) g.count) g.count ≡ false) (sym w) z;
        }
    go (Err x) e q = let z : ◌≡◌ {A = ℕ} 0 1 = cc in absurd (omega arith)

-- in any image that holds it
pub all_land : (file : List ℕ) (m : ℕ) → checked file ≡ Ok m → (image : List ℕ) → m ≤ length image → (starts : ℕ → ℕ) × AllLand file image starts m
all_land file m q image room =
    let p = passed file m q in
    (λ k. length (bytes_in (walk file (header file).origin k)), all_of_them file m p.accepts image room p.no_stray)
