-- From what run_of emits for a record to the first of its listing.
-- Assumes nothing.
use Rattle.std.specs.Prelude.{Ok, Err}
use mathlib.Core.Path.{◌≡◌, refl, sym, ◌∙◌, ap, subst}
use Prim.Native.Nat.{ℕ, ◌<◌, ◌≤◌}
use native.Mathlib.Omega.{arith}
use mathlib.Core.Bool.{true}
use mathlib.Core.List.{List, [], ◌∷◌}
use lib.Dec.{T}
use lib.ListN.{length, take}
use Rattle.std.specs.Prelude.{Result, Ok, Err}
use Rattle.mrc_compiler.specs.declared.encoder.EncodeError.{EncodeError}
use Rattle.mrc_compiler.specs.declared.encoder.InstructionData.{InstructionData}
use Rattle.x86.specs.declared.Instruction.{Instruction}
use Rattle.x86.specs.declared.ReadError.{ReadError}
use Rattle.x86.specs.Reading.{Read, reads}
use Rattle.encode_spec.specs.Meaning.{meaning}
use Rattle.encode_spec.specs.Answer.{bytes, answer}
use Rattle.encode_spec.proofs.Accepted.{accepted_reads}
use Rattle.encode_run.specs.declared.ByteRun.{ByteRun}
use Rattle.encode_run.specs.Run.{empty_run, appended}
use Rattle.encode_codes.specs.Emit.{emitted}
use Rattle.list_spec.proofs.Exact.{Listed}
use Rattle.lister.proofs.Accepted.{is_refused, accepted, held}
use Rattle.list_first.specs.First.{is_first_of}
use Rattle.list_first.proofs.Least.{none_before}
use Rattle.x86.proofs.ByForm.{same_parts}
use Rattle.shortest_encoder.specs.Search.{search}
use Rattle.shortest_encoder.specs.Shortest.{shortest, shortest_answer}
use Rattle.shortest_encoder.proofs.First.{search_first}
use Rattle.shortest_encoder.proofs.Shortest.{s_own}

not_refused : {m : Instruction} {n : ℕ} {why : ReadError} → ◌≡◌ {A = Read} (Ok (m, n)) (Err why) → ⊥
not_refused e = let z : ◌≡◌ {A = ℕ} 0 1 = cc in omega arith

-- a run's first bytes are its string's
first_bytes : (s : List ℕ) → length s ≤ 7 → is_first_of (appended empty_run s).bytes ≡ is_first_of s
first_bytes [] h = refl
first_bytes (a ∷ []) h = refl
first_bytes (a ∷ b ∷ []) h = refl
first_bytes (a ∷ b ∷ c ∷ []) h = refl
first_bytes (a ∷ b ∷ c ∷ d ∷ []) h = refl
first_bytes (a ∷ b ∷ c ∷ d ∷ e ∷ []) h = refl
first_bytes (a ∷ b ∷ c ∷ d ∷ e ∷ f ∷ []) h = refl
first_bytes (a ∷ b ∷ c ∷ d ∷ e ∷ f ∷ g ∷ []) h = refl
first_bytes (a ∷ b ∷ c ∷ d ∷ e ∷ f ∷ g ∷ x ∷ s) h = absurd (omega arith)

module _ (insn : InstructionData) (off : ℕ) (h : off < 65536) (done : Result ByteRun EncodeError) (e : done ≡ emitted empty_run (answer insn off)) where
  pub refuses : (x : EncodeError) → done ≡ Err x → Err x ≡ emitted empty_run (shortest_answer insn off)
  unfolding shortest_answer
  refuses x q = rw (is_refused insn off h done e x q)

  module _ {run : ByteRun} (q : done ≡ Ok run) where
    abbrev s : List ℕ
    s = take run.len run.bytes

    s_is : s ≡ (accepted insn off h done e q).0
    s_is = (held insn off h done e q).bytes_are

    -- the run is that of its bytes
    pub own_run : run ≡ appended empty_run s
    own_run = (accepted insn off h done e q).2 ∙ ap (appended empty_run) (sym s_is)

    own_listed : Listed off (meaning insn) s
    own_listed =
        let r = accepted_reads insn off h (accepted insn off h done e q).0 (accepted insn off h done e q).1 in
        subst (Listed off (meaning insn)) (sym s_is) (record { reads_it = r.reads_it; are_bytes = r.are_bytes; some = r.some; short = r.short })

    -- it is the shortest where its first bytes tell
    pub stays : is_first_of run.bytes ≡ true → Ok run ≡ emitted empty_run (shortest_answer insn off)
    unfolding shortest_answer
    stays f =
        let a = accepted insn off h done e q in
        let l = own_listed in
        let first : is_first_of s ≡ true = sym (first_bytes s l.short) ∙ (sym (ap (λ (r : ByteRun). is_first_of r.bytes) own_run) ∙ f) in
        let is_it = s_own off (meaning insn) h s l.are_bytes l.reads_it
        (none_before off s (meaning insn) h l.are_bytes l.reads_it (subst T (sym first) tt)) in
        rw a.1 (λ t. Ok ((own_run ∙ ap (appended empty_run) is_it) t))

    module _ (w : Read) (ew : w ≡ reads off s) where
      own_read : w ≡ Ok (meaning insn, length s)
      own_read = ew ∙ own_listed.reads_it

      pub not_refused_read : (why : ReadError) → w ≡ Err why → ⊥
      not_refused_read why z = not_refused (sym own_read ∙ z)

      pub finds : (m : Instruction) (n : ℕ) (best : ByteRun) → w ≡ Ok (m, n) → best ≡ appended empty_run (search off m s 6)
          → Ok best ≡ emitted empty_run (shortest_answer insn off)
      unfolding shortest_answer
      finds m n best z r =
          let a = (accepted insn off h done e q).1 in
          let f : search off m s 6 ≡ shortest insn off =
          ap (λ (m : Instruction). search off m s 6) (same_parts (sym z ∙ own_read)).0 ∙ search_first off (meaning insn) s own_listed h in
          rw a (λ t. Ok ((r ∙ ap (appended empty_run) f) t))
