-- The ground of every answer is the true one.
-- Assumes nothing.
use mathlib.Core.Path.{◌≡◌, refl, sym, ◌∙◌, ap}
use mathlib.Core.Bool.{Bool, true, false}
use mathlib.Core.List.{List, [], ◌∷◌, ◌++◌}
use mathlib.Core.Logic.{◌⊎◌, inl, inr}
use Prim.Native.Nat.{ℕ, ◌<◌}
use native.Mathlib.Omega.{arith}
use lib.Dec.{eqb}
use lib.ListN.{get_or}
use borrow.Author.Tests.{eqb-true, eqb-false}
use Rattle.mrc_compiler.specs.declared.encoder.InstructionData.{InstructionData}
use Rattle.mrc_compiler.specs.declared.encoder.OperandData.{OperandData}
use Rattle.mrc_compiler.specs.Choose.{pick, either, isnt}
use Rattle.x86_forms.specs.declared.FormName.{FormName}
use Rattle.x86.specs.Forms.{Form}
use Rattle.x86.specs.Forms as F
use Rattle.x86.specs.Reading.{starting_with, fitting, has_second, prefix, repeats}
use Rattle.x86.proofs.Repeats.{repeats_by}
use Rattle.x86.proofs.Unambiguous.{at_90, second_agrees}
use Rattle.encode_groups.specs.Grouping.{group_of}
use Rattle.encode_spec.specs.Records.{dst, src}
use Rattle.encode_spec.specs.Choice.{Choice, none, straight, crossed}
use Rattle.encode_spec.specs.Layout.{prefix_bytes, layout}
use Rattle.encode_spec.specs.Limits.{Asked}
use Rattle.encode_spec.specs.Meaning.{meaning}
use Rattle.encode_spec.specs.Questions.{chosen, questions}
use Rattle.encode_spec.specs.Answer.{First, all_yes, no, first_no, written, bytes, answer}
use Rattle.encode_spec.proofs.Front.{second_bytes, among, fits_alone, no_prefix_byte}
use Rattle.encode_spec.proofs.ReadBack.{Reads, Begun, begun, begun_opcode}
use Rattle.encode_spec.proofs.Accepted.{Chosen, ChosenAs, chosen_is, arranged_is, operation_is, all_yes_reads}
use Rattle.read_table.specs.Rows.{named, name_of}
use Rattle.reader.specs.Answer.{first_of, form_behind, form_plain, form_of, decoded}
use Rattle.encode_form.specs.Ground.{written_by, written_as, ground_by, ground}
use Rattle.encode_form.specs.Grounds.{are_all_yes, ReadsBy, OperandsOf, bytes_by, WrittenIn, Grounded}

-- ---- the first no of a list: those before it get yes
record Splits (qs : List Asked) (q : Asked) : Type 0 where
  pub before : List Asked
  pub behind : List Asked
  pub in_order : qs ≡ before ++ (q ∷ behind)
  pub yes_before : are_all_yes before ≡ true
  pub gets_no : q.yes ≡ false

splits : (qs : List Asked) (q : Asked) → first_no qs ≡ no q → Splits qs q
splits [] q e = let z : ◌≡◌ {A = ℕ} 0 1 = cc in absurd (omega arith)
splits (r ∷ qs) q e = go r.yes refl (λ h. splits qs q h) e
  where
    go : (t : Bool) → r.yes ≡ t → (first_no qs ≡ no q → Splits qs q) → pick t (first_no qs) (no r) ≡ no q → Splits (r ∷ qs) q
    go true h rest e =
        let s = rest e in
        record {
          before = r ∷ s.before;
          behind = s.behind;
          in_order = ap (λ (l : List Asked). r ∷ l) s.in_order;
          yes_before = rw h s.yes_before;
          gets_no = s.gets_no;
        }
    go false h rest e =
        let z : r ≡ q = cc in
        record { before = []; behind = qs; in_order = ap (λ (x : Asked). x ∷ qs) z; yes_before = refl; gets_no = sym (ap (λ (x : Asked). x.yes) z) ∙ h }

-- ---- the form by which the bytes of a form read
module _ (f : Form) (bs : List ℕ) (b : Begun f bs) where
  behind_is : (b.c ≡ 0x90 → ⊥) → form_behind (b.c ∷ (second_bytes f.extension b.x ++ b.rest)) ≡ name_of f
  behind_is n =
      rw (← (second_agrees b.c b.begins.c_byte {f = f} (among 0 b.p b.c b.x b.rest f b.begins)))
      (go (has_second f.extension) refl)
    where
      go : (i : Bool) → has_second f.extension ≡ i
          → first_of (pick i (fitting (get_or (pick i (b.x ∷ []) [] ++ b.rest) 0 0) (starting_with b.c)) (starting_with b.c)) ≡ name_of f
      go true e = rw (fits_alone 0 b.p b.c b.x b.rest f b.begins n true e)
      go false e = rw (fits_alone 0 b.p b.c b.x b.rest f b.begins n false e)

  at_90_is : b.c ≡ 0x90 → form_behind (b.c ∷ (second_bytes f.extension b.x ++ b.rest)) ≡ named 0x90 F.+r
  at_90_is e = rw (e, at_90) refl

  -- a prefix is passed over
  own_form : (m : FormName) → form_behind (b.c ∷ (second_bytes f.extension b.x ++ b.rest)) ≡ m → form_plain bs ≡ m
  own_form m e = rw b.in_order (go (eqb b.p 0) b.prefixed)
    where
      s : List ℕ
      s = b.c ∷ (second_bytes f.extension b.x ++ b.rest)

      go : (i : Bool) → either i (prefix b.p) ≡ true → form_plain (pick i [] (b.p ∷ []) ++ s) ≡ m
      go true h = rw (no_prefix_byte 0 b.p b.c b.x b.rest f b.begins (prefix b.c) refl) e
      go false h = rw h e

-- ---- the repeat is passed over
behind_repeat : (p : ℕ) (s : List ℕ) → repeats (prefix_bytes p ++ s) ≡ isnt (eqb p 0) → form_of (prefix_bytes p ++ s) ≡ form_plain s
behind_repeat p s e = go (eqb p 0) s e
  where
    go : (i : Bool) (s : List ℕ) → repeats (pick i [] (p ∷ []) ++ s) ≡ isnt i → form_of (pick i [] (p ∷ []) ++ s) ≡ form_plain s
    go true [] e = refl
    go true (b ∷ s) e = rw e refl
    go false s e = rw e refl

-- ---- every record at every offset
module _ (insn : InstructionData) (off : ℕ) (h : off < 65536) where
  read_by : (f : Form) (x y : OperandData) → Chosen insn off f x y → Reads off (meaning insn) (bytes_by insn off f x y)
      → ReadsBy off (bytes_by insn off f x y) (meaning insn) (name_of f)
      ⊎ (((written_by (group_of insn.operation) f x y).opcode ≡ 0x90) × ReadsBy off (bytes_by insn off f x y) (meaning insn) (named 0x90 F.+r))
  unfolding decoded
  read_by f x y k r = go (eqb b.c 0x90) refl
    where
      b : Begun f (layout f off x y)
      b = begun f k.listed (arranged_is insn off f x y k) off h x y k.first k.second

      opcode_is : b.c ≡ (written_by (group_of insn.operation) f x y).opcode
      opcode_is = begun_opcode f k.listed (arranged_is insn off f x y k) off h x y k.first k.second

      by : (m : FormName) → form_behind (b.c ∷ (second_bytes f.extension b.x ++ b.rest)) ≡ m → ReadsBy off (bytes_by insn off f x y) (meaning insn) m
      by m e =
          rw (
            r.reads_it,
            behind_repeat insn.repeat (layout f off x y) (repeats_by off (bytes_by insn off f x y) (meaning insn) _ r.reads_it),
            own_form f (layout f off x y) b m e,
          )

      go : (i : Bool) → eqb b.c 0x90 ≡ i
          → ReadsBy off (bytes_by insn off f x y) (meaning insn) (name_of f)
          ⊎ (((written_by (group_of insn.operation) f x y).opcode ≡ 0x90) × ReadsBy off (bytes_by insn off f x y) (meaning insn) (named 0x90 F.+r))
      go true e = let z = eqb-true b.c 0x90 e in inr (sym opcode_is ∙ z, by (named 0x90 F.+r) (at_90_is f (layout f off x y) b z))
      go false e = inl (by (name_of f) (behind_is f (layout f off x y) b (eqb-false b.c 0x90 e)))

  written_in : (f : Form) (x y : OperandData) → OperandsOf insn x y → Chosen insn off f x y → answer insn off ≡ bytes (bytes_by insn off f x y)
      → Reads off (meaning insn) (bytes_by insn off f x y) → WrittenIn insn off (written_by (group_of insn.operation) f x y)
  written_in f x y o k e r =
      record {
        form = f;
        first = x;
        second = y;
        operands_are = o;
        listed = k.listed;
        its_operation = operation_is insn off f x y k;
        takes_first = k.first_takes;
        takes_second = k.second_takes;
        is_written = refl;
        its_bytes = e;
        read_by = read_by f x y k r;
      }

  choice_in : (c : Choice) → ChosenAs insn off c → answer insn off ≡ bytes (prefix_bytes insn.repeat ++ written c off (dst insn) (src insn))
      → Reads off (meaning insn) (prefix_bytes insn.repeat ++ written c off (dst insn) (src insn))
      → WrittenIn insn off (written_as (group_of insn.operation) c (dst insn) (src insn))
  choice_in none k e r = absurd k
  choice_in (straight f) k e r = written_in f (dst insn) (src insn) (inl (refl, refl)) k e r
  choice_in (crossed f) (k, w) e r = written_in f (src insn) (dst insn) (inr (refl, refl)) k e r

  pub grounded : Grounded insn off (ground insn off)
  unfolding ground answer
  grounded = go (first_no (questions insn off)) refl
    where
      go : (r : First) → first_no (questions insn off) ≡ r
          → Grounded insn off (ground_by r (written_as (group_of insn.operation) (chosen insn) (dst insn) (src insn)))
      go all_yes e = choice_in (chosen insn) (chosen_is insn off e) (rw e refl) (all_yes_reads insn off h e)
      go (no q) e =
          let s = splits (questions insn off) q e in
          record {
            before = s.before;
            question = q;
            behind = s.behind;
            in_order = s.in_order;
            yes_before = s.yes_before;
            gets_no = s.gets_no;
            its_number = refl;
            its_refusal = rw e refl;
          }
