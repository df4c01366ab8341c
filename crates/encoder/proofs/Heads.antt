-- Prefix, opcode, ModRM and displacement: what a form's first codes answer, for each arrangement of its slots.
-- Assumes nothing.
use mathlib.Core.Path.{◌≡◌, refl}
use Prim.Native.Nat.{ℕ, ◌+◌, ◌*◌, ◌%◌, ◌≤◌, ◌<◌}
use native.Mathlib.Omega.{arith}
use native.Mathlib.Nat.{add-zero}
use mathlib.Core.List.{List, [], ◌∷◌, ◌++◌, append_assoc}
use lib.Dec.{T, eqb, ltb→lt, eqb-suc-zero}
use lib.ListN.{length}
use Rattle.mrc_compiler.specs.declared.encoder.InstructionData.{InstructionData}
use Rattle.mrc_compiler.specs.declared.encoder.OperandData.{OperandData}
use Rattle.mrc_compiler.specs.Choose.{pick}
use Rattle.x86.specs.Forms.{Slot, Extension}
use Rattle.x86.specs.Reading.{about}
use Rattle.x86.proofs.Unambiguous.{digit_ok}
use Rattle.encode_spec.specs.Layout.{prefix_bytes, displacement_bytes, Part, second}
use Rattle.encode_spec.specs.Answer.{bytes}
use Rattle.encode_spec.proofs.Slots.{Field, place_of, laid, Bounded}
use Rattle.encode_spec.proofs.Arrangements.{Arranged, bare, adjust, branch, address_first, address_second, bx_al, rm_digit, rm_reg, reg_rm, low3_first, low3_second, segment}
use Rattle.encode_plans.specs.Plans.{head, fixed, in_low_3}
use Rattle.encode_fields.specs.Fields.{operand, other, code_answer, mod_rm_byte, mod_reg_rm}
use Rattle.encoder.proofs.Joins.{listed}
use Rattle.encoder.proofs.Tails.{behind, codes, is_low_3}

-- the bytes by the parts of the two operands and their immediate bytes u and v
abbrev pub laid_out : Extension → ℕ → Part → Part → List ℕ → List ℕ → List ℕ
laid_out e c p q u v =
    p.prefix ++ (q.prefix ++ ((c + p.opcode + q.opcode) ∷ (second e (p.modrm + q.modrm) ++ (p.memory ++ (q.memory ++ (u ++ v))))))

-- prefix, opcode, ModRM and displacement of an operand in r/m, with the number n in the reg field
abbrev in_mod_rm : ℕ → OperandData → ℕ → List ℕ
in_mod_rm c o n = prefix_bytes o.segment_prefix ++ (c ∷ mod_rm_byte o.mode n o.rm ∷ displacement_bytes o)

-- no bytes are taken where there is no code for them
none_taken : (n : ℕ) (u : List ℕ) → length u ≡ n → ◌≡◌ {A = ℕ} (pick (eqb n 0) 0 1) 0 → u ≡ []
none_taken n [] e h = refl
none_taken n (x ∷ u) e h = let z : ◌≡◌ {A = ℕ} 1 0 = rw (← e, eqb-suc-zero (length u)) at h in absurd (omega arith)

-- the fields of ModRM, in whichever order they are added
fields : (m n r x : ℕ) → m < 4 → n < 8 → r < 8 → x ≡ m * 64 + n * 8 + r → x ≡ mod_rm_byte m n r
fields m n r x h k l e = omega arith

module _ (insn : InstructionData) (off i j : ℕ) (other_i : other insn i ≡ operand insn j) (other_j : other insn j ≡ operand insn i) where
  abbrev a : OperandData
  a = operand insn i

  abbrev b : OperandData
  b = operand insn j

  -- the bytes in front, by the first code and by the fixed one if there is one; behind them stands what is behind the opcode
  pub record Headed (e : Extension) (c : ℕ) (s t : Slot) (F G : Field) (u v : List ℕ) : Type 0 where
    pub front : List ℕ
    pub more : List ℕ
    pub front_is : code_answer (head e c s t i j) insn off ≡ bytes front
    pub more_is : listed insn off (fixed e) ≡ bytes more
    pub layout_is : laid_out e c (laid F a) (laid G b) u v ≡ front ++ (more ++ ((behind (place_of F) a ++ u) ++ (behind (place_of G) b ++ v)))

  headed_by : {e : Extension} {c : ℕ} {s t : Slot} {F G : Field} {u v : List ℕ} (x y : List ℕ)
      → code_answer (head e c s t i j) insn off ≡ bytes x → listed insn off (fixed e) ≡ bytes y
      → laid_out e c (laid F a) (laid G b) u v ≡ x ++ (y ++ ((behind (place_of F) a ++ u) ++ (behind (place_of G) b ++ v))) → Headed e c s t F G u v
  headed_by x y f m l = record { front = x; more = y; front_is = f; more_is = m; layout_is = l }

  -- one case for each arrangement; u and v are of m and n bytes
  pub headed : {e : Extension} {c : ℕ} {F : Field} {m : ℕ} {G : Field} {n : ℕ} → Arranged e c F m G n → c < 256 → T (digit_ok e)
      → (s t : Slot) (u v : List ℕ)
      → (about s).place ≡ place_of F → (about t).place ≡ place_of G → in_low_3 s ≡ is_low_3 F → Bounded F a → Bounded G b
      → length u ≡ m → length (fixed e) + (codes (place_of F) m + codes (place_of G) n) ≤ 1 → Headed e c s t F G u v
  unfolding mod_reg_rm
  headed {c = c} bare l d s t u v p q r x y w k = headed_by (c ∷ []) [] (rw (p, q)) refl (simp add-zero)
  headed {c = c} adjust l d s t u v p q r x y w k = headed_by (c ∷ []) (0x0A ∷ []) refl refl (simp add-zero)
  headed {c = c} branch l d s t u v p q r x y w k = headed_by (c ∷ []) [] (rw (p, q)) refl (simp add-zero)
  headed {c = c} address_first l d s t u v p q r x y w k =
      headed_by (prefix_bytes a.segment_prefix ++ (c ∷ [])) [] (rw p) refl (simp (add-zero, append_assoc))
  headed {c = c} (address_second {i = m}) l d s t u v p q r x y w k =
      headed_by (prefix_bytes b.segment_prefix ++ (c ∷ [])) [] (rw (p, q)) refl
      (simp (add-zero, append_assoc, none_taken m u w (omega arith)))
  headed {c = c} bx_al l d s t u v p q r x y w k =
      headed_by (prefix_bytes a.segment_prefix ++ (c ∷ [])) [] (rw p) refl (simp (add-zero, append_assoc))
  headed {c = c} (rm_digit {n = n}) l d s t u v p q r x y w k =
      let z = a.mode * 64 + a.rm + n * 8 in
      headed_by (in_mod_rm c a n) [] refl refl
      (simp (add-zero, fields a.mode n a.rm z x.mode_4 (ltb→lt n 8 d) x.rm_8 (omega arith), append_assoc))
  headed {c = c} rm_reg l d s t u v p q r x y w k =
      let z = a.mode * 64 + a.rm + b.rm * 8 in
      headed_by (in_mod_rm c a b.rm) [] (rw (p, other_i)) refl
      (simp (add-zero, fields a.mode b.rm a.rm z x.mode_4 y x.rm_8 (omega arith), append_assoc))
  headed {c = c} reg_rm l d s t u v p q r x y w k =
      let z = a.rm * 8 + (b.mode * 64 + b.rm) in
      headed_by (in_mod_rm c b a.rm) [] (rw (p, other_j)) refl
      (simp (add-zero, fields b.mode a.rm b.rm z y.mode_4 x y.rm_8 (omega arith), append_assoc))
  headed {c = c} (low3_first h) l d s t u v p q r x y w k =
      let z : (c + a.rm % 8) % 256 ≡ c + a.rm = omega arith in
      headed_by ((c + a.rm) ∷ []) [] (rw (r, z)) refl (simp add-zero)
  headed {c = c} (low3_second h) l d s t u v p q r x y w k =
      let z : (c + b.rm % 8) % 256 ≡ c + b.rm = omega arith in
      headed_by ((c + b.rm) ∷ []) [] (rw (r, z)) refl (simp add-zero)
  headed {c = c} (segment h) l d s t u v p q r x y w k =
      let z : (c + 8 * (a.rm % 4)) % 256 ≡ c + 8 * a.rm = omega arith in
      headed_by ((c + 8 * a.rm) ∷ []) [] (rw z) refl (simp add-zero)
