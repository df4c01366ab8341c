-- The bytes of an i32, and a sum that stays an i32.
-- Assumes nothing.
use mathlib.Core.Path.{◌≡◌, refl, ◌∙◌, ap}
use mathlib.Core.List.{List, [], ◌∷◌}
use Prim.Native.Nat.{ℕ, ◌+◌, ◌/◌, ◌%◌, ◌<◌, ◌≤◌}
use native.Mathlib.Omega.{arith}
use lib.IntN.{ℤ, pos, ◌+ℤ◌}
use lib.Seq.{drop-drop}
use borrow.Rule.Slice.PartMut.{put_mid}
use lib.Signed.{mag}
use mir.Syntax.{w32}
use mir.Val.{SFits, to_z, of_z}
use mir.ValLaws.{to_z-of_z, to_z_pos}
use Rattle.mrc_compiler.specs.Values.{mod_z}
use Rattle.convert_spec.specs.Written.{replaced}
use Rattle.convert_laws.proofs.Ranges.{sum_mag}
use Rattle.convert_laws.proofs.Starts.{plus}

-- ---- the bytes of an i32, one behind the other
pub four_put : (s : List ℕ) (at m n : ℕ) (z : ℤ) (last : List ℕ) → m ≡ 4 → n < 4294967296 → n ≡ mod_z 4294967296 z
    → last ≡ n % 256 ∷ n / 256 % 256 ∷ n / 65536 % 256 ∷ n / 16777216 % 256 ∷ [] → put_mid at m s last ≡ replaced s at z
four_put s at m n z last e f q l = let h : n / 16777216 % 256 ≡ n / 65536 / 256 = omega arith in rw (l, h, e, q, drop-drop 4 at s) refl

-- ---- a target and what is gained
module _ (z : ℤ) (g : ℕ) (f : SFits w32 z) (m : mag z < 70000) (l : g ≤ 217000) where
  sum_is : to_z w32 (of_z w32 z) +ℤ to_z w32 g ≡ z +ℤ pos g
  sum_is = rw (to_z-of_z w32 z f, to_z_pos w32 g (omega arith))

  fits : SFits w32 (z +ℤ pos g)
  fits = let s = sum_mag z g in record { sfits = omega arith }

  pub sum_fits : SFits w32 (to_z w32 (of_z w32 z) +ℤ to_z w32 g)
  sum_fits = rw sum_is fits

  pub sum_read : to_z w32 (of_z w32 (to_z w32 (of_z w32 z) +ℤ to_z w32 g)) ≡ z +ℤ pos g
  sum_read = rw sum_is (to_z-of_z w32 (z +ℤ pos g) fits)

pub word_read : (z : ℤ) (w g : ℕ) → w ≡ mod_z 65536 z → to_z w32 ((w + g) % 65536) ≡ pos (mod_z 65536 (z +ℤ pos g))
word_read z w g e = to_z_pos w32 ((w + g) % 65536) (omega arith) ∙ ap pos (rw (e, plus z g))
