-- Laws of what a code emits. A local holds bits, so what the code reads of an i32 z is `to_z w32 (of_z w32 z)`.
-- Assumes nothing.
use mathlib.Core.Path.{◌≡◌, refl, sym, ◌∙◌}
use mathlib.Core.Bool.{Bool, true, false}
use mathlib.Core.List.{List, [], ◌∷◌}
use Prim.Native.Nat.{ℕ}
use lib.IntN.{ℤ, pos, negsuc}
use mir.Syntax.{w32}
use mir.Val.{SFits, to_z, of_z}
use mir.ValLaws.{to_z-of_z}
use Rattle.std.specs.Prelude.{Result, Ok, Err}
use Rattle.mrc_compiler.specs.declared.ast.Span.{Span}
use Rattle.mrc_compiler.specs.declared.encoder.EncodeError.{EncodeError}
use Rattle.mrc_compiler.specs.declared.encoder.EncodeError.TheVariants as E
use Rattle.mrc_compiler.specs.declared.encoder.OperandData.{OperandData}
use Rattle.mrc_compiler.specs.declared.encoder.OperandSize.TheVariants as S
use Rattle.mrc_compiler.specs.Choose.{pick}
use Rattle.mrc_compiler.specs.Values.{within, mod_z}
use Rattle.base_values.specs.Distances.{distance_of, wrapped, relative_of}
use Rattle.encode_spec.specs.Layout.{byte_of}
use Rattle.encode_spec.specs.Answer.{Answer, bytes, refused}
use Rattle.encode_fields.specs.Fields.{required, ranged, relative_byte}

-- ---- a value in its limits or not, by what require_within answered of the three values' bits
module _ (low high value : ℤ) (span : Span) (fl : SFits w32 low) (fh : SFits w32 high) (fv : SFits w32 value) {r : Result (Unit {0}) EncodeError}
    (e : r ≡ required (to_z w32 (of_z w32 low)) (to_z w32 (of_z w32 high)) (to_z w32 (of_z w32 value)) span) where
  same : r ≡ required low high value span
  same = rw (to_z-of_z w32 low fl, to_z-of_z w32 high fh, to_z-of_z w32 value fv) at e

  pub in_limits : {u : Unit {0}} (bs : List ℕ) → r ≡ Ok u → ranged low high value span bs ≡ bytes bs
  in_limits {u} bs q = go (within low high value) (E.ImmediateOutOfRange span value low high) (sym same ∙ q) where
    go : (t : Bool) (x : EncodeError) → pick t (Ok u) (Err x) ≡ Ok u → pick t (bytes bs) (refused x) ≡ bytes bs
    go true x h = refl
    go false x h = cc

  pub out_of_limits : {y : EncodeError} (bs : List ℕ) → r ≡ Err y → ranged low high value span bs ≡ refused y
  out_of_limits {y} bs q = go (within low high value) (E.ImmediateOutOfRange span value low high) tt (sym same ∙ q) where
    go : (t : Bool) (x : EncodeError) (u : Unit {0}) → pick t (Ok u) (Err x) ≡ Err y → pick t (bytes bs) (refused x) ≡ refused y
    go true x u h = cc
    go false x u h = cc

-- ---- a distance byte or the distance refused, as relative_byte answered
short : (t : Bool) (x b : ℕ) (y : ℤ) (a : Answer) → pick t (Ok x) (Err y) ≡ Ok b → pick t (bytes (x ∷ [])) a ≡ bytes (b ∷ [])
short true x b y a h = let q : x ≡ b = cc in rw q
short false x b y a h = cc

far : (t : Bool) (x : ℕ) (y d : ℤ) (a : Answer) (error : ℤ → EncodeError) → pick t (Ok x) (Err y) ≡ Err d → pick t a (refused (error y)) ≡ refused (error d)
far true x y d a error h = cc
far false x y d a error h = let q : y ≡ d = cc in rw q

module _ (o : OperandData) (off size : ℕ) where
  pub relative_short : {b : ℕ} → relative_of (distance_of o.imm off size) ≡ Ok b → relative_byte o off size ≡ bytes (b ∷ [])
  unfolding relative_byte
  relative_short {b} h =
      let d = distance_of o.imm off size in
      short (within (negsuc 127) (pos 127) d) (mod_z 256 d) b (wrapped d) (refused (E.RelativeJumpOutOfRange o.span S.Byte true (wrapped d))) h

  pub relative_far : {f : ℤ} → relative_of (distance_of o.imm off size) ≡ Err f → relative_byte o off size ≡ refused (E.RelativeJumpOutOfRange o.span S.Byte true f)
  unfolding relative_byte
  relative_far {f} h =
      let d = distance_of o.imm off size in
      far (within (negsuc 127) (pos 127) d) (mod_z 256 d) (wrapped d) f (bytes (byte_of d)) (λ z. E.RelativeJumpOutOfRange o.span S.Byte true z) h
