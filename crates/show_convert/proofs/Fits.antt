-- A converted file fits where its length is answered.
-- Assumes nothing.
use Rattle.std.specs.Prelude.{Err, Ok, Result}
use mathlib.Core.Path.{◌≡◌, refl}
use mathlib.Core.Bool.{Bool, true, false}
use mathlib.Core.List.{List}
use Prim.Native.Nat.{ℕ, ◌≤◌}
use native.Mathlib.Omega.{arith}
use lib.Dec.{leb}
use lib.ListN.{length}
use borrow.Author.Tests.{leb-true}
use Rattle.show_file.specs.declared.LoadError.{LoadError}
use Rattle.show_file.specs.declared.Header.{Header}
use Rattle.mrc_compiler.specs.Choose.{pick}
use Rattle.convert_spec.specs.declared.ConvertError.TheVariants as X
use Rattle.convert_spec.specs.Written.{written}
use Rattle.convert_spec.specs.Converting.{fitted, converted}
use Rattle.convert_laws.proofs.Done.{done}

pub converted_fits : (file : List ℕ) (size m : ℕ) → converted file size ≡ Ok m → m ≤ size
converted_fits file size m q = let (h, d) = done file size m q in go (length (written file h)) d.image d.fits
  where
    by_fit : (n : ℕ) (b : Bool) → leb n size ≡ b → pick b (Ok n) (Err X.SliceTooShort) ≡ Ok m → m ≤ size
    by_fit n true e q = let t : n ≡ m = cc in let l = leb-true n size e in omega arith
    by_fit n false e q = let z : ◌≡◌ {A = ℕ} 0 1 = cc in absurd (omega arith)

    go : (n : ℕ) (l : Result (Header × ℕ) LoadError) → fitted n size l ≡ Ok m → m ≤ size
    go n (Ok (h, k)) q = by_fit n (leb n size) refl q
    go n (Err e) q = let z : ◌≡◌ {A = ℕ} 0 1 = cc in absurd (omega arith)
