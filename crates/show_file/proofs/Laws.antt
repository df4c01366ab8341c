-- The laws that the questions about a show file rest on: the first record of a kind, and a record as the code hands it over.
-- Assumes nothing.
use mathlib.Core.Path.{◌≡◌, refl, sym, ◌∙◌, ap}
use mathlib.Core.Bool.{Bool, true, false}
use mathlib.Core.List.{List}
use Prim.Native.Nat.{ℕ, suc, ◌+◌, ◌*◌, ◌-◌, ◌<◌, ◌≤◌}
use native.Mathlib.Numerals.{add-one}
use native.Mathlib.Nat.{mul-suc, mul-le-mul, mul-le-mul_left}
use native.Mathlib.Omega.{arith}
use lib.Dec.{eqb}
use lib.ListN.{length, take, drop, length-drop}
use lib.Seq.{length-take-le}
use Rattle.mrc_compiler.specs.Choose.{pick, isnt}
use Rattle.show_record.specs.Record.{is_record, codes_known}
use Rattle.show_file.specs.Show.{header_length, version_place, versions, each_in, u16_at, record_bytes, record_at, first_from, is_unknown}

-- ---- the first that says yes
from_step : (f : ℕ → Bool) (n i : ℕ) → i < n → first_from f (n - i) i ≡ pick (f i) i (first_from f (n - (i + 1)) (i + 1))
from_step f n i h = let e : n - i ≡ suc (n - (i + 1)) = omega arith in rw (e, add-one i)

pub from_start : (f : ℕ → Bool) (n : ℕ) → first_from f n 0 ≡ first_from f (n - 0) 0
from_start f n = let e : n - 0 ≡ n = omega arith in rw e

pub from_end : (f : ℕ → Bool) (n i : ℕ) → i ≤ n → n ≤ i → first_from f n 0 ≡ first_from f (n - i) i → n ≡ first_from f n 0
from_end f n i h l e = let z : n - i ≡ 0 = omega arith in let s : n ≡ i = omega arith in s ∙ sym (e ∙ rw z)

pub from_yes : (f : ℕ → Bool) (n i : ℕ) → i < n → first_from f n 0 ≡ first_from f (n - i) i → f i ≡ true → i ≡ first_from f n 0
from_yes f n i h e t = sym (e ∙ from_step f n i h ∙ rw t)

pub from_no : (f : ℕ → Bool) (n i : ℕ) → i < n → first_from f n 0 ≡ first_from f (n - i) i → f i ≡ false
    → first_from f n 0 ≡ first_from f (n - (i + 1)) (i + 1)
from_no f n i h e t = e ∙ from_step f n i h ∙ rw t

-- ---- the bytes of a record: 56 or 57, whatever the version
pub each_is : (P : ℕ → Type 0) → P 56 → P 57 → (v : ℕ) → P (each_in versions v)
each_is P x y v = go (eqb v 1) (eqb v 2) (eqb v 3)
  where
    go : (a b c : Bool) → P (pick a 56 (pick b 56 (pick c 57 56)))
    go true b c = x
    go false true c = x
    go false false true = y
    go false false false = x

pub short_each : (v : ℕ) → eqb v 3 ≡ false → 56 ≡ each_in versions v
short_each v e = rw e (go (eqb v 1) (eqb v 2))
  where
    go : (a b : Bool) → ◌≡◌ {A = ℕ} 56 (pick a 56 (pick b 56 56))
    go true b = refl
    go false true = refl
    go false false = refl

pub bytes_are : (file : List ℕ) (v n : ℕ) → v ≡ u16_at file version_place → n ≡ each_in versions v → record_bytes file ≡ n
unfolding record_bytes
bytes_are file v n e q = sym (q ∙ ap (each_in versions) e)

pub most_bytes : (file : List ℕ) → record_bytes file ≤ 57
unfolding record_bytes
most_bytes file = each_is (λ n. n ≤ 57) (omega arith) (omega arith) (u16_at file version_place)

-- k records are not longer than the longest file
pub not_longer : (each k : ℕ) → each ≤ 57 → k ≤ 8000 → each * k ≤ 456000
not_longer each k h l = mul-le-mul h l

-- record k of n ends within them
pub ends_within : (each k n : ℕ) → k < n → each * k + each ≤ each * n
ends_within each k n h = omega (arith, mul-le-mul_left each h, mul-suc each k)

-- ---- a record as the code hands it over
pub handed_is : (file : List ℕ) (k each from : ℕ) → each ≡ record_bytes file → from ≡ header_length + each * k → take (from + each - from) (drop from file) ≡ record_at file k
handed_is file k each from e q = let z : from + each - from ≡ each = omega arith in rw (z, q, e) refl

pub handed_record : (file : List ℕ) (k each from : ℕ) → each ≡ record_bytes file → from + each ≤ length file
    → is_record (length (take (from + each - from) (drop from file))) ≡ true
unfolding record_bytes
handed_record file k each from e h =
    let z : from + each - from ≡ each = omega arith in
    let l : length (take each (drop from file)) ≡ each = length-take-le each (drop from file) (omega (arith, length-drop from file)) in
    rw (z, l, e) (each_is (λ n. is_record n ≡ true) refl refl (u16_at file version_place))

-- ---- a code that is not known
pub unknown_is : (file : List ℕ) (k : ℕ) (r t : Bool) → r ≡ codes_known (record_at file k) → r ≡ t → is_unknown file k ≡ isnt t
unfolding is_unknown
unknown_is file k r t q e = rw (← q, e) refl
