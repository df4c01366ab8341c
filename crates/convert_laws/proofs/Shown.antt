-- A file that the converter opens: of version 1, with so many records of 56 bytes as its length holds.
-- Assumes nothing.
use Rattle.std.specs.Prelude.{Err, Ok}
use mathlib.Core.Path.{◌≡◌, refl, sym, ◌∙◌, ap}
use mathlib.Core.Bool.{Bool, true, false}
use mathlib.Core.List.{List}
use Prim.Native.Nat.{ℕ, ◌≤◌}
use native.Mathlib.Omega.{arith}
use lib.Dec.{eqb, leb}
use lib.ListN.{length}
use borrow.Author.Tests.{eqb-true, leb-true, le-leb}
use Rattle.mrc_compiler.specs.Choose.{pick, both, isnt}
use Rattle.encode_spec.proofs.Values.{false-true}
use Rattle.show_file.specs.declared.Header.{Header}
use Rattle.show_file.specs.declared.LoadError.{LoadError}
use Rattle.show_file.specs.declared.LoadError.TheVariants as E
use Rattle.show_file.specs.Show.{version_place, header_length, most_records, versions, counts_in, has_mark, u16_at, header, record_bytes, record_place, is_count, counted, headed, opened}
use Rattle.show_file.proofs.Opening.{opened_exact}
use Rattle.convert_spec.specs.Converting.{is_other_version, shown}
use Rattle.convert_laws.specs.Passed.{Show1}

shut : {P : Type 0} {e : LoadError} {h : Header} → Err e ≡ Ok h → P
shut q = let z : ◌≡◌ {A = ℕ} 0 1 = cc in absurd (omega arith)

pub each_is : (file : List ℕ) → u16_at file version_place ≡ 1 → record_bytes file ≡ 56
unfolding record_bytes
each_is file v = rw v refl

marked_by : (file : List ℕ) (h : Header) → opened most_records file ≡ Ok h → has_mark file ≡ true
unfolding opened
marked_by file h q = go (has_mark file) q
  where
    go : (b : Bool) → pick b (headed most_records file) (Err E.NoMark) ≡ Ok h → b ≡ true
    go true q = refl
    go false q = shut q

-- where mark and header are there and the version is no other, it is 1
version_by : (file : List ℕ) → is_other_version file ≡ false → has_mark file ≡ true → header_length ≤ length file → u16_at file version_place ≡ 1
unfolding is_other_version
version_by file e m l = go (eqb (u16_at file version_place) 1) refl (rw (m, le-leb header_length (length file) l) at e)
  where
    go : (b : Bool) → eqb (u16_at file version_place) 1 ≡ b → isnt b ≡ false → u16_at file version_place ≡ 1
    go true h q = eqb-true (u16_at file version_place) 1 h
    go false h q = false-true (sym q)

few_by : (file : List ℕ) (h : Header) → u16_at file version_place ≡ 1 → has_mark file ≡ true → header file ≡ h → header_length ≤ length file → opened most_records file ≡ Ok h → h.count ≤ 1000
unfolding opened headed is_count
few_by file h v m e l q =
    let c : (header file).count ≤ 1000 = go (leb 0 (header file).count) (leb (header file).count 1000) refl
    (sym (ap (λ (v : ℕ). counted most_records file (header file) (counts_in versions v)) v) ∙ rw (m, le-leb header_length (length file) l) at q) in
    rw (← (ap (λ (x : Header). x.count) e)) c
  where
    go : (a b : Bool) → leb (header file).count 1000 ≡ b
        → pick (both (both a (both b (leb (header file).count most_records))) (eqb (length file) (record_place file (header file).count))) (Ok (header file)) (Err E.WrongLength) ≡ Ok h
        → (header file).count ≤ 1000
    go a true t q = leb-true (header file).count 1000 t
    go true false t q = shut q
    go false false t q = shut q

pub shown_is : (file : List ℕ) (h : Header) → shown file ≡ Ok h → Show1 file h
shown_is file h q = go (is_other_version file) refl q
  where
    go : (b : Bool) → is_other_version file ≡ b → pick b (Err E.WrongVersion) (opened most_records file) ≡ Ok h → Show1 file h
    go true e q = shut q
    go false e q =
        let x = opened_exact most_records file h q in
        let long : header_length ≤ length file = omega (arith, x.its_length) in
        let m = marked_by file h q in
        let v = version_by file e m long in
        let w = each_is file v in
        record { its_header = x.its_header; marked = m; version = v; each = w; its_length = rw w at x.its_length; few = few_by file h v m x.its_header long q }
