use mathlib.Core.Path.{◌≡◌, refl}
use mathlib.Core.Logic.{⊎_elim}
use Prim.Native.Nat.{ℕ, ◌≤◌, ◌<◌}
use native.Mathlib.Omega.{arith}
use Rattle.mrc_compiler.specs.Operations.{operations}
use Rattle.reader.proofs.Laws.{string_range}
use Rattle.reader.proofs.string_operation.Goals as goal

none_of_four : (c : ℕ) → 0xA4 ≤ c → c < 0xA8 → (c ≡ 0xA4 → ⊥) → (c ≡ 0xA5 → ⊥) → (c ≡ 0xA6 → ⊥) → (c ≡ 0xA7 → ⊥) → c ≡ 0xAF
none_of_four c l h p q r s = omega arith

last-of-six : (c : ℕ) → 0xAA ≤ c → c < 0xB0 → (c ≡ 0xAA → ⊥) → (c ≡ 0xAB → ⊥) → (c ≡ 0xAC → ⊥) → (c ≡ 0xAD → ⊥) → (c ≡ 0xAE → ⊥) → c ≡ 0xAF
last-of-six c l h p q r s t = omega arith

pub returns-in-164 : goal.returns-in-164
unfolding operations
returns-in-164 c = rw c.in-164.is refl

pub returns-in-165 : goal.returns-in-165
unfolding operations
returns-in-165 c = rw c.in-165.is refl

pub returns-in-166 : goal.returns-in-166
unfolding operations
returns-in-166 c = rw c.in-166.is refl

pub returns-in-167 : goal.returns-in-167
unfolding operations
returns-in-167 c = rw c.in-167.is refl

pub returns-in-170 : goal.returns-in-170
unfolding operations
returns-in-170 c = rw c.in-170.is refl

pub returns-in-171 : goal.returns-in-171
unfolding operations
returns-in-171 c = rw c.in-171.is refl

pub returns-in-172 : goal.returns-in-172
unfolding operations
returns-in-172 c = rw c.in-172.is refl

pub returns-in-173 : goal.returns-in-173
unfolding operations
returns-in-173 c = rw c.in-173.is refl

pub returns-in-174 : goal.returns-in-174
unfolding operations
returns-in-174 c = rw c.in-174.is refl

-- what no other arm takes is AF
pub returns-in_default : goal.returns-in_default
unfolding operations
returns-in_default c =
    let r = c.in_default.in_default-own.rest in
    let n = c.args.c in
    rw (⊎_elim {C = n ≡ 0xAF} (λ w. none_of_four n w.0 w.1 r.0.0.0.0.0.0.0.0.1 r.0.0.0.0.0.0.0.1 r.0.0.0.0.0.0.1 r.0.0.0.0.0.1) (λ w. last-of-six n w.0 w.1 r.0.0.0.0.1 r.0.0.0.1 r.0.0.1 r.0.1 r.1) (string_range n c.ranges.c.fits c.requires)) refl
