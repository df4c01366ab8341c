use mathlib.Core.Path.{refl, ap, ◌∙◌}
use Prim.Native.Nat.{ℕ, ◌+◌, ◌%◌}
use borrow.Author.Tests.{ne_eqb}
use Rattle.x86.specs.Reading.{sign_extended}
use Rattle.fast_reader.proofs.value_by.Goals as goal

pub returns-then-mode-eq0 : goal.returns-then-mode-eq0
returns-then-mode-eq0 c = rw c.if-mode-eq0.true refl

pub returns-then-mode-eq1 : goal.returns-then-mode-eq1
returns-then-mode-eq1 c = rw c.if-mode-eq1.true c.byte_at-b.ensures

pub returns-then-mode-eq2 : goal.returns-then-mode-eq2
returns-then-mode-eq2 c = rw c.if-mode-eq2.true c.word_at-w.ensures

pub returns-then-mode-eq3 : goal.returns-then-mode-eq3
returns-then-mode-eq3 c = rw c.if-mode-eq3.true (c.sign_extended-x.ensures ∙ ap (λ (n : ℕ). sign_extended n) c.byte_at-b.ensures)

pub returns-then-mode-eq4 : goal.returns-then-mode-eq4
returns-then-mode-eq4 c = rw c.if-mode-eq4.true (ap (λ (n : ℕ). (c.args.next + n) % 65536) (c.sign_extended-x.ensures ∙ ap (λ (n : ℕ). sign_extended n) c.byte_at-b.ensures))

pub returns-then-mode-eq5 : goal.returns-then-mode-eq5
returns-then-mode-eq5 c = rw c.if-mode-eq5.true (ap (λ (n : ℕ). (c.args.next + n) % 65536) c.word_at-w.ensures)

pub returns : goal.returns
returns c = rw (ne_eqb _ 0 c.if-mode-eq0.false, ne_eqb _ 1 c.if-mode-eq1.false, ne_eqb _ 2 c.if-mode-eq2.false, ne_eqb _ 3 c.if-mode-eq3.false, ne_eqb _ 4 c.if-mode-eq4.false, ne_eqb _ 5 c.if-mode-eq5.false, c.word_at-w.ensures, c.word_at.ensures) refl
