use Rattle.std.specs.Prelude.{Ok}
use Prim.Native.Nat.{ℕ, ◌+◌, ◌*◌}
use mathlib.Core.Path.{◌≡◌, refl, sym, ◌∙◌, ap}
use lib.ListN.{length}
use Rattle.convert_spec.specs.OldStarts.{first_copy}
use Rattle.convert_passes.proofs.Measuring.{exact}
use Rattle.show_convert.proofs.Answers.{handed_on, too_many, refused_there, no_room, room}
use Rattle.show_convert.proofs.convert_placed.Goals as goal

pub total-c-requires : goal.total-c-requires
total-c-requires c =
    let b = c in
    let f = c.args.file.now in
    let h = c.args.header in
    let F = c.requires.0 in
    (exact f h F.show, F.show.few, F.convertible.counts)

pub returns-then-c-gt1000 : goal.returns-then-c-gt1000
returns-then-c-gt1000 c =
    let b = c in
    let f = c.args.file.now in
    let h = c.args.header in
    let F = c.requires.0 in
    let z = length c.args.out.now in
    let t = c.total-c.ensures in
    record { value = too_many f h F.show c.requires.1 z (rw t at c.if-c-gt1000.true); out_after = refl }

pub returns-then-out-m : goal.returns-then-out-m
returns-then-out-m c =
    let b = c in
    let f = c.args.file.now in
    let h = c.args.header in
    let F = c.requires.0 in
    let z = length c.args.out.now in
    let t = c.total-c.ensures in
    let few = rw t at c.if-c-gt1000.false in
    let q = sym c.in_ok-measure.was ∙ c.measure.ensures in
    record { value = no_room f h F.show c.requires.1 z few q (rw t at c.if-out-m.true); out_after = refl }

pub write_all-requires : goal.write_all-requires
write_all-requires c =
    let b = c in
    let f = c.args.file.now in
    let h = c.args.header in
    let F = c.requires.0 in
    let t = c.total-c.ensures in
    (F, t, c.if-c-gt1000.false, c.if-out-m.false)

pub returns-in_err-measure-clause-value : goal.returns-in_err-measure-clause-value
returns-in_err-measure-clause-value c =
    let f = c.args.file.now in
    let h = c.args.header in
    let F = c.requires.0 in
    let few = rw c.total-c.ensures at c.if-c-gt1000.false in
    let q = sym c.in_err-measure.was ∙ c.measure.ensures in
    handed_on _ _ c.from_residual.ensures.1 ∙ refused_there f h F.show c.requires.1 (length c.args.out.now) few _ q

pub returns : goal.returns
returns c =
    let b = c in
    let f = c.args.file.now in
    let h = c.args.header in
    let F = c.requires.0 in
    let z = length c.args.out.now in
    let t = c.total-c.ensures in
    let few = rw t at c.if-c-gt1000.false in
    let q = sym c.in_ok-measure.was ∙ c.measure.ensures in
    let m : 9 + 56 * c.total-c.result ≡ 9 + 56 * first_copy f h.count = ap (λ (i : ℕ). 9 + 56 * i) t in
    record { value = ap Ok m ∙ room f h F.show c.requires.1 z few q (rw t at c.if-out-m.false); out_after = c.write_all.ensures }
