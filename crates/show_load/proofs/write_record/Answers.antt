use Rattle.show_load.proofs.Laws.{ran, none_ran}
use Rattle.fast_run.proofs.Laws.{ne_positive, unpacked-length}
use Rattle.std.proofs.Common.{refl, arith, le-leb}
use Rattle.show_load.proofs.write_record.Goals as goal

pub write_packed-requires : goal.write_packed-requires
write_packed-requires c =
    let p = c.packed_step-packed in
    let e = p.ensures (ne_positive p.result c.if-packed-ne0.true) in
    rw (e, unpacked-length p.result) at c.requires.3

pub returns-then-packed-ne0 : goal.returns-then-packed-ne0
returns-then-packed-ne0 c =
    let p = c.packed_step-packed in
    let e = p.ensures (ne_positive p.result c.if-packed-ne0.true) in
    record { value = rw e c.length_of.ensures; out_after = rw e c.write_packed.ensures }

pub write_run-requires : goal.write_run-requires
write_run-requires c =
    let a = c.args in
    let r = ran a.file.now a.origin a.k a.at c.run_at.ensures c.in-Ok.is in
    omega arith

pub returns-in-Ok : goal.returns-in-Ok
returns-in-Ok c =
    let b = c in
    let r = ran c.args.file.now c.args.origin c.args.k c.args.at c.run_at.ensures c.in-Ok.is in
    record { value = r.count; out_after = rw (r.shown, r.count, le-leb _ _ c.requires.3) at c.write_run.ensures.out_after }

pub returns-in-Err : goal.returns-in-Err
returns-in-Err c =
    let b = c in
    rw (none_ran c.args.file.now c.args.origin c.args.k c.args.at c.run_at.ensures c.in-Err.is) (record { value = refl; out_after = refl })
