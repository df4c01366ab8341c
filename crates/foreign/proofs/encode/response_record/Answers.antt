use Rattle.std.proofs.Common.{◌≡◌, true, leb, length, le-leb}
use Rattle.foreign.specs.EncodeRecord.{record_of, response_of, left_by}
use Rattle.fast_run.specs.Packed.{unpacked}
use Rattle.fast_run.proofs.Laws.{unpacked-length}
use Rattle.foreign.proofs.encode.response_record.Goals as goal

pub returns-then-fits-clause-value : goal.returns-then-fits-clause-value
unfolding record_of response_of left_by
returns-then-fits-clause-value c =
    let f = c.fits.ensures c.if-fits.true in
    let p = c.packed_at-packed.ensures f.0 in
    let l : leb (length (unpacked c.packed_at-packed.result)) (length c.args.out.now) ≡ true =
    le-leb (length (unpacked c.packed_at-packed.result)) (length c.args.out.now) (rw (unpacked-length c.packed_at-packed.result) f.1) in
    rw (p.has_record_length, p.known, p.is, l) (rw c.length_of-n.ensures at c.response_encoded.ensures)

pub returns-then-fits-clause-out_after : goal.returns-then-fits-clause-out_after
unfolding record_of response_of left_by
returns-then-fits-clause-out_after c =
    let f = c.fits.ensures c.if-fits.true in
    let p = c.packed_at-packed.ensures f.0 in
    let l : leb (length (unpacked c.packed_at-packed.result)) (length c.args.out.now) ≡ true =
    le-leb (length (unpacked c.packed_at-packed.result)) (length c.args.out.now) (rw (unpacked-length c.packed_at-packed.result) f.1) in
    rw (p.has_record_length, p.known, p.is, l) c.write_packed.ensures
