use Rattle.std.proofs.Common.{arith, rules}
use Rattle.cue_compile.proofs.Bytes.{Sound}
use Rattle.cue_compile.proofs.Laws.{fits_1, ends_1, fits_2, fits_3, fits_4, cue_placed}
use Rattle.cue_compile.proofs.place_cue.Goals as goal

pub place-a-requires : goal.place-a-requires
place-a-requires c =
    let q = c.args.cue in
    let k : Sound q = record { delay_fits = search rules; port_fits = search rules; mask_fits = search rules } in
    fits_1 c.args.image.now q k c.args.at c.requires _ c.move_delay.ensures

pub overflow_cast-a : goal.overflow_cast-a
overflow_cast-a c =
    let q = c.args.cue in
    let k : Sound q = record { delay_fits = search rules; port_fits = search rules; mask_fits = search rules } in
    let e = ends_1 c.args.image.now q k c.args.at c.requires _ c.move_delay.ensures _ c.place-a.ensures.value in
    let h = c.requires.0 in
    omega arith

pub place-b-requires : goal.place-b-requires
place-b-requires c =
    let q = c.args.cue in
    let k : Sound q = record { delay_fits = search rules; port_fits = search rules; mask_fits = search rules } in
    fits_2 c.args.image.now q k c.args.at c.requires _ c.move_delay.ensures _ c.place-a.ensures.value _ c.place-a.ensures.image_after _ c.loop_to.ensures

pub place-d-requires : goal.place-d-requires
place-d-requires c =
    let q = c.args.cue in
    let k : Sound q = record { delay_fits = search rules; port_fits = search rules; mask_fits = search rules } in
    fits_3 c.args.image.now q k c.args.at c.requires _ c.move_delay.ensures _ c.place-a.ensures.value _ c.place-a.ensures.image_after _ c.loop_to.ensures _ c.place-b.ensures.value _ c.place-b.ensures.image_after _ c.move_mask.ensures

pub place-requires : goal.place-requires
place-requires c =
    let q = c.args.cue in
    let k : Sound q = record { delay_fits = search rules; port_fits = search rules; mask_fits = search rules } in
    fits_4 c.args.image.now q k c.args.at c.requires _ c.move_delay.ensures _ c.place-a.ensures.value _ c.place-a.ensures.image_after _ c.loop_to.ensures _ c.place-b.ensures.value _ c.place-b.ensures.image_after _ c.move_mask.ensures _ c.place-d.ensures.value _ c.place-d.ensures.image_after _ c.output_to.ensures

pub returns : goal.returns
returns c =
    let q = c.args.cue in
    let k : Sound q = record { delay_fits = search rules; port_fits = search rules; mask_fits = search rules } in
    let it = cue_placed c.args.image.now q k c.args.at c.requires _ c.move_delay.ensures _ c.place-a.ensures.value _ c.place-a.ensures.image_after _ c.loop_to.ensures _ c.place-b.ensures.value _ c.place-b.ensures.image_after _ c.move_mask.ensures _ c.place-d.ensures.value _ c.place-d.ensures.image_after _ c.output_to.ensures _ c.place.ensures.value _ c.place.ensures.image_after in
    record { value = it.0; image_after = it.1 }
