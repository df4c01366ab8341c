-- The text that is written fits the slice it was written to.
use Rattle.std.proofs.Common.{sym, ◌∙◌, length-take-le, arith}
use Rattle.show_text.proofs.Shown.{listed_fits}
use Rattle.fsqlist.proofs.print_text.Goals as goal

pub slice_bounds-write_all-end : goal.slice_bounds-write_all-end
slice_bounds-write_all-end g c =
    let fits = listed_fits _ _ _ _ (sym c.write_text.ensures.value ∙ c.in-Ok.is) in
    omega arith

pub slice_bounds-write_all-end-in-Ok : goal.slice_bounds-write_all-end-in-Ok
slice_bounds-write_all-end-in-Ok g c =
    let fits = listed_fits _ _ _ _ (sym c.write_text.ensures.value ∙ c.in-Ok.is) in
    sym (length-take-le c.in-Ok.n c.write_text.new.out (omega arith))
