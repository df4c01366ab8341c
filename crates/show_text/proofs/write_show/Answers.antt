use Rattle.show_text.proofs.Shown.{first_fits, first_in, whole_is}
use native.Mathlib.Omega.{arith}
use Rattle.show_text.proofs.write_show.Goals as goal

pub write_line-to-requires : goal.write_line-to-requires
write_line-to-requires c =
    let b = c in
    first_fits c.args.forms c.args.file.now c.args.header c.requires.1 c.args.out.now c.requires.3 c.first_line.result c.first_line.ensures

pub write_lines-requires : goal.write_lines-requires
write_lines-requires c =
    let b = c in
    let l = c.first_line in
    let w = c.write_line-to in
    (c.requires.0, omega (arith, c.requires.1), c.requires.2, (first_in c.args.forms c.args.file.now c.args.header c.requires.1 c.args.out.now c.requires.3 l.result l.ensures _ w.result w.ensures.value w.ensures.out_after).1)

pub overflow_add-result : goal.overflow_add-result
overflow_add-result c =
    let b = c in
    let l = c.first_line in
    let w = c.write_line-to in
    let h = (first_in c.args.forms c.args.file.now c.args.header c.requires.1 c.args.out.now c.requires.3 l.result l.ensures _ w.result w.ensures.value w.ensures.out_after).2 in
    let m = c.write_lines.ensures.value in
    omega arith

pub returns : goal.returns
returns c =
    let b = c in
    let l = c.first_line in
    let w = c.write_line-to in
    let s = c.write_lines in
    let it = whole_is c.args.forms c.args.file.now c.args.header c.requires.1 c.args.out.now c.requires.3 l.result l.ensures _ w.result w.ensures.value w.ensures.out_after _ s.result s.ensures.value s.ensures.out_after in record { value = it.0; out_after = it.1 }
