use native.Mathlib.Omega.{arith}
use Rattle.encode_spec.specs.Answer.{answer}
use Rattle.cue_compile.proofs.Laws.{placed_length, placed_refused}
use Rattle.cue_compile.proofs.place.Goals as goal

pub overflow_add-result : goal.overflow_add-result
overflow_add-result c = let p = placed_length c.args.insn.opers_span c.args.at c.args.image.now (answer c.args.insn c.args.at) c.requires.1 _ c.encode-written.ensures.value _ c.in-Ok.is _ c.encode-written.ensures.out_after in let e = p.ends in let h = c.requires.1 in omega arith

pub returns-in-Ok : goal.returns-in-Ok
returns-in-Ok c =
    let p = placed_length c.args.insn.opers_span c.args.at c.args.image.now (answer c.args.insn c.args.at) c.requires.1 _ c.encode-written.ensures.value _ c.in-Ok.is _ c.encode-written.ensures.out_after in
    record { value = p.ends; image_after = p.image_is }

pub returns-in-Err : goal.returns-in-Err
returns-in-Err c =
    let p = placed_refused c.args.insn.opers_span c.args.at c.args.image.now (answer c.args.insn c.args.at) c.requires.1 _ c.encode-written.ensures.value _ c.in-Err.is _ c.encode-written.ensures.out_after in
    record { value = p.ends; image_after = p.image_is }
