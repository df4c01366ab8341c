use Rattle.std.specs.Prelude.{◌≡◌, length}
use Rattle.std.proofs.Common.{◌∙◌, arith}
use Rattle.cue_compile.proofs.Laws.{found, searched_next, none_found}
use Rattle.cue_compile.proofs.some_without.Goals as goal

pub returns-then-cue_of-eq0 : goal.returns-then-cue_of-eq0
returns-then-cue_of-eq0 c =
    let st = c.in-Some.ensures.steps in
    let four : length c.in-Some.bytes.now ≡ 4 = st.1.1 ∙ c.loop-bytes.invariant.four in
    found c.args.cues.now _ c.loop-bytes.invariant.same _ _ st.1.0 four _ c.cue_of.ensures c.if-cue_of-eq0.true

pub loop-bytes-preserved : goal.loop-bytes-preserved
loop-bytes-preserved c =
    let st = c.in-Some.ensures.steps in
    let four : length c.in-Some.bytes.now ≡ 4 = st.1.1 ∙ c.loop-bytes.invariant.four in
    record {
      four = st.0 ∙ c.loop-bytes.invariant.four;
      same = searched_next c.args.cues.now _ c.loop-bytes.invariant.same _ _ st.1.0 four _ c.cue_of.ensures c.if-cue_of-eq0.false;
    }

pub returns : goal.returns
returns c =
    let o = c.loop-bytes.invariant in
    let st = c.in-None.ensures.steps in
    none_found c.args.cues.now _ o.same (omega arith)
