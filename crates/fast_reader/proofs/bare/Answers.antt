use native.Mathlib.Omega.{arith}
use Rattle.fast_reader.proofs.Plain.{front_first, front_second}
use Rattle.fast_reader.proofs.bare.Goals as goal

pub returns-then-bytes-tail : goal.returns-then-bytes-tail
returns-then-bytes-tail c = λ h. absurd (omega (arith, c.no_words.ensures))

pub returns-then-order-eq0 : goal.returns-then-order-eq0
returns-then-order-eq0 c = λ h. front_first _ _ c.args.bytes.now c.requires.0 c.requires.1 (λ i. (c.shared_slice_known-1.given i).fits) c.requires.2 c.if-bytes-tail.false c.if-order-eq0.true _ c.value_by-value.ensures

pub returns : goal.returns
returns c = λ h. front_second _ _ c.args.bytes.now c.requires.0 c.requires.1 (λ i. (c.shared_slice_known-1.given i).fits) c.requires.2 c.if-bytes-tail.false c.if-order-eq0.false _ c.value_by-value.ensures
