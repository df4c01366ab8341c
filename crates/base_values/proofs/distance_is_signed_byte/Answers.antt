use Rattle.std.proofs.Common.{pos, negsuc, w64}
use Rattle.mrc_compiler.proofs.Laws.{low_holds, low_fails}
use Rattle.base_values.proofs.distance_is_signed_byte.Goals as goal

pub returns-then-d-geminus128 : goal.returns-then-d-geminus128
returns-then-d-geminus128 c = low_holds w64 (negsuc 127) (pos 127) c.args.d c.ranges.d c.if-d-geminus128.true

pub returns-else-d-geminus128 : goal.returns-else-d-geminus128
returns-else-d-geminus128 c = low_fails w64 (negsuc 127) (pos 127) c.args.d c.ranges.d c.if-d-geminus128.false
