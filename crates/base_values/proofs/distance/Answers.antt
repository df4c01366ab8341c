use Rattle.std.proofs.Common.{◌+◌, arith}
use Rattle.base_values.proofs.Laws.{target_fits, distance_fits, distance_same}
use Rattle.base_values.proofs.distance.Goals as goal

pub overflow_cast-result : goal.overflow_cast-result
overflow_cast-result c = target_fits c.args.target c.ranges.target

pub overflow_sub-result : goal.overflow_sub-result
overflow_sub-result c = distance_fits c.args.target (c.args.offset + c.args.size) c.ranges.target (omega arith)

pub returns : goal.returns
returns c = distance_same c.args.target (c.args.offset + c.args.size) c.ranges.target (omega arith)
