use Rattle.base_values.proofs.Laws.{up_add, up_cast, up_same, stay_cast, stay_same}
use Rattle.base_values.proofs.wrap_distance.Goals as goal

pub overflow_add-result : goal.overflow_add-result
overflow_add-result c = up_add c.args.d c.ranges.d c.if-d-ltminus2147483648.true c.requires.d_bound

pub overflow_cast-result : goal.overflow_cast-result
overflow_cast-result c = up_cast c.args.d c.ranges.d c.if-d-ltminus2147483648.true c.requires.d_bound

pub overflow_cast-result-else-d-ltminus2147483648 : goal.overflow_cast-result-else-d-ltminus2147483648
overflow_cast-result-else-d-ltminus2147483648 c = stay_cast c.args.d c.ranges.d c.if-d-ltminus2147483648.false c.requires.pos_value

pub returns-then-d-ltminus2147483648 : goal.returns-then-d-ltminus2147483648
returns-then-d-ltminus2147483648 c = up_same c.args.d c.ranges.d c.if-d-ltminus2147483648.true c.requires.d_bound

pub returns-else-d-ltminus2147483648 : goal.returns-else-d-ltminus2147483648
returns-else-d-ltminus2147483648 c = stay_same c.args.d c.ranges.d c.if-d-ltminus2147483648.false c.requires.pos_value
