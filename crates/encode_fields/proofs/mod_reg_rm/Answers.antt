use Rattle.encode_fields.specs.Fields.{mod_reg_rm}
use Rattle.encode_fields.proofs.mod_reg_rm.Goals as goal

pub returns : goal.returns
unfolding mod_reg_rm
returns c = rw (c.prefix_field.ensures, c.mod_rm_byte.ensures, c.displacement_field.ensures)
