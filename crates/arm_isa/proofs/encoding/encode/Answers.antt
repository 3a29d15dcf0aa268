use Rattle.arm_isa.proofs.RoundTrip.{means_at, only_at}
use Rattle.arm_isa.proofs.encoding.encode.Goals as goal

pub returns-clause-decodes : goal.returns-clause-decodes
returns-clause-decodes c = means_at _ c.args.i.now c.requires c.sum_of_fields.ensures

pub returns-clause-only : goal.returns-clause-only
returns-clause-only c = only_at _ c.args.i.now c.sum_of_fields.ensures
