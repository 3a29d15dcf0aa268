use Rattle.code_frag.proofs.RegionLaws.{regions_in_order}
use Rattle.code_frag.proofs.laws.regions_are_in_order.Goals as goal

pub returns : goal.returns
returns c = regions_in_order
