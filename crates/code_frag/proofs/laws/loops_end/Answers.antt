use Rattle.code_frag.proofs.LanguageLaws.{loops_end}
use Rattle.code_frag.proofs.laws.loops_end.Goals as goal

pub returns : goal.returns
returns g c = loops_end g.D.Demand.asks g.D.Demand.does g.D.Demand.post g.I.LoopInvariant.holds
