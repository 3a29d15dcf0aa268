use Rattle.code_frag.proofs.LanguageLaws.{language_sound}
use Rattle.code_frag.proofs.laws.language_is_sound.Goals as goal

pub returns : goal.returns
returns g c = language_sound g.D.Demand.asks g.D.Demand.does g.D.Demand.post
