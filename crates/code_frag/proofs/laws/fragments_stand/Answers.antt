use Rattle.code_frag.proofs.LanguageLaws.{fragments_stand}
use Rattle.code_frag.proofs.laws.fragments_stand.Goals as goal

pub returns : goal.returns
returns c = fragments_stand
