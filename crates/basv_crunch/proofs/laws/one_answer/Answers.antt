use Rattle.basv_crunch.proofs.OneAnswer.{one_answer}
use Rattle.basv_crunch.proofs.laws.one_answer.Goals as goal

pub returns : goal.returns
returns c = one_answer c.args.text.now
