use Rattle.ir_build.proofs.Coded as coded
use Rattle.ir_build.proofs.laws.all_have_code.Goals as goal

pub returns-clause-has_code : goal.returns-clause-has_code
returns-clause-has_code c = coded.all_have_code c.args.prog.now

pub returns-clause-one_text : goal.returns-clause-one_text
returns-clause-one_text c = coded.at_most_one_text c.args.prog.now
