use Rattle.std.proofs.lemmas.Result.{IfOk-weaker}
use Rattle.profile_check.proofs.FileVerdicts.{accepts_accepted, refuses_refused}
use Rattle.profile_check.proofs.file.read_program.Goals as goal

pub returns-clause-complete : goal.returns-clause-complete
returns-clause-complete c = λ prog accepted. accepts_accepted c.args.bytes.now c.read_bytes.result prog c.read_bytes.ensures.err accepted

pub returns-clause-exact : goal.returns-clause-exact
returns-clause-exact c = λ reason refused. refuses_refused c.args.bytes.now c.read_bytes.result reason (IfOk-weaker c.read_bytes.result _ _ (λ prog accepted. (prog, accepted)) c.read_bytes.ensures.ok) c.read_bytes.ensures.err refused
