use Rattle.std.proofs.lemmas.Result.{IfOk-weaker}
use Rattle.profile_check.proofs.FileVerdicts.{accepts_accepted, refuses_refused}
use Rattle.bas_compile.proofs.compiler.compile.Goals as goal

pub returns-clause-complete : goal.returns-clause-complete
returns-clause-complete c = λ program accepted. accepts_accepted c.args.bytes.now c.build_image.result program c.build_image.ensures.refused accepted

pub returns-clause-exact : goal.returns-clause-exact
returns-clause-exact c = λ reason refused. refuses_refused c.args.bytes.now c.build_image.result reason (IfOk-weaker c.build_image.result _ _ (λ contents compiled. (compiled.program, compiled.accepted)) c.build_image.ensures.headline) c.build_image.ensures.refused refused
