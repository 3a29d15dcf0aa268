use Rattle.std.proofs.lemmas.Result.{IfOk-weaker}
use Rattle.bas_compile.proofs.Composed.{agrees_through, data_short}
use Rattle.bas_compile.proofs.compiler.image_of.Goals as goal

pub returns-clause-agrees : goal.returns-clause-agrees
returns-clause-agrees c = IfOk-weaker c.generate_code.result _ _ (λ words agrees. agrees_through c.args.prog.now c.in_ok-ir.ir words.items c.in_ok-ir.ensures c.flat_runs_agree.ensures agrees) c.generate_code.ensures.agrees

pub generate_code-requires-clause-short_data : goal.generate_code-requires-clause-short_data
generate_code-requires-clause-short_data c = data_short 251 c.args.prog.now c.in_ok-ir.ir c.in_ok-ir.ensures c.requires.data
