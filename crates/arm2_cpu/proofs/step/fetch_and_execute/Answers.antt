use Rattle.arm2_cpu.proofs.TrapLaws.{word-keeps_at}
use Rattle.arm2_cpu.proofs.step.fetch_and_execute.Goals as goal

pub returns-in-Some-clause-trap : goal.returns-in-Some-clause-trap
returns-in-Some-clause-trap g c = word-keeps_at _ _ _ _ _ c.execute_word.ensures
