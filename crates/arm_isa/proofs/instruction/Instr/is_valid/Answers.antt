use Rattle.arm_isa.proofs.ValidTest.{valid_iff}
use Rattle.arm_isa.proofs.instruction.Instr.is_valid.Goals as goal

pub returns-clause-valid : goal.returns-clause-valid
returns-clause-valid c = valid_iff c.args.self.now _ c.fields_fit.ensures
