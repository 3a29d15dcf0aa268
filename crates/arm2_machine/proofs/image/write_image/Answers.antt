use Rattle.std.proofs.Common.{arith}
use Rattle.std.proofs.lemmas.Grind.{common_steps}
use Rattle.bv_base.proofs.Words.{words_of}
use Rattle.arm2_machine.proofs.Images.{one_image}
use Rattle.arm2_machine.proofs.image.write_image.Goals as goal

pub returns-clause-image : goal.returns-clause-image
returns-clause-image c = record { spelled = grind (arith, common_steps); short = c.requires }

pub returns-clause-reading : goal.returns-clause-reading
returns-clause-reading c = one_image _ c.args.words.now (words_of c.args.words.now (λ k. omega (arith, c.type_inv.words k))) (returns-clause-image c)
