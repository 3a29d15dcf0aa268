use Rattle.std.proofs.Common.{arith}
use Rattle.codegen.proofs.image_texts.text_of.Goals as goal

pub returns-in-Restore : goal.returns-in-Restore
returns-in-Restore c = rw c.in-Restore.is (omega (arith, c.saturating_add.ensures, c.len.ensures))
