-- The agreement of image and program. This project's own.
use Rattle.std.specs.Prelude.{◌≡◌, ℕ, List}
use Rattle.bv_base.specs.Words.{AreWords}
use Rattle.arm2_machine.specs.Image.{ImageOf}
use Rattle.bas_ast.specs.declared.program.Prog.{Prog}
use Rattle.bas_sem.specs.Meaning.{source_run}
use Rattle.codegen.specs.Agrees.{Agrees}
use Rattle.profile_check.specs.Files.{Accepted}

-- The bytes are accepted as one program, and the contents are an image that agrees with it.
pub record CompilesTo (bytes contents : List ℕ) : Type 0 where
  pub program : Prog
  pub words : List ℕ
  pub accepted : Accepted bytes program
  pub only : (other : Prog) → Accepted bytes other → other ≡ program
  pub are_words : AreWords words
  pub image : ImageOf contents words
  pub agrees : Agrees (source_run program) words
