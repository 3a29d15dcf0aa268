-- `interp FILE`: why it ends as it does, and what it promises. This project's own.
use Rattle.std.specs.Prelude.{◌≡◌, ℕ, List}
use Rattle.bv_base.specs.Limits.{file_bytes}
use Rattle.bas_ast.specs.declared.program.Prog.{Prog}
use Rattle.bas_sem.specs.Meaning.{source_run}
use Rattle.profile_check.specs.Files as files
use Rattle.profile_check.specs.Files.{Accepted}
use Rattle.basv_top.specs.declared.status.Status.{Status}
use Rattle.basv_top.specs.Ending.{Ending, Refused, long_file}
use Rattle.basv_top.specs.Running.{Runner, EndsRunning}
use Rattle.basv_top.specs.RunPromises.{RunPromises}
use Rattle.basv_top.specs.Seen.{SeenShelf, SeenSink}
use Rattle.basv_words.specs.Command.{Options}

-- the bytes of a program's file are refused so by `interp`
abbrev pub NoProgram : List ℕ → Ending → Type 0
NoProgram bytes (Refused reason) = files.Refused bytes reason
NoProgram bytes ending = ⊥

-- the bytes are accepted as a program, and this is what the program does
abbrev pub RunsAsMeant : List ℕ → Runner → Type 0
RunsAsMeant bytes runner = (prog : Prog) × Accepted bytes prog × (runner ≡ source_run prog)

-- why `interp` ends so
abbrev pub EndsInterp : SeenShelf → SeenShelf → SeenSink → SeenSink → List ℕ → Options → Ending → Type 0
EndsInterp = EndsRunning RunsAsMeant NoProgram file_bytes long_file

-- what `interp` promises of its status
abbrev pub Interprets : SeenShelf → SeenShelf → SeenSink → SeenSink → List ℕ → Options → Status → Type 0
Interprets = RunPromises RunsAsMeant NoProgram
