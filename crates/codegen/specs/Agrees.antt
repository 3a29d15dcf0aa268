-- The agreement of an image and what is compiled, whatever its language. This project's own.
use Rattle.std.specs.Prelude.{ℕ, ◌^◌, ◌<◌, List}
use Rattle.std.specs.List.{AllByRecursion}
use Rattle.bv_run.specs.Outcome.{Outcome, RunsAgree}
use Rattle.arm2_machine.specs.Step.{board_run}

-- a list of bytes
abbrev pub AreBytes : List ℕ → Type 0
AreBytes bytes = AllByRecursion (λ b. b < 2 ^ 8) bytes

-- On every input, what runs from the source and the image of these words end alike or go on alike.
abbrev pub Agrees : (List ℕ → ℕ → Outcome) → List ℕ → Type 0
Agrees source words = (input : List ℕ) → AreBytes input → RunsAgree (source input) (board_run words input)
