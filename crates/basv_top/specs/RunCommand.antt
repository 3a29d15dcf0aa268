-- `run IMAGE`: why it ends as it does, and what it promises. This project's own.
use Rattle.std.specs.Prelude.{◌≡◌, ◌⊎◌, ℕ, ◌<◌, ◌≤◌, List, length}
use Rattle.bv_base.specs.Limits.{image_bytes}
use Rattle.bv_base.specs.Words.{AreWords}
use Rattle.arm2_machine.specs.Image as images
use Rattle.arm2_machine.specs.Image.{ImageOf, IsTooLong}
use Rattle.arm2_machine.specs.Step.{board_run}
use Rattle.basv_top.specs.declared.status.Status.{Status}
use Rattle.basv_top.specs.Ending.{Ending, Refused, NotImage, long_image}
use Rattle.basv_top.specs.Running.{Runner, EndsRunning}
use Rattle.basv_top.specs.RunPromises.{RunPromises}
use Rattle.basv_top.specs.Seen.{SeenShelf, SeenSink}
use Rattle.basv_words.specs.Command.{Options}

-- The bytes of an image's file are refused so by `run`: they are too many, or say that they have too many words, or are
-- no image.
abbrev pub Unrunnable : List ℕ → Ending → Type 0
Unrunnable bytes (Refused reason) = ((image_bytes < length bytes) ⊎ IsTooLong bytes) × (reason ≡ long_image)
Unrunnable bytes (NotImage at) = (length bytes ≤ image_bytes) × images.NotImage bytes at
Unrunnable bytes ending = ⊥

-- the bytes are an image, and this is the board's run of its words
abbrev pub RunsOnBoard : List ℕ → Runner → Type 0
RunsOnBoard bytes runner = (words : List ℕ) × AreWords words × ImageOf bytes words × (runner ≡ board_run words)

-- why `run` ends so
abbrev pub EndsRun : SeenShelf → SeenShelf → SeenSink → SeenSink → List ℕ → Options → Ending → Type 0
EndsRun = EndsRunning RunsOnBoard Unrunnable image_bytes long_image

-- what `run` promises of its status
abbrev pub Runs : SeenShelf → SeenShelf → SeenSink → SeenSink → List ℕ → Options → Status → Type 0
Runs = RunPromises RunsOnBoard Unrunnable
