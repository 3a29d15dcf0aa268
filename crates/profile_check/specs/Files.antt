-- Which program a file is accepted as, and why others are refused: the first cause in order. This project's own.
use Rattle.std.specs.Prelude.{◌≡◌, ℕ, ◌+◌, ◌<◌, ◌≤◌, List, [], ◌∷◌, length}
use Rattle.bv_base.specs.Limits.{file_bytes}
use Rattle.token_file.specs.declared.line.Line.{Line}
use Rattle.token_file.specs.declared.read.FileError.{FileError}
use Rattle.token_file.specs.declared.read.FileError.TheVariants as errors
use Rattle.token_file.specs.Lines.{Lines, Malformed}
use Rattle.bas_ast.specs.declared.program.Prog.{Prog}
use Rattle.profile_check.specs.declared.refusal.Refusal.{Refusal}
use Rattle.profile_check.specs.declared.refusal.Refusal.TheVariants as refusals
use Rattle.profile_check.specs.declared.refusal.Which.TheVariants as limits
use Rattle.profile_check.specs.Programs.{IsProgram}
use Rattle.profile_check.specs.Refused.{FirstOf, AreRefused}

-- The file is accepted as this program: it is short enough, and its lines are the program.
pub record Accepted (bytes : List ℕ) (prog : Prog) : Type 0 where
  pub short : length bytes ≤ file_bytes
  pub lines : List Line
  pub read : Lines bytes lines
  pub program : IsProgram lines prog

-- what a file can be refused for, in the order in which it is asked: its length, its records, its lines
pub data FileCause : Type 0 where
  TooLong NoLines BadLines : FileCause

abbrev pub file_causes : List FileCause
file_causes = TooLong ∷ NoLines ∷ BadLines ∷ []

-- a cause holds of a file, and this is the refusal for it
abbrev pub HoldsOfFile : List ℕ → FileCause → Refusal → Type 0
HoldsOfFile bytes TooLong reason = (file_bytes < length bytes) × (reason ≡ refusals.Limit limits.File (file_bytes + 1))
HoldsOfFile bytes NoLines reason = (at : ℕ) × Malformed bytes at × (reason ≡ refusals.Malformed at)
HoldsOfFile bytes BadLines reason = (lines : List Line) × Lines bytes lines × AreRefused lines reason

-- A file is refused for the first cause that holds. Want of memory is no cause of the file's own.
abbrev pub Refused : List ℕ → Refusal → Type 0
Refused bytes reason = FirstOf (HoldsOfFile bytes) file_causes reason

-- what a refusal says: the file is refused so, or there was no memory
abbrev pub FileExplained : List ℕ → Refusal → Type 0
FileExplained bytes refusals.NoMemory = Unit {0}
FileExplained bytes reason = Refused bytes reason

-- an error of the file's reader as a refusal
abbrev pub refusal_of : FileError → Refusal
refusal_of (errors.Malformed at) = refusals.Malformed at
refusal_of errors.NoMemory = refusals.NoMemory
