-- The entries of the run-time library: what each asks, and what it leaves. This project's own.
use Rattle.std.specs.Prelude.{◌≡◌, ◌⊎◌, ℕ, zero, suc, ◌+◌, ◌/◌, ◌%◌, ◌<◌, ◌≤◌, ◌==◌, not, ℤ, pos, List, [], ◌∷◌, ◌++◌, length, flat_map, slice_get, Option, None, Some, Result, Ok, Err}
use Rattle.std.specs.Int.{w32, cast_signed}
use Rattle.bas_ast.specs.declared.expressions.NumberFormat.TheVariants as formats
use Rattle.bas_value.specs.Errors.{error_texts, error_text}
use Rattle.bas_value.specs.Output.{Part, Number, Text, Field, NewLine, Spaces, Tab, Closing, part_bytes, column_after, spaces}
use Rattle.bv_base.specs.MemoryMap.{ram_end}
use Rattle.bv_num.specs.Operation.{operation, Multiply, Divide, Remainder}
use Rattle.bv_run.specs.declared.report.Report.TheVariants.{Failed}
use Rattle.arm_core.specs.Core.{Core, word}
use Rattle.code_frag.specs.Demands.{ToEnd, Out, Falls, Leaves}
use Rattle.code_frag.specs.Regions.{error_texts_start, residents_start, column_at, stack_start, stack_end, texts_register, base_register, stack_register}
use Rattle.bv_num.specs.Value.{data_value}
use Rattle.runtime_lib.specs.Data.{CanTakeItem, TakesNext}
use Rattle.runtime_lib.specs.Opened.{CanUseEntries, Opens, CanCloseEntry, ClosesLatest, CanTurn, TurnsLatest}

-- ---- numbers

-- the integer that a register is
abbrev pub number_in : Core → ℕ → ℤ
number_in s k = cast_signed w32 (s.regs k)

-- What an operation leaves: its result in R0 and 0 in R1; or its error in R1.
abbrev pub Answers : Result ℤ ℕ → Core → Type 0
Answers (Ok value) t = (t.regs 1 ≡ 0) × (number_in t 0 ≡ value)
Answers (Err error) t = t.regs 1 ≡ error

-- An entry comes back, with a result or an error. R9 to R13 are as they were, and so is all but registers and flags.
pub record Calculates (result : Result ℤ ℕ) (s : Core) (o : Out) (t : Core) : Type 0 where
  pub falls : o ≡ Falls
  pub answers : Answers result t
  pub kept : (k : ℕ) → texts_register ≤ k → k ≤ stack_register → t.regs k ≡ s.regs k
  pub mem : t.mem ≡ s.mem
  pub out : t.out ≡ s.out
  pub input : t.input ≡ s.input

-- ---- output

-- COUNT
abbrev pub column_in : Core → ℕ
column_in s = word s.mem column_at

-- An entry that writes finds the residents' address in its register, room for its frames on the stack, and a column.
pub record CanWrite (s : Core) : Type 0 where
  pub base : s.regs base_register ≡ residents_start
  pub aligned : s.regs stack_register % 4 ≡ 0
  pub room : stack_start + 256 ≤ s.regs stack_register
  pub inside : s.regs stack_register ≤ stack_end
  pub column : column_in s < 65536

-- what entries that write leave as it was: all but the column and the stack
abbrev pub IsUntouched : ℕ → Type 0
IsUntouched a = (a < column_at) ⊎ ((column_at + 4 ≤ a) × (a < stack_start))

-- Parts of the output are written. R9 to R13 are as they were, and so is the memory but for the column and the stack.
pub record Writes (bytes : List ℕ) (column : ℕ) (s t : Core) : Type 0 where
  pub out : t.out ≡ s.out ++ bytes
  pub column_is : column_in t ≡ column
  pub kept : (k : ℕ) → texts_register ≤ k → k ≤ stack_register → t.regs k ≡ s.regs k
  pub mem : (a : ℕ) → IsUntouched a → t.mem a ≡ s.mem a
  pub input : t.input ≡ s.input

-- an entry that writes a part comes back
pub record WritesPart (part : Part) (s : Core) (o : Out) (t : Core) : Type 0 where
  pub falls : o ≡ Falls
  pub writes : Writes (part_bytes part (column_in s)) (column_after part (column_in s)) s t

-- ---- texts in memory

-- n bytes from an address on
abbrev pub bytes_from : (ℕ → ℕ) → ℕ → ℕ → List ℕ
bytes_from m a zero = []
bytes_from m a (suc n) = m a ∷ bytes_from m (a + 1) n

-- the text at an address: its length is the byte there, and it comes after that
abbrev pub text_at : (ℕ → ℕ) → ℕ → List ℕ
text_at m a = bytes_from m (a + 1) (m a)

-- the texts of errors as they stand in the image: each after its number and its length, and then 255 with no text
abbrev pub error_table : List ℕ
error_table = flat_map (λ t. t.number ∷ length t.text ∷ t.text) error_texts ++ 255 ∷ 0 ∷ []

-- the image has them
abbrev pub HasErrorTexts : (ℕ → ℕ) → Type 0
HasErrorTexts m = bytes_from m error_texts_start (length error_table) ≡ error_table

-- ---- the end

-- what the closing text asks: an error in R0 and a line in R1
pub record CanClose (s : Core) : Type 0 where
  pub can_write : CanWrite s
  pub texts : HasErrorTexts s.mem
  pub error : s.regs 0 < 256
  pub line : s.regs 1 < 65536

-- the closing text is written, and the run is over
pub record Closes (s : Core) (o : Out) (t : Core) : Type 0 where
  pub ends : o ≡ Leaves (ToEnd (Failed (pos (s.regs 0)) (s.regs 1)))
  pub out : t.out ≡ s.out ++ part_bytes (Closing (error_text (s.regs 0)) (s.regs 1)) (column_in s)
  pub mem : (a : ℕ) → IsUntouched a → t.mem a ≡ s.mem a

-- ---- routines that the entries call

-- R1 spaces are written, and all but R0, R1 and the flags is as it was.
pub record WritesRun (s : Core) (o : Out) (t : Core) : Type 0 where
  pub falls : o ≡ Falls
  pub out : t.out ≡ s.out ++ spaces (s.regs 1)
  pub kept : (k : ℕ) → 2 ≤ k → t.regs k ≡ s.regs k
  pub mem : t.mem ≡ s.mem
  pub input : t.input ≡ s.input

-- R0 is divided by R1, both without sign: the quotient is left in R0 and the remainder in R1. R4 to R14 are as they were, and so is
-- all but registers and flags.
pub record Divides (s : Core) (o : Out) (t : Core) : Type 0 where
  pub falls : o ≡ Falls
  pub quotient : t.regs 0 ≡ s.regs 0 / s.regs 1
  pub remainder : t.regs 1 ≡ s.regs 0 % s.regs 1
  pub kept : (k : ℕ) → 4 ≤ k → t.regs k ≡ s.regs k
  pub mem : t.mem ≡ s.mem
  pub out : t.out ≡ s.out
  pub input : t.input ≡ s.input

-- ---- the routines, and their labels in the library

-- the entries, and the routines that they call
pub data Routine : Type 0 where
  Product Quotient Modulus : Routine
  DecimalNumber HexadecimalNumber : Routine
  SomeSpaces LineEnd StringOut ClosingText ToField ToTab : Routine
  Run Division : Routine
  Opening ClosingWord Turning : Routine
  NextItem ItemNumber : Routine

-- the label of a routine
abbrev pub label_of : Routine → ℕ
label_of Product = 0
label_of Quotient = 1
label_of Modulus = 2
label_of DecimalNumber = 3
label_of HexadecimalNumber = 4
label_of SomeSpaces = 5
label_of LineEnd = 6
label_of StringOut = 7
label_of ClosingText = 8
label_of ToField = 9
label_of ToTab = 10
label_of Run = 11
label_of Division = 12
label_of Opening = 13
label_of ClosingWord = 14
label_of Turning = 15
label_of NextItem = 16
label_of ItemNumber = 17

-- the routine of a label
abbrev pub routine_of : ℕ → Option Routine
routine_of label = slice_get (Product ∷ Quotient ∷ Modulus ∷ DecimalNumber ∷ HexadecimalNumber ∷ SomeSpaces ∷ LineEnd ∷ StringOut ∷ ClosingText ∷ ToField ∷ ToTab ∷ Run ∷ Division ∷ Opening ∷ ClosingWord ∷ Turning ∷ NextItem ∷ ItemNumber ∷ []) label

-- what a routine asks: a string is whole in memory
abbrev pub routine_asks : Routine → Core → Type 0
routine_asks Product s = Unit {0}
routine_asks Quotient s = Unit {0}
routine_asks Modulus s = Unit {0}
routine_asks StringOut s = CanWrite s × (s.regs 0 + 256 ≤ ram_end)
routine_asks ClosingText s = CanClose s
routine_asks Run s = Unit {0}
routine_asks Division s = 0 < s.regs 1
routine_asks Opening s = CanUseEntries s
routine_asks ClosingWord s = CanCloseEntry s
routine_asks Turning s = CanTurn s
routine_asks NextItem s = CanTakeItem s
routine_asks ItemNumber s = s.regs 0 + 256 ≤ ram_end
routine_asks _ s = CanWrite s

-- What a routine leaves. The left operand of an operation is in R1 and the right one in R0; a number that is written, or the
-- address of a string, is in R0; in R1 is 0 where a number is written as it is, and not in ten columns. What those of loops and GOSUBs
-- find in registers is said with them. The address of an item of DATA is in R0.
abbrev pub routine_does : Routine → Core → Out → Core → Type 0
routine_does Product s o t = Calculates (operation Multiply (number_in s 1) (number_in s 0)) s o t
routine_does Quotient s o t = Calculates (operation Divide (number_in s 1) (number_in s 0)) s o t
routine_does Modulus s o t = Calculates (operation Remainder (number_in s 1) (number_in s 0)) s o t
routine_does DecimalNumber s o t = WritesPart (Number (not (s.regs 1 == 0)) formats.Decimal (number_in s 0)) s o t
routine_does HexadecimalNumber s o t = WritesPart (Number (not (s.regs 1 == 0)) formats.Hexadecimal (number_in s 0)) s o t
routine_does SomeSpaces s o t = WritesPart (Spaces (number_in s 0)) s o t
routine_does LineEnd s o t = WritesPart NewLine s o t
routine_does StringOut s o t = WritesPart (Text (text_at s.mem (s.regs 0))) s o t
routine_does ClosingText s o t = Closes s o t
routine_does ToField s o t = WritesPart Field s o t
routine_does ToTab s o t = WritesPart (Tab (number_in s 0)) s o t
routine_does Run s o t = WritesRun s o t
routine_does Division s o t = Divides s o t
routine_does Opening s o t = Opens s o t
routine_does ClosingWord s o t = ClosesLatest s o t
routine_does Turning s o t = TurnsLatest s o t
routine_does NextItem s o t = TakesNext s o t
routine_does ItemNumber s o t = Calculates (data_value (text_at s.mem (s.regs 0))) s o t

-- a label without a routine is not called
abbrev pub asks_at : Option Routine → Core → Type 0
asks_at None s = ⊥
asks_at (Some routine) s = routine_asks routine s

abbrev pub does_at : Option Routine → Core → Out → Core → Type 0
does_at None s o t = ⊥
does_at (Some routine) s o t = routine_does routine s o t

-- the contracts of the library's labels
abbrev pub LibraryAsks : ℕ → Core → Type 0
LibraryAsks label s = asks_at (routine_of label) s

abbrev pub LibraryDoes : ℕ → Core → Out → Core → Type 0
LibraryDoes label s o t = does_at (routine_of label) s o t
