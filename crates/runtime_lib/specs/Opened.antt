-- Open loops and GOSUBs in the board's memory, and what the routines on them ask and leave (BBC BASIC Reference Manual: FOR,
-- NEXT, REPEAT, UNTIL, WHILE, ENDWHILE, GOSUB, RETURN). How they stand in memory is this project's own.
use Rattle.std.specs.Prelude.{◌≡◌, ◌⊎◌, ℕ, zero, suc, ◌+◌, ◌*◌, ◌%◌, ◌<◌, ◌≤◌, ◌==◌, nat_le, Bool, if◌then◌else◌, ℤ, ◌+ℤ◌, int_le, Option, None, Some, Result, Ok, Err}
use Rattle.std.specs.Int.{w32, cast_signed}
use Rattle.bas_value.specs.Errors.{no_for, other_for, no_room, no_subroutine, no_repeat, no_while}
use Rattle.bv_num.specs.Operation.{in_range, is_negative}
use Rattle.arm_core.specs.Core.{Core, word}
use Rattle.code_frag.specs.Demands.{Out, Falls}
use Rattle.code_frag.specs.Regions.{residents_start, column_at, opened_count_at, depth_at, cells_start, arrays_start, opened_start, texts_register, base_register, stack_register}

-- ---- entries

-- the number of entries that there is room for
abbrev pub most_entries : ℕ
most_entries = 4096

-- the address of an open entry; the oldest is 0
abbrev pub entry_at : ℕ → ℕ
entry_at k = opened_start + 32 * k

-- the words of an entry: the depth of its call
abbrev pub depth_of : (ℕ → ℕ) → ℕ → ℕ
depth_of m k = word m (entry_at k)

-- what it is: for FOR the address of its variable, else a number below the residents
abbrev pub kind_of : (ℕ → ℕ) → ℕ → ℕ
kind_of m k = word m (entry_at k + 4)

-- the limit of FOR
abbrev pub limit_of : (ℕ → ℕ) → ℕ → ℕ
limit_of m k = word m (entry_at k + 8)

-- its step
abbrev pub step_of : (ℕ → ℕ) → ℕ → ℕ
step_of m k = word m (entry_at k + 12)

-- the address of the code at which the closing word goes on
abbrev pub code_of : (ℕ → ℕ) → ℕ → ℕ
code_of m k = word m (entry_at k + 16)

-- what an entry is that isn't FOR
abbrev pub repeat_kind : ℕ
repeat_kind = 1

abbrev pub while_kind : ℕ
while_kind = 2

abbrev pub gosub_kind : ℕ
gosub_kind = 3

-- ---- the entry that a closing word finds

-- whether the word of an entry is what is looked for: 0 looks for any FOR, another number for that very word
abbrev pub wants : ℕ → ℕ → Bool
wants zero kind = nat_le residents_start kind
wants (suc what) kind = kind == suc what

-- the latest of the first n entries that belongs to the call and is what is looked for; an entry of another call ends the search
abbrev pub nearest : (ℕ → ℕ) → ℕ → ℕ → ℕ → Option ℕ
nearest m depth what zero = None
nearest m depth what (suc k) =
    if depth_of m k == depth then (if wants what (kind_of m k) then Some k else nearest m depth what k) else None

-- the number of open entries
abbrev pub opened_count : (ℕ → ℕ) → ℕ
opened_count m = word m opened_count_at

-- the nearest of all entries, for the call that runs
abbrev pub latest : (ℕ → ℕ) → ℕ → Option ℕ
latest m what = nearest m (word m depth_at) what (opened_count m)

-- ---- errors

-- the error of a word that closes an entry of a kind
abbrev pub closing_error : ℕ → ℕ
closing_error kind = if kind == repeat_kind then no_repeat else if kind == while_kind then no_while else no_subroutine

-- the error of NEXT where no FOR is found, by the nearest FOR of any variable
abbrev pub turning_error : Option ℕ → ℕ
turning_error None = no_for
turning_error (Some other) = other_for

-- ---- what all of them ask and leave

-- the residents' address is in its register, and there are no more entries than there is room for
pub record CanUseEntries (s : Core) : Type 0 where
  pub base : s.regs base_register ≡ residents_start
  pub few : opened_count s.mem ≤ most_entries

-- a byte is none of a number of bytes from an address on
abbrev pub IsApart : ℕ → ℕ → ℕ → Type 0
IsApart start size a = (a < start) ⊎ (start + size ≤ a)

-- an entry comes back, with R0 and R9 to R13, the output and the input as they were
pub record ComesBack (s : Core) (o : Out) (t : Core) : Type 0 where
  pub falls : o ≡ Falls
  pub first : t.regs 0 ≡ s.regs 0
  pub kept : (k : ℕ) → texts_register ≤ k → k ≤ stack_register → t.regs k ≡ s.regs k
  pub out : t.out ≡ s.out
  pub input : t.input ≡ s.input

-- an error is in R1, and memory is as it was
pub record Fails (error : ℕ) (s t : Core) : Type 0 where
  pub error_is : t.regs 1 ≡ error
  pub mem : t.mem ≡ s.mem

-- ---- an entry is opened

-- It is the latest then: R1 is what it is, R2 its code, R3 its limit and R4 its step. All other memory is as it was.
pub record OpensEntry (s t : Core) : Type 0 where
  pub no_error : t.regs 1 ≡ 0
  pub count : opened_count t.mem ≡ opened_count s.mem + 1
  pub depth : depth_of t.mem (opened_count s.mem) ≡ word s.mem depth_at
  pub kind : kind_of t.mem (opened_count s.mem) ≡ s.regs 1
  pub limit : limit_of t.mem (opened_count s.mem) ≡ s.regs 3
  pub step : step_of t.mem (opened_count s.mem) ≡ s.regs 4
  pub code : code_of t.mem (opened_count s.mem) ≡ s.regs 2
  pub mem : (a : ℕ) → IsApart opened_count_at 4 a → IsApart (entry_at (opened_count s.mem)) 20 a → t.mem a ≡ s.mem a

-- where there is room, and else there is an error
pub record Opens (s : Core) (o : Out) (t : Core) : Type 0 where
  pub comes_back : ComesBack s o t
  pub opens : opened_count s.mem < most_entries → OpensEntry s t
  pub full : most_entries ≤ opened_count s.mem → Fails no_room s t

-- ---- UNTIL, ENDWHILE and RETURN

-- R1 is what is closed
pub record CanCloseEntry (s : Core) : Type 0 where
  pub entries : CanUseEntries s
  pub low : repeat_kind ≤ s.regs 1
  pub high : s.regs 1 ≤ gosub_kind

-- An entry is dropped with those above it, and its code is in R2. All other memory is as it was.
pub record ClosesEntry (k : ℕ) (s t : Core) : Type 0 where
  pub no_error : t.regs 1 ≡ 0
  pub code : t.regs 2 ≡ code_of s.mem k
  pub count : opened_count t.mem ≡ k
  pub mem : (a : ℕ) → IsApart opened_count_at 4 a → t.mem a ≡ s.mem a

-- the one that is found, or else there is an error
abbrev pub Closed : Option ℕ → Core → Core → Type 0
Closed None s t = Fails (closing_error (s.regs 1)) s t
Closed (Some k) s t = ClosesEntry k s t

pub record ClosesLatest (s : Core) (o : Out) (t : Core) : Type 0 where
  pub comes_back : ComesBack s o t
  pub closed : Closed (latest s.mem (s.regs 1)) s t

-- ---- NEXT

-- the address of a variable: a resident's word, or the cell of a name
abbrev pub IsVariable : ℕ → Type 0
IsVariable a = ((a % 4 ≡ 0) × (residents_start ≤ a) × (a < column_at)) ⊎ ((a % 8 ≡ 0) × (cells_start ≤ a) × (a < arrays_start))

-- the bytes of a variable: a name's cell has a second word that says whether it was made
abbrev pub variable_size : ℕ → ℕ
variable_size a = if nat_le cells_start a then 8 else 4

-- R1 is the address of a variable, or 0 for any; and that of the entry that is found is one
pub record CanTurn (s : Core) : Type 0 where
  pub entries : CanUseEntries s
  pub variable : (k : ℕ) → latest s.mem (s.regs 1) ≡ Some k → IsVariable (kind_of s.mem k)

-- the signed number of a word
abbrev pub signed_at : (ℕ → ℕ) → ℕ → ℤ
signed_at m a = cast_signed w32 (word m a)

-- the limit and the step of an entry as signed numbers
abbrev pub signed_limit : (ℕ → ℕ) → ℕ → ℤ
signed_limit m k = cast_signed w32 (limit_of m k)

abbrev pub signed_step : (ℕ → ℕ) → ℕ → ℤ
signed_step m k = cast_signed w32 (step_of m k)

-- the next number of an entry's variable, or the error "number too big"
abbrev pub next_number : (ℕ → ℕ) → ℕ → Result ℤ ℕ
next_number m k = in_range (signed_at m (kind_of m k) +ℤ signed_step m k)

-- whether a loop goes on with a number: up to its limit, or down to it where its step is below 0
abbrev pub goes_on : ℤ → ℤ → ℤ → Bool
goes_on step limit number = if is_negative step then int_le limit number else int_le number limit

-- The variable of an entry takes a number, and the entries above it are dropped. Where its loop goes on, its code is in R2, and
-- else 0, and it is dropped too. All other memory is as it was.
pub record TurnsEntry (k : ℕ) (number : ℤ) (s t : Core) : Type 0 where
  pub no_error : t.regs 1 ≡ 0
  pub variable : signed_at t.mem (kind_of s.mem k) ≡ number
  pub made : cells_start ≤ kind_of s.mem k → word t.mem (kind_of s.mem k + 4) ≡ 1
  pub code : t.regs 2 ≡ (if goes_on (signed_step s.mem k) (signed_limit s.mem k) number then code_of s.mem k else 0)
  pub count : opened_count t.mem ≡ (if goes_on (signed_step s.mem k) (signed_limit s.mem k) number then k + 1 else k)
  pub mem : (a : ℕ) → IsApart opened_count_at 4 a → IsApart (kind_of s.mem k) (variable_size (kind_of s.mem k)) a → t.mem a ≡ s.mem a

-- by the number, or its error
abbrev pub TurnsBy : ℕ → Result ℤ ℕ → Core → Core → Type 0
TurnsBy k (Ok number) s t = TurnsEntry k number s t
TurnsBy k (Err error) s t = Fails error s t

-- by the entry that is found
abbrev pub Turned : Option ℕ → Core → Core → Type 0
Turned None s t = Fails (turning_error (latest s.mem zero)) s t
Turned (Some k) s t = TurnsBy k (next_number s.mem k) s t

pub record TurnsLatest (s : Core) (o : Out) (t : Core) : Type 0 where
  pub comes_back : ComesBack s o t
  pub turned : Turned (latest s.mem (s.regs 1)) s t
