-- Reports and traps by their numbers. This project's own.
use Rattle.std.specs.Prelude.{ℕ, ◌%◌, ◌==◌, if◌then◌else◌, List, slice_index, Option, Some, None}
use Rattle.std.specs.Int.{w32, cast_signed}
use Rattle.bv_run.specs.declared.report.Report.{Report}
use Rattle.bv_run.specs.declared.report.Report.TheVariants as reports
use Rattle.bv_run.specs.declared.report.Trap.{Trap}
use Rattle.bv_run.specs.declared.report.Trap.TheVariants as traps

-- the number of a trap's kind
abbrev pub trap_number : Trap → ℕ
trap_number traps.Data = 1
trap_number traps.Fetch = 2
trap_number traps.Undefined = 3
trap_number traps.Unpredictable = 4
trap_number traps.Swi = 5

-- the kind of a trap by its number
abbrev pub trap_of : ℕ → Option Trap
trap_of n =
    if n == 1 then Some traps.Data else if n == 2 then Some traps.Fetch else if n == 3 then Some traps.Undefined else if n == 4 then Some traps.Unpredictable else if n == 5 then Some traps.Swi else None

-- a stray's report, where its kind is one
abbrev pub stray_of : Option Trap → ℕ → ℕ → Option Report
stray_of None address line = None
stray_of (Some kind) address line = Some (reports.Stray kind address line)

-- The report that R0 to R3 stand for, if they do: R0 says which it is, R1 has the error or the trap's kind, the low
-- 16 bits of R2 the line, and R3 the address.
abbrev pub report_of : List ℕ → Option Report
report_of r =
    if slice_index r 0 == 0 then Some reports.Done
    else if slice_index r 0 == 1 then Some (reports.Failed (cast_signed w32 (slice_index r 1)) (slice_index r 2 % 65536))
    else if slice_index r 0 == 2 then stray_of (trap_of (slice_index r 1)) (slice_index r 3) (slice_index r 2 % 65536)
    else if slice_index r 0 == 3 then Some (reports.InputEnded (slice_index r 2 % 65536))
    else None
