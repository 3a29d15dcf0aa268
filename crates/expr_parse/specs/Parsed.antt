-- What the public parsers answer.
use Rattle.std.specs.Prelude.{ℕ, ◌≤◌, List, length, drop, Result, Ok, Err}
use Rattle.bas_ast.specs.declared.terminals.Terminal.{Terminal}
use Rattle.expr_parse.specs.declared.failure.Failure.{Failure}
use Rattle.expr_parse.specs.declared.failure.Failure.TheVariants as failure
use Rattle.expr_parse.specs.declared.top.ParseError.{ParseError}
use Rattle.expr_parse.specs.declared.top.ParseError.TheVariants as error
use Rattle.expr_parse.specs.Longest.{Longest, NoFront}

-- The longest front with its number of terminals; or that there is none. Want of memory is free.
abbrev pub Parsed : {A : Type 0} → (List Terminal → A → Type 0) → List Terminal → Result (A × ℕ) ParseError → Type 0
Parsed Is r (Ok z) = (z.1 ≤ length r) × Longest Is r z.0 (drop z.1 r)
Parsed Is r (Err error.Outside) = NoFront Is r
Parsed Is r (Err error.NoMemory) = Unit {0}

-- where no front stands, the symbols are outside the grammar
abbrev pub parse_error : Failure → ParseError
parse_error failure.Absent = error.Outside
parse_error failure.NoMemory = error.NoMemory
