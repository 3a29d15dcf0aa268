-- The state of a run of a program. This project's own, but for what the language names (BBC BASIC Reference Manual: COUNT,
-- DATA, DIM, ERR, ERL, ON ERROR, REPORT).
use Rattle.std.specs.Prelude.{ℕ, ℤ, pos, List, [], Option, None}
use Rattle.bas_ast.specs.declared.program.Name.{Name}
use Rattle.bas_store.specs.Stored.{Stored, Handler, nothing_stored}
use Rattle.bv_base.specs.Bytes.{zeros}
use Rattle.bv_base.specs.MemoryMap.{arena_start, arena_bytes}

-- All that a run has beside its place in the program.
pub record State : Type 0 where
  -- cells, arrays, saved values, open loops and GOSUBs
  pub stored : Stored
  -- the bytes of the arena, and the address from which DIM divides it next
  pub arena : List ℕ
  pub divided : ℕ
  -- COUNT
  pub column : ℕ
  -- the number of the item of DATA that READ takes next
  pub data_place : ℕ
  -- the assembler's OPT
  pub opt : ℕ
  -- who takes an error, if anyone does
  pub handler : Option Handler
  -- ERR, ERL, and the text of the latest error
  pub err : ℤ
  pub erl : ℕ
  pub text : List ℕ
  -- the input that is left, and what was written
  pub input : List ℕ
  pub output : List ℕ
  -- the steps that are left, and the place of the item that the latest step executed, if it executed one
  pub left : ℕ
  pub latest : Option ℕ

-- the state in which a run of n steps begins, of a program with these names
abbrev pub start : List Name → List ℕ → ℕ → State
start names input n = record {
  stored = nothing_stored names;
  arena = zeros arena_bytes;
  divided = arena_start;
  column = 0;
  data_place = 0;
  opt = 3;
  handler = None;
  err = pos 0;
  erl = 0;
  text = [];
  input = input;
  output = [];
  left = n;
  latest = None;
}
