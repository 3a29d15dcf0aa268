-- A new line.
use Rattle.std.proofs.Common.{refl, arith}
use Rattle.bas_value.specs.Output.{NewLine}
use Rattle.arm_core.specs.Core.{Core, IsGood}
use Rattle.arm_core.proofs.MemoryWords.{updated-other, word-put_same}
use Rattle.code_frag.specs.Demands.{at_return, Owes}
use Rattle.code_frag.specs.Regions.{column_at}
use Rattle.code_frag.proofs.Rules.{end_here, set_then, new_line_then, store_then}
use Rattle.runtime_lib.specs.Entries.{CanWrite, WritesPart, LibraryAsks, LibraryDoes}
use Rattle.runtime_lib.specs.Writing.{line_end}
use Rattle.runtime_lib.proofs.WritingParts.{column_data, column_address, with_column_mem}

pub line_end_owes : (s : Core) → IsGood s → CanWrite s → Owes LibraryAsks LibraryDoes line_end (at_return (WritesPart NewLine s) s) s
line_end_owes s good ask =
    new_line_then
    (set_then 0 refl refl
    (store_then column_at 0 (column_address (s.regs 11) ask.base) refl refl column_data
    (end_here (
      record {
        falls = refl;
        writes = record {
          out = refl;
          column_is = word-put_same s.mem column_at 0 (omega arith);
          kept = λ k low high. updated-other s.regs 0 0 k (λ e. omega (arith, e, low));
          mem = λ a is. with_column_mem s.mem 0 a is;
          input = refl;
        };
      },
      refl,
    ))))
