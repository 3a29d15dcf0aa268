-- A file that was written has its lines, and one reading.
use Rattle.std.proofs.Common.{◌≡◌, ℕ, suc, arith, List, [], ◌∷◌, ◌++◌, flat_map, All, refl}
use Rattle.std.specs.List.{AllByRecursion}
use Rattle.token_file.specs.declared.line.Line.{Line}
use Rattle.token_file.specs.Lines.{record_start, end_mark, record_of, IsLine, Lines, HasOneReading}
use Rattle.token_file.proofs.Records.{lines_of, one_list_of_lines, lines≢malformed}

each_line : (lines : List Line) → All IsLine lines → AllByRecursion IsLine lines
each_line [] each = tt
each_line (l ∷ ls) each = (each 0 l (omega arith), each_line ls (λ k d within. each (suc k) d (omega (arith, within))))

pub written_lines : (lines : List Line) (bytes : List ℕ) → All IsLine lines → bytes ≡ flat_map record_of lines ++ record_start ∷ end_mark ∷ [] → Lines bytes lines
written_lines lines bytes each whole = lines_of lines bytes (record_start ∷ end_mark ∷ []) (each_line lines each) whole ([], refl)

-- a file with lines has no other reading
pub has_one_reading : (bytes : List ℕ) (lines : List Line) → Lines bytes lines → HasOneReading bytes lines
has_one_reading bytes lines read = record {
  only = λ other also. one_list_of_lines bytes bytes other lines refl also read;
  nowhere = λ place m. lines≢malformed bytes bytes lines m.lines m.rest refl read m.whole m.each m.no_record m.no_end;
}
