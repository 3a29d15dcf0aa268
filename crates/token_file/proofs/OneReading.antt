-- The law of a file's reading, for crates above.
use Rattle.std.proofs.Common.{ℕ, List, refl, sym, ◌∙◌}
use Rattle.token_file.specs.Lines.{OneReading}
use Rattle.token_file.proofs.Decided.{every_file_is_read}
use Rattle.token_file.proofs.Records.{one_list_of_lines, lines≢malformed, one_place}

-- every file is read in one way
pub one_reading : (bytes : List ℕ) → OneReading bytes
one_reading bytes = record {
  read_or_malformed = every_file_is_read bytes;
  read_once = λ a b first second. one_list_of_lines bytes bytes a b refl first second;
  malformed_once = λ a b first second. sym first.at ∙ one_place first.lines second.lines first.rest second.rest (sym first.whole ∙ second.whole) first.each second.each first.no_record second.no_record ∙ second.at;
  never_both = λ lines place read m. lines≢malformed bytes bytes lines m.lines m.rest refl read m.whole m.each m.no_record m.no_end;
}
