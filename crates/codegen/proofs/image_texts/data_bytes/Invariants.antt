use Rattle.std.proofs.Common.{◌≡◌, ◌++◌, drop}
use Rattle.std.specs.Prelude.{flat_map}
use Rattle.runtime_lib.specs.Entries.{error_table}
use Rattle.codegen.specs.Program.{text_bytes, all_texts}
use Rattle.codegen.proofs.image_texts.data_bytes.Given as goal

abbrev pub invariant-loop-number : goal.invariant-loop-number
invariant-loop-number l = l.bytes.items ++ flat_map text_bytes (drop l.number (all_texts l.ir)) ≡ error_table ++ flat_map text_bytes (all_texts l.ir)
