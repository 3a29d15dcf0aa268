use Rattle.std.proofs.Common.{◌≡◌, ◌++◌, drop}
use Rattle.codegen.specs.Program.{all_texts}
use Rattle.codegen.specs.Placing.{addresses_from, texts_start}
use Rattle.codegen.proofs.image_texts.text_addresses.Given as goal

abbrev pub invariant-loop-number : goal.invariant-loop-number
invariant-loop-number l = l.table.items ++ addresses_from l.address (drop l.number (all_texts l.ir)) ≡ addresses_from texts_start (all_texts l.ir)
