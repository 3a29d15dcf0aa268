use Rattle.std.proofs.Common.{◌≡◌, ◌*◌, ◌++◌, drop}
use Rattle.codegen.specs.Program.{packed, data_items}
use Rattle.codegen.proofs.image_texts.emit_bytes.Given as goal

abbrev pub invariant-loop-k : goal.invariant-loop-k
invariant-loop-k l = record {
  items : l.frag.items ++ data_items (packed (drop (l.k * 4) l.bytes)) ≡ l.fn.frag.items ++ data_items (packed l.bytes);
  places : l.frag.places ≡ l.fn.frag.places;
}
