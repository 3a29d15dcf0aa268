use Rattle.std.proofs.Common.{◌≡◌, ◌++◌}
use Rattle.codegen.specs.Program.{branch_items}
use Rattle.codegen.proofs.placing.emit_branches.Given as goal

abbrev pub invariant-loop-item : goal.invariant-loop-item
invariant-loop-item l = record {
  items : l.frag.items ≡ l.fn.frag.items ++ branch_items l.item 0;
  places : l.frag.places ≡ l.fn.frag.places;
}
