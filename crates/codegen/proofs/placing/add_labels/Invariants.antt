use Rattle.std.proofs.Common.{◌≡◌, ◌+◌, ◌≤◌, take, length}
use Rattle.bas_ir.specs.Places.{marks_in}
use Rattle.codegen.specs.Operations.{item_label}
use Rattle.codegen.specs.Placing.{with_labels}
use Rattle.codegen.proofs.placing.add_labels.Given as goal

abbrev pub invariant-loop-marked : goal.invariant-loop-marked
invariant-loop-marked l = record {
  added : l.frag ≡ with_labels (1 + marks_in (take l.marked-index l.marks)) l.fn.frag;
  few : length l.frag.places ≤ item_label l.marked-index;
}
