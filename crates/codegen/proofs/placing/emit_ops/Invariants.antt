use Rattle.std.proofs.Common.{◌≡◌, ◌+◌, drop, length}
use Rattle.bas_ir.specs.Places.{marks_in}
use Rattle.codegen.specs.Program.{named_text}
use Rattle.codegen.specs.Placing.{with_ops, AreOpen}
use Rattle.codegen.proofs.placing.emit_ops.Given as goal

abbrev pub invariant-loop-pc : goal.invariant-loop-pc
invariant-loop-pc l = record {
  code : with_ops (named_text l.ir) l.branches (drop l.pc l.ir.ops) (drop l.pc l.ir.marks) l.item l.frag ≡ with_ops (named_text l.ir) l.branches l.ir.ops l.ir.marks 0 l.fn.frag;
  unplaced : AreOpen l.item l.frag;
  items : l.item + marks_in (drop l.pc l.ir.marks) ≡ marks_in l.ir.marks;
  labels : length l.frag.places ≡ length l.fn.frag.places;
}
