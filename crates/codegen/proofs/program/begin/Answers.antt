use Rattle.std.proofs.Common.{subst, ◌∙◌}
use Rattle.codegen.specs.Agrees.{AreBytes}
use Rattle.codegen.proofs.WholeProgram.{front-is}
use Rattle.codegen.proofs.program.begin.Goals as goal

pub returns-clause-built : goal.returns-clause-built
returns-clause-built c =
    c.in_ok-emit_bytes.ensures.words
    ∙ front-is c.args.ir.now c.as_slice.result.now c.new-frag.result c.label.new.self c.emit_header.new.frag c.new-frag.ensures c.in_ok-label.ensures.ok c.in_ok-emit_header.ensures (c.as_slice.ensures.value ∙ c.in_ok-bytes.ensures)

pub returns-clause-bytes : goal.returns-clause-bytes
returns-clause-bytes c = subst AreBytes (c.as_slice.ensures.value ∙ c.in_ok-bytes.ensures) c.emit_bytes.ensures.bytes
