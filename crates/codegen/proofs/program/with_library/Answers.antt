use Rattle.std.proofs.Common.{◌∙◌}
use Rattle.codegen.proofs.WholeProgram.{with_library-is}
use Rattle.codegen.proofs.program.with_library.Goals as goal

pub returns-clause-built : goal.returns-clause-built
returns-clause-built c =
    c.in_ok-add_labels.ensures.ok
    ∙ with_library-is c.args.ir.now c.as_slice.result.now c.in_ok-frag.frag c.join.new.self c.in_ok-library.library.frag c.as_slice.ensures c.in_ok-frag.ensures.built c.in_ok-library.ensures.code c.in_ok-join.ensures.ok
