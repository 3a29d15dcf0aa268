use Rattle.token_file.proofs.Records.{lines_of}
use Rattle.token_file.proofs.read.read_file.Goals as goal

pub returns-in-End-clause-ok : goal.returns-in-End-clause-ok
returns-in-End-clause-ok c =
    lines_of c.records.lines.items c.args.bytes.now c.records.rest.now c.records.invariant.each c.records.invariant.whole c.in-End.ensures
