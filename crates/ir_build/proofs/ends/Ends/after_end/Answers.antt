use Rattle.std.proofs.Common.{◌∙◌, ◌-◌, ap, length}
use Rattle.std.specs.Prelude.{slice_index_or}
use Rattle.ir_build.proofs.EndTables.{end_is}
use Rattle.ir_build.proofs.ends.Ends.after_end.Goals as goal

pub returns : goal.returns
returns c =
    λ prog row rest are is.
    ap (λ l. slice_index_or l (length l - 1 - c.args.place) 0) c.as_slice-ends.ensures
    ∙ end_is c.args.self.now prog c.args.place 0 row rest are c.requires is
