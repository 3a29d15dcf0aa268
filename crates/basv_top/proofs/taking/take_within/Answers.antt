use Rattle.basv_top.specs.Ending.{told}
use Rattle.basv_top.specs.Seen.{seen_shelf}
use Rattle.basv_top.proofs.Taken.{take_fails}
use Rattle.basv_top.proofs.taking.take_within.Goals as goal

pub returns-in-Err-clause-not_taken : goal.returns-in-Err-clause-not_taken
returns-in-Err-clause-not_taken g c =
    take_fails (seen_shelf g.S.Shelf c.args.shelf.now) (seen_shelf g.S.Shelf c.take.new.self) c.args.name.now c.args.max c.args.too_long c.in-Err.error (told c.not_taken.result)
    c.not_taken.ensures c.in-Err.ensures.logged c.in-Err.ensures.missing c.in-Err.ensures.too_long c.in-Err.ensures.failed
