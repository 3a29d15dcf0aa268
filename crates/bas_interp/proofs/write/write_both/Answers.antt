use Rattle.std.proofs.Common.{refl}
use Rattle.bas_interp.proofs.Writing.{first_fails, takes_whole}
use Rattle.bas_interp.proofs.write.write_both.Goals as goal

pub returns-in-Err : goal.returns-in-Err
returns-in-Err g c = first_fails c.args.first.now c.args.second.now _ _ _ _ _ _ _ refl c.in-Err.ensures

pub returns : goal.returns
returns g c = takes_whole c.args.first.now c.args.second.now _ _ _ _ _ _ _ _ _ _ c.write_bytes-2.result refl c.in_default.ensures c.write_bytes-2.ensures
