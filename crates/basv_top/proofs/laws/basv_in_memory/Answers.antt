use Rattle.std.proofs.Common.{arith}
use Rattle.basv_top.proofs.NoFaults.{no_read_fault, no_write_fault}
use Rattle.basv_top.proofs.laws.basv_in_memory.Goals as goal

pub returns-clause-no_read_fault : goal.returns-clause-no_read_fault
returns-clause-no_read_fault c =
    let e = c.basv.ensures in
    no_read_fault _ _ _ _ (λ n is. cc) (λ rose. omega (arith, rose)) (λ rose. omega (arith, rose)) (λ rose. omega (arith, rose)) _ _ (record {
      compile = e.compile;
      list = e.list;
      run = e.run;
      interp = e.interp;
      crunch = e.crunch;
      ending = e.ends.ending;
      status_is = e.ends.status_is;
      explained = e.ends.explained;
    })

pub returns-clause-no_write_fault : goal.returns-clause-no_write_fault
returns-clause-no_write_fault c =
    let e = c.basv.ensures in
    no_write_fault _ _ _ _ (λ n is. cc) (λ rose. omega (arith, rose)) (λ rose. omega (arith, rose)) (λ rose. omega (arith, rose)) _ _ (record {
      compile = e.compile;
      list = e.list;
      run = e.run;
      interp = e.interp;
      crunch = e.crunch;
      ending = e.ends.ending;
      status_is = e.ends.status_is;
      explained = e.ends.explained;
    })
