use Rattle.std.proofs.Common.{◌≡◌, refl, sym, ap, subst, ◌∙◌, ◌-◌, ◌+◌, [], le_trans, le_refl, arith}
use Rattle.bv_run.specs.Runs.{Goes, Ended, Over, Broken, run, output_so_far}
use Rattle.bv_io.specs.Sink.{WritesPart}
use Rattle.bv_io.proofs.Loops.{so_far_starts, so_far_goes, so_far_stops, so_far_ends, so_far_faults}
use Rattle.arm2_machine.specs.Step.{board_step, bytes_of}
use Rattle.bv_io.specs.Writes.{byte_writes}
use Rattle.arm2_machine.proofs.Stretches.{so_far_plainly}
use Rattle.bv_io.proofs.ByteWrites.{byte_writes-append}
use Rattle.arm2_machine.proofs.Logs.{output_after, output_at_stop, fails_at_byte}
use Rattle.bv_run.proofs.RunLaws.{run-zero}
use Rattle.arm2_machine.proofs.board.Board.run.Goals as goal

pub steps-init : goal.steps-init
steps-init g c = record {
  so_far = so_far_starts board_step _ c.args.bound (c.args.bound - 0) _ 0 (omega arith) (omega arith);
  same = refl;
  within = omega arith;
  logged = ap (λ p. byte_writes (output_so_far p) (g.O.Sink.log c.args.out.now)) (sym (run-zero board_step c.args.self.now.machine []));
  faults = le_refl _;
}

pub steps-preserved : goal.steps-preserved
steps-preserved g c =
    let stretch = c.advance-stretch.ensures in
    let made = c.steps.made + c.advance-stretch.result.before in
    let stands = ap (λ b. run board_step c.advance-stretch.result.before b.machine []) (sym c.self.view_is) ∙ stretch.stands in
    let so = so_far_plainly board_step _ _ _ _ _ _ _ c.steps.invariant.so_far c.advance-stretch.result.before (c.args.bound - made) _ stands (omega (arith, stretch.within)) (omega (arith, stretch.within)) in
    let same_made : c.steps.made ≡ c.steps.invariant.so_far.made = omega (arith, c.steps.invariant.so_far.whole, stretch.within) in
    let at_made = ap (λ n. run board_step n c.args.self.now.machine []) same_made in
    record {
      so_far = so_far_goes board_step _ _ _ _ _ _ _ _ so (c.args.bound - (c.steps.made + (c.advance-stretch.result.before + 1))) _ _ _ _ (omega (arith, stretch.within)) (stretch.goes ∙ c.in-Continued.ensures) c.in_default.ensures.ok (omega (arith, stretch.within));
      same = ap (λ b. b.steps) c.self.view_is ∙ c.steps.invariant.same;
      within = omega (arith, stretch.within);
      logged =
          c.in_default.ensures.each_byte
          ∙ ap (byte_writes (bytes_of c.in-Continued.output)) c.steps.invariant.logged
          ∙ sym (byte_writes-append (output_so_far (run board_step c.steps.made c.args.self.now.machine [])) _ (g.O.Sink.log c.args.out.now))
          ∙ ap (λ l. byte_writes l (g.O.Sink.log c.args.out.now))
          (sym (output_after board_step c.steps.made c.advance-stretch.result.before _ _ _ _ _ _ (at_made ∙ c.steps.invariant.so_far.stands) stands (stretch.goes ∙ c.in-Continued.ensures)));
      faults = le_trans c.steps.invariant.faults c.write.ensures.faults;
    }

pub returns-clause-steps : goal.returns-clause-steps
returns-clause-steps g c =
    let end = so_far_ends board_step _ _ _ _ _ _ _ _ c.steps.invariant.so_far (omega arith) in
    omega (arith, ap (λ b. b.steps) c.note-2.ensures, end.counts)

pub returns-in-Over-clause-ends : goal.returns-in-Over-clause-ends
returns-in-Over-clause-ends g c =
    let stretch = c.advance-stretch.ensures in
    let made = c.steps.made + c.advance-stretch.result.before in
    let stands = ap (λ b. run board_step c.advance-stretch.result.before b.machine []) (sym c.self.view_is) ∙ stretch.stands in
    let so = so_far_plainly board_step _ _ _ _ _ _ _ c.steps.invariant.so_far c.advance-stretch.result.before (c.args.bound - made) _ stands (omega (arith, stretch.within)) (omega (arith, stretch.within)) in
    let end = so_far_stops board_step _ _ _ _ _ _ _ _ so (c.args.bound - (made + 1)) _ (Over c.in-Over.report) (made + 1) (omega (arith, stretch.within)) (stretch.goes ∙ c.in-Over.ensures) (omega (arith, stretch.within)) in
    end.comes ∙ ap (λ b. Ended b.machine (output_so_far (run board_step c.args.bound c.args.self.now.machine [])) (Over c.in-Over.report)) (sym c.note-in-Over.ensures)

pub returns-in-Over-clause-written : goal.returns-in-Over-clause-written
returns-in-Over-clause-written g c =
    let stretch = c.advance-stretch.ensures in
    let made = c.steps.made + c.advance-stretch.result.before in
    let stands = ap (λ b. run board_step c.advance-stretch.result.before b.machine []) (sym c.self.view_is) ∙ stretch.stands in
    let so = so_far_plainly board_step _ _ _ _ _ _ _ c.steps.invariant.so_far c.advance-stretch.result.before (c.args.bound - made) _ stands (omega (arith, stretch.within)) (omega (arith, stretch.within)) in
    let end = so_far_stops board_step _ _ _ _ _ _ _ _ so (c.args.bound - (made + 1)) _ (Over c.in-Over.report) (made + 1) (omega (arith, stretch.within)) (stretch.goes ∙ c.in-Over.ensures) (omega (arith, stretch.within)) in
    end.writes

pub returns-in-Over-clause-each_byte : goal.returns-in-Over-clause-each_byte
returns-in-Over-clause-each_byte g c =
    let stretch = c.advance-stretch.ensures in
    let made = c.steps.made + c.advance-stretch.result.before in
    let stands = ap (λ b. run board_step c.advance-stretch.result.before b.machine []) (sym c.self.view_is) ∙ stretch.stands in
    let so = so_far_plainly board_step _ _ _ _ _ _ _ c.steps.invariant.so_far c.advance-stretch.result.before (c.args.bound - made) _ stands (omega (arith, stretch.within)) (omega (arith, stretch.within)) in
    let same_made : c.steps.made ≡ c.steps.invariant.so_far.made = omega (arith, c.steps.invariant.so_far.whole, stretch.within) in
    let at_made = ap (λ n. run board_step n c.args.self.now.machine []) same_made in
    let bytes = output_at_stop board_step _ _ _ _ _ _ _ _ so (c.args.bound - (made + 1)) _ (Over c.in-Over.report) (omega (arith, stretch.within)) (stretch.goes ∙ c.in-Over.ensures) in
    c.steps.invariant.logged ∙ ap (λ l. byte_writes l (g.O.Sink.log c.args.out.now)) (ap output_so_far (at_made ∙ c.steps.invariant.so_far.stands) ∙ bytes)

pub returns-in-Over-clause-steps : goal.returns-in-Over-clause-steps
returns-in-Over-clause-steps g c =
    let stretch = c.advance-stretch.ensures in
    let made = c.steps.made + c.advance-stretch.result.before in
    let stands = ap (λ b. run board_step c.advance-stretch.result.before b.machine []) (sym c.self.view_is) ∙ stretch.stands in
    let so = so_far_plainly board_step _ _ _ _ _ _ _ c.steps.invariant.so_far c.advance-stretch.result.before (c.args.bound - made) _ stands (omega (arith, stretch.within)) (omega (arith, stretch.within)) in
    let end = so_far_stops board_step _ _ _ _ _ _ _ _ so (c.args.bound - (made + 1)) _ (Over c.in-Over.report) (made + 1) (omega (arith, stretch.within)) (stretch.goes ∙ c.in-Over.ensures) (omega (arith, stretch.within)) in
    omega (arith, ap (λ b. b.steps) c.note-in-Over.ensures, ap (λ b. b.steps) c.self.view_is, end.counts)

pub returns-in-Broken-clause-ends : goal.returns-in-Broken-clause-ends
returns-in-Broken-clause-ends g c =
    let stretch = c.advance-stretch.ensures in
    let made = c.steps.made + c.advance-stretch.result.before in
    let stands = ap (λ b. run board_step c.advance-stretch.result.before b.machine []) (sym c.self.view_is) ∙ stretch.stands in
    let so = so_far_plainly board_step _ _ _ _ _ _ _ c.steps.invariant.so_far c.advance-stretch.result.before (c.args.bound - made) _ stands (omega (arith, stretch.within)) (omega (arith, stretch.within)) in
    let end = so_far_stops board_step _ _ _ _ _ _ _ _ so (c.args.bound - (made + 1)) _ (Broken c.in-Broken.kind c.in-Broken.address) (made + 1) (omega (arith, stretch.within)) (stretch.goes ∙ c.in-Broken.ensures) (omega (arith, stretch.within)) in
    end.comes ∙ ap (λ b. Ended b.machine (output_so_far (run board_step c.args.bound c.args.self.now.machine [])) (Broken c.in-Broken.kind c.in-Broken.address)) (sym c.note-in-Broken.ensures)

pub returns-in-Broken-clause-written : goal.returns-in-Broken-clause-written
returns-in-Broken-clause-written g c =
    let stretch = c.advance-stretch.ensures in
    let made = c.steps.made + c.advance-stretch.result.before in
    let stands = ap (λ b. run board_step c.advance-stretch.result.before b.machine []) (sym c.self.view_is) ∙ stretch.stands in
    let so = so_far_plainly board_step _ _ _ _ _ _ _ c.steps.invariant.so_far c.advance-stretch.result.before (c.args.bound - made) _ stands (omega (arith, stretch.within)) (omega (arith, stretch.within)) in
    let end = so_far_stops board_step _ _ _ _ _ _ _ _ so (c.args.bound - (made + 1)) _ (Broken c.in-Broken.kind c.in-Broken.address) (made + 1) (omega (arith, stretch.within)) (stretch.goes ∙ c.in-Broken.ensures) (omega (arith, stretch.within)) in
    end.writes

pub returns-in-Broken-clause-each_byte : goal.returns-in-Broken-clause-each_byte
returns-in-Broken-clause-each_byte g c =
    let stretch = c.advance-stretch.ensures in
    let made = c.steps.made + c.advance-stretch.result.before in
    let stands = ap (λ b. run board_step c.advance-stretch.result.before b.machine []) (sym c.self.view_is) ∙ stretch.stands in
    let so = so_far_plainly board_step _ _ _ _ _ _ _ c.steps.invariant.so_far c.advance-stretch.result.before (c.args.bound - made) _ stands (omega (arith, stretch.within)) (omega (arith, stretch.within)) in
    let same_made : c.steps.made ≡ c.steps.invariant.so_far.made = omega (arith, c.steps.invariant.so_far.whole, stretch.within) in
    let at_made = ap (λ n. run board_step n c.args.self.now.machine []) same_made in
    let bytes = output_at_stop board_step _ _ _ _ _ _ _ _ so (c.args.bound - (made + 1)) _ (Broken c.in-Broken.kind c.in-Broken.address) (omega (arith, stretch.within)) (stretch.goes ∙ c.in-Broken.ensures) in
    c.steps.invariant.logged ∙ ap (λ l. byte_writes l (g.O.Sink.log c.args.out.now)) (ap output_so_far (at_made ∙ c.steps.invariant.so_far.stands) ∙ bytes)

pub returns-in-Broken-clause-steps : goal.returns-in-Broken-clause-steps
returns-in-Broken-clause-steps g c =
    let stretch = c.advance-stretch.ensures in
    let made = c.steps.made + c.advance-stretch.result.before in
    let stands = ap (λ b. run board_step c.advance-stretch.result.before b.machine []) (sym c.self.view_is) ∙ stretch.stands in
    let so = so_far_plainly board_step _ _ _ _ _ _ _ c.steps.invariant.so_far c.advance-stretch.result.before (c.args.bound - made) _ stands (omega (arith, stretch.within)) (omega (arith, stretch.within)) in
    let end = so_far_stops board_step _ _ _ _ _ _ _ _ so (c.args.bound - (made + 1)) _ (Broken c.in-Broken.kind c.in-Broken.address) (made + 1) (omega (arith, stretch.within)) (stretch.goes ∙ c.in-Broken.ensures) (omega (arith, stretch.within)) in
    omega (arith, ap (λ b. b.steps) c.note-in-Broken.ensures, ap (λ b. b.steps) c.self.view_is, end.counts)

pub returns-in-Err-clause-fault : goal.returns-in-Err-clause-fault
returns-in-Err-clause-fault g c =
    let stretch = c.advance-stretch.ensures in
    let made = c.steps.made + c.advance-stretch.result.before in
    let stands = ap (λ b. run board_step c.advance-stretch.result.before b.machine []) (sym c.self.view_is) ∙ stretch.stands in
    let so = so_far_plainly board_step _ _ _ _ _ _ _ c.steps.invariant.so_far c.advance-stretch.result.before (c.args.bound - made) _ stands (omega (arith, stretch.within)) (omega (arith, stretch.within)) in
    so_far_faults board_step _ _ _ _ _ _ _ _ so (c.args.bound - (made + 1)) _ _ _ (omega (arith, stretch.within)) (stretch.goes ∙ c.in-Continued.ensures) c.in-Err.ensures.part

pub returns-in-Err-clause-fault_at : goal.returns-in-Err-clause-fault_at
returns-in-Err-clause-fault_at g c =
    let stretch = c.advance-stretch.ensures in
    let made = c.steps.made + c.advance-stretch.result.before in
    let stands = ap (λ b. run board_step c.advance-stretch.result.before b.machine []) (sym c.self.view_is) ∙ stretch.stands in
    let so = so_far_plainly board_step _ _ _ _ _ _ _ c.steps.invariant.so_far c.advance-stretch.result.before (c.args.bound - made) _ stands (omega (arith, stretch.within)) (omega (arith, stretch.within)) in
    let last = bytes_of c.in-Continued.output in
    record {
      made = so.made;
      machine = stretch.last;
      out = so.bytes;
      last = last;
      within = omega (arith, so.whole, stretch.within);
      stands = so.stands;
      goes = stretch.goes ∙ c.in-Continued.ensures ∙ ap (λ b. Goes b.machine last) (sym c.note.ensures);
      part = subst (λ w. WritesPart w last (g.O.Sink.written c.write.new.out)) so.same c.in-Err.ensures.part;
      counted = omega (arith, ap (λ b. b.steps) c.note.ensures, ap (λ b. b.steps) c.self.view_is, so.is_count, so.whole, stretch.within);
    }

pub returns-in-Err-clause-fault_byte : goal.returns-in-Err-clause-fault_byte
returns-in-Err-clause-fault_byte g c =
    let stretch = c.advance-stretch.ensures in
    let made = c.steps.made + c.advance-stretch.result.before in
    let stands = ap (λ b. run board_step c.advance-stretch.result.before b.machine []) (sym c.self.view_is) ∙ stretch.stands in
    let so = so_far_plainly board_step _ _ _ _ _ _ _ c.steps.invariant.so_far c.advance-stretch.result.before (c.args.bound - made) _ stands (omega (arith, stretch.within)) (omega (arith, stretch.within)) in
    let same_made : c.steps.made ≡ c.steps.invariant.so_far.made = omega (arith, c.steps.invariant.so_far.whole, stretch.within) in
    let at_made = ap (λ n. run board_step n c.args.self.now.machine []) same_made in
    let logged = c.steps.invariant.logged ∙ ap (λ p. byte_writes (output_so_far p) (g.O.Sink.log c.args.out.now)) (at_made ∙ c.steps.invariant.so_far.stands) in
    fails_at_byte board_step _ _ _ _ _ _ _ _ so (c.args.bound - (made + 1)) _ _ _ _ _ (omega (arith, stretch.within)) (stretch.goes ∙ c.in-Continued.ensures) logged c.in-Err.ensures.fault_byte

pub returns-clause-each_byte : goal.returns-clause-each_byte
returns-clause-each_byte g c =
    let all : c.steps.made ≡ c.args.bound = omega (arith, c.steps.invariant.within) in
    c.steps.invariant.logged ∙ ap (λ n. byte_writes (output_so_far (run board_step n c.args.self.now.machine [])) (g.O.Sink.log c.args.out.now)) all
