use Rattle.std.proofs.Common.{◌≡◌, ◌-◌, ◌≤◌, []}
use Rattle.bv_io.proofs.Loops.{IsSoFar}
use Rattle.bv_run.specs.Runs.{run, output_so_far}
use Rattle.arm2_machine.specs.Step.{board_step}
use Rattle.bv_io.specs.Writes.{byte_writes}
use Rattle.arm2_machine.proofs.board.Board.run.Given as goal

-- The steps are counted from 0 on, and added at the end.
abbrev pub invariant-steps : goal.invariant-steps
invariant-steps g l =
    record {
      so_far : IsSoFar board_step l.initial.self.machine l.bound (l.bound - l.made) l.self.machine (g.O.Sink.written l.initial.out) (g.O.Sink.written l.out) 0 l.made;
      same : l.self.steps ≡ l.initial.self.steps;
      within : l.made ≤ l.bound;
      logged : g.O.Sink.log l.out ≡ byte_writes (output_so_far (run board_step l.made l.initial.self.machine [])) (g.O.Sink.log l.initial.out);
      faults : g.O.Sink.faults l.initial.out ≤ g.O.Sink.faults l.out;
    }

abbrev pub decreases-steps : goal.decreases-steps
decreases-steps g l = l.bound - l.made
