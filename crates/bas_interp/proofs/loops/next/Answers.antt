use Rattle.std.proofs.Common.{◌≡◌, ◌∙◌, ap, rules}
use Rattle.std.specs.Prelude.{Ok}
use Rattle.bas_sem.specs.Loops.{goes_round}
use Rattle.bas_sem.specs.State.{State}
use Rattle.bas_store.specs.Entries.{cell_of, closer_of}
use Rattle.bas_store.specs.Stored.{number_in, or_zero, with_number}
use Rattle.bv_num.specs.Operation.{operation, Add}
use Rattle.bas_interp.specs.Machine.{with_memory}
use Rattle.bas_interp.specs.Loops.{answer_settled, memory_settled}
use Rattle.bas_interp.proofs.Closing.{next_turns, room_settled, room_stored}
use Rattle.bas_interp.proofs.loops.next.Goals as goal

pub returns-in-Ok-clause-right : goal.returns-in-Ok-clause-right
returns-in-Ok-clause-right c =
    let is_sum : Ok c.in-Ok.value ≡ operation Add c.value_in.result c.in-For.step = search rules in
    let reads : (s : State) → c.value_in.result ≡ or_zero (number_in (cell_of c.in-For.cell) (with_memory c.args.memory.now s).stored) = search rules in
    let round : c.goes_round.result ≡ goes_round c.in-For.limit c.in-For.step c.in-Ok.value = search rules in
    let stores : (s : State) → with_memory c.store.new.memory s
    ≡ record (with_memory c.args.memory.now s) { stored = with_number (cell_of c.in-For.cell) c.in-Ok.value (with_memory c.args.memory.now s).stored } = search rules in
    next_turns (closer_of c.args.word) c.args.line c.args.memory.now c.in-Some.found c.in-Some.ensures.found c.in-For.cell c.in-For.limit c.in-For.step c.value_in.result
    c.in-For.is reads c.in-Ok.value c.store.new.memory c.settle.new.memory c.settle.result is_sum stores c.store.ensures.opened c.store.ensures.stacks
    (c.settle.ensures.answer ∙ ap (λ b. answer_settled b c.in-Some.found) round)
    (c.settle.ensures.memory ∙ ap (λ b. memory_settled b c.in-Some.found c.store.new.memory) round)

pub returns-in-Ok-clause-room : goal.returns-in-Ok-clause-room
returns-in-Ok-clause-room c =
    room_settled c.goes_round.result c.in-Some.found c.args.memory.now c.store.new.memory c.settle.new.memory
    (room_stored c.args.memory.now c.store.new.memory c.requires.0 c.store.ensures.stacks) c.settle.ensures.memory
