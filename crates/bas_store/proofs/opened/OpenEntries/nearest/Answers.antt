use Rattle.std.proofs.Common.{◌-◌, ◌∙◌, sym, arith}
use Rattle.bas_store.specs.Entries.{closer_of}
use Rattle.bas_store.proofs.Entries.{FoundAt, found_at}
use Rattle.bas_store.proofs.opened.OpenEntries.nearest.Goals as goal

at_it : (c : goal.Then-closes) → FoundAt c.args.call (closer_of c.args.word) c.args.self.now (record { entry = c.index-entry.result.now; below = 4095 - c.loop-i.i })
at_it c = found_at c.args.call (closer_of c.args.word) c.self.inside.room.items 4095 c.self.inside.latest c.loop-i.i c.index-entry.result.now c.args.self.now
    c.self.invariant.1 c.self.view_is (omega arith) (omega arith) c.index-entry.ensures c.loop-i.invariant c.if-entry-call.false
    (sym c.closes.ensures ∙ c.if-closes.true)

pub returns-then-closes-clause-found : goal.returns-then-closes-clause-found
returns-then-closes-clause-found c = (at_it c).found

pub returns-then-closes-clause-within : goal.returns-then-closes-clause-within
returns-then-closes-clause-within c = (at_it c).within

pub returns-then-closes-clause-whole : goal.returns-then-closes-clause-whole
returns-then-closes-clause-whole c = (at_it c).whole
