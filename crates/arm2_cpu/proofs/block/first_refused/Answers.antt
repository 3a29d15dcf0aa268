use Rattle.std.proofs.Common.{◌+◌, ◌-◌, sym, ◌∙◌, arith}
use Rattle.arm2_cpu.proofs.BlockLoops.{checking_next, checking_refuses, checking_ends}
use Rattle.arm2_cpu.proofs.block.first_refused.Goals as goal

pub returns-then-not-can_use : goal.returns-then-not-can_use
returns-then-not-can_use g c =
    checking_refuses _ _ _ (c.args.count - (c.words.counter + 1)) _ _ _ c.words.invariant (omega arith) (sym c.can_use.ensures ∙ c.if-not-can_use.true)

pub words-preserved : goal.words-preserved
words-preserved g c =
    checking_next _ _ _ (c.args.count - (c.words.counter + 1)) _ _ _ c.words.invariant (omega arith) (sym c.can_use.ensures ∙ c.if-not-can_use.false)

pub returns : goal.returns
returns g c = checking_ends _ _ _ _ _ _ c.words.invariant (omega arith)
