use Rattle.std.proofs.Common.{sym, refl, arith, ltb-true}
use Rattle.arm2_alu.specs.Conditions.{holds, even_condition}
use Rattle.arm2_alu.proofs.HoldingLaws.{flags-hold, past-holds}
use Rattle.arm2_alu.proofs.regs.Regs.holds.Goals as goal

pub returns-then-cond-eq-AL : goal.returns-then-cond-eq-AL
unfolding holds even_condition
returns-then-cond-eq-AL c = rw c.if-cond-eq-AL.true refl

pub returns-in-Some : goal.returns-in-Some
returns-in-Some c =
    let low = ltb-true _ _ (sym c.in-Some.ensures.lookup.0) in
    flags-hold c.args.cond c.args.self.now _ _ _ c.in-Some.ensures.lookup.1 c.from.ensures c.bits.ensures.value (omega (arith, low, c.from.ensures)) c.bits.ensures.within

pub returns-in-None : goal.returns-in-None
returns-in-None c = past-holds c.args.cond c.args.self.now (omega (arith, c.in-None.ensures.lookup.3, c.from.ensures))
