use Rattle.std.proofs.Common.{arith}
use Rattle.codegen.proofs.EmitLaws.{addresses_end}
use Rattle.codegen.proofs.image_texts.text_addresses.Goals as goal

pub returns : goal.returns
returns c =
    addresses_end c.args.ir.now c.loop-number.number c.loop-number.address c.loop-number.table.items c.push-2.new.self.items
    (omega (arith, c.loop-number-test.false, c.in_ok-number-end.ensures)) c.in_ok-push-2.ensures.items c.loop-number.invariant
