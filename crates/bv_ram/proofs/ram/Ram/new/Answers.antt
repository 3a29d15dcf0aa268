use Rattle.std.proofs.Common.{length, sym, ap, ◌∙◌}
use Rattle.bv_ram.proofs.Bytes.{zeros_length}
use Rattle.bv_ram.proofs.ram.Ram.new.Goals as goal

-- src/ram.rt:58:17
pub invariant_of-result : goal.invariant_of-result
invariant_of-result c =
    let made = c.in-Some.ensures in let cleared = c.clear.ensures in
    (ap length cleared.bytes ∙ zeros_length _, cleared.in_place.1, made.2, made.3 ∙ sym cleared.in_place.0, made.4)

pub returns-in-Some-clause-length : goal.returns-in-Some-clause-length
returns-in-Some-clause-length c = ap length c.clear.ensures.bytes ∙ zeros_length _
