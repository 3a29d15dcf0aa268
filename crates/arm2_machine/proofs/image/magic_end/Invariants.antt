use Rattle.std.proofs.Common.{◌≡◌, ◌-◌, ◌≤◌, take}
use Rattle.arm2_machine.specs.Image.{magic}
use Rattle.arm2_machine.proofs.image.magic_end.Given as goal

abbrev pub invariant-magic : goal.invariant-magic
invariant-magic l = (l.end ≤ 4) × (take l.end l.bytes ≡ take l.end magic)

abbrev pub decreases-magic : goal.decreases-magic
decreases-magic l = 4 - l.end
