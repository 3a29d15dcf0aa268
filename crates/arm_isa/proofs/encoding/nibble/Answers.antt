use Rattle.std.proofs.Common.{◌*◌, ◌%◌, ◌^◌, ap, ◌∙◌, arith}
use Rattle.std.proofs.lemmas.Nat.{shl_whole}
use Rattle.arm_isa.proofs.encoding.nibble.Goals as goal

pub returns : goal.returns
returns c = ap (λ v. v * 2 ^ c.args.low % 2 ^ 32) c.from.ensures ∙ shl_whole c.args.value 4 c.args.low 32 c.requires.value (omega (arith, c.requires.low))
