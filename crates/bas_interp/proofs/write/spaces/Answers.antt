use Rattle.std.proofs.Common.{ap, ◌∙◌, take, arith}
use Rattle.std.specs.Prelude.{replicate}
use Rattle.std.proofs.lemmas.List.{take-replicate}
use Rattle.bas_interp.proofs.write.spaces.Goals as goal

pub returns : goal.returns
returns c = ap (λ n. take n (replicate 255 32)) c.from.ensures ∙ take-replicate c.args.count 255 32 (omega (arith, c.ranges.count.fits))
