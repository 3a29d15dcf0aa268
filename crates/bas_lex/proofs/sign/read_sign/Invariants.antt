use Rattle.std.proofs.Common.{take}
use Rattle.bas_lex.specs.Scan.{Best, SignsOf}
use Rattle.bas_lex.proofs.Signs.{table_now}
use Rattle.bas_lex.proofs.sign.read_sign.Given as goal

abbrev pub invariant-signs : goal.invariant-signs
invariant-signs l = Best (SignsOf (take l.number table_now)) l.text l.found
