use Rattle.std.proofs.Common.{arith, rules}
use Rattle.bas_lex.proofs.Pieces.{no_piece, no_piece_at_end}
use Rattle.bas_lex.proofs.scan.read_next.Goals as goal

pub returns-in_default : goal.returns-in_default
returns-in_default c = no_piece_at_end _ _ c.in_default.ensures

pub returns-in-None : goal.returns-in-None
returns-in-None c =
    no_piece c.args.asm _ c.in-Some.first _ c.in-Some.ensures (search rules) (λ e. omega (arith, e)) (λ e. omega (arith, e)) (λ e. omega (arith, e)) c.in-None.ensures
