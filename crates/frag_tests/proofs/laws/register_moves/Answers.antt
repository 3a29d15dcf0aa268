use Rattle.std.proofs.Common.{refl}
use Rattle.code_frag.proofs.Rules.{end_here, set_then}
use Rattle.frag_tests.specs.Moves.{move_piece}
use Rattle.frag_tests.proofs.laws.register_moves.Goals as goal

pub returns : goal.returns
returns c = record {
  each = λ code entry place s m at. c.language_is_sound.ensures.pieces move_piece code entry place s m refl tt at (set_then (s.regs 1) refl refl (end_here (refl, refl)));
}
