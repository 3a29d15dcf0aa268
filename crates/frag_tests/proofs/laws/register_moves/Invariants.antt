use Rattle.std.proofs.Common.{ℕ}
use Rattle.arm_core.specs.Core.{Core}
use Rattle.code_frag.specs.Demands.{Out}
use Rattle.frag_tests.specs.Moves.{HasMoved}
use Rattle.frag_tests.proofs.laws.register_moves.Given as goal

abbrev pub ghosts-language_is_sound : goal.ghosts-language_is_sound
ghosts-language_is_sound a = record { asks = λ (e : ℕ) (s : Core). Unit {0}; does = λ (e : ℕ) (s : Core) (o : Out) (t : Core). Unit {0}; post = HasMoved }
