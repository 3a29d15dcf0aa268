-- A part of a routine, by what it leaves.
use Rattle.std.proofs.Common.{ℕ}
use Rattle.arm_core.specs.Core.{Core}
use Rattle.code_frag.specs.Demands.{Out, Falls, Leaves, Post, on_falls, Owes}
use Rattle.code_frag.specs.Language.{Piece}
use Rattle.code_frag.proofs.Monotone.{mono}

-- what a part leaves leads to what is asked of it
pub leads : {Asks : ℕ → Core → Type 0} {Does : ℕ → Core → Out → Core → Type 0} {a : Piece} {s : Core} (M R : Core → Type 0) (Q : Post) → ((t : Core) → M t → R t) → Owes Asks Does a (on_falls M Q) s → Owes Asks Does a (on_falls R Q) s
leads {Asks} {Does} {a} {s} M R Q to owes = record { by = mono Asks Does a _ _ each s owes.by }
  where
    each : (o : Out) (t : Core) → on_falls M Q o t → on_falls R Q o t
    each Falls t q = to t q
    each (Leaves e) t q = q
