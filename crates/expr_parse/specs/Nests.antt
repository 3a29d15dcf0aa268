-- A function value that parses expressions to a depth.
use Rattle.std.specs.Prelude.{ℕ, Result, List}
use Rattle.std.specs.declared.alloc.Global.{Global}
use denote.Ref.{Bor}
use Rattle.bas_ast.specs.declared.terminals.Terminal.{Terminal}
use Rattle.expr_parse.specs.declared.failure.Failure.{Failure}
use Rattle.expr_parse.specs.declared.found.Found.{Found}
use Rattle.expr_parse.specs.Parse.{expression}
use Rattle.expr_parse.specs.Reads.{ReadsOn}

pub record Nests (depth : ℕ) (pre : Global → ℕ → ℕ → Bor (List Terminal) → Type 0)
    (post : Global → ℕ → ℕ → Bor (List Terminal) → Result (Found × Bor (List Terminal)) Failure → Type 0) : Type 0 where
  pub callable : (alloc : Global) (least : ℕ) (list : Bor (List Terminal)) → pre alloc depth least list
  pub reads : (alloc : Global) (least : ℕ) (list : Bor (List Terminal)) (r : Result (Found × Bor (List Terminal)) Failure)
      → post alloc depth least list r → ReadsOn (expression depth least list.now) r
