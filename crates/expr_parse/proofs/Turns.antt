-- A recursion on what is left of a count, beside a loop that counts up, and one on a depth.
use Rattle.std.proofs.Common.{◌≡◌, ℕ, suc, ◌+◌, ◌-◌, ◌<◌, ◌≤◌, ap, ◌∙◌, arith}

-- a further turn
pub turn_left : {X : Type 0} {x : X} (f : ℕ → X) (count turn : ℕ) → turn < count → x ≡ f (count - turn) → x ≡ f (suc (count - (turn + 1)))
turn_left f count turn more h = let left : count - turn ≡ suc (count - (turn + 1)) = omega arith in h ∙ ap f left

-- no further turn
pub turns_done : {X : Type 0} {x : X} (f : ℕ → X) (count turn : ℕ) → count ≤ turn → x ≡ f (count - turn) → x ≡ f 0
turns_done f count turn done h = let left : count - turn ≡ 0 = omega arith in h ∙ ap f left

-- a depth at which there is more
pub one_deeper : {X : Type 0} (f : ℕ → X) (depth : ℕ) → 0 < depth → f depth ≡ f (suc (depth - 1))
one_deeper f depth more = let deep : depth ≡ suc (depth - 1) = omega arith in ap f deep
