-- What NEXT needs of numbers: the comparison with the limit.
use Rattle.std.proofs.Common.{◌≡◌, ℕ, not, nat_le, nat_lt, true, false, if◌then◌else◌, ℤ, pos, negsuc, refl, sym, ap, ◌∙◌, arith, int_le}
use Rattle.std.proofs.lemmas.Bool.Decides.{nat_tests}
use Rattle.std.specs.Int.Signed.{lt_z}
use Rattle.bv_num.specs.Operation.{is_negative}
use Rattle.runtime_lib.specs.Opened.{goes_on}

-- ---- the limit

not_lt : (a b : ℕ) → nat_lt a b ≡ not (nat_le b a)
not_lt a b = grind (arith, nat_tests)

below-not : (x y : ℤ) → lt_z x y ≡ not (int_le y x)
below-not (pos a) (pos b) = not_lt a b
below-not (pos a) (negsuc b) = refl
below-not (negsuc a) (pos b) = refl
below-not (negsuc a) (negsuc b) = not_lt b a

-- a number below 0
pub below-zero : (z : ℤ) → lt_z z (pos 0) ≡ is_negative z
below-zero (pos n) = let e : nat_lt n 0 ≡ false = grind (arith, nat_tests) in e
below-zero (negsuc n) = refl

-- whether a loop ends, by the step's sign
pub ends-down : (step limit number : ℤ) → is_negative step ≡ true → lt_z number limit ≡ not (goes_on step limit number)
ends-down step limit number is = below-not number limit ∙ ap (λ b. not (if b then int_le limit number else int_le number limit)) (sym is)

pub ends-up : (step limit number : ℤ) → is_negative step ≡ false → lt_z limit number ≡ not (goes_on step limit number)
ends-up step limit number is = below-not limit number ∙ ap (λ b. not (if b then int_le limit number else int_le number limit)) (sym is)
