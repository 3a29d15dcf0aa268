-- The low 32 bits of a product and a sum.
use Rattle.std.proofs.Common.{◌≡◌, ℕ, ◌+◌, ◌*◌, ◌%◌, ◌^◌, arith}

pub sum_of_product : (a b c : ℕ) → (a * b % 2 ^ 32 + c) % 2 ^ 32 ≡ (a * b + c) % 2 ^ 32
sum_of_product a b c = omega arith

pub ruleset product_laws = (sum_of_product)
