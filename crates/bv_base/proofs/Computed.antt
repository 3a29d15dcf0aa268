-- Rules over small numbers, by a test of each that the checker computes.
use Rattle.std.proofs.Common.{◌≡◌, inl, inr, ℕ, zero, suc, ◌<◌, Bool, true, ◌&&◌, subst, arith}
use Rattle.std.proofs.lemmas.Bool.{and_parts, cases_lt}

-- a test holds of all numbers below a bound
abbrev pub all_below : ℕ → (ℕ → Bool) → Bool
all_below zero test = true
all_below (suc n) test = test n && all_below n test

pub all_below-at : (bound : ℕ) (test : ℕ → Bool) → all_below bound test ≡ true → (n : ℕ) → n < bound → test n ≡ true
all_below-at zero test all n low = absurd (omega (arith, low))
all_below-at (suc bound) test all n low =
    let both = and_parts (test bound) (all_below bound test) all in
    elim (cases_lt n bound) [
      | inl less ↦ all_below-at bound test both.1 n less
      | inr least ↦ let last : bound ≡ n = omega (arith, least, low) in subst (λ m. test m ≡ true) last both.0
    ]
