-- Laws of lists of bytes.
use Rattle.std.proofs.Common.{◌≡◌, ℕ, ◌+◌, [], ◌∷◌, ◌++◌, length, refl}
use Rattle.bv_base.specs.Bytes.{zeros}
use Rattle.bv_base.proofs.Zeros.{zeros-add, length-zeros}

pub zeros_length : (n : ℕ) → length (zeros n) ≡ n
zeros_length = length-zeros

pub zeros_none : zeros 0 ≡ []
unfolding zeros
zeros_none = refl

-- one zero more
pub zeros_more : (n : ℕ) → zeros (n + 1) ≡ zeros n ++ 0 ∷ []
unfolding zeros
zeros_more n = zeros-add n 1
