-- Laws of `zeros` and `repeated`, over any number of bytes.
use Rattle.std.proofs.Common.{◌≡◌, ℕ, zero, suc, ◌+◌, List, ◌∷◌, ◌++◌, length, replicate, refl, ap, ◌∙◌, arith}
use Rattle.bv_base.specs.Bytes.{zeros, repeated}

length-replicate : (n byte : ℕ) → length (replicate {A = ℕ} n byte) ≡ n
length-replicate zero byte = refl
length-replicate (suc n) byte = omega (arith, length-replicate n byte)

pub length-zeros : (n : ℕ) → length (zeros n) ≡ n
unfolding zeros
length-zeros n = length-replicate n 0

pub length-repeated : (n byte : ℕ) → length (repeated n byte) ≡ n
unfolding repeated
length-repeated n byte = length-replicate n byte

replicate-add : (m n : ℕ) → replicate {A = ℕ} (m + n) 0 ≡ replicate m 0 ++ replicate n 0
replicate-add zero n = ap (λ k. replicate {A = ℕ} k 0) (let e : 0 + n ≡ n = omega arith in e)
replicate-add (suc m) n = ap (λ k. replicate {A = ℕ} k 0) (let e : suc m + n ≡ suc (m + n) = omega arith in e) ∙ (let cons : List ℕ → List ℕ = λ xs. 0 ∷ xs in ap cons (replicate-add m n))

-- a run of zeros is one run and another
pub zeros-add : (m n : ℕ) → zeros (m + n) ≡ zeros m ++ zeros n
unfolding zeros
zeros-add m n = replicate-add m n
