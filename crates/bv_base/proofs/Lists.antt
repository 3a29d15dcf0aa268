-- What equal lists have in common at their fronts.
use Rattle.std.proofs.Common.{◌≡◌, List, [], ◌∷◌, ◌++◌, length, refl, arith}

-- equal lists have equal heads and equal tails
pub same_head : {A : Type 0} (x y : A) (xs ys : List A) → x ∷ xs ≡ y ∷ ys → x ≡ y
same_head x y xs ys e = cc

pub same_tail : {A : Type 0} (x y : A) (xs ys : List A) → x ∷ xs ≡ y ∷ ys → xs ≡ ys
same_tail x y xs ys e = cc

-- two fronts of one length of equal lists are the same, and so is what follows them
pub same_fronts : {A : Type 0} (xs ys rest rest' : List A) → length xs ≡ length ys → xs ++ rest ≡ ys ++ rest' → (xs ≡ ys) × (rest ≡ rest')
same_fronts [] [] rest rest' e same = (refl, same)
same_fronts [] (y ∷ ys) rest rest' e same = absurd (omega (arith, e))
same_fronts (x ∷ xs) [] rest rest' e same = absurd (omega (arith, e))
same_fronts (x ∷ xs) (y ∷ ys) rest rest' e same =
    let fronts = same_fronts xs ys rest rest' (omega (arith, e)) (same_tail x y _ _ same) in
    ((λ i. same_head x y _ _ same i ∷ fronts.0 i), fronts.1)
