-- The first of the words, and those after it.
use Rattle.std.proofs.Common.{◌≡◌, ◌≤◌, List, [], ◌∷◌, map, length, get_or, drop, take, ◌-◌, refl, ap, arith}
use Rattle.std.proofs.lemmas.List.{take_all}

pub front_of : {A B : Type 0} (f : A → B) (xs : List A) (d : A) → 1 ≤ length xs → map f xs ≡ f (get_or xs 0 d) ∷ map f (drop 1 xs)
front_of f [] d some = absurd (omega (arith, some))
front_of f (x ∷ xs) d some = refl

-- a slice without its first element is all after that
pub rest_of : {A : Type 0} (xs : List A) → take (length xs - 1) (drop 1 xs) ≡ drop 1 xs
rest_of [] = refl
rest_of (x ∷ xs) = take_all (length (x ∷ xs) - 1) xs (omega arith)

pub rest_map : {A B : Type 0} (f : A → B) (xs : List A) → map f (take (length xs - 1) (drop 1 xs)) ≡ drop 1 (map f xs)
rest_map f [] = refl
rest_map f (x ∷ xs) = ap (map f) (rest_of (x ∷ xs))
