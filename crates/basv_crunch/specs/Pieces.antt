-- The pieces of a text that is to be tokenised: its lines, whatever system wrote them. This project's own.
use Rattle.std.specs.Prelude.{ℕ, Bool, not, ◌&&◌, ◌==◌, List, [], ◌∷◌, if◌then◌else◌}
use Rattle.std.specs.List.{list_all}
use Rattle.bv_num.specs.Value.{begins_with}
use Rattle.bv_token.specs.Tokens.{onto_first}

-- what is between bytes 10, without one byte 13 before each of them
abbrev pub pieces : List ℕ → List (List ℕ)
pieces [] = [] ∷ []
pieces (b ∷ rest) =
    if b == 10 then [] ∷ pieces rest
    else if b == 13 && begins_with 10 rest then pieces rest
    else onto_first b (pieces rest)

-- any byte but the one that ends a line
abbrev pub in_line : ℕ → Bool
in_line b = not (b == 10)

-- a text without the one byte 13 that may end it
abbrev pub without_return : List ℕ → List ℕ
without_return [] = []
without_return (b ∷ []) = if b == 13 then [] else b ∷ []
without_return (b ∷ c ∷ more) = b ∷ without_return (c ∷ more)

-- nothing but spaces, or nothing at all
abbrev pub is_blank : List ℕ → Bool
is_blank piece = list_all (λ b. b == 32) piece
