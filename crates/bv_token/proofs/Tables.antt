-- The code's table is the defined one, by a test of each token that the checker computes.
use Rattle.std.proofs.Common.{◌≡◌, ℕ, ◌+◌, ◌<◌, Bool, true, false, List, [], get_or, map, Option, Some, None, bytes_eq, codes, refl, ap, ◌∙◌, arith}
use Rattle.std.proofs.lemmas.Slice.Eq.{bytes_eq-Decides}
use Rattle.bv_token.specs.declared.tokens.TheConstants.{FIRST_TOKEN, KEYWORDS, OTHERWISE}
use Rattle.bv_token.specs.Tokens.{unless_empty, keyword_of_token}
use Rattle.bv_base.proofs.Computed.{all_below, all_below-at}

abbrev same : Option (List ℕ) → Option (List ℕ) → Bool
same None None = true
same None (Some b) = false
same (Some a) None = false
same (Some a) (Some b) = bytes_eq a b

same-true : (a b : Option (List ℕ)) → same a b ≡ true → a ≡ b
same-true None None e = refl
same-true None (Some b) e = absurd (let no : false ≡ true = e in cc)
same-true (Some a) None e = absurd (let no : false ≡ true = e in cc)
same-true (Some a) (Some b) e = ap (λ w. Some w) ((bytes_eq-Decides a b).0 e)

abbrev is_in_table : ℕ → Bool
is_in_table n = same (unless_empty (get_or (map (λ w. w.now) KEYWORDS) n [])) (keyword_of_token (FIRST_TOKEN + n))

all_in_table : all_below 128 is_in_table ≡ true
unfolding keyword_of_token
all_in_table = refl

-- the entry of a token of the rows is its keyword
pub in_table : (token place : ℕ) (word : List ℕ) → word ≡ get_or (map (λ w. w.now) KEYWORDS) place [] → FIRST_TOKEN + place ≡ token → token < 256 → unless_empty word ≡ keyword_of_token token
in_table token place word entry is small =
    ap unless_empty entry ∙ same-true _ _ (all_below-at 128 is_in_table all_in_table place (omega (arith, is, small))) ∙ ap keyword_of_token is

abbrev has_no_keyword : ℕ → Bool
has_no_keyword n = same None (keyword_of_token n)

none_before_table : all_below OTHERWISE has_no_keyword ≡ true
unfolding keyword_of_token
none_before_table = refl

-- a byte below the first token has no keyword
pub before_table : (token : ℕ) → token < OTHERWISE → None ≡ keyword_of_token token
before_table token small = same-true _ _ (all_below-at OTHERWISE has_no_keyword none_before_table token small)

-- the first token is that of OTHERWISE
pub is_otherwise : Some (codes "OTHERWISE") ≡ keyword_of_token OTHERWISE
unfolding keyword_of_token
is_otherwise = refl
