-- The keyword at the front of a text, for tokenising it. When a word counts is this project's own.
use Rattle.std.specs.Prelude.{◌≡◌, ◌≢◌, ◌⊎◌, ℕ, ◌/◌, ◌%◌, ◌<◌, ◌≤◌, Bool, true, not, ◌||◌, nat_lt, List, [], ◌∷◌, ◌++◌, length, Option, Some, None, bytes_eq, codes, if◌then◌else◌}
use Rattle.std.specs.List.{list_any}
use Rattle.bv_token.specs.Names.{is_in_name}
use Rattle.bv_token.specs.Tokens.{words, keyword_of_token, keyword_of_pair, pairs}

-- the keyword of a token, or of a pair, which is 256 times its first byte plus its second
abbrev pub word_of : ℕ → Option (List ℕ)
word_of token = if nat_lt token 256 then keyword_of_token token else keyword_of_pair pairs (token / 256) (token % 256)

-- the words that count only where no name goes on after them
abbrev pub closed_words : List (List ℕ)
closed_words = words (codes "CLS COUNT END ENDCASE ENDIF ENDPROC ENDWHILE ERL ERR FALSE MOVE QUIT REPORT RETURN STOP TRUE")

-- whether a word is one of these
abbrev pub needs_end : List ℕ → Bool
needs_end word = list_any (λ closed. bytes_eq closed word) closed_words

-- no name goes on at the front of a text
abbrev pub ends_name : List ℕ → Bool
ends_name [] = true
ends_name (c ∷ rest) = not (is_in_name c)

-- The word of a token begins the text, has this size, and counts.
pub record BeginsWord (text : List ℕ) (token size : ℕ) : Type 0 where
  pub word : List ℕ
  pub rest : List ℕ
  pub is_word : word_of token ≡ Some word
  pub spelled : text ≡ word ++ rest
  pub size_is : length word ≡ size
  pub some : size ≢ 0
  pub counts : not (needs_end word) || ends_name rest ≡ true

-- the longest word that begins the text and counts, by its size and its smallest token; or that there is none
abbrev pub LongestWord : List ℕ → Option (ℕ × ℕ) → Type 0
LongestWord text None = (token size : ℕ) → BeginsWord text token size → ⊥
LongestWord text (Some longest) =
    BeginsWord text longest.1 longest.0 × ((token size : ℕ) → BeginsWord text token size → (size < longest.0) ⊎ ((size ≡ longest.0) × (longest.1 ≤ token)))
