-- Whether a token's word begins a text and counts, and how long it is.
use Rattle.std.proofs.Common.{◌≡◌, ◌≢◌, ℕ, ◌/◌, ◌%◌, ◌≤◌, Bool, true, false, not, ◌&&◌, ◌||◌, ◌==◌, nat_eq, nat_le, nat_lt, if◌then◌else◌, List, [], ◌∷◌, ◌++◌, length, drop, Option, Some, None, refl, sym, ap, ◌∙◌, arith, true≢false, eq-eqb, ltb-true, leb-true}
use Rattle.std.specs.List.{starts_with}
use Rattle.std.proofs.lemmas.Bool.Decides.{Decides-eqb}
use Rattle.std.proofs.lemmas.List.{append_cancel_left}
use Rattle.std.proofs.lemmas.Slice.Eq.{starts_is}
use Rattle.bv_base.proofs.Computed.{all_below, all_below-at}
use Rattle.bv_token.specs.Tokens.{Pair, unless_empty, keyword_of_token, keyword_of_pair, pairs}
use Rattle.bv_token.specs.Words.{word_of, needs_end, ends_name, BeginsWord}

-- a text that isn't empty is the token's word
pub is_word : (token : ℕ) (word : List ℕ) → length word ≢ 0 → unless_empty word ≡ word_of token → word_of token ≡ Some word
is_word token [] some is = absurd (some refl)
is_word token (c ∷ word) some is = sym is

same_word : (text : List ℕ) (token size : ℕ) (word : List ℕ) → word_of token ≡ Some word → BeginsWord text token size → (rest : List ℕ) × (text ≡ word ++ rest) × ((not (needs_end word) || ends_name rest) ≡ true)
same_word text token size word is b =
    let same : Some b.word ≡ Some word = sym b.is_word ∙ is in
    let words : b.word ≡ word = cc in
    (b.rest, b.spelled ∙ ap (λ w. w ++ b.rest) words, ap (λ w. not (needs_end w) || ends_name b.rest) (sym words) ∙ b.counts)

-- what the test for an empty text says
pub not_empty : (word : List ℕ) (t : Bool) → t ≡ (length word == 0) → t ≡ false → length word ≢ 0
not_empty word t is fails e = true≢false (sym (eq-eqb (length word) 0 e) ∙ sym is ∙ fails)

-- the token has no word
pub no_word : (text word : List ℕ) (token : ℕ) → length word ≡ 0 → unless_empty word ≡ word_of token → (size : ℕ) → BeginsWord text token size → ⊥
no_word text [] token none is size b = let no : None ≡ Some b.word = is ∙ b.is_word in absurd (cc)
no_word text (c ∷ word) token none is size b = omega (arith, none)

-- another text comes first
pub not_first : (text word : List ℕ) (token : ℕ) → length word ≢ 0 → unless_empty word ≡ word_of token → starts_with nat_eq text word ≡ false → (size : ℕ) → BeginsWord text token size → ⊥
not_first text word token some is other size b =
    let front = same_word text token size word (is_word token word some is) b in
    true≢false (sym ((starts_is Decides-eqb text word false (sym other)).1 front.0 front.1))

pub splits : (text word : List ℕ) → starts_with nat_eq text word ≡ true → text ≡ word ++ drop (length word) text
splits text word first = (starts_is Decides-eqb text word true (sym first)).0 refl

-- the word doesn't count
pub not_counted : (text word : List ℕ) (token : ℕ) → length word ≢ 0 → unless_empty word ≡ word_of token → starts_with nat_eq text word ≡ true → (not (needs_end word) || ends_name (drop (length word) text)) ≡ false → (size : ℕ) → BeginsWord text token size → ⊥
not_counted text word token some is first fails size b =
    let front = same_word text token size word (is_word token word some is) b in
    let same : drop (length word) text ≡ front.0 = append_cancel_left word _ _ (sym (splits text word first) ∙ front.1) in
    true≢false (sym front.2 ∙ ap (λ r. not (needs_end word) || ends_name r) (sym same) ∙ fails)

-- the word counts
pub begins_word : (text word : List ℕ) (token : ℕ) → length word ≢ 0 → unless_empty word ≡ word_of token → starts_with nat_eq text word ≡ true → (not (needs_end word) || ends_name (drop (length word) text)) ≡ true → BeginsWord text token (length word)
begins_word text word token some is first counts = record {
  word = word;
  rest = drop (length word) text;
  is_word = is_word token word some is;
  spelled = splits text word first;
  size_is = refl;
  some = some;
  counts = counts;
}

-- no word has more than nine bytes
abbrev is_short : Option (List ℕ) → Bool
is_short None = true
is_short (Some word) = nat_le (length word) 9

short_singles : all_below 256 (λ t. is_short (keyword_of_token t)) ≡ true
unfolding keyword_of_token
short_singles = refl

-- the words of these pairs have at most nine bytes
abbrev AllShort : List Pair → Type 0
AllShort [] = Unit {0}
AllShort (p ∷ ps) = (nat_le (length p.word) 9 ≡ true) × AllShort ps

short_pair : (ps : List Pair) (first second : ℕ) → AllShort ps → is_short (keyword_of_pair ps first second) ≡ true
short_pair [] first second each = refl
short_pair (p ∷ ps) first second each = cases (p.first == first && p.second == second) (short_pair ps first second each.1)
  where
    cases : (t : Bool) → is_short (keyword_of_pair ps first second) ≡ true → is_short (if t then Some p.word else keyword_of_pair ps first second) ≡ true
    cases true later = each.0
    cases false later = later

word_is_short : (token : ℕ) → is_short (word_of token) ≡ true
word_is_short token = cases (nat_lt token 256) refl
  where
    cases : (t : Bool) → nat_lt token 256 ≡ t → is_short (if t then keyword_of_token token else keyword_of_pair pairs (token / 256) (token % 256)) ≡ true
    cases true is = all_below-at 256 (λ t. is_short (keyword_of_token t)) short_singles token (ltb-true token 256 is)
    cases false is = short_pair pairs (token / 256) (token % 256) (refl, (refl, (refl, (refl, (refl, (refl, tt))))))

pub size_fits : (word : List ℕ) (token : ℕ) → length word ≢ 0 → unless_empty word ≡ word_of token → length word ≤ 9
size_fits word token some is =
    let short : nat_le (length word) 9 ≡ true = ap is_short (sym (is_word token word some is)) ∙ word_is_short token in
    leb-true _ _ short
