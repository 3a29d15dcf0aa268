-- The longest of the words of the tokens before a place is that of all tokens, once all places were seen.
use Rattle.std.proofs.Common.{◌≡◌, ◌⊎◌, inl, inr, ℕ, suc, ◌+◌, ◌-◌, ◌*◌, ◌/◌, ◌%◌, ◌<◌, ◌≤◌, Bool, true, false, ◌&&◌, ◌||◌, ◌==◌, nat_le, nat_lt, if◌then◌else◌, List, [], ◌∷◌, length, map, slice_index, Option, Some, None, MatchOption, refl, sym, ap, subst, ◌∙◌, arith, ltb-true, ltb-false, lt-ltb, eqb-true}
use Rattle.std.specs.List.{list_all}
use Rattle.std.proofs.lemmas.Bool.{and_parts, cases_lt}
use Rattle.bv_base.proofs.Computed.{all_below, all_below-at}
use Rattle.bv_token.specs.Tokens.{Pair, keyword_of_token, keyword_of_pair, pairs}
use Rattle.bv_token.specs.Words.{word_of, BeginsWord, LongestWord}
use Rattle.bv_token.specs.Search.{pair_tokens, candidate, longer}
use Rattle.bv_token.proofs.Tables.{before_table}

-- the candidates rise
abbrev rises : ℕ → Bool
rises k = all_below k (λ j. nat_lt (candidate j) (candidate k))

all_rise : all_below 135 rises ≡ true
all_rise = refl

rising : (j k : ℕ) → j < k → k < 135 → candidate j < candidate k
rising j k less within = ltb-true _ _ (all_below-at k (λ i. nat_lt (candidate i) (candidate k)) (all_below-at 135 rises all_rise k within) j less)

-- a pair with a word is one of the table's

in_pairs : (ps : List Pair) (first second : ℕ) (word : List ℕ) → keyword_of_pair ps first second ≡ Some word → (k : ℕ) × (k < length ps) × (slice_index (map (λ p. 256 * p.first + p.second) ps) k ≡ 256 * first + second)
in_pairs [] first second word e = absurd (let no : None ≡ Some word = e in cc)
in_pairs (p ∷ ps) first second word e = cases (p.first == first && p.second == second) refl e (λ later. in_pairs ps first second word later)
  where
    cases : (t : Bool) → (p.first == first && p.second == second) ≡ t → (if t then Some p.word else keyword_of_pair ps first second) ≡ Some word → (keyword_of_pair ps first second ≡ Some word → (k : ℕ) × (k < length ps) × (slice_index (map (λ q. 256 * q.first + q.second) ps) k ≡ 256 * first + second)) → (k : ℕ) × (k < length (p ∷ ps)) × (slice_index (map (λ q. 256 * q.first + q.second) (p ∷ ps)) k ≡ 256 * first + second)
    cases true is e next =
        let both = and_parts (p.first == first) (p.second == second) is in
        let same_first : p.first ≡ first = eqb-true _ _ both.0 in
        let same_second : p.second ≡ second = eqb-true _ _ both.1 in
        (0, omega arith, omega (arith, same_first, same_second))
    cases false is e next =
        let others = next e in
        (suc others.0, omega (arith, others.1), others.2)

-- every token with a word is a candidate
complete : (token : ℕ) (word : List ℕ) → word_of token ≡ Some word → (k : ℕ) × (k < 135) × (candidate k ≡ token)
complete token word e = cases (nat_lt token 256) refl e
  where
    cases : (t : Bool) → nat_lt token 256 ≡ t → (if t then keyword_of_token token else keyword_of_pair pairs (token / 256) (token % 256)) ≡ Some word → (k : ℕ) × (k < 135) × (candidate k ≡ token)
    cases true is e =
        elim (cases_lt token 127) [
          | inl low ↦ absurd (let no : None ≡ Some word = before_table token low ∙ e in cc)
          | inr least ↦
              let small : token - 127 < 129 = omega (arith, least, ltb-true token 256 is) in
              let back : 127 + (token - 127) ≡ token = omega (arith, least) in
              (token - 127, omega (arith, small), ap (λ t. if t then 127 + (token - 127) else slice_index pair_tokens (token - 127 - 129)) (lt-ltb _ 129 small) ∙ back)
        ]
    cases false is e =
        let found = in_pairs pairs (token / 256) (token % 256) word e in
        let past : 129 ≤ 129 + found.0 = omega arith in
        let back : 129 + found.0 - 129 ≡ found.0 = omega arith in
        let whole : 256 * (token / 256) + token % 256 ≡ token = omega arith in
        (129 + found.0, omega (arith, found.1), at_pair (129 + found.0) past ∙ ap (slice_index pair_tokens) back ∙ found.2 ∙ whole)
      where
        at_pair : (k : ℕ) → 129 ≤ k → candidate k ≡ slice_index pair_tokens (k - 129)
        at_pair k past = ap (λ t. if t then 127 + k else slice_index pair_tokens (k - 129)) (not_below (nat_lt k 129) refl)
          where
            not_below : (t : Bool) → nat_lt k 129 ≡ t → nat_lt k 129 ≡ false
            not_below true is = absurd (omega (arith, past, ltb-true k 129 is))
            not_below false is = is

-- a token's number: a byte from 127 on, or a pair with a first byte from 198 to 200 and a second from 128 on
abbrev pub is_token_number : ℕ → Bool
is_token_number token = nat_le 127 token && nat_lt token 256 || nat_le 50688 token && (nat_lt token 51456 && nat_le 128 (token % 256))

all_numbers : all_below 135 (λ k. is_token_number (candidate k)) ≡ true
all_numbers = refl

pub token_number : (token : ℕ) (word : List ℕ) → word_of token ≡ Some word → is_token_number token ≡ true
token_number token word e = let k = complete token word e in ap is_token_number (sym k.2) ∙ all_below-at 135 (λ k. is_token_number (candidate k)) all_numbers k.0 k.1

-- the bytes of words are visible ones
abbrev is_visible : Option (List ℕ) → Bool
is_visible None = true
is_visible (Some word) = list_all (nat_le 33) word

all_visible : all_below 135 (λ k. is_visible (word_of (candidate k))) ≡ true
unfolding keyword_of_token
all_visible = refl

pub word_visible : (token : ℕ) (word : List ℕ) → word_of token ≡ Some word → list_all (nat_le 33) word ≡ true
word_visible token word e =
    let k = complete token word e in
    ap is_visible (sym e ∙ ap word_of (sym k.2)) ∙ all_below-at 135 (λ k. is_visible (word_of (candidate k))) all_visible k.0 k.1

-- a token's word has one size
one_size : (text : List ℕ) (token m n : ℕ) → BeginsWord text token m → BeginsWord text token n → m ≡ n
one_size text token m n a b =
    let same : Some a.word ≡ Some b.word = sym a.is_word ∙ b.is_word in
    let words : a.word ≡ b.word = cc in
    sym a.size_is ∙ ap length words ∙ b.size_is

-- what was found is the longest word of the candidates before a place
abbrev pub IsBestBefore : List ℕ → ℕ → Option (ℕ × ℕ) → Type 0
IsBestBefore text place None = (k size : ℕ) → k < place → BeginsWord text (candidate k) size → ⊥
IsBestBefore text place (Some best) =
    BeginsWord text best.1 best.0 × ((j : ℕ) × (j < place) × (best.1 ≡ candidate j)) × ((k size : ℕ) → k < place → BeginsWord text (candidate k) size → (size < best.0) ⊎ ((size ≡ best.0) × (best.1 ≤ candidate k)))

at_last : (text : List ℕ) (k place size : ℕ) → k < place + 1 → place ≤ k → BeginsWord text (candidate k) size → BeginsWord text (candidate place) size
at_last text k place size below least b = subst (λ j. BeginsWord text (candidate j) size) (let e : k ≡ place = omega (arith, below, least) in e) b

same_candidate : (k place : ℕ) → k < place + 1 → place ≤ k → candidate k ≡ candidate place
same_candidate k place below least = ap candidate (let e : k ≡ place = omega (arith, below, least) in e)

-- one candidate more
pub best_more : (text : List ℕ) (place : ℕ) (found : Option (ℕ × ℕ)) (size : Option ℕ) → place < 135 → MatchOption size ((n : ℕ) → BeginsWord text (candidate place) n → ⊥) (λ n. BeginsWord text (candidate place) n) → IsBestBefore text place found → IsBestBefore text (place + 1) (longer found size (candidate place))
best_more text place None None within none best = λ k n below b. (elim (cases_lt k place) [ inl less ↦ best k n less b | inr least ↦ none n (at_last text k place n below least b) ])
best_more text place (Some old) None within none best = (
  best.0,
  (best.1.0, omega (arith, best.1.1), best.1.2),
  λ k n below b. (elim (cases_lt k place) [ inl less ↦ best.2 k n less b | inr least ↦ absurd (none n (at_last text k place n below least b)) ]),
)
best_more text place None (Some size) within is best = (
  is,
  (place, omega arith, refl),
  λ k n below b. (elim (cases_lt k place) [ inl less ↦ absurd (best k n less b) | inr least ↦ inr (one_size text (candidate place) n size (at_last text k place n below least b) is, omega (arith, same_candidate k place below least)) ]),
)
best_more text place (Some old) (Some size) within is best = cases (nat_lt old.0 size) refl
  where
    cases : (t : Bool) → nat_lt old.0 size ≡ t → IsBestBefore text (place + 1) (if t then Some (size, candidate place) else Some old)
    cases true greater = (
      is,
      (place, omega arith, refl),
      λ k n below b. (elim (cases_lt k place) [ inl less ↦ inl (shorter k n less b) | inr least ↦ inr (one_size text (candidate place) n size (at_last text k place n below least b) is, omega (arith, same_candidate k place below least)) ]),
    )
      where
        shorter : (k n : ℕ) → k < place → BeginsWord text (candidate k) n → n < size
        shorter k n less b = elim (best.2 k n less b) [ inl short ↦ omega (arith, short, ltb-true old.0 size greater) | inr same ↦ omega (arith, same.0, ltb-true old.0 size greater) ]
    cases false most = (
      best.0,
      (best.1.0, omega (arith, best.1.1), best.1.2),
      λ k n below b. (elim (cases_lt k place) [ inl less ↦ best.2 k n less b | inr least ↦ last k n below least b ]),
    )
      where
        last : (k n : ℕ) → k < place + 1 → place ≤ k → BeginsWord text (candidate k) n → (n < old.0) ⊎ ((n ≡ old.0) × (old.1 ≤ candidate k))
        last k n below least b =
            let same : n ≡ size = one_size text (candidate place) n size (at_last text k place n below least b) is in
            let within_old : size ≤ old.0 = ltb-false old.0 size most in
            let rise = rising best.1.0 place best.1.1 within in
            elim (cases_lt n old.0) [
              | inl short ↦ inl short
              | inr long ↦ inr (omega (arith, long, same, within_old), omega (arith, best.1.2, rise, same_candidate k place below least))
            ]

pub best_first : (text : List ℕ) → IsBestBefore text 0 None
best_first text k size below b = omega (arith, below)

-- once all candidates were seen
pub best_of_all : (text : List ℕ) (place : ℕ) (found : Option (ℕ × ℕ)) → 135 ≤ place → IsBestBefore text place found → LongestWord text found
best_of_all text place None past best = λ token size b. (let k = complete token b.word b.is_word in best k.0 size (omega (arith, k.1, past)) (subst (λ t. BeginsWord text t size) (sym k.2) b))
best_of_all text place (Some old) past best = (
  best.0,
  λ token size b. (let k = complete token b.word b.is_word in elim (best.2 k.0 size (omega (arith, k.1, past)) (subst (λ t. BeginsWord text t size) (sym k.2) b)) [ inl short ↦ inl short | inr same ↦ inr (same.0, omega (arith, same.1, k.2)) ]),
)

-- a text has one longest word
pub one_longest : (text : List ℕ) (a b : Option (ℕ × ℕ)) → LongestWord text a → LongestWord text b → a ≡ b
one_longest text None None p q = refl
one_longest text None (Some b) p q = absurd (p b.1 b.0 q.0)
one_longest text (Some a) None p q = absurd (q a.1 a.0 p.0)
one_longest text (Some a) (Some b) p q = by_order (p.1 b.1 b.0 q.0) (q.1 a.1 a.0 p.0)
  where
    by_order : (b.0 < a.0) ⊎ ((b.0 ≡ a.0) × (a.1 ≤ b.1)) → (a.0 < b.0) ⊎ ((a.0 ≡ b.0) × (b.1 ≤ a.1)) → Some a ≡ Some b
    by_order (inl less) (inl more) = absurd (omega (arith, less, more))
    by_order (inl less) (inr same) = absurd (omega (arith, less, same.0))
    by_order (inr same) (inl more) = absurd (omega (arith, same.0, more))
    by_order (inr one) (inr other) =
        let sizes : a.0 ≡ b.0 = other.0 in
        let tokens : a.1 ≡ b.1 = omega (arith, one.1, other.1) in
        λ i. Some (sizes i, tokens i)
