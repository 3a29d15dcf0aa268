-- What bytes, rows, references and tokens list as, before what follows them.
use Rattle.std.proofs.Common.{◌≡◌, ◌≢◌, inl, inr, ℕ, ◌/◌, ◌%◌, ◌<◌, ◌≤◌, Bool, true, false, not, ◌&&◌, ◌||◌, ◌==◌, nat_le, nat_lt, if◌then◌else◌, List, [], ◌∷◌, ◌++◌, length, drop, decimal, unwrap_or, codes, Some, is_some, refl, sym, ap, subst, ◌∙◌, arith, true≢false, leb-true, ltb-true, append_assoc}
use Rattle.std.specs.Char.{digit_value}
use Rattle.std.specs.List.{AllByRecursion}
use Rattle.std.proofs.lemmas.Bool.{and_parts, cases_lt, cases_eq, ne_eqb, le-leb}
use Rattle.std.proofs.lemmas.Bool.Decides.{nat_tests}
use Rattle.bv_base.proofs.Computed.{all_below, all_below-at}
use Rattle.bv_num.specs.Digits.{is_digit}
use Rattle.bv_token.specs.Named.{rem_token, data_token}
use Rattle.bv_token.specs.Names.{is_in_name}
use Rattle.bv_token.specs.References.{line_reference, reference_of}
use Rattle.bv_token.specs.Tokens.{begins_pair, keyword_of, keyword_of_token, keyword_of_pair, pairs}
use Rattle.bv_token.specs.Words.{word_of}
use Rattle.bv_token.proofs.Candidates.{is_token_number, token_number}
use Rattle.bv_token.proofs.References.{reads_back}
use Rattle.bv_token.proofs.Tables.{before_table}
use Rattle.lister.specs.Listing.{Shown, shown_as, shown, shown_byte, shown_pair, shown_reference, begins_tail, listed, hex_byte}
use Rattle.lister.proofs.Listed.{listed-drop}
use Rattle.basv_crunch.specs.declared.part.Place.{Place}
use Rattle.basv_crunch.specs.declared.part.Place.TheVariants as places
use Rattle.basv_crunch.specs.Parts.{token_bytes, after_word}

-- tokens from a place on list as this text
abbrev pub Lists : Place → List ℕ → List ℕ → Type 0
Lists places.Quotes tokens text = listed 0 true tokens ≡ text
Lists places.Tail tokens text = tokens ≡ text
Lists place tokens text = listed 0 false tokens ≡ text

-- the last of four
fourth : {A : Type 0} (t u v : Bool) (a b c d : A) → t ≡ false → u ≡ false → v ≡ false → (if t then a else if u then b else if v then c else d) ≡ d
fourth t u v a b c d p q r = λ i. if p i then a else if q i then b else if r i then c else d

-- a byte below the first token stands for itself
shown_low : (c : ℕ) (rest : List ℕ) → c < 127 → shown c rest ≡ shown_as (c ∷ []) 0
shown_low c rest low =
    let no_pair : begins_pair c ≡ false = grind (arith, nat_tests) in
    let no_tail : begins_tail c ≡ false = grind (arith, nat_tests) in
    fourth (c == line_reference) (begins_pair c) (begins_tail c) (shown_reference rest) (shown_pair c rest) (shown_as (shown_byte c ++ rest) (length rest)) (shown_as (shown_byte c) 0) (ne_eqb c line_reference (λ e. omega (arith, low, e))) no_pair no_tail
    ∙ ap (λ k. shown_as (unwrap_or k (c ∷ [])) 0) (sym (before_table c low))

pub low_listed : (c : ℕ) (rest : List ℕ) → c < 127 → listed 0 false (c ∷ rest) ≡ c ∷ listed 0 (c == 34) rest
low_listed c rest low = ap (λ (s : Shown). s.text ++ listed s.taken (c == 34) rest) (shown_low c rest low)

-- a byte that stands for itself and is no quotation mark
abbrev pub IsPlain : ℕ → Type 0
IsPlain c = (c < 127) × (c ≢ 34)

pub plain_listed : (c : ℕ) (rest : List ℕ) → IsPlain c → listed 0 false (c ∷ rest) ≡ c ∷ listed 0 false rest
plain_listed c rest plain = low_listed c rest plain.0 ∙ ap (λ q. c ∷ listed 0 q rest) (ne_eqb c 34 plain.1)

pub row_listed : (row more : List ℕ) → AllByRecursion IsPlain row → listed 0 false (row ++ more) ≡ row ++ listed 0 false more
row_listed [] more each = refl
row_listed (c ∷ row) more each = plain_listed c (row ++ more) each.0 ∙ ap (λ l. c ∷ l) (row_listed row more each.1)

pub name_plain : (c : ℕ) → is_in_name c ≡ true → IsPlain c
name_plain c is = (low, λ e. true≢false (sym is ∙ ap is_in_name e))
  where
    low : c < 127
    low = elim (cases_lt c 127) [ inl less ↦ less | inr most ↦ absurd (true≢false (sym is ∙ high most)) ]
      where
        high : 127 ≤ c → is_in_name c ≡ false
        high most = grind (arith, nat_tests)

pub digit_plain : (c : ℕ) → is_digit 16 c ≡ true → IsPlain c
digit_plain c is = (low, λ e. true≢false (sym is ∙ ap (is_digit 16) e))
  where
    small : digit_value c < 16
    small = ltb-true (digit_value c) 16 is

    low : c < 127
    low = elim (cases_lt c 127) [ inl less ↦ less | inr most ↦ absurd (let high : digit_value c ≡ 36 = grind (arith, nat_tests) in omega (arith, high, small)) ]

pub decimal_plain : (c : ℕ) → is_digit 10 c ≡ true → IsPlain c
decimal_plain c is = (low, λ e. true≢false (sym is ∙ ap (is_digit 10) e))
  where
    small : digit_value c < 10
    small = ltb-true (digit_value c) 10 is

    low : c < 127
    low = elim (cases_lt c 127) [ inl less ↦ less | inr most ↦ absurd (let high : digit_value c ≡ 36 = grind (arith, nat_tests) in omega (arith, high, small)) ]

-- a reference lists as its number
pub reference_listed : (number : ℕ) (more : List ℕ) → number < 65536 → listed 0 false ((line_reference ∷ reference_of number) ++ more) ≡ decimal number ++ listed 0 false more
reference_listed number more small =
    let back = reads_back (number % 256) (number / 256) number refl (omega (arith, small)) small in
    ap (λ n. decimal n ++ listed 0 false more) back

-- a token with a word begins no reference and no pair, and is no quotation mark
abbrev is_single : ℕ → Bool
is_single t = not (is_some (keyword_of_token t)) || (not (t == line_reference) && (not (begins_pair t) && not (t == 34)))

all_single : all_below 256 is_single ≡ true
unfolding keyword_of_token
all_single = refl

not-true' : (t : Bool) → not t ≡ true → t ≡ false
not-true' true e = absurd (true≢false (sym e))
not-true' false e = refl

single_tests : (t : ℕ) (word : List ℕ) → t < 256 → keyword_of_token t ≡ Some word → ((t == line_reference) ≡ false) × (begins_pair t ≡ false) × ((t == 34) ≡ false)
single_tests t word small is =
    let all : (not (is_some (keyword_of_token t)) || (not (t == line_reference) && (not (begins_pair t) && not (t == 34)))) ≡ true = all_below-at 256 is_single all_single t small in
    let three : (not (t == line_reference) && (not (begins_pair t) && not (t == 34))) ≡ true = ap (λ k. not (is_some k) || (not (t == line_reference) && (not (begins_pair t) && not (t == 34)))) (sym is) ∙ all in
    let first = and_parts (not (t == line_reference)) (not (begins_pair t) && not (t == 34)) three in
    let others = and_parts (not (begins_pair t)) (not (t == 34)) first.1 in
    (not-true' _ first.0, not-true' _ others.0, not-true' _ others.1)

-- after another word than REM and DATA what follows lists by itself
after_other : (t : ℕ) (more rest : List ℕ) → begins_tail t ≡ false → Lists (after_word t) more rest → listed 0 false more ≡ rest
after_other t more rest no_tail = by _ (begins_tail t) _ no_tail
  where
    by : (a b c : Bool) → b ≡ false → Lists (if a then places.Call else if b then places.Tail else if c then places.Awaiting else places.Code) more rest → listed 0 false more ≡ rest
    by true b c e lists = lists
    by false true c e lists = absurd (true≢false e)
    by false false true e lists = lists
    by false false false e lists = lists

after_tail : (t : ℕ) → begins_tail t ≡ true → after_word t ≡ places.Tail
after_tail t is =
    elim (cases_eq t rem_token) [
      | inl e ↦ ap after_word e
      | inr not_rem ↦ elim (cases_eq t data_token) [
        | inl e ↦ ap after_word e
        | inr not_data ↦ absurd (true≢false (sym is ∙ (λ i. ne_eqb t rem_token not_rem i || ne_eqb t data_token not_data i)))
      ]
    ]

single_listed : (t : ℕ) (word more rest : List ℕ) → t < 256 → keyword_of_token t ≡ Some word → Lists (after_word t) more rest → listed 0 false (t ∷ more) ≡ word ++ rest
single_listed t word more rest small is lists = by_tail (begins_tail t) refl
  where
    tests : ((t == line_reference) ≡ false) × (begins_pair t ≡ false) × ((t == 34) ≡ false)
    tests = single_tests t word small is

    shows : (u : Bool) → begins_tail t ≡ u → shown t more ≡ (if u then shown_as (word ++ more) (length more) else shown_as word 0)
    shows u e =
        (λ i. if tests.0 i then shown_reference more else if tests.1 i then shown_pair t more else if e i then shown_as (shown_byte t ++ more) (length more) else shown_as (shown_byte t) 0)
        ∙ ap (λ k. if u then shown_as (unwrap_or k (t ∷ []) ++ more) (length more) else shown_as (unwrap_or k (t ∷ [])) 0) is

    lists_as : (u : Bool) → begins_tail t ≡ u → listed 0 false (t ∷ more) ≡ (if u then shown_as (word ++ more) (length more) else shown_as word 0).text ++ listed (if u then shown_as (word ++ more) (length more) else shown_as word 0).taken false more
    lists_as u e =
        ap (λ (s : Shown). s.text ++ listed s.taken (t == 34) more) (shows u e)
        ∙ ap (λ q. (if u then shown_as (word ++ more) (length more) else shown_as word 0).text ++ listed (if u then shown_as (word ++ more) (length more) else shown_as word 0).taken q more) tests.2

    by_tail : (u : Bool) → begins_tail t ≡ u → listed 0 false (t ∷ more) ≡ word ++ rest
    by_tail true e =
        let same : more ≡ rest = subst (λ p. Lists p more rest) (after_tail t e) lists in
        let none : listed (length more) false more ≡ [] = listed-drop (length more) false more ∙ ap (listed 0 false) (drop_all more) in
        lists_as true e ∙ ap (λ l. (word ++ more) ++ l) none ∙ append_assoc word more [] ∙ ap (λ l. word ++ l) (no_more more ∙ same)
      where
        drop_all : (l : List ℕ) → drop (length l) l ≡ []
        drop_all [] = refl
        drop_all (c ∷ l) = drop_all l

        no_more : (l : List ℕ) → l ++ [] ≡ l
        no_more [] = refl
        no_more (c ∷ l) = ap (λ r. c ∷ r) (no_more l)
    by_tail false e = lists_as false e ∙ ap (λ l. word ++ l) (after_other t more rest e lists)

pair_listed : (t : ℕ) (word more rest : List ℕ) → 50688 ≤ t → t < 51456 → keyword_of_pair pairs (t / 256) (t % 256) ≡ Some word → Lists (after_word t) more rest → listed 0 false (t / 256 ∷ t % 256 ∷ more) ≡ word ++ rest
pair_listed t word more rest least most is lists =
    let first_low : 198 ≤ t / 256 = omega (arith, least) in
    let first_high : t / 256 ≤ 200 = omega (arith, most) in
    let begins : begins_pair (t / 256) ≡ true = (λ i. le-leb 198 (t / 256) first_low i && le-leb (t / 256) 200 first_high i) in
    let no_reference : (t / 256 == line_reference) ≡ false = ne_eqb (t / 256) line_reference (λ e. omega (arith, first_low, e)) in
    let no_quote : (t / 256 == 34) ≡ false = ne_eqb (t / 256) 34 (λ e. omega (arith, first_low, e)) in
    let key : keyword_of (t / 256) (t % 256) ≡ Some word = ap (λ u. if u then keyword_of_pair pairs (t / 256) (t % 256) else keyword_of_token (t / 256)) begins ∙ is in
    let shows : shown (t / 256) (t % 256 ∷ more) ≡ shown_pair (t / 256) (t % 256 ∷ more) = (λ i. if no_reference i then shown_reference (t % 256 ∷ more) else if begins i then shown_pair (t / 256) (t % 256 ∷ more) else if begins_tail (t / 256) then shown_as (shown_byte (t / 256) ++ t % 256 ∷ more) (length (t % 256 ∷ more)) else shown_as (shown_byte (t / 256)) 0) in
    let no_tail : begins_tail t ≡ false = (λ i. ne_eqb t rem_token (λ e. omega (arith, least, e)) i || ne_eqb t data_token (λ e. omega (arith, least, e)) i) in
    ap (λ (s : Shown). s.text ++ listed s.taken (t / 256 == 34) (t % 256 ∷ more)) shows
    ∙ (λ i. unwrap_or (key i) (codes "<" ++ hex_byte (t / 256) ++ codes " " ++ hex_byte (t % 256) ++ codes ">") ++ listed 0 (no_quote i) more)
    ∙ ap (λ l. word ++ l) (after_other t more rest no_tail lists)

-- a token lists as its word
pub token_listed : (t : ℕ) (word more rest : List ℕ) → word_of t ≡ Some word → Lists (after_word t) more rest → listed 0 false (token_bytes t ++ more) ≡ word ++ rest
token_listed t word more rest is lists = by_size (nat_lt t 256) refl is (token_number t word is)
  where
    by_size : (u : Bool) → nat_lt t 256 ≡ u → (if u then keyword_of_token t else keyword_of_pair pairs (t / 256) (t % 256)) ≡ Some word → is_token_number t ≡ true → listed 0 false ((if u then t ∷ [] else t / 256 ∷ t % 256 ∷ []) ++ more) ≡ word ++ rest
    by_size true small is number = single_listed t word more rest (ltb-true t 256 small) is lists
    by_size false large is number = by_pair (nat_le 127 t) (ap (λ u. nat_le 127 t && u || nat_le 50688 t && (nat_lt t 51456 && nat_le 128 (t % 256))) (sym large) ∙ number)
      where
        by_pair : (v : Bool) → (v && false || nat_le 50688 t && (nat_lt t 51456 && nat_le 128 (t % 256))) ≡ true → listed 0 false (t / 256 ∷ t % 256 ∷ more) ≡ word ++ rest
        by_pair true e =
            let both = and_parts (nat_le 50688 t) (nat_lt t 51456 && nat_le 128 (t % 256)) e in
            pair_listed t word more rest (leb-true 50688 t both.0) (ltb-true t 51456 (and_parts (nat_lt t 51456) (nat_le 128 (t % 256)) both.1).0) is lists
        by_pair false e =
            let both = and_parts (nat_le 50688 t) (nat_lt t 51456 && nat_le 128 (t % 256)) e in
            pair_listed t word more rest (leb-true 50688 t both.0) (ltb-true t 51456 (and_parts (nat_lt t 51456) (nat_le 128 (t % 256)) both.1).0) is lists
