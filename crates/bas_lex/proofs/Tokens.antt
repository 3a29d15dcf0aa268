-- The longest keyword, and references to lines.
use Rattle.std.proofs.Common.{◌≡◌, ◌≢◌, ◌⊎◌, inl, inr, ℕ, ◌+◌, ◌*◌, ◌≤◌, ◌<◌, Bool, true, false, ◌&&◌, ◌==◌, nat_le, if◌then◌else◌, List, [], ◌∷◌, ◌++◌, length, get_or, drop, Some, IsSome, is_some, refl, sym, ap, subst, ◌∙◌, arith, true≢false, eqb-true, leb-true}
use Rattle.std.specs.List.{list_all}
use Rattle.std.proofs.lemmas.Bool.{and_parts, cases_eq, cases_lt}
use Rattle.bv_token.specs.declared.reference.TheConstants.{LINE_REFERENCE}
use Rattle.bv_token.specs.declared.tokens.TheConstants.{REM, DATA, OTHERWISE, PAIR_FIRST, PAIR_LAST}
use Rattle.bv_token.specs.References.{referred}
use Rattle.bv_token.specs.Tokens.{Pair, pairs, keyword_of_token, keyword_of_pair, keyword_of, begins_pair}
use Rattle.bv_token.proofs.Tables.{before_table}
use Rattle.bas_lex.specs.declared.symbol.SymKind.{SymKind}
use Rattle.bas_lex.specs.declared.symbol.SymKind.TheVariants as kinds
use Rattle.bas_lex.specs.Kinds.{IsSingle, IsPair}
use Rattle.bas_lex.specs.Cut.{Begins, Longest}
use Rattle.bas_lex.specs.Scan.{Tokens, LineRefs}
use Rattle.bv_base.proofs.Lists.{same_head, same_tail}

each_begins : (table : List Pair) → list_all (λ p. begins_pair p.first) table ≡ true → (first second : ℕ) → IsSome (keyword_of_pair table first second) → begins_pair first ≡ true
each_begins [] all first second found = absurd (true≢false (sym found))
each_begins (p ∷ more) all first second found =
    let parts = and_parts (begins_pair p.first) (list_all (λ q. begins_pair q.first) more) all in
    cases (p.first == first && p.second == second) refl found parts.0 (each_begins more parts.1 first second)
  where
    cases : (t : Bool) → (p.first == first && p.second == second) ≡ t → IsSome (if t then Some p.word else keyword_of_pair more first second) → begins_pair p.first ≡ true → (IsSome (keyword_of_pair more first second) → begins_pair first ≡ true) → begins_pair first ≡ true
    cases true is found here others = subst (λ n. begins_pair n ≡ true) (eqb-true p.first first (and_parts (p.first == first) (p.second == second) is).0) here
    cases false is found here others = others found

-- the bytes that begin pairs
pub pair_range : (n : ℕ) → begins_pair n ≡ true → (PAIR_FIRST ≤ n) × (n ≤ PAIR_LAST)
pair_range n begins = let parts = and_parts (nat_le PAIR_FIRST n) (nat_le n PAIR_LAST) begins in (leb-true PAIR_FIRST n parts.0, leb-true n PAIR_LAST parts.1)

-- the first byte of a pair of the table begins pairs
pub pair_begins : (first second : ℕ) → IsSome (keyword_of_pair pairs first second) → begins_pair first ≡ true
pair_begins first second found = each_begins pairs refl first second found

none_at_first : is_some (keyword_of_token PAIR_FIRST) ≡ false
unfolding keyword_of_token
none_at_first = refl

none_between : is_some (keyword_of_token (PAIR_FIRST + 1)) ≡ false
unfolding keyword_of_token
none_between = refl

none_at_last : is_some (keyword_of_token PAIR_LAST) ≡ false
unfolding keyword_of_token
none_at_last = refl

-- a byte that begins pairs has no keyword of its own
none_of_pairs : (n : ℕ) → begins_pair n ≡ true → is_some (keyword_of_token n) ≡ false
none_of_pairs n begins =
    elim (cases_eq PAIR_FIRST n) [
      | inl e ↦ at PAIR_FIRST none_at_first e
      | inr not_first ↦ elim (cases_eq (PAIR_FIRST + 1) n) [
        | inl e ↦ at (PAIR_FIRST + 1) none_between e
        | inr not_second ↦ at PAIR_LAST none_at_last (omega (arith, not_first, not_second, within.0, within.1))
      ]
    ]
  where
    within : (PAIR_FIRST ≤ n) × (n ≤ PAIR_LAST)
    within = pair_range n begins

    at : (k : ℕ) → is_some (keyword_of_token k) ≡ false → k ≡ n → is_some (keyword_of_token n) ≡ false
    at k none e = subst (λ m. is_some (keyword_of_token m) ≡ false) e none

no_reference : is_some (keyword_of_token LINE_REFERENCE) ≡ false
unfolding keyword_of_token
no_reference = refl

-- the byte of a keyword isn't below that of OTHERWISE, and doesn't begin a reference
pub keyword_is_high : (n : ℕ) → IsSome (keyword_of_token n) → (OTHERWISE ≤ n) × (n ≢ LINE_REFERENCE)
keyword_is_high n some = (
  elim (cases_lt n OTHERWISE) [
    | inl low ↦ absurd (true≢false (sym some ∙ sym (ap (λ o. is_some o) (before_table n low))))
    | inr high ↦ high
  ],
  λ e. true≢false (sym (subst (λ m. is_some (keyword_of_token m) ≡ true) e some) ∙ no_reference),
)

pub pair_best : (first second : ℕ) (text rest : List ℕ) → text ≡ second ∷ rest → IsSome (keyword_of_pair pairs first second) → Longest Tokens (first ∷ text) (kinds.Token (256 * first + second)) 2
pair_best first second text rest text_is found = record {
  begins = record {
    bytes = first ∷ second ∷ [];
    rest = rest;
    split = ap (λ l. first ∷ l) text_is;
    size_is = refl;
    is = inr (record { first = first; second = second; spelled = refl; keyword = found; number = refl });
  };
  longest = longest;
}
  where
    by_form : (n size : ℕ) (bytes : List ℕ) → length bytes ≡ size → IsSingle n bytes ⊎ IsPair n bytes → size ≤ 2
    by_form n size bytes size_is (inl one) = omega (arith, size_is, ap length one.spelled)
    by_form n size bytes size_is (inr two) = omega (arith, size_is, ap length two.spelled)

    longest : (other : SymKind) (n : ℕ) → Begins Tokens (first ∷ text) other n → n ≤ 2
    longest (kinds.Token t) n b = by_form t n b.bytes b.size_is b.is
    longest kind n b = absurd b.is

pub no_pair : (first : ℕ) (text : List ℕ) → begins_pair first ≡ true → ((second : ℕ) (rest : List ℕ) → text ≡ second ∷ rest → IsSome (keyword_of_pair pairs first second) → ⊥) → (kind : SymKind) (n : ℕ) → Begins Tokens (first ∷ text) kind n → ⊥
no_pair first text begins absent (kinds.Token t) n b = by_form b.is
  where
    by_form : IsSingle t b.bytes ⊎ IsPair t b.bytes → ⊥
    by_form (inl one) =
        let same : first ≡ t = same_head _ _ _ _ (b.split ∙ ap (λ l. l ++ b.rest) one.spelled) in
        true≢false (sym one.keyword ∙ none_of_pairs t (subst (λ m. begins_pair m ≡ true) same begins))
    by_form (inr two) =
        let e : first ∷ text ≡ two.first ∷ two.second ∷ b.rest = b.split ∙ ap (λ l. l ++ b.rest) two.spelled in
        absent two.second b.rest (same_tail _ _ _ _ e) (subst (λ m. IsSome (keyword_of_pair pairs m two.second)) (sym (same_head _ _ _ _ e)) two.keyword)
no_pair first text begins absent kind n b = b.is

pub single_best : (first : ℕ) (text : List ℕ) → begins_pair first ≡ false → first ≢ REM → first ≢ DATA → IsSome (keyword_of_token first) → Longest Tokens (first ∷ text) (kinds.Token first) 1
single_best first text alone not_rem not_data found = record {
  begins = record {
    bytes = first ∷ [];
    rest = text;
    split = refl;
    size_is = refl;
    is = inl (record { spelled = refl; keyword = found; not_rem = not_rem; not_data = not_data });
  };
  longest = longest;
}
  where
    by_form : (n size : ℕ) (b : Begins Tokens (first ∷ text) (kinds.Token n) size) → IsSingle n b.bytes ⊎ IsPair n b.bytes → size ≤ 1
    by_form n size b (inl one) = omega (arith, b.size_is, ap length one.spelled)
    by_form n size b (inr two) =
        let e : first ∷ text ≡ two.first ∷ two.second ∷ b.rest = b.split ∙ ap (λ l. l ++ b.rest) two.spelled in
        absurd (true≢false (sym (subst (λ m. begins_pair m ≡ true) (sym (same_head _ _ _ _ e)) (pair_begins two.first two.second two.keyword)) ∙ alone))

    longest : (other : SymKind) (n : ℕ) → Begins Tokens (first ∷ text) other n → n ≤ 1
    longest (kinds.Token t) n b = by_form t n b b.is
    longest kind n b = absurd b.is

pub no_single : (first : ℕ) (text : List ℕ) → begins_pair first ≡ false → (IsSome (keyword_of_token first) → ⊥) → (kind : SymKind) (n : ℕ) → Begins Tokens (first ∷ text) kind n → ⊥
no_single first text alone absent (kinds.Token t) n b = by_form b.is
  where
    by_form : IsSingle t b.bytes ⊎ IsPair t b.bytes → ⊥
    by_form (inl one) =
        absent (subst (λ m. IsSome (keyword_of_token m)) (sym (same_head _ _ _ _ (b.split ∙ ap (λ l. l ++ b.rest) one.spelled))) one.keyword)
    by_form (inr two) =
        let e : first ∷ text ≡ two.first ∷ two.second ∷ b.rest = b.split ∙ ap (λ l. l ++ b.rest) two.spelled in
        true≢false (sym (subst (λ m. begins_pair m ≡ true) (sym (same_head _ _ _ _ e)) (pair_begins two.first two.second two.keyword)) ∙ alone)
no_single first text alone absent kind n b = b.is

pub line_ref_best : (number first second third : ℕ) (text rest : List ℕ) → text ≡ first ∷ second ∷ third ∷ rest → number ≡ referred first second third → Longest LineRefs (LINE_REFERENCE ∷ text) (kinds.LineRef number) 4
line_ref_best number first second third text rest text_is refers = record {
  begins = record {
    bytes = LINE_REFERENCE ∷ first ∷ second ∷ third ∷ [];
    rest = rest;
    split = ap (λ l. LINE_REFERENCE ∷ l) text_is;
    size_is = refl;
    is = record { first = first; second = second; third = third; spelled = refl; refers = refers };
  };
  longest = longest;
}
  where
    longest : (other : SymKind) (n : ℕ) → Begins LineRefs (LINE_REFERENCE ∷ text) other n → n ≤ 4
    longest (kinds.LineRef k) n b = omega (arith, b.size_is, ap length b.is.spelled)
    longest kind n b = absurd b.is

pub no_line_ref : (text : List ℕ) → length text < 3 → (kind : SymKind) (n : ℕ) → Begins LineRefs (LINE_REFERENCE ∷ text) kind n → ⊥
no_line_ref text short (kinds.LineRef k) n b =
    let e = same_tail _ _ _ _ (b.split ∙ ap (λ l. l ++ b.rest) b.is.spelled) in omega (arith, short, ap length e)
no_line_ref text short kind n b = b.is

-- a list of three or more, by its first three
pub three_first : (xs : List ℕ) → 3 ≤ length xs → xs ≡ get_or xs 0 0 ∷ get_or xs 1 0 ∷ get_or xs 2 0 ∷ drop 3 xs
three_first [] enough = absurd (omega (arith, enough))
three_first (x ∷ []) enough = absurd (omega (arith, enough))
three_first (x ∷ y ∷ []) enough = absurd (omega (arith, enough))
three_first (x ∷ y ∷ z ∷ xs) enough = refl

-- whether there is a keyword, by what begins pairs
pub found_pair : (first second : ℕ) (found : Bool) → begins_pair first ≡ true → found ≡ is_some (keyword_of first second) → is_some (keyword_of_pair pairs first second) ≡ found
found_pair first second found begins e = sym (e ∙ ap (λ t. is_some (if t then keyword_of_pair pairs first second else keyword_of_token first)) begins)

pub found_single : (first second : ℕ) (found : Bool) → begins_pair first ≡ false → found ≡ is_some (keyword_of first second) → is_some (keyword_of_token first) ≡ found
found_single first second found alone e = sym (e ∙ ap (λ t. is_some (if t then keyword_of_pair pairs first second else keyword_of_token first)) alone)

pub no_pair_alone : (first : ℕ) (text : List ℕ) → begins_pair first ≡ true → text ≡ [] → (kind : SymKind) (n : ℕ) → Begins Tokens (first ∷ text) kind n → ⊥
no_pair_alone first text begins none = no_pair first text begins (λ second rest e found. (let differ : [] ≡ second ∷ rest = sym none ∙ e in cc))

pub no_pair_found : (first second : ℕ) (text rest : List ℕ) (found : Bool) → begins_pair first ≡ true → text ≡ second ∷ rest → found ≡ is_some (keyword_of first second) → found ≡ false → (kind : SymKind) (n : ℕ) → Begins Tokens (first ∷ text) kind n → ⊥
no_pair_found first second text rest found begins text_is found_is absent =
    no_pair first text begins (λ other more e some. true≢false (sym (subst (λ s. IsSome (keyword_of_pair pairs first s)) (sym (same_head _ _ _ _ (sym text_is ∙ e))) some) ∙ found_pair first second found begins found_is ∙ absent))

pub pair_found : (first second n : ℕ) (text rest : List ℕ) (found : Bool) → begins_pair first ≡ true → text ≡ second ∷ rest → found ≡ is_some (keyword_of first second) → found ≡ true → n ≡ 256 * first + second → Longest Tokens (first ∷ text) (kinds.Token n) 2
pair_found first second n text rest found begins text_is found_is present n_is =
    subst (λ k. Longest Tokens (first ∷ text) (kinds.Token k) 2) (sym n_is) (pair_best first second text rest text_is (found_pair first second found begins found_is ∙ present))

pub no_single_found : (first second : ℕ) (text : List ℕ) (found : Bool) → begins_pair first ≡ false → found ≡ is_some (keyword_of first second) → found ≡ false → (kind : SymKind) (n : ℕ) → Begins Tokens (first ∷ text) kind n → ⊥
no_single_found first second text found alone found_is absent =
    no_single first text alone (λ some. true≢false (sym some ∙ found_single first second found alone found_is ∙ absent))

pub single_found : (first second n : ℕ) (text : List ℕ) (found : Bool) → begins_pair first ≡ false → first ≢ REM → first ≢ DATA → found ≡ is_some (keyword_of first second) → found ≡ true → n ≡ first → Longest Tokens (first ∷ text) (kinds.Token n) 1
single_found first second n text found alone not_rem not_data found_is present n_is =
    subst (λ k. Longest Tokens (first ∷ text) (kinds.Token k) 1) (sym n_is) (single_best first text alone not_rem not_data (found_single first second found alone found_is ∙ present))
