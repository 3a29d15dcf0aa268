-- The longest string, by the last quotation mark that closes it.
use Rattle.std.proofs.Common.{◌≡◌, ◌≢◌, inl, inr, ℕ, ◌+◌, ◌-◌, ◌≤◌, Bool, true, false, ◌==◌, if◌then◌else◌, List, [], ◌∷◌, ◌++◌, length, Option, Some, None, refl, sym, ap, subst, ◌∙◌, arith, append_assoc, length-append, true≢false, eqb-true, eq-eqb}
use Rattle.std.proofs.lemmas.Bool.{cases_eq, ne_eqb}
use Rattle.bas_lex.specs.declared.symbol.SymKind.{SymKind}
use Rattle.bas_lex.specs.declared.symbol.SymKind.TheVariants as kinds
use Rattle.bas_lex.specs.Bytes.{NotFirst, quotation_mark}
use Rattle.bas_lex.specs.Kinds.{doubled}
use Rattle.bas_lex.specs.Cut.{Begins, Longest}
use Rattle.bas_lex.specs.Scan.{Texts, is_quote, Closes, ClosesLast}
use Rattle.bv_base.proofs.Lists.{same_head, same_tail}
use Rattle.bas_lex.proofs.Runs.{not_first}

-- Where a string is closed: at a first quotation mark, after two of them, or after another byte.
data Closing (text : List ℕ) (size : ℕ) : Type 0 where
  Here : (rest : List ℕ) → text ≡ quotation_mark ∷ rest → size ≡ 1 → Closing text size
  BehindTwo : (more : List ℕ) (n : ℕ) → text ≡ quotation_mark ∷ quotation_mark ∷ more → Closes more n → size ≡ 2 + n → Closing text size
  BehindOther : (c : ℕ) (more : List ℕ) (n : ℕ) → text ≡ c ∷ more → c ≢ quotation_mark → Closes more n → size ≡ 1 + n → Closing text size

where_closed : (text : List ℕ) (size : ℕ) → Closes text size → Closing text size
where_closed text size closes = by_contents closes.contents closes.split closes.size_is
  where
    by_first : (k : ℕ) (contents : List ℕ) (t : Bool) → (k == quotation_mark) ≡ t → text ≡ ((if t then quotation_mark ∷ quotation_mark ∷ [] else k ∷ []) ++ doubled contents) ++ quotation_mark ∷ closes.rest → size ≡ length ((if t then quotation_mark ∷ quotation_mark ∷ [] else k ∷ []) ++ doubled contents) + 1 → Closing text size
    by_first k contents true is split size_is =
        BehindTwo (doubled contents ++ quotation_mark ∷ closes.rest) (length (doubled contents) + 1) split (record { contents = contents; rest = closes.rest; split = refl; size_is = refl }) (omega (arith, size_is))
    by_first k contents false is split size_is =
        BehindOther k (doubled contents ++ quotation_mark ∷ closes.rest) (length (doubled contents) + 1) split (λ e. true≢false (sym (eq-eqb k quotation_mark e) ∙ is)) (record { contents = contents; rest = closes.rest; split = refl; size_is = refl }) (omega (arith, size_is))

    by_contents : (contents : List ℕ) → text ≡ doubled contents ++ quotation_mark ∷ closes.rest → size ≡ length (doubled contents) + 1 → Closing text size
    by_contents [] split size_is = Here closes.rest split (omega (arith, size_is))
    by_contents (k ∷ contents) split size_is = by_first k contents (k == quotation_mark) refl split size_is

closes_after_two : (more : List ℕ) (n : ℕ) → Closes more n → Closes (quotation_mark ∷ quotation_mark ∷ more) (2 + n)
closes_after_two more n c = record {
  contents = quotation_mark ∷ c.contents;
  rest = c.rest;
  split = ap (λ l. quotation_mark ∷ quotation_mark ∷ l) c.split;
  size_is = omega (arith, c.size_is);
}

doubled_other : (c : ℕ) (contents : List ℕ) → c ≢ quotation_mark → doubled (c ∷ contents) ≡ c ∷ doubled contents
doubled_other c contents other = cases (c == quotation_mark) refl
  where
    cases : (t : Bool) → (c == quotation_mark) ≡ t → (if t then quotation_mark ∷ quotation_mark ∷ [] else c ∷ []) ++ doubled contents ≡ c ∷ doubled contents
    cases true is = absurd (other (eqb-true c quotation_mark is))
    cases false is = refl

closes_after_other : (c : ℕ) (more : List ℕ) (n : ℕ) → c ≢ quotation_mark → Closes more n → Closes (c ∷ more) (1 + n)
closes_after_other c more n other closes = record {
  contents = c ∷ closes.contents;
  rest = closes.rest;
  split = ap (λ l. c ∷ l) closes.split ∙ ap (λ l. l ++ quotation_mark ∷ closes.rest) (sym (doubled_other c closes.contents other));
  size_is = omega (arith, closes.size_is, ap length (doubled_other c closes.contents other));
}

closes_here : (rest : List ℕ) → Closes (quotation_mark ∷ rest) 1
closes_here rest = record { contents = []; rest = rest; split = refl; size_is = refl }

-- after n bytes
abbrev further : ℕ → Option ℕ → Option ℕ
further n None = None
further n (Some k) = Some (n + k)

-- at the first byte, where not further on
abbrev or_first : Option ℕ → Option ℕ
or_first None = Some 1
or_first (Some k) = Some (2 + k)

closes_nowhere : ClosesLast [] None
closes_nowhere size closes = by_case (where_closed [] size closes)
  where
    by_case : Closing [] size → ⊥
    by_case (Here rest e size_is) = cc
    by_case (BehindTwo more n e c size_is) = cc
    by_case (BehindOther c more n e other closes' size_is) = cc

last_after_two : (more : List ℕ) (x : Option ℕ) → ClosesLast more x → ClosesLast (quotation_mark ∷ quotation_mark ∷ more) (or_first x)
last_after_two more None none = (closes_here (quotation_mark ∷ more), λ other closes. by_case other (where_closed _ other closes))
  where
    by_case : (other : ℕ) → Closing (quotation_mark ∷ quotation_mark ∷ more) other → other ≤ 1
    by_case other (Here rest e size_is) = omega (arith, size_is)
    by_case other (BehindTwo after n e c size_is) = absurd (none n (subst (λ l. Closes l n) (sym (same_tail _ _ _ _ (same_tail _ _ _ _ e))) c))
    by_case other (BehindOther c after n e not_mark closes size_is) = absurd (not_mark (sym (same_head _ _ _ _ e)))
last_after_two more (Some k) last = (closes_after_two more k last.0, λ other closes. by_case other (where_closed _ other closes))
  where
    by_case : (other : ℕ) → Closing (quotation_mark ∷ quotation_mark ∷ more) other → other ≤ 2 + k
    by_case other (Here rest e size_is) = omega (arith, size_is)
    by_case other (BehindTwo after n e c size_is) =
        let most = last.1 n (subst (λ l. Closes l n) (sym (same_tail _ _ _ _ (same_tail _ _ _ _ e))) c) in omega (arith, most, size_is)
    by_case other (BehindOther c after n e not_mark closes size_is) = absurd (not_mark (sym (same_head _ _ _ _ e)))

last_after_other : (c : ℕ) (more : List ℕ) (x : Option ℕ) → c ≢ quotation_mark → ClosesLast more x → ClosesLast (c ∷ more) (further 1 x)
last_after_other c more None other none = λ size closes. by_case size (where_closed _ size closes)
  where
    by_case : (size : ℕ) → Closing (c ∷ more) size → ⊥
    by_case size (Here rest e size_is) = other (same_head _ _ _ _ e)
    by_case size (BehindTwo after n e closes size_is) = other (same_head _ _ _ _ e)
    by_case size (BehindOther d after n e not_mark closes size_is) = none n (subst (λ l. Closes l n) (sym (same_tail _ _ _ _ e)) closes)
last_after_other c more (Some k) other last = (closes_after_other c more k other last.0, λ size closes. by_case size (where_closed _ size closes))
  where
    by_case : (size : ℕ) → Closing (c ∷ more) size → size ≤ 1 + k
    by_case size (Here rest e size_is) = omega (arith, size_is)
    by_case size (BehindTwo after n e closes size_is) = absurd (other (same_head _ _ _ _ e))
    by_case size (BehindOther d after n e not_mark closes size_is) =
        let most = last.1 n (subst (λ l. Closes l n) (sym (same_tail _ _ _ _ e)) closes) in omega (arith, most, size_is)

last_here : (rest : List ℕ) → NotFirst is_quote rest → ClosesLast (quotation_mark ∷ rest) (Some 1)
last_here rest single = (closes_here rest, λ other closes. by_case other (where_closed _ other closes))
  where
    by_case : (other : ℕ) → Closing (quotation_mark ∷ rest) other → other ≤ 1
    by_case other (Here after e size_is) = omega (arith, size_is)
    by_case other (BehindTwo after n e closes size_is) = absurd (not_first is_quote rest after quotation_mark (same_tail _ _ _ _ e) refl single)
    by_case other (BehindOther c after n e not_mark closes size_is) = absurd (not_mark (sym (same_head _ _ _ _ e)))

-- the last closing mark of the rest, after a front of n bytes, or else that of the front
abbrev pub found : Option ℕ → ℕ → Option ℕ → Option ℕ
found last at None = last
found last at (Some k) = Some (at + k)

-- What was found so far at the front of a text, and what the rest will give, are what the whole gives: whatever is
-- the last closing mark of the rest, after the front, or else the last of the front, is the last of the text.
pub record FindsLast (text rest : List ℕ) (last : Option ℕ) : Type 0 where
  pub within : length rest ≤ length text
  pub joins : (x : Option ℕ) → ClosesLast rest x → ClosesLast text (found last (length text - length rest) x)

pub finds_nothing : (text : List ℕ) → FindsLast text text None
finds_nothing text = record { within = omega arith; joins = joins }
  where
    joins : (x : Option ℕ) → ClosesLast text x → ClosesLast text (found None (length text - length text) x)
    joins None last = last
    joins (Some k) last = let same : k ≡ length text - length text + k = omega arith in subst (λ n. ClosesLast text (Some n)) same last

pub finds_two : (text rest after : List ℕ) (last : Option ℕ) (size : ℕ) → rest ≡ quotation_mark ∷ quotation_mark ∷ after → size ≡ length text - length rest + 1 → FindsLast text rest last → FindsLast text after (Some size)
finds_two text rest after last size rest_is size_is f = record { within = omega (arith, f.within, ap length rest_is); joins = joins }
  where
    joins : (x : Option ℕ) → ClosesLast after x → ClosesLast text (found (Some size) (length text - length after) x)
    joins None none =
        let whole = f.joins (Some 1) (subst (λ l. ClosesLast l (Some 1)) (sym rest_is) (last_after_two after None none)) in
        subst (λ n. ClosesLast text (Some n)) (sym size_is) whole
    joins (Some k) l =
        let whole = f.joins (Some (2 + k)) (subst (λ l. ClosesLast l (Some (2 + k))) (sym rest_is) (last_after_two after (Some k) l)) in
        let same : length text - length rest + (2 + k) ≡ length text - length after + k = omega (arith, f.within, ap length rest_is) in
        subst (λ n. ClosesLast text (Some n)) same whole

pub finds_other : (text rest after : List ℕ) (last : Option ℕ) (c : ℕ) → rest ≡ c ∷ after → c ≢ quotation_mark → FindsLast text rest last → FindsLast text after last
finds_other text rest after last c rest_is other f = record { within = omega (arith, f.within, ap length rest_is); joins = joins }
  where
    joins : (x : Option ℕ) → ClosesLast after x → ClosesLast text (found last (length text - length after) x)
    joins None none = f.joins None (subst (λ l. ClosesLast l None) (sym rest_is) (last_after_other c after None other none))
    joins (Some k) l =
        let whole = f.joins (Some (1 + k)) (subst (λ l. ClosesLast l (Some (1 + k))) (sym rest_is) (last_after_other c after (Some k) other l)) in
        let same : length text - length rest + (1 + k) ≡ length text - length after + k = omega (arith, f.within, ap length rest_is) in
        subst (λ n. ClosesLast text (Some n)) same whole

pub finds_closing : (text rest after : List ℕ) (last : Option ℕ) → rest ≡ quotation_mark ∷ after → NotFirst is_quote after → FindsLast text rest last → ClosesLast text (Some (length text - length rest + 1))
finds_closing text rest after last rest_is single f = f.joins (Some 1) (subst (λ l. ClosesLast l (Some 1)) (sym rest_is) (last_here after single))

pub finds_end : (text rest : List ℕ) (last : Option ℕ) → rest ≡ [] → FindsLast text rest last → ClosesLast text last
finds_end text rest last rest_is f = f.joins None (subst (λ l. ClosesLast l None) (sym rest_is) closes_nowhere)

closes_of : (after : List ℕ) (n : ℕ) (b : Begins Texts (quotation_mark ∷ after) kinds.Text n) → Closes after (n - 1)
closes_of after n b =
    let e : after ≡ (doubled b.is.0 ++ quotation_mark ∷ []) ++ b.rest = same_tail _ _ _ _ (b.split ∙ ap (λ l. l ++ b.rest) b.is.1) in
    record {
      contents = b.is.0;
      rest = b.rest;
      split = e ∙ append_assoc (doubled b.is.0) (quotation_mark ∷ []) b.rest;
      size_is = omega (arith, b.size_is, ap length b.is.1, length-append (doubled b.is.0) (quotation_mark ∷ []));
    }

pub text_best : (after : List ℕ) (n : ℕ) → ClosesLast after (Some n) → Longest Texts (quotation_mark ∷ after) kinds.Text (1 + n)
text_best after n last = record {
  begins = record {
    bytes = quotation_mark ∷ (doubled last.0.contents ++ quotation_mark ∷ []);
    rest = last.0.rest;
    split = ap (λ l. quotation_mark ∷ l) (last.0.split ∙ sym (append_assoc (doubled last.0.contents) (quotation_mark ∷ []) last.0.rest));
    size_is = omega (arith, last.0.size_is, length-append (doubled last.0.contents) (quotation_mark ∷ []));
    is = (last.0.contents, refl);
  };
  longest = longest;
}
  where
    longest : (other : SymKind) (m : ℕ) → Begins Texts (quotation_mark ∷ after) other m → m ≤ 1 + n
    longest kinds.Text m b = let most = last.1 (m - 1) (closes_of after m b) in omega (arith, most)
    longest kind m b = absurd b.is

pub no_text : (after : List ℕ) → ClosesLast after None → (kind : SymKind) (n : ℕ) → Begins Texts (quotation_mark ∷ after) kind n → ⊥
no_text after none kinds.Text n b = none (n - 1) (closes_of after n b)
no_text after none kind n b = absurd b.is

-- the last quotation mark that closes a string
pub last_of : (text : List ℕ) → (last : Option ℕ) × ClosesLast text last
last_of [] = (None, closes_nowhere)
last_of (c ∷ []) =
    elim (cases_eq c quotation_mark) [
      | inl e ↦ (Some 1, subst (λ n. ClosesLast (n ∷ []) (Some 1)) (sym e) (last_here [] tt))
      | inr other ↦ (None, last_after_other c [] None other closes_nowhere)
    ]
last_of (c ∷ d ∷ text) =
    elim (cases_eq c quotation_mark) [
      | inr other ↦ let next = last_of (d ∷ text) in (further 1 next.0, last_after_other c (d ∷ text) next.0 other next.1)
      | inl e ↦ elim (cases_eq d quotation_mark) [
        | inl f ↦ let next = last_of text in (or_first next.0, subst (λ l. ClosesLast l (or_first next.0)) (λ i. sym e i ∷ sym f i ∷ text) (last_after_two text next.0 next.1))
        | inr single ↦ (Some 1, subst (λ n. ClosesLast (n ∷ d ∷ text) (Some 1)) (sym e) (last_here (d ∷ text) (ne_eqb d quotation_mark single)))
      ]
    ]
