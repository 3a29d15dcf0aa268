-- The longest name, by what follows its first byte.
use Rattle.std.proofs.Common.{◌≡◌, ◌≢◌, ◌⊎◌, inl, inr, ℕ, ◌+◌, ◌-◌, ◌≤◌, Bool, true, false, List, [], ◌∷◌, ◌++◌, length, refl, sym, ap, subst, ◌∙◌, arith, append_assoc, length-append, true≢false}
use Rattle.bas_lex.specs.declared.name.NameEnd.{NameEnd}
use Rattle.bas_lex.specs.declared.symbol.SymKind.{SymKind}
use Rattle.bas_lex.specs.declared.symbol.SymKind.TheVariants as kinds
use Rattle.bv_token.specs.Names.{begins_name, is_in_name}
use Rattle.bas_lex.specs.Bytes.{Each, NotFirst, at_sign, dollar_sign, open_bracket, percent_sign, point}
use Rattle.bv_token.specs.Tokens.{keyword_of_token}
use Rattle.bas_lex.specs.Kinds.{IsSuffix, suffix_bytes, bracket_bytes, GoesOn, IsName, call_token, IsSingle}
use Rattle.bas_lex.specs.Cut.{Begins, Longest}
use Rattle.bas_lex.specs.Scan.{Names, SystemNames, Calls, Labels, IsRun, is_percent, is_suffix, is_bracket, SplitsSuffix, SplitsBracket, SplitsPercent, EndsName, EndsLabel, NoLabelName}
use Rattle.bv_base.proofs.Lists.{same_head, same_tail}
use Rattle.bas_lex.proofs.Runs.{not_first, covers, each_back}

-- a bracket is taken where it stands
bracket_fits : (text rest rest' : List ℕ) (bracket other : Bool) → SplitsBracket text bracket rest → text ≡ bracket_bytes other ++ rest' → length (bracket_bytes other) + length rest ≤ length text
bracket_fits text rest rest' true false splits e = omega (arith, ap length splits.split)
bracket_fits text rest rest' false false splits e = omega (arith, ap length splits.split)
bracket_fits text rest rest' true true splits e = omega (arith, ap length splits.split)
bracket_fits text rest rest' false true splits e = absurd (not_first is_bracket text rest' open_bracket e refl (splits.bare refl))

-- a suffix is taken where it stands
suffix_fits : (text rest : List ℕ) (suffix other : ℕ) (more : List ℕ) → SplitsSuffix text suffix rest → IsSuffix other → text ≡ suffix_bytes other ++ more → (((other ≡ suffix) × (more ≡ rest)) ⊎ ((suffix_bytes other ≡ []) × (NotFirst is_bracket text × (length rest ≤ length text))))
suffix_fits text rest suffix other more splits is e = cases is splits.is_suffix_byte
  where
    cases : IsSuffix other → IsSuffix suffix → (((other ≡ suffix) × (more ≡ rest)) ⊎ ((suffix_bytes other ≡ []) × (NotFirst is_bracket text × (length rest ≤ length text))))
    cases (inl z) (inl z') =
        inl (z ∙ sym z', sym (e ∙ ap (λ n. suffix_bytes n ++ more) z) ∙ (splits.split ∙ ap (λ n. suffix_bytes n ++ rest) z'))
    cases (inl z) (inr (inl p)) =
        let whole : text ≡ percent_sign ∷ rest = splits.split ∙ ap (λ n. suffix_bytes n ++ rest) p in
        inr (ap suffix_bytes z, (subst (NotFirst is_bracket) (sym whole) refl, omega (arith, ap length whole)))
    cases (inl z) (inr (inr p)) =
        let whole : text ≡ dollar_sign ∷ rest = splits.split ∙ ap (λ n. suffix_bytes n ++ rest) p in
        inr (ap suffix_bytes z, (subst (NotFirst is_bracket) (sym whole) refl, omega (arith, ap length whole)))
    cases (inr (inl p)) (inl z) =
        absurd (not_first is_suffix text more percent_sign (e ∙ ap (λ n. suffix_bytes n ++ more) p) refl (splits.bare z))
    cases (inr (inr p)) (inl z) =
        absurd (not_first is_suffix text more dollar_sign (e ∙ ap (λ n. suffix_bytes n ++ more) p) refl (splits.bare z))
    cases (inr (inl p)) (inr (inl q)) =
        let both : percent_sign ∷ more ≡ percent_sign ∷ rest = sym (e ∙ ap (λ n. suffix_bytes n ++ more) p) ∙ (splits.split ∙ ap (λ n. suffix_bytes n ++ rest) q) in
        inl (p ∙ sym q, same_tail _ _ _ _ both)
    cases (inr (inr p)) (inr (inr q)) =
        let both : dollar_sign ∷ more ≡ dollar_sign ∷ rest = sym (e ∙ ap (λ n. suffix_bytes n ++ more) p) ∙ (splits.split ∙ ap (λ n. suffix_bytes n ++ rest) q) in
        inl (p ∙ sym q, same_tail _ _ _ _ both)
    cases (inr (inl p)) (inr (inr q)) =
        let both : percent_sign ∷ more ≡ dollar_sign ∷ rest = sym (e ∙ ap (λ n. suffix_bytes n ++ more) p) ∙ (splits.split ∙ ap (λ n. suffix_bytes n ++ rest) q) in
        absurd (let heads = same_head _ _ _ _ both in omega (arith, heads))
    cases (inr (inr p)) (inr (inl q)) =
        let both : dollar_sign ∷ more ≡ percent_sign ∷ rest = sym (e ∙ ap (λ n. suffix_bytes n ++ more) p) ∙ (splits.split ∙ ap (λ n. suffix_bytes n ++ rest) q) in
        absurd (let heads = same_head _ _ _ _ both in omega (arith, heads))

-- a suffix and a bracket, where both are taken that are there
both_fit : (text after_suffix rest : List ℕ) (suffix other : ℕ) (bracket with : Bool) (rest' : List ℕ) → SplitsSuffix text suffix after_suffix → SplitsBracket after_suffix bracket rest → IsSuffix other → text ≡ (suffix_bytes other ++ bracket_bytes with) ++ rest' → length (suffix_bytes other ++ bracket_bytes with) + length rest ≤ length text
both_fit text after_suffix rest suffix other bracket with rest' s b is e =
    elim (suffix_fits text after_suffix suffix other (bracket_bytes with ++ rest') s is whole) [
      | inl same ↦
          let fits = bracket_fits after_suffix rest rest' bracket with b (sym same.1) in
          omega (arith, fits, length-append (suffix_bytes other) (bracket_bytes with), ap length s.split, length-append (suffix_bytes suffix) after_suffix, ap (λ n. length (suffix_bytes n)) same.0)
      | inr none ↦ no_bracket with whole none
    ]
  where
    whole : text ≡ suffix_bytes other ++ (bracket_bytes with ++ rest')
    whole = e ∙ append_assoc (suffix_bytes other) (bracket_bytes with) rest'

    no_bracket : (w : Bool) → text ≡ suffix_bytes other ++ (bracket_bytes w ++ rest') → (suffix_bytes other ≡ []) × (NotFirst is_bracket text × (length after_suffix ≤ length text)) → length (suffix_bytes other ++ bracket_bytes w) + length rest ≤ length text
    no_bracket true e none = absurd (not_first is_bracket text rest' open_bracket (e ∙ ap (λ l. l ++ open_bracket ∷ rest') none.0) refl none.1.0)
    no_bracket false e none = omega (arith, none.1.1, ap length none.0, length-append (suffix_bytes other) [], ap length b.split, length-append (bracket_bytes bracket) rest)

no_letter_first : (suffix : ℕ) (bracket : Bool) (rest : List ℕ) → IsSuffix suffix → NotFirst is_in_name ((suffix_bytes suffix ++ bracket_bytes bracket) ++ rest) ⊎ (suffix_bytes suffix ++ bracket_bytes bracket ≡ [])
no_letter_first suffix true rest (inl z) = inl (subst (λ n. NotFirst is_in_name ((suffix_bytes n ++ open_bracket ∷ []) ++ rest)) (sym z) refl)
no_letter_first suffix false rest (inl z) = inr (ap (λ n. suffix_bytes n ++ []) z)
no_letter_first suffix bracket rest (inr (inl p)) = inl (subst (λ n. NotFirst is_in_name ((suffix_bytes n ++ bracket_bytes bracket) ++ rest)) (sym p) refl)
no_letter_first suffix bracket rest (inr (inr p)) = inl (subst (λ n. NotFirst is_in_name ((suffix_bytes n ++ bracket_bytes bracket) ++ rest)) (sym p) refl)

-- nothing longer goes on with a name
pub end_is_longest : (text : List ℕ) (end : NameEnd) (suffix : ℕ) (bracket : Bool) (bytes rest : List ℕ) → EndsName text end → GoesOn suffix bracket bytes → text ≡ bytes ++ rest → length bytes ≤ end.size
end_is_longest text end suffix bracket bytes rest ends goes e = by_more covered.0 covered.1 covered.2
  where
    covered : (more : List ℕ) × (ends.letters.run ≡ goes.letters ++ more) × ((suffix_bytes suffix ++ bracket_bytes bracket) ++ rest ≡ more ++ ends.after_letters)
    covered = covers is_in_name ends.letters.run goes.letters ends.after_letters _ goes.each ends.letters.stops (sym ends.letters.split ∙ e ∙ ap (λ l. l ++ rest) goes.spelled ∙ append_assoc goes.letters _ rest)

    sizes : length text ≡ length ends.letters.run + length ends.after_letters
    sizes = ap length ends.letters.split ∙ length-append ends.letters.run ends.after_letters

    size_of_bytes : length bytes ≡ length goes.letters + length (suffix_bytes suffix ++ bracket_bytes bracket)
    size_of_bytes = ap length goes.spelled ∙ length-append goes.letters _

    by_more : (more : List ℕ) → ends.letters.run ≡ goes.letters ++ more → (suffix_bytes suffix ++ bracket_bytes bracket) ++ rest ≡ more ++ ends.after_letters → length bytes ≤ end.size
    by_more [] run mode_after =
        let fits = both_fit ends.after_letters ends.after_suffix ends.rest end.suffix suffix end.bracket bracket rest ends.suffix ends.bracket goes.is_suffix (sym mode_after) in
        omega (arith, fits, sizes, size_of_bytes, ends.size, ap length run, length-append goes.letters [])
    by_more (m ∷ more) run mode_after =
        elim (no_letter_first suffix bracket rest goes.is_suffix) [
          | inl stops ↦ absurd (not_first is_in_name _ _ m mode_after (each_back is_in_name goes.letters (m ∷ more) (subst (Each is_in_name) run ends.letters.each)).0 stops)
          | inr none ↦ omega (arith, ap length none, sizes, size_of_bytes, ends.size, ap length run, length-append goes.letters (m ∷ more), ap length ends.suffix.split, length-append (suffix_bytes end.suffix) ends.after_suffix, ap length ends.bracket.split, length-append (bracket_bytes end.bracket) ends.rest)
        ]

-- what goes on with a name, as far as it goes
end_of : (text : List ℕ) (end : NameEnd) → EndsName text end → List ℕ
end_of text end ends = ends.letters.run ++ (suffix_bytes end.suffix ++ bracket_bytes end.bracket)

end_splits : (text : List ℕ) (end : NameEnd) (ends : EndsName text end) → text ≡ end_of text end ends ++ ends.rest
unfolding end_of
end_splits text end ends =
    ends.letters.split ∙ ap (λ l. ends.letters.run ++ l) (ends.suffix.split ∙ ap (λ l. suffix_bytes end.suffix ++ l) ends.bracket.split ∙ sym (append_assoc (suffix_bytes end.suffix) _ ends.rest)) ∙ sym (append_assoc ends.letters.run _ ends.rest)

size_of_end : (text : List ℕ) (end : NameEnd) (ends : EndsName text end) → length (end_of text end ends) ≡ end.size
size_of_end text end ends = omega (arith, ends.size, ap length (end_splits text end ends), length-append (end_of text end ends) ends.rest)

goes_on : (text : List ℕ) (end : NameEnd) (ends : EndsName text end) → GoesOn end.suffix end.bracket (end_of text end ends)
unfolding end_of
goes_on text end ends = record { letters = ends.letters.run; each = ends.letters.each; is_suffix = ends.suffix.is_suffix_byte; spelled = refl }

-- the name that begins with a letter is the longest
pub name_best : (first : ℕ) (after : List ℕ) (end : NameEnd) → begins_name first ≡ true → EndsName after end → Longest Names (first ∷ after) (kinds.Name end.suffix end.bracket) (1 + end.size)
name_best first after end begins ends = record {
  begins = record {
    bytes = first ∷ end_of after end ends;
    rest = ends.rest;
    split = ap (λ l. first ∷ l) (end_splits after end ends);
    size_is = omega (arith, size_of_end after end ends);
    is = record { first = first; more = end_of after end ends; begins = begins; goes_on = goes_on after end ends; spelled = refl };
  };
  longest = longest;
}
  where
    longest : (other : SymKind) (n : ℕ) → Begins Names (first ∷ after) other n → n ≤ 1 + end.size
    longest (kinds.Name suffix bracket) n b =
        let most = end_is_longest after end suffix bracket b.is.more b.rest ends b.is.goes_on (same_tail _ _ _ _ (b.split ∙ ap (λ l. l ++ b.rest) b.is.spelled)) in
        omega (arith, most, b.size_is, ap length b.is.spelled)
    longest kind n b = absurd b.is

-- the longest call
pub call_best : (function : Bool) (text : List ℕ) (first : ℕ) (after : List ℕ) (end : NameEnd) → text ≡ first ∷ after → is_in_name first ≡ true → EndsName after end → Longest (Calls function) (call_token function ∷ text) (kinds.Call function end.bracket) (2 + end.size)
call_best function text first after end text_is begins ends = record {
  begins = record {
    bytes = call_token function ∷ first ∷ end_of after end ends;
    rest = ends.rest;
    split = ap (λ l. call_token function ∷ l) (text_is ∙ ap (λ l. first ∷ l) (end_splits after end ends));
    size_is = omega (arith, size_of_end after end ends);
    is = (refl, record { first = first; more = end_of after end ends; suffix = end.suffix; begins = begins; goes_on = goes_on after end ends; spelled = refl });
  };
  longest = longest;
}
  where
    longest : (other : SymKind) (n : ℕ) → Begins (Calls function) (call_token function ∷ text) other n → n ≤ 2 + end.size
    longest (kinds.Call is_function bracket) n b =
        let call = b.is.1 in
        let most = end_is_longest after end call.suffix bracket call.more b.rest ends call.goes_on (same_tail _ _ _ _ (sym text_is ∙ same_tail _ _ _ _ (b.split ∙ ap (λ l. l ++ b.rest) call.spelled))) in
        omega (arith, most, b.size_is, ap length call.spelled)
    longest (kinds.Token t) n b = omega (arith, b.size_is, ap length b.is.spelled)
    longest kind n b = absurd b.is

-- FN and PROC are keywords
call_is_keyword : (function : Bool) → IsSingle (call_token function) (call_token function ∷ [])
unfolding keyword_of_token
call_is_keyword true = record { spelled = refl; keyword = refl; not_rem = λ e. omega (arith, e); not_data = λ e. omega (arith, e) }
call_is_keyword false = record { spelled = refl; keyword = refl; not_rem = λ e. omega (arith, e); not_data = λ e. omega (arith, e) }

-- without a name after it the token is alone
pub no_call_best : (function : Bool) (after : List ℕ) → NotFirst is_in_name after → Longest (Calls function) (call_token function ∷ after) (kinds.Token (call_token function)) 1
no_call_best function after none = record {
  begins = record { bytes = call_token function ∷ []; rest = after; split = refl; size_is = refl; is = call_is_keyword function };
  longest = longest;
}
  where
    longest : (other : SymKind) (n : ℕ) → Begins (Calls function) (call_token function ∷ after) other n → n ≤ 1
    longest (kinds.Call is_function bracket) n b =
        let call = b.is.1 in
        absurd (not_first is_in_name after _ call.first (same_tail _ _ _ _ (b.split ∙ ap (λ l. l ++ b.rest) call.spelled)) call.begins none)
    longest (kinds.Token t) n b = omega (arith, b.size_is, ap length b.is.spelled)
    longest kind n b = absurd b.is

pub system_best : (after : List ℕ) → Longest SystemNames (at_sign ∷ percent_sign ∷ after) (kinds.Name percent_sign false) 2
system_best after = record {
  begins = record { bytes = at_sign ∷ percent_sign ∷ []; rest = after; split = refl; size_is = refl; is = (refl, refl, refl) };
  longest = longest;
}
  where
    longest : (other : SymKind) (n : ℕ) → Begins SystemNames (at_sign ∷ percent_sign ∷ after) other n → n ≤ 2
    longest (kinds.Name suffix bracket) n b = omega (arith, b.size_is, ap length b.is.2)
    longest kind n b = absurd b.is

pub no_system_name : (after : List ℕ) → NotFirst is_percent after → (kind : SymKind) (n : ℕ) → Begins SystemNames (at_sign ∷ after) kind n → ⊥
no_system_name after none (kinds.Name suffix bracket) n b =
    not_first is_percent after b.rest percent_sign (same_tail _ _ _ _ (b.split ∙ ap (λ l. l ++ b.rest) b.is.2)) refl none
no_system_name after none kind n b = absurd b.is

-- a label's name, by the suffix that it may have
label_fits : (first : ℕ) (after mode_after rest : List ℕ) (run : IsRun is_in_name after mode_after) → SplitsPercent mode_after rest → (suffix : ℕ) (bytes rest' : List ℕ) → suffix ≢ dollar_sign → GoesOn suffix false bytes → after ≡ bytes ++ rest' → length bytes + length rest ≤ length after
label_fits first after mode_after rest run percent suffix bytes rest' no_string goes e = by_more covered.0 covered.1 covered.2
  where
    covered : (more : List ℕ) × (run.run ≡ goes.letters ++ more) × ((suffix_bytes suffix ++ []) ++ rest' ≡ more ++ mode_after)
    covered = covers is_in_name run.run goes.letters mode_after _ goes.each run.stops (sym run.split ∙ e ∙ ap (λ l. l ++ rest') goes.spelled ∙ append_assoc goes.letters _ rest')

    sizes : length after ≡ length run.run + length mode_after
    sizes = ap length run.split ∙ length-append run.run mode_after

    size_of_bytes : length bytes ≡ length goes.letters + length (suffix_bytes suffix ++ [])
    size_of_bytes = ap length goes.spelled ∙ length-append goes.letters _

    within : SplitsPercent mode_after rest → length rest ≤ length mode_after
    within (inl p) = omega (arith, ap length p)
    within (inr n) = omega (arith, ap length n.0)

    by_suffix : (more : List ℕ) → run.run ≡ goes.letters ++ more → (suffix_bytes suffix ++ []) ++ rest' ≡ more ++ mode_after → IsSuffix suffix → SplitsPercent mode_after rest → length bytes + length rest ≤ length after
    by_suffix more covers_run back (inl z) p =
        omega (arith, within p, sizes, size_of_bytes, ap (λ n. length (suffix_bytes n ++ [])) z, ap length covers_run, length-append goes.letters more)
    by_suffix more covers_run back (inr (inr p)) q = absurd (no_string p)
    by_suffix [] covers_run back (inr (inl p)) (inl taken) =
        omega (arith, ap length taken, sizes, size_of_bytes, ap (λ n. length (suffix_bytes n ++ [])) p, ap length covers_run, length-append goes.letters [])
    by_suffix [] covers_run back (inr (inl p)) (inr none) =
        absurd (not_first is_percent mode_after rest' percent_sign (sym back ∙ ap (λ n. (suffix_bytes n ++ []) ++ rest') p) refl none.1)
    by_suffix (m ∷ more) covers_run back (inr (inl p)) q =
        let m_is : percent_sign ≡ m = same_head _ _ _ _ (sym (ap (λ n. (suffix_bytes n ++ []) ++ rest') p) ∙ back) in
        let passes : is_in_name m ≡ true = (each_back is_in_name goes.letters (m ∷ more) (subst (Each is_in_name) covers_run run.each)).0 in
        absurd (true≢false (sym passes ∙ sym (ap is_in_name m_is)))

    by_more : (more : List ℕ) → run.run ≡ goes.letters ++ more → (suffix_bytes suffix ++ []) ++ rest' ≡ more ++ mode_after → length bytes + length rest ≤ length after
    by_more more covers_run back = by_suffix more covers_run back goes.is_suffix percent

is_not_system : (first : ℕ) → begins_name first ≡ true → first ≡ at_sign → ⊥
is_not_system first begins e = true≢false (sym begins ∙ ap begins_name e)

label_plain_longest : (first : ℕ) (after mode_after rest : List ℕ) → begins_name first ≡ true → IsRun is_in_name after mode_after → SplitsPercent mode_after rest → (other rest' : List ℕ) (s : ℕ) → s ≢ dollar_sign → IsName s false other → first ∷ after ≡ other ++ rest' → length other + length rest ≤ 1 + length after
label_plain_longest first after mode_after rest begins run percent other rest' s no_string (inl plain) e =
    let fits = label_fits first after mode_after rest run percent s plain.more rest' no_string plain.goes_on (same_tail _ _ _ _ (e ∙ ap (λ l. l ++ rest') plain.spelled)) in
    omega (arith, fits, ap length plain.spelled)
label_plain_longest first after mode_after rest begins run percent other rest' s no_string (inr system) e =
    absurd (is_not_system first begins (same_head _ _ _ _ (e ∙ ap (λ l. l ++ rest') system.2)))

-- the longest label's name that begins with a letter
pub label_plain : (text : List ℕ) (first : ℕ) (after mode_after rest : List ℕ) → text ≡ first ∷ after → begins_name first ≡ true → IsRun is_in_name after mode_after → SplitsPercent mode_after rest → EndsLabel text rest
label_plain text first after mode_after rest text_is begins run percent = by_percent percent
  where
    longest : (name : List ℕ) → length name + length rest ≡ 1 + length after → (other rest' : List ℕ) (s : ℕ) → s ≢ dollar_sign → IsName s false other → text ≡ other ++ rest' → length other ≤ length name
    longest name size other rest' s no_string is e =
        let most = label_plain_longest first after mode_after rest begins run percent other rest' s no_string is (sym text_is ∙ e) in omega (arith, most, size)

    by_percent : SplitsPercent mode_after rest → EndsLabel text rest
    by_percent (inl taken) = record {
      name = first ∷ (run.run ++ percent_sign ∷ []);
      suffix = percent_sign;
      no_string = λ e. omega (arith, e);
      is_name = inl (record { first = first; more = run.run ++ percent_sign ∷ []; begins = begins; goes_on = record { letters = run.run; each = run.each; is_suffix = inr (inl refl); spelled = refl }; spelled = refl });
      split = text_is ∙ ap (λ l. first ∷ l) (run.split ∙ ap (λ l. run.run ++ l) taken ∙ sym (append_assoc run.run (percent_sign ∷ []) rest));
      longest = longest (first ∷ (run.run ++ percent_sign ∷ [])) (omega (arith, ap length run.split, length-append run.run mode_after, length-append run.run (percent_sign ∷ []), ap length taken));
    }
    by_percent (inr none) = record {
      name = first ∷ (run.run ++ []);
      suffix = 0;
      no_string = λ e. omega (arith, e);
      is_name = inl (record { first = first; more = run.run ++ []; begins = begins; goes_on = record { letters = run.run; each = run.each; is_suffix = inl refl; spelled = refl }; spelled = refl });
      split = text_is ∙ ap (λ l. first ∷ l) (run.split ∙ ap (λ l. run.run ++ l) none.0 ∙ sym (append_assoc run.run [] rest));
      longest = longest (first ∷ (run.run ++ [])) (omega (arith, ap length run.split, length-append run.run mode_after, length-append run.run [], ap length none.0));
    }

-- the label's name `@%`
pub label_system : (text rest : List ℕ) → text ≡ at_sign ∷ percent_sign ∷ rest → EndsLabel text rest
label_system text rest e = record {
  name = at_sign ∷ percent_sign ∷ [];
  suffix = percent_sign;
  no_string = λ p. omega (arith, p);
  is_name = inr (refl, refl, refl);
  split = e;
  longest = longest;
}
  where
    longest : (other rest' : List ℕ) (s : ℕ) → s ≢ dollar_sign → IsName s false other → text ≡ other ++ rest' → length other ≤ 2
    longest other rest' s no_string (inl plain) same =
        absurd (is_not_system plain.first plain.begins (sym (same_head _ _ _ _ (sym e ∙ same ∙ ap (λ l. l ++ rest') plain.spelled))))
    longest other rest' s no_string (inr system) same = omega (arith, ap length system.2)

pub no_label_name : (text : List ℕ) → NotFirst begins_name text → ((rest : List ℕ) → text ≡ at_sign ∷ percent_sign ∷ rest → ⊥) → NoLabelName text
no_label_name text no_letter no_system name rest suffix (inl plain) e =
    not_first begins_name text _ plain.first (e ∙ ap (λ l. l ++ rest) plain.spelled) plain.begins no_letter
no_label_name text no_letter no_system name rest suffix (inr system) e = no_system rest (e ∙ ap (λ l. l ++ rest) system.2)

pub label_best : (after rest : List ℕ) (asm : Bool) → asm ≡ true → EndsLabel after rest → Longest (Labels asm) (point ∷ after) kinds.Label (1 + (length after - length rest))
label_best after rest asm on ends = record {
  begins = record {
    bytes = point ∷ ends.name;
    rest = rest;
    split = ap (λ l. point ∷ l) ends.split;
    size_is = omega (arith, ap length ends.split, length-append ends.name rest);
    is = (on, record { name = ends.name; suffix = ends.suffix; no_string = ends.no_string; is_name = ends.is_name; spelled = refl });
  };
  longest = longest;
}
  where
    longest : (other : SymKind) (n : ℕ) → Begins (Labels asm) (point ∷ after) other n → n ≤ 1 + (length after - length rest)
    longest kinds.Label n b =
        let label = b.is.1 in
        let most = ends.longest label.name b.rest label.suffix label.no_string label.is_name (same_tail _ _ _ _ (b.split ∙ ap (λ l. l ++ b.rest) label.spelled)) in
        omega (arith, most, b.size_is, ap length label.spelled, ap length ends.split, length-append ends.name rest)
    longest kind n b = absurd b.is

pub no_label : (after : List ℕ) (asm : Bool) → NoLabelName after → (kind : SymKind) (n : ℕ) → Begins (Labels asm) (point ∷ after) kind n → ⊥
no_label after asm none kinds.Label n b =
    let label = b.is.1 in none label.name b.rest label.suffix label.is_name (same_tail _ _ _ _ (b.split ∙ ap (λ l. l ++ b.rest) label.spelled))
no_label after asm none kind n b = absurd b.is

pub no_label_off : (text : List ℕ) (asm : Bool) → asm ≡ false → (kind : SymKind) (n : ℕ) → Begins (Labels asm) text kind n → ⊥
no_label_off text asm off kinds.Label n b = true≢false (sym b.is.0 ∙ off)
no_label_off text asm off kind n b = absurd b.is
