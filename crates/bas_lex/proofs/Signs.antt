-- The longest sign, sign by sign of the table.
use Rattle.std.proofs.Common.{◌≡◌, ◌⊎◌, inl, inr, ℕ, zero, suc, ◌+◌, ◌≤◌, ◌<◌, Bool, true, false, nat_eq, nat_le, if◌then◌else◌, List, [], ◌∷◌, ◌++◌, length, take, drop, get_or, map, slice_get, Option, Some, None, refl, sym, ap, subst, ◌∙◌, arith, true≢false, length-take-le, take_all}
use Rattle.std.proofs.lemmas.List.{take_more}
use Rattle.std.specs.List.{starts_with}
use Rattle.std.proofs.lemmas.Bool.{leb-true, leb-false}
use Rattle.std.proofs.lemmas.Bool.Decides.{Decides-eqb}
use Rattle.std.proofs.lemmas.Slice.Eq.{starts_is}
use Rattle.bas_lex.specs.declared.front.Front.{Front}
use Rattle.bas_lex.specs.declared.sign.TheConstants.{SIGNS}
use Rattle.bas_lex.specs.declared.symbol.SymKind.{SymKind}
use Rattle.bas_lex.specs.declared.symbol.SymKind.TheVariants as kinds
use Rattle.bas_lex.specs.Kinds.{signs}
use Rattle.bas_lex.specs.Cut.{Begins}
use Rattle.bas_lex.specs.Scan.{Best, Signs, SignsOf, longer_of, longer_sign}

-- the element of a longer table
slice_get-push : (table : List (List ℕ)) (last : List ℕ) (n : ℕ) (sign : List ℕ) → slice_get (table ++ last ∷ []) n ≡ Some sign → (slice_get table n ≡ Some sign) ⊎ ((n ≡ length table) × (last ≡ sign))
slice_get-push [] last zero sign e = inr (refl, cc)
slice_get-push [] last (suc n) sign e = absurd (let no : None ≡ Some sign = e in cc)
slice_get-push (x ∷ table) last zero sign e = inl e
slice_get-push (x ∷ table) last (suc n) sign e =
    elim (slice_get-push table last n sign e) [
      | inl within ↦ inl within
      | inr (n_is, same) ↦ inr (omega (arith, n_is), same)
    ]

slice_get-front : (table : List (List ℕ)) (last : List ℕ) (n : ℕ) (sign : List ℕ) → slice_get table n ≡ Some sign → slice_get (table ++ last ∷ []) n ≡ Some sign
slice_get-front [] last n sign e = absurd (let no : None ≡ Some sign = e in cc)
slice_get-front (x ∷ table) last zero sign e = e
slice_get-front (x ∷ table) last (suc n) sign e = slice_get-front table last n sign e

slice_get-last : (table : List (List ℕ)) (last : List ℕ) → slice_get (table ++ last ∷ []) (length table) ≡ Some last
slice_get-last [] last = refl
slice_get-last (x ∷ table) last = slice_get-last table last

-- the kinds in a longer table
of_longer : (table : List (List ℕ)) (last text : List ℕ) (kind : SymKind) (n : ℕ) → Begins (SignsOf (table ++ last ∷ [])) text kind n → Begins (SignsOf table) text kind n ⊎ ((rest : List ℕ) × (text ≡ last ++ rest) × (n ≡ length last))
of_longer table last text (kinds.Mark k) n b =
    elim (slice_get-push table last k b.bytes b.is) [
      | inl within ↦ inl (record { bytes = b.bytes; rest = b.rest; split = b.split; size_is = b.size_is; is = within })
      | inr (k_is, same) ↦ inr (b.rest, b.split ∙ ap (λ l. l ++ b.rest) (sym same), sym b.size_is ∙ ap length (sym same))
    ]
of_longer table last text kind n b = absurd b.is

in_longer : (table : List (List ℕ)) (last text : List ℕ) (kind : SymKind) (n : ℕ) → Begins (SignsOf table) text kind n → Begins (SignsOf (table ++ last ∷ [])) text kind n
in_longer table last text (kinds.Mark k) n b = record { bytes = b.bytes; rest = b.rest; split = b.split; size_is = b.size_is; is = slice_get-front table last k b.bytes b.is }
in_longer table last text kind n b = absurd b.is

-- a sign more, which doesn't begin the text
not_there : (table : List (List ℕ)) (last text : List ℕ) (found : Option Front) → ((rest : List ℕ) → text ≡ last ++ rest → ⊥) → Best (SignsOf table) text found → Best (SignsOf (table ++ last ∷ [])) text found
not_there table last text None absent best = λ kind n b. (elim (of_longer table last text kind n b) [ inl within ↦ best kind n within | inr (rest, e, size) ↦ absent rest e ])
not_there table last text (Some front) absent best = record {
  begins = in_longer table last text front.kind front.size best.begins;
  longest = λ other n b. (elim (of_longer table last text other n b) [ inl within ↦ best.longest other n within | inr (rest, e, size) ↦ absurd (absent rest e) ]);
}

-- a sign more, which begins the text
module _ (table : List (List ℕ)) (last text rest : List ℕ) (there : text ≡ last ++ rest) where
  abbrev new : Front
  new = record { kind = kinds.Mark (length table); size = length last }

  new_begins : Begins (SignsOf (table ++ last ∷ [])) text (kinds.Mark (length table)) (length last)
  new_begins = record { bytes = last; rest = rest; split = there; size_is = refl; is = slice_get-last table last }

  new_is_longest : (found : Option Front) → Best (SignsOf table) text found → ((old : Front) → found ≡ Some old → old.size ≤ length last) → Best (SignsOf (table ++ last ∷ [])) text (Some new)
  new_is_longest found best shorter = record { begins = new_begins; longest = λ other n b. (elim (of_longer table last text other n b) [ inl within ↦ by_found found best shorter other n within | inr (rest', e, size) ↦ omega (arith, size) ]) }
    where
      by_found : (found : Option Front) → Best (SignsOf table) text found → ((old : Front) → found ≡ Some old → old.size ≤ length last) → (other : SymKind) (n : ℕ) → Begins (SignsOf table) text other n → n ≤ length last
      by_found None best shorter other n b = absurd (best other n b)
      by_found (Some old) best shorter other n b = let most = best.longest other n b in omega (arith, most, shorter old refl)

  old_is_longest : (old : Front) → Best (SignsOf table) text (Some old) → length last ≤ old.size → Best (SignsOf (table ++ last ∷ [])) text (Some old)
  old_is_longest old best longer = record {
    begins = in_longer table last text old.kind old.size best.begins;
    longest = λ other n b. (elim (of_longer table last text other n b) [ inl within ↦ best.longest other n within | inr (rest', e, size) ↦ omega (arith, size, longer) ]);
  }

  is_there : (found : Option Front) → Best (SignsOf table) text found → Best (SignsOf (table ++ last ∷ [])) text (longer_of found new)
  is_there None best = new_is_longest None best (λ old e. absurd (let no : None ≡ Some old = e in cc))
  is_there (Some old) best = cases (nat_le (length last) old.size) refl
    where
      cases : (t : Bool) → nat_le (length last) old.size ≡ t → Best (SignsOf (table ++ last ∷ [])) text (if t then Some old else Some new)
      cases true is = old_is_longest old best (leb-true _ _ is)
      cases false is = new_is_longest (Some old) best (λ other e. (let same : old.size ≡ other.size = (let f : old ≡ other = cc in ap (λ (x : Front). x.size) f) in let less = leb-false _ _ is in omega (arith, same, less)))

pub sign_more : (table : List (List ℕ)) (last text : List ℕ) (found : Option Front) → Best (SignsOf table) text found → Best (SignsOf (table ++ last ∷ [])) text (longer_sign found (length table) last text)
sign_more table last text found best = cases (starts_with nat_eq text last) refl
  where
    cases : (t : Bool) → starts_with nat_eq text last ≡ t → Best (SignsOf (table ++ last ∷ [])) text (if t then longer_of found (record { kind = kinds.Mark (length table); size = length last }) else found)
    cases true is = is_there table last text (drop (length last) text) ((starts_is Decides-eqb text last true (sym is)).0 refl) found best
    cases false is = not_there table last text found (λ rest e. true≢false (sym ((starts_is Decides-eqb text last false (sym is)).1 rest e))) best

-- the code's table is the defined one
abbrev pub table_now : List (List ℕ)
table_now = map (λ sign. sign.now) SIGNS

pub same_table : table_now ≡ signs
unfolding signs
same_table = refl

pub no_sign_yet : (text : List ℕ) → Best (SignsOf []) text None
no_sign_yet text (kinds.Mark k) n b = let no : None ≡ Some b.bytes = b.is in cc
no_sign_yet text kind n b = b.is

-- one sign of the table more
pub sign_step : (number : ℕ) (sign text : List ℕ) (found result : Option Front) → number < length table_now → sign ≡ get_or table_now number [] → result ≡ longer_sign found number sign text → Best (SignsOf (take number table_now)) text found → Best (SignsOf (take (number + 1) table_now)) text result
sign_step number sign text found result within sign_is result_is best =
    let size : length (take number table_now) ≡ number = length-take-le number table_now (omega (arith, within)) in
    let more : take (number + 1) table_now ≡ take number table_now ++ sign ∷ [] = take_more table_now number [] within ∙ ap (λ s. take number table_now ++ s ∷ []) (sym sign_is) in
    let one : Best (SignsOf (take number table_now ++ sign ∷ [])) text (longer_sign found (length (take number table_now)) sign text) = sign_more (take number table_now) sign text found best in
    let numbered : Best (SignsOf (take number table_now ++ sign ∷ [])) text (longer_sign found number sign text) = subst (λ n. Best (SignsOf (take number table_now ++ sign ∷ [])) text (longer_sign found n sign text)) size one in
    subst (λ f. Best (SignsOf (take (number + 1) table_now)) text f) (sym result_is) (subst (λ t. Best (SignsOf t) text (longer_sign found number sign text)) (sym more) numbered)

-- all the signs of the table
pub all_signs : (number : ℕ) (text : List ℕ) (found : Option Front) → length table_now ≤ number → Best (SignsOf (take number table_now)) text found → Best Signs text found
all_signs number text found past best =
    let whole : take number table_now ≡ signs = take_all number table_now past ∙ same_table in
    subst (λ t. Best (SignsOf t) text found) whole best
