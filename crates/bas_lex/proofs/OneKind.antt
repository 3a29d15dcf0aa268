-- Bytes are one symbol of one kind at most.
use Rattle.std.proofs.Common.{◌≡◌, ◌⊎◌, inl, inr, ℕ, ℤ, zero, suc, Bool, true, false, not, ◌&&◌, ◌==◌, if◌then◌else◌, List, [], ◌∷◌, ◌++◌, length, slice_get, bytes_eq, Some, None, refl, sym, ap, subst, ◌∙◌, arith}
use Rattle.std.specs.List.{list_all}
use Rattle.std.specs.Int.{w32, cast_signed}
use Rattle.std.specs.Str.Parse.{digits_value}
use Rattle.std.proofs.lemmas.Bool.{and_parts, both_ways, not-true}
use Rattle.std.proofs.lemmas.List.{append_cancel_left}
use Rattle.std.proofs.lemmas.Slice.Eq.{bytes_eq-Decides}
use Rattle.bv_token.specs.References.{referred}
use Rattle.bas_lex.specs.declared.number.Radix.{Radix}
use Rattle.bas_lex.specs.declared.symbol.SymKind.{SymKind}
use Rattle.bas_lex.specs.declared.symbol.SymKind.TheVariants as kinds
use Rattle.bv_token.specs.Names.{is_in_name}
use Rattle.bas_lex.specs.Bytes.{NotFirst, open_bracket}
use Rattle.bas_lex.specs.Kinds.{IsSymbol, IsSingle, IsPair, IsSuffix, suffix_bytes, bracket_bytes, GoesOn, IsPlainName, IsCall, IsNumber, IsLineRef, radix_mark, base, signs}
use Rattle.bv_base.proofs.Lists.{same_head, same_tail}
use Rattle.bas_lex.proofs.Runs.{same_runs}
use Rattle.bas_lex.proofs.Classes.{Class, OfName, OfSystemName, OfText, OfLabel, OfLineRef, OfToken, OfSign, OfCall, OfNumber, class_of, of_class, class_of_symbol, at_place}

-- the suffix and the bracket of what follows the letters
abbrev suffix_in : List ℕ → ℕ
suffix_in [] = 0
suffix_in (c ∷ more) = if c == open_bracket then 0 else c

abbrev bracket_in : List ℕ → Bool
bracket_in [] = false
bracket_in (c ∷ []) = c == open_bracket
bracket_in (c ∷ d ∷ more) = d == open_bracket

suffix_is : (suffix : ℕ) (bracket : Bool) → IsSuffix suffix → suffix_in (suffix_bytes suffix ++ bracket_bytes bracket) ≡ suffix
suffix_is suffix true (inl e) = subst (λ n. suffix_in (suffix_bytes n ++ open_bracket ∷ []) ≡ n) (sym e) refl
suffix_is suffix false (inl e) = subst (λ n. suffix_in (suffix_bytes n ++ []) ≡ n) (sym e) refl
suffix_is suffix bracket (inr (inl e)) = subst (λ n. suffix_in (suffix_bytes n ++ bracket_bytes bracket) ≡ n) (sym e) refl
suffix_is suffix bracket (inr (inr e)) = subst (λ n. suffix_in (suffix_bytes n ++ bracket_bytes bracket) ≡ n) (sym e) refl

bracket_is : (suffix : ℕ) (bracket : Bool) → IsSuffix suffix → bracket_in (suffix_bytes suffix ++ bracket_bytes bracket) ≡ bracket
bracket_is suffix true (inl e) = ap (λ n. bracket_in (suffix_bytes n ++ open_bracket ∷ [])) e
bracket_is suffix false (inl e) = ap (λ n. bracket_in (suffix_bytes n ++ [])) e
bracket_is suffix true (inr (inl e)) = ap (λ n. bracket_in (suffix_bytes n ++ open_bracket ∷ [])) e
bracket_is suffix false (inr (inl e)) = ap (λ n. bracket_in (suffix_bytes n ++ [])) e
bracket_is suffix true (inr (inr e)) = ap (λ n. bracket_in (suffix_bytes n ++ open_bracket ∷ [])) e
bracket_is suffix false (inr (inr e)) = ap (λ n. bracket_in (suffix_bytes n ++ [])) e

no_letter : (suffix : ℕ) (bracket : Bool) → IsSuffix suffix → NotFirst is_in_name (suffix_bytes suffix ++ bracket_bytes bracket)
no_letter suffix true (inl e) = subst (λ n. NotFirst is_in_name (suffix_bytes n ++ open_bracket ∷ [])) (sym e) refl
no_letter suffix false (inl e) = subst (λ n. NotFirst is_in_name (suffix_bytes n ++ [])) (sym e) tt
no_letter suffix bracket (inr (inl e)) = subst (λ n. NotFirst is_in_name (suffix_bytes n ++ bracket_bytes bracket)) (sym e) refl
no_letter suffix bracket (inr (inr e)) = subst (λ n. NotFirst is_in_name (suffix_bytes n ++ bracket_bytes bracket)) (sym e) refl

goes_on_once : (a b : ℕ) (c d : Bool) (bytes bytes' : List ℕ) → bytes ≡ bytes' → GoesOn a c bytes → GoesOn b d bytes' → (a ≡ b) × (c ≡ d)
goes_on_once a b c d bytes bytes' same f g =
    let runs = same_runs is_in_name f.letters g.letters (suffix_bytes a ++ bracket_bytes c) (suffix_bytes b ++ bracket_bytes d) f.each g.each (no_letter a c f.is_suffix) (no_letter b d g.is_suffix) (sym f.spelled ∙ same ∙ g.spelled) in (
      sym (suffix_is a c f.is_suffix) ∙ ap suffix_in runs.1 ∙ suffix_is b d g.is_suffix,
      sym (bracket_is a c f.is_suffix) ∙ ap bracket_in runs.1 ∙ bracket_is b d g.is_suffix,
    )

name_once : (a b : ℕ) (c d : Bool) (bytes : List ℕ) → IsPlainName a c bytes → IsPlainName b d bytes → kinds.Name a c ≡ kinds.Name b d
name_once a b c d bytes f g =
    let same = goes_on_once a b c d f.more g.more (same_tail _ _ _ _ (sym f.spelled ∙ g.spelled)) f.goes_on g.goes_on in
    (λ i. kinds.Name (same.0 i) (same.1 i))

call_once : (function a b c d : Bool) (bytes : List ℕ) → a ≡ b → IsCall function c bytes → IsCall function d bytes → kinds.Call a c ≡ kinds.Call b d
call_once function a b c d bytes same_function f g =
    let same = goes_on_once f.suffix g.suffix c d f.more g.more (same_tail _ _ _ _ (same_tail _ _ _ _ (sym f.spelled ∙ g.spelled))) f.goes_on g.goes_on in
    (λ i. kinds.Call (same_function i) (same.1 i))

number_once : (radix : Radix) (a b : ℤ) (bytes rest : List ℕ) → IsNumber radix a bytes rest → IsNumber radix b bytes rest → a ≡ b
number_once radix a b bytes rest f g =
    let digits : f.digits ≡ g.digits = append_cancel_left (radix_mark radix) f.digits g.digits (sym f.spelled ∙ g.spelled) in
    f.signed ∙ ap (λ l. cast_signed w32 (digits_value (base radix) l)) digits ∙ sym g.signed

line_ref_once : (a b : ℕ) (bytes : List ℕ) → IsLineRef a bytes → IsLineRef b bytes → a ≡ b
line_ref_once a b bytes f g =
    let e = same_tail _ _ _ _ (sym f.spelled ∙ g.spelled) in
    let first : f.first ≡ g.first = same_head _ _ _ _ e in
    let second : f.second ≡ g.second = same_head _ _ _ _ (same_tail _ _ _ _ e) in
    let third : f.third ≡ g.third = same_head _ _ _ _ (same_tail _ _ _ _ (same_tail _ _ _ _ e)) in
    f.refers ∙ (λ i. referred (first i) (second i) (third i)) ∙ sym g.refers

token_once : (a b : ℕ) (bytes : List ℕ) → IsSingle a bytes ⊎ IsPair a bytes → IsSingle b bytes ⊎ IsPair b bytes → a ≡ b
token_once a b bytes (inl f) (inl g) = same_head _ _ _ _ (sym f.spelled ∙ g.spelled)
token_once a b bytes (inl f) (inr g) = absurd (omega (arith, ap length f.spelled, ap length g.spelled))
token_once a b bytes (inr f) (inl g) = absurd (omega (arith, ap length f.spelled, ap length g.spelled))
token_once a b bytes (inr f) (inr g) =
    let e = sym f.spelled ∙ g.spelled in
    let first : f.first ≡ g.first = same_head _ _ _ _ e in
    let second : f.second ≡ g.second = same_head _ _ _ _ (same_tail _ _ _ _ e) in
    omega (arith, f.number, g.number, first, second)

-- no two lists of the table are the same
abbrev all_differ : List (List ℕ) → Bool
all_differ [] = true
all_differ (x ∷ table) = list_all (λ y. not (bytes_eq y x)) table && all_differ table

one_place : (table : List (List ℕ)) (n m : ℕ) (sign : List ℕ) → all_differ table ≡ true → slice_get table n ≡ Some sign → slice_get table m ≡ Some sign → n ≡ m
one_place [] n m sign differ f g = absurd (let no_sign : None ≡ Some sign = f in cc)
one_place (x ∷ table) zero zero sign differ f g = refl
one_place (x ∷ table) zero (suc m) sign differ f g =
    let same : sign ≡ x = cc in
    absurd (both_ways (bytes_eq sign x) (not-true (bytes_eq sign x) (at_place (λ y. not (bytes_eq y x)) table m sign (and_parts _ (all_differ table) differ).0 g)) ((bytes_eq-Decides sign x).1 same))
one_place (x ∷ table) (suc n) zero sign differ f g =
    let same : sign ≡ x = cc in
    absurd (both_ways (bytes_eq sign x) (not-true (bytes_eq sign x) (at_place (λ y. not (bytes_eq y x)) table n sign (and_parts _ (all_differ table) differ).0 f)) ((bytes_eq-Decides sign x).1 same))
one_place (x ∷ table) (suc n) (suc m) sign differ f g =
    let same = one_place table n m sign (and_parts (list_all (λ y. not (bytes_eq y x)) table) _ differ).1 f g in omega (arith, same)

signs_differ : all_differ signs ≡ true
unfolding signs
signs_differ = refl

-- in a class
once : (asm : Bool) (class : Class) (a b : SymKind) (bytes rest : List ℕ) → of_class class asm a bytes rest → of_class class asm b bytes rest → a ≡ b
once asm OfName (kinds.Name a c) (kinds.Name b d) bytes rest f g = name_once a b c d bytes f g
once asm OfName (kinds.Name a c) b bytes rest f g = absurd g
once asm OfName a b bytes rest f g = absurd f
once asm OfSystemName (kinds.Name a c) (kinds.Name b d) bytes rest f g = (λ i. kinds.Name ((f.0 ∙ sym g.0) i) ((f.1 ∙ sym g.1) i))
once asm OfSystemName (kinds.Name a c) b bytes rest f g = absurd g
once asm OfSystemName a b bytes rest f g = absurd f
once asm OfText kinds.Text kinds.Text bytes rest f g = refl
once asm OfText kinds.Text b bytes rest f g = absurd g
once asm OfText a b bytes rest f g = absurd f
once asm OfLabel kinds.Label kinds.Label bytes rest f g = refl
once asm OfLabel kinds.Label b bytes rest f g = absurd g
once asm OfLabel a b bytes rest f g = absurd f
once asm OfLineRef (kinds.LineRef a) (kinds.LineRef b) bytes rest f g = ap (λ n. kinds.LineRef n) (line_ref_once a b bytes f g)
once asm OfLineRef (kinds.LineRef a) b bytes rest f g = absurd g
once asm OfLineRef a b bytes rest f g = absurd f
once asm OfToken (kinds.Token a) (kinds.Token b) bytes rest f g = ap (λ n. kinds.Token n) (token_once a b bytes f g)
once asm OfToken (kinds.Token a) b bytes rest f g = absurd g
once asm OfToken a b bytes rest f g = absurd f
once asm OfSign (kinds.Mark a) (kinds.Mark b) bytes rest f g = ap (λ n. kinds.Mark n) (one_place signs a b bytes signs_differ f g)
once asm OfSign (kinds.Mark a) b bytes rest f g = absurd g
once asm OfSign a b bytes rest f g = absurd f
once asm (OfCall function) (kinds.Call a c) (kinds.Call b d) bytes rest f g = call_once function a b c d bytes (f.0 ∙ sym g.0) f.1 g.1
once asm (OfCall function) (kinds.Call a c) (kinds.Token b) bytes rest f g = absurd (omega (arith, ap length f.1.spelled, ap length g.spelled))
once asm (OfCall function) (kinds.Call a c) b bytes rest f g = absurd g
once asm (OfCall function) (kinds.Token a) (kinds.Call b d) bytes rest f g = absurd (omega (arith, ap length f.spelled, ap length g.1.spelled))
once asm (OfCall function) (kinds.Token a) (kinds.Token b) bytes rest f g = ap (λ n. kinds.Token n) (same_head _ _ _ _ (sym f.spelled ∙ g.spelled))
once asm (OfCall function) (kinds.Token a) b bytes rest f g = absurd g
once asm (OfCall function) a b bytes rest f g = absurd f
once asm (OfNumber radix) (kinds.Number a) (kinds.Number b) bytes rest f g = ap (λ n. kinds.Number n) (number_once radix a b bytes rest f g)
once asm (OfNumber radix) (kinds.Number a) b bytes rest f g = absurd g
once asm (OfNumber radix) a b bytes rest f g = absurd f

-- the same bytes in front of the same rest are a symbol of one kind
pub one_kind : (asm : Bool) (a b : SymKind) (bytes rest : List ℕ) → IsSymbol asm a bytes rest → IsSymbol asm b bytes rest → a ≡ b
one_kind asm a b bytes rest f g =
    let c = class_of_symbol asm a bytes rest f in
    let d = class_of_symbol asm b bytes rest g in
    let same : d.first ≡ c.first = same_head _ _ _ _ (sym d.spelled ∙ c.spelled) in
    once asm (class_of c.first) a b bytes rest c.is (subst (λ k. of_class (class_of k) asm b bytes rest) same d.is)
