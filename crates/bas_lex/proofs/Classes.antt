-- A symbol's first byte tells which kinds it can be of.
use Rattle.std.proofs.Common.{◌≡◌, ◌≢◌, ◌⊎◌, inl, inr, ℕ, zero, suc, ◌+◌, ◌-◌, ◌≤◌, ◌<◌, Bool, true, false, ◌==◌, nat_le, if◌then◌else◌, List, [], ◌∷◌, ◌++◌, slice_get, Option, Some, None, refl, sym, ap, subst, ◌∙◌, arith, true≢false, leb-true, ltb-true, ℤ}
use Rattle.std.specs.List.{list_all}
use Rattle.std.proofs.lemmas.Bool.{and_parts, cases_eq, cond-true}
use Rattle.std.proofs.lemmas.Bool.Decides.{nat_tests}
use Rattle.bv_token.specs.declared.reference.TheConstants.{LINE_REFERENCE}
use Rattle.bv_token.specs.declared.tokens.TheConstants.{OTHERWISE, FN, PROC}
use Rattle.std.specs.Char.{is_ascii_digit}
use Rattle.bv_num.specs.Digits.{is_digit}
use Rattle.bv_num.proofs.Numerals.{decimal_byte}
use Rattle.bas_lex.specs.declared.front.Front.{Front}
use Rattle.bas_lex.specs.declared.number.Radix.{Radix}
use Rattle.bas_lex.specs.declared.number.Radix.TheVariants as radixes
use Rattle.bas_lex.specs.declared.symbol.SymKind.{SymKind}
use Rattle.bas_lex.specs.declared.symbol.SymKind.TheVariants as kinds
use Rattle.bv_token.specs.Names.{begins_name}
use Rattle.bas_lex.specs.Bytes.{Each, ampersand, at_sign, digit_0, digit_9, percent_sign, point, quotation_mark}
use Rattle.bas_lex.specs.Kinds.{IsSymbol, IsSingle, IsPair, IsCall, IsNumber, base, signs, IsSign}
use Rattle.bas_lex.specs.Scan.{Best, Names, SystemNames, Calls, Labels, Numbers, Texts, LineRefs, Tokens, Signs}
use Rattle.bas_lex.proofs.Fronts.{best_map}
use Rattle.bv_base.proofs.Lists.{same_head}
use Rattle.bas_lex.proofs.Tokens.{pair_begins, pair_range, keyword_is_high}

-- what can begin with a byte
pub data Class : Type 0 where
  OfName OfSystemName OfText OfLabel OfLineRef OfToken OfSign : Class
  OfCall : (function : Bool) → Class
  OfNumber : (radix : Radix) → Class

abbrev pub class_of : ℕ → Class
class_of b =
    if begins_name b then OfName
    else if is_ascii_digit b then OfNumber radixes.Decimal
    else if b == ampersand then OfNumber radixes.Hexadecimal
    else if b == percent_sign then OfNumber radixes.Binary
    else if b == quotation_mark then OfText
    else if b == point then OfLabel
    else if b == at_sign then OfSystemName
    else if b == LINE_REFERENCE then OfLineRef
    else if b == FN then OfCall true
    else if b == PROC then OfCall false
    else if nat_le OTHERWISE b then OfToken
    else OfSign

abbrev pub of_class : Class → Bool → SymKind → List ℕ → List ℕ → Type 0
of_class OfName asm = Names
of_class OfSystemName asm = SystemNames
of_class OfText asm = Texts
of_class OfLabel asm = Labels asm
of_class OfLineRef asm = LineRefs
of_class OfToken asm = Tokens
of_class OfSign asm = Signs
of_class (OfCall function) asm = Calls function
of_class (OfNumber radix) asm = Numbers radix

pub class_name : (b : ℕ) → begins_name b ≡ true → class_of b ≡ OfName
class_name b begins = cond-true (begins_name b) _ _ begins

pub class_decimal : (b : ℕ) → digit_0 ≤ b → b ≤ digit_9 → class_of b ≡ OfNumber radixes.Decimal
class_decimal b low high = grind (arith, nat_tests)

pub class_token : (b : ℕ) → OTHERWISE ≤ b → b ≢ LINE_REFERENCE → b ≢ FN → b ≢ PROC → class_of b ≡ OfToken
class_token b high not_ref not_fn not_proc = grind (arith, nat_tests)

pub class_sign : (b : ℕ) → begins_name b ≡ false → (b < digit_0) ⊎ (digit_9 < b) → b ≢ ampersand → b ≢ percent_sign → b ≢ quotation_mark → b ≢ point → b ≢ at_sign → b < OTHERWISE → class_of b ≡ OfSign
class_sign b no_name no_digit not_ampersand not_percent not_quote not_point not_at low = grind (arith, nat_tests)

-- a byte that begins one of these kinds, by its class
pub record InClass (asm : Bool) (kind : SymKind) (bytes rest : List ℕ) : Type 0 where
  pub first : ℕ
  pub more : List ℕ
  pub spelled : bytes ≡ first ∷ more
  pub is : of_class (class_of first) asm kind bytes rest

in_class : (asm : Bool) (kind : SymKind) (bytes rest : List ℕ) (first : ℕ) (more : List ℕ) (class : Class) → bytes ≡ first ∷ more → class_of first ≡ class → of_class class asm kind bytes rest → InClass asm kind bytes rest
in_class asm kind bytes rest first more class spelled e is = record {
  first = first;
  more = more;
  spelled = spelled;
  is = subst (λ c. of_class c asm kind bytes rest) (sym e) is;
}

digit_within : (c : ℕ) → is_digit (base radixes.Decimal) c ≡ true → (digit_0 ≤ c) × (c ≤ digit_9)
digit_within c passes = decimal_byte c (ltb-true _ _ passes)

number_class : (asm : Bool) (radix : Radix) (value : ℤ) (bytes rest : List ℕ) → IsNumber radix value bytes rest → InClass asm (kinds.Number value) bytes rest
number_class asm radixes.Decimal value bytes rest is = by_digits is.digits is.some is.each is.spelled
  where
    by_digits : (digits : List ℕ) → digits ≢ [] → Each (is_digit (base radixes.Decimal)) digits → bytes ≡ digits → InClass asm (kinds.Number value) bytes rest
    by_digits [] some each spelled = absurd (some refl)
    by_digits (c ∷ digits) some each spelled =
        let within = digit_within c each.0 in in_class asm (kinds.Number value) bytes rest c digits (OfNumber radixes.Decimal) spelled (class_decimal c within.0 within.1) is
number_class asm radixes.Hexadecimal value bytes rest is = in_class asm (kinds.Number value) bytes rest ampersand is.digits (OfNumber radixes.Hexadecimal) is.spelled refl is
number_class asm radixes.Binary value bytes rest is = in_class asm (kinds.Number value) bytes rest percent_sign is.digits (OfNumber radixes.Binary) is.spelled refl is

single_class : (asm : Bool) (n : ℕ) (bytes rest : List ℕ) → IsSingle n bytes → InClass asm (kinds.Token n) bytes rest
single_class asm n bytes rest is =
    let high = keyword_is_high n is.keyword in
    elim (cases_eq n FN) [
      | inl e ↦ in_class asm (kinds.Token n) bytes rest n [] (OfCall true) is.spelled (ap class_of e) is
      | inr not_fn ↦ elim (cases_eq n PROC) [
        | inl e ↦ in_class asm (kinds.Token n) bytes rest n [] (OfCall false) is.spelled (ap class_of e) is
        | inr not_proc ↦ in_class asm (kinds.Token n) bytes rest n [] OfToken is.spelled (class_token n high.0 high.1 not_fn not_proc) (inl is)
      ]
    ]

pair_class : (asm : Bool) (n : ℕ) (bytes rest : List ℕ) → IsPair n bytes → InClass asm (kinds.Token n) bytes rest
pair_class asm n bytes rest is =
    let range = pair_range is.first (pair_begins is.first is.second is.keyword) in
    in_class asm (kinds.Token n) bytes rest is.first (is.second ∷ []) OfToken is.spelled
    (class_token is.first (omega (arith, range.0)) (λ e. omega (arith, range.0, e)) (λ e. omega (arith, range.0, e)) (λ e. omega (arith, range.1, e))) (inr is)

call_class : (asm function bracket : Bool) (bytes rest : List ℕ) → IsCall function bracket bytes → InClass asm (kinds.Call function bracket) bytes rest
call_class asm true bracket bytes rest is = in_class asm (kinds.Call true bracket) bytes rest FN (is.first ∷ is.more) (OfCall true) is.spelled refl (refl, is)
call_class asm false bracket bytes rest is = in_class asm (kinds.Call false bracket) bytes rest PROC (is.first ∷ is.more) (OfCall false) is.spelled refl (refl, is)

abbrev is_sign_class : Class → Bool
is_sign_class OfSign = true
is_sign_class class = false

abbrev begins_sign : List ℕ → Bool
begins_sign [] = false
begins_sign (c ∷ more) = is_sign_class (class_of c)

sign_class_of : (class : Class) → is_sign_class class ≡ true → class ≡ OfSign
sign_class_of OfSign e = refl
sign_class_of OfName e = absurd (true≢false (sym e))
sign_class_of OfSystemName e = absurd (true≢false (sym e))
sign_class_of OfText e = absurd (true≢false (sym e))
sign_class_of OfLabel e = absurd (true≢false (sym e))
sign_class_of OfLineRef e = absurd (true≢false (sym e))
sign_class_of OfToken e = absurd (true≢false (sym e))
sign_class_of (OfCall function) e = absurd (true≢false (sym e))
sign_class_of (OfNumber radix) e = absurd (true≢false (sym e))

pub at_place : (test : List ℕ → Bool) (table : List (List ℕ)) (n : ℕ) (sign : List ℕ) → list_all test table ≡ true → slice_get table n ≡ Some sign → test sign ≡ true
at_place test [] n sign all e = absurd (let differ : None ≡ Some sign = e in cc)
at_place test (x ∷ table) zero sign all e = let same : x ≡ sign = cc in subst (λ s. test s ≡ true) same (and_parts (test x) (list_all test table) all).0
at_place test (x ∷ table) (suc n) sign all e = at_place test table n sign (and_parts (test x) (list_all test table) all).1 e

all_begin_signs : list_all begins_sign signs ≡ true
unfolding signs
all_begin_signs = refl

sign_class : (asm : Bool) (n : ℕ) (bytes rest : List ℕ) → IsSign n bytes → InClass asm (kinds.Mark n) bytes rest
sign_class asm n bytes rest is = by_bytes bytes refl (at_place begins_sign signs n bytes all_begin_signs is)
  where
    by_bytes : (b : List ℕ) → bytes ≡ b → begins_sign b ≡ true → InClass asm (kinds.Mark n) bytes rest
    by_bytes [] e begins = absurd (true≢false (sym begins))
    by_bytes (c ∷ more) e begins = in_class asm (kinds.Mark n) bytes rest c more OfSign e (sign_class_of (class_of c) begins) is

-- each symbol is of the class of its first byte
pub class_of_symbol : (asm : Bool) (kind : SymKind) (bytes rest : List ℕ) → IsSymbol asm kind bytes rest → InClass asm kind bytes rest
class_of_symbol asm (kinds.Token n) bytes rest (inl single) = single_class asm n bytes rest single
class_of_symbol asm (kinds.Token n) bytes rest (inr pair) = pair_class asm n bytes rest pair
class_of_symbol asm (kinds.Name suffix bracket) bytes rest (inl plain) =
    in_class asm (kinds.Name suffix bracket) bytes rest plain.first plain.more OfName plain.spelled (class_name plain.first plain.begins) plain
class_of_symbol asm (kinds.Name suffix bracket) bytes rest (inr system) =
    in_class asm (kinds.Name suffix bracket) bytes rest at_sign (percent_sign ∷ []) OfSystemName system.2 refl system
class_of_symbol asm (kinds.Call function bracket) bytes rest is = call_class asm function bracket bytes rest is
class_of_symbol asm kinds.Label bytes rest is = in_class asm kinds.Label bytes rest point is.1.name OfLabel is.1.spelled refl is
class_of_symbol asm (kinds.Number value) bytes rest is = number_class asm is.0 value bytes rest is.1
class_of_symbol asm kinds.Text bytes rest is = in_class asm kinds.Text bytes rest quotation_mark _ OfText is.1 refl is
class_of_symbol asm (kinds.LineRef number) bytes rest is =
    in_class asm (kinds.LineRef number) bytes rest LINE_REFERENCE (is.first ∷ is.second ∷ is.third ∷ []) OfLineRef is.spelled refl is
class_of_symbol asm (kinds.Mark n) bytes rest is = sign_class asm n bytes rest is
class_of_symbol asm kinds.Tail bytes rest is = absurd is

-- what is of a class is a symbol
pub symbol_of_class : (asm : Bool) (class : Class) (kind : SymKind) (bytes rest : List ℕ) → of_class class asm kind bytes rest → IsSymbol asm kind bytes rest
symbol_of_class asm OfName (kinds.Name suffix bracket) bytes rest is = inl is
symbol_of_class asm OfName kind bytes rest is = absurd is
symbol_of_class asm OfSystemName (kinds.Name suffix bracket) bytes rest is = inr is
symbol_of_class asm OfSystemName kind bytes rest is = absurd is
symbol_of_class asm OfText kinds.Text bytes rest is = is
symbol_of_class asm OfText kind bytes rest is = absurd is
symbol_of_class asm OfLabel kinds.Label bytes rest is = is
symbol_of_class asm OfLabel kind bytes rest is = absurd is
symbol_of_class asm OfLineRef (kinds.LineRef number) bytes rest is = is
symbol_of_class asm OfLineRef kind bytes rest is = absurd is
symbol_of_class asm OfToken (kinds.Token n) bytes rest is = is
symbol_of_class asm OfToken kind bytes rest is = absurd is
symbol_of_class asm OfSign (kinds.Mark n) bytes rest is = is
symbol_of_class asm OfSign kind bytes rest is = absurd is
symbol_of_class asm (OfCall function) (kinds.Call is_function bracket) bytes rest is = subst (λ f. IsCall f bracket bytes) (sym is.0) is.1
symbol_of_class asm (OfCall function) (kinds.Token n) bytes rest is = inl is
symbol_of_class asm (OfCall function) kind bytes rest is = absurd is
symbol_of_class asm (OfNumber radix) (kinds.Number value) bytes rest is = (radix, is)
symbol_of_class asm (OfNumber radix) kind bytes rest is = absurd is

-- The longest symbol of the class of the first byte is the longest of all.
pub joined : (asm : Bool) (text : List ℕ) (first : ℕ) (after : List ℕ) (class : Class) (found : Option Front) → text ≡ first ∷ after → class_of first ≡ class → Best (of_class class asm) text found → Best (IsSymbol asm) text found
joined asm text first after class found text_is class_is best =
    best_map (of_class class asm) (IsSymbol asm) text found (λ kind bytes rest _ is. symbol_of_class asm class kind bytes rest is) in_this best
  where
    in_this : (kind : SymKind) (bytes rest : List ℕ) → text ≡ bytes ++ rest → IsSymbol asm kind bytes rest → of_class class asm kind bytes rest
    in_this kind bytes rest e is =
        let c = class_of_symbol asm kind bytes rest is in
        let same : c.first ≡ first = same_head _ _ _ _ (sym (ap (λ l. l ++ rest) c.spelled) ∙ sym e ∙ text_is) in
        subst (λ k. of_class k asm kind bytes rest) (ap class_of same ∙ class_is) c.is

-- The same, where the first byte is known.
pub joined_at : (asm : Bool) (text : List ℕ) (first known : ℕ) (after : List ℕ) (class : Class) (found : Option Front) → text ≡ first ∷ after → first ≡ known → class_of known ≡ class → Best (of_class class asm) (known ∷ after) found → Best (IsSymbol asm) text found
joined_at asm text first known after class found text_is is class_is best =
    let whole : text ≡ known ∷ after = text_is ∙ ap (λ c. c ∷ after) is in
    joined asm text known after class found whole class_is (subst (λ t. Best (of_class class asm) t found) (sym whole) best)
