-- The names of a program are distinct, and each terminal that is a name has the place of its own.
use Rattle.std.proofs.Common.{◌≡◌, ◌⊎◌, inl, inr, ℕ, zero, suc, ◌+◌, ◌≤◌, Bool, true, false, not, ◌&&◌, ◌||◌, List, [], ◌∷◌, ◌++◌, length, nat_eq, min, slice_get, slice_range, Option, Some, None, if◌then◌else◌, refl, sym, ap, ◌∙◌, arith}
use Rattle.std.specs.List.{AllByRecursion, list_any, position_or_len}
use Rattle.std.specs.Str.{bytes_eq}
use Rattle.std.proofs.lemmas.Bool.Decides.{Decides-eqb}
use Rattle.std.proofs.lemmas.Option.{slice_get_within}
use Rattle.std.proofs.lemmas.Slice.Eq.{bytes_eq-Decides}
use Rattle.bv_base.specs.Limits as limit
use Rattle.bas_lex.specs.declared.symbol.Sym.{Sym}
use Rattle.bas_ast.specs.declared.program.Name.{Name}
use Rattle.bas_ast.specs.declared.program.NameKind.{NameKind}
use Rattle.bas_ast.specs.declared.program.NameKind.TheVariants as kind
use Rattle.bas_ast.specs.declared.terminals.Terminal.{Terminal}
use Rattle.bas_ast.specs.declared.terminals.Terminal.TheVariants as t
use Rattle.bas_ast.specs.WellFormed.{IsNamed}
use Rattle.bas_rules.specs.Names.{kind_number, same_name, name_of, renumbered, add_name, number_of}
use Rattle.profile_check.specs.Tables.{Lists, number_name, number_terminal, number_line, is_data}

-- ---- when two names are one

kind_same : (j k : NameKind) → nat_eq (kind_number j) (kind_number k) ≡ true → j ≡ k
kind_same kind.Integer kind.Integer e = refl
kind_same kind.Text kind.Text e = refl
kind_same kind.IntegerArray kind.IntegerArray e = refl
kind_same kind.TextArray kind.TextArray e = refl
kind_same kind.Label kind.Label e = refl
kind_same kind.Procedure kind.Procedure e = refl
kind_same kind.Function kind.Function e = refl
kind_same _ _ e = absurd (cc)

both_hold : (p q : Bool) → (p && q) ≡ true → (p ≡ true) × (q ≡ true)
both_hold true q e = (refl, e)
both_hold false q e = absurd (cc)

same_is : (a b : Name) → same_name a b ≡ true → a ≡ b
same_is a b e =
    let both = both_hold (nat_eq (kind_number a.kind) (kind_number b.kind)) (bytes_eq a.text b.text) e in
    ap (λ (k : NameKind). record { kind = k; text = a.text }) (kind_same a.kind b.kind both.0)
    ∙ ap (λ (bytes : List ℕ). record { kind = b.kind; text = bytes }) ((bytes_eq-Decides a.text b.text).0 both.1)

is_same : (a : Name) → same_name a a ≡ true
is_same a =
    ap (λ (p : Bool). p && bytes_eq a.text a.text) ((Decides-eqb (kind_number a.kind) (kind_number a.kind)).1 refl)
    ∙ (bytes_eq-Decides a.text a.text).1 refl

-- ---- names with one more

-- What stands at a place of the first list stands there in the other too.
abbrev pub Keeps : List Name → List Name → Type 0
Keeps names more = (i : ℕ) (name : Name) → slice_get names i ≡ Some name → slice_get more i ≡ Some name

get_front : (names more : List Name) (i : ℕ) (name : Name) → slice_get names i ≡ Some name → slice_get (names ++ more) i ≡ Some name
get_front [] more i name at = let none : None ≡ Some name = at in cc
get_front (x ∷ names) more zero name at = at
get_front (x ∷ names) more (suc i) name at = get_front names more i name at

added_keeps : (names : List Name) (name : Name) (had : Bool) → Keeps names (if had then names else names ++ name ∷ [])
added_keeps names name true i other at = at
added_keeps names name false i other at = get_front names (name ∷ []) i other at

pub add_keeps : (names : List Name) (name : Name) → Keeps names (add_name names name)
add_keeps names name = added_keeps names name (list_any (same_name name) names)

one_plus : (p : ℕ) → 1 + p ≡ suc p
one_plus p = omega arith

at_by : (b had : Bool) (x name : Name) (names : List Name) (p : ℕ) → same_name name x ≡ b → slice_get (if had then names else names ++ name ∷ []) p ≡ Some name
    → slice_get (if (b || had) then x ∷ names else (x ∷ names) ++ name ∷ []) (if not b then 1 + p else 0) ≡ Some name
at_by true had x name names p is at = ap (λ (n : Name). Some n) (sym (same_is name x is))
at_by false true x name names p is at = ap (slice_get (x ∷ names)) (one_plus p) ∙ at
at_by false false x name names p is at = ap (slice_get ((x ∷ names) ++ name ∷ [])) (one_plus p) ∙ at

-- a name stands at its place
at_place : (names : List Name) (name : Name) → slice_get (add_name names name) (position_or_len (same_name name) names) ≡ Some name
at_place [] name = refl
at_place (x ∷ names) name =
    at_by (same_name name x) (list_any (same_name name) names) x name names (position_or_len (same_name name) names) refl (at_place names name)

lesser : (a b : ℕ) → a ≤ b → min a b ≡ a
lesser a b le = omega (arith, le)

-- and at its number, where there are not too many
at_number : (names final : List Name) (name : Name) → Keeps (add_name names name) final → length final ≤ limit.names → slice_get final (number_of names name) ≡ Some name
at_number names final name keeps few =
    let at = keeps (position_or_len (same_name name) names) name (at_place names name) in
    let within = slice_get_within final (position_or_len (same_name name) names) name at in
    ap (slice_get final) (lesser (position_or_len (same_name name) names) limit.names (omega (arith, within, few))) ∙ at

-- ---- distinct names

-- No two places have one name.
abbrev pub Distinct : List Name → Type 0
Distinct names = (i j : ℕ) (name : Name) → slice_get names i ≡ Some name → slice_get names j ≡ Some name → i ≡ j

front_or_last : (names : List Name) (last name : Name) (i : ℕ) → slice_get (names ++ last ∷ []) i ≡ Some name → (slice_get names i ≡ Some name) ⊎ ((i ≡ length names) × (last ≡ name))
front_or_last [] last name zero at = inr (refl, cc)
front_or_last [] last name (suc i) at = let none : None ≡ Some name = at in cc
front_or_last (x ∷ names) last name zero at = inl at
front_or_last (x ∷ names) last name (suc i) at = elim (front_or_last names last name i at) [
  | inl front ↦ inl front
  | inr both ↦ inr (omega (arith, both.0), both.1)
]

or_true : (b : Bool) → (b || true) ≡ true
or_true true = refl
or_true false = refl

any_at : (p : Name → Bool) (names : List Name) (name : Name) (i : ℕ) → slice_get names i ≡ Some name → p name ≡ true → list_any p names ≡ true
any_at p [] name i at is = let none : None ≡ Some name = at in cc
any_at p (x ∷ names) name zero at is =
    let same : x ≡ name = cc in ap (λ (b : Bool). b || list_any p names) (ap p same ∙ is)
any_at p (x ∷ names) name (suc i) at is = ap (λ (b : Bool). p x || b) (any_at p names name i at is) ∙ or_true (p x)

not_last : (names : List Name) (last name : Name) (i : ℕ) → list_any (same_name last) names ≡ false → slice_get names i ≡ Some name → last ≡ name → ⊥
not_last names last name i new at same =
    let some : true ≡ false = sym (any_at (same_name last) names name i at (ap (same_name last) (sym same) ∙ is_same last)) ∙ new in cc

added_distinct : (names : List Name) (last : Name) (had : Bool) → list_any (same_name last) names ≡ had → Distinct names → Distinct (if had then names else names ++ last ∷ [])
added_distinct names last true is distinct i j name at at' = distinct i j name at at'
added_distinct names last false is distinct i j name at at' = elim (front_or_last names last name i at) [
  | inl front ↦ (elim (front_or_last names last name j at') [
    | inl front' ↦ distinct i j name front front'
    | inr end' ↦ absurd (not_last names last name i is front end'.1)
  ])
  | inr end ↦ (elim (front_or_last names last name j at') [
    | inl front' ↦ absurd (not_last names last name j is front' end.1)
    | inr end' ↦ end.0 ∙ sym end'.0
  ])
]

add_distinct : (names : List Name) (name : Name) → Distinct names → Distinct (add_name names name)
add_distinct names name distinct = added_distinct names name (list_any (same_name name) names) refl distinct

-- ---- terminals

named_is : (final : List Name) (n : ℕ) (bytes : List ℕ) (terminal : Terminal) (name : Name) → name_of bytes terminal ≡ Some name → slice_get final n ≡ Some name → IsNamed final (renumbered terminal n)
named_is final n bytes (t.IntName k) name is at = (_, at ∙ sym is)
named_is final n bytes (t.StrName k) name is at = (_, at ∙ sym is)
named_is final n bytes (t.IntArray k) name is at = (_, at ∙ sym is)
named_is final n bytes (t.StrArray k) name is at = (_, at ∙ sym is)
named_is final n bytes (t.Label k) name is at = (_, at ∙ sym is)
named_is final n bytes (t.Procedure k) name is at = (_, at ∙ sym is)
named_is final n bytes (t.ProcedureOpen k) name is at = (_, at ∙ sym is)
named_is final n bytes (t.NumFunction k) name is at = (_, at ∙ sym is)
named_is final n bytes (t.NumFunctionOpen k) name is at = (_, at ∙ sym is)
named_is final n bytes (t.StrFunction k) name is at = (_, at ∙ sym is)
named_is final n bytes (t.StrFunctionOpen k) name is at = (_, at ∙ sym is)
named_is final n bytes _ name is at = tt

some_none : (name : Name) → Some name ≡ None → ⊥
some_none name e = cc

unnamed_is : (final : List Name) (bytes : List ℕ) (terminal : Terminal) → name_of bytes terminal ≡ None → IsNamed final terminal
unnamed_is final bytes (t.IntName k) is = absurd (some_none _ is)
unnamed_is final bytes (t.StrName k) is = absurd (some_none _ is)
unnamed_is final bytes (t.IntArray k) is = absurd (some_none _ is)
unnamed_is final bytes (t.StrArray k) is = absurd (some_none _ is)
unnamed_is final bytes (t.Label k) is = absurd (some_none _ is)
unnamed_is final bytes (t.Procedure k) is = absurd (some_none _ is)
unnamed_is final bytes (t.ProcedureOpen k) is = absurd (some_none _ is)
unnamed_is final bytes (t.NumFunction k) is = absurd (some_none _ is)
unnamed_is final bytes (t.NumFunctionOpen k) is = absurd (some_none _ is)
unnamed_is final bytes (t.StrFunction k) is = absurd (some_none _ is)
unnamed_is final bytes (t.StrFunctionOpen k) is = absurd (some_none _ is)
unnamed_is final bytes _ is = tt

-- What numbering a terminal does to the names: it keeps them and keeps them distinct, and the terminal is named in all that keep what comes of them.
pub record NamesGrow (before after : List Name) (out : Terminal) : Type 0 where
  pub keeps : Keeps before after
  pub distinct : Distinct before → Distinct after
  pub named : (final : List Name) → Keeps after final → length final ≤ limit.names → IsNamed final out

name_grows : (bytes : List ℕ) (terminal : Terminal) (lists : Lists) (name : Option Name) → name_of bytes terminal ≡ name
    → NamesGrow lists.names (number_name terminal lists name).lists.names (number_name terminal lists name).terminal
name_grows bytes terminal lists None is =
    record { keeps = λ i name at. at; distinct = λ d. d; named = λ final keeps few. unnamed_is final bytes terminal is }
name_grows bytes terminal lists (Some name) is = record {
  keeps = add_keeps lists.names name;
  distinct = add_distinct lists.names name;
  named = λ final keeps few. named_is final (number_of lists.names name) bytes terminal name is (at_number lists.names final name keeps few);
}

terminal_grows : (line : ℕ) (in_data : Bool) (bytes : List ℕ) (terminal : Terminal) (lists : Lists)
    → NamesGrow lists.names (number_terminal line in_data bytes terminal lists).lists.names (number_terminal line in_data bytes terminal lists).terminal
terminal_grows line in_data bytes (t.Literal n) lists = record { keeps = λ i name at. at; distinct = λ d. d; named = λ final keeps few. tt }
terminal_grows line in_data bytes (t.Tail n) lists = record { keeps = λ i name at. at; distinct = λ d. d; named = λ final keeps few. tt }
terminal_grows line in_data bytes terminal lists = name_grows bytes terminal lists (name_of bytes terminal) refl

-- ---- lines

-- the same of the terminals of a line
pub record LineNames (before after : List Name) (list : List Terminal) : Type 0 where
  pub keeps : Keeps before after
  pub distinct : Distinct before → Distinct after
  pub named : (final : List Name) → Keeps after final → length final ≤ limit.names → AllByRecursion (IsNamed final) list

pub line_names : (line : ℕ) (text : List ℕ) (in_data : Bool) (symbols : List Sym) (terminals : List Terminal) (lists : Lists)
    → LineNames lists.names (number_line line text in_data symbols terminals lists).lists.names (number_line line text in_data symbols terminals lists).terminals
unfolding number_line
line_names line text in_data [] terminals lists = record { keeps = λ i name at. at; distinct = λ d. d; named = λ final keeps few. tt }
line_names line text in_data (symbol ∷ symbols) [] lists = record { keeps = λ i name at. at; distinct = λ d. d; named = λ final keeps few. tt }
line_names line text in_data (symbol ∷ symbols) (terminal ∷ terminals) lists =
    let bytes = slice_range text symbol.from symbol.to in
    let first = terminal_grows line in_data bytes terminal lists in
    let rest = line_names line text (is_data terminal) symbols terminals (number_terminal line in_data bytes terminal lists).lists in
    record {
      keeps = λ i name at. rest.keeps i name (first.keeps i name at);
      distinct = λ d. rest.distinct (first.distinct d);
      named = λ final keeps few. (first.named final (λ i name at. keeps i name (rest.keeps i name at)) few, rest.named final keeps few);
    }
