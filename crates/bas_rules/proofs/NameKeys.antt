-- Names by their keys: a set of keys as a list of names.
use Rattle.std.proofs.Common.{◌≡◌, ℕ, Bool, true, false, not, ◌||◌, List, [], ◌∷◌, ◌++◌, Bor, if◌then◌else◌, Some, take, get_or, slice_get, ◌+◌, refl, sym, ap, ◌∙◌}
use Rattle.std.specs.List.{list_any, position_or_len}
use Rattle.std.proofs.lemmas.List.{map-append, take_more}
use Rattle.std.proofs.lemmas.Option.{slice_get_within, get_or_from_slice_get}
use Rattle.bas_ast.specs.declared.program.Name.{Name}
use Rattle.bas_ast.specs.declared.program.NameKind.{NameKind}
use Rattle.bas_ast.specs.declared.program.NameKind.TheVariants as kind
use Rattle.bas_rules.specs.declared.names.Key.{Key}
use Rattle.bas_rules.specs.contracts.names.KeyPartialEq.TheImpl.{eq-value}
use Rattle.bas_rules.specs.Names.{same_name, name_of_key, names_of, add_name}

fields_eq : (j k : NameKind) (t u : Bor (List ℕ)) → eq-value.it (record { kind = j; text = t }) (record { kind = k; text = u }) ≡ same_name (record { kind = j; text = t.now }) (record { kind = k; text = u.now })
fields_eq kind.Integer kind.Integer t u = refl
fields_eq kind.Text kind.Text t u = refl
fields_eq kind.IntegerArray kind.IntegerArray t u = refl
fields_eq kind.TextArray kind.TextArray t u = refl
fields_eq kind.Label kind.Label t u = refl
fields_eq kind.Procedure kind.Procedure t u = refl
fields_eq kind.Function kind.Function t u = refl
fields_eq _ _ t u = refl

-- two keys are equal where their names are one
key_eq : (a b : Key) → eq-value.it a b ≡ same_name (name_of_key a) (name_of_key b)
key_eq a b = fields_eq a.kind b.kind a.text b.text

any_key : (a : Key) (keys : List Key) → list_any (eq-value.it a) keys ≡ list_any (same_name (name_of_key a)) (names_of keys)
any_key a [] = refl
any_key a (b ∷ keys) =
    ap (λ (x : Bool). x || list_any (eq-value.it a) keys) (key_eq a b)
    ∙ ap (λ (x : Bool). same_name (name_of_key a) (name_of_key b) || x) (any_key a keys)

names_picked : (had : Bool) (a : Key) (keys : List Key) → names_of (if had then keys else keys ++ a ∷ []) ≡ (if had then names_of keys else names_of keys ++ name_of_key a ∷ [])
names_picked true a keys = refl
names_picked false a keys = map-append name_of_key keys (a ∷ [])

-- a set with one key more
pub one_more : (a : Key) (keys : List Key) → names_of (if list_any (eq-value.it a) keys then keys else keys ++ a ∷ []) ≡ add_name (names_of keys) (name_of_key a)
one_more a keys =
    names_picked (list_any (eq-value.it a) keys) a keys
    ∙ ap (λ (had : Bool). if had then names_of keys else names_of keys ++ name_of_key a ∷ []) (any_key a keys)

-- the place of a key is that of its name
pub same_place : (a : Key) (keys : List Key) → position_or_len (eq-value.it a) keys ≡ position_or_len (same_name (name_of_key a)) (names_of keys)
same_place a [] = refl
same_place a (b ∷ keys) =
    ap (λ (x : Bool). if not x then 1 + (position_or_len (eq-value.it a) keys) else 0) (key_eq a b)
    ∙ ap (λ (n : ℕ). if not (same_name (name_of_key a) (name_of_key b)) then 1 + n else 0) (same_place a keys)

-- the names up to a place, and the one there
pub next_name : (list : List Name) (keys : List Key) (place : ℕ) (key : Key) → slice_get keys place ≡ Some key → list ≡ names_of (take place keys) → (more : List Name)
    → more ≡ list ++ name_of_key key ∷ [] → more ≡ names_of (take (place + 1) keys)
next_name list keys place key at so more is =
    let within = slice_get_within keys place key at in
    let last : get_or keys place key ≡ key = get_or_from_slice_get keys place key key at in
    is ∙ ap (λ l. l ++ name_of_key key ∷ []) so
    ∙ sym (ap names_of (take_more keys place key within ∙ ap (λ k. take place keys ++ k ∷ []) last) ∙ map-append name_of_key (take place keys) (key ∷ []))
