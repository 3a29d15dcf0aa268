-- How a word asks for an option, by the name and the value that `clap` cuts it into.
use Rattle.std.proofs.Common.{◌≡◌, ℕ, suc, ◌+◌, ◌==◌, Bool, true, false, inl, inr, List, [], ◌∷◌, ◌++◌, Option, Some, None, take, drop, refl, sym, ap, ap₂, subst, unwrap_or, eqb-true, ◌&&◌, ◌∙◌, true≢false, if◌then◌else◌, ◌||◌, eq-eqb, ne_eqb, arith, codes}
use Rattle.std.specs.List.{position_or_len}
use Rattle.std.specs.Str.{bytes_eq}
use Rattle.std.proofs.lemmas.Bool.{cases_eq}
use Rattle.std.proofs.lemmas.Slice.Eq.{bytes_eq-Decides}
use Rattle.clap.specs.Lexer.{name_and_value, has_byte}
use Rattle.basv_words.specs.declared.setting.Setting.{Setting}
use Rattle.basv_words.specs.declared.setting.Setting.TheVariants as settings
use Rattle.basv_words.specs.Given.{Asked, Awaits, Has, valued, rest_after, asked, asked_as, first_of}
use Rattle.basv_words.specs.Reader.{name_of, is_empty_value}
use Rattle.std.specs.Option.{option_map}

abbrev Cut : Type 0
Cut = List ℕ × Option (List ℕ)

-- a byte that is no `=` is the name's
pub cut_more : (b : ℕ) (bs : List ℕ) → (b == 61) ≡ false → name_and_value (b ∷ bs) ≡ (b ∷ (name_and_value bs).0, (name_and_value bs).1)
cut_more b bs e =
    let n = position_or_len (λ x. x == 61) bs in
    let place : position_or_len (λ x. x == 61) (b ∷ bs) ≡ suc n = rw e (omega arith) in
    let late : suc n + 1 ≡ suc (n + 1) = omega arith in
    ap (λ k. (take k (b ∷ bs), if has_byte 61 (b ∷ bs) then Some (drop (k + 1) (b ∷ bs)) else None)) place
    ∙ ap (λ k. (b ∷ take n bs, if has_byte 61 (b ∷ bs) then Some (drop k (b ∷ bs)) else None)) late
    ∙ ap (λ t. (b ∷ take n bs, if t || has_byte 61 bs then Some (drop (n + 1) bs) else None)) e

pub cut_here : (b : ℕ) (bs : List ℕ) → (b == 61) ≡ true → name_and_value (b ∷ bs) ≡ ([], Some bs)
cut_here b bs e = rw e refl

abbrev is_there : Option (List ℕ) → Bool
is_there None = false
is_there (Some x) = true

abbrev pub value_of : Setting → Option (List ℕ) → Option Asked
value_of s None = Some (Awaits s)
value_of s (Some v) = valued s (Some v)

abbrev pub if_named : Setting → List ℕ → List ℕ × Option (List ℕ) → Option Asked
if_named s name p = if bytes_eq name p.0 then value_of s p.1 else None

abbrev by_text : Setting → List ℕ → List ℕ → Option Asked
by_text s n rest = if bytes_eq rest n then Some (Awaits s) else valued s (rest_after (n ++ 61 ∷ []) rest)

lacks : (a b : Bool) → (a || b) ≡ false → (a ≡ false) × (b ≡ false)
lacks true b e = absurd (true≢false e)
lacks false b e = (refl, e)

pub by_cut : (s : Setting) (n rest : List ℕ) → has_byte 61 n ≡ false → by_text s n rest ≡ if_named s n (name_and_value rest)
by_cut s [] [] none = refl
by_cut s [] (b ∷ bs) none = go (b == 61) refl
  where
    go : (t : Bool) → (b == 61) ≡ t → by_text s [] (b ∷ bs) ≡ if_named s [] (name_and_value (b ∷ bs))
    go true e = ap (λ t. valued s (if t then Some bs else None)) e ∙ sym (ap (if_named s []) (cut_here b bs e))
    go false e = ap (λ t. valued s (if t then Some bs else None)) e ∙ sym (ap (if_named s []) (cut_more b bs e))
by_cut s (p ∷ ps) [] none = refl
by_cut s (p ∷ ps) (b ∷ bs) none = elim (cases_eq b p) [
  | inl is ↦ same (by_cut s ps bs) is
  | inr isnt ↦ other isnt (b == 61) refl
]
  where
    same : (has_byte 61 ps ≡ false → by_text s ps bs ≡ if_named s ps (name_and_value bs)) → b ≡ p → by_text s (p ∷ ps) (b ∷ bs) ≡ if_named s (p ∷ ps) (name_and_value (b ∷ bs))
    same more is =
        let parts : ((p == 61) ≡ false) × (has_byte 61 ps ≡ false) = lacks (p == 61) (has_byte 61 ps) none in
        let to : (b == p) ≡ true = eq-eqb b p is in
        let from : (p == b) ≡ true = eq-eqb p b (sym is) in
        ap (λ t. if t && bytes_eq bs ps then Some (Awaits s) else valued s (if t then rest_after (ps ++ 61 ∷ []) bs else None)) to
        ∙ more parts.1
        ∙ ap (λ t. if t && bytes_eq ps (name_and_value bs).0 then value_of s (name_and_value bs).1 else None) (sym from)
        ∙ ap (if_named s (p ∷ ps)) (sym (cut_more b bs (subst (λ x. (x == 61) ≡ false) (sym is) parts.0)))

    other : (b ≡ p → ⊥) → (t : Bool) → (b == 61) ≡ t → by_text s (p ∷ ps) (b ∷ bs) ≡ if_named s (p ∷ ps) (name_and_value (b ∷ bs))
    other isnt true e =
        ap (λ t. if t && bytes_eq bs ps then Some (Awaits s) else valued s (if t then rest_after (ps ++ 61 ∷ []) bs else None)) (ne_eqb b p isnt)
        ∙ ap (if_named s (p ∷ ps)) (sym (cut_here b bs e))
    other isnt false e =
        ap (λ t. if t && bytes_eq bs ps then Some (Awaits s) else valued s (if t then rest_after (ps ++ 61 ∷ []) bs else None)) (ne_eqb b p isnt)
        ∙ ap (λ t. if t && bytes_eq ps (name_and_value bs).0 then value_of s (name_and_value bs).1 else None) (sym (ne_eqb p b (λ is. isnt (sym is))))
        ∙ ap (if_named s (p ∷ ps)) (sym (cut_more b bs e))

-- a value in the word follows the name and `=`
pub joined_cut : (rest v : List ℕ) → (name_and_value rest).1 ≡ Some v → rest ≡ (name_and_value rest).0 ++ 61 ∷ v
joined_cut [] v e = absurd (true≢false (sym (ap is_there e)))
joined_cut (b ∷ bs) v e = go (joined_cut bs v) (b == 61) refl
  where
    go : ((name_and_value bs).1 ≡ Some v → bs ≡ (name_and_value bs).0 ++ 61 ∷ v) → (t : Bool) → (b == 61) ≡ t → b ∷ bs ≡ (name_and_value (b ∷ bs)).0 ++ 61 ∷ v
    go more true t =
        let cut = cut_here b bs t in
        let same : bs ≡ v = ap (λ o. unwrap_or o bs) (sym (ap (λ (p : Cut). p.1) cut) ∙ e) in
        ap₂ (λ x xs. x ∷ xs) (eqb-true b 61 t) same ∙ sym (ap (λ (p : Cut). p.0 ++ 61 ∷ v) cut)
    go more false t =
        let cut = cut_more b bs t in
        ap (λ xs. b ∷ xs) (more (sym (ap (λ (p : Cut). p.1) cut) ∙ e)) ∙ sym (ap (λ (p : Cut). p.0 ++ 61 ∷ v) cut)

pub asked_cut : (rest : List ℕ) → asked (45 ∷ 45 ∷ rest)
    ≡ first_of (if_named settings.Input (codes "input") (name_and_value rest)) (first_of (if_named settings.Steps (codes "steps") (name_and_value rest)) (if_named settings.Arena (codes "arena") (name_and_value rest)))
asked_cut rest =
    ap (λ a. first_of a (first_of (asked_as settings.Steps (45 ∷ 45 ∷ rest)) (asked_as settings.Arena (45 ∷ 45 ∷ rest)))) (by_cut settings.Input (codes "input") rest refl)
    ∙ ap (λ a. first_of (if_named settings.Input (codes "input") (name_and_value rest)) (first_of a (asked_as settings.Arena (45 ∷ 45 ∷ rest)))) (by_cut settings.Steps (codes "steps") rest refl)
    ∙ ap (λ a. first_of (if_named settings.Input (codes "input") (name_and_value rest)) (first_of (if_named settings.Steps (codes "steps") (name_and_value rest)) a)) (by_cut settings.Arena (codes "arena") rest refl)

-- the option that the tests of its names choose
abbrev pub choose : Bool → Bool → Bool → Option Setting
choose a b c = if a then Some settings.Input else if b then Some settings.Steps else if c then Some settings.Arena else None

abbrev by_choice : Bool → Bool → Bool → Option (List ℕ) → Option Asked
by_choice a b c v = first_of (if a then value_of settings.Input v else None) (first_of (if b then value_of settings.Steps v else None) (if c then value_of settings.Arena v else None))

awaits_by : (a b c : Bool) → by_choice a b c None ≡ option_map (λ s. Awaits s) (choose a b c)
awaits_by true b c = refl
awaits_by false true c = refl
awaits_by false false true = refl
awaits_by false false false = refl

has_by : (a b c : Bool) (y : ℕ) (ys : List ℕ) → by_choice a b c (Some (y ∷ ys)) ≡ option_map (λ s. Has s (y ∷ ys)) (choose a b c)
has_by true b c y ys = refl
has_by false true c y ys = refl
has_by false false true y ys = refl
has_by false false false y ys = refl

none_by : (a b c : Bool) → by_choice a b c (Some []) ≡ None
none_by true true true = refl
none_by true true false = refl
none_by true false true = refl
none_by true false false = refl
none_by false true true = refl
none_by false true false = refl
none_by false false true = refl
none_by false false false = refl

abbrev pub named_in : List ℕ → Option Setting
named_in name = choose (bytes_eq (codes "input") name) (bytes_eq (codes "steps") name) (bytes_eq (codes "arena") name)

module _ (rest : List ℕ) where
  abbrev the_name : List ℕ
  the_name = (name_and_value rest).0

  as_choice : asked (45 ∷ 45 ∷ rest) ≡ by_choice (bytes_eq (codes "input") the_name) (bytes_eq (codes "steps") the_name) (bytes_eq (codes "arena") the_name) (name_and_value rest).1
  as_choice = asked_cut rest

  -- a word without a value waits for it, and an empty value is none
  pub asked_awaits : (name_and_value rest).1 ≡ None → asked (45 ∷ 45 ∷ rest) ≡ option_map (λ s. Awaits s) (named_in the_name)
  asked_awaits e = as_choice ∙ ap (by_choice (bytes_eq (codes "input") the_name) (bytes_eq (codes "steps") the_name) (bytes_eq (codes "arena") the_name)) e ∙ awaits_by _ _ _

  pub asked_has : (y : ℕ) (ys : List ℕ) → (name_and_value rest).1 ≡ Some (y ∷ ys) → asked (45 ∷ 45 ∷ rest) ≡ option_map (λ s. Has s (y ∷ ys)) (named_in the_name)
  asked_has y ys e = as_choice ∙ ap (by_choice (bytes_eq (codes "input") the_name) (bytes_eq (codes "steps") the_name) (bytes_eq (codes "arena") the_name)) e ∙ has_by _ _ _ y ys

  pub asked_none : (name_and_value rest).1 ≡ Some [] → asked (45 ∷ 45 ∷ rest) ≡ None
  asked_none e = as_choice ∙ ap (by_choice (bytes_eq (codes "input") the_name) (bytes_eq (codes "steps") the_name) (bytes_eq (codes "arena") the_name)) e ∙ none_by (bytes_eq (codes "input") the_name) (bytes_eq (codes "steps") the_name) (bytes_eq (codes "arena") the_name)

  -- an option with an empty value is one of the words that are refused
  pub empty_there : (s : Setting) → named_in the_name ≡ Some s → (name_and_value rest).1 ≡ Some [] → is_empty_value (45 ∷ 45 ∷ rest) ≡ true
  empty_there s is e =
      let whole : rest ≡ name_of s ++ 61 ∷ [] = joined_cut rest [] e ∙ ap (λ n. n ++ 61 ∷ []) (name_is_of (bytes_eq (codes "input") the_name) (bytes_eq (codes "steps") the_name) (bytes_eq (codes "arena") the_name) refl refl refl is) in
      ap (λ l. is_empty_value (45 ∷ 45 ∷ l)) whole ∙ each s
    where
      is_name_of : (n : List ℕ) → bytes_eq n the_name ≡ true → the_name ≡ n
      is_name_of n t = sym ((bytes_eq-Decides n the_name).0 t)

      name_is_of : (a b c : Bool) → bytes_eq (codes "input") the_name ≡ a → bytes_eq (codes "steps") the_name ≡ b → bytes_eq (codes "arena") the_name ≡ c → choose a b c ≡ Some s → the_name ≡ name_of s
      name_is_of true b c ea eb ec is = subst (λ s. the_name ≡ name_of s) (ap (λ o. unwrap_or o settings.Input) is) (is_name_of (codes "input") ea)
      name_is_of false true c ea eb ec is = subst (λ s. the_name ≡ name_of s) (ap (λ o. unwrap_or o settings.Input) is) (is_name_of (codes "steps") eb)
      name_is_of false false true ea eb ec is = subst (λ s. the_name ≡ name_of s) (ap (λ o. unwrap_or o settings.Input) is) (is_name_of (codes "arena") ec)
      name_is_of false false false ea eb ec is = absurd (true≢false (sym (ap found is)))
        where
          found : Option Setting → Bool
          found None = false
          found (Some x) = true

      each : (s : Setting) → is_empty_value (45 ∷ 45 ∷ (name_of s ++ 61 ∷ [])) ≡ true
      each settings.Input = refl
      each settings.Steps = refl
      each settings.Arena = refl
