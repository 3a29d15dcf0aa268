-- `clap`'s reading of the words is that of the definition, from each place on.
use Rattle.std.proofs.Common.{◌≡◌, ℕ, ◌+◌, ◌==◌, min, Bool, true, false, not, List, [], ◌∷◌, ◌++◌, Option, Some, None, refl, sym, ap, ap₂, subst, ◌∙◌, true≢false, if◌then◌else◌, ◌||◌, ◌&&◌, append-nil, unwrap_or, eqb-true}
use Rattle.std.specs.Option.{option_map}
use Rattle.std.specs.Prelude.{encode_utf8_all}
use Rattle.std.specs.Str.{bytes_eq, chars}
use Rattle.clap.specs.Lexer.{usize_max, name_and_value}
use Rattle.clap.specs.Walk.{Row, Rule, Text, Walk, idle, option, arg_by_index, arg_by_long, settled, to_positional, walked}
use Rattle.clap.specs.Faults.{settle_fault, turn_fault}
use Rattle.basv_words.specs.declared.setting.Setting.{Setting}
use Rattle.basv_words.specs.Given.{Asked, Awaits, Has, Given, Open, Value, Closed, asked, by_asked, is_name, nothing, read, with_name, with_value}
use Rattle.basv_words.specs.Reader.{name_of, has_empty_value, is_empty_value}
use Rattle.basv_words.proofs.Asked.{asked_awaits, asked_has, asked_none, empty_there, named_in}
use Rattle.basv_words.proofs.Slots.{Slot, Source, Choice, Use, allows, at_first, at_second, at_third, by_long, long_rule, rule_at, rules_for, second, shape_for, some, values_at}
use Rattle.basv_words.proofs.Walks.{IsAllowed, IsPlainWord, Pending, Nothing, Full, held, is_first, is_nil, nil_is, outcome, outcome_end, outcome_more, outcome_stop, pend, plain_word_is, settle_is, settled_is, uses_of, walk_at}
use Rattle.basv_words.proofs.Steps as steps
use Rattle.basv_words.proofs.Due as dues
use Rattle.basv_words.proofs.Due.{Place, First, Second, Third, HasNames, place, slot_at, after}

abbrev pub IsText : Text → Type 0
IsText word = encode_utf8_all (chars word) ≡ word

abbrev pub AreTexts : List Text → Type 0
AreTexts [] = Unit {0}
AreTexts (word ∷ words) = IsText word × AreTexts words

rule_index : (target options : Bool) (at : Place) → arg_by_index (rules_for target options) (place at) ≡ option_map rule_at (slot_at target at)
rule_index target options First = at_first target options
rule_index target options Second = at_second target options ∙ go target
  where
    go : (b : Bool) → second b ≡ option_map rule_at (slot_at b Second)
    go true = refl
    go false = refl
rule_index target options Third = at_third target options

rule_allowed : (target options : Bool) (at : Place) (s : Slot) → slot_at target at ≡ Some s → allows target options s ≡ true
rule_allowed target options First s is = subst (λ s. allows target options s ≡ true) (ap (λ o. unwrap_or o Source) is) refl
rule_allowed true options Second s is = subst (λ s. allows true options s ≡ true) (ap (λ o. unwrap_or o Source) is) refl
rule_allowed false options Second s is = absurd (true≢false (sym (ap dues.is_there is)))
rule_allowed target options Third s is = absurd (true≢false (sym (ap dues.is_there is)))

next_place : (target : Bool) (at : Place) (s : Slot) → slot_at target at ≡ Some s → min (place at + 1) usize_max ≡ place (after at)
next_place target First s is = refl
next_place target Second s is = refl
next_place target Third s is = absurd (true≢false (sym (ap dues.is_there is)))

-- after a word other than `--`
no_more : (word : Text) (words : List Text) → bytes_eq word (45 ∷ 45 ∷ []) ≡ false → has_empty_value (word ∷ words) ≡ false → (is_empty_value word ≡ false) × (has_empty_value words ≡ false)
no_more word words e none = go (bytes_eq word (45 ∷ 45 ∷ [])) e (is_empty_value word) none
  where
    go : (b : Bool) → b ≡ false → (t : Bool) → (if b then false else if t then true else has_empty_value words) ≡ false → (t ≡ false) × (has_empty_value words ≡ false)
    go true e t none = absurd (true≢false e)
    go false e true none = absurd (true≢false none)
    go false e false none = (refl, none)

module _ (target options : Bool) where
  abbrev due : List Use → Option Given → Option Given
  due = dues.due target options

  abbrev comes_to : Walk → List Text → Option Given
  comes_to w words = dues.finish target options (outcome target options w words)

  -- where the words go on at any place
  pub record Agrees (words : List Text) : Type 0 where
    pub open_is : (us : List Use) (p : Pending) (at : Place) → dues.IsWithin target options us → IsAllowed target options p → HasNames target at (us ++ uses_of p) → has_empty_value words ≡ false
        → comes_to (walk_at us (pend p) idle (place at) false) words ≡ due (us ++ uses_of p) (read Open words)
    pub value_is : (us : List Use) (s : Setting) (at : Place) → dues.IsWithin target options us → options ≡ true → HasNames target at us → has_empty_value words ≡ false
        → comes_to (walk_at us (Some (name_of s, [])) (option (name_of s)) (place at) false) words ≡ due us (read (Value s) words)
    pub closed_is : (us : List Use) (p : Pending) (at : Place) → dues.IsWithin target options us → IsAllowed target options p → HasNames target at (us ++ uses_of p)
        → comes_to (walk_at us (pend p) idle (place at) true) words ≡ due (us ++ uses_of p) (read Closed words)

  stops : (w : Walk) (word : Text) (words : List Text) → is_nil (turn_fault (shape_for target options) [] w word) ≡ false → comes_to w (word ∷ words) ≡ None
  stops w word words e = ap (dues.finish target options) (outcome_stop target options w word words e)

  goes_on : (w next : Walk) (word : Text) (words : List Text) → turn_fault (shape_for target options) [] w word ≡ [] → walked (rules_for target options) [] w word ≡ next → comes_to w (word ∷ words) ≡ comes_to next words
  goes_on w next word words e is = ap (dues.finish target options) (outcome_more target options w word words e ∙ ap (λ w. outcome target options w words) is)

  -- ---- the end of the words

  at_end : (us : List Use) (p : Pending) (at : Place) (trailing : Bool) → dues.IsWithin target options us → IsAllowed target options p → HasNames target at (us ++ uses_of p)
      → comes_to (walk_at us (pend p) idle (place at) trailing) [] ≡ due (us ++ uses_of p) (Some nothing)
  at_end us p at trailing within allowed names = ap (dues.finish target options) (outcome_end target options (walk_at us (pend p) idle (place at) trailing)) ∙ go (is_first p us) refl
    where
      go : (b : Bool) → is_first p us ≡ b
          → dues.finish target options (if is_nil (settle_fault (rules_for target options) false (held us (pend p))) then Some (settled (rules_for target options) (held us (pend p))).rows else None) ≡ due (us ++ uses_of p) (Some nothing)
      go true first =
          ap (λ b. dues.finish target options (if b then Some (settled (rules_for target options) (held us (pend p))).rows else None)) (settle_is target options us p allowed ∙ first)
          ∙ ap (λ (h : Rattle.clap.specs.Walk.Held). dues.finish target options (Some h.rows)) (settled_is target options us p allowed first)
          ∙ dues.ended target options (us ++ uses_of p) (dues.within_settled target options us p within allowed first)
      go false first =
          ap (λ b. dues.finish target options (if b then Some (settled (rules_for target options) (held us (pend p))).rows else None)) (settle_is target options us p allowed ∙ first)
          ∙ sym (dues.repeated target options at us p (Some nothing) names first)

  value_end : (us : List Use) (s : Setting) (at : Place) (trailing : Bool) → options ≡ true → comes_to (walk_at us (Some (name_of s, [])) (option (name_of s)) (place at) trailing) [] ≡ None
  value_end us s at trailing has =
      ap (dues.finish target options) (outcome_end target options (walk_at us (Some (name_of s, [])) (option (name_of s)) (place at) trailing)
      ∙ ap (λ b. if b then Some (settled (rules_for target options) (held us (Some (name_of s, [])))).rows else None) (steps.empty_fault target options us s has))

  pub agrees_end : Agrees []
  agrees_end = record {
    open_is = λ us p at within allowed names none. at_end us p at false within allowed names;
    value_is = λ us s at within has names none. value_end us s at false has;
    closed_is = λ us p at within allowed names. at_end us p at true within allowed names;
  }

  -- ---- a name

  name_is : (us : List Use) (p : Pending) (at : Place) (trailing : Bool) (word : Text) (words : List Text) (later : Option Given)
      → dues.IsWithin target options us → IsAllowed target options p → HasNames target at (us ++ uses_of p)
      → turn_fault (shape_for target options) [] (walk_at us (pend p) idle (place at) trailing) word ≡ turn_fault (shape_for target options) [] (walk_at us (pend p) idle (place at) true) word
      → walked (rules_for target options) [] (walk_at us (pend p) idle (place at) trailing) word
      ≡ to_positional (rules_for target options) (arg_by_index (rules_for target options) (place at)) word (walk_at us (pend p) idle (place at) trailing) (held us (pend p))
      → ((us : List Use) (p : Pending) (at : Place) → dues.IsWithin target options us → IsAllowed target options p → HasNames target at (us ++ uses_of p)
      → comes_to (walk_at us (pend p) idle (place at) (trailing || false)) words ≡ due (us ++ uses_of p) later)
      → comes_to (walk_at us (pend p) idle (place at) trailing) (word ∷ words) ≡ due (us ++ uses_of p) (with_name word later)
  name_is us p at trailing word words later within allowed names faults walks more = by_slot (slot_at target at) refl
    where
      by_first : (s : Slot) → slot_at target at ≡ Some s → (b : Bool) → is_first p us ≡ b → comes_to (walk_at us (pend p) idle (place at) trailing) (word ∷ words) ≡ due (us ++ uses_of p) (with_name word later)
      by_first s is false first =
          stops (walk_at us (pend p) idle (place at) trailing) word words
          (ap is_nil (faults ∙ steps.name_fault target options us (pend p) idle (place at) s word (rule_index target options at ∙ ap (option_map rule_at) is)) ∙ settle_is target options us p allowed ∙ first)
          ∙ sym (dues.repeated target options at us p (with_name word later) names first)
      by_first s is true first =
          let rule = rule_index target options at ∙ ap (option_map rule_at) is in
          goes_on (walk_at us (pend p) idle (place at) trailing) (walk_at (us ++ uses_of p) (pend (Full s word)) idle (place (after at)) (trailing || false)) word words
          (faults ∙ steps.name_fault target options us (pend p) idle (place at) s word rule ∙ nil_is _ (settle_is target options us p allowed ∙ first))
          (walks ∙ steps.name_met target options us p (place at) s word trailing rule allowed first ∙ ap (λ k. walk_at (us ++ uses_of p) (pend (Full s word)) idle k (trailing || false)) (next_place target at s is))
          ∙ more (us ++ uses_of p) (Full s word) (after at) (dues.within_settled target options us p within allowed first) (rule_allowed target options at s is) (dues.names_more target options at (us ++ uses_of p) s word names is)
          ∙ sym (dues.name_more target options at (us ++ uses_of p) s word later names is)

      by_slot : (o : Option Slot) → slot_at target at ≡ o → comes_to (walk_at us (pend p) idle (place at) trailing) (word ∷ words) ≡ due (us ++ uses_of p) (with_name word later)
      by_slot None is =
          stops (walk_at us (pend p) idle (place at) trailing) word words
          (ap is_nil faults ∙ steps.name_stops target options us (pend p) idle (place at) word (rule_index target options at ∙ ap (option_map rule_at) is))
          ∙ sym (dues.too_many target options at (us ++ uses_of p) word later names is)
      by_slot (Some s) is = by_first s is (is_first p us) refl

  closed_more : (word : Text) (words : List Text) → Agrees words → (us : List Use) (p : Pending) (at : Place) → dues.IsWithin target options us → IsAllowed target options p → HasNames target at (us ++ uses_of p)
      → comes_to (walk_at us (pend p) idle (place at) true) (word ∷ words) ≡ due (us ++ uses_of p) (read Closed (word ∷ words))
  closed_more word words more us p at within allowed names =
      name_is us p at true word words (read Closed words) within allowed names refl (steps.closed_walks target options us p (place at) word) more.closed_is

  -- ---- after `--` an option has no value
  no_value : (us : List Use) (s : Setting) (at : Place) (words : List Text) → options ≡ true → comes_to (walk_at us (Some (name_of s, [])) (option (name_of s)) (place at) true) words ≡ None
  no_value us s at [] has = value_end us s at true has
  no_value us s at (word ∷ words) has = by_slot (slot_at target at) refl
    where
      by_slot : (o : Option Slot) → slot_at target at ≡ o → comes_to (walk_at us (Some (name_of s, [])) (option (name_of s)) (place at) true) (word ∷ words) ≡ None
      by_slot None is = stops (walk_at us (Some (name_of s, [])) (option (name_of s)) (place at) true) word words
          (steps.name_stops target options us (Some (name_of s, [])) (option (name_of s)) (place at) word (rule_index target options at ∙ ap (option_map rule_at) is))
      by_slot (Some slot) is = stops (walk_at us (Some (name_of s, [])) (option (name_of s)) (place at) true) word words
          (ap is_nil (steps.name_fault target options us (Some (name_of s, [])) (option (name_of s)) (place at) slot word (rule_index target options at ∙ ap (option_map rule_at) is)) ∙ steps.empty_fault target options us s has)

  -- ---- what a word is

  data IsWord : Text → Type 0 where
    ends : IsWord (45 ∷ 45 ∷ [])
    named : {word : Text} → IsPlainWord word → is_name word ≡ true → IsWord word
    short : (d : ℕ) (rest : Text) → (d == 45) ≡ false → IsWord (45 ∷ d ∷ rest)
    long : (x : ℕ) (xs : Text) → IsWord (45 ∷ 45 ∷ x ∷ xs)

  after_dashes : (rest : Text) → IsWord (45 ∷ 45 ∷ rest)
  after_dashes [] = ends
  after_dashes (x ∷ xs) = long x xs

  after_dash : (d : ℕ) (rest : Text) (b : Bool) → (d == 45) ≡ b → IsWord (45 ∷ d ∷ rest)
  after_dash d rest false e = short d rest e
  after_dash d rest true e = subst (λ d. IsWord (45 ∷ d ∷ rest)) (sym (eqb-true d 45 e)) (after_dashes rest)

  word_is : (word : Text) → IsWord word
  word_is [] = named (plain_word_is [] refl) refl
  word_is (c ∷ []) = named (plain_word_is (c ∷ []) refl) refl
  word_is (c ∷ d ∷ rest) = go (c == 45) refl
    where
      go : (b : Bool) → (c == 45) ≡ b → IsWord (c ∷ d ∷ rest)
      go true e = subst (λ c. IsWord (c ∷ d ∷ rest)) (sym (eqb-true c 45 e)) (after_dash d rest (d == 45) refl)
      go false e = named (plain_word_is (c ∷ d ∷ rest) (ap not e)) (ap not e)

  -- ---- the value of an option

  value_more : (word : Text) (words : List Text) → IsText word → Agrees words → IsWord word → (us : List Use) (s : Setting) (at : Place) → dues.IsWithin target options us → options ≡ true → HasNames target at us
      → has_empty_value (word ∷ words) ≡ false → comes_to (walk_at us (Some (name_of s, [])) (option (name_of s)) (place at) false) (word ∷ words) ≡ due us (read (Value s) (word ∷ words))
  value_more word words text more ends us s at within has names none =
      goes_on (walk_at us (Some (name_of s, [])) (option (name_of s)) (place at) false) (walk_at us (Some (name_of s, [])) (option (name_of s)) (place at) true) (45 ∷ 45 ∷ []) words
      (steps.value_end_fault target options us (Some (name_of s, [])) (name_of s) (place at)) (steps.value_end_walks target options us (Some (name_of s, [])) (name_of s) (place at))
      ∙ no_value us s at words has
  value_more word words text more (short d rest e) us s at within has names none =
      stops (walk_at us (Some (name_of s, [])) (option (name_of s)) (place at) false) (45 ∷ d ∷ rest) words (steps.value_short_stops target options us (Some (name_of s, [])) (name_of s) (place at) d rest e text)
  value_more word words text more (long x xs) us s at within has names none =
      stops (walk_at us (Some (name_of s, [])) (option (name_of s)) (place at) false) (45 ∷ 45 ∷ x ∷ xs) words (steps.value_long_stops target options us s (place at) x xs has)
  value_more word words text more (named plain is) us s at within has names none =
      goes_on (walk_at us (Some (name_of s, [])) (option (name_of s)) (place at) false) (walk_at us (pend (Full (Choice s) word)) idle (place at) false) word words
      (steps.value_fault target options us s (place at) word plain has) (steps.value_walks target options us s (place at) word plain has)
      ∙ more.open_is us (Full (Choice s) word) at within has (dues.names_stay target options at us s word names) (no_more word words plain.no_end none).1
      ∙ sym (dues.value_more target options us s word (read Open words))
      ∙ ap (λ b. due us (if b then with_value s word (read Open words) else None)) (sym is)

  -- ---- an option

  no_option_value : (us : List Use) (s : Setting) (words : List Text) → options ≡ false → due us (read (Value s) words) ≡ None
  no_option_value us s [] none = refl
  no_option_value us s (word ∷ words) none = go (is_name word)
    where
      go : (b : Bool) → due us (if b then with_value s word (read Open words) else None) ≡ None
      go true = dues.value_more target options us s word (read Open words) ∙ dues.unwanted target options us s word (read Open words) none
      go false = refl

  module _ (x : ℕ) (xs : Text) (words : List Text) (more : Agrees words) (us : List Use) (p : Pending) (at : Place) (within : dues.IsWithin target options us) (allowed : IsAllowed target options p) (names : HasNames target at (us ++ uses_of p))
      (none : has_empty_value ((45 ∷ 45 ∷ x ∷ xs) ∷ words) ≡ false) where
    abbrev the_word : Text
    the_word = 45 ∷ 45 ∷ x ∷ xs

    abbrev cut : Text × Option Text
    cut = name_and_value (x ∷ xs)

    abbrev here : Walk
    here = walk_at us (pend p) idle (place at) false

    abbrev later : Option Asked → Option Given
    later a = due (us ++ uses_of p) (by_asked a (λ s. read (Value s) words) (read Open words))

    lost : (found : Option Setting) → named_in cut.0 ≡ found → long_rule options found ≡ None → comes_to here (the_word ∷ words) ≡ None
    lost found is no_rule = stops here the_word words (steps.unknown_stops target options us (pend p) (place at) x xs (by_long target options cut.0 ∙ ap (long_rule options) is ∙ no_rule))

    rule_is : (s : Setting) → named_in cut.0 ≡ Some s → options ≡ true → arg_by_long (rules_for target options) cut.0 ≡ Some (rule_at (Choice s))
    rule_is s is has = by_long target options cut.0 ∙ ap₂ long_rule has is

    no_rule : (s : Setting) → options ≡ false → long_rule options (Some s) ≡ None
    no_rule s none = ap (λ b. long_rule b (Some s)) none

    waits : (s : Setting) → named_in cut.0 ≡ Some s → cut.1 ≡ None → options ≡ true → (b : Bool) → is_first p us ≡ b → comes_to here (the_word ∷ words) ≡ due (us ++ uses_of p) (read (Value s) words)
    waits s is e has false first =
        stops here the_word words (steps.waits_fault target options us p (place at) x xs s (rule_is s is has) allowed e ∙ first)
        ∙ sym (dues.repeated target options at us p (read (Value s) words) names first)
    waits s is e has true first =
        goes_on here (walk_at (us ++ uses_of p) (Some (name_of s, [])) (option (name_of s)) (place at) false) the_word words
        (nil_is _ (steps.waits_fault target options us p (place at) x xs s (rule_is s is has) allowed e ∙ first)) (steps.waits_walks target options us p (place at) x xs s (rule_is s is has) allowed e first)
        ∙ more.value_is (us ++ uses_of p) s at (dues.within_settled target options us p within allowed first) has names (no_more the_word words refl none).1

    has : (s : Setting) (v : Text) → named_in cut.0 ≡ Some s → cut.1 ≡ Some v → options ≡ true → (b : Bool) → is_first p us ≡ b → (t : Bool) → some (values_at (Choice s) (us ++ uses_of p)) ≡ t
        → comes_to here (the_word ∷ words) ≡ due (us ++ uses_of p) (with_value s v (read Open words))
    has s v is e opts false first t given =
        stops here the_word words (steps.has_stops target options us p (place at) x xs s (rule_is s is opts) allowed v e first)
        ∙ sym (dues.repeated target options at us p (with_value s v (read Open words)) names first)
    has s v is e opts true first true given =
        stops here the_word words (steps.has_fault target options us p (place at) x xs s (rule_is s is opts) allowed v e first ∙ ap not given)
        ∙ sym (dues.value_more target options (us ++ uses_of p) s v (read Open words) ∙ dues.twice target options (us ++ uses_of p) s v (read Open words) given)
    has s v is e opts true first false given =
        let all = (us ++ uses_of p) ++ (Choice s, v) ∷ [] in
        goes_on here (walk_at all None idle (place at) false) the_word words
        (nil_is _ (steps.has_fault target options us p (place at) x xs s (rule_is s is opts) allowed v e first ∙ ap not given)) (steps.has_walks target options us p (place at) x xs s (rule_is s is opts) allowed v e first given)
        ∙ more.open_is all Nothing at (dues.within_more target options (us ++ uses_of p) (Choice s) v (dues.within_settled target options us p within allowed first) opts given) tt
        (subst (HasNames target at) (sym (append-nil all)) (dues.names_stay target options at (us ++ uses_of p) s v names)) (no_more the_word words refl none).1
        ∙ ap (λ l. due l (read Open words)) (append-nil all)
        ∙ sym (dues.value_more target options (us ++ uses_of p) s v (read Open words))

    by_cut : (found : Option Setting) → named_in cut.0 ≡ found → (v : Option Text) → cut.1 ≡ v → (b : Bool) → options ≡ b → comes_to here (the_word ∷ words) ≡ later (asked the_word)
    by_cut None is None e b o = lost None is (no_long options) ∙ sym (ap later (asked_awaits (x ∷ xs) e ∙ ap (option_map (λ s. Awaits s)) is))
      where
        no_long : (b : Bool) → long_rule b None ≡ None
        no_long true = refl
        no_long false = refl
    by_cut None is (Some (y ∷ ys)) e b o = lost None is (no_long options) ∙ sym (ap later (asked_has (x ∷ xs) y ys e ∙ ap (option_map (λ s. Has s (y ∷ ys))) is))
      where
        no_long : (b : Bool) → long_rule b None ≡ None
        no_long true = refl
        no_long false = refl
    by_cut None is (Some []) e b o = lost None is (no_long options) ∙ sym (ap later (asked_none (x ∷ xs) e))
      where
        no_long : (b : Bool) → long_rule b None ≡ None
        no_long true = refl
        no_long false = refl
    by_cut (Some s) is v e false o = lost (Some s) is (no_rule s o) ∙ sym (go v e)
      where
        go : (v : Option Text) → cut.1 ≡ v → later (asked the_word) ≡ None
        go None e = ap later (asked_awaits (x ∷ xs) e ∙ ap (option_map (λ s. Awaits s)) is) ∙ no_option_value (us ++ uses_of p) s words o
        go (Some []) e = ap later (asked_none (x ∷ xs) e)
        go (Some (y ∷ ys)) e = ap later (asked_has (x ∷ xs) y ys e ∙ ap (option_map (λ s. Has s (y ∷ ys))) is)
            ∙ dues.value_more target options (us ++ uses_of p) s (y ∷ ys) (read Open words) ∙ dues.unwanted target options (us ++ uses_of p) s (y ∷ ys) (read Open words) o
    by_cut (Some s) is None e true o = waits s is e o (is_first p us) refl ∙ sym (ap later (asked_awaits (x ∷ xs) e ∙ ap (option_map (λ s. Awaits s)) is))
    by_cut (Some s) is (Some []) e true o = absurd (true≢false (sym (empty_there (x ∷ xs) s is e) ∙ (no_more the_word words refl none).0))
    by_cut (Some s) is (Some (y ∷ ys)) e true o =
        has s (y ∷ ys) is e o (is_first p us) refl (some (values_at (Choice s) (us ++ uses_of p))) refl ∙ sym (ap later (asked_has (x ∷ xs) y ys e ∙ ap (option_map (λ s. Has s (y ∷ ys))) is))

    pub long_is : comes_to here (the_word ∷ words) ≡ due (us ++ uses_of p) (read Open (the_word ∷ words))
    long_is = by_cut (named_in cut.0) refl cut.1 refl options refl

  -- ---- any word

  no_asked : (d : ℕ) (rest : Text) → (d == 45) ≡ false → asked (45 ∷ d ∷ rest) ≡ None
  no_asked d rest e = rw e refl

  open_more : (word : Text) (words : List Text) → IsText word → Agrees words → IsWord word → (us : List Use) (p : Pending) (at : Place) → dues.IsWithin target options us → IsAllowed target options p → HasNames target at (us ++ uses_of p)
      → has_empty_value (word ∷ words) ≡ false → comes_to (walk_at us (pend p) idle (place at) false) (word ∷ words) ≡ due (us ++ uses_of p) (read Open (word ∷ words))
  open_more word words text more ends us p at within allowed names none =
      goes_on (walk_at us (pend p) idle (place at) false) (walk_at us (pend p) idle (place at) true) (45 ∷ 45 ∷ []) words (steps.end_fault target options us (pend p) (place at)) (steps.end_walks target options us (pend p) (place at))
      ∙ more.closed_is us p at within allowed names
  open_more word words text more (long x xs) us p at within allowed names none = long_is x xs words more us p at within allowed names none
  open_more word words text more (short d rest e) us p at within allowed names none =
      stops (walk_at us (pend p) idle (place at) false) (45 ∷ d ∷ rest) words (steps.short_stops target options us (pend p) (place at) d rest e text)
      ∙ sym (ap (λ b. due (us ++ uses_of p) (if b && bytes_eq rest [] then read Closed words else by_asked (asked (45 ∷ d ∷ rest)) (λ s. read (Value s) words) (read Open words))) e
      ∙ ap (λ a. due (us ++ uses_of p) (by_asked a (λ s. read (Value s) words) (read Open words))) (no_asked d rest e))
  open_more word words text more (named plain is) us p at within allowed names none =
      name_is us p at false word words (read Open words) within allowed names (steps.open_fault target options us (pend p) (place at) word plain) (steps.open_walks target options us p (place at) word plain)
      (λ us p at within allowed names. more.open_is us p at within allowed names (no_more word words plain.no_end none).1)
      ∙ sym (ap (λ b. due (us ++ uses_of p) (if b then read Closed words else if is_name word then with_name word (read Open words) else by_asked (asked word) (λ s. read (Value s) words) (read Open words))) plain.no_end
      ∙ ap (λ b. due (us ++ uses_of p) (if b then with_name word (read Open words) else by_asked (asked word) (λ s. read (Value s) words) (read Open words))) is)

  pub agrees : (words : List Text) → AreTexts words → Agrees words
  agrees [] texts = agrees_end
  agrees (word ∷ words) texts =
      let more = agrees words texts.1 in
      record {
        open_is = open_more word words texts.0 more (word_is word);
        value_is = value_more word words texts.0 more (word_is word);
        closed_is = closed_more word words more;
      }
