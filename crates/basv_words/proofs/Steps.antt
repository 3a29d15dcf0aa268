-- One more word, at each place of `clap`'s walk.
use Rattle.std.proofs.Common.{◌≡◌, ℕ, ◌+◌, ◌==◌, min, Bool, true, false, not, List, [], ◌∷◌, ◌++◌, Option, Some, None, refl, sym, ap, ap₂, ◌∙◌, true≢false, if◌then◌else◌, ◌||◌, ◌&&◌, length, drop}
use Rattle.std.specs.Option.{option_map, option_map_or}
use Rattle.std.specs.Prelude.{slice_get, encode_utf8_all}
use Rattle.std.specs.Char.{encode_utf8}
use Rattle.std.specs.Str.{bytes_eq, chars}
use Rattle.clap.specs.Lexer.{long_of, short_of, usize_max, name_and_value}
use Rattle.clap.specs.Walk.{Held, Row, Rule, Step, Text, Waiting, Walk, idle, option, arg_by_id, arg_by_index, arg_by_long, arg_by_short, is_pending, long_met, long_or_other, next_position, option_word, plain_word, positional_held, pushed, reacted, settled, short_or_plain, step_of, subcommand_or_other, to_positional, used, walked, word_met, value, after_flag, after_step, next, short_word}
use Rattle.clap.specs.Faults.{settle_fault, use_fault, turn_fault, word_fault, long_fault, flags_fault, bundle_step_fault, positional_fault, stray_fault, step_fault, flag_word_fault, short_fault, bundle_fault, react_fault}
use Rattle.clap.specs.Kinds.{Kinds, or_else}
use Rattle.basv_words.specs.declared.setting.Setting.{Setting}
use Rattle.basv_words.specs.declared.setting.Setting.TheVariants as settings
use Rattle.basv_words.specs.Reader.{name_of}
use Rattle.basv_words.proofs.Asked.{named_in}
use Rattle.basv_words.proofs.Slots.{Slot, Choice, Use, by_id, by_long, by_short, id_of, long_rule, repeats, rows_for, rule_at, rules_for, shape_for, some, use_is, used_is, values_at}
use Rattle.basv_words.proofs.Walks.{and_no, IsAllowed, IsPlainWord, Pending, Full, held, is_first, is_nil, nil_is, or_else_fails, pend, settle_is, settled_is, uses_of, walk_at}

module _ (target options : Bool) where
  -- ---- a name

  -- no name may come
  pub name_stops : (us : List Use) (p : Option (Text × List Text)) (waiting : Waiting) (k : ℕ) (word : Text) → arg_by_index (rules_for target options) k ≡ None
      → is_nil (turn_fault (shape_for target options) [] (walk_at us p waiting k true) word) ≡ false
  name_stops us p waiting k word none =
      ap (λ o. is_nil (option_map_or (λ a. positional_fault (rules_for target options) false a (held us p)) o (stray_fault (shape_for target options)))) none

  pub name_fault : (us : List Use) (p : Option (Text × List Text)) (waiting : Waiting) (k : ℕ) (s : Slot) (word : Text) → arg_by_index (rules_for target options) k ≡ Some (rule_at s)
      → turn_fault (shape_for target options) [] (walk_at us p waiting k true) word ≡ settle_fault (rules_for target options) false (held us p)
  name_fault us p waiting k s word is =
      ap (λ o. option_map_or (λ a. positional_fault (rules_for target options) false a (held us p)) o (stray_fault (shape_for target options))) is
      ∙ ap (λ b. if b then [] else settle_fault (rules_for target options) false (held us p)) (and_no (is_pending (rule_at s) p))

  name_held : (us : List Use) (p : Pending) (s : Slot) (word : Text) → IsAllowed target options p → is_first p us ≡ true
      → positional_held (rules_for target options) (rule_at s) word (held us (pend p)) ≡ held (us ++ uses_of p) (pend (Full s word))
  name_held us p s word is first =
      ap (λ b. pushed (id_of s) word (if b then held us (pend p) else settled (rules_for target options) (held us (pend p)))) (and_no (is_pending (rule_at s) (pend p)))
      ∙ ap (pushed (id_of s) word) (settled_is target options us p is first)

  pub name_met : (us : List Use) (p : Pending) (k : ℕ) (s : Slot) (word : Text) (trailing : Bool) → arg_by_index (rules_for target options) k ≡ Some (rule_at s)
      → IsAllowed target options p → is_first p us ≡ true
      → to_positional (rules_for target options) (arg_by_index (rules_for target options) k) word (walk_at us (pend p) idle k trailing) (held us (pend p))
      ≡ walk_at (us ++ uses_of p) (pend (Full s word)) idle (min (k + 1) usize_max) (trailing || false)
  name_met us p k s word trailing is allowed first =
      ap (λ o. to_positional (rules_for target options) o word (walk_at us (pend p) idle k trailing) (held us (pend p))) is
      ∙ ap (λ (h : Held). made_walk h k trailing) (name_held us p s word allowed first)
    where
      made_walk : Held → ℕ → Bool → Walk
      made_walk h k trailing = record { held = h; waiting = idle; position = min (k + 1) usize_max; is_trailing = trailing || false; stopped = None }

  pub closed_walks : (us : List Use) (p : Pending) (k : ℕ) (word : Text)
      → walked (rules_for target options) [] (walk_at us (pend p) idle k true) word
      ≡ to_positional (rules_for target options) (arg_by_index (rules_for target options) k) word (walk_at us (pend p) idle k true) (held us (pend p))
  unfolding walked
  closed_walks us p k word = refl

  plain_met : (us : List Use) (p : Option (Text × List Text)) (waiting : Waiting) (k : ℕ) (word : Text) → IsPlainWord word
      → subcommand_or_other (rules_for target options) None waiting k word (held us p) ≡ plain_word (rules_for target options) waiting word (held us p)
  plain_met us p waiting k word is =
      ap (λ b. flag_or_plain b (long_of word)) is.no_end ∙ ap (λ l. flag_or_plain false l) is.no_long ∙ ap (λ s. short_or_plain (rules_for target options) waiting word s (held us p)) is.no_short
    where
      flag_or_plain : Bool → Option (Text × Option Text) → Held × Step
      flag_or_plain b l = if b then (held us p, Rattle.clap.specs.Walk.trailing k) else long_or_other (rules_for target options) waiting word l (held us p)

  plain_fault : (h : Held) (waiting : Waiting) (word : Text) → IsPlainWord word
      → (if bytes_eq word (45 ∷ 45 ∷ []) then [] else flag_word_fault (rules_for target options) false (long_of word) word h) ≡ []
  plain_fault h waiting word is =
      ap (λ b. flag_fault b (long_of word)) is.no_end ∙ ap (λ l. flag_fault false l) is.no_long
      ∙ ap (λ s. option_map_or (λ flags. Rattle.clap.specs.Faults.bundle_fault (rules_for target options) false flags h) s []) is.no_short
    where
      flag_fault : Bool → Option (Text × Option Text) → Kinds
      flag_fault b l = if b then [] else flag_word_fault (rules_for target options) false l word h

  pub open_fault : (us : List Use) (p : Option (Text × List Text)) (k : ℕ) (word : Text) → IsPlainWord word
      → turn_fault (shape_for target options) [] (walk_at us p idle k false) word ≡ turn_fault (shape_for target options) [] (walk_at us p idle k true) word
  open_fault us p k word is =
      ap₂ (λ ks (met : Held × Step). or_else ks (step_fault (shape_for target options) k met.0 met.1)) (plain_fault (held us p) idle word is) (plain_met us p idle k word is)

  pub open_walks : (us : List Use) (p : Pending) (k : ℕ) (word : Text) → IsPlainWord word
      → walked (rules_for target options) [] (walk_at us (pend p) idle k false) word
      ≡ to_positional (rules_for target options) (arg_by_index (rules_for target options) k) word (walk_at us (pend p) idle k false) (held us (pend p))
  unfolding walked
  open_walks us p k word is =
      ap (λ (met : Held × Step). after_step (rules_for target options) word (walk_at us (pend p) idle k false) met.0 met.1) (plain_met us (pend p) idle k word is)

  -- ---- the value of an option

  pub value_fault : (us : List Use) (s : Setting) (k : ℕ) (word : Text) → IsPlainWord word → options ≡ true
      → turn_fault (shape_for target options) [] (walk_at us (Some (name_of s, [])) (option (name_of s)) k false) word ≡ []
  value_fault us s k word is has =
      ap₂ (λ ks (met : Held × Step). or_else ks (step_fault (shape_for target options) k met.0 met.1)) (plain_fault (held us (Some (name_of s, []))) (option (name_of s)) word is)
      (plain_met us (Some (name_of s, [])) (option (name_of s)) k word is)

  pub value_walks : (us : List Use) (s : Setting) (k : ℕ) (word : Text) → IsPlainWord word → options ≡ true
      → walked (rules_for target options) [] (walk_at us (Some (name_of s, [])) (option (name_of s)) k false) word ≡ walk_at us (pend (Full (Choice s) word)) idle k false
  unfolding walked
  value_walks us s k word is has =
      ap (λ (met : Held × Step). after_step (rules_for target options) word (walk_at us (Some (name_of s, [])) (option (name_of s)) k false) met.0 met.1) (plain_met us (Some (name_of s, [])) (option (name_of s)) k word is)
      ∙ ap (λ o. walk_after (option_word o (name_of s) word (held us (Some (name_of s, []))))) (by_id target options (Choice s) has)
      ∙ go s
    where
      walk_after : Held × Waiting → Walk
      walk_after met = record { held = met.0; waiting = met.1; position = k; is_trailing = false; stopped = None }

      go : (s : Setting) → ◌≡◌ {A = Walk} (record {
        held = (option_word (Some (rule_at (Choice s))) (name_of s) word (held us (Some (name_of s, [])))).0;
        waiting = (option_word (Some (rule_at (Choice s))) (name_of s) word (held us (Some (name_of s, [])))).1;
        position = k;
        is_trailing = false;
        stopped = None;
      }) (walk_at us (pend (Full (Choice s) word)) idle k false)
      go settings.Input = refl
      go settings.Steps = refl
      go settings.Arena = refl

  -- an option that has no value is refused
  pub empty_fault : (us : List Use) (s : Setting) → options ≡ true → is_nil (settle_fault (rules_for target options) false (held us (Some (name_of s, [])))) ≡ false
  empty_fault us s has = ap (λ o. is_nil (option_map_or (λ a. use_fault false a [] (rows_for us)) o [])) (by_id target options (Choice s) has)

  -- ---- `--`

  pub end_fault : (us : List Use) (p : Option (Text × List Text)) (k : ℕ) → turn_fault (shape_for target options) [] (walk_at us p idle k false) (45 ∷ 45 ∷ []) ≡ []
  end_fault us p k = refl

  pub end_walks : (us : List Use) (p : Option (Text × List Text)) (k : ℕ) → walked (rules_for target options) [] (walk_at us p idle k false) (45 ∷ 45 ∷ []) ≡ walk_at us p idle k true
  unfolding walked
  end_walks us p k = refl

  pub value_end_fault : (us : List Use) (p : Option (Text × List Text)) (id : Text) (k : ℕ) → turn_fault (shape_for target options) [] (walk_at us p (option id) k false) (45 ∷ 45 ∷ []) ≡ []
  value_end_fault us p id k = refl

  pub value_end_walks : (us : List Use) (p : Option (Text × List Text)) (id : Text) (k : ℕ) → walked (rules_for target options) [] (walk_at us p (option id) k false) (45 ∷ 45 ∷ []) ≡ walk_at us p (option id) k true
  unfolding walked
  value_end_walks us p id k = refl

  -- ---- `-x`

  first_char : (x : ℕ) (xs : Text) → encode_utf8_all (chars (45 ∷ x ∷ xs)) ≡ 45 ∷ x ∷ xs → (o : Option ℕ) → slice_get (chars (x ∷ xs)) 0 ≡ o → (c : ℕ) × (o ≡ Some c)
  unfolding chars encode_utf8
  first_char x xs text o is = go (chars (x ∷ xs)) text is
    where
      go : (cs : List ℕ) → encode_utf8_all (45 ∷ cs) ≡ 45 ∷ x ∷ xs → slice_get cs 0 ≡ o → (c : ℕ) × (o ≡ Some c)
      go [] text is = absurd (true≢false (sym (ap (λ l. has_two l) text)))
        where
          has_two : List ℕ → Bool
          has_two (a ∷ b ∷ rest) = true
          has_two _ = false
      go (c ∷ cs) text is = (c, sym is)

  short_fault_is : (x : ℕ) (xs : Text) (us : List Use) (p : Option (Text × List Text)) → (x == 45) ≡ false → encode_utf8_all (chars (45 ∷ x ∷ xs)) ≡ 45 ∷ x ∷ xs
      → is_nil (if bytes_eq (45 ∷ x ∷ xs) (45 ∷ 45 ∷ []) then [] else flag_word_fault (rules_for target options) false (long_of (45 ∷ x ∷ xs)) (45 ∷ x ∷ xs) (held us p)) ≡ false
  unfolding flags_fault
  short_fault_is x xs us p e text =
      let first : (c : ℕ) × (slice_get (chars (x ∷ xs)) 0 ≡ Some c) = first_char x xs text (slice_get (chars (x ∷ xs)) 0) refl in
      ap (λ b. is_nil (if b && bytes_eq xs [] then [] else flag_word_fault (rules_for target options) false (long_if b) (45 ∷ x ∷ xs) (held us p))) e
      ∙ ap (λ b. is_nil (option_map_or (λ flags. bundle_fault (rules_for target options) false flags (held us p)) (short_if b) [])) e
      ∙ ap (λ o. is_nil (bundle_step_fault (rules_for target options) false o (x ∷ xs) 0 (held us p) (flags_fault (rules_for target options) false (length xs)))) first.1
      ∙ ap (λ o. is_nil (short_fault (rules_for target options) false o (drop (length (encode_utf8 first.0)) (x ∷ xs)) (held us p) (flags_fault (rules_for target options) false (length xs) (drop (length (encode_utf8 first.0)) (x ∷ xs)) 0))) (by_short target options first.0)
    where
      long_if : Bool → Option (Text × Option Text)
      long_if b = Rattle.std.specs.Prelude.option_and_then Rattle.clap.specs.Lexer.long_of_rest (if b then Some xs else None)

      short_if : Bool → Option Text
      short_if b = if b then None else Some (x ∷ xs)

  pub short_stops : (us : List Use) (p : Option (Text × List Text)) (k : ℕ) (x : ℕ) (xs : Text) → (x == 45) ≡ false → encode_utf8_all (chars (45 ∷ x ∷ xs)) ≡ 45 ∷ x ∷ xs
      → is_nil (turn_fault (shape_for target options) [] (walk_at us p idle k false) (45 ∷ x ∷ xs)) ≡ false
  short_stops us p k x xs e text = or_else_fails _ _ (short_fault_is x xs us p e text)

  pub value_short_stops : (us : List Use) (p : Option (Text × List Text)) (id : Text) (k : ℕ) (x : ℕ) (xs : Text) → (x == 45) ≡ false → encode_utf8_all (chars (45 ∷ x ∷ xs)) ≡ 45 ∷ x ∷ xs
      → is_nil (turn_fault (shape_for target options) [] (walk_at us p (option id) k false) (45 ∷ x ∷ xs)) ≡ false
  value_short_stops us p id k x xs e text = or_else_fails _ _ (short_fault_is x xs us p e text)

  -- ---- `--name`, `--name=value`

  pub unknown_stops : (us : List Use) (p : Option (Text × List Text)) (k : ℕ) (x : ℕ) (xs : Text) → arg_by_long (rules_for target options) (name_and_value (x ∷ xs)).0 ≡ None
      → is_nil (turn_fault (shape_for target options) [] (walk_at us p idle k false) (45 ∷ 45 ∷ x ∷ xs)) ≡ false
  unknown_stops us p k x xs none =
      or_else_fails _ _ (ap (λ o. is_nil (long_fault (rules_for target options) false o (name_and_value (x ∷ xs)).1 (held us p))) none)

  value_long : (us : List Use) (s : Setting) (found : Option Setting) (v : Option Text) → options ≡ true
      → is_nil (long_fault (rules_for target options) false (long_rule options found) v (held us (Some (name_of s, [])))) ≡ false
  value_long us s found v has = ap (λ b. is_nil (long_fault (rules_for target options) false (long_rule b found) v (held us (Some (name_of s, []))))) has ∙ go found v
    where
      go : (found : Option Setting) (v : Option Text) → is_nil (long_fault (rules_for target options) false (long_rule true found) v (held us (Some (name_of s, [])))) ≡ false
      go None v = refl
      go (Some t) None = empty_fault us s has
      go (Some t) (Some v) = or_else_fails _ _ (empty_fault us s has)

  pub value_long_stops : (us : List Use) (s : Setting) (k : ℕ) (x : ℕ) (xs : Text) → options ≡ true
      → is_nil (turn_fault (shape_for target options) [] (walk_at us (Some (name_of s, [])) (option (name_of s)) k false) (45 ∷ 45 ∷ x ∷ xs)) ≡ false
  value_long_stops us s k x xs has =
      or_else_fails _ _ (ap (λ o. is_nil (long_fault (rules_for target options) false o (name_and_value (x ∷ xs)).1 (held us (Some (name_of s, []))))) (by_long target options (name_and_value (x ∷ xs)).0)
      ∙ value_long us s (named_in (name_and_value (x ∷ xs)).0) (name_and_value (x ∷ xs)).1 has)

  -- after a known option: the faults, and the walk
  abbrev long_faults : Option Rule → Option Text → List Use → Option (Text × List Text) → ℕ → Text → Kinds
  long_faults found v us p k word =
      or_else (long_fault (rules_for target options) false found v (held us p))
      (step_fault (shape_for target options) k (after_flag (rules_for target options) idle word (long_met (rules_for target options) found v (held us p)).0 (long_met (rules_for target options) found v (held us p)).1).0
      (after_flag (rules_for target options) idle word (long_met (rules_for target options) found v (held us p)).0 (long_met (rules_for target options) found v (held us p)).1).1)

  abbrev long_walks : Option Rule → Option Text → List Use → Option (Text × List Text) → ℕ → Text → Walk
  long_walks found v us p k word =
      after_step (rules_for target options) word (walk_at us p idle k false)
      (after_flag (rules_for target options) idle word (long_met (rules_for target options) found v (held us p)).0 (long_met (rules_for target options) found v (held us p)).1).0
      (after_flag (rules_for target options) idle word (long_met (rules_for target options) found v (held us p)).0 (long_met (rules_for target options) found v (held us p)).1).1

  module _ (us : List Use) (p : Pending) (k : ℕ) (x : ℕ) (xs : Text) (s : Setting) (found : arg_by_long (rules_for target options) (name_and_value (x ∷ xs)).0 ≡ Some (rule_at (Choice s))) (allowed : IsAllowed target options p) where
    pub waits_fault : (name_and_value (x ∷ xs)).1 ≡ None → is_nil (turn_fault (shape_for target options) [] (walk_at us (pend p) idle k false) (45 ∷ 45 ∷ x ∷ xs)) ≡ is_first p us
    waits_fault none =
        ap₂ (λ o v. is_nil (long_faults o v us (pend p) k (45 ∷ 45 ∷ x ∷ xs))) found none
        ∙ go (settle_fault (rules_for target options) false (held us (pend p))) ∙ settle_is target options us p allowed
      where
        go : (ks : Kinds) → is_nil (or_else ks []) ≡ is_nil ks
        go [] = refl
        go (e ∷ es) = refl

    pub waits_walks : (name_and_value (x ∷ xs)).1 ≡ None → is_first p us ≡ true
        → walked (rules_for target options) [] (walk_at us (pend p) idle k false) (45 ∷ 45 ∷ x ∷ xs) ≡ walk_at (us ++ uses_of p) (Some (name_of s, [])) (option (name_of s)) k false
    unfolding walked
    waits_walks none first =
        ap₂ (λ o v. long_walks o v us (pend p) k (45 ∷ 45 ∷ x ∷ xs)) found none
        ∙ ap (λ (h : Held). waiting_walk h) (settled_is target options us p allowed first)
      where
        waiting_walk : Held → Walk
        waiting_walk h = record { held = record h { pending = Some (name_of s, []) }; waiting = option (name_of s); position = k; is_trailing = false; stopped = None }

    pub has_fault : (v : Text) → (name_and_value (x ∷ xs)).1 ≡ Some v → is_first p us ≡ true
        → is_nil (turn_fault (shape_for target options) [] (walk_at us (pend p) idle k false) (45 ∷ 45 ∷ x ∷ xs)) ≡ not (some (values_at (Choice s) (us ++ uses_of p)))
    has_fault v is first =
        ap₂ (λ o v. is_nil (long_faults o v us (pend p) k (45 ∷ 45 ∷ x ∷ xs))) found is
        ∙ ap (λ ks. is_nil (or_else (or_else ks (use_fault false (rule_at (Choice s)) (v ∷ []) (settled (rules_for target options) (held us (pend p))).rows)) []))
        (nil_is _ (settle_is target options us p allowed ∙ first))
        ∙ ap (λ (h : Held). is_nil (or_else (use_fault false (rule_at (Choice s)) (v ∷ []) h.rows) [])) (settled_is target options us p allowed first)
        ∙ ap (λ ks. is_nil (or_else ks [])) (use_is (Choice s) v (us ++ uses_of p)) ∙ go (some (values_at (Choice s) (us ++ uses_of p)))
      where
        go : (b : Bool) → is_nil (or_else (repeats b) []) ≡ not b
        go true = refl
        go false = refl

    pub has_stops : (v : Text) → (name_and_value (x ∷ xs)).1 ≡ Some v → is_first p us ≡ false
        → is_nil (turn_fault (shape_for target options) [] (walk_at us (pend p) idle k false) (45 ∷ 45 ∷ x ∷ xs)) ≡ false
    has_stops v is first =
        ap₂ (λ o v. is_nil (long_faults o v us (pend p) k (45 ∷ 45 ∷ x ∷ xs))) found is
        ∙ or_else_fails _ _ (or_else_fails _ _ (settle_is target options us p allowed ∙ first))

    pub has_walks : (v : Text) → (name_and_value (x ∷ xs)).1 ≡ Some v → is_first p us ≡ true → some (values_at (Choice s) (us ++ uses_of p)) ≡ false
        → walked (rules_for target options) [] (walk_at us (pend p) idle k false) (45 ∷ 45 ∷ x ∷ xs) ≡ walk_at ((us ++ uses_of p) ++ (Choice s, v) ∷ []) None idle k false
    unfolding walked
    has_walks v is first fresh =
        ap₂ (λ o v. long_walks o v us (pend p) k (45 ∷ 45 ∷ x ∷ xs)) found is
        ∙ ap (λ (h : Held). used_walk (used (rule_at (Choice s)) (v ∷ []) h.rows)) (settled_is target options us p allowed first)
        ∙ ap used_walk (used_is (Choice s) v (us ++ uses_of p) fresh)
      where
        used_walk : List Row → Walk
        used_walk rows = record { held = record { rows = rows; pending = None; skip = 0 }; waiting = idle; position = k; is_trailing = false; stopped = None }
