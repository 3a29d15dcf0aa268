-- What was given so far, and what a command makes of it with what words give later.
use Rattle.std.proofs.Common.{◌≡◌, ℕ, ◌+◌, ◌≤◌, ◌<◌, ◌==◌, Bool, true, false, not, List, [], ◌∷◌, ◌++◌, Option, Some, None, refl, sym, ap, ap₂, subst, ◌∙◌, true≢false, if◌then◌else◌, ◌&&◌, codes, append-nil, append_assoc, length, length-append, arith, ne_eqb, le-ltb, unwrap_or}
use Rattle.std.specs.Option.{option_map}
use Rattle.std.specs.Str.{bytes_eq}
use Rattle.clap.specs.Walk.{Row, Text}
use Rattle.clap.specs.Takes.{is_given}
use Rattle.basv_words.specs.declared.setting.Setting.{Setting}
use Rattle.basv_words.specs.declared.setting.Setting.TheVariants as settings
use Rattle.basv_words.specs.Given.{Given, joined, nothing, with_name, with_value}
use Rattle.basv_words.specs.Reader.{gathered, listed}
use Rattle.basv_words.specs.Taken.{are_few, if_taken, is_taken}
use Rattle.basv_words.proofs.Slots.{Slot, Source, Target, Choice, Use, allows, first_is, given_is, head, id_of, rows_for, some, values_at, values_more}
use Rattle.basv_words.proofs.Walks.{IsAllowed, Pending, Nothing, Full, is_first, uses_of}

abbrev pub given_of : List Use → Given
given_of us = record {
  names = values_at Source us ++ values_at Target us;
  inputs = values_at (Choice settings.Input) us;
  steps = values_at (Choice settings.Steps) us;
  arenas = values_at (Choice settings.Arena) us;
}

-- the values of an option
abbrev field : Setting → Given → List Text
field settings.Input g = g.inputs
field settings.Steps g = g.steps
field settings.Arena g = g.arenas

-- how many names there are so far
pub data Place : Type 0 where
  First : Place
  Second : Place
  Third : Place

abbrev pub place : Place → ℕ
place First = 1
place Second = 2
place Third = 3

abbrev pub slot_at : Bool → Place → Option Slot
slot_at target First = Some Source
slot_at target Second = if target then Some Target else None
slot_at target Third = None

abbrev pub after : Place → Place
after First = Second
after _ = Third

abbrev pub HasNames : Bool → Place → List Use → Type 0
HasNames target First us = (length (values_at Source us) ≡ 0) × (length (values_at Target us) ≡ 0)
HasNames target Second us = (length (values_at Source us) ≡ 1) × (length (values_at Target us) ≡ 0)
HasNames target Third us = (length (values_at Source us) ≡ 1) × (length (values_at Target us) ≡ 1) × (target ≡ true)

-- ---- one more use

id_same : (s : Slot) → bytes_eq (id_of s) (id_of s) ≡ true
id_same Source = refl
id_same Target = refl
id_same (Choice settings.Input) = refl
id_same (Choice settings.Steps) = refl
id_same (Choice settings.Arena) = refl

pub added : (s : Slot) (v : Text) (us : List Use) → values_at s (us ++ (s, v) ∷ []) ≡ values_at s us ++ v ∷ []
added s v us = values_more s us ((s, v) ∷ []) ∙ ap (λ b. values_at s us ++ (if b then v ∷ [] else [])) (id_same s)

pub kept : (s t : Slot) (v : Text) (us : List Use) → bytes_eq (id_of s) (id_of t) ≡ false → values_at t (us ++ (s, v) ∷ []) ≡ values_at t us
kept s t v us other = values_more t us ((s, v) ∷ []) ∙ ap (λ b. values_at t us ++ (if b then v ∷ [] else [])) other ∙ append-nil (values_at t us)

same_given : {a b c d a₁ b₁ c₁ d₁ : List Text} → a ≡ a₁ → b ≡ b₁ → c ≡ c₁ → d ≡ d₁
    → ◌≡◌ {A = Given} (record { names = a; inputs = b; steps = c; arenas = d }) (record { names = a₁; inputs = b₁; steps = c₁; arenas = d₁ })
same_given e f g h = λ i. record { names = e i; inputs = f i; steps = g i; arenas = h i }

-- ---- what is taken

not_few : (options : Bool) (xs : List Text) → 2 ≤ length xs → are_few options xs ≡ false
not_few true xs many = le-ltb _ _ many
not_few false xs many = ne_eqb _ _ (λ e. omega (arith, e, many))

not_none : (xs : List Text) → 1 ≤ length xs → are_few false xs ≡ false
not_none xs many = ne_eqb _ _ (λ e. omega (arith, e, many))

and_left : (a b : Bool) → a ≡ false → (a && b) ≡ false
and_left a b e = ap (λ t. t && b) e

and_right : (a b : Bool) → b ≡ false → (a && b) ≡ false
and_right true b e = e
and_right false b e = refl

same_slot : (s t : Slot) → bytes_eq (id_of s) (id_of t) ≡ true → s ≡ t
same_slot Source Source e = refl
same_slot Target Target e = refl
same_slot (Choice settings.Input) (Choice settings.Input) e = refl
same_slot (Choice settings.Steps) (Choice settings.Steps) e = refl
same_slot (Choice settings.Arena) (Choice settings.Arena) e = refl
same_slot Source Target e = absurd (true≢false (sym e))
same_slot Source (Choice settings.Input) e = absurd (true≢false (sym e))
same_slot Source (Choice settings.Steps) e = absurd (true≢false (sym e))
same_slot Source (Choice settings.Arena) e = absurd (true≢false (sym e))
same_slot Target Source e = absurd (true≢false (sym e))
same_slot Target (Choice settings.Input) e = absurd (true≢false (sym e))
same_slot Target (Choice settings.Steps) e = absurd (true≢false (sym e))
same_slot Target (Choice settings.Arena) e = absurd (true≢false (sym e))
same_slot (Choice settings.Input) Source e = absurd (true≢false (sym e))
same_slot (Choice settings.Input) Target e = absurd (true≢false (sym e))
same_slot (Choice settings.Input) (Choice settings.Steps) e = absurd (true≢false (sym e))
same_slot (Choice settings.Input) (Choice settings.Arena) e = absurd (true≢false (sym e))
same_slot (Choice settings.Steps) Source e = absurd (true≢false (sym e))
same_slot (Choice settings.Steps) Target e = absurd (true≢false (sym e))
same_slot (Choice settings.Steps) (Choice settings.Input) e = absurd (true≢false (sym e))
same_slot (Choice settings.Steps) (Choice settings.Arena) e = absurd (true≢false (sym e))
same_slot (Choice settings.Arena) Source e = absurd (true≢false (sym e))
same_slot (Choice settings.Arena) Target e = absurd (true≢false (sym e))
same_slot (Choice settings.Arena) (Choice settings.Input) e = absurd (true≢false (sym e))
same_slot (Choice settings.Arena) (Choice settings.Steps) e = absurd (true≢false (sym e))

was_some : (b : Bool) → not b ≡ false → b ≡ true
was_some true e = refl
was_some false e = absurd (true≢false e)

was_none : (b : Bool) → not b ≡ true → b ≡ false
was_none true e = absurd (true≢false (sym e))
was_none false e = refl

abbrev pub is_there : Option Slot → Bool
is_there None = false
is_there (Some x) = true

second_slot : (target : Bool) (s : Slot) → slot_at target Second ≡ Some s → Target ≡ s
second_slot true s is = ap (λ o. unwrap_or o Target) is
second_slot false s is = absurd (true≢false (sym (ap is_there is)))

module _ (target options : Bool) where
  refused_option : (s : Setting) (g : Given) → are_few options (field s g) ≡ false → is_taken target options g ≡ false
  refused_option settings.Input g e =
      and_right (length g.names == (if target then 2 else 1)) (are_few options g.inputs && (are_few options g.steps && are_few options g.arenas)) (and_left (are_few options g.inputs) (are_few options g.steps && are_few options g.arenas) e)
  refused_option settings.Steps g e =
      and_right (length g.names == (if target then 2 else 1)) (are_few options g.inputs && (are_few options g.steps && are_few options g.arenas))
      (and_right (are_few options g.inputs) (are_few options g.steps && are_few options g.arenas) (and_left (are_few options g.steps) (are_few options g.arenas) e))
  refused_option settings.Arena g e =
      and_right (length g.names == (if target then 2 else 1)) (are_few options g.inputs && (are_few options g.steps && are_few options g.arenas))
      (and_right (are_few options g.inputs) (are_few options g.steps && are_few options g.arenas) (and_right (are_few options g.steps) (are_few options g.arenas) e))

  -- what words give in all, where those before gave these uses
  abbrev pub due : List Use → Option Given → Option Given
  due us later = if_taken target options (option_map (joined (given_of us)) later)

  due_none : (us : List Use) (later : Option Given) → ((g : Given) → is_taken target options (joined (given_of us) g) ≡ false) → due us later ≡ None
  due_none us None refused = refl
  due_none us (Some g) refused = ap (λ b. if b then Some (joined (given_of us) g) else None) (refused g)

  field_is : (s : Setting) (us : List Use) (g : Given) → field s (joined (given_of us) g) ≡ values_at (Choice s) us ++ field s g
  field_is settings.Input us g = refl
  field_is settings.Steps us g = refl
  field_is settings.Arena us g = refl

  some_length : (xs : List Text) → some xs ≡ true → 1 ≤ length xs
  some_length [] e = absurd (true≢false (sym e))
  some_length (x ∷ xs) e = omega arith

  -- a second value of an option
  pub twice : (us : List Use) (s : Setting) (v : Text) (later : Option Given) → some (values_at (Choice s) us) ≡ true → due (us ++ (Choice s, v) ∷ []) later ≡ None
  twice us s v later has = due_none (us ++ (Choice s, v) ∷ []) later (λ g.
      let xs = values_at (Choice s) us in
      let all : field s (joined (given_of (us ++ (Choice s, v) ∷ [])) g) ≡ (xs ++ v ∷ []) ++ field s g = field_is s (us ++ (Choice s, v) ∷ []) g ∙ ap (λ l. l ++ field s g) (added (Choice s) v us) in
      let size : length ((xs ++ v ∷ []) ++ field s g) ≡ (length xs + 1) + length (field s g) = length-append (xs ++ v ∷ []) (field s g) ∙ ap (λ n. n + length (field s g)) (length-append xs (v ∷ [])) in
      let one = some_length xs has in
      refused_option s _ (ap (are_few options) all ∙ not_few options _ (omega (arith, size, one))))

  -- the value of an option where there is none
  pub unwanted : (us : List Use) (s : Setting) (v : Text) (later : Option Given) → options ≡ false → due (us ++ (Choice s, v) ∷ []) later ≡ None
  unwanted us s v later none = due_none (us ++ (Choice s, v) ∷ []) later (λ g.
      let xs = values_at (Choice s) us in
      let all : field s (joined (given_of (us ++ (Choice s, v) ∷ [])) g) ≡ (xs ++ v ∷ []) ++ field s g = field_is s (us ++ (Choice s, v) ∷ []) g ∙ ap (λ l. l ++ field s g) (added (Choice s) v us) in
      let size : length ((xs ++ v ∷ []) ++ field s g) ≡ (length xs + 1) + length (field s g) = length-append (xs ++ v ∷ []) (field s g) ∙ ap (λ n. n + length (field s g)) (length-append xs (v ∷ [])) in
      refused_option s _ (ap₂ are_few none all ∙ not_none _ (omega (arith, size))))

  -- one more value
  pub value_more : (us : List Use) (s : Setting) (v : Text) (later : Option Given) → due us (with_value s v later) ≡ due (us ++ (Choice s, v) ∷ []) later
  value_more us settings.Input v None = refl
  value_more us settings.Steps v None = refl
  value_more us settings.Arena v None = refl
  value_more us settings.Input v (Some g) = ap (λ g. if_taken target options (Some g)) (same_given
      (ap₂ (λ a b. (a ++ b) ++ g.names) (sym (kept (Choice settings.Input) Source v us refl)) (sym (kept (Choice settings.Input) Target v us refl)))
      (sym (ap (λ l. l ++ g.inputs) (added (Choice settings.Input) v us) ∙ append_assoc (values_at (Choice settings.Input) us) (v ∷ []) g.inputs))
      (ap (λ l. l ++ g.steps) (sym (kept (Choice settings.Input) (Choice settings.Steps) v us refl)))
      (ap (λ l. l ++ g.arenas) (sym (kept (Choice settings.Input) (Choice settings.Arena) v us refl))))
  value_more us settings.Steps v (Some g) = ap (λ g. if_taken target options (Some g)) (same_given
      (ap₂ (λ a b. (a ++ b) ++ g.names) (sym (kept (Choice settings.Steps) Source v us refl)) (sym (kept (Choice settings.Steps) Target v us refl)))
      (ap (λ l. l ++ g.inputs) (sym (kept (Choice settings.Steps) (Choice settings.Input) v us refl)))
      (sym (ap (λ l. l ++ g.steps) (added (Choice settings.Steps) v us) ∙ append_assoc (values_at (Choice settings.Steps) us) (v ∷ []) g.steps))
      (ap (λ l. l ++ g.arenas) (sym (kept (Choice settings.Steps) (Choice settings.Arena) v us refl))))
  value_more us settings.Arena v (Some g) = ap (λ g. if_taken target options (Some g)) (same_given
      (ap₂ (λ a b. (a ++ b) ++ g.names) (sym (kept (Choice settings.Arena) Source v us refl)) (sym (kept (Choice settings.Arena) Target v us refl)))
      (ap (λ l. l ++ g.inputs) (sym (kept (Choice settings.Arena) (Choice settings.Input) v us refl)))
      (ap (λ l. l ++ g.steps) (sym (kept (Choice settings.Arena) (Choice settings.Steps) v us refl)))
      (sym (ap (λ l. l ++ g.arenas) (added (Choice settings.Arena) v us) ∙ append_assoc (values_at (Choice settings.Arena) us) (v ∷ []) g.arenas)))

  empty_is : (xs : List Text) → length xs ≡ 0 → xs ≡ []
  empty_is [] e = refl
  empty_is (x ∷ xs) e = absurd (omega (arith, e))

  same_rest : (s : Slot) (v : Text) (us : List Use) (g : Given) (names : List Text) → bytes_eq (id_of s) (codes "input") ≡ false → bytes_eq (id_of s) (codes "steps") ≡ false → bytes_eq (id_of s) (codes "arena") ≡ false
      → names ≡ (values_at Source (us ++ (s, v) ∷ []) ++ values_at Target (us ++ (s, v) ∷ [])) ++ g.names
      → ◌≡◌ {A = Given} (record { names = names; inputs = values_at (Choice settings.Input) us ++ g.inputs; steps = values_at (Choice settings.Steps) us ++ g.steps; arenas = values_at (Choice settings.Arena) us ++ g.arenas })
      (joined (given_of (us ++ (s, v) ∷ [])) g)
  same_rest s v us g names i t a are = same_given are
      (ap (λ l. l ++ g.inputs) (sym (kept s (Choice settings.Input) v us i)))
      (ap (λ l. l ++ g.steps) (sym (kept s (Choice settings.Steps) v us t)))
      (ap (λ l. l ++ g.arenas) (sym (kept s (Choice settings.Arena) v us a)))

  -- one more name
  pub name_more : (at : Place) (us : List Use) (s : Slot) (v : Text) (later : Option Given) → HasNames target at us → slot_at target at ≡ Some s → due us (with_name v later) ≡ due (us ++ (s, v) ∷ []) later
  name_more at us s v None names is = refl
  name_more First us s v (Some g) names is =
      let first : Source ≡ s = ap (λ o. unwrap_or o Source) is in
      subst (λ s. due us (with_name v (Some g)) ≡ due (us ++ (s, v) ∷ []) (Some g)) first
      (ap (λ g. if_taken target options (Some g)) (same_rest Source v us g ((values_at Source us ++ values_at Target us) ++ v ∷ g.names) refl refl refl
      (ap₂ (λ a b. (a ++ b) ++ v ∷ g.names) (empty_is _ names.0) (empty_is _ names.1)
      ∙ sym (ap₂ (λ a b. (a ++ b) ++ g.names) (added Source v us ∙ ap (λ l. l ++ v ∷ []) (empty_is _ names.0)) (kept Source Target v us refl ∙ empty_is _ names.1)))))
  name_more Second us s v (Some g) names is =
      subst (λ s. due us (with_name v (Some g)) ≡ due (us ++ (s, v) ∷ []) (Some g)) (second_slot target s is)
      (ap (λ g. if_taken target options (Some g)) (same_rest Target v us g ((values_at Source us ++ values_at Target us) ++ v ∷ g.names) refl refl refl
      (ap (λ b. (values_at Source us ++ b) ++ v ∷ g.names) (empty_is _ names.1) ∙ ap (λ l. l ++ v ∷ g.names) (append-nil (values_at Source us))
      ∙ sym (append_assoc (values_at Source us) (v ∷ []) g.names)
      ∙ sym (ap₂ (λ a b. (a ++ b) ++ g.names) (kept Target Source v us refl) (added Target v us ∙ ap (λ l. l ++ v ∷ []) (empty_is _ names.1))))))
  name_more Third us s v (Some g) names is = absurd (true≢false (sym (ap is_there is)))

  size_more : (s : Slot) (v : Text) (us : List Use) → length (values_at s (us ++ (s, v) ∷ [])) ≡ length (values_at s us) + 1
  size_more s v us = ap length (added s v us) ∙ length-append (values_at s us) (v ∷ [])

  pub names_more : (at : Place) (us : List Use) (s : Slot) (v : Text) → HasNames target at us → slot_at target at ≡ Some s → HasNames target (after at) (us ++ (s, v) ∷ [])
  names_more First us s v names is =
      let first : Source ≡ s = ap (λ o. unwrap_or o Source) is in
      subst (λ s. HasNames target Second (us ++ (s, v) ∷ [])) first
      (size_more Source v us ∙ ap (λ n. n + 1) names.0, ap length (kept Source Target v us refl) ∙ names.1)
  names_more Second us s v names is =
      subst (λ s. HasNames target Third (us ++ (s, v) ∷ [])) (second_slot target s is)
      (ap length (kept Target Source v us refl) ∙ names.0, size_more Target v us ∙ ap (λ n. n + 1) names.1, is_true target is)
    where
      is_true : (b : Bool) → slot_at b Second ≡ Some s → b ≡ true
      is_true true e = refl
      is_true false e = absurd (true≢false (sym (ap is_there e)))
  names_more Third us s v names is = absurd (true≢false (sym (ap is_there is)))

  source_kept : (s : Setting) (v : Text) (us : List Use) → values_at Source (us ++ (Choice s, v) ∷ []) ≡ values_at Source us
  source_kept settings.Input v us = kept (Choice settings.Input) Source v us refl
  source_kept settings.Steps v us = kept (Choice settings.Steps) Source v us refl
  source_kept settings.Arena v us = kept (Choice settings.Arena) Source v us refl

  target_kept : (s : Setting) (v : Text) (us : List Use) → values_at Target (us ++ (Choice s, v) ∷ []) ≡ values_at Target us
  target_kept settings.Input v us = kept (Choice settings.Input) Target v us refl
  target_kept settings.Steps v us = kept (Choice settings.Steps) Target v us refl
  target_kept settings.Arena v us = kept (Choice settings.Arena) Target v us refl

  pub names_stay : (at : Place) (us : List Use) (s : Setting) (v : Text) → HasNames target at us → HasNames target at (us ++ (Choice s, v) ∷ [])
  names_stay First us s v names = (ap length (source_kept s v us) ∙ names.0, ap length (target_kept s v us) ∙ names.1)
  names_stay Second us s v names = (ap length (source_kept s v us) ∙ names.0, ap length (target_kept s v us) ∙ names.1)
  names_stay Third us s v names = (ap length (source_kept s v us) ∙ names.0, ap length (target_kept s v us) ∙ names.1, names.2)

  names_bound : (at : Place) (us : List Use) → HasNames target at us → (length (values_at Source us) ≤ 1) × (length (values_at Target us) ≤ 1)
  names_bound First us names = (omega (arith, names.0), omega (arith, names.1))
  names_bound Second us names = (omega (arith, names.0), omega (arith, names.1))
  names_bound Third us names = (omega (arith, names.0), omega (arith, names.1))

  -- a name too many
  pub too_many : (at : Place) (us : List Use) (v : Text) (later : Option Given) → HasNames target at us → slot_at target at ≡ None → due us (with_name v later) ≡ None
  too_many at us v None names is = refl
  too_many First us v (Some g) names is = absurd (true≢false (ap is_there is))
  too_many Second us v (Some g) names is =
      ap (λ b. if b then Some (joined (given_of us) (record g { names = v ∷ g.names })) else None)
      (and_left _ (are_few options (values_at (Choice settings.Input) us ++ g.inputs) && (are_few options (values_at (Choice settings.Steps) us ++ g.steps) && are_few options (values_at (Choice settings.Arena) us ++ g.arenas)))
      (one_more target is))
    where
      one_more : (b : Bool) → slot_at b Second ≡ None → (length ((values_at Source us ++ values_at Target us) ++ v ∷ g.names) == (if b then 2 else 1)) ≡ false
      one_more true e = absurd (true≢false (ap is_there e))
      one_more false e = ne_eqb _ _ (λ same. omega (arith, same, length-append (values_at Source us ++ values_at Target us) (v ∷ g.names), length-append (values_at Source us) (values_at Target us), names.0))
  too_many Third us v (Some g) names is =
      ap (λ b. if b then Some (joined (given_of us) (record g { names = v ∷ g.names })) else None)
      (and_left _ (are_few options (values_at (Choice settings.Input) us ++ g.inputs) && (are_few options (values_at (Choice settings.Steps) us ++ g.steps) && are_few options (values_at (Choice settings.Arena) us ++ g.arenas)))
      (ap (λ b. length ((values_at Source us ++ values_at Target us) ++ v ∷ g.names) == (if b then 2 else 1)) names.2
      ∙ ne_eqb _ _ (λ same. omega (arith, same, length-append (values_at Source us ++ values_at Target us) (v ∷ g.names), length-append (values_at Source us) (values_at Target us), names.0, names.1))))

  -- a value that isn't the first of its slot
  pub repeated : (at : Place) (us : List Use) (p : Pending) (later : Option Given) → HasNames target at (us ++ uses_of p) → is_first p us ≡ false → due (us ++ uses_of p) later ≡ None
  repeated at us Nothing later names e = absurd (true≢false e)
  repeated at us (Full Source v) later names e = absurd (omega (arith, size_more Source v us, (names_bound at _ names).0, some_length (values_at Source us) (was_some _ e)))
  repeated at us (Full Target v) later names e = absurd (omega (arith, size_more Target v us, (names_bound at _ names).1, some_length (values_at Target us) (was_some _ e)))
  repeated at us (Full (Choice s) v) later names e = twice us s v later (was_some _ e)

  -- ---- what a slot may have at most

  abbrev limit : Bool → ℕ
  limit true = 2
  limit false = 1

  abbrev pub IsWithin : List Use → Type 0
  IsWithin us = (s : Slot) → length (values_at s us) < limit (allows target options s)

  pub within_none : IsWithin []
  within_none Source = omega arith
  within_none Target = within_any target
    where
      within_any : (b : Bool) → 0 < limit b
      within_any true = omega arith
      within_any false = omega arith
  within_none (Choice s) = within_any options
    where
      within_any : (b : Bool) → 0 < limit b
      within_any true = omega arith
      within_any false = omega arith

  none_length : (xs : List Text) → some xs ≡ false → length xs ≡ 0
  none_length [] e = refl
  none_length (x ∷ xs) e = absurd (true≢false e)

  pub within_more : (us : List Use) (s : Slot) (v : Text) → IsWithin us → allows target options s ≡ true → some (values_at s us) ≡ false → IsWithin (us ++ (s, v) ∷ [])
  within_more us s v within is none t = go (bytes_eq (id_of s) (id_of t)) refl
    where
      go : (b : Bool) → bytes_eq (id_of s) (id_of t) ≡ b → length (values_at t (us ++ (s, v) ∷ [])) < limit (allows target options t)
      go false e = subst (λ (l : List Text). length l < limit (allows target options t)) (sym (kept s t v us e)) (within t)
      go true e = subst (λ t. length (values_at t (us ++ (s, v) ∷ [])) < limit (allows target options t)) (same_slot s t e)
          (subst (λ b. length (values_at s (us ++ (s, v) ∷ [])) < limit b) (sym is) (omega (arith, size_more s v us, none_length _ none)))

  pub within_settled : (us : List Use) (p : Pending) → IsWithin us → IsAllowed target options p → is_first p us ≡ true → IsWithin (us ++ uses_of p)
  within_settled us Nothing within is first = subst IsWithin (sym (append-nil us)) within
  within_settled us (Full s v) within is first = within_more us s v within is (was_none _ first)

  -- ---- the end of the words

  abbrev pub finish : Option (List Row) → Option Given
  finish None = None
  finish (Some rows) = if is_given (codes "source") rows && (if target then is_given (codes "target") rows else true) then gathered rows else None

  abbrev made_with : List Text → List Text → List Text → List Text → Option Text → Option Given
  made_with b i s a None = None
  made_with b i s a (Some x) = Some (record { names = x ∷ b; inputs = i; steps = s; arenas = a })

  abbrev finished_by : List Text → List Text → List Text → List Text → List Text → Option Given
  finished_by x b i s a = if some x && (if target then some b else true) then made_with (listed (head b)) (listed (head i)) (listed (head s)) (listed (head a)) (head x) else None

  few_is : (b : Bool) (xs : List Text) → length xs < limit b → (are_few b xs ≡ true) × (listed (head xs) ≡ xs)
  few_is true [] less = (refl, refl)
  few_is true (x ∷ []) less = (refl, refl)
  few_is true (x ∷ y ∷ ys) less = absurd (omega (arith, less))
  few_is false [] less = (refl, refl)
  few_is false (x ∷ xs) less = absurd (omega (arith, less))

  taken_by : (x b i s a : List Text) (few : Bool) → few ≡ true → (t : Bool) → length x < 2 → length b < limit t
      → (if some x && (if t then some b else true) then made_with (listed (head b)) i s a (head x) else None)
      ≡ (if (length (x ++ b) == (if t then 2 else 1)) && few then Some (record { names = x ++ b; inputs = i; steps = s; arenas = a }) else None)
  taken_by [] [] i s a few e true xl bl = refl
  taken_by [] (y ∷ []) i s a few e true xl bl = refl
  taken_by [] (y ∷ z ∷ zs) i s a few e true xl bl = absurd (omega (arith, bl))
  taken_by (x ∷ []) [] i s a few e true xl bl = refl
  taken_by (x ∷ []) (y ∷ []) i s a few e true xl bl = rw e refl
  taken_by (x ∷ []) (y ∷ z ∷ zs) i s a few e true xl bl = absurd (omega (arith, bl))
  taken_by (x ∷ y ∷ ys) b i s a few e true xl bl = absurd (omega (arith, xl))
  taken_by [] [] i s a few e false xl bl = refl
  taken_by (x ∷ []) [] i s a few e false xl bl = rw e refl
  taken_by (x ∷ y ∷ ys) [] i s a few e false xl bl = absurd (omega (arith, xl))
  taken_by x (y ∷ ys) i s a few e false xl bl = absurd (omega (arith, bl))

  finished_is : (x b i s a : List Text) → length x < 2 → length b < limit target → length i < limit options → length s < limit options → length a < limit options
      → finished_by x b i s a ≡ if_taken target options (Some (record { names = x ++ b; inputs = i; steps = s; arenas = a }))
  finished_is x b i s a xl bl il sl al =
      let fi = few_is options i il in
      let fs = few_is options s sl in
      let fa = few_is options a al in
      let all : (are_few options i && (are_few options s && are_few options a)) ≡ true = rw (fi.0, fs.0) fa.0 in
      (λ j. if some x && (if target then some b else true) then made_with (listed (head b)) (fi.1 j) (fs.1 j) (fa.1 j) (head x) else None)
      ∙ taken_by x b i s a (are_few options i && (are_few options s && are_few options a)) all target xl bl

  abbrev by_rows : Bool → Bool → Option Text → Option Text → Option Text → Option Text → Option Text → Option Given
  by_rows has_source has_target source t i s a = if has_source && (if target then has_target else true) then made_with (listed t) (listed i) (listed s) (listed a) source else None

  pub ended : (us : List Use) → IsWithin us → finish (Some (rows_for us)) ≡ due us (Some nothing)
  ended us within =
      (λ j. by_rows (given_is Source us j) (given_is Target us j) (first_is Source us j) (first_is Target us j) (first_is (Choice settings.Input) us j) (first_is (Choice settings.Steps) us j) (first_is (Choice settings.Arena) us j))
      ∙ finished_is (values_at Source us) (values_at Target us) (values_at (Choice settings.Input) us) (values_at (Choice settings.Steps) us) (values_at (Choice settings.Arena) us)
      (within Source) (within Target) (within (Choice settings.Input)) (within (Choice settings.Steps)) (within (Choice settings.Arena))
      ∙ ap (λ g. if_taken target options (Some g)) (sym (same_given (append-nil (values_at Source us ++ values_at Target us)) (append-nil (values_at (Choice settings.Input) us)) (append-nil (values_at (Choice settings.Steps) us)) (append-nil (values_at (Choice settings.Arena) us))))
