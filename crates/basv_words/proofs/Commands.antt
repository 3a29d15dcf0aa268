-- The command of a name, by what it takes.
use Rattle.std.proofs.Common.{◌≡◌, ℕ, ◌==◌, Bool, true, false, List, [], ◌∷◌, Option, Some, None, refl, sym, ap, ◌∙◌, true≢false, if◌then◌else◌, ◌&&◌, nat_lt, lt-ltb, ne_eqb, eqb-true, length, arith, codes, unwrap_or}
use Rattle.std.specs.Prelude.{option_and_then}
use Rattle.std.specs.Str.{bytes_eq}
use Rattle.basv_words.specs.declared.form.Kind.{Kind}
use Rattle.basv_words.specs.declared.form.Kind.TheVariants as kinds
use Rattle.basv_words.specs.Given.{Given, Open, few, given, is_few, read}
use Rattle.basv_words.specs.Command.{Command, Options, Listing, Compile, Crunch, Run, Interpret, bound_of, by_name, command_of, one_name, options_with, plain, running, two_names}
use Rattle.basv_words.specs.Taken.{by_kind, has_options, has_target, if_taken, is_taken, kind_named, taken}

abbrev number_for : Bool → ℕ
number_for target = if target then 2 else 1

none_by : {A : Type 0} (b : Bool) (o : Option A) → o ≡ None → (if b then o else None) ≡ None
none_by true o e = e
none_by false o e = refl

few_names : (target : Bool) (n : List (List ℕ)) → (length n == number_for target) ≡ true → nat_lt (length n) 3 ≡ true
few_names true n e = lt-ltb _ _ (omega (arith, eqb-true _ _ e))
few_names false n e = lt-ltb _ _ (omega (arith, eqb-true _ _ e))

no_names : (target : Bool) → (0 == number_for target) ≡ false
no_names true = refl
no_names false = refl

abbrev made : List (List ℕ) → List (List ℕ) → List (List ℕ) → List (List ℕ) → Given
made n i s a = record { names = n; inputs = i; steps = s; arenas = a }

-- a command without options, of a number of names
module _ (target : Bool) (pick : List (List ℕ) → Option Command) (exact : (n : List (List ℕ)) → (length n == number_for target) ≡ false → pick n ≡ None) where
  abbrev Same : Given → Type 0
  Same g = (if is_few g then pick (plain g) else None) ≡ (if is_taken target false g then pick (plain g) else None)

  by_plain : (g : Given) → plain g ≡ [] → Same g
  by_plain g e =
      let none : pick (plain g) ≡ None = ap pick e ∙ exact [] (no_names target) in
      none_by (is_few g) (pick (plain g)) none ∙ sym (none_by (is_taken target false g) (pick (plain g)) none)

  by_names : (n : List (List ℕ)) (b : Bool) → (length n == number_for target) ≡ b → Same (made n [] [] [])
  by_names n true e = ap (λ b. if b && true then pick n else None) (few_names target n e ∙ sym e)
  by_names n false e = none_by (nat_lt (length n) 3 && true) (pick n) (exact n e) ∙ sym (none_by ((length n == number_for target) && true) (pick n) (exact n e))

  some_there : (x : List ℕ) (xs : List (List ℕ)) → (length (x ∷ xs) == 0) ≡ false
  some_there x xs = ne_eqb _ _ (λ e. omega (arith, e))

  pub without_options : (n i s a : List (List ℕ)) → Same (made n i s a)
  without_options n [] [] [] = by_names n (length n == number_for target) refl
  without_options n (x ∷ xs) s a = by_plain (made n (x ∷ xs) s a) (ap (λ b. if b && ((length s == 0) && (length a == 0)) then n else []) (some_there x xs))
  without_options n [] (x ∷ xs) a = by_plain (made n [] (x ∷ xs) a) (ap (λ b. if b && (length a == 0) then n else []) (some_there x xs))
  without_options n [] [] (x ∷ xs) = by_plain (made n [] [] (x ∷ xs)) (ap (λ b. if b then n else []) (some_there x xs))

-- a command with options, of one name
module _ (make : List ℕ → Options → Command) where
  exact_run : (n : List (List ℕ)) (o : Option Options) → (length n == 1) ≡ false → running make n o ≡ None
  exact_run [] o e = refl
  exact_run (x ∷ []) o e = absurd (true≢false e)
  exact_run (x ∷ y ∷ ys) o e = refl

  pub with_options : (g : Given) (o : Option Options) → (if is_few g then running make g.names o else None) ≡ (if is_taken false true g then running make g.names o else None)
  with_options g o = go (length g.names == 1) refl
    where
      go : (b : Bool) → (length g.names == 1) ≡ b → (if is_few g then running make g.names o else None) ≡ (if is_taken false true g then running make g.names o else None)
      go true e = ap (λ b. if b && (nat_lt (length g.inputs) 2 && (nat_lt (length g.steps) 2 && nat_lt (length g.arenas) 2)) then running make g.names o else None) (few_names false g.names e ∙ sym e)
      go false e = none_by (is_few g) (running make g.names o) (exact_run g.names o e) ∙ sym (none_by (is_taken false true g) (running make g.names o) (exact_run g.names o e))

exact_one : (make : List ℕ → Command) (n : List (List ℕ)) → (length n == 1) ≡ false → one_name make n ≡ None
exact_one make [] e = refl
exact_one make (x ∷ []) e = absurd (true≢false e)
exact_one make (x ∷ y ∷ ys) e = refl

exact_two : (make : List ℕ → List ℕ → Command) (n : List (List ℕ)) → (length n == 2) ≡ false → two_names make n ≡ None
exact_two make [] e = refl
exact_two make (x ∷ []) e = refl
exact_two make (x ∷ y ∷ []) e = absurd (true≢false e)
exact_two make (x ∷ y ∷ z ∷ zs) e = refl

same_kind : (k : Kind) (g : Given) → (if is_few g then by_kind k g else None) ≡ (if is_taken (has_target k) (has_options k) g then by_kind k g else None)
same_kind kinds.List g = without_options false (one_name Listing) (exact_one Listing) g.names g.inputs g.steps g.arenas
same_kind kinds.Compile g = without_options true (two_names Compile) (exact_two Compile) g.names g.inputs g.steps g.arenas
same_kind kinds.Crunch g = without_options true (two_names Crunch) (exact_two Crunch) g.names g.inputs g.steps g.arenas
same_kind kinds.Run g = with_options Run g (options_with g (bound_of g.steps))
same_kind kinds.Interpret g = with_options Interpret g (options_with g (bound_of g.steps))

abbrev kind_by : Bool → Bool → Bool → Bool → Bool → Option Kind
kind_by l c t r i = if l then Some kinds.List else if c then Some kinds.Compile else if t then Some kinds.Crunch else if r then Some kinds.Run else if i then Some kinds.Interpret else None

abbrev command_by : Bool → Bool → Bool → Bool → Bool → Given → Option Command
command_by l c t r i g = if l then by_kind kinds.List g else if c then by_kind kinds.Compile g else if t then by_kind kinds.Crunch g else if r then by_kind kinds.Run g else if i then by_kind kinds.Interpret g else None

by_tests : (l c t r i : Bool) (g : Given) → command_by l c t r i g ≡ option_and_then (λ k. by_kind k g) (kind_by l c t r i)
by_tests true c t r i g = refl
by_tests false true c r i g = refl
by_tests false false true r i g = refl
by_tests false false false true i g = refl
by_tests false false false false true g = refl
by_tests false false false false false g = refl

by_name_is : (name : List ℕ) (g : Given) → by_name name (Some g) ≡ option_and_then (λ k. by_kind k g) (kind_named name)
by_name_is name g = by_tests (bytes_eq name (codes "list")) (bytes_eq name (codes "compile")) (bytes_eq name (codes "crunch")) (bytes_eq name (codes "run")) (bytes_eq name (codes "interp")) g

pub no_command : (name : List ℕ) (words : List (List ℕ)) → kind_named name ≡ None → command_of (name ∷ words) ≡ None
no_command name words none = go (given words)
  where
    go : (o : Option Given) → by_name name o ≡ None
    go None = refl
    go (Some g) = by_name_is name g ∙ ap (option_and_then (λ k. by_kind k g)) none

-- the command of a name is that of what it takes
pub command_is : (name : List ℕ) (words : List (List ℕ)) (k : Kind) → kind_named name ≡ Some k → command_of (name ∷ words) ≡ option_and_then (by_kind k) (taken (has_target k) (has_options k) words)
command_is name words k is = go (read Open words)
  where
    chosen_by : (g : Given) (b : Bool) → by_name name (if b then Some g else None) ≡ (if b then by_kind k g else None)
    chosen_by g true = by_name_is name g ∙ ap (option_and_then (λ k. by_kind k g)) is
    chosen_by g false = refl

    taken_by : (g : Given) (b : Bool) → (if b then by_kind k g else None) ≡ option_and_then (by_kind k) (if b then Some g else None)
    taken_by g true = refl
    taken_by g false = refl

    go : (o : Option Given) → by_name name (few o) ≡ option_and_then (by_kind k) (if_taken (has_target k) (has_options k) o)
    go None = refl
    go (Some g) = chosen_by g (is_few g) ∙ same_kind k g ∙ taken_by g (is_taken (has_target k) (has_options k) g)

-- what is taken passes the test
pub told : (target options : Bool) (words : List (List ℕ)) (g : Given) → Some g ≡ taken target options words → is_taken target options g ≡ true
told target options words g e = go (read Open words) e
  where
    by_test : (h : Given) (b : Bool) → is_taken target options h ≡ b → Some g ≡ (if b then Some h else None) → is_taken target options g ≡ true
    by_test h true t e = ap (is_taken target options) (ap (λ o. unwrap_or o g) e) ∙ t
    by_test h false t e = absurd (true≢false (ap found e))
      where
        found : Option Given → Bool
        found None = false
        found (Some x) = true

    go : (o : Option Given) → Some g ≡ if_taken target options o → is_taken target options g ≡ true
    go None e = absurd (true≢false (ap found e))
      where
        found : Option Given → Bool
        found None = false
        found (Some x) = true
    go (Some h) e = by_test h (is_taken target options h) refl e
