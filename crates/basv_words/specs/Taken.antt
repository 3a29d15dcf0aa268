-- What each command takes, of what words give. This project's own.
use Rattle.std.specs.Prelude.{ℕ, Bool, true, false, ◌&&◌, ◌==◌, nat_lt, List, length, Option, Some, None, bytes_eq, codes, if◌then◌else◌}
use Rattle.basv_words.specs.declared.form.Kind.{Kind}
use Rattle.basv_words.specs.declared.form.Kind.TheVariants as kinds
use Rattle.basv_words.specs.Given.{Given, Open, read}
use Rattle.basv_words.specs.Command.{Command, Listing, Compile, Crunch, Run, Interpret, one_name, two_names, plain, running, options_with, bound_of}

-- the command of a name, if there is one
abbrev pub kind_named : List ℕ → Option Kind
kind_named name =
    if bytes_eq name (codes "list") then Some kinds.List
    else if bytes_eq name (codes "compile") then Some kinds.Compile
    else if bytes_eq name (codes "crunch") then Some kinds.Crunch
    else if bytes_eq name (codes "run") then Some kinds.Run
    else if bytes_eq name (codes "interp") then Some kinds.Interpret
    else None

-- whether the command takes a second name
abbrev pub has_target : Kind → Bool
has_target kinds.Compile = true
has_target kinds.Crunch = true
has_target _ = false

-- whether the command takes options
abbrev pub has_options : Kind → Bool
has_options kinds.Run = true
has_options kinds.Interpret = true
has_options _ = false

-- at most one value of each option, or none
abbrev pub are_few : Bool → List (List ℕ) → Bool
are_few true values = nat_lt (length values) 2
are_few false values = length values == 0

-- the exact number of names, and each option at most once, where there are options
abbrev pub is_taken : Bool → Bool → Given → Bool
is_taken target options g =
    (length g.names == (if target then 2 else 1)) && (are_few options g.inputs && (are_few options g.steps && are_few options g.arenas))

-- what was given, if it is taken
abbrev pub if_taken : Bool → Bool → Option Given → Option Given
if_taken target options None = None
if_taken target options (Some g) = if is_taken target options g then Some g else None

-- what the words after its name give a command that takes one name or two, and options or none
abbrev pub taken : Bool → Bool → List (List ℕ) → Option Given
taken target options words = if_taken target options (read Open words)

-- the command of a kind, with what words give it
abbrev pub by_kind : Kind → Given → Option Command
by_kind kinds.List g = one_name Listing (plain g)
by_kind kinds.Compile g = two_names Compile (plain g)
by_kind kinds.Crunch g = two_names Crunch (plain g)
by_kind kinds.Run g = running Run g.names (options_with g (bound_of g.steps))
by_kind kinds.Interpret g = running Interpret g.names (options_with g (bound_of g.steps))
