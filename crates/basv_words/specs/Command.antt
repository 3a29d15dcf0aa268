-- The commands, as functions of the words of the command line. This project's own.
use Rattle.std.specs.Prelude.{ℕ, ◌&&◌, ◌==◌, not, nat_lt, List, [], ◌∷◌, length, Option, Some, None, bytes_eq, codes, if◌then◌else◌}
use Rattle.std.specs.Str.{all_ascii_digits}
use Rattle.std.specs.Str.Parse.{digits_value}
use Rattle.basv_words.specs.Given.{Given, given}

-- The options of a command that runs a program: the name of its input, the bound of its steps, and the name that its
-- arena is put under.
pub record Options : Type 0 where
  pub input : Option (List ℕ)
  pub steps : ℕ
  pub arena : Option (List ℕ)

-- list a file, compile it to an image, run an image, interpret a file, or tokenise a text to a file
pub data Command : Type 0 where
  Listing : (file : List ℕ) → Command
  Compile : (file image : List ℕ) → Command
  Run : (image : List ℕ) (options : Options) → Command
  Interpret : (file : List ℕ) (options : Options) → Command
  Crunch : (text file : List ℕ) → Command

-- the bound of a run for which none is asked
abbrev pub greatest_bound : ℕ
greatest_bound = 18446744073709551615

-- a number of decimal digits alone, which may be no greater than that bound
abbrev pub number : List ℕ → Option ℕ
number word =
    if not (length word == 0) && (all_ascii_digits word && nat_lt (digits_value 10 word) 18446744073709551616) then Some (digits_value 10 word) else None

-- the bound that a value of `--steps` says, if one was given
abbrev pub bound_of : List (List ℕ) → Option ℕ
bound_of [] = Some greatest_bound
bound_of (word ∷ more) = number word

-- the one value of an option, if one was given
abbrev pub only : List (List ℕ) → Option (List ℕ)
only [] = None
only (word ∷ more) = Some word

-- the options of a run
abbrev pub options_with : Given → Option ℕ → Option Options
options_with g None = None
options_with g (Some bound) = Some (record { input = only g.inputs; steps = bound; arena = only g.arenas })

-- a command that takes no options takes this number of names
abbrev pub one_name : (List ℕ → Command) → List (List ℕ) → Option Command
one_name make (a ∷ []) = Some (make a)
one_name make names = None

abbrev pub two_names : (List ℕ → List ℕ → Command) → List (List ℕ) → Option Command
two_names make (a ∷ b ∷ []) = Some (make a b)
two_names make names = None

abbrev pub running : (List ℕ → Options → Command) → List (List ℕ) → Option Options → Option Command
running make (a ∷ []) (Some options) = Some (make a options)
running make names options = None

-- the names, where there is no option
abbrev pub plain : Given → List (List ℕ)
plain g = if (length g.inputs == 0) && ((length g.steps == 0) && (length g.arenas == 0)) then g.names else []

-- the command of this name, with what the words after it give
abbrev pub by_name : List ℕ → Option Given → Option Command
by_name name None = None
by_name name (Some g) =
    if bytes_eq name (codes "list") then one_name Listing (plain g)
    else if bytes_eq name (codes "compile") then two_names Compile (plain g)
    else if bytes_eq name (codes "crunch") then two_names Crunch (plain g)
    else if bytes_eq name (codes "run") then running Run g.names (options_with g (bound_of g.steps))
    else if bytes_eq name (codes "interp") then running Interpret g.names (options_with g (bound_of g.steps))
    else None

-- the command that the words are, if they are one
abbrev pub command_of : List (List ℕ) → Option Command
command_of [] = None
command_of (name ∷ words) = by_name name (given words)
