-- What the getters of the matches give.
use Rattle.std.proofs.Common.{◌≡◌, List, ◌∷◌, Option, Some, None, Bor, refl, ap, ◌∙◌, codes}
use Rattle.std.specs.Option.{option_map}
use Rattle.clap.specs.Walk.{Row, Text, first_of}
use Rattle.basv_words.specs.declared.reader.Given.{Given as Read}
use Rattle.basv_words.specs.Given.{Given}
use Rattle.basv_words.specs.Meant.{list_of, seen}
use Rattle.basv_words.specs.Reader.{gathered, gathered_with, listed}

list_is : (o : Option (Bor Text)) → list_of o ≡ listed (option_map (λ s. s.now) o)
list_is None = refl
list_is (Some s) = refl

abbrev with_source : Option Text → Option Text → Option Text → Option Text → Option Text → Option Given
with_source t i s a None = None
with_source t i s a (Some x) = Some (record { names = x ∷ listed t; inputs = listed i; steps = listed s; arenas = listed a })

pub gathered_is : (rows : List Row) (g : Read) → Some g.source.now ≡ first_of (codes "source") rows → option_map (λ s. s.now) g.target ≡ first_of (codes "target") rows
    → option_map (λ s. s.now) g.input ≡ first_of (codes "input") rows → option_map (λ s. s.now) g.steps ≡ first_of (codes "steps") rows → option_map (λ s. s.now) g.arena ≡ first_of (codes "arena") rows
    → Some (seen g) ≡ gathered rows
gathered_is rows g source t i s a =
    lists ∙ (λ j. with_source (t j) (i j) (s j) (a j) (source j))
  where
    lists : ◌≡◌ {A = Option Given} (Some (seen g)) (with_source (option_map (λ s. s.now) g.target) (option_map (λ s. s.now) g.input) (option_map (λ s. s.now) g.steps) (option_map (λ s. s.now) g.arena) (Some g.source.now))
    lists = λ j. Some (record { names = g.source.now ∷ list_is g.target j; inputs = list_is g.input j; steps = list_is g.steps j; arenas = list_is g.arena j })

pub none_gathered : (rows : List Row) → None ≡ first_of (codes "source") rows → None ≡ gathered rows
none_gathered rows none = ap (gathered_with rows) none
