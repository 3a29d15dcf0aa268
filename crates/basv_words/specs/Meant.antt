-- What the code's values mean.
use Rattle.std.specs.Prelude.{ℕ, List, [], ◌∷◌, Option, Some, None}
use Rattle.std.specs.Option.{option_map}
use Rattle.std.proofs.Common.{Bor}
use Rattle.basv_words.specs.declared.reader.Given.{Given as Read}
use Rattle.basv_words.specs.declared.command.Options.{Options as Chosen}
use Rattle.basv_words.specs.declared.command.Command.{Command as Meant}
use Rattle.basv_words.specs.declared.command.Command.TheVariants as commands
use Rattle.basv_words.specs.Given.{Given}
use Rattle.basv_words.specs.Command.{Command, Options, Listing, Compile, Run, Interpret, Crunch}

abbrev pub list_of : Option (Bor (List ℕ)) → List (List ℕ)
list_of None = []
list_of (Some word) = word.now ∷ []

-- what was given
abbrev pub seen : Read → Given
seen g = record { names = g.source.now ∷ list_of g.target; inputs = list_of g.input; steps = list_of g.steps; arenas = list_of g.arena }

abbrev pub chosen : Chosen → Options
chosen o = record { input = option_map (λ word. word.now) o.input; steps = o.steps; arena = option_map (λ word. word.now) o.arena }

-- a command that was read
abbrev pub meant : Meant → Command
meant (commands.List file) = Listing file.now
meant (commands.Compile file image) = Compile file.now image.now
meant (commands.Run image options) = Run image.now (chosen options)
meant (commands.Interpret file options) = Interpret file.now (chosen options)
meant (commands.Crunch text file) = Crunch text.now file.now
