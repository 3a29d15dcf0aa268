use Rattle.std.proofs.Common.{◌≡◌, Some, None, sym, ap, ◌∙◌, map, string_bytes, drop, ◌∷◌, rules}
use Rattle.std.specs.Option.{option_map}
use Rattle.std.specs.Prelude.{option_and_then}
use Rattle.basv_words.specs.Command.{command_of}
use Rattle.basv_words.specs.Meant.{seen}
use Rattle.basv_words.specs.Taken.{by_kind, has_options, has_target, taken}
use Rattle.basv_words.proofs.Commands.{command_is, no_command, told}
use Rattle.basv_words.proofs.Fronts.{front_of}
use Rattle.basv_words.proofs.command.read_command.Goals as goal

pub returns-in_default-named : goal.returns-in_default-named
returns-in_default-named c =
    let rest = map string_bytes (drop 1 c.args.words.now) in
    let split : map string_bytes c.args.words.now ≡ c.as_str.result.now ∷ rest = search (front_of, rules) in
    sym (ap command_of split ∙ no_command c.as_str.result.now rest (sym c.named.ensures ∙ c.in_default-named.is))

pub returns-in-Some-2 : goal.returns-in-Some-2
returns-in-Some-2 c =
    let rest = map string_bytes (drop 1 c.args.words.now) in
    let kind = c.in-Some.kind in
    let split : map string_bytes c.args.words.now ≡ c.as_str.result.now ∷ rest = search (front_of, rules) in
    let gives : Some (seen c.in-Some-2.given) ≡ taken (has_target kind) (has_options kind) rest = ap (option_map seen) (sym c.in-Some-2.is) ∙ c.in_ok-given.ensures ∙ ap (λ l. taken (has_target kind) (has_options kind) (drop 1 l)) split in
    c.command_given.ensures (told (has_target kind) (has_options kind) rest (seen c.in-Some-2.given) gives)
    ∙ ap (option_and_then (by_kind kind)) gives
    ∙ sym (ap command_of split ∙ command_is c.as_str.result.now rest kind (sym c.named.ensures ∙ c.in-Some.is))

pub returns-in-None : goal.returns-in-None
returns-in-None c =
    let rest = map string_bytes (drop 1 c.args.words.now) in
    let kind = c.in-Some.kind in
    let split : map string_bytes c.args.words.now ≡ c.as_str.result.now ∷ rest = search (front_of, rules) in
    let gives : None ≡ taken (has_target kind) (has_options kind) rest = ap (option_map seen) (sym c.in-None.is) ∙ c.in_ok-given.ensures ∙ ap (λ l. taken (has_target kind) (has_options kind) (drop 1 l)) split in
    ap (option_and_then (by_kind kind)) gives
    ∙ sym (ap command_of split ∙ command_is c.as_str.result.now rest kind (sym c.named.ensures ∙ c.in-Some.is))
