use Rattle.std.proofs.Common.{sym, ap, ◌∙◌, codes}
use Rattle.std.specs.Option.{option_map}
use Rattle.clap.specs.Matches.{found_of, first_value}
use Rattle.clap.specs.Walk.{rows_of}
use Rattle.clap.proofs.WalkLemmas.{first_value-rows}
use Rattle.basv_words.specs.declared.reader.Given.{Given as Read}
use Rattle.basv_words.specs.Meant.{seen}
use Rattle.basv_words.proofs.Gathered.{gathered_is, none_gathered}
use Rattle.basv_words.proofs.reader.given_by.Goals as goal

pub returns-in_err-get_str : goal.returns-in_err-get_str
returns-in_err-get_str c =
    let f = found_of c.args.matches.now in
    ap (option_map seen) c.from_residual.ensures
    ∙ none_gathered (rows_of f) (ap (option_map (λ s. s.now)) (sym c.in_err-get_str.was) ∙ c.get_str.ensures ∙ first_value-rows f (codes "source"))

pub returns : goal.returns
returns c =
    let f = found_of c.args.matches.now in
    let g : Read = record { source = c.in_ok-get_str.field-0; target = c.get_str-2.result; input = c.get_str-3.result; steps = c.get_str-4.result; arena = c.get_str-5.result } in
    gathered_is (rows_of f) g
    (ap (option_map (λ s. s.now)) (sym c.in_ok-get_str.was) ∙ c.get_str.ensures ∙ first_value-rows f (codes "source"))
    (c.get_str-2.ensures ∙ first_value-rows f (codes "target"))
    (c.get_str-3.ensures ∙ ap (first_value f) c.name.ensures ∙ first_value-rows f (codes "input"))
    (c.get_str-4.ensures ∙ ap (first_value f) c.name-2.ensures ∙ first_value-rows f (codes "steps"))
    (c.get_str-5.ensures ∙ ap (first_value f) c.name-3.ensures ∙ first_value-rows f (codes "arena"))
