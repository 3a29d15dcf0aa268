use Rattle.std.proofs.Common.{◌≡◌, true, sym, ap, ap₂, ◌∙◌, codes}
use Rattle.clap.specs.Simple.{App, app_of, app_of_fields, with_rule}
use Rattle.basv_words.specs.Taken.{has_target}
use Rattle.basv_words.specs.Reader.{name_rule, start, with_options_if, with_target_if}
use Rattle.basv_words.proofs.reader.reader.Goals as goal
use Rattle.basv_words.proofs.reader.reader.Goals.{then-has_target+in_ok-command-2, else-has_target, then-has_options+in_ok-command-3, else-has_options}

pub returns : goal.returns
returns c =
    let plain : app_of c.disable_help_flag.result ≡ start =
    ap app_of_fields c.disable_help_flag.ensures ∙ ap (λ (a : App). record a { top = record a.top { disable_help_flag = true } }) c.new.ensures.app in
    let first : app_of c.in_ok-command.command ≡ with_rule start (name_rule (codes "source")) = c.in_ok-command.ensures.shape c.name.ensures.local ∙ ap₂ with_rule plain c.name.ensures.rule in
    let named : app_of c.if-has_target.command ≡ with_target_if (has_target c.args.kind) (with_rule start (name_rule (codes "source"))) =
    elim c.if-has_target.branch [
      | then-has_target+in_ok-command-2 w ↦
          ap app_of w.command-is ∙ w.in_ok-command-2.ensures.shape w.name-then-has_target.ensures.local ∙ ap₂ with_rule first w.name-then-has_target.ensures.rule
          ∙ ap (λ b. with_target_if b (with_rule start (name_rule (codes "source")))) (sym w.if-has_target.true ∙ c.has_target.ensures)
      | else-has_target w ↦
          ap app_of w.command-is ∙ first ∙ ap (λ b. with_target_if b (with_rule start (name_rule (codes "source")))) (sym w.if-has_target.false ∙ c.has_target.ensures)
    ] in
    elim c.if-has_options.branch [
      | then-has_options+in_ok-command-3 w ↦
          ap app_of w.command-is ∙ w.in_ok-command-3.ensures ∙ ap (with_options_if true) named
          ∙ ap (λ b. with_options_if b (with_target_if (has_target c.args.kind) (with_rule start (name_rule (codes "source"))))) (sym w.if-has_options.true ∙ c.has_options.ensures)
      | else-has_options w ↦
          ap app_of w.command-is ∙ named
          ∙ ap (λ b. with_options_if b (with_target_if (has_target c.args.kind) (with_rule start (name_rule (codes "source"))))) (sym w.if-has_options.false ∙ c.has_options.ensures)
    ]
