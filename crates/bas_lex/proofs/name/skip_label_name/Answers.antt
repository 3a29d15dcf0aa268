use Rattle.bas_lex.proofs.Names.{label_plain, label_system, no_label_name}
use Rattle.bas_lex.proofs.Runs.{match_map}
use Rattle.bas_lex.proofs.name.skip_label_name.Goals as goal

pub returns-in-Some : goal.returns-in-Some
returns-in-Some c = label_plain _ _ _ _ _ c.in-Some.ensures.2 c.in-Some.ensures.1 c.skip_letters.ensures c.skip_percent.ensures

pub returns-in-None : goal.returns-in-None
returns-in-None c =
    match_map c.strip_system_name.result _ _ _ _ (λ none. no_label_name c.args.text.now c.in-None.ensures none) (λ rest e. label_system c.args.text.now rest.now e) c.strip_system_name.ensures
