use Rattle.bas_lex.proofs.Decided.{cut_or_bad}
use Rattle.bas_lex.proofs.Unique.{cut_once, bad_once, never_both}
use Rattle.bas_lex.proofs.laws.one_cut.Goals as goal

pub returns : goal.returns
returns c =
    let text = c.args.text.now in
    let asm = c.args.asm in
    record {
      cut_or_bad = cut_or_bad asm text;
      cut_once = cut_once asm text;
      bad_once = bad_once asm text;
      never_both = never_both asm text;
    }
