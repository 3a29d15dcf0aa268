use Rattle.std.proofs.Common.{◌+◌, false, [], ◌∷◌, ◌++◌, drop, ap, sym, ◌∙◌, append_assoc, arith}
use Rattle.std.proofs.lemmas.List.{append-nil, at_drop_more, at_drop_all}
use Rattle.bas_lex.specs.declared.symbol.Sym.{Sym}
use Rattle.bas_lex.specs.declared.symbol.SymKind.TheVariants as kinds
use Rattle.expr_parse.specs.Terminals.{terminals_from}
use Rattle.expr_parse.proofs.classify.terminals.Goals as goal

-- what an absent element would be
other : Sym
other = record { kind = kinds.Token 0; from = 0; to = 0; asm = false }

pub loop-i-preserved : goal.loop-i-preserved
unfolding terminals_from other
loop-i-preserved c =
    let from = terminals_from c.args.labels.now c.args.text.now in
    let rest = from (c.loop-i.i + 1) (drop (c.loop-i.i + 1) c.args.syms.now) in
    c.loop-i.invariant
    ∙ (ap (λ z. c.loop-i.found ++ z) (at_drop_more (from c.loop-i.i) c.args.syms.now c.loop-i.i other (omega arith))
    ∙ (ap (λ z. c.loop-i.found ++ z ∷ rest) (sym c.of_symbol.ensures)
    ∙ (sym (append_assoc c.loop-i.found (c.of_symbol.result ∷ []) rest) ∙ ap (λ z. z ++ rest) (sym c.in_ok-push.ensures.ok))))

pub returns : goal.returns
unfolding terminals_from
returns c =
    sym (c.loop-i.invariant
    ∙ (ap (λ z. c.loop-i.found ++ z) (at_drop_all (terminals_from c.args.labels.now c.args.text.now c.loop-i.i) c.args.syms.now c.loop-i.i (omega arith))
    ∙ append-nil c.loop-i.found))
