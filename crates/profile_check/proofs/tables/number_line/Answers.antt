use Rattle.std.proofs.Common.{◌≡◌, ℕ, get_or, List, false, pos, sym, ap, ◌∙◌, arith}
use Rattle.std.proofs.lemmas.List.{append-nil}
use Rattle.bas_lex.specs.declared.symbol.Sym.{Sym}
use Rattle.bas_lex.specs.declared.symbol.SymKind.TheVariants as kinds
use Rattle.bas_ast.specs.declared.terminals.Terminal.TheVariants as t
use Rattle.profile_check.specs.Tables.{NumberedLine, lists_of, number_line, number_terminal}
use Rattle.profile_check.proofs.NumberSteps.{number_more, number_end, after_terminals}
use Rattle.profile_check.proofs.tables.number_line.Goals as goal

other : Sym
other = record { kind = kinds.Token 0; from = 0; to = 0; asm = false }

pub loop-i-preserved : goal.loop-i-preserved
unfolding other
loop-i-preserved c =
    let at = λ (bytes : List ℕ). number_terminal c.args.line c.loop-i.in_data bytes (get_or c.args.terminals.now c.loop-i.i (t.Number (pos 0))) (lists_of c.loop-i.tables) in
    c.loop-i.invariant
    ∙ number_more c.args.line c.args.text.now c.loop-i.in_data c.is_data-in_data.result c.args.symbols.now c.args.terminals.now c.loop-i.list c.push.new.self (lists_of c.loop-i.tables) (lists_of c.number_terminal.new.tables)
    c.loop-i.i other (t.Number (pos 0)) c.in_ok-number_terminal.field-0 (omega arith) (omega arith)
    (c.in_ok-number_terminal.ensures.terminal ∙ ap (λ (bytes : List ℕ). (at bytes).terminal) c.bytes_of-bytes.ensures)
    (c.in_ok-number_terminal.ensures.lists ∙ ap (λ (bytes : List ℕ). (at bytes).lists) c.bytes_of-bytes.ensures) c.is_data-in_data.ensures c.in_ok-push.ensures.ok

at_end : (c : goal.After-loop-i) → number_line c.args.line c.args.text.now false c.args.symbols.now c.args.terminals.now (lists_of c.args.tables.now) ≡ record { terminals = c.loop-i.list; lists = lists_of c.loop-i.tables }
at_end c =
    c.loop-i.invariant
    ∙ ap (after_terminals c.loop-i.list) (number_end c.args.line c.args.text.now c.loop-i.in_data c.args.symbols.now c.args.terminals.now (lists_of c.loop-i.tables) c.loop-i.i (omega arith) (omega arith))
    ∙ ap (λ list. record { terminals = list; lists = lists_of c.loop-i.tables }) (append-nil c.loop-i.list)

pub returns-clause-terminals : goal.returns-clause-terminals
returns-clause-terminals c = sym (ap (λ (n : NumberedLine). n.terminals) (at_end c))

pub returns-clause-lists : goal.returns-clause-lists
returns-clause-lists c = sym (ap (λ (n : NumberedLine). n.lists) (at_end c))
