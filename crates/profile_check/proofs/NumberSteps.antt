-- The numbers of a line's terminals, one terminal more.
use Rattle.std.proofs.Common.{◌≡◌, ℕ, ◌+◌, ◌<◌, ◌≤◌, Bool, List, [], ◌∷◌, ◌++◌, Some, None, length, drop, get_or, slice_range, sym, ap, ◌∙◌, append_assoc}
use Rattle.std.proofs.lemmas.List.{at_drop_more, at_drop_all}
use Rattle.bas_lex.specs.declared.symbol.Sym.{Sym}
use Rattle.bas_ast.specs.declared.program.Name.{Name}
use Rattle.bas_ast.specs.declared.terminals.Terminal.{Terminal}
use Rattle.bas_ast.specs.declared.terminals.Terminal.TheVariants as t
use Rattle.bas_rules.specs.Names.{name_of}
use Rattle.profile_check.specs.Tables.{Lists, NumberedLine, number_name, number_terminal, number_line, is_data}

-- a terminal that is a name
pub named_terminal : (line : ℕ) (in_data : Bool) (bytes : List ℕ) (terminal : Terminal) (lists : Lists) (name : Name) → name_of bytes terminal ≡ Some name
    → number_terminal line in_data bytes terminal lists ≡ number_name terminal lists (Some name)
named_terminal line in_data bytes (t.Literal n) lists name e = let none : None ≡ Some name = e in cc
named_terminal line in_data bytes (t.Tail n) lists name e = let none : None ≡ Some name = e in cc
named_terminal line in_data bytes terminal lists name e = ap (number_name terminal lists) e

-- what the terminals up to a place have come to, with the rest of the line
abbrev pub after_terminals : List Terminal → NumberedLine → NumberedLine
after_terminals list rest = record rest { terminals = list ++ rest.terminals }

pub number_more : (line : ℕ) (text : List ℕ) (in_data in_data' : Bool) (symbols : List Sym) (terminals list list' : List Terminal) (lists lists' : Lists) (i : ℕ) (s : Sym) (c out : Terminal)
    → i < length symbols → i < length terminals
    → out ≡ (number_terminal line in_data (slice_range text (get_or symbols i s).from (get_or symbols i s).to) (get_or terminals i c) lists).terminal
    → lists' ≡ (number_terminal line in_data (slice_range text (get_or symbols i s).from (get_or symbols i s).to) (get_or terminals i c) lists).lists
    → in_data' ≡ is_data (get_or terminals i c) → list' ≡ list ++ out ∷ []
    → after_terminals list (number_line line text in_data (drop i symbols) (drop i terminals) lists) ≡ after_terminals list' (number_line line text in_data' (drop (i + 1) symbols) (drop (i + 1) terminals) lists')
unfolding number_line
number_more line text in_data in_data' symbols terminals list list' lists lists' i s c out few many is_out is_lists is_in_data is_list =
    let here = get_or symbols i s in
    let it = get_or terminals i c in
    let first = number_terminal line in_data (slice_range text here.from here.to) it lists in
    let rest : NumberedLine = number_line line text (is_data it) (drop (i + 1) symbols) (drop (i + 1) terminals) first.lists in
    let joined : list ++ (first.terminal ∷ rest.terminals) ≡ list' ++ rest.terminals =
    sym (append_assoc list (first.terminal ∷ []) rest.terminals) ∙ ap (λ (o : Terminal). (list ++ o ∷ []) ++ rest.terminals) (sym is_out) ∙ ap (λ (l : List Terminal). l ++ rest.terminals) (sym is_list) in
    ap (after_terminals list) (at_drop_more (λ ss. number_line line text in_data ss (drop i terminals) lists) symbols i s few
    ∙ at_drop_more (λ ts. number_line line text in_data (here ∷ drop (i + 1) symbols) ts lists) terminals i c many)
    ∙ ap (λ (l : List Terminal). record { terminals = l; lists = rest.lists }) joined
    ∙ ap (λ (l : Lists). after_terminals list' (number_line line text (is_data it) (drop (i + 1) symbols) (drop (i + 1) terminals) l)) (sym is_lists)
    ∙ ap (λ (d : Bool). after_terminals list' (number_line line text d (drop (i + 1) symbols) (drop (i + 1) terminals) lists')) (sym is_in_data)

pub number_end : (line : ℕ) (text : List ℕ) (in_data : Bool) (symbols : List Sym) (terminals : List Terminal) (lists : Lists) (i : ℕ) → length symbols ≤ i → length terminals ≤ i
    → number_line line text in_data (drop i symbols) (drop i terminals) lists ≡ record { terminals = []; lists = lists }
unfolding number_line
number_end line text in_data symbols terminals lists i few many =
    at_drop_all (λ ss. number_line line text in_data ss (drop i terminals) lists) symbols i few
    ∙ at_drop_all (λ ts. number_line line text in_data [] ts lists) terminals i many
