-- The lines of a program up to a place, one line more, and the first that is outside.
use Rattle.std.proofs.Common.{◌≡◌, inl, inr, ℕ, suc, Some, true, false, ◌+◌, ◌<◌, ◌≤◌, List, [], ◌∷◌, ◌++◌, Option, length, drop, get_or, refl, sym, ap, subst, ◌∙◌}
use Rattle.std.proofs.lemmas.List.{append-nil, append_assoc, at_drop_more, at_drop_all}
use Rattle.std.specs.List.{list_all}
use Rattle.bas_lex.specs.declared.symbol.Sym.{Sym}
use Rattle.bas_ast.specs.declared.lines.Item.{Item}
use Rattle.bas_ast.specs.declared.program.Name.{Name}
use Rattle.bas_ast.specs.declared.program.ProgLine.{ProgLine}
use Rattle.bas_ast.specs.declared.terminals.Terminal.{Terminal}
use Rattle.bas_ast.specs.Lines.{IsRun}
use Rattle.expr_parse.specs.Terminals.{terminals_from}
use Rattle.bas_parse.specs.Parsed.{OneRun}
use Rattle.bas_rules.specs.Profile.{in_profile}
use Rattle.profile_check.specs.declared.cut_line.CutLine.{CutLine}
use Rattle.profile_check.specs.Cutting.{Cut, cut_of, cuts_of}
use Rattle.profile_check.specs.Programs.{IsLine, AreLines, numbered}
use Rattle.profile_check.specs.Refused.{IsFirstOutside}
use Rattle.profile_check.specs.Tables.{Lists, no_lists}

-- The lines up to a place are these and made these lists, whatever comes after.
pub record AreLinesTo (labels : List Name) (cuts : List CutLine) (progs : List ProgLine) (i : ℕ) (lists : Lists) : Type 0 where
  pub goes_on : (more : List ProgLine) (after : Lists) → AreLines labels i lists (cuts_of (drop i cuts)) more after → AreLines labels 0 no_lists (cuts_of cuts) (progs ++ more) after
  pub outside_on : (bad : Option ℕ) (number : ℕ) → IsFirstOutside labels i lists (cuts_of (drop i cuts)) bad number → IsFirstOutside labels 0 no_lists (cuts_of cuts) bad number

pub lines_begin : (labels : List Name) (cuts : List CutLine) → AreLinesTo labels cuts [] 0 no_lists
lines_begin labels cuts = record { goes_on = λ more after so. so; outside_on = λ bad number so. so }

pub line_more : (labels : List Name) (cuts : List CutLine) (progs : List ProgLine) (i : ℕ) (lists lists' : Lists) (cut : CutLine) (items : List Item) (progs' : List ProgLine)
    → AreLinesTo labels cuts progs i lists → i < length cuts → cut ≡ get_or cuts i cut → IsLine labels i lists (cut_of cut) items → lists' ≡ (numbered labels i lists (cut_of cut)).lists
    → progs' ≡ progs ++ record { number = cut.number; items = items } ∷ [] → AreLinesTo labels cuts progs' (i + 1) lists'
line_more labels cuts progs i lists lists' cut items progs' so within is line is_lists is_progs =
    let front : drop i cuts ≡ cut ∷ drop (i + 1) cuts = at_drop_more (λ (c : List CutLine). c) cuts i cut within ∙ ap (λ (c : CutLine). c ∷ drop (i + 1) cuts) (sym is) in
    let prog : ProgLine = record { number = cut.number; items = items } in
    record {
      goes_on = λ more after rest.
          let here : AreLines labels i lists (cuts_of (cut ∷ drop (i + 1) cuts)) (prog ∷ more) after =
          (refl, line, subst (λ (l : Lists). AreLines labels (i + 1) l (cuts_of (drop (i + 1) cuts)) more after) is_lists rest) in
          let all = so.goes_on (prog ∷ more) after (subst (λ (c : List CutLine). AreLines labels i lists (cuts_of c) (prog ∷ more) after) (sym front) here) in
          subst (λ (p : List ProgLine). AreLines labels 0 no_lists (cuts_of cuts) p after) (sym (append_assoc progs (prog ∷ []) more) ∙ ap (λ (p : List ProgLine). p ++ more) (sym is_progs)) all;
      outside_on = λ bad number rest.
          let here : IsFirstOutside labels i lists (cuts_of (cut ∷ drop (i + 1) cuts)) bad number =
          inr (items, line, subst (λ (l : Lists). IsFirstOutside labels (i + 1) l (cuts_of (drop (i + 1) cuts)) bad number) is_lists rest) in
          so.outside_on bad number (subst (λ (c : List CutLine). IsFirstOutside labels i lists (cuts_of c) bad number) (sym front) here);
    }

-- all lines
pub lines_end : (labels : List Name) (cuts : List CutLine) (progs : List ProgLine) (i : ℕ) (lists : Lists) → AreLinesTo labels cuts progs i lists → length cuts ≤ i
    → AreLines labels 0 no_lists (cuts_of cuts) progs lists × ((bad : Option ℕ) (number : ℕ) → bad ≡ Some number → IsFirstOutside labels 0 no_lists (cuts_of cuts) bad number)
lines_end labels cuts progs i lists so le =
    let none : drop i cuts ≡ [] = at_drop_all (λ (c : List CutLine). c) cuts i le in (
      subst (λ (p : List ProgLine). AreLines labels 0 no_lists (cuts_of cuts) p lists) (append-nil progs) (so.goes_on [] lists (subst (λ (c : List CutLine). AreLines labels i lists (cuts_of c) [] lists) (sym none) refl)),
      λ bad number e. so.outside_on bad number (subst (λ (c : List CutLine). IsFirstOutside labels i lists (cuts_of c) bad number) (sym none) e),
    )

-- the line at the place is the first that is outside
pub line_outside : (labels : List Name) (cuts : List CutLine) (progs : List ProgLine) (i : ℕ) (lists : Lists) (cut : CutLine) → AreLinesTo labels cuts progs i lists → i < length cuts → cut ≡ get_or cuts i cut
    → ((items : List Item) → IsLine labels i lists (cut_of cut) items → ⊥) → (bad : Option ℕ) → IsFirstOutside labels 0 no_lists (cuts_of cuts) bad cut.number
line_outside labels cuts progs i lists cut so within is none bad =
    let front : drop i cuts ≡ cut ∷ drop (i + 1) cuts = at_drop_more (λ (c : List CutLine). c) cuts i cut within ∙ ap (λ (c : CutLine). c ∷ drop (i + 1) cuts) (sym is) in
    so.outside_on bad cut.number (subst (λ (c : List CutLine). IsFirstOutside labels i lists (cuts_of c) bad cut.number) (sym front) (inl (none, refl)))

-- each symbol is a terminal
pub terminals_each : (labels : List Name) (text : List ℕ) (n : ℕ) (symbols : List Sym) → length (terminals_from labels text n symbols) ≡ length symbols
unfolding terminals_from
terminals_each labels text n [] = refl
terminals_each labels text n (s ∷ symbols) = ap (λ (k : ℕ). suc k) (terminals_each labels text (n + 1) symbols)

-- the items of a line have no meaning, and there are no others
pub no_meaning : (labels : List Name) (place : ℕ) (lists : Lists) (cut : Cut) (list : List Terminal) (xs : List Item) → OneRun list → IsRun list xs → list ≡ (numbered labels place lists cut).terminals
    → list_all in_profile xs ≡ false → (items : List Item) → IsLine labels place lists cut items → ⊥
no_meaning labels place lists cut list xs one run is none items line =
    let same : items ≡ xs = one items xs (subst (λ (l : List Terminal). IsRun l items) (sym is) line.is_run) run in
    let both : true ≡ false = sym line.has_meaning ∙ ap (λ (x : List Item). list_all in_profile x) same ∙ none in
    cc

-- lines that are spelled, and then a bad one
pub outside_after : (labels : List Name) (place : ℕ) (lists after : Lists) (cuts : List Cut) (progs : List ProgLine) (bad : Option ℕ) (number : ℕ) → AreLines labels place lists cuts progs after
    → bad ≡ Some number → IsFirstOutside labels place lists cuts bad number
outside_after labels place lists after [] [] bad number lines e = e
outside_after labels place lists after [] (prog ∷ progs) bad number lines e = elim lines [ ]
outside_after labels place lists after (cut ∷ cuts) [] bad number lines e = elim lines [ ]
outside_after labels place lists after (cut ∷ cuts) (prog ∷ progs) bad number lines e =
    inr (prog.items, lines.1, outside_after labels (place + 1) (numbered labels place lists cut).lists after cuts progs bad number lines.2 e)
