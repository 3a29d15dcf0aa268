-- The cut of lines up to a place, and how it ends there.
use Rattle.std.proofs.Common.{◌≡◌, ℕ, zero, suc, ◌+◌, ◌<◌, ◌≤◌, Bool, false, List, [], ◌∷◌, ◌++◌, Option, Some, None, length, drop, get_or, refl, sym, ap, subst, ◌∙◌, append_assoc, arith}
use Rattle.std.specs.List.{AllByRecursion}
use Rattle.std.proofs.lemmas.List.{append-nil, at_drop_more, at_drop_all, map-append}
use Rattle.token_file.specs.declared.line.Line.{Line}
use Rattle.bas_lex.specs.declared.symbol.Sym.{Sym}
use Rattle.bas_lex.specs.Cut.{Symbols, Bad, AreInOrder}
use Rattle.bas_lex.proofs.Order.{order_within}
use Rattle.expr_parse.specs.Terminals.{AreWithin}
use Rattle.profile_check.specs.declared.cut_line.CutLine.{CutLine}
use Rattle.profile_check.specs.Cutting.{Cut, IsCut, cut_of, cuts_of, with_symbols}

-- The lines up to a place are cut: how the rest is cut is how all are.
pub record IsCutTo (lines : List Line) (cuts : List CutLine) (asm : Bool) (i : ℕ) : Type 0 where
  pub goes_on : (more : List Cut) (bad : Option ℕ) → IsCut asm (drop i lines) more bad → IsCut false lines (cuts_of cuts ++ more) bad

pub cut_begins : (lines : List Line) → IsCutTo lines [] false 0
cut_begins lines = record { goes_on = λ more bad so. so }

line_at : (lines : List Line) (i : ℕ) (line : Line) → i < length lines → line ≡ get_or lines i line → drop i lines ≡ line ∷ drop (i + 1) lines
line_at lines i line within is = at_drop_more (λ (r : List Line). r) lines i line within ∙ ap (λ (l : Line). l ∷ drop (i + 1) lines) (sym is)

-- one line more
pub cut_more : (lines : List Line) (cuts cuts' : List CutLine) (asm after : Bool) (i : ℕ) (line : Line) (cut : CutLine) (symbols : List Sym) → IsCutTo lines cuts asm i → i < length lines → line ≡ get_or lines i line
    → Symbols asm line.text symbols after → cut_of cut ≡ with_symbols asm line symbols → cuts' ≡ cuts ++ cut ∷ [] → IsCutTo lines cuts' after (i + 1)
cut_more lines cuts cuts' asm after i line cut symbols so within is here it is_cuts = record {
  goes_on = λ more bad rest.
      let front : IsCut asm (line ∷ drop (i + 1) lines) (cut_of cut ∷ more) bad = (symbols, after, here, it, rest) in
      let all = so.goes_on (cut_of cut ∷ more) bad (subst (λ (r : List Line). IsCut asm r (cut_of cut ∷ more) bad) (sym (line_at lines i line within is)) front) in
      subst (λ (c : List Cut). IsCut false lines c bad) (sym (append_assoc (cuts_of cuts) (cut_of cut ∷ []) more) ∙ ap (λ (c : List Cut). c ++ more) (sym (ap cuts_of is_cuts ∙ map-append cut_of cuts (cut ∷ [])))) all;
}

-- all lines are cut
pub all_cut : (lines : List Line) (cuts : List CutLine) (asm : Bool) (i : ℕ) → IsCutTo lines cuts asm i → length lines ≤ i → IsCut false lines (cuts_of cuts) None
all_cut lines cuts asm i so le =
    let rest = subst (λ (r : List Line). IsCut asm r [] None) (sym (at_drop_all (λ (r : List Line). r) lines i le)) refl in
    subst (λ (c : List Cut). IsCut false lines c None) (append-nil (cuts_of cuts)) (so.goes_on [] None rest)

-- the line at the place has a bad place
pub cut_stops : (lines : List Line) (cuts : List CutLine) (asm : Bool) (i at : ℕ) (line : Line) → IsCutTo lines cuts asm i → i < length lines → line ≡ get_or lines i line → Bad asm line.text at
    → IsCut false lines (cuts_of cuts) (Some line.number)
cut_stops lines cuts asm i at line so within is bad =
    let front : IsCut asm (line ∷ drop (i + 1) lines) [] (Some line.number) = (at, bad, refl) in
    let rest = subst (λ (r : List Line). IsCut asm r [] (Some line.number)) (sym (line_at lines i line within is)) front in
    subst (λ (c : List Cut). IsCut false lines c (Some line.number)) (append-nil (cuts_of cuts)) (so.goes_on [] (Some line.number) rest)

-- symbols in order lie within the text
pub within_order : (from : ℕ) (text : List ℕ) (list : List Sym) → AreInOrder from list (length text) → AreWithin text list
within_order from text [] order k d less = absurd (omega (arith, less))
within_order from text (s ∷ list) order zero d less = (order.1, order_within s.to (length text) list order.2)
within_order from text (s ∷ list) order (suc k) d less = within_order s.to text list order.2 k d (omega (arith, less))

-- what holds of each line holds of the one at a place
pub line_has : (P : Line → Type 0) (lines : List Line) (i : ℕ) (line : Line) → AllByRecursion P lines → i < length lines → line ≡ get_or lines i line → P line
line_has P [] i line all within is = absurd (omega (arith, within))
line_has P (l ∷ lines) zero line all within is = subst P (sym is) all.0
line_has P (l ∷ lines) (suc i) line all within is = line_has P lines i line all.1 (omega (arith, within)) is
