-- The flat code of a well-formed program is well formed.
use Rattle.std.proofs.Common.{◌≡◌, ℕ, zero, suc, ◌+◌, ◌*◌, ◌<◌, ◌≤◌, List, [], ◌∷◌, ◌++◌, Option, None, Some, refl, sym, ap, subst, ◌∙◌, length, length-append, append_assoc, map, sum_by, lit≤, arith}
use Rattle.std.specs.Prelude.{flat_map, slice_get, sum}
use Rattle.std.specs.List.{AllByRecursion, range_with_len}
use Rattle.std.proofs.lemmas.List.Elements.{recursion_from_All}
use Rattle.std.proofs.lemmas.List.FromFn.{length-range_with_len}
use Rattle.std.proofs.lemmas.List.Sums.{sum-map, sum_by-cons}
use Rattle.bas_ast.specs.declared.program.DataItem.{DataItem}
use Rattle.bas_ast.specs.declared.program.Name.{Name}
use Rattle.bas_ast.specs.declared.program.Prog.{Prog}
use Rattle.bas_ast.specs.declared.program.ProgLine.{ProgLine}
use Rattle.bas_ast.specs.declared.terminals.Terminal.{Terminal}
use Rattle.bas_ast.specs.declared.terminals.Terminal.TheVariants as t
use Rattle.bas_ast.specs.WellFormed.{most_symbols, IsNamed, AreLinesOf, literals, weight, WellFormed}
use Rattle.bas_ir.specs.declared.op.Op.{Op}
use Rattle.bas_ir.specs.WellFormed.{most_code, code_bytes, IsThere, IsWellFormed}
use Rattle.ir_build.specs.Code.{codes, joined, line_starts_from, flat_code}
use Rattle.bas_sem.specs.Data.{data_texts}
use Rattle.bas_sem.specs.Places.{Row, rows}
use Rattle.ir_build.specs.Tables.{line_rows}
use Rattle.ir_build.proofs.Coded.{at_most_one_text}
use Rattle.ir_build.proofs.Fits.{worth_all, worth_is, cost, cost_append, AllKnown, AllThere, append_there}
use Rattle.ir_build.proofs.PendingBounds.{up_to_at}
use Rattle.ir_build.proofs.FitCases.{AllLow, paid_row, paid_from, codes_paid, CodesFit, codes_fit}
use Rattle.ir_build.proofs.FitLines.{low_more, LineFits, run_fits}
use Rattle.ir_build.proofs.LaidOut.{all_starts, laid_out}

-- ---- names and texts are there

there_is : {A : Type 0} (xs : List A) (n : ℕ) (x : A) → slice_get xs n ≡ Some x → n < length xs
there_is [] n x is = absurd (cc)
there_is (y ∷ xs) zero x is = omega arith
there_is (y ∷ xs) (suc n) x is = omega (arith, there_is xs n x is)

-- numbers below this
abbrev Below : ℕ → List ℕ → Type 0
Below most [] = Unit {0}
Below most (n ∷ ns) = (n < most) × Below most ns

range_below : (most from n : ℕ) → from + n ≤ most → Below most (range_with_len from n)
range_below most from zero up_to = tt
range_below most from (suc n) up_to = (omega (arith, up_to), range_below most (from + 1) n (omega (arith, up_to)))

front_below : (most : ℕ) (xs ys : List ℕ) → Below most (xs ++ ys) → Below most xs
front_below most [] ys below = tt
front_below most (x ∷ xs) ys below = (below.0, front_below most xs ys below.1)

back_below : (most : ℕ) (xs ys : List ℕ) → Below most (xs ++ ys) → Below most ys
back_below most [] ys below = below
back_below most (x ∷ xs) ys below = back_below most xs ys below.1

-- ---- sums

cost_is : (ops : List Op) → sum_by most_code ops ≡ cost ops
cost_is [] = refl
cost_is (op ∷ ops) = omega (arith, sum_by-cons most_code op ops, cost_is ops)

texts_sum : (texts : List (List ℕ)) → sum_by (λ (text : List ℕ). 8 + length text) texts ≡ 8 * length texts + sum_by length texts
texts_sum [] = refl
texts_sum (text ∷ texts) =
    omega (arith, sum_by-cons (λ (text : List ℕ). 8 + length text) text texts, sum_by-cons length text texts, texts_sum texts)

abbrev text_of : DataItem → List ℕ
text_of d = d.text

data_sum : (items : List DataItem) → sum_by (λ (text : List ℕ). 8 + length text) (map text_of items) ≤ 96 * sum_by (λ (d : DataItem). 1 + length d.text) items
data_sum [] = lit≤ tt
data_sum (d ∷ items) =
    omega (arith, sum_by-cons (λ (text : List ℕ). 8 + length text) d.text (map text_of items), sum_by-cons (λ (d : DataItem). 1 + length d.text) d items, data_sum items)

abbrev worth_lines : List (List Terminal) → ℕ
worth_lines [] = 0
worth_lines (a ∷ rest) = worth_all a + worth_lines rest

worth_sum : (symbols : List (List Terminal)) → worth_lines symbols + 8 * length (flat_map literals symbols) + 384 * length symbols ≡ 96 * sum_by (λ (a : List Terminal). 4 + weight a) symbols
worth_sum [] = refl
worth_sum (a ∷ rest) =
    omega (arith, worth_is a, worth_sum rest, sum_by-cons (λ (a : List Terminal). 4 + weight a) a rest, length-append (literals a) (flat_map literals rest))

-- ---- lines

joined_append : (xs ys : List (List Op)) → joined (xs ++ ys) ≡ joined xs ++ joined ys
joined_append [] ys = refl
joined_append (x ∷ xs) ys = ap (λ l. x ++ l) (joined_append xs ys) ∙ sym (append_assoc x (joined xs) (joined ys))

paid_both : (prog : Prog) (place : ℕ) (one two : List Row) → paid_from prog place (one ++ two) ≡ paid_from prog place one ++ paid_from prog (place + length one) two
paid_both prog place [] two = ap (λ n. paid_from prog n two) (omega arith)
paid_both prog place (row ∷ one) two =
    ap (λ l. paid_row prog place row ∷ l)
    (paid_both prog (place + 1) one two ∙ ap (λ n. paid_from prog (place + 1) one ++ paid_from prog n two) (omega arith))

paid_long : (prog : Prog) (place : ℕ) (rs : List Row) → length (paid_from prog place rs) ≡ length rs
paid_long prog place [] = refl
paid_long prog place (r ∷ rs) = ap suc (paid_long prog (place + 1) rs)

append_low : (most : ℕ) (xs ys : List (List Op)) → AllLow most xs → AllLow most ys → AllLow most (xs ++ ys)
append_low most [] ys a b = b
append_low most (x ∷ xs) ys a b = (a.0, append_low most xs ys a.1 b)

line_starts_long : (cs : List (List Op)) (lines : List ProgLine) (place : ℕ) → length (line_starts_from cs lines place) ≡ length lines
line_starts_long cs [] place = refl
line_starts_long cs (line ∷ lines) place = ap suc (line_starts_long cs lines (place + length line.items))

lines_long : (names : List Name) (lines : List ProgLine) (symbols : List (List Terminal)) → AreLinesOf names lines symbols → length lines ≡ length symbols
lines_long names [] [] are = refl
lines_long names (line ∷ lines) (a ∷ rest) are = ap suc (lines_long names lines rest are.1)
lines_long names [] (a ∷ rest) are = absurd are
lines_long names (line ∷ lines) [] are = absurd are

module _ (prog : Prog) where
  -- The code that the items of lines pay for, and a word for each item.
  record LinesFit (symbols : List (List Terminal)) (cs : List (List Op)) : Type 0 where
    there : AllThere prog (joined cs)
    cheap : cost (joined cs) + 4 * length cs ≤ worth_lines symbols + 20 * length symbols
    low : AllLow most_symbols cs

  known : (a : List Terminal) → AllByRecursion (IsNamed prog.names) a → Below (length prog.texts) (literals a) → AllKnown prog a
  known [] named below = tt
  known (t.IntName n ∷ a) named below = (there_is prog.names n _ named.0.1, known a named.1 below)
  known (t.Literal n ∷ a) named below = (below.0, known a named.1 below.1)
  known (_ ∷ a) named below = (tt, known a named.1 below)

  line_before : (a : List Terminal) (rest : List (List Terminal)) (own others : List (List Op)) → length a ≤ most_symbols → LineFits prog a own → LinesFit rest others
      → LinesFit (a ∷ rest) (own ++ others)
  line_before a rest own others few one more = record {
    there = subst (AllThere prog) (sym (joined_append own others)) (append_there prog (joined own) (joined others) one.there more.there);
    cheap = omega (arith, one.cheap, more.cheap, cost_append (joined own) (joined others), ap cost (joined_append own others), length-append own others);
    low = append_low most_symbols own others (low_more (length a) most_symbols own few one.low) more.low;
  }

  lines_fit : (lines : List ProgLine) (symbols : List (List Terminal)) → AreLinesOf prog.names lines symbols → Below (length prog.texts) (flat_map literals symbols) → (place : ℕ)
      → LinesFit symbols (paid_from prog place (flat_map line_rows lines))
  lines_fit [] [] are below place = record { there = tt; cheap = lit≤ tt; low = tt }
  lines_fit (line ∷ lines) (a ∷ rest) are below place =
      let named : AllByRecursion (IsNamed prog.names) a = recursion_from_All (IsNamed prog.names) a are.0.named in
      let own = run_fits prog line.number a line.items are.0.is_run (known a named (front_below (length prog.texts) (literals a) (flat_map literals rest) below)) place in
      let others = lines_fit lines rest are.1 (back_below (length prog.texts) (literals a) (flat_map literals rest) below) (place + length (line_rows line)) in
      subst (LinesFit (a ∷ rest)) (sym (paid_both prog place (line_rows line) (flat_map line_rows lines))) (line_before a rest _ _ are.0.few own others)
  lines_fit [] (a ∷ rest) are below place = absurd are
  lines_fit (line ∷ lines) [] are below place = absurd are

  abbrev some_or : Op → Option Op → Op
  some_or d None = d
  some_or d (Some op) = op

  each_there : (ops : List Op) (pc : ℕ) (op : Op) → AllThere prog ops → slice_get ops pc ≡ Some op → IsThere (flat_code prog) op
  each_there [] pc op all is = absurd (cc)
  each_there (x ∷ ops) zero op all is = subst (IsThere (flat_code prog)) (ap (some_or x) is) all.0
  each_there (x ∷ ops) (suc k) op all is = each_there ops k op all.1 is

  module _ (well : WellFormed prog) where
    all_fit : LinesFit well.symbols (paid_from prog 0 (rows prog))
    all_fit =
        let below : Below (length prog.texts) (flat_map literals well.symbols) =
        subst (Below (length prog.texts)) (sym well.texts) (range_below (length prog.texts) 0 (length prog.texts) (omega arith)) in
        lines_fit prog.lines well.symbols well.lines below 0

    fit : CodesFit prog (codes prog)
    unfolding codes
    fit = codes_fit prog (rows prog) 0 refl all_fit.there all_fit.low

    paid : cost (joined (codes prog)) ≤ cost (joined (paid_from prog 0 (rows prog)))
    unfolding codes
    paid = omega (arith, codes_paid prog 0 (rows prog) 0 refl)

    short : code_bytes (flat_code prog) ≤ 96 * prog.size
    short =
        let ops : sum (map most_code (joined (codes prog))) ≡ cost (joined (codes prog)) = sum-map most_code (joined (codes prog)) ∙ cost_is (joined (codes prog)) in
        let texts : sum (map (λ (text : List ℕ). 8 + length text) prog.texts) ≡ 8 * length prog.texts + sum_by length prog.texts =
        sum-map (λ (text : List ℕ). 8 + length text) prog.texts ∙ texts_sum prog.texts in
        let items : sum (map (λ (text : List ℕ). 8 + length text) (data_texts prog)) ≡ sum_by (λ (text : List ℕ). 8 + length text) (data_texts prog) =
        sum-map (λ (text : List ℕ). 8 + length text) (data_texts prog) in
        let literal_number : length (flat_map literals well.symbols) ≡ length prog.texts = ap length well.texts ∙ length-range_with_len 0 (length prog.texts) in
        omega (
          arith,
          ops,
          texts,
          items,
          literal_number,
          all_fit.cheap,
          paid,
          paid_long prog 0 (rows prog),
          data_sum prog.data_items,
          worth_sum well.symbols,
          line_starts_long (codes prog) prog.lines 0,
          all_starts prog,
          lines_long prog.names prog.lines well.symbols well.lines,
          well.size,
          sum-map (λ (a : List Terminal). 4 + weight a) well.symbols,
          sum-map length prog.texts,
          sum-map (λ (d : DataItem). 1 + length d.text) prog.data_items,
        )

    pub well_formed : IsWellFormed (flat_code prog)
    well_formed = record {
      laid_out = laid_out prog;
      there = λ pc op is. each_there (joined (codes prog)) pc op fit.there is;
      few_names = well.few_names;
      few_texts = λ pc. omega (arith, at_most_one_text prog pc);
      few_pending = λ pc. omega (arith, up_to_at most_symbols (flat_code prog).heights pc fit.up_to);
      short = short;
    }
