-- The laws of expressions.
use Rattle.std.proofs.Common.{◌≡◌, ℕ, suc, ◌≤◌, Bool, true, false, List, [], ◌++◌, length, Some, None, refl, ap, sym, subst, ◌∙◌, length-append, lit≤, lit<, arith, ◌-◌, drop, Result, Err}
use Rattle.std.proofs.Math.Seq.{drop-append_seam}
use Rattle.bas_ast.specs.declared.expressions.NumExpr.{NumExpr}
use Rattle.bas_ast.specs.declared.expressions.StrExpr.{StrExpr}
use Rattle.bas_ast.specs.declared.terminals.Terminal.{Terminal}
use Rattle.bas_ast.specs.Expressions.{IsNum, IsStr}
use Rattle.expr_parse.specs.declared.failure.Failure.{Failure}
use Rattle.expr_parse.specs.declared.failure.Failure.TheVariants as failure
use Rattle.expr_parse.specs.declared.found.Found.{Found}
use Rattle.expr_parse.specs.declared.found.Found.TheVariants as found
use Rattle.expr_parse.specs.declared.top.ParseError.{ParseError}
use Rattle.expr_parse.specs.Longest.{Fronts, Longest, NoFront, OneTree}
use Rattle.expr_parse.specs.Parsed.{Parsed, parse_error}
use Rattle.expr_parse.specs.Reads.{Reads}
use Rattle.expr_parse.specs.Parse as p
use Rattle.expr_parse.specs.Parse.{Front}
use Rattle.expr_parse.proofs.Fronts.{Holds, of_some}
use Rattle.expr_parse.proofs.Sound.{expression_at, number_at, text_at}
use Rattle.expr_parse.proofs.Complete.{num_read, text_read, complete_num, complete_text, number_of, text_of, found_num, either_text}

-- ---- one tree

number_tree : NumExpr → Found → NumExpr
number_tree other (found.Number l x) = x
number_tree other (found.Text y) = other

text_tree : StrExpr → Found → StrExpr
text_tree other (found.Number l x) = other
text_tree other (found.Text y) = y

is_text : Found → Bool
is_text (found.Number l x) = false
is_text (found.Text y) = true

found_in : Found → Front Found → Found
found_in other None = other
found_in other (Some z) = z.0

number_alone : (a : List Terminal) (x : NumExpr) (d : IsNum 1 a x) → (left : ℕ) × (p.expression (suc (length a)) 1 (a ++ []) ≡ Some (found.Number left x, []))
number_alone a x d =
    let h = num_read (suc (length a)) 1 1 a [] x (complete_num 1 a x d (suc (length a)) 1 [] (omega arith) (lit≤ tt)) in
    (h.left, found_num (suc (length a)) 1 1 a [] x h refl (lit≤ tt) (lit< tt))

text_alone : (a : List Terminal) (y : StrExpr) (d : IsStr 4 a y) → p.expression (suc (length a)) 1 (a ++ []) ≡ Some (found.Text y, [])
text_alone a y d = either_text (suc (length a)) 4 a [] y (complete_text 4 a y d (suc (length a)) 1 [] (omega arith) (lit≤ tt)) refl refl

one_number : (a : List Terminal) (x y : NumExpr) → IsNum 1 a x → IsNum 1 a y → x ≡ y
unfolding number_tree found_in
one_number a x y d e =
    let h = number_alone a x d in let k = number_alone a y e in
    ap (λ m. number_tree x (found_in (found.Number 0 x) m)) (sym h.1 ∙ k.1)

one_text : (a : List Terminal) (x y : StrExpr) → IsStr 4 a x → IsStr 4 a y → x ≡ y
unfolding text_tree found_in
one_text a x y d e = ap (λ m. text_tree x (found_in (found.Text x) m)) (sym (text_alone a x d) ∙ text_alone a y e)

one_kind : (a : List Terminal) (x : NumExpr) (y : StrExpr) → IsNum 1 a x → IsStr 4 a y → ⊥
unfolding is_text found_in
one_kind a x y d e =
    let h = number_alone a x d in
    let wrong : false ≡ true = ap (λ m. is_text (found_in (found.Text y) m)) (sym h.1 ∙ text_alone a y e) in cc

pub one_tree : (a : List Terminal) → OneTree a
one_tree a = record { numbers = one_number a; texts = one_text a; one_kind = one_kind a }

-- ---- the longest front

rest_in : {A : Type 0} → List Terminal → Front A → List Terminal
rest_in other None = other
rest_in other (Some z) = z.1

-- what the parser does before a number that stands at the front
before_number : (r : List Terminal) (y : NumExpr) (q : List Terminal) → Fronts (IsNum 1) r y q
    → (x : NumExpr) × (q1 : List Terminal) × (p.number (p.expression (suc (length r))) 1 r ≡ Some (x, q1)) × (length q1 ≤ length q)
before_number r y q f =
    let n = suc (length r) in
    let size = ap length f.split in
    let parts = length-append f.front q in
    let h = num_read n 1 1 f.front q y (complete_num 1 f.front y f.is n 1 q (omega arith) (lit≤ tt)) in
    (h.tree, h.rest, ap (λ z. p.number (p.expression n) 1 z) f.split ∙ number_of (p.expression n) 1 h.left (f.front ++ q) h.tree h.rest h.is, h.shorter)

before_text : (r : List Terminal) (y : StrExpr) (q : List Terminal) → Fronts (IsStr 4) r y q
    → (x : StrExpr) × (q1 : List Terminal) × (p.text (p.expression (suc (length r))) 4 r ≡ Some (x, q1)) × (length q1 ≤ length q)
before_text r y q f =
    let n = suc (length r) in
    let size = ap length f.split in
    let parts = length-append f.front q in
    let h = text_read n 4 4 f.front q y (lit≤ tt) (complete_text 4 f.front y f.is n 4 q (omega arith) (lit≤ tt)) in
    (h.tree, h.rest, ap (λ z. p.text (p.expression n) 4 z) f.split ∙ text_of (p.expression n) 4 (f.front ++ q) h.tree h.rest h.is, h.shorter)

pub num_found : (r : List Terminal) (x : NumExpr) (q : List Terminal) → p.longest_num r ≡ Some (x, q) → Longest (IsNum 1) r x q
unfolding p.longest_num rest_in
num_found r x q e = record {
  here = of_some (Fronts (IsNum 1) r) x q (subst (λ m. Holds (Fronts (IsNum 1) r) m) e
      (number_at (p.expression (suc (length r))) (expression_at (suc (length r))) 1 r (lit≤ tt)));
  longest = λ y q' f.
      let h = before_number r y q' f in
      let same : q ≡ h.1 = ap (λ m. rest_in q m) (sym e ∙ h.2) in
      let short = h.3 in let size = ap length same in omega arith;
}

pub text_found : (r : List Terminal) (x : StrExpr) (q : List Terminal) → p.longest_text r ≡ Some (x, q) → Longest (IsStr 4) r x q
unfolding p.longest_text rest_in
text_found r x q e = record {
  here = of_some (Fronts (IsStr 4) r) x q (subst (λ m. Holds (Fronts (IsStr 4) r) m) e
      (text_at (p.expression (suc (length r))) (expression_at (suc (length r))) 4 r (lit≤ tt)));
  longest = λ y q' f.
      let h = before_text r y q' f in
      let same : q ≡ h.1 = ap (λ m. rest_in q m) (sym e ∙ h.2) in
      let short = h.3 in let size = ap length same in omega arith;
}

is_there : {A : Type 0} → Front A → Bool
is_there None = false
is_there (Some z) = true

pub num_none : (r : List Terminal) → p.longest_num r ≡ None → NoFront (IsNum 1) r
unfolding p.longest_num is_there
num_none r e = λ y q f. let h = before_number r y q f in let wrong : false ≡ true = ap is_there (sym e ∙ h.2) in cc

pub text_none : (r : List Terminal) → p.longest_text r ≡ None → NoFront (IsStr 4) r
unfolding p.longest_text is_there
text_none r e = λ y q f. let h = before_text r y q f in let wrong : false ≡ true = ap is_there (sym e ∙ h.2) in cc

-- ---- answers as numbers of terminals

after_front : {A : Type 0} (Is : List Terminal → A → Type 0) (r : List Terminal) (x : A) (q : List Terminal) → Fronts Is r x q
    → (length q ≤ length r) × (q ≡ drop (length r - length q) r)
after_front Is r x q f =
    let size = ap length f.split in
    let parts = length-append f.front q in
    let count : length r - length q ≡ length f.front = omega arith in
    (omega arith, sym (ap (λ n. drop n r) count ∙ (ap (λ z. drop (length f.front) z) f.split ∙ drop-append_seam f.front q)))

counted : {A : Type 0} (Is : List Terminal → A → Type 0) (r : List Terminal) (x : A) (q : List Terminal) → Longest Is r x q
    → (length r - length q ≤ length r) × Longest Is r x (drop (length r - length q) r)
counted Is r x q h = let e = after_front Is r x q h.here in (omega arith, subst (λ z. Longest Is r x z) e.1 h)

-- what the public parsers answer where nothing was read
failed : {A : Type 0} (Is : List Terminal → A → Type 0) (r : List Terminal) (front : Front A) (rest : List Terminal) (f : Failure)
    (answer : Result (A × ℕ) ParseError) → (front ≡ None → NoFront Is r) → Reads front (Err f) rest → answer ≡ Err (parse_error f) → Parsed Is r answer
failed Is r front rest failure.Absent answer outside h e = subst (Parsed Is r) (sym e) (outside h)
failed Is r front rest failure.NoMemory answer outside h e = subst (Parsed Is r) (sym e) tt

pub num_shorter : (r : List Terminal) (x : NumExpr) (rest : List Terminal) → p.longest_num r ≡ Some (x, rest) → length rest ≤ length r
num_shorter r x rest e = (after_front (IsNum 1) r x rest (num_found r x rest e).here).0

pub num_counted : (r : List Terminal) (x : NumExpr) (rest : List Terminal) → p.longest_num r ≡ Some (x, rest)
    → (length r - length rest ≤ length r) × Longest (IsNum 1) r x (drop (length r - length rest) r)
num_counted r x rest e = counted (IsNum 1) r x rest (num_found r x rest e)

pub num_failed : (r rest : List Terminal) (f : Failure) (answer : Result (NumExpr × ℕ) ParseError)
    → Reads (p.longest_num r) (Err f) rest → answer ≡ Err (parse_error f) → Parsed (IsNum 1) r answer
num_failed r rest f answer h e = failed (IsNum 1) r (p.longest_num r) rest f answer (num_none r) h e

pub text_shorter : (r : List Terminal) (x : StrExpr) (rest : List Terminal) → p.longest_text r ≡ Some (x, rest) → length rest ≤ length r
text_shorter r x rest e = (after_front (IsStr 4) r x rest (text_found r x rest e).here).0

pub text_counted : (r : List Terminal) (x : StrExpr) (rest : List Terminal) → p.longest_text r ≡ Some (x, rest)
    → (length r - length rest ≤ length r) × Longest (IsStr 4) r x (drop (length r - length rest) r)
text_counted r x rest e = counted (IsStr 4) r x rest (text_found r x rest e)

pub text_failed : (r rest : List Terminal) (f : Failure) (answer : Result (StrExpr × ℕ) ParseError)
    → Reads (p.longest_text r) (Err f) rest → answer ≡ Err (parse_error f) → Parsed (IsStr 4) r answer
text_failed r rest f answer h e = failed (IsStr 4) r (p.longest_text r) rest f answer (text_none r) h e
