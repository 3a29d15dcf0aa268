-- The parser reads the parts of PRINT, VDU and INPUT up to the end of the item.
use Rattle.std.proofs.Common.{◌≡◌, ℕ, zero, suc, ◌<◌, ◌≤◌, Bool, true, false, ◌&&◌, not, List, [], ◌∷◌, ◌++◌, length, Some, None, if◌then◌else◌, refl, ap, sym, ◌∙◌, append_assoc, length-append, arith}
use Rattle.std.proofs.lemmas.List.{append-nil}
use Rattle.bas_ast.specs.declared.expressions.Any.{Any}
use Rattle.bas_ast.specs.declared.expressions.Any.TheVariants as any
use Rattle.bas_ast.specs.declared.expressions.BinaryOp.TheVariants as op
use Rattle.bas_ast.specs.declared.expressions.NumExpr.{NumExpr}
use Rattle.bas_ast.specs.declared.expressions.NumberFormat.TheVariants as format
use Rattle.bas_ast.specs.declared.expressions.StrExpr.{StrExpr}
use Rattle.bas_ast.specs.declared.keywords.Keyword.TheVariants as word
use Rattle.bas_ast.specs.declared.statements.InputPart.{InputPart}
use Rattle.bas_ast.specs.declared.statements.InputPart.TheVariants as input_part
use Rattle.bas_ast.specs.declared.statements.PrintPart.{PrintPart}
use Rattle.bas_ast.specs.declared.statements.PrintPart.TheVariants as print_part
use Rattle.bas_ast.specs.declared.statements.VduPart.{VduPart}
use Rattle.bas_ast.specs.declared.statements.VduPart.TheVariants as vdu_part
use Rattle.bas_ast.specs.declared.targets.Target.{Target}
use Rattle.bas_ast.specs.declared.terminals.Terminal.{Terminal}
use Rattle.bas_ast.specs.declared.terminals.Terminal.TheVariants as t
use Rattle.bas_ast.specs.Expressions as e
use Rattle.bas_ast.specs.Expressions.{IsNum, IsStr, IsAny}
use Rattle.bas_ast.specs.Statements as g
use Rattle.bas_ast.specs.Statements.{joins, IsPrint, IsVdu, IsInput, input_target}
use Rattle.expr_parse.specs.Parse as p
use Rattle.expr_parse.specs.Parse.{Front, Parser, on_front, or_front, on_some, after_close, after_comma, longest_num}
use Rattle.expr_parse.specs.Operands as o
use Rattle.expr_parse.specs.Operands.{longest_any, longest_operand}
use Rattle.bas_parse.specs.Operands.{target_at}
use Rattle.bas_parse.specs.Statements as s
use Rattle.bas_parse.specs.Statements.{ended, after_separator, after_semicolon, printed, print_part_at, print_from, vdu_after, vdu_word, vdu_from, input_part_at, input_after, input_from}
use Rattle.bas_parse.proofs.Expressions.{stops, stops_pointed, num_is, any_is, operand_is, text_joins, any_stops, num_some, text_some}
use Rattle.bas_parse.proofs.CompleteOperands.{ended_stops, target_is}
use Rattle.expr_parse.proofs.GoingOn.{pointed}

-- ---- PRINT

-- an expression's first sign is that of the list it stands in front of
pub joins_front : (a : List Terminal) (x : NumExpr) → IsNum 1 a x → (r : List Terminal) → joins (a ++ r) ≡ joins a
joins_front [] x d r = absurd (num_some 1 x d)
joins_front (t.Operator op.Add ∷ a) x d r = refl
joins_front (t.Operator op.Subtract ∷ a) x d r = refl
joins_front (t.Operator _ ∷ a) x d r = refl
joins_front (t.Indirection w ∷ a) x d r = refl
joins_front (_ ∷ a) x d r = refl

num_length : (l : ℕ) (a : List Terminal) (x : NumExpr) → IsNum l a x → 0 < length a
num_length l [] x d = absurd (num_some l x d)
num_length l (c ∷ a) x d = omega arith

text_length : (a : List Terminal) (y : StrExpr) → IsStr 4 a y → 0 < length a
text_length [] y d = absurd (text_some y d)
text_length (c ∷ a) y d = omega arith

by_any : (flag : Bool) (m : Front Any) (x : Any) (q : List Terminal) → flag ≡ false → m ≡ Some (x, q)
    → (if flag then None else on_front {B = PrintPart × Bool} m (λ x q. Some ((printed x, true), q))) ≡ Some ((printed x, true), q)
unfolding on_front
by_any true m x q h e = absurd (cc)
by_any false m x q h e = ap (λ m. on_front {B = PrintPart × Bool} m (λ x q. Some ((printed x, true), q))) e

by_none : (flag : Bool) (m : Front Any) → m ≡ None
    → (if flag then None else on_front {B = PrintPart × Bool} m (λ x q. Some ((printed x, true), q))) ≡ None
unfolding on_front
by_none true m e = refl
by_none false m e = ap (λ m. on_front {B = PrintPart × Bool} m (λ x q. Some ((printed x, true), q))) e

-- an expression as a part
any_part : (b : Bool) (z : List Terminal) (x : Any) (q : List Terminal) → b && joins z ≡ false → longest_any z ≡ Some (x, q)
    → print_part_at b z ≡ Some ((printed x, true), q)
unfolding print_part_at o.longest_any p.either p.expression p.whole p.operand p.opened p.prefixed p.formed on_front on_some
any_part b (t.Comma ∷ r) x q h e = absurd (cc)
any_part b (t.Semicolon ∷ r) x q h e = absurd (cc)
any_part b (t.Apostrophe ∷ r) x q h e = absurd (cc)
any_part b (t.Tilde ∷ r) x q h e = absurd (cc)
any_part b (t.Keyword word.Spc ∷ r) x q h e = absurd (cc)
any_part b (t.Keyword word.Tab ∷ r) x q h e = absurd (cc)
any_part b z x q h e = by_any (b && joins z) (longest_any z) x q h e

-- no part stands where an item ends
no_part : (b : Bool) (r : List Terminal) → ended r ≡ true → print_part_at b r ≡ None
unfolding print_part_at o.longest_any p.either p.expression p.whole p.operand p.opened p.prefixed p.formed on_front on_some
no_part b [] h = by_none (b && false) None refl
no_part b (t.Colon ∷ r) h = by_none (b && false) None refl
no_part b (t.Keyword word.Else ∷ r) h = by_none (b && false) None refl
no_part b (_ ∷ r) h = absurd (cc)

-- what follows an expression goes on with none
pub print_stops : (a : List Terminal) (ps : List PrintPart) → IsPrint true a ps → (r : List Terminal) → ended r ≡ true → stops (a ++ r) ≡ true
print_stops a ps (g.printed _) r h = ended_stops r h
print_stops a ps (g.print_comma _ b qs d) r h = refl
print_stops a ps (g.print_semicolon _ b qs d) r h = refl
print_stops a ps (g.print_new_line _ b qs d) r h = refl
print_stops a ps (g.print_number _ b b' x qs j d k) r h =
    let after = print_stops b' qs k r h in
    ap stops (append_assoc b b' r)
    ∙ any_stops (b ++ (b' ++ r)) (any.Number x) (b' ++ r) (any_is b (b' ++ r) (any.Number x) (e.number b x d) after) (joins_front b x d (b' ++ r) ∙ j)
print_stops a ps (g.print_hexadecimal _ b b' x qs d k) r h = refl
print_stops a ps (g.print_text _ b b' y qs d k) r h =
    let after = print_stops b' qs k r h in
    ap stops (append_assoc b b' r)
    ∙ any_stops (b ++ (b' ++ r)) (any.Text y) (b' ++ r) (any_is b (b' ++ r) (any.Text y) (e.text b y d) after) (text_joins 4 b y d (b' ++ r))
print_stops a ps (g.print_spaces _ b b' x qs d k) r h = refl
print_stops a ps (g.print_tab _ b b' x qs d k) r h = refl

never : (b : Bool) → b && false ≡ false
never true = refl
never false = refl

print_end : (k : ℕ) (b : Bool) (zs : List PrintPart) (r : List Terminal) → ended r ≡ true → print_from k b zs r ≡ Some (zs ++ [], r)
unfolding print_from or_front
print_end zero b zs r h = ap (λ w. Some (w, r)) (sym (append-nil zs))
print_end (suc k) b zs r h =
    ap (λ m. or_front m (λ z q. print_from k z.1 (zs ++ z.0 ∷ []) q) (Some (zs, r))) (no_part b r h) ∙ ap (λ w. Some (w, r)) (sym (append-nil zs))

-- a part, and those after it
print_row : (k : ℕ) (b b' : Bool) (zs ps : List PrintPart) (x : PrintPart) (z q r : List Terminal) → length z ≤ k → length q < length z
    → print_part_at b z ≡ Some ((x, b'), q)
    → ((k' : ℕ) → length q ≤ k' → print_from k' b' (zs ++ x ∷ []) q ≡ Some ((zs ++ x ∷ []) ++ ps, r))
    → print_from k b zs z ≡ Some (zs ++ (x ∷ ps), r)
unfolding print_from or_front
print_row zero b b' zs ps x z q r fuel short h ih = absurd (omega arith)
print_row (suc k) b b' zs ps x z q r fuel short h ih =
    ap (λ m. or_front m (λ z q. print_from k z.1 (zs ++ z.0 ∷ []) q) (Some (zs, z))) h
    ∙ (ih k (omega arith) ∙ ap (λ w. Some (w, r)) (append_assoc zs (x ∷ []) ps))

print_from_is : (b : Bool) (a : List Terminal) (ps : List PrintPart) → IsPrint b a ps → (r : List Terminal) → ended r ≡ true
    → (k : ℕ) (zs : List PrintPart) → length (a ++ r) ≤ k → print_from k b zs (a ++ r) ≡ Some (zs ++ ps, r)
unfolding print_part_at on_front on_some
print_from_is b a ps (g.printed _) r h k zs fuel = print_end k b zs r h
print_from_is b a ps (g.print_comma _ b1 qs d) r h k zs fuel =
    print_row k b false zs qs print_part.Comma (t.Comma ∷ (b1 ++ r)) (b1 ++ r) r fuel (omega arith) refl
    (λ k' f. print_from_is false b1 qs d r h k' (zs ++ print_part.Comma ∷ []) f)
print_from_is b a ps (g.print_semicolon _ b1 qs d) r h k zs fuel =
    print_row k b false zs qs print_part.Semicolon (t.Semicolon ∷ (b1 ++ r)) (b1 ++ r) r fuel (omega arith) refl
    (λ k' f. print_from_is false b1 qs d r h k' (zs ++ print_part.Semicolon ∷ []) f)
print_from_is b a ps (g.print_new_line _ b1 qs d) r h k zs fuel =
    print_row k b false zs qs print_part.NewLine (t.Apostrophe ∷ (b1 ++ r)) (b1 ++ r) r fuel (omega arith) refl
    (λ k' f. print_from_is false b1 qs d r h k' (zs ++ print_part.NewLine ∷ []) f)
print_from_is b a ps (g.print_number _ b1 b2 x qs j d k1) r h k zs fuel =
    let same = append_assoc b1 b2 r in let size = ap length same in let size1 = length-append b1 (b2 ++ r) in let some = num_length 1 b1 x d in
    ap (λ w. print_from k b zs w) same
    ∙ print_row k b true zs qs (print_part.Number format.Decimal x) (b1 ++ (b2 ++ r)) (b2 ++ r) r (omega arith) (omega arith)
    (any_part b (b1 ++ (b2 ++ r)) (any.Number x) (b2 ++ r) (ap (λ w. b && w) (joins_front b1 x d (b2 ++ r)) ∙ j)
    (any_is b1 (b2 ++ r) (any.Number x) (e.number b1 x d) (print_stops b2 qs k1 r h)))
    (λ k' f. print_from_is true b2 qs k1 r h k' (zs ++ print_part.Number format.Decimal x ∷ []) f)
print_from_is b a ps (g.print_hexadecimal _ b1 b2 x qs d k1) r h k zs fuel =
    let same = append_assoc b1 b2 r in let size = ap length same in let size1 = length-append b1 (b2 ++ r) in
    print_row k b true zs qs (print_part.Number format.Hexadecimal x) (t.Tilde ∷ ((b1 ++ b2) ++ r)) (b2 ++ r) r fuel (omega arith)
    (ap (λ m. on_front m (λ x q. Some ((print_part.Number format.Hexadecimal x, true), q))) (ap longest_num same ∙ num_is b1 (b2 ++ r) x d (print_stops b2 qs k1 r h)))
    (λ k' f. print_from_is true b2 qs k1 r h k' (zs ++ print_part.Number format.Hexadecimal x ∷ []) f)
print_from_is b a ps (g.print_text _ b1 b2 y qs d k1) r h k zs fuel =
    let same = append_assoc b1 b2 r in let size = ap length same in let size1 = length-append b1 (b2 ++ r) in let some = text_length b1 y d in
    ap (λ w. print_from k b zs w) same
    ∙ print_row k b true zs qs (print_part.Text y) (b1 ++ (b2 ++ r)) (b2 ++ r) r (omega arith) (omega arith)
    (any_part b (b1 ++ (b2 ++ r)) (any.Text y) (b2 ++ r) (ap (λ w. b && w) (text_joins 4 b1 y d (b2 ++ r)) ∙ never b)
    (any_is b1 (b2 ++ r) (any.Text y) (e.text b1 y d) (print_stops b2 qs k1 r h)))
    (λ k' f. print_from_is true b2 qs k1 r h k' (zs ++ print_part.Text y ∷ []) f)
print_from_is b a ps (g.print_spaces _ b1 b2 x qs d k1) r h k zs fuel =
    let same = append_assoc b1 b2 r in let size = ap length same in let size1 = length-append b1 (b2 ++ r) in
    print_row k b true zs qs (print_part.Spaces x) (t.Keyword word.Spc ∷ ((b1 ++ b2) ++ r)) (b2 ++ r) r fuel (omega arith)
    (ap (λ m. on_front m (λ x q. Some ((print_part.Spaces x, true), q)))
    (ap longest_operand same ∙ operand_is b1 (b2 ++ r) x d (stops_pointed (b2 ++ r) (print_stops b2 qs k1 r h))))
    (λ k' f. print_from_is true b2 qs k1 r h k' (zs ++ print_part.Spaces x ∷ []) f)
print_from_is b a ps (g.print_tab _ b1 b2 x qs d k1) r h k zs fuel =
    let same = append_assoc b1 (t.Close ∷ b2) r in let size = ap length same in let size1 = length-append b1 (t.Close ∷ (b2 ++ r)) in
    print_row k b false zs qs (print_part.Tab x) (t.Keyword word.Tab ∷ ((b1 ++ t.Close ∷ b2) ++ r)) (b2 ++ r) r fuel (omega arith)
    (ap (λ m. on_front m (λ x q. on_some (after_close q) (λ q1. Some ((print_part.Tab x, false), q1)) None))
    (ap longest_num same ∙ num_is b1 (t.Close ∷ (b2 ++ r)) x d refl))
    (λ k' f. print_from_is false b2 qs k1 r h k' (zs ++ print_part.Tab x ∷ []) f)

pub print_is : (a r : List Terminal) (ps : List PrintPart) → IsPrint false a ps → ended r ≡ true → s.print_at (a ++ r) ≡ Some (ps, r)
unfolding s.print_at
print_is a r ps d h = print_from_is false a ps d r h (length (a ++ r)) [] (omega arith)

-- ---- VDU

vdu_next : (k : ℕ) (zs : List VduPart) (x : NumExpr) (z q : List Terminal) → longest_num z ≡ Some (x, q)
    → vdu_from (suc k) zs z ≡ vdu_after (vdu_from k) zs x q
unfolding vdu_from on_front
vdu_next k zs x z q h = ap (λ m. on_front m (λ x q. vdu_after (vdu_from k) zs x q)) h

vdu_ended : (more : List VduPart → Parser (List VduPart)) (zs : List VduPart) (x : NumExpr) (r : List Terminal) → ended r ≡ true
    → vdu_after more zs x r ≡ Some (zs ++ vdu_part.Byte x ∷ [], r)
unfolding on_some
vdu_ended more zs x [] h = refl
vdu_ended more zs x (t.Colon ∷ r) h = refl
vdu_ended more zs x (t.Keyword word.Else ∷ r) h = refl
vdu_ended more zs x (_ ∷ r) h = absurd (cc)

-- numbers don't begin where an item ends
vdu_begins : (k : ℕ) (zs : List VduPart) (z : List Terminal) (ps : List VduPart) (q : List Terminal) → vdu_from k zs z ≡ Some (ps, q) → ended z ≡ false
unfolding vdu_from p.longest_num p.number p.expression p.whole p.operand p.opened p.prefixed p.formed on_front on_some
vdu_begins zero zs z ps q h = absurd (cc)
vdu_begins (suc k) zs [] ps q h = absurd (cc)
vdu_begins (suc k) zs (t.Colon ∷ r) ps q h = absurd (cc)
vdu_begins (suc k) zs (t.Keyword word.Else ∷ r) ps q h = absurd (cc)
vdu_begins (suc k) zs (_ ∷ r) ps q h = refl

vdu_from_is : (a : List Terminal) (ps : List VduPart) → IsVdu a ps → (r : List Terminal) → ended r ≡ true → (k : ℕ) (zs : List VduPart)
    → length (a ++ r) < k → vdu_from k zs (a ++ r) ≡ Some (zs ++ ps, r)
unfolding on_some
vdu_from_is a ps d r h zero zs fuel = absurd (omega arith)
vdu_from_is a ps (g.last_byte _ x d) r h (suc k) zs fuel = vdu_next k zs x (a ++ r) r (num_is a r x d (ended_stops r h)) ∙ vdu_ended (vdu_from k) zs x r h
vdu_from_is a ps (g.last_word b x d) r h (suc k) zs fuel =
    ap (λ w. vdu_from (suc k) zs w) (append_assoc b (t.Semicolon ∷ []) r)
    ∙ (vdu_next k zs x (b ++ t.Semicolon ∷ r) (t.Semicolon ∷ r) (num_is b (t.Semicolon ∷ r) x d refl)
    ∙ ap (λ flag. if flag then Some (zs ++ vdu_part.Word x ∷ [], r) else vdu_from k (zs ++ vdu_part.Word x ∷ []) r) h)
vdu_from_is a ps (g.more_byte b b' x qs d e) r h (suc k) zs fuel =
    let size = length-append (b ++ t.Comma ∷ b') r in let size1 = length-append b (t.Comma ∷ b') in let size2 = length-append b' r in
    ap (λ w. vdu_from (suc k) zs w) (append_assoc b (t.Comma ∷ b') r)
    ∙ (vdu_next k zs x (b ++ t.Comma ∷ (b' ++ r)) (t.Comma ∷ (b' ++ r)) (num_is b (t.Comma ∷ (b' ++ r)) x d refl)
    ∙ (vdu_from_is b' qs e r h k (zs ++ vdu_part.Byte x ∷ []) (omega arith) ∙ ap (λ w. Some (w, r)) (append_assoc zs (vdu_part.Byte x ∷ []) qs)))
vdu_from_is a ps (g.more_word b b' x qs d e) r h (suc k) zs fuel =
    let size = length-append (b ++ t.Semicolon ∷ b') r in let size1 = length-append b (t.Semicolon ∷ b') in let size2 = length-append b' r in
    let ih = vdu_from_is b' qs e r h k (zs ++ vdu_part.Word x ∷ []) (omega arith) in
    ap (λ w. vdu_from (suc k) zs w) (append_assoc b (t.Semicolon ∷ b') r)
    ∙ (vdu_next k zs x (b ++ t.Semicolon ∷ (b' ++ r)) (t.Semicolon ∷ (b' ++ r)) (num_is b (t.Semicolon ∷ (b' ++ r)) x d refl)
    ∙ (ap (λ flag. if flag then Some (zs ++ vdu_part.Word x ∷ [], b' ++ r) else vdu_from k (zs ++ vdu_part.Word x ∷ []) (b' ++ r))
    (vdu_begins k (zs ++ vdu_part.Word x ∷ []) (b' ++ r) _ r ih)
    ∙ (ih ∙ ap (λ w. Some (w, r)) (append_assoc zs (vdu_part.Word x ∷ []) qs))))

pub vdu_is : (a r : List Terminal) (ps : List VduPart) → IsVdu a ps → ended r ≡ true → s.vdu_at (a ++ r) ≡ Some (ps, r)
unfolding s.vdu_at
vdu_is a r ps d h = vdu_from_is a ps d r h (suc (length (a ++ r))) [] (omega arith)

-- ---- INPUT

input_next : (k : ℕ) (b b' : Bool) (zs : List InputPart) (x : InputPart) (z q : List Terminal) → input_part_at b z ≡ Some ((x, b'), q)
    → input_from (suc k) b zs z ≡ input_after (input_from k) (zs ++ x ∷ []) b' q
unfolding input_from on_front
input_next k b b' zs x z q h = ap (λ m. on_front m (λ z q. input_after (input_from k) (zs ++ z.0 ∷ []) z.1 q)) h

input_ended : (more : Bool → List InputPart → Parser (List InputPart)) (zs : List InputPart) (b : Bool) (r : List Terminal) → ended r ≡ true
    → input_after more zs b r ≡ Some (zs, r)
unfolding on_some
input_ended more zs true [] h = refl
input_ended more zs false [] h = refl
input_ended more zs true (t.Colon ∷ r) h = refl
input_ended more zs false (t.Colon ∷ r) h = refl
input_ended more zs true (t.Keyword word.Else ∷ r) h = refl
input_ended more zs false (t.Keyword word.Else ∷ r) h = refl
input_ended more zs b (_ ∷ r) h = absurd (cc)

input_apart : (more : Bool → List InputPart → Parser (List InputPart)) (zs : List InputPart) (b : Bool) (c : Terminal) (r : List Terminal) → g.IsSeparator c
    → input_after more zs b (c ∷ r) ≡ more false zs r
unfolding on_some
input_apart more zs b c r g.by_comma = refl
input_apart more zs b c r g.by_semicolon = refl

-- what is directly after a prompt
input_goes_on : (more : Bool → List InputPart → Parser (List InputPart)) (zs : List InputPart) (r : List Terminal) → after_separator r ≡ None
    → ended r ≡ false → input_after more zs true r ≡ more true zs r
unfolding on_some
input_goes_on more zs r h h1 =
    ap (λ m. on_some m (λ q. more false zs q) (s.input_direct more zs true r)) h ∙ ap (λ flag. if true && not flag then more true zs r else Some (zs, r)) h1

input_begins : (k : ℕ) (b : Bool) (zs : List InputPart) (z : List Terminal) (ps : List InputPart) (q : List Terminal) → input_from k b zs z ≡ Some (ps, q)
    → (after_separator z ≡ None) × (ended z ≡ false)
unfolding input_from input_part_at target_at on_front
input_begins zero b zs z ps q h = absurd (cc)
input_begins (suc k) b zs [] ps q h = absurd (cc)
input_begins (suc k) b zs (t.Colon ∷ r) ps q h = absurd (cc)
input_begins (suc k) b zs (t.Keyword word.Else ∷ r) ps q h = absurd (cc)
input_begins (suc k) b zs (t.Comma ∷ r) ps q h = absurd (cc)
input_begins (suc k) b zs (t.Semicolon ∷ r) ps q h = absurd (cc)
input_begins (suc k) b zs (_ ∷ r) ps q h = (refl, refl)

target_part : (b : Bool) (z : List Terminal) (v : Target) (q : List Terminal) → target_at z ≡ Some (v, q)
    → input_part_at b z ≡ Some ((input_target b v, false), q)
unfolding input_part_at target_at on_front
target_part b (t.Literal n ∷ r) v q h = absurd (cc)
target_part b z v q h = ap (λ m. on_front m (λ v q. Some ((input_target b v, false), q))) h

separator_pointed : (c : Terminal) (r : List Terminal) → g.IsSeparator c → pointed (c ∷ r) ≡ false
separator_pointed c r g.by_comma = refl
separator_pointed c r g.by_semicolon = refl

input_from_is : (b : Bool) (a : List Terminal) (ps : List InputPart) → IsInput b a ps → (r : List Terminal) → ended r ≡ true
    → (k : ℕ) (zs : List InputPart) → length (a ++ r) < k → input_from k b zs (a ++ r) ≡ Some (zs ++ ps, r)
unfolding input_part_at
input_from_is b a ps d r h zero zs fuel = absurd (omega arith)
input_from_is b a ps (g.last_prompt _ n) r h (suc k) zs fuel =
    input_next k b true zs (input_part.Prompt n) (t.Literal n ∷ r) r refl ∙ input_ended (input_from k) (zs ++ input_part.Prompt n ∷ []) true r h
input_from_is b a ps (g.prompt_apart _ n c b1 qs i d) r h (suc k) zs fuel =
    input_next k b true zs (input_part.Prompt n) (t.Literal n ∷ c ∷ (b1 ++ r)) (c ∷ (b1 ++ r)) refl
    ∙ (input_apart (input_from k) (zs ++ input_part.Prompt n ∷ []) true c (b1 ++ r) i
    ∙ (input_from_is false b1 qs d r h k (zs ++ input_part.Prompt n ∷ []) (omega arith)
    ∙ ap (λ w. Some (w, r)) (append_assoc zs (input_part.Prompt n ∷ []) qs)))
input_from_is b a ps (g.prompt_direct _ n b1 qs d) r h (suc k) zs fuel =
    let ih = input_from_is true b1 qs d r h k (zs ++ input_part.Prompt n ∷ []) (omega arith) in
    let begins = input_begins k true (zs ++ input_part.Prompt n ∷ []) (b1 ++ r) _ r ih in
    input_next k b true zs (input_part.Prompt n) (t.Literal n ∷ (b1 ++ r)) (b1 ++ r) refl
    ∙ (input_goes_on (input_from k) (zs ++ input_part.Prompt n ∷ []) (b1 ++ r) begins.0 begins.1
    ∙ (ih ∙ ap (λ w. Some (w, r)) (append_assoc zs (input_part.Prompt n ∷ []) qs)))
input_from_is b a ps (g.last_target _ _ v d) r h (suc k) zs fuel =
    input_next k b false zs (input_target b v) (a ++ r) r
    (target_part b (a ++ r) v r (target_is a r v d (stops_pointed r (ended_stops r h))))
    ∙ input_ended (input_from k) (zs ++ input_target b v ∷ []) false r h
input_from_is b a ps (g.target_apart _ b1 v c b2 qs d i e) r h (suc k) zs fuel =
    let size = length-append (b1 ++ c ∷ b2) r in let size1 = length-append b1 (c ∷ b2) in let size2 = length-append b2 r in
    ap (λ w. input_from (suc k) b zs w) (append_assoc b1 (c ∷ b2) r)
    ∙ (input_next k b false zs (input_target b v) (b1 ++ c ∷ (b2 ++ r)) (c ∷ (b2 ++ r))
    (target_part b (b1 ++ c ∷ (b2 ++ r)) v (c ∷ (b2 ++ r)) (target_is b1 (c ∷ (b2 ++ r)) v d (separator_pointed c (b2 ++ r) i)))
    ∙ (input_apart (input_from k) (zs ++ input_target b v ∷ []) false c (b2 ++ r) i
    ∙ (input_from_is false b2 qs e r h k (zs ++ input_target b v ∷ []) (omega arith)
    ∙ ap (λ w. Some (w, r)) (append_assoc zs (input_target b v ∷ []) qs))))

pub input_is : (a r : List Terminal) (ps : List InputPart) → IsInput false a ps → ended r ≡ true → s.input_at (a ++ r) ≡ Some (ps, r)
unfolding s.input_at
input_is a r ps d h = input_from_is false a ps d r h (suc (length (a ++ r))) [] (omega arith)
