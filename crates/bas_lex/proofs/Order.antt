-- The order of the symbols of a text: their spans, their number, and what holds of a part of their list.
use Rattle.std.proofs.Common.{◌≡◌, ◌≢◌, ◌⊎◌, inl, inr, ℕ, zero, suc, ◌+◌, ◌≤◌, ◌<◌, Bool, List, [], ◌∷◌, ◌++◌, length, take, drop, slice_get, Some, None, refl, sym, ap, subst, ◌∙◌, arith, length-append}
use Rattle.std.specs.List.{AllByRecursion}
use Rattle.bas_lex.specs.declared.symbol.Mode.{Mode}
use Rattle.bas_lex.specs.declared.symbol.Sym.{Sym}
use Rattle.bas_lex.specs.declared.symbol.SymKind.{SymKind}
use Rattle.bas_lex.specs.declared.symbol.SymKind.TheVariants as kinds
use Rattle.bas_lex.specs.Kinds.{IsSymbol}
use Rattle.bas_lex.specs.Cut.{Piece, Space, Comment, Symbol, Tailed, bytes_of, IsPiece, mode_after, at_line, Cuts, piece_symbols, symbols_of, Symbols, AreInOrder, IsFilled, IsTailLast}
use Rattle.bas_lex.proofs.Runs.{all_joined}
use Rattle.bas_lex.proofs.Pieces.{no_empty_symbol, no_piece_at_end, symbol_is}

-- the place after the last of these symbols, which are in order from a place on
abbrev pub end_of : ℕ → List Sym → ℕ
end_of from [] = from
end_of from (symbol ∷ more) = end_of symbol.to more

-- symbols in order from a place on are so from any place before it on
pub order_from_before : (from from' to : ℕ) (list : List Sym) → from ≤ from' → AreInOrder from' list to → AreInOrder from list to
order_from_before from from' to [] le order = omega (arith, le, order)
order_from_before from from' to (symbol ∷ list) le order = (omega (arith, le, order.0), order.1, order.2)

-- the place where they end isn't before the one where they begin
pub order_within : (from to : ℕ) (list : List Sym) → AreInOrder from list to → from ≤ to
order_within from to [] order = order
order_within from to (symbol ∷ list) order = let rest = order_within symbol.to to list order.2 in omega (arith, order.0, order.1, rest)

-- each span lies within these places
pub order_at : (from to : ℕ) (list : List Sym) (n : ℕ) (symbol : Sym) → AreInOrder from list to → slice_get list n ≡ Some symbol → (from ≤ symbol.from) × (symbol.from ≤ symbol.to) × (symbol.to ≤ to)
order_at from to [] n symbol order at = absurd (let none : None ≡ Some symbol = at in cc)
order_at from to (s ∷ list) zero symbol order at =
    let same : s ≡ symbol = cc in
    subst (λ (t : Sym). (from ≤ t.from) × (t.from ≤ t.to) × (t.to ≤ to)) same (order.0, order.1, order_within s.to to list order.2)
order_at from to (s ∷ list) (suc n) symbol order at =
    let rest = order_at s.to to list n symbol order.2 at in (omega (arith, order.0, order.1, rest.0), rest.1, rest.2)

-- the symbols from some number on are in order from the end of those before them on
pub order_drop : (from to : ℕ) (list : List Sym) (n : ℕ) → AreInOrder from list to → AreInOrder (end_of from (take n list)) (drop n list) to
order_drop from to list zero order = order
order_drop from to [] (suc n) order = order
order_drop from to (symbol ∷ list) (suc n) order = order_drop symbol.to to list n order.2

-- the symbols up to some number are in order up to their end
pub order_take : (from to : ℕ) (list : List Sym) (n : ℕ) → AreInOrder from list to → AreInOrder from (take n list) (end_of from (take n list))
order_take from to list zero order = omega arith
order_take from to [] (suc n) order = omega arith
order_take from to (symbol ∷ list) (suc n) order = (order.0, order.1, order_take symbol.to to list n order.2)

-- of two symbols the one of the lower number ends before the other begins
pub order_between : (from to : ℕ) (list : List Sym) (n m : ℕ) (a b : Sym) → AreInOrder from list to → slice_get list n ≡ Some a → slice_get list m ≡ Some b → n < m → a.to ≤ b.from
order_between from to [] n m a b order at_n at_m less = absurd (let none : None ≡ Some a = at_n in cc)
order_between from to (s ∷ list) n zero a b order at_n at_m less = absurd (omega (arith, less))
order_between from to (s ∷ list) zero (suc m) a b order at_n at_m less =
    let same : s ≡ a = cc in subst (λ (t : Sym). t.to ≤ b.from) same (order_at s.to to list m b order.2 at_m).0
order_between from to (s ∷ list) (suc n) (suc m) a b order at_n at_m less = order_between s.to to list n m a b order.2 at_n at_m (omega (arith, less))

-- what holds of each symbol holds of those from some number on
pub all_drop : (P : Sym → Type 0) (list : List Sym) (n : ℕ) → AllByRecursion P list → AllByRecursion P (drop n list)
all_drop P list zero all = all
all_drop P [] (suc n) all = all
all_drop P (symbol ∷ list) (suc n) all = all_drop P list n all.1

-- and of each by its number
pub all_at : (P : Sym → Type 0) (list : List Sym) (n : ℕ) (symbol : Sym) → AllByRecursion P list → slice_get list n ≡ Some symbol → P symbol
all_at P [] n symbol all at = absurd (let none : None ≡ Some symbol = at in cc)
all_at P (s ∷ list) zero symbol all at = let same : s ≡ symbol = cc in subst P same all.0
all_at P (s ∷ list) (suc n) symbol all at = all_at P list n symbol all.1 at

-- of symbols of which a Tail is the last it is so from some number on
pub tail_last_drop : (list : List Sym) (n : ℕ) → IsTailLast list → IsTailLast (drop n list)
tail_last_drop list zero last = last
tail_last_drop [] (suc n) last = last
tail_last_drop (symbol ∷ list) (suc n) last = tail_last_drop list n last.1

-- a symbol is a Tail or none
tail_or_not : (kind : SymKind) → (kind ≡ kinds.Tail) ⊎ (kind ≢ kinds.Tail)
tail_or_not kinds.Tail = inl refl
tail_or_not (kinds.Token n) = inr (λ e. cc)
tail_or_not (kinds.Name suffix bracket) = inr (λ e. cc)
tail_or_not (kinds.Call function bracket) = inr (λ e. cc)
tail_or_not kinds.Label = inr (λ e. cc)
tail_or_not (kinds.Number value) = inr (λ e. cc)
tail_or_not kinds.Text = inr (λ e. cc)
tail_or_not (kinds.LineRef number) = inr (λ e. cc)
tail_or_not (kinds.Mark n) = inr (λ e. cc)

-- There is at most one symbol more than bytes, since no symbol but a Tail is empty, and that is the last.
pub count_within : (from to : ℕ) (list : List Sym) → AreInOrder from list to → AllByRecursion IsFilled list → IsTailLast list → from + length list ≤ to + 1
count_within from to [] order filled last = omega (arith, order)
count_within from to (symbol ∷ list) order filled last =
    elim (tail_or_not symbol.kind) [
      | inl tail ↦ let within = order_within symbol.to to list order.2 in omega (arith, order.0, order.1, within, ap length (last.0 tail))
      | inr other ↦ let rest = count_within symbol.to to list order.2 filled.1 last.1 in omega (arith, order.0, filled.0 other, rest)
    ]

-- the same of the symbols from some number on
pub count_drop : (from to : ℕ) (list : List Sym) (n : ℕ) → AreInOrder from list to → AllByRecursion IsFilled list → IsTailLast list → end_of from (take n list) + length (drop n list) ≤ to + 1
count_drop from to list n order filled last =
    count_within (end_of from (take n list)) to (drop n list) (order_drop from to list n order) (all_drop IsFilled list n filled) (tail_last_drop list n last)

in_order : (from : ℕ) (mode last : Mode) (text rest : List ℕ) (pieces : List Piece) → Cuts mode text pieces last rest → AreInOrder from (symbols_of from mode pieces) (from + length text)
in_order from mode last text rest [] cut = omega arith
in_order from mode last text rest (p ∷ pieces) cut =
    by_piece p (symbols_of (from + length (bytes_of p)) (mode_after mode p) pieces) (ap length cut.1.0 ∙ length-append (bytes_of p) cut.0) (in_order (from + length (bytes_of p)) (mode_after mode p) last cut.0 rest pieces cut.2)
  where
    by_piece : (q : Piece) (list : List Sym) → length text ≡ length (bytes_of q) + length cut.0 → AreInOrder (from + length (bytes_of q)) list (from + length (bytes_of q) + length cut.0) → AreInOrder from (piece_symbols from mode q ++ list) (from + length text)
    by_piece q list size others = by_form q (subst (λ n. AreInOrder (from + length (bytes_of q)) list n) (omega (arith, size)) others)
      where
        by_form : (q : Piece) → AreInOrder (from + length (bytes_of q)) list (from + length text) → AreInOrder from (piece_symbols from mode q ++ list) (from + length text)
        by_form Space others = order_from_before from (from + 1) _ list (omega arith) others
        by_form (Comment bytes) others = order_from_before from (from + length bytes) _ list (omega arith) others
        by_form (Symbol kind bytes) others = (omega arith, omega arith, others)
        by_form (Tailed token tail) others =
            (omega arith, omega arith, (omega arith, omega arith, order_from_before (from + 1 + length tail) (from + length (token ∷ tail)) _ list (omega arith) others))

-- the spans of the symbols of a text are in order, and lie within it
pub spans_in_order : (asm asm_after : Bool) (text : List ℕ) (list : List Sym) → Symbols asm text list asm_after → AreInOrder 0 list (length text)
spans_in_order asm asm_after text list s =
    subst (λ l. AreInOrder 0 l (length text)) (sym s.listed) (subst (λ n. AreInOrder 0 (symbols_of 0 (at_line asm) s.pieces) n) (omega arith) (in_order 0 (at_line asm) s.last text [] s.pieces s.cut))

piece_filled : (from : ℕ) (mode : Mode) (piece : Piece) (next : List ℕ) → IsPiece mode.asm piece next → AllByRecursion IsFilled (piece_symbols from mode piece)
piece_filled from mode Space next is = tt
piece_filled from mode (Comment bytes) next is = tt
piece_filled from mode (Symbol kind bytes) next is = ((λ _. by_bytes bytes (no_empty_symbol mode.asm kind bytes next (symbol_is mode.asm kind bytes next is.1))), tt)
  where
    by_bytes : (b : List ℕ) → b ≢ [] → from < from + length b
    by_bytes [] some = absurd (some refl)
    by_bytes (c ∷ b) some = omega arith
piece_filled from mode (Tailed token tail) next is = ((λ _. omega arith), ((λ other. absurd (other refl)), tt))

all_filled : (from : ℕ) (mode last : Mode) (text rest : List ℕ) (pieces : List Piece) → Cuts mode text pieces last rest → AllByRecursion IsFilled (symbols_of from mode pieces)
all_filled from mode last text rest [] cut = tt
all_filled from mode last text rest (p ∷ pieces) cut =
    all_joined IsFilled (piece_symbols from mode p) _ (piece_filled from mode p cut.0 cut.1.1) (all_filled (from + length (bytes_of p)) (mode_after mode p) last cut.0 rest pieces cut.2)

-- no symbol of a text but a Tail is empty
pub symbols_filled : (asm asm_after : Bool) (text : List ℕ) (list : List Sym) → Symbols asm text list asm_after → AllByRecursion IsFilled list
symbols_filled asm asm_after text list s = subst (AllByRecursion IsFilled) (sym s.listed) (all_filled 0 (at_line asm) s.last text [] s.pieces s.cut)

-- no symbols are cut from the empty text
nothing_after : (from : ℕ) (mode last : Mode) (text rest : List ℕ) (pieces : List Piece) → text ≡ [] → Cuts mode text pieces last rest → symbols_of from mode pieces ≡ []
nothing_after from mode last text rest [] empty cut = refl
nothing_after from mode last text rest (p ∷ pieces) empty cut = absurd (no_piece_at_end mode.asm text empty p cut.0 cut.1)

-- the symbols of a piece in front of others, of which there are none after a Tail
piece_last : (from : ℕ) (mode : Mode) (piece : Piece) (next : List ℕ) (others : List Sym) → IsPiece mode.asm piece next → (next ≡ [] → others ≡ []) → IsTailLast others → IsTailLast (piece_symbols from mode piece ++ others)
piece_last from mode Space next others is none last = last
piece_last from mode (Comment bytes) next others is none last = last
piece_last from mode (Symbol kind bytes) next others is none last =
    ((λ tail. absurd (subst (λ k. IsSymbol mode.asm k bytes next) tail (symbol_is mode.asm kind bytes next is.1))), last)
piece_last from mode (Tailed token tail) next others is none last = ((λ e. absurd (let differ : kinds.Token token ≡ kinds.Tail = e in cc)), ((λ _. none is.1), last))

cut_last : (from : ℕ) (mode last : Mode) (text rest : List ℕ) (pieces : List Piece) → Cuts mode text pieces last rest → IsTailLast (symbols_of from mode pieces)
cut_last from mode last text rest [] cut = tt
cut_last from mode last text rest (p ∷ pieces) cut =
    piece_last from mode p cut.0 _ cut.1.1 (λ empty. nothing_after (from + length (bytes_of p)) (mode_after mode p) last cut.0 rest pieces empty cut.2)
    (cut_last (from + length (bytes_of p)) (mode_after mode p) last cut.0 rest pieces cut.2)

-- a Tail is the last symbol of a text
pub tail_is_last : (asm asm_after : Bool) (text : List ℕ) (list : List Sym) → Symbols asm text list asm_after → IsTailLast list
tail_is_last asm asm_after text list s = subst IsTailLast (sym s.listed) (cut_last 0 (at_line asm) s.last text [] s.pieces s.cut)

-- a text has at most one symbol more than bytes
pub symbols_count : (asm asm_after : Bool) (text : List ℕ) (list : List Sym) → Symbols asm text list asm_after → length list ≤ length text + 1
symbols_count asm asm_after text list s =
    let count = count_within 0 (length text) list (spans_in_order asm asm_after text list s) (symbols_filled asm asm_after text list s) (tail_is_last asm asm_after text list s) in
    omega (arith, count)
