-- Symbols in order lie within their text.
use Rattle.std.proofs.Common.{zero, suc, ℕ, List, [], ◌∷◌, length, arith}
use Rattle.bas_lex.specs.declared.symbol.Sym.{Sym}
use Rattle.bas_lex.specs.Cut.{AreInOrder}
use Rattle.bas_lex.proofs.Order.{order_within}
use Rattle.expr_parse.specs.Terminals.{AreWithin}

pub within_order : (from : ℕ) (text : List ℕ) (list : List Sym) → AreInOrder from list (length text) → AreWithin text list
within_order from text [] order k d less = absurd (omega (arith, less))
within_order from text (s ∷ list) order zero d less = (order.1, order_within s.to (length text) list order.2)
within_order from text (s ∷ list) order (suc k) d less = within_order s.to text list order.2 k d (omega (arith, less))
