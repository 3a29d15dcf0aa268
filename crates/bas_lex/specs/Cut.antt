-- How a line's text is cut into symbols.
use Rattle.std.specs.Prelude.{◌≡◌, ◌≢◌, ◌⊎◌, ℕ, ◌+◌, ◌≤◌, ◌<◌, Bool, true, false, not, ◌&&◌, ◌||◌, ◌==◌, List, [], ◌∷◌, ◌++◌, length, slice_range, if◌then◌else◌}
use Rattle.bv_token.specs.declared.tokens.TheConstants.{REM, DATA}
use Rattle.bas_lex.specs.declared.symbol.LexError.{LexError}
use Rattle.bas_lex.specs.declared.symbol.LexError.TheVariants as errors
use Rattle.bas_lex.specs.declared.symbol.Mode.{Mode}
use Rattle.bas_lex.specs.declared.symbol.Sym.{Sym}
use Rattle.bas_lex.specs.declared.symbol.SymKind.{SymKind}
use Rattle.bas_lex.specs.declared.symbol.SymKind.TheVariants as kinds
use Rattle.bas_lex.specs.declared.sign_numbers.TheConstants.{COLON, OPEN_SQUARE, CLOSE_SQUARE}
use Rattle.bas_lex.specs.Bytes.{space, semicolon, backslash}
use Rattle.bas_lex.specs.Kinds.{IsSymbol}

-- A symbol of this kind and of n bytes begins the text.
pub record Begins (symbol : SymKind → List ℕ → List ℕ → Type 0) (text : List ℕ) (kind : SymKind) (size : ℕ) : Type 0 where
  pub bytes : List ℕ
  pub rest : List ℕ
  pub split : text ≡ bytes ++ rest
  pub size_is : length bytes ≡ size
  pub is : symbol kind bytes rest

-- It is the longest that begins the text.
pub record Longest (symbol : SymKind → List ℕ → List ℕ → Type 0) (text : List ℕ) (kind : SymKind) (size : ℕ) : Type 0 where
  pub begins : Begins symbol text kind size
  pub longest : (other : SymKind) (n : ℕ) → Begins symbol text other n → n ≤ size

-- A part of a text: a space, a comment, a symbol, or REM or DATA with its Tail.
pub data Piece : Type 0 where
  Space : Piece
  Comment : (bytes : List ℕ) → Piece
  Symbol : (kind : SymKind) (bytes : List ℕ) → Piece
  Tailed : (token : ℕ) (tail : List ℕ) → Piece

-- the bytes of a piece
abbrev pub bytes_of : Piece → List ℕ
bytes_of Space = space ∷ []
bytes_of (Comment bytes) = bytes
bytes_of (Symbol kind bytes) = bytes
bytes_of (Tailed token tail) = token ∷ tail

-- with the assembler on, `;`, `\` and REM begin a comment
abbrev pub begins_comment : Bool → ℕ → Bool
begins_comment asm c = asm && (c == semicolon || (c == backslash || c == REM))

-- a comment begins the text
abbrev pub AtComment : Bool → List ℕ → Type 0
AtComment asm text = (c : ℕ) × (rest : List ℕ) × (text ≡ c ∷ rest) × (begins_comment asm c ≡ true)

-- What a piece must be where the rest follows it. A comment and a Tail reach to the line's end. A symbol
-- begins where no comment begins, and is the longest that begins there.
abbrev pub IsPiece : Bool → Piece → List ℕ → Type 0
IsPiece asm Space rest = Unit {0}
IsPiece asm (Comment bytes) rest = AtComment asm bytes × (rest ≡ [])
IsPiece asm (Symbol kind bytes) rest = (AtComment asm (bytes ++ rest) → ⊥) × Longest (IsSymbol asm) (bytes ++ rest) kind (length bytes)
IsPiece asm (Tailed token tail) rest = (((token ≡ REM) × (asm ≡ false)) ⊎ (token ≡ DATA)) × (rest ≡ [])

-- a piece begins the text, and the rest follows it
abbrev pub Fits : Bool → Piece → List ℕ → List ℕ → Type 0
Fits asm piece text rest = (text ≡ bytes_of piece ++ rest) × IsPiece asm piece rest

-- no piece begins the text
abbrev pub NoPiece : Bool → List ℕ → Type 0
NoPiece asm text = (piece : Piece) (rest : List ℕ) → Fits asm piece text rest → ⊥

-- How the text goes on after a sign. `[` turns the assembler on. While it is on, a statement begins after this `[`
-- and after `:`, and `]` turns the assembler off where a statement begins.
abbrev pub mode_after_sign : Mode → ℕ → Mode
mode_after_sign mode n =
    if n == OPEN_SQUARE then record { asm = true; start = not mode.asm }
    else if n == CLOSE_SQUARE && mode.start then record { asm = false; start = false }
    else record { asm = mode.asm; start = n == COLON }

-- how it goes on after a symbol
abbrev pub mode_after_symbol : Mode → SymKind → Mode
mode_after_symbol mode (kinds.Mark n) = mode_after_sign mode n
mode_after_symbol mode kind = record { asm = mode.asm; start = false }

-- how it goes on after a piece
abbrev pub mode_after : Mode → Piece → Mode
mode_after mode (Symbol kind bytes) = mode_after_symbol mode kind
mode_after mode piece = mode

-- at the start of a line
abbrev pub at_line : Bool → Mode
at_line asm = record { asm = asm; start = true }

-- The text is cut into these pieces, one after the other, up to the rest, and is read as the last mode says there.
abbrev pub Cuts : Mode → List ℕ → List Piece → Mode → List ℕ → Type 0
Cuts mode text [] last rest = (last ≡ mode) × (rest ≡ text)
Cuts mode text (piece ∷ pieces) last rest =
    (next : List ℕ) × Fits mode.asm piece text next × Cuts (mode_after mode piece) next pieces last rest

-- A symbol of n bytes at a place. It is in the assembler where the assembler is on before and after it.
abbrev pub symbol_at : ℕ → Mode → SymKind → ℕ → Sym
symbol_at from mode kind size =
    record { kind = kind; from = from; to = from + size; asm = mode.asm && (mode_after_symbol mode kind).asm }

-- the symbols of a piece that begins at a place: spaces and comments are dropped
abbrev pub piece_symbols : ℕ → Mode → Piece → List Sym
piece_symbols from mode (Symbol kind bytes) = symbol_at from mode kind (length bytes) ∷ []
piece_symbols from mode (Tailed token tail) =
    symbol_at from mode (kinds.Token token) 1 ∷ symbol_at (from + 1) mode kinds.Tail (length tail) ∷ []
piece_symbols from mode piece = []

-- the symbols of pieces of which the first begins at a place
abbrev pub symbols_of : ℕ → Mode → List Piece → List Sym
symbols_of from mode [] = []
symbols_of from mode (piece ∷ pieces) =
    piece_symbols from mode piece ++ symbols_of (from + length (bytes_of piece)) (mode_after mode piece) pieces

-- The text, read with the assembler on or off, is cut into these symbols, dropped spaces and dropped comments, and
-- the assembler is on or off after it.
pub record Symbols (asm : Bool) (text : List ℕ) (list : List Sym) (asm_after : Bool) : Type 0 where
  pub pieces : List Piece
  pub last : Mode
  pub cut : Cuts (at_line asm) text pieces last []
  pub listed : list ≡ symbols_of 0 (at_line asm) pieces
  pub after : asm_after ≡ last.asm

-- The symbols' spans lie one after the other from a place on, up to another.
abbrev pub AreInOrder : ℕ → List Sym → ℕ → Type 0
AreInOrder from [] to = from ≤ to
AreInOrder from (symbol ∷ more) to = (from ≤ symbol.from) × (symbol.from ≤ symbol.to) × AreInOrder symbol.to more to

-- a symbol has a byte or more, unless it is a Tail
abbrev pub IsFilled : Sym → Type 0
IsFilled symbol = symbol.kind ≢ kinds.Tail → symbol.from < symbol.to

-- no symbol follows a Tail
abbrev pub IsTailLast : List Sym → Type 0
IsTailLast [] = Unit {0}
IsTailLast (symbol ∷ more) = (symbol.kind ≡ kinds.Tail → more ≡ []) × IsTailLast more

-- a Tail, and REM or DATA before it
abbrev pub IsTailed : SymKind → List ℕ → Type 0
IsTailed (kinds.Token n) bytes = (bytes ≡ n ∷ []) × ((n ≡ REM) ⊎ (n ≡ DATA))
IsTailed kinds.Tail bytes = Unit {0}
IsTailed kind bytes = ⊥

-- a symbol's part of the text is spelled as its kind is
abbrev pub IsSpelled : List ℕ → Sym → Type 0
IsSpelled text symbol =
    ((asm : Bool) × (rest : List ℕ) × IsSymbol asm symbol.kind (slice_range text symbol.from symbol.to) rest)
    ⊎ IsTailed symbol.kind (slice_range text symbol.from symbol.to)

-- Such a cut reaches this place of the text, and no piece begins at the byte that is there.
pub record Bad (asm : Bool) (text : List ℕ) (at : ℕ) : Type 0 where
  pub pieces : List Piece
  pub last : Mode
  pub rest : List ℕ
  pub cut : Cuts (at_line asm) text pieces last rest
  pub at_is : at + length rest ≡ length text
  pub some : rest ≢ []
  pub none : NoPiece last.asm rest

-- when each error comes: running out of memory is free
abbrev pub Explains : Bool → List ℕ → LexError → Type 0
Explains asm text (errors.Bad at) = Bad asm text at
Explains asm text errors.NoMemory = Unit {0}
