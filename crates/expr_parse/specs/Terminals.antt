-- What the symbols of a line are to the grammar.
use Rattle.std.specs.Prelude.{ℕ, ◌+◌, ◌-◌, Bool, nat_eq, nat_lt, ◌==◌, ◌≤◌, List, [], ◌∷◌, length, slice_index_or, slice_range, if◌then◌else◌, All, codes}
use Rattle.std.specs.List.{list_any, ends_with}
use Rattle.std.specs.Str.{bytes_eq}
use Rattle.bas_lex.specs.declared.symbol.Sym.{Sym}
use Rattle.bas_lex.specs.declared.symbol.SymKind.TheVariants as kinds
use Rattle.bas_ast.specs.declared.program.Name.{Name}
use Rattle.bas_ast.specs.declared.expressions.BinaryOp.TheVariants as op
use Rattle.bas_ast.specs.declared.expressions.Comparison.TheVariants as comparison
use Rattle.bas_ast.specs.declared.expressions.Width.TheVariants as width
use Rattle.bas_ast.specs.declared.keywords.Keyword.TheVariants as word
use Rattle.bas_ast.specs.declared.terminals.Terminal.{Terminal}
use Rattle.bas_ast.specs.declared.terminals.Terminal.TheVariants as t

-- the terminals of the single tokens from 0x7f on, sixteen to a row from 0x80 on
unfoldable pub single_tokens : List Terminal
single_tokens =
    -- 7F: OTHERWISE
    t.Keyword word.Otherwise ∷
    -- 80: AND DIV EOR MOD OR ERROR LINE OFF STEP SPC TAB( ELSE THEN - OPENIN PTR
    t.Operator op.And ∷ t.Operator op.Divide ∷ t.Operator op.Eor ∷ t.Operator op.Remainder ∷
    t.Operator op.Or ∷ t.Keyword word.Error ∷ t.Keyword word.Line ∷ t.Keyword word.Off ∷
    t.Keyword word.Step ∷ t.Keyword word.Spc ∷ t.Keyword word.Tab ∷ t.Keyword word.Else ∷
    t.Keyword word.Then ∷ t.Other ∷ t.Other ∷ t.Other ∷
    -- 90: PAGE TIME LOMEM HIMEM ABS ACS ADVAL ASC ASN ATN BGET COS COUNT DEG ERL ERR
    t.Other ∷ t.Other ∷ t.Other ∷ t.Other ∷
    t.Keyword word.Abs ∷ t.Other ∷ t.Other ∷ t.Keyword word.Asc ∷
    t.Other ∷ t.Other ∷ t.Other ∷ t.Other ∷
    t.Keyword word.Count ∷ t.Other ∷ t.Keyword word.Erl ∷ t.Keyword word.Err ∷
    -- A0: EVAL EXP EXT FALSE FN GET INKEY INSTR( INT LEN LN LOG NOT OPENUP OPENOUT PI
    t.Other ∷ t.Other ∷ t.Other ∷ t.Keyword word.False ∷
    t.Other ∷ t.Keyword word.Get ∷ t.Other ∷ t.Keyword word.Instr ∷
    t.Keyword word.Int ∷ t.Keyword word.Len ∷ t.Other ∷ t.Other ∷
    t.Keyword word.Not ∷ t.Other ∷ t.Other ∷ t.Other ∷
    -- B0: POINT( POS RAD RND SGN SIN SQR TAN TO TRUE USR VAL VPOS CHR$ GET$ INKEY$
    t.Other ∷ t.Other ∷ t.Other ∷ t.Other ∷
    t.Keyword word.Sgn ∷ t.Other ∷ t.Other ∷ t.Other ∷
    t.Keyword word.To ∷ t.Keyword word.True ∷ t.Keyword word.Usr ∷ t.Keyword word.Val ∷
    t.Other ∷ t.Keyword word.Chr ∷ t.Keyword word.GetText ∷ t.Other ∷
    -- C0: LEFT$( MID$( RIGHT$( STR$ STRING$( EOF - - - WHEN OF ENDCASE ELSE ENDIF ENDWHILE PTR
    t.Keyword word.Left ∷ t.Keyword word.Mid ∷ t.Keyword word.Right ∷ t.Keyword word.Str ∷
    t.Keyword word.Copies ∷ t.Other ∷ t.Other ∷ t.Other ∷
    t.Other ∷ t.Keyword word.When ∷ t.Keyword word.Of ∷ t.Keyword word.EndCase ∷
    t.Keyword word.BlockElse ∷ t.Keyword word.EndIf ∷ t.Keyword word.EndWhile ∷ t.Other ∷
    -- D0: PAGE TIME LOMEM HIMEM SOUND BPUT CALL CHAIN CLEAR CLOSE CLG CLS DATA DEF DIM DRAW
    t.Other ∷ t.Other ∷ t.Other ∷ t.Other ∷
    t.Other ∷ t.Other ∷ t.Keyword word.Call ∷ t.Other ∷
    t.Other ∷ t.Other ∷ t.Other ∷ t.Keyword word.Cls ∷
    t.Keyword word.Data ∷ t.Keyword word.Def ∷ t.Keyword word.Dim ∷ t.Other ∷
    -- E0: END ENDPROC ENVELOPE FOR GOSUB GOTO GCOL IF INPUT LET LOCAL MODE MOVE NEXT ON VDU
    t.Keyword word.End ∷ t.Keyword word.EndProc ∷ t.Other ∷ t.Keyword word.For ∷
    t.Keyword word.Gosub ∷ t.Keyword word.Goto ∷ t.Other ∷ t.Keyword word.If ∷
    t.Keyword word.Input ∷ t.Keyword word.Let ∷ t.Keyword word.Local ∷ t.Keyword word.Mode ∷
    t.Other ∷ t.Keyword word.Next ∷ t.Keyword word.On ∷ t.Keyword word.Vdu ∷
    -- F0: PLOT PRINT PROC READ REM REPEAT REPORT RESTORE RETURN RUN STOP COLOUR TRACE UNTIL WIDTH OSCLI
    t.Other ∷ t.Keyword word.Print ∷ t.Other ∷ t.Keyword word.Read ∷
    t.Keyword word.Rem ∷ t.Keyword word.Repeat ∷ t.Keyword word.Report ∷ t.Keyword word.Restore ∷
    t.Keyword word.Return ∷ t.Other ∷ t.Keyword word.Stop ∷ t.Keyword word.Colour ∷
    t.Other ∷ t.Keyword word.Until ∷ t.Other ∷ t.Other ∷
    []

-- the terminals of the signs, in the order of their numbers
unfoldable pub sign_terminals : List Terminal
sign_terminals =
    -- + - *
    t.Operator op.Add ∷ t.Operator op.Subtract ∷ t.Operator op.Multiply ∷
    -- = < >
    t.Operator (op.Compare comparison.Equal) ∷ t.Operator (op.Compare comparison.Less) ∷ t.Operator (op.Compare comparison.Greater) ∷
    -- <> <= >=
    t.Operator (op.Compare comparison.NotEqual) ∷ t.Operator (op.Compare comparison.LessOrEqual) ∷ t.Operator (op.Compare comparison.GreaterOrEqual) ∷
    -- << >> >>>
    t.Operator op.ShiftLeft ∷ t.Operator op.ShiftRightSigned ∷ t.Operator op.ShiftRight ∷
    -- += -= (
    t.PlusEquals ∷ t.MinusEquals ∷ t.Open ∷
    -- ) , ;
    t.Close ∷ t.Comma ∷ t.Semicolon ∷
    -- : ' ~
    t.Colon ∷ t.Apostrophe ∷ t.Tilde ∷
    -- ? ! $
    t.Indirection width.Byte ∷ t.Indirection width.Word ∷ t.Dollar ∷
    -- # [ ]
    t.Other ∷ t.OpenSquare ∷ t.CloseSquare ∷
    -- { } ^
    t.Other ∷ t.Other ∷ t.Other ∷
    []

-- the terminal at a place, or one that no production has
abbrev pub terminal_at : List Terminal → ℕ → Terminal
terminal_at terminals place = slice_index_or terminals place t.Other

-- the terminal of a token: its byte, or 256 times the first byte of a pair and the second
unfoldable pub terminal_of_token : ℕ → Terminal
terminal_of_token token =
    if token == 0xc88e then t.Keyword word.Case
    else if token == 0xc894 then t.Keyword word.Swap
    else if token == 0xc895 then t.Keyword word.While
    else if token == 0xc898 then t.Keyword word.Quit
    else if nat_lt token 0x7f then t.Other
    else terminal_at single_tokens (token - 0x7f)

-- whether a name without suffix is a label of the file
unfoldable pub is_label : List Name → List ℕ → Bool
is_label labels bytes = list_any (λ label. bytes_eq label.text bytes) labels

-- the terminal of a name
unfoldable pub terminal_of_name : List Name → List ℕ → ℕ → ℕ → Bool → Terminal
terminal_of_name labels bytes n suffix bracket =
    if suffix == 0x25 then (if bracket then t.IntArray n else t.IntName n)
    else if suffix == 0x24 then (if bracket then t.StrArray n else t.StrName n)
    else if bracket then t.Other
    else if is_label labels bytes then t.Label n
    else t.Other

-- the terminal of FN or PROC with a name
unfoldable pub terminal_of_call : List ℕ → ℕ → Bool → Bool → Terminal
terminal_of_call bytes n function bracket =
    if function then
    (if bracket then (if ends_with nat_eq bytes (codes "$(") then t.StrFunctionOpen n else t.NumFunctionOpen n)
    else (if ends_with nat_eq bytes (codes "$") then t.StrFunction n else t.NumFunction n))
    else (if bracket then t.ProcedureOpen n else t.Procedure n)

-- the terminal of a symbol, which has this place in its line
unfoldable pub terminal_of : List Name → List ℕ → ℕ → Sym → Terminal
terminal_of labels text n sym = elim sym.kind [
  | kinds.Token token ↦ terminal_of_token token
  | kinds.Name suffix bracket ↦ terminal_of_name labels (slice_range text sym.from sym.to) n suffix bracket
  | kinds.Call function bracket ↦ terminal_of_call (slice_range text sym.from sym.to) n function bracket
  | kinds.Label ↦ t.Other
  | kinds.Number value ↦ t.Number value
  | kinds.Text ↦ t.Literal n
  | kinds.LineRef number ↦ t.LineRef number
  | kinds.Mark number ↦ terminal_at sign_terminals number
  | kinds.Tail ↦ t.Tail n
]

-- the terminals of symbols from a place of their line on
unfoldable pub terminals_from : List Name → List ℕ → ℕ → List Sym → List Terminal
terminals_from labels text n [] = []
terminals_from labels text n (sym ∷ syms) = terminal_of labels text n sym ∷ terminals_from labels text (n + 1) syms

-- the terminals of a line's symbols
abbrev pub terminals_of : List Name → List ℕ → List Sym → List Terminal
terminals_of labels text syms = terminals_from labels text 0 syms

-- Each symbol's bytes lie in the text.
abbrev pub AreWithin : List ℕ → List Sym → Type 0
AreWithin text syms = All (λ sym. (sym.from ≤ sym.to) × (sym.to ≤ length text)) syms
