-- Every text is cut into symbols, or is bad at a place.
use Rattle.std.proofs.Common.{◌≡◌, ◌≢◌, ◌⊎◌, inl, inr, ℕ, zero, suc, ◌+◌, ◌*◌, ◌-◌, ◌^◌, ◌≤◌, ◌<◌, min, Bool, true, false, ◌||◌, ◌==◌, List, [], ◌∷◌, ◌++◌, length, drop, Option, Some, None, is_some, refl, sym, ap, subst, ◌∙◌, arith, append_assoc, append-nil, length-append, true≢false}
use Rattle.std.specs.Int.{w32, cast_signed, cast_unsigned}
use Rattle.std.proofs.lemmas.Bool.{cases_eq, cases_lt, cases_Bool, ne_eqb}
use Rattle.bv_token.specs.declared.reference.TheConstants.{LINE_REFERENCE}
use Rattle.bv_token.specs.declared.tokens.TheConstants.{REM, DATA, OTHERWISE, FN, PROC}
use Rattle.bv_token.specs.Tokens.{begins_pair, keyword_of}
use Rattle.bv_token.specs.References.{referred}
use Rattle.bas_lex.specs.declared.front.Front.{Front}
use Rattle.bas_lex.specs.declared.name.NameEnd.{NameEnd}
use Rattle.bv_num.specs.declared.value.DigitRun.{DigitRun}
use Rattle.bv_num.specs.Digits.{is_digit}
use Rattle.std.specs.Str.Parse.{digits_value}
use Rattle.bas_lex.specs.declared.number.Radix.{Radix}
use Rattle.bas_lex.specs.declared.number.Radix.TheVariants as radixes
use Rattle.bas_lex.specs.declared.symbol.Mode.{Mode}
use Rattle.bas_lex.specs.declared.symbol.Sym.{Sym}
use Rattle.bas_lex.specs.declared.symbol.SymKind.{SymKind}
use Rattle.bas_lex.specs.declared.symbol.SymKind.TheVariants as kinds
use Rattle.bv_token.specs.Names.{begins_name, is_in_name}
use Rattle.bas_lex.specs.Bytes.{ampersand, at_sign, digit_0, digit_9, dollar_sign, open_bracket, percent_sign, point, quotation_mark, space}
use Rattle.bas_lex.specs.Kinds.{IsSymbol, suffix_bytes, bracket_bytes, call_token, radix_mark, value_bound, base, signs}
use Rattle.bas_lex.specs.Cut.{Longest, Piece, Space, Comment, Tailed, begins_comment, AtComment, Fits, mode_after, mode_after_symbol, symbol_at, at_line, Cuts, symbols_of, Symbols, Bad, NoPiece}
use Rattle.bas_lex.specs.Scan.{Best, SystemNames, Calls, Labels, Numbers, Texts, LineRefs, Tokens, Signs, SignsOf, IsRun, is_suffix, SplitsSuffix, SplitsBracket, SplitsPercent, EndsName, EndsLabel, NoLabelName, HasDigits, ClosesLast, longer_sign}
use Rattle.bv_base.proofs.Lists.{same_head, same_tail}
use Rattle.bas_lex.proofs.Names.{name_best, call_best, no_call_best, system_best, no_system_name, label_plain, label_system, no_label_name, label_best, no_label, no_label_off}
use Rattle.bas_lex.proofs.Numbers.{no_digits, too_great, number_best}
use Rattle.bas_lex.proofs.Texts.{text_best, no_text, last_of}
use Rattle.bas_lex.proofs.Signs.{no_sign_yet, sign_more}
use Rattle.bas_lex.proofs.Tokens.{no_pair_alone, no_pair_found, pair_found, no_single_found, single_found, line_ref_best, no_line_ref}
use Rattle.bas_lex.proofs.Classes.{Class, OfName, OfSystemName, OfText, OfLabel, OfLineRef, OfToken, OfSign, OfCall, OfNumber, class_of, of_class, joined, joined_at, class_name, class_decimal, class_token, class_sign}
use Rattle.bas_lex.proofs.Pieces.{no_piece, no_piece_at_end, not_at_comment, piece_shortens, takes_symbol}
use Rattle.bas_lex.proofs.Cuts.{cuts_within}

-- the longest symbol of a family at the front of a text, or that there is none
abbrev Answer : (SymKind → List ℕ → List ℕ → Type 0) → List ℕ → Type 0
Answer symbol text = (found : Option Front) × Best symbol text found

run_of : (test : ℕ → Bool) (text : List ℕ) → (rest : List ℕ) × IsRun test text rest
run_of test [] = ([], record { run = []; each = tt; split = refl; stops = tt })
run_of test (c ∷ text) = by_test (cases_Bool (test c)) (run_of test text)
  where
    by_test : (test c ≡ true) ⊎ (test c ≡ false) → ((rest : List ℕ) × IsRun test text rest) → (rest : List ℕ) × IsRun test (c ∷ text) rest
    by_test (inl passes) more = (more.0, record { run = c ∷ more.1.run; each = (passes, more.1.each); split = ap (λ l. c ∷ l) more.1.split; stops = more.1.stops })
    by_test (inr fails) more = (c ∷ text, record { run = []; each = tt; split = refl; stops = fails })

neither : (c : ℕ) → c ≢ percent_sign → c ≢ dollar_sign → is_suffix c ≡ false
neither c not_percent not_dollar = ap (λ t. t || (c == dollar_sign)) (ne_eqb c percent_sign not_percent) ∙ ne_eqb c dollar_sign not_dollar

suffix_of : (text : List ℕ) → (suffix : ℕ) × (rest : List ℕ) × SplitsSuffix text suffix rest
suffix_of [] = (0, [], record { is_suffix_byte = inl refl; split = refl; bare = λ _. tt })
suffix_of (c ∷ text) =
    elim (cases_eq c percent_sign) [
      | inl e ↦ (percent_sign, text, record { is_suffix_byte = inr (inl refl); split = ap (λ n. n ∷ text) e; bare = λ z. absurd (omega (arith, z)) })
      | inr not_percent ↦ elim (cases_eq c dollar_sign) [
        | inl e ↦ (dollar_sign, text, record { is_suffix_byte = inr (inr refl); split = ap (λ n. n ∷ text) e; bare = λ z. absurd (omega (arith, z)) })
        | inr not_dollar ↦ (0, c ∷ text, record { is_suffix_byte = inl refl; split = refl; bare = λ _. neither c not_percent not_dollar })
      ]
    ]

bracket_of : (text : List ℕ) → (bracket : Bool) × (rest : List ℕ) × SplitsBracket text bracket rest
bracket_of [] = (false, [], record { split = refl; bare = λ _. tt })
bracket_of (c ∷ text) =
    elim (cases_eq c open_bracket) [
      | inl e ↦ (true, text, record { split = ap (λ n. n ∷ text) e; bare = λ e. absurd (true≢false e) })
      | inr other ↦ (false, c ∷ text, record { split = refl; bare = λ _. ne_eqb c open_bracket other })
    ]

name_end : (text : List ℕ) → (end : NameEnd) × EndsName text end
name_end text =
    let letters = run_of is_in_name text in
    let suffix = suffix_of letters.0 in
    let bracket = bracket_of suffix.1 in
    ends letters.0 suffix.0 suffix.1 bracket.0 bracket.1 letters.1 suffix.2 bracket.2
  where
    ends : (after_letters : List ℕ) (suffix : ℕ) (after_suffix : List ℕ) (bracket : Bool) (rest : List ℕ) → IsRun is_in_name text after_letters → SplitsSuffix after_letters suffix after_suffix → SplitsBracket after_suffix bracket rest → (end : NameEnd) × EndsName text end
    ends after_letters suffix after_suffix bracket rest l s b = (
      record { suffix = suffix; bracket = bracket; size = length text - length rest },
      record { after_letters = after_letters; after_suffix = after_suffix; rest = rest; letters = l; suffix = s; bracket = b; size = omega (arith, within) },
    )
      where
        within : length rest ≤ length text
        within = omega (arith, ap length l.split, length-append l.run after_letters, ap length s.split, length-append (suffix_bytes suffix) after_suffix, ap length b.split, length-append (bracket_bytes bracket) rest)

call_of : (function : Bool) (after : List ℕ) → Answer (Calls function) (call_token function ∷ after)
call_of function [] = (Some (record { kind = kinds.Token (call_token function); size = 1 }), no_call_best function [] tt)
call_of function (c ∷ after) =
    elim (cases_Bool (is_in_name c)) [
      | inl passes ↦ let end = name_end after in (Some (record { kind = kinds.Call function end.0.bracket; size = 2 + end.0.size }), call_best function (c ∷ after) c after end.0 refl passes end.1)
      | inr fails ↦ (Some (record { kind = kinds.Token (call_token function); size = 1 }), no_call_best function (c ∷ after) fails)
    ]

system_of : (after : List ℕ) → Answer SystemNames (at_sign ∷ after)
system_of [] = (None, no_system_name [] tt)
system_of (c ∷ after) =
    elim (cases_eq c percent_sign) [
      | inl e ↦ (Some (record { kind = kinds.Name percent_sign false; size = 2 }), subst (λ n. Longest SystemNames (at_sign ∷ n ∷ after) (kinds.Name percent_sign false) 2) (sym e) (system_best after))
      | inr other ↦ (None, no_system_name (c ∷ after) (ne_eqb c percent_sign other))
    ]

percent_of : (text : List ℕ) → (rest : List ℕ) × SplitsPercent text rest
percent_of [] = ([], inr (refl, tt))
percent_of (c ∷ text) =
    elim (cases_eq c percent_sign) [
      | inl e ↦ (text, inl (ap (λ n. n ∷ text) e))
      | inr other ↦ (c ∷ text, inr (refl, ne_eqb c percent_sign other))
    ]

label_name_of : (text : List ℕ) → ((rest : List ℕ) × EndsLabel text rest) ⊎ NoLabelName text
label_name_of [] = inr (no_label_name [] tt (λ rest e. (let differ : [] ≡ at_sign ∷ percent_sign ∷ rest = e in cc)))
label_name_of (c ∷ text) =
    elim (cases_Bool (begins_name c)) [
      | inl begins ↦ let run = run_of is_in_name text in let percent = percent_of run.0 in inl (percent.0, label_plain (c ∷ text) c text run.0 percent.0 refl begins run.1 percent.1)
      | inr fails ↦ elim (cases_eq c at_sign) [
        | inr other ↦ inr (no_label_name (c ∷ text) fails (λ rest e. other (same_head _ _ _ _ e)))
        | inl at ↦ by_percent at fails text refl
      ]
    ]
  where
    by_percent : c ≡ at_sign → begins_name c ≡ false → (more : List ℕ) → text ≡ more → ((rest : List ℕ) × EndsLabel (c ∷ text) rest) ⊎ NoLabelName (c ∷ text)
    by_percent at fails [] text_is = inr (no_label_name (c ∷ text) fails (λ rest e. (let differ : [] ≡ percent_sign ∷ rest = sym text_is ∙ same_tail _ _ _ _ e in cc)))
    by_percent at fails (d ∷ more) text_is =
        elim (cases_eq d percent_sign) [
          | inl e ↦ inl (more, label_system (c ∷ text) more ((λ i. at i ∷ text_is i) ∙ ap (λ n. at_sign ∷ n ∷ more) e))
          | inr other ↦ inr (no_label_name (c ∷ text) fails (λ rest e. other (same_head _ _ _ _ (sym text_is ∙ same_tail _ _ _ _ e))))
        ]

label_of : (asm : Bool) (after : List ℕ) → Answer (Labels asm) (point ∷ after)
label_of false after = (None, no_label_off (point ∷ after) false refl)
label_of true after =
    elim (label_name_of after) [
      | inl (rest, ends) ↦ (Some (record { kind = kinds.Label; size = 1 + (length after - length rest) }), label_best after rest true refl ends)
      | inr none ↦ (None, no_label after true none)
    ]

digits_of : (radix : Radix) (text : List ℕ) → (digits : DigitRun) × HasDigits radix text digits
digits_of radix text =
    let run = run_of (is_digit (base radix)) text in
    (record { value = min (digits_value (base radix) run.1.run) (2 ^ 32); count = length run.1.run }, record { rest = run.0; run = run.1; value = refl; count = refl })

number_of : (radix : Radix) (text : List ℕ) → Answer (Numbers radix) (radix_mark radix ++ text)
number_of radix text =
    let digits = digits_of radix text in
    elim (cases_eq digits.0.count 0) [
      | inl none ↦ (None, no_digits radix text digits.0 digits.1 none)
      | inr some ↦ elim (cases_lt digits.0.value (value_bound radix)) [
        | inr large ↦ (None, too_great radix text digits.0 digits.1 (value_bound radix) refl large)
        | inl small ↦ (
          Some (record { kind = kinds.Number (cast_signed w32 (cast_unsigned w32 (cast_signed w32 digits.0.value))); size = length (radix_mark radix) + digits.0.count }),
          number_best radix text digits.0 (value_bound radix) (length (radix_mark radix)) (cast_signed w32 digits.0.value) digits.1 some refl small refl refl,
        )
      ]
    ]

text_of : (after : List ℕ) → Answer Texts (quotation_mark ∷ after)
text_of after = by_last (last_of after)
  where
    by_last : ((last : Option ℕ) × ClosesLast after last) → Answer Texts (quotation_mark ∷ after)
    by_last (None, none) = (None, no_text after none)
    by_last (Some n, last) = (Some (record { kind = kinds.Text; size = 1 + n }), text_best after n last)

line_ref_of : (after : List ℕ) → Answer LineRefs (LINE_REFERENCE ∷ after)
line_ref_of [] = (None, no_line_ref [] (omega arith))
line_ref_of (a ∷ []) = (None, no_line_ref (a ∷ []) (omega arith))
line_ref_of (a ∷ b ∷ []) = (None, no_line_ref (a ∷ b ∷ []) (omega arith))
line_ref_of (a ∷ b ∷ c ∷ after) = (Some (record { kind = kinds.LineRef (referred a b c); size = 4 }), line_ref_best (referred a b c) a b c (a ∷ b ∷ c ∷ after) after refl refl)

token_of : (first : ℕ) (after : List ℕ) → first ≢ REM → first ≢ DATA → Answer Tokens (first ∷ after)
token_of first after not_rem not_data =
    elim (cases_Bool (begins_pair first)) [
      | inl begins ↦ pair begins after refl
      | inr alone ↦ elim (cases_Bool (is_some (keyword_of first 0))) [
        | inl found ↦ (Some (record { kind = kinds.Token first; size = 1 }), single_found first 0 first after _ alone not_rem not_data refl found refl)
        | inr absent ↦ (None, no_single_found first 0 after _ alone refl absent)
      ]
    ]
  where
    pair : begins_pair first ≡ true → (text : List ℕ) → after ≡ text → Answer Tokens (first ∷ after)
    pair begins [] e = (None, no_pair_alone first after begins e)
    pair begins (second ∷ rest) e =
        elim (cases_Bool (is_some (keyword_of first second))) [
          | inl found ↦ (Some (record { kind = kinds.Token (256 * first + second); size = 2 }), pair_found first second (256 * first + second) after rest _ begins e refl found refl)
          | inr absent ↦ (None, no_pair_found first second after rest _ begins e refl absent)
        ]

signs_on : (text : List ℕ) (before after : List (List ℕ)) → Answer (SignsOf before) text → Answer (SignsOf (before ++ after)) text
signs_on text before [] a = (a.0, subst (λ t. Best (SignsOf t) text a.0) (sym (append-nil before)) a.1)
signs_on text before (sign ∷ after) a =
    let next = signs_on text (before ++ sign ∷ []) after (longer_sign a.0 (length before) sign text, sign_more before sign text a.0 a.1) in
    (next.0, subst (λ t. Best (SignsOf t) text next.0) (append_assoc before (sign ∷ []) after) next.1)

sign_of : (text : List ℕ) → Answer Signs text
sign_of text = signs_on text [] signs (None, no_sign_yet text)

-- the longest symbol at the front of a text, or that there is none
module _ (asm : Bool) (text : List ℕ) (first : ℕ) (after : List ℕ) (text_is : text ≡ first ∷ after) where
  known : (byte : ℕ) (class : Class) → first ≡ byte → class_of byte ≡ class → Answer (of_class class asm) (byte ∷ after) → Answer (IsSymbol asm) text
  known byte class is class_is a = (a.0, joined_at asm text first byte after class a.0 text_is is class_is a.1)

  of_text : (class : Class) → class_of first ≡ class → Answer (of_class class asm) text → Answer (IsSymbol asm) text
  of_text class class_is a = (a.0, joined asm text first after class a.0 text_is class_is a.1)

  token_or_sign : first ≢ REM → first ≢ DATA → begins_name first ≡ false → (first < digit_0) ⊎ (digit_9 < first) → first ≢ ampersand → first ≢ percent_sign → first ≢ quotation_mark → first ≢ point → first ≢ at_sign → Answer (IsSymbol asm) text
  token_or_sign not_rem not_data no_name no_digit not_ampersand not_percent not_quote not_point not_at =
      elim (cases_lt first OTHERWISE) [
        | inl low ↦ of_text OfSign (class_sign first no_name no_digit not_ampersand not_percent not_quote not_point not_at low) (sign_of text)
        | inr high ↦ elim (cases_eq first LINE_REFERENCE) [
          | inl e ↦ known LINE_REFERENCE OfLineRef e refl (line_ref_of after)
          | inr not_ref ↦ elim (cases_eq first FN) [
            | inl e ↦ known FN (OfCall true) e refl (call_of true after)
            | inr not_fn ↦ elim (cases_eq first PROC) [
              | inl e ↦ known PROC (OfCall false) e refl (call_of false after)
              | inr not_proc ↦ known first OfToken refl (class_token first high not_ref not_fn not_proc) (token_of first after not_rem not_data)
            ]
          ]
        ]
      ]

  by_mark : first ≢ REM → first ≢ DATA → begins_name first ≡ false → (first < digit_0) ⊎ (digit_9 < first) → Answer (IsSymbol asm) text
  by_mark not_rem not_data no_name no_digit =
      elim (cases_eq first ampersand) [
        | inl e ↦ known ampersand (OfNumber radixes.Hexadecimal) e refl (number_of radixes.Hexadecimal after)
        | inr not_ampersand ↦ elim (cases_eq first percent_sign) [
          | inl e ↦ known percent_sign (OfNumber radixes.Binary) e refl (number_of radixes.Binary after)
          | inr not_percent ↦ elim (cases_eq first quotation_mark) [
            | inl e ↦ known quotation_mark OfText e refl (text_of after)
            | inr not_quote ↦ elim (cases_eq first point) [
              | inl e ↦ known point OfLabel e refl (label_of asm after)
              | inr not_point ↦ elim (cases_eq first at_sign) [
                | inl e ↦ known at_sign OfSystemName e refl (system_of after)
                | inr not_at ↦ token_or_sign not_rem not_data no_name no_digit not_ampersand not_percent not_quote not_point not_at
              ]
            ]
          ]
        ]
      ]

  best_of : first ≢ REM → first ≢ DATA → Answer (IsSymbol asm) text
  best_of not_rem not_data =
      elim (cases_Bool (begins_name first)) [
        | inl begins ↦ let end = name_end after in known first OfName refl (class_name first begins) (Some (record { kind = kinds.Name end.0.suffix end.0.bracket; size = 1 + end.0.size }), name_best first after end.0 begins end.1)
        | inr no_name ↦ elim (cases_lt first digit_0) [
          | inl low ↦ by_mark not_rem not_data no_name (inl low)
          | inr from_0 ↦ elim (cases_lt digit_9 first) [
            | inl high ↦ by_mark not_rem not_data no_name (inr high)
            | inr to_9 ↦ of_text (OfNumber radixes.Decimal) (class_decimal first from_0 to_9) (number_of radixes.Decimal text)
          ]
        ]
      ]

-- a piece begins a text, or none does
abbrev Piecewise : Bool → List ℕ → Type 0
Piecewise asm text = ((piece : Piece) × (rest : List ℕ) × Fits asm piece text rest) ⊎ NoPiece asm text

symbol_fits : (asm : Bool) (text : List ℕ) (front : Front) → (AtComment asm text → ⊥) → Longest (IsSymbol asm) text front.kind front.size → Piecewise asm text
symbol_fits asm text front absent longest =
    let mode : Mode = record { asm = asm; start = false } in
    let taken = takes_symbol 0 text mode (mode_after_symbol mode front.kind) [] (symbol_at 0 mode front.kind front.size ∷ []) front (drop front.size text) (symbol_at 0 mode front.kind front.size) absent longest refl refl refl refl in
    inl (taken.piece, drop front.size text, taken.fits)

rem_fits : (asm : Bool) (first : ℕ) (after : List ℕ) → begins_comment asm first ≡ false → first ≡ REM → Piecewise asm (first ∷ after)
rem_fits false first after absent e = inl (Tailed first after, [], (ap (λ l. first ∷ l) (sym (append-nil after)), (inl (e, refl), refl)))
rem_fits true first after absent e = absurd (true≢false (sym (ap (begins_comment true) e) ∙ absent))

decide_piece : (asm : Bool) (text : List ℕ) → Piecewise asm text
decide_piece asm [] = inr (no_piece_at_end asm [] refl)
decide_piece asm (first ∷ after) =
    elim (cases_Bool (begins_comment asm first)) [
      | inl begins ↦ inl (Comment (first ∷ after), [], (sym (append-nil (first ∷ after)), ((first, after, refl, begins), refl)))
      | inr absent ↦ elim (cases_eq first space) [
        | inl e ↦ inl (Space, after, (ap (λ n. n ∷ after) e, tt))
        | inr not_space ↦ elim (cases_eq first REM) [
          | inl e ↦ rem_fits asm first after absent e
          | inr not_rem ↦ elim (cases_eq first DATA) [
            | inl e ↦ inl (Tailed first after, [], (ap (λ l. first ∷ l) (sym (append-nil after)), (inr e, refl)))
            | inr not_data ↦ by_best absent not_space not_rem not_data (best_of asm (first ∷ after) first after refl not_rem not_data)
          ]
        ]
      ]
    ]
  where
    by_best : begins_comment asm first ≡ false → first ≢ space → first ≢ REM → first ≢ DATA → Answer (IsSymbol asm) (first ∷ after) → Piecewise asm (first ∷ after)
    by_best absent not_space not_rem not_data (None, none) = inr (no_piece asm (first ∷ after) first after refl absent not_space not_rem not_data none)
    by_best absent not_space not_rem not_data (Some front, best) = symbol_fits asm (first ∷ after) front (not_at_comment asm (first ∷ after) first after refl absent) best

-- pieces as far as they go
record Farthest (mode : Mode) (text : List ℕ) : Type 0 where
  pieces : List Piece
  last : Mode
  rest : List ℕ
  cut : Cuts mode text pieces last rest
  stuck : NoPiece last.asm rest

on_piece : (mode : Mode) (text : List ℕ) → ((mode' : Mode) (rest : List ℕ) → length rest < length text → Farthest mode' rest) → Piecewise mode.asm text → Farthest mode text
on_piece mode text next (inr stuck) = record { pieces = []; last = mode; rest = text; cut = (refl, refl); stuck = stuck }
on_piece mode text next (inl (piece, rest, fits)) =
    let far = next (mode_after mode piece) rest (piece_shortens mode.asm piece text rest fits) in
    record { pieces = piece ∷ far.pieces; last = far.last; rest = far.rest; cut = (rest, fits, far.cut); stuck = far.stuck }

farthest : (n : ℕ) (mode : Mode) (text : List ℕ) → length text ≤ n → Farthest mode text
farthest zero mode text within = on_piece mode text (λ mode' rest shorter. absurd (omega (arith, shorter, within))) (decide_piece mode.asm text)
farthest (suc n) mode text within = on_piece mode text (λ mode' rest shorter. farthest n mode' rest (omega (arith, shorter, within))) (decide_piece mode.asm text)

-- a text is cut into symbols, or is bad
pub cut_or_bad : (asm : Bool) (text : List ℕ) → ((list : List Sym) × (after : Bool) × Symbols asm text list after) ⊎ ((at : ℕ) × Bad asm text at)
cut_or_bad asm text = by_rest far.pieces far.last far.rest refl far.cut far.stuck
  where
    far : Farthest (at_line asm) text
    far = farthest (length text) (at_line asm) text (omega arith)

    by_rest : (pieces : List Piece) (last : Mode) (rest : List ℕ) → far.rest ≡ rest → Cuts (at_line asm) text pieces last far.rest → NoPiece last.asm far.rest → ((list : List Sym) × (after : Bool) × Symbols asm text list after) ⊎ ((at : ℕ) × Bad asm text at)
    by_rest pieces last [] e cut stuck =
        inl (symbols_of 0 (at_line asm) pieces, last.asm, record { pieces = pieces; last = last; cut = subst (λ r. Cuts (at_line asm) text pieces last r) e cut; listed = refl; after = refl })
    by_rest pieces last (c ∷ rest) e cut stuck =
        let within = cuts_within (at_line asm) last text far.rest pieces cut in
        inr (length text - length far.rest, record { pieces = pieces; last = last; rest = far.rest; cut = cut; at_is = omega (arith, within); some = λ empty. (let differ : c ∷ rest ≡ [] = sym e ∙ empty in cc); none = stuck })
