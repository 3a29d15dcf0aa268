use Rattle.std.proofs.Common.{◌≡◌, refl, arith, Some, sym, subst, true, false, rules, inl, inr}
use Rattle.bv_token.specs.declared.reference.TheConstants.{LINE_REFERENCE}
use Rattle.bv_token.specs.declared.tokens.TheConstants.{FN, PROC}
use Rattle.bas_lex.specs.declared.number.Radix.TheVariants as radixes
use Rattle.bas_lex.proofs.Classes.{OfName, OfSystemName, OfText, OfLabel, OfLineRef, OfToken, OfSign, OfCall, OfNumber, joined, joined_at, class_name, class_decimal, class_token, class_sign}
use Rattle.bv_token.specs.Names.{begins_name}
use Rattle.bas_lex.specs.Bytes.{ampersand, at_sign, percent_sign, point, quotation_mark}
use Rattle.bas_lex.specs.Scan.{Best, Names}
use Rattle.bas_lex.proofs.scan.read_symbol.Goals as goal
use Rattle.bas_lex.proofs.scan.read_symbol.Goals.{in_default-via-then-first-lt48, in_default-via-else-first-lt48+else-first-lt58+then-first-lt127}

pub returns-in-38 : goal.returns-in-38
returns-in-38 c = joined_at c.args.asm _ _ ampersand _ (OfNumber radixes.Hexadecimal) _ c.requires.whole c.in-38.is refl c.read_number.ensures

pub returns-in-37 : goal.returns-in-37
returns-in-37 c = joined_at c.args.asm _ _ percent_sign _ (OfNumber radixes.Binary) _ c.requires.whole c.in-37.is refl c.read_number-in-37.ensures

pub returns-in-34 : goal.returns-in-34
returns-in-34 c = joined_at c.args.asm _ _ quotation_mark _ OfText _ c.requires.whole c.in-34.is refl c.read_text.ensures

pub returns-in-46 : goal.returns-in-46
returns-in-46 c = joined_at c.args.asm _ _ point _ OfLabel _ c.requires.whole c.in-46.is refl c.read_label.ensures

pub returns-in-64 : goal.returns-in-64
returns-in-64 c = joined_at c.args.asm _ _ at_sign _ OfSystemName _ c.requires.whole c.in-64.is refl c.read_system_name.ensures

pub returns-in-141 : goal.returns-in-141
returns-in-141 c = joined_at c.args.asm _ _ LINE_REFERENCE _ OfLineRef _ c.requires.whole c.in-141.is refl c.read_line_ref.ensures

pub returns-in-164 : goal.returns-in-164
returns-in-164 c = joined_at c.args.asm _ _ FN _ (OfCall true) (Some c.read_call.result) c.requires.whole c.in-164.is refl c.read_call.ensures

pub returns-in-242 : goal.returns-in-242
returns-in-242 c = joined_at c.args.asm _ _ PROC _ (OfCall false) (Some c.read_call-in-242.result) c.requires.whole c.in-242.is refl c.read_call-in-242.ensures

pub returns-in-48-to-57 : goal.returns-in-48-to-57
returns-in-48-to-57 c = joined c.args.asm _ _ _ (OfNumber radixes.Decimal) _ c.requires.whole (class_decimal c.args.first (omega arith) (omega arith)) c.read_number-in-48-to-57.ensures

pub returns-in-127-to-255 : goal.returns-in-127-to-255
returns-in-127-to-255 c = joined_at c.args.asm _ _ c.args.first _ OfToken _ c.requires.whole refl (class_token c.args.first (omega arith) (λ e. omega (arith, e)) (λ e. omega (arith, e)) (λ e. omega (arith, e))) c.read_token.ensures

pub returns-in_default : goal.returns-in_default
returns-in_default c =
    joined c.args.asm _ c.args.first _ OfName (Some c.read_name.result) c.requires.whole (class_name c.args.first (search rules)) (subst (λ t. Best Names t (Some c.read_name.result)) (sym c.requires.whole) c.read_name.ensures)

pub returns-in_default-2 : goal.returns-in_default-2
returns-in_default-2 c =
    let no_name : begins_name c.args.first ≡ false = search rules in
    joined c.args.asm _ c.args.first _ OfSign c.read_sign.result c.requires.whole
    (elim c.in_default.branch [
      | in_default-via-then-first-lt48 w ↦ class_sign c.args.first no_name (inl (omega arith)) (λ e. omega (arith, e)) (λ e. omega (arith, e)) (λ e. omega (arith, e)) (λ e. omega (arith, e)) (λ e. omega (arith, e)) (omega arith)
      | in_default-via-else-first-lt48+else-first-lt58+then-first-lt127 w ↦ class_sign c.args.first no_name (inr (omega arith)) (λ e. omega (arith, e)) (λ e. omega (arith, e)) (λ e. omega (arith, e)) (λ e. omega (arith, e)) (λ e. omega (arith, e)) (omega arith)
    ])
    c.read_sign.ensures
