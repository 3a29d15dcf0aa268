-- The part at the front of a text: there is one at most, and how many bytes it has.
use Rattle.std.proofs.Common.{◌≡◌, ◌≢◌, ℕ, ◌+◌, ◌<◌, ◌≤◌, Bool, true, false, not, ◌&&◌, ◌||◌, ◌==◌, nat_le, nat_lt, if◌then◌else◌, List, [], ◌∷◌, length, take_while, Option, Some, None, refl, sym, ap, subst, ◌∙◌, arith, length-append, true≢false, eq-eqb}
use Rattle.bv_num.specs.Digits.{is_digit}
use Rattle.bv_num.specs.Value.{front_digits, front_value}
use Rattle.bv_token.specs.Names.{begins_name, is_in_name}
use Rattle.bv_token.specs.Words.{LongestWord}
use Rattle.bv_token.proofs.Candidates.{one_longest}
use Rattle.basv_crunch.specs.declared.part.Kind.{Kind}
use Rattle.basv_crunch.specs.declared.part.Kind.TheVariants as kinds
use Rattle.basv_crunch.specs.declared.part.Part.{Part}
use Rattle.basv_crunch.specs.declared.part.Place.{Place}
use Rattle.basv_crunch.specs.declared.part.Place.TheVariants as places
use Rattle.basv_crunch.specs.Parts.{part_of, unless_none, kept, is_reference, referred, Early, Alone, Before, by_place, worded, row, single, or_else, by_text, FirstOf, FirstPart}
use Rattle.basv_crunch.proofs.Rows.{row_within}

one_of : (early : Early) (place : Place) (text : List ℕ) (a b : Option Part) → FirstOf early place text a → FirstOf early place text b → a ≡ b
one_of (Alone part) place text a b p q = p ∙ sym q
one_of (Before (Some part)) place text a b p q = p ∙ sym q
one_of (Before None) place text a b p q = p.2 ∙ ap (λ word. by_text place word text) (one_longest text p.0 q.0 p.1 q.1) ∙ sym q.2

-- a text has one first part at most
pub one_first : (place : Place) (text : List ℕ) (a b : Option Part) → FirstPart place text a → FirstPart place text b → a ≡ b
one_first place text a b p q = one_of (by_place place text) place text a b p q

-- a part has some bytes, and no more than these
abbrev pub Within : ℕ → Option Part → Type 0
Within most None = Unit {0}
Within most (Some part) = (0 < part.size) × (part.size ≤ most)

unless_none_within : (most : ℕ) (kind : Kind) (size : ℕ) → size ≤ most → Within most (unless_none kind size)
unless_none_within most kind size within = cases (size == 0) refl
  where
    cases : (t : Bool) → (size == 0) ≡ t → Within most (if t then None else Some (part_of kind size))
    cases true is = tt
    cases false is = let some : size ≢ 0 = λ e. true≢false (sym (eq-eqb size 0 e) ∙ is) in (omega (arith, some), within)

kept_within : (text : List ℕ) → Within (length text) (kept text)
kept_within [] = tt
kept_within (b ∷ rest) = cases (nat_le 32 b && not (b == 127))
  where
    cases : (t : Bool) → Within (length (b ∷ rest)) (if t then Some (part_of (kinds.Kept b) 1) else None)
    cases true = (omega arith, omega arith)
    cases false = tt

referred_within : (text : List ℕ) → Within (length text) (referred text)
referred_within text = cases (is_reference text)
  where
    cases : (t : Bool) → Within (length text) (if t then unless_none (kinds.Reference (front_value 10 text)) (length (front_digits 10 text)) else None)
    cases true = unless_none_within (length text) _ (length (front_digits 10 text)) (row_within (is_digit 10) text)
    cases false = tt

-- what the first three rules give is within these bytes
abbrev EarlyWithin : ℕ → Early → Type 0
EarlyWithin most (Alone found) = Within most found
EarlyWithin most (Before found) = Within most found

by_place_within : (place : Place) (text : List ℕ) → EarlyWithin (length text) (by_place place text)
by_place_within places.Quotes text = kept_within text
by_place_within places.Tail text = kept_within text
by_place_within places.Call text = unless_none_within (length text) _ (length (take_while is_in_name text)) (row_within is_in_name text)
by_place_within places.Awaiting text = referred_within text
by_place_within places.Start text = tt
by_place_within places.Code text = tt
by_place_within places.Referred text = tt

row_part_within : (text : List ℕ) → Within (length text) (row text)
row_part_within [] = tt
row_part_within (b ∷ rest) = cases (b == 38) (begins_name b || b == 64)
  where
    cases : (t u : Bool) → Within (length (b ∷ rest)) (if t then Some (part_of kinds.Row (1 + length (front_digits 16 rest))) else if u then Some (part_of kinds.Row (1 + length (take_while is_in_name rest))) else None)
    cases true u = (omega arith, omega (arith, row_within (is_digit 16) rest))
    cases false true = (omega arith, omega (arith, row_within is_in_name rest))
    cases false false = tt

single_within : (text : List ℕ) → Within (length text) (single text)
single_within [] = tt
single_within (b ∷ rest) = cases (nat_le 32 b && nat_lt b 127)
  where
    cases : (t : Bool) → Within (length (b ∷ rest)) (if t then Some (part_of (kinds.Single b) 1) else None)
    cases true = (omega arith, omega arith)
    cases false = tt

or_else_within : (most : ℕ) (a b : Option Part) → Within most a → Within most b → Within most (or_else a b)
or_else_within most None b is other = other
or_else_within most (Some part) b is other = is

worded_within : (place : Place) (text : List ℕ) (word : Option (ℕ × ℕ)) → LongestWord text word → Within (length text) (worded place word)
worded_within place text None longest = tt
worded_within place text (Some word) longest =
    let b = longest.0 in
    let some : word.0 ≢ 0 = b.some in
    (omega (arith, some), omega (arith, b.size_is, ap length b.spelled, length-append b.word b.rest))

of_within : (early : Early) (place : Place) (text : List ℕ) (found : Option Part) → EarlyWithin (length text) early → FirstOf early place text found → Within (length text) found
of_within (Alone part) place text found is first = subst (Within (length text)) (sym first) is
of_within (Before (Some part)) place text found is first = subst (Within (length text)) (sym first) is
of_within (Before None) place text found is first =
    subst (Within (length text)) (sym first.2) (or_else_within (length text) (worded place first.0) (or_else (row text) (single text)) (worded_within place text first.0 first.1) (or_else_within (length text) (row text) (single text) (row_part_within text) (single_within text)))

-- the first part is within its text
pub first_within : (place : Place) (text : List ℕ) (found : Option Part) → FirstPart place text found → Within (length text) found
first_within place text found first = of_within (by_place place text) place text found (by_place_within place text) first
