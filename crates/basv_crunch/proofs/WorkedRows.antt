-- A worked row for each rule of tokenising, which the checker computes.
use Rattle.std.proofs.Common.{◌≡◌, [], ◌∷◌, codes, Some, None, refl}
use Rattle.basv_crunch.specs.declared.part.Kind.TheVariants as kinds
use Rattle.basv_crunch.specs.declared.part.Place.TheVariants as places
use Rattle.bv_num.specs.Value.{front_value}
use Rattle.basv_crunch.specs.Pieces.{pieces}
use Rattle.basv_crunch.specs.Parts.{part_of, kept, called, referred, worded, row, single, after_part}

-- one byte 13 before a byte 10 is dropped
cut_row : pieces (65 ∷ 13 ∷ 13 ∷ 10 ∷ 66 ∷ []) ≡ (65 ∷ 13 ∷ []) ∷ (66 ∷ []) ∷ []
cut_row = refl

kept_row : kept (229 ∷ codes "10") ≡ Some (part_of (kinds.Kept 229) 1)
kept_row = refl

kept_row_127 : kept (127 ∷ []) ≡ None
kept_row_127 = refl

called_row : called (codes "END_1`(X%)") ≡ Some (part_of kinds.Called 6)
called_row = refl

reference_row : referred (codes "65279,10") ≡ Some (part_of (kinds.Reference 65279) 5)
unfolding front_value
reference_row = refl

reference_row_0 : referred (codes "0 ") ≡ Some (part_of (kinds.Reference 0) 1)
unfolding front_value
reference_row_0 = refl

no_reference_row : referred (codes "010") ≡ None
unfolding front_value
no_reference_row = refl

no_reference_row_65280 : referred (codes "65280") ≡ None
unfolding front_value
no_reference_row_65280 = refl

-- ELSE where only spaces come before it, and elsewhere
else_row : worded places.Start (Some (4, 139)) ≡ Some (part_of (kinds.Word 204) 4)
else_row = refl

else_row_elsewhere : worded places.Code (Some (4, 139)) ≡ Some (part_of (kinds.Word 139) 4)
else_row_elsewhere = refl

hexadecimal_row : row (codes "&1fEND") ≡ Some (part_of kinds.Row 4)
hexadecimal_row = refl

name_row : row (codes "a_ENDs%") ≡ Some (part_of kinds.Row 6)
name_row = refl

single_row : single (codes "%") ≡ Some (part_of (kinds.Single 37) 1)
single_row = refl

no_single_row : single (9 ∷ []) ≡ None
no_single_row = refl

-- spaces about the comma of a list of references don't end it
comma_row : after_part (after_part (after_part places.Referred (kinds.Single 32)) (kinds.Single 44)) (kinds.Single 32) ≡ places.Awaiting
comma_row = refl

-- after a number that is no reference none is awaited
digit_row : after_part places.Awaiting (kinds.Single 48) ≡ places.Code
digit_row = refl
