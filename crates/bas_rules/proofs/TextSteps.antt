-- One byte more of the items of DATA.
use Rattle.std.proofs.Common.{◌≡◌, ℕ, ◌+◌, ◌-◌, ◌<◌, ◌≤◌, Bool, true, false, not, ◌&&◌, ◌==◌, List, [], ◌∷◌, ◌++◌, length, map, drop, take, get_or, if◌then◌else◌, refl, sym, ap, ◌∙◌, append_assoc, arith}
use Rattle.std.proofs.lemmas.List.{append-nil, at_drop_more, take_more, get_or-drop, length-drop}
use Rattle.bas_ast.specs.declared.program.DataItem.{DataItem}
use Rattle.bas_rules.specs.Texts.{quotation_mark, comma, pieces_from, with_first, data_item}

-- bytes in front of the first of some pieces
abbrev pub with_front : List ℕ → List (List ℕ) → List (List ℕ)
with_front front [] = front ∷ []
with_front front (piece ∷ pieces) = (front ++ piece) ∷ pieces

-- nothing in front changes nothing
with_nothing : (c : ℕ) (pieces : List (List ℕ)) → with_first c pieces ≡ with_front [] (with_first c pieces)
with_nothing c [] = refl
with_nothing c (piece ∷ pieces) = refl

-- a byte in front is one more byte at the end of what is in front of it
with_more : (front : List ℕ) (c : ℕ) (pieces : List (List ℕ)) → with_front front (with_first c pieces) ≡ with_front (front ++ c ∷ []) pieces
with_more front c [] = refl
with_more front c (piece ∷ pieces) = ap (λ p. p ∷ pieces) (sym (append_assoc front (c ∷ []) piece))

-- the pieces by what their first byte is
abbrev pieces_by : (is_end is_mark inside : Bool) (c : ℕ) (rest : List ℕ) → List (List ℕ)
pieces_by is_end is_mark inside c rest =
    if is_end then [] ∷ pieces_from inside rest
    else if is_mark then with_first c (pieces_from (not inside) rest)
    else with_first c (pieces_from inside rest)

pieces_by_some : (is_end is_mark inside : Bool) (c : ℕ) (rest : List ℕ) → pieces_by is_end is_mark inside c rest ≡ with_front [] (pieces_by is_end is_mark inside c rest)
pieces_by_some true is_mark inside c rest = refl
pieces_by_some false true inside c rest = with_nothing c (pieces_from (not inside) rest)
pieces_by_some false false inside c rest = with_nothing c (pieces_from inside rest)

-- there is always a piece
pub pieces_some : (inside : Bool) (bytes : List ℕ) → pieces_from inside bytes ≡ with_front [] (pieces_from inside bytes)
pieces_some inside [] = refl
pieces_some inside (c ∷ rest) = pieces_by_some (c == comma && not inside) (c == quotation_mark) inside c rest

ends_here : (is_end is_mark inside : Bool) (c : ℕ) (rest : List ℕ) → is_end ≡ true → pieces_by is_end is_mark inside c rest ≡ [] ∷ pieces_from inside rest
ends_here true is_mark inside c rest e = refl
ends_here false is_mark inside c rest e = cc

marks_here : (is_end is_mark inside : Bool) (c : ℕ) (rest : List ℕ) → is_end ≡ false → is_mark ≡ true → pieces_by is_end is_mark inside c rest ≡ with_first c (pieces_from (not inside) rest)
marks_here false true inside c rest e m = refl
marks_here true is_mark inside c rest e m = cc
marks_here false false inside c rest e m = cc

goes_on_here : (is_end is_mark inside : Bool) (c : ℕ) (rest : List ℕ) → is_end ≡ false → is_mark ≡ false → pieces_by is_end is_mark inside c rest ≡ with_first c (pieces_from inside rest)
goes_on_here false false inside c rest e m = refl
goes_on_here true is_mark inside c rest e m = cc
goes_on_here false true inside c rest e m = cc

-- the piece that began at a place, up to another
abbrev pub piece : ℕ → ℕ → List ℕ → List ℕ
piece start i tail = take (i - start) (drop start tail)

-- the items, where the piece that began at a place has come to another
abbrev pub items_at : ℕ → List DataItem → ℕ → Bool → ℕ → List ℕ → List DataItem
items_at line items start inside i tail = items ++ map (data_item line) (with_front (piece start i tail) (pieces_from inside (drop i tail)))

-- the piece with its next byte
piece_more : (start i : ℕ) (tail : List ℕ) → start ≤ i → i < length tail → piece start (i + 1) tail ≡ piece start i tail ++ get_or tail i 0 ∷ []
piece_more start i tail from within =
    let next : i + 1 - start ≡ (i - start) + 1 = omega (arith, from) in
    let place : start + (i - start) ≡ i = omega (arith, from) in
    ap (λ n. take n (drop start tail)) next ∙ take_more (drop start tail) (i - start) 0 (omega (arith, from, within, length-drop start tail))
    ∙ ap (λ c. piece start i tail ++ c ∷ []) (get_or-drop start tail (i - start) 0 ∙ ap (λ n. get_or tail n 0) place)

-- a piece that begins at a place has no byte there yet
piece_none : (i : ℕ) (tail : List ℕ) → piece (i + 1) (i + 1) tail ≡ []
piece_none i tail = let none : i + 1 - (i + 1) ≡ 0 = omega arith in ap (λ n. take n (drop (i + 1) tail)) none

-- at a comma outside quotation marks a piece ends
pub at_comma : (line : ℕ) (items : List DataItem) (start i : ℕ) (inside : Bool) (tail : List ℕ) → i < length tail → (get_or tail i 0 == comma && not inside) ≡ true
    → items_at line items start inside i tail ≡ items_at line (items ++ data_item line (piece start i tail) ∷ []) (i + 1) inside (i + 1) tail
at_comma line items start i inside tail within e =
    let front = piece start i tail in
    let rest = drop (i + 1) tail in
    ap (λ r. items ++ map (data_item line) (with_front front (pieces_from inside r))) (at_drop_more (λ (r : List ℕ). r) tail i 0 within)
    ∙ ap (λ ps. items ++ map (data_item line) (with_front front ps)) (ends_here (get_or tail i 0 == comma && not inside) _ inside (get_or tail i 0) rest e)
    ∙ ap (λ p. items ++ data_item line p ∷ map (data_item line) (pieces_from inside rest)) (append-nil front)
    ∙ sym (append_assoc items (data_item line front ∷ []) (map (data_item line) (pieces_from inside rest)))
    ∙ ap (λ ps. (items ++ data_item line front ∷ []) ++ map (data_item line) ps) (pieces_some inside rest)
    ∙ ap (λ f. (items ++ data_item line front ∷ []) ++ map (data_item line) (with_front f (pieces_from inside rest))) (sym (piece_none i tail))

-- a quotation mark leads inside or outside
pub at_mark : (line : ℕ) (items : List DataItem) (start i : ℕ) (inside : Bool) (tail : List ℕ) → start ≤ i → i < length tail → (get_or tail i 0 == comma && not inside) ≡ false
    → (get_or tail i 0 == quotation_mark) ≡ true → items_at line items start inside i tail ≡ items_at line items start (not inside) (i + 1) tail
at_mark line items start i inside tail from within e m =
    let front = piece start i tail in
    let rest = drop (i + 1) tail in
    ap (λ r. items ++ map (data_item line) (with_front front (pieces_from inside r))) (at_drop_more (λ (r : List ℕ). r) tail i 0 within)
    ∙ ap (λ ps. items ++ map (data_item line) (with_front front ps)) (marks_here _ _ inside (get_or tail i 0) rest e m)
    ∙ ap (λ ps. items ++ map (data_item line) ps) (with_more front (get_or tail i 0) (pieces_from (not inside) rest))
    ∙ ap (λ f. items ++ map (data_item line) (with_front f (pieces_from (not inside) rest))) (sym (piece_more start i tail from within))

-- any other byte is one more of the piece
pub at_other : (line : ℕ) (items : List DataItem) (start i : ℕ) (inside : Bool) (tail : List ℕ) → start ≤ i → i < length tail → (get_or tail i 0 == comma && not inside) ≡ false
    → (get_or tail i 0 == quotation_mark) ≡ false → items_at line items start inside i tail ≡ items_at line items start inside (i + 1) tail
at_other line items start i inside tail from within e m =
    let front = piece start i tail in
    let rest = drop (i + 1) tail in
    ap (λ r. items ++ map (data_item line) (with_front front (pieces_from inside r))) (at_drop_more (λ (r : List ℕ). r) tail i 0 within)
    ∙ ap (λ ps. items ++ map (data_item line) (with_front front ps)) (goes_on_here _ _ inside (get_or tail i 0) rest e m)
    ∙ ap (λ ps. items ++ map (data_item line) ps) (with_more front (get_or tail i 0) (pieces_from inside rest))
    ∙ ap (λ f. items ++ map (data_item line) (with_front f (pieces_from inside rest))) (sym (piece_more start i tail from within))
