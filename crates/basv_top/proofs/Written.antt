-- Writing a text in pieces.
use Rattle.std.proofs.Common.{◌≡◌, ℕ, ◌+◌, ◌<◌, ◌≤◌, List, [], ◌++◌, length, drop, flat_map, get_or, Option, Bor, sym, ap, ◌∙◌, append_assoc, append-nil}
use Rattle.bv_io.specs.Sink.{with_bytes, WritesPart}
use Rattle.bv_io.proofs.Loops.{with_bytes-append, part_of_piece}
use Rattle.std.proofs.lemmas.List.{drop_more, drop_all}

-- The pieces before a place were written, and with those from there on they are the whole text.
pub record WritesPieces (old written : Option (List ℕ)) (pieces : List (Bor (List ℕ))) (place : ℕ) (whole : List ℕ) : Type 0 where
  pub done : List ℕ
  pub is_written : written ≡ with_bytes old done
  pub rest : done ++ flat_map (λ piece. piece.now) (drop place pieces) ≡ whole

-- the piece at a place, and those after it
next_piece : (pieces : List (Bor (List ℕ))) (place : ℕ) (d : Bor (List ℕ)) (done : List ℕ) → place < length pieces → done ++ flat_map (λ piece. piece.now) (drop place pieces) ≡ (done ++ (get_or pieces place d).now) ++ flat_map (λ piece. piece.now) (drop (place + 1) pieces)
next_piece pieces place d done inside =
    ap (λ l. done ++ flat_map (λ piece. piece.now) l) (drop_more pieces place d inside) ∙ sym (append_assoc done _ _)

-- a piece was written
pub piece_written : (old written after : Option (List ℕ)) (pieces : List (Bor (List ℕ))) (place : ℕ) (d : Bor (List ℕ)) (whole piece : List ℕ) → place < length pieces → piece ≡ (get_or pieces place d).now → WritesPieces old written pieces place whole → after ≡ with_bytes written piece → WritesPieces old after pieces (place + 1) whole
piece_written old written after pieces place d whole piece inside is so writes = record {
  done = so.done ++ piece;
  is_written = writes ∙ ap (λ w. with_bytes w piece) so.is_written ∙ with_bytes-append old so.done piece;
  rest = ap (λ p. (so.done ++ p) ++ flat_map (λ piece. piece.now) (drop (place + 1) pieces)) is ∙ sym (next_piece pieces place d so.done inside) ∙ so.rest;
}

-- a first part of a piece was written
pub piece_broken : (old written after : Option (List ℕ)) (pieces : List (Bor (List ℕ))) (place : ℕ) (d : Bor (List ℕ)) (whole piece end : List ℕ) → place < length pieces → piece ≡ (get_or pieces place d).now → WritesPieces old written pieces place whole → WritesPart written piece after → WritesPart old (whole ++ end) after
piece_broken old written after pieces place d whole piece end inside is so part =
    let later = flat_map (λ p. p.now) (drop (place + 1) pieces) in
    let split : whole ++ end ≡ (so.done ++ piece) ++ (later ++ end) =
    ap (λ l. l ++ end) (sym so.rest ∙ next_piece pieces place d so.done inside ∙ ap (λ p. (so.done ++ p) ++ later) (sym is)) ∙ append_assoc (so.done ++ piece) later end in
    part_of_piece old written after so.done piece (whole ++ end) so.is_written (later ++ end, split) part

-- all pieces were written
pieces_done : (old written : Option (List ℕ)) (pieces : List (Bor (List ℕ))) (place : ℕ) (whole : List ℕ) → length pieces ≤ place → WritesPieces old written pieces place whole → written ≡ with_bytes old whole
pieces_done old written pieces place whole all so =
    let none : drop place pieces ≡ [] = drop_all place pieces all in
    so.is_written ∙ ap (λ l. with_bytes old l) (sym (append-nil so.done) ∙ ap (λ l. so.done ++ flat_map (λ piece. piece.now) l) (sym none) ∙ so.rest)

-- the end after the pieces was written, or a first part of it
pub end_written : (old written after : Option (List ℕ)) (pieces : List (Bor (List ℕ))) (place : ℕ) (whole end : List ℕ) → length pieces ≤ place → WritesPieces old written pieces place whole → after ≡ with_bytes written end → after ≡ with_bytes old (whole ++ end)
end_written old written after pieces place whole end all so writes =
    writes ∙ ap (λ w. with_bytes w end) (pieces_done old written pieces place whole all so) ∙ with_bytes-append old whole end

pub end_broken : (old written after : Option (List ℕ)) (pieces : List (Bor (List ℕ))) (place : ℕ) (whole end : List ℕ) → length pieces ≤ place → WritesPieces old written pieces place whole → WritesPart written end after → WritesPart old (whole ++ end) after
end_broken old written after pieces place whole end all so part =
    part_of_piece old written after whole end (whole ++ end) (pieces_done old written pieces place whole all so) ([], sym (append-nil (whole ++ end))) part
