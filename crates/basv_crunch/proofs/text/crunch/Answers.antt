use Rattle.std.proofs.Common.{◌≡◌, ◌+◌, ◌<◌, ◌≤◌, ℕ, List, [], ◌∷◌, length, Bor, MatchOption, Option, All, sym, subst}
use Rattle.token_file.specs.declared.line.Line.{Line}
use Rattle.token_file.specs.Lines.{IsLine}
use Rattle.basv_crunch.specs.Pieces.{pieces}
use Rattle.basv_crunch.specs.Crunched.{kept_pieces}
use Rattle.basv_crunch.proofs.LineBytes.{all_lines}
use Rattle.basv_crunch.proofs.Theorem.{reads_or_not}
use Rattle.basv_crunch.proofs.Texts.{so_far_next, so_far_done, file_or_not, finished_or_not, only_or_not}
use Rattle.basv_crunch.proofs.text.crunch.Goals as goal

pub pieces-preserved : goal.pieces-preserved
pieces-preserved c =
    let piece = c.split_piece.result.0.now in
    let rest = c.pieces.rest.now in
    let cut = subst (λ (o : Option (Bor (List ℕ))). MatchOption o (pieces rest ≡ piece ∷ []) (λ a. pieces rest ≡ piece ∷ pieces a.now)) c.in-Some.is c.split_piece.ensures.pieces in
    let shorter = subst (λ (o : Option (Bor (List ℕ))). MatchOption o (length piece ≤ length rest) (λ a. length piece + length a.now < length rest)) c.in-Some.is c.split_piece.ensures.shorter in
    so_far_next c.args.text.now rest piece c.in-Some.after.now c.pieces.lines.items c.push_piece.new.lines.items c.pieces.number cut shorter c.in_ok-push_piece.ensures.ok c.pieces.invariant

pub finish-requires : goal.finish-requires
finish-requires c =
    let piece = c.split_piece.result.0.now in
    let rest = c.pieces.rest.now in
    let cut = subst (λ (o : Option (Bor (List ℕ))). MatchOption o (pieces rest ≡ piece ∷ []) (λ a. pieces rest ≡ piece ∷ pieces a.now)) c.in-None.is c.split_piece.ensures.pieces in
    let is = so_far_done c.args.text.now rest piece c.pieces.lines.items c.push_piece.new.lines.items c.pieces.number cut c.in_ok-push_piece.ensures.ok c.pieces.invariant in
    subst (λ (l : List Line). All IsLine l) (sym c.as_slice.ensures.value) (all_lines (kept_pieces (pieces c.args.text.now)) c.push_piece.new.lines.items is)

pub returns-in-None-clause-ok : goal.returns-in-None-clause-ok
returns-in-None-clause-ok c =
    let piece = c.split_piece.result.0.now in
    let rest = c.pieces.rest.now in
    let cut = subst (λ (o : Option (Bor (List ℕ))). MatchOption o (pieces rest ≡ piece ∷ []) (λ a. pieces rest ≡ piece ∷ pieces a.now)) c.in-None.is c.split_piece.ensures.pieces in
    let is = so_far_done c.args.text.now rest piece c.pieces.lines.items c.push_piece.new.lines.items c.pieces.number cut c.in_ok-push_piece.ensures.ok c.pieces.invariant in
    file_or_not c.args.text.now c.push_piece.new.lines.items c.as_slice.result.now c.finish.result is c.as_slice.ensures.value c.finish.ensures.ok

pub returns-in-None-clause-err : goal.returns-in-None-clause-err
returns-in-None-clause-err c =
    let piece = c.split_piece.result.0.now in
    let rest = c.pieces.rest.now in
    let cut = subst (λ (o : Option (Bor (List ℕ))). MatchOption o (pieces rest ≡ piece ∷ []) (λ a. pieces rest ≡ piece ∷ pieces a.now)) c.in-None.is c.split_piece.ensures.pieces in
    let is = so_far_done c.args.text.now rest piece c.pieces.lines.items c.push_piece.new.lines.items c.pieces.number cut c.in_ok-push_piece.ensures.ok c.pieces.invariant in
    finished_or_not c.args.text.now c.push_piece.new.lines.items c.as_slice.result.now c.finish.result is c.as_slice.ensures.value c.finish.ensures.err

pub returns-in-None-clause-reading : goal.returns-in-None-clause-reading
returns-in-None-clause-reading c =
    let piece = c.split_piece.result.0.now in
    let rest = c.pieces.rest.now in
    let cut = subst (λ (o : Option (Bor (List ℕ))). MatchOption o (pieces rest ≡ piece ∷ []) (λ a. pieces rest ≡ piece ∷ pieces a.now)) c.in-None.is c.split_piece.ensures.pieces in
    let is = so_far_done c.args.text.now rest piece c.pieces.lines.items c.push_piece.new.lines.items c.pieces.number cut c.in_ok-push_piece.ensures.ok c.pieces.invariant in
    reads_or_not c.args.text.now c.push_piece.new.lines.items c.as_slice.result.now c.finish.result is c.as_slice.ensures.value c.finish.ensures.ok c.finish.ensures.read

pub returns-in-None-clause-only : goal.returns-in-None-clause-only
returns-in-None-clause-only c = only_or_not c.args.text.now c.finish.result (returns-in-None-clause-ok c)
