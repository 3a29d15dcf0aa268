use Rattle.std.proofs.Common.{◌≡◌, ◌+◌, [], ◌∷◌, ◌++◌, take, drop, get_or, subst, refl, sym, ap, ◌∙◌, take-append-drop}
use Rattle.std.proofs.lemmas.List.{take_more}
use Rattle.bas_interp.specs.Writes.{TakesAll}
use Rattle.bas_interp.proofs.Writing.{takes_both, first_fails, second_fails}
use Rattle.bas_interp.proofs.write.write_bytes.Goals as goal

pub returns-in-Err : goal.returns-in-Err
returns-in-Err g c =
    let bytes = c.args.bytes.now in
    let i = c.bytes.byte-index in
    let b = get_or bytes i 0 in
    let split : (take i bytes ++ b ∷ []) ++ drop (i + 1) bytes ≡ bytes =
    ap (λ l. l ++ drop (i + 1) bytes) (sym (take_more bytes i 0 c.bytes-test.true)) ∙ take-append-drop (i + 1) bytes in
    first_fails (take i bytes ++ b ∷ []) (drop (i + 1) bytes) bytes _ _ _ _ _ _ split
    (second_fails (take i bytes) (b ∷ []) _ _ _ _ _ _ _ _ _ c.bytes.invariant
    (record {
      part = c.in-Err.ensures.part;
      at_byte = record { accepted = []; byte = b; rest = []; split = refl; log = c.in-Err.ensures.logged };
      cause = c.in-Err.ensures.failed;
      faults = c.in-Err.ensures.faults;
    }))

pub bytes-preserved : goal.bytes-preserved
bytes-preserved g c =
    let bytes = c.args.bytes.now in
    let i = c.bytes.byte-index in
    let b = get_or bytes i 0 in
    subst (λ l. TakesAll l (g.O.Sink.written c.args.out.now) (g.O.Sink.written c.write.new.self) (g.O.Sink.log c.args.out.now) (g.O.Sink.log c.write.new.self)
    (g.O.Sink.faults c.args.out.now) (g.O.Sink.faults c.write.new.self)) (sym (take_more bytes i 0 c.bytes-test.true))
    (takes_both (take i bytes) (b ∷ []) _ _ _ _ _ _ _ _ _ c.bytes.invariant
    (record { written = c.in_default.ensures.ok; each_byte = c.in_default.ensures.logged; faults = c.in_default.ensures.faults }))
