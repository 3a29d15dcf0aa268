use Rattle.std.proofs.Common.{◌≡◌, ℕ, Result, Ok, Err, OnErr, List, [], ◌∷◌, ◌++◌, refl, ap, sym, ◌∙◌, subst}
use Rattle.bv_io.specs.Sink.{WritesPart}
use Rattle.bv_io.specs.declared.sink.SinkFault.{SinkFault}
use Rattle.bv_io.specs.Log.{Event, NotWritten, write_event}
use Rattle.arm2_machine.specs.Step.{bytes_of}
use Rattle.bv_io.specs.Writes.{byte_writes, FailsAtByte}
use Rattle.arm2_machine.proofs.Outputs.{second_of_two}
use Rattle.arm2_machine.proofs.board.write.Goals as goal

pub returns-in_ok-write-in-NewLine-clause-part : goal.returns-in_ok-write-in-NewLine-clause-part
returns-in_ok-write-in-NewLine-clause-part g c =
    let old = g.O.Sink.written c.args.out.now in
    let after = g.O.Sink.written c.write-in-NewLine-2.new.self in
    on_err c.write-in-NewLine-2.result
    (λ part. subst (λ output. WritesPart old (bytes_of output) after) (sym c.in-NewLine.is) (second_of_two old _ after 10 13 c.in_ok-write-in-NewLine.ensures.ok part))
    c.write-in-NewLine-2.ensures.part
  where
    on_err : {T E P Q : Type 0} (r : _) → (P → Q) → OnErr {T = T} {E = E} r P → OnErr {T = T} {E = E} r Q
    on_err (Ok _) f p = tt
    on_err (Err _) f p = f p

fails : (r : Result Unit SinkFault) (byte : ℕ) (accepted rest bytes : List ℕ) (old middle new : List Event) → bytes ≡ accepted ++ byte ∷ rest → middle ≡ byte_writes accepted old → new ≡ write_event (byte ∷ []) r ∷ middle → OnErr r (FailsAtByte bytes old new)
fails (Ok _) byte accepted rest bytes old middle new split before logged = tt
fails (Err _) byte accepted rest bytes old middle new split before logged = record {
  accepted = accepted;
  byte = byte;
  rest = rest;
  split = split;
  log = logged ∙ ap (λ l. NotWritten (byte ∷ []) ∷ l) before;
}

pub returns-in-Byte-clause-fault_byte : goal.returns-in-Byte-clause-fault_byte
returns-in-Byte-clause-fault_byte g c =
    fails c.write.result c.in-Byte.byte [] [] _ _ _ _ (ap bytes_of c.in-Byte.is) refl c.write.ensures.logged

pub returns-in_err-write-in-NewLine-clause-fault_byte : goal.returns-in_err-write-in-NewLine-clause-fault_byte
returns-in_err-write-in-NewLine-clause-fault_byte g c =
    always c.from_residual.result (record {
      accepted = [];
      byte = 10;
      rest = 13 ∷ [];
      split = ap bytes_of c.in-NewLine.is;
      log = c.in_err-write-in-NewLine.ensures.logged;
    })
  where
    always : {T E P : Type 0} (r : _) → P → OnErr {T = T} {E = E} r P
    always (Ok _) p = tt
    always (Err _) p = p

pub returns-in_ok-write-in-NewLine-clause-fault_byte : goal.returns-in_ok-write-in-NewLine-clause-fault_byte
returns-in_ok-write-in-NewLine-clause-fault_byte g c =
    fails c.write-in-NewLine-2.result 13 (10 ∷ []) [] _ _ _ _ (ap bytes_of c.in-NewLine.is) c.in_ok-write-in-NewLine.ensures.logged c.write-in-NewLine-2.ensures.logged
