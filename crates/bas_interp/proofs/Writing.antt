-- Bytes that are handed to a sink in two parts.
use Rattle.std.proofs.Common.{◌≡◌, ℕ, List, [], ◌∷◌, ◌++◌, Option, refl, sym, ap, subst, ◌∙◌, append_assoc, append-nil, arith}
use Rattle.std.specs.Prelude.{Result, Ok, Err}
use Rattle.bv_io.specs.Log.{Event, NotWritten}
use Rattle.bv_io.specs.Sink.{with_bytes}
use Rattle.bv_io.specs.declared.sink.SinkFault.{SinkFault}
use Rattle.bv_io.proofs.Loops.{with_bytes-nil, with_bytes-append, part_of_piece}
use Rattle.bv_io.specs.Writes.{byte_writes}
use Rattle.bv_io.proofs.ByteWrites.{byte_writes-append}
use Rattle.bas_interp.specs.Writes.{TakesAll, TakesPart, Takes}

-- no bytes
pub takes_none : (old : Option (List ℕ)) (log : List Event) (faults : ℕ) → TakesAll [] old old log log faults faults
takes_none old log faults = record { written = sym (with_bytes-nil old); each_byte = refl; faults = omega arith }

-- both parts
pub takes_both : (first more : List ℕ) (w w' w'' : Option (List ℕ)) (l l' l'' : List Event) (f f' f'' : ℕ) → TakesAll first w w' l l' f f'
    → TakesAll more w' w'' l' l'' f' f'' → TakesAll (first ++ more) w w'' l l'' f f''
takes_both first more w w' w'' l l' l'' f f' f'' a b = record {
  written = b.written ∙ ap (λ t. with_bytes t more) a.written ∙ with_bytes-append w first more;
  each_byte = b.each_byte ∙ ap (byte_writes more) a.each_byte ∙ sym (byte_writes-append first more l);
  faults = omega (arith, a.faults, b.faults);
}

-- the sink fails in the first part
pub first_fails : (first more whole : List ℕ) (w w' : Option (List ℕ)) (l l' : List Event) (f f' : ℕ) → first ++ more ≡ whole → TakesPart first w w' l l' f f'
    → TakesPart whole w w' l l' f f'
first_fails first more whole w w' l l' f f' is a = record {
  part = part_of_piece w w w' [] first whole (sym (with_bytes-nil w)) (more, sym is) a.part;
  at_byte = record {
    accepted = a.at_byte.accepted;
    byte = a.at_byte.byte;
    rest = a.at_byte.rest ++ more;
    split = sym is ∙ ap (λ t. t ++ more) a.at_byte.split ∙ append_assoc a.at_byte.accepted (a.at_byte.byte ∷ a.at_byte.rest) more;
    log = a.at_byte.log;
  };
  cause = a.cause;
  faults = a.faults;
}

-- and in the second
pub second_fails : (first more : List ℕ) (w w' w'' : Option (List ℕ)) (l l' l'' : List Event) (f f' f'' : ℕ) → TakesAll first w w' l l' f f'
    → TakesPart more w' w'' l' l'' f' f'' → TakesPart (first ++ more) w w'' l l'' f f''
second_fails first more w w' w'' l l' l'' f f' f'' a b = record {
  part = part_of_piece w w' w'' first more (first ++ more) a.written ([], sym (append-nil (first ++ more))) b.part;
  at_byte = record {
    accepted = first ++ b.at_byte.accepted;
    byte = b.at_byte.byte;
    rest = b.at_byte.rest;
    split = ap (λ t. first ++ t) b.at_byte.split ∙ sym (append_assoc first b.at_byte.accepted (b.at_byte.byte ∷ b.at_byte.rest));
    log = b.at_byte.log
        ∙ ap (λ t. NotWritten (b.at_byte.byte ∷ []) ∷ t) (ap (byte_writes b.at_byte.accepted) a.each_byte ∙ sym (byte_writes-append first b.at_byte.accepted l));
  };
  cause = omega (arith, a.faults, b.cause);
  faults = omega (arith, a.faults, b.faults);
}

takes_second : {T : Type 0} (first more : List ℕ) (w w' w'' : Option (List ℕ)) (l l' l'' : List Event) (f f' f'' : ℕ) (r : Result T SinkFault)
    → TakesAll first w w' l l' f f' → Takes r more w' w'' l' l'' f' f'' → Takes r (first ++ more) w w'' l l'' f f''
takes_second first more w w' w'' l l' l'' f f' f'' (Ok _) a b = takes_both first more w w' w'' l l' l'' f f' f'' a b
takes_second first more w w' w'' l l' l'' f f' f'' (Err _) a b = second_fails first more w w' w'' l l' l'' f f' f'' a b

-- all of the first part, and the second by its answer
pub takes_whole : {T : Type 0} (first more whole : List ℕ) (w w' w'' : Option (List ℕ)) (l l' l'' : List Event) (f f' f'' : ℕ) (r : Result T SinkFault)
    → first ++ more ≡ whole → TakesAll first w w' l l' f f' → Takes r more w' w'' l' l'' f' f'' → Takes r whole w w'' l l'' f f''
takes_whole first more whole w w' w'' l l' l'' f f' f'' r is a b =
    subst (λ t. Takes r t w w'' l l'' f f'') is (takes_second first more w w' w'' l l' l'' f f' f'' r a b)
