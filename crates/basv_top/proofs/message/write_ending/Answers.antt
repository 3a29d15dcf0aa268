use Rattle.std.proofs.Common.{◌≡◌, ◌≢◌, [], ◌∷◌, ◌++◌, OnOk, OnErr, sym, ap, subst, ◌∙◌}
use Rattle.bv_io.specs.Sink.{with_bytes, WritesPart}
use Rattle.basv_top.specs.declared.status.Status.TheVariants as statuses
use Rattle.basv_top.specs.Ending.{told, status_of}
use Rattle.basv_top.proofs.Endings.{line_of_ending}
use Rattle.basv_top.proofs.message.write_ending.Goals as goal

pub returns : goal.returns
returns g c =
    let other : status_of (told c.args.ending) ≢ statuses.Done = λ is. c.in_default.not-Done (c.status.ensures ∙ is) in
    let line = ap (λ text. text ++ 10 ∷ []) c.ending_message.ensures ∙ sym (line_of_ending (told c.args.ending) other) in
    let old = g.E.Sink.written c.args.err.now in
    let new = g.E.Sink.written c.write_line.new.err in
    record {
      ok = subst (λ l. OnOk c.write_line.result (new ≡ with_bytes old l)) line c.write_line.ensures.ok;
      part = subst (λ l. OnErr c.write_line.result (WritesPart old l new)) line c.write_line.ensures.part;
      failed = c.write_line.ensures.failed;
    }
