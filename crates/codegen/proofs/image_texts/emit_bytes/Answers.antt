use Rattle.std.proofs.Common.{arith}
use Rattle.codegen.proofs.Texts.{are_bytes}
use Rattle.std.proofs.Common.{◌++◌, ◌∙◌, ap}
use Rattle.arm_isa.specs.Words.{means}
use Rattle.code_frag.specs.Words.{FragState}
use Rattle.codegen.specs.Program.{packed, data_items}
use Rattle.codegen.proofs.DataLaws.{words_step}
use Rattle.codegen.proofs.image_texts.emit_bytes.Goals as goal

pub loop-k-preserved : goal.loop-k-preserved
loop-k-preserved c = record {
  items = words_step c.args.bytes.now c.loop-k.k c.decode.result (c.args.frag.now.items ++ data_items (packed c.args.bytes.now)) c.loop-k.frag.items c.emit.new.self.items
      (rw (← c.div_ceil-k-end.ensures) c.loop-k-test.true) (c.decode.ensures.value ∙ ap means c.word_from.ensures) (ap (λ (f : FragState). f.items) c.in_ok-emit.ensures.ok) c.loop-k.invariant.items;
  places = ap (λ (f : FragState). f.places) c.in_ok-emit.ensures.ok ∙ c.loop-k.invariant.places;
}

pub returns-clause-bytes : goal.returns-clause-bytes
returns-clause-bytes c = are_bytes c.args.bytes.now (λ k. omega (arith, c.type_inv.bytes k))
