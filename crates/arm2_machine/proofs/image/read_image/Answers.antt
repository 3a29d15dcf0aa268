use Rattle.std.proofs.Common.{◌+◌, ◌*◌, length, length-append, flat_map, ap, sym, subst, ◌∙◌, arith}
use Rattle.byteorder.specs.Endian.{little_number}
use Rattle.bv_base.specs.Words.{word_bytes, AreWords}
use Rattle.arm2_machine.proofs.Images.{reads_word, slice_from}
use Rattle.bv_base.proofs.Words.{one_word_more}
use Rattle.arm2_machine.proofs.image.read_image.Goals as goal

pub loop-index-preserved : goal.loop-index-preserved
loop-index-preserved c =
    let pushed = c.in_ok-push.ensures.items in
    let word = c.read_u32.ensures ∙ ap (little_number 4) (slice_from c.args.bytes.now (8 + 4 * c.loop-index.index)) in (
      ap length pushed ∙ length-append c.loop-index.words.items _ ∙ ap (λ n. n + 1) c.loop-index.invariant.0,
      reads_word c.args.bytes.now c.loop-index.words.items c.loop-index.index c.read_u32.result word (omega (arith, c.in_ok-count.ensures.ok.ends, c.loop-index-test.true)) (λ k. omega (arith, c.type_inv.bytes k)) c.loop-index.invariant.1
          ∙ ap (flat_map word_bytes) (sym pushed),
      subst AreWords (sym pushed) (one_word_more c.loop-index.words.items c.read_u32.result (omega (arith, c.read_u32.type_inv)) c.loop-index.invariant.2),
    )
