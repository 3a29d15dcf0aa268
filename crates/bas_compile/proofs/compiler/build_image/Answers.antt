use Rattle.std.proofs.Common.{subst}
use Rattle.arm2_machine.specs.Image.{ImageOf}
use Rattle.bas_compile.proofs.Composed.{size_short, compiles}
use Rattle.bas_compile.proofs.compiler.build_image.Goals as goal

pub image_of-requires-clause-size : goal.image_of-requires-clause-size
image_of-requires-clause-size c = size_short c.args.bytes.now c.in_ok-prog.prog c.in_ok-prog.ensures.accepted

pub returns-clause-headline : goal.returns-clause-headline
returns-clause-headline c =
    compiles c.args.bytes.now c.in_ok-contents.contents.items c.in_ok-words.words.items c.in_ok-prog.prog c.in_ok-prog.ensures.accepted c.in_ok-words.ensures.are_words (subst (ImageOf c.in_ok-contents.contents.items) c.deref.ensures.value c.in_ok-contents.ensures.image) c.in_ok-words.ensures.agrees
