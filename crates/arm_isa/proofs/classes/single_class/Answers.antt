use Rattle.std.proofs.Common.{if◌then◌else◌, ap, sym, ◌∙◌}
use Rattle.arm_isa.specs.declared.classes.Class.TheVariants.{Single, Undefined}
use Rattle.arm_isa.proofs.ClassBits.{class-single}
use Rattle.arm_isa.proofs.classes.single_class.Goals as goal

pub returns : goal.returns
returns c = c.undefined_if.ensures ∙ ap (λ t. if t then Undefined else Single) c.has_bits_25_and_4.ensures ∙ sym (class-single c.args.word c.requires)
