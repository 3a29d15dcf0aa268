use Rattle.std.proofs.Common.{sym, ◌∙◌}
use Rattle.arm_isa.proofs.ClassBits.{class-multiply, class-group_0_plain, class-group_0_set}
use Rattle.arm_isa.proofs.classes.register_class.Goals as goal

pub returns-then-not-has_bits_7_and_4 : goal.returns-then-not-has_bits_7_and_4
returns-then-not-has_bits_7_and_4 c =
    sym (class-group_0_plain c.args.word c.requires (sym c.has_bits_7_and_4.ensures ∙ c.if-not-has_bits_7_and_4.true))

pub returns-then-is_multiply : goal.returns-then-is_multiply
returns-then-is_multiply c = sym (class-multiply c.args.word (sym c.is_multiply.ensures ∙ c.if-is_multiply.true))

pub returns-else-is_multiply : goal.returns-else-is_multiply
returns-else-is_multiply c =
    sym (class-group_0_set c.args.word c.requires (sym c.has_bits_7_and_4.ensures ∙ c.if-not-has_bits_7_and_4.false) (sym c.is_multiply.ensures ∙ c.if-is_multiply.false))
