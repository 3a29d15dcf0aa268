use Rattle.std.proofs.Common.{◌≡◌, ◌∙◌, sym, ap, Bool, true, false, not, if◌then◌else◌, refl, arith}
use Rattle.arm_isa.specs.declared.classes.Class.{Class}
use Rattle.arm_isa.specs.declared.classes.Class.TheVariants.{Swi, Undefined}
use Rattle.arm_isa.specs.Fields.{bits}
use Rattle.arm_isa.proofs.ClassBits.{class-group_4, class-group_5, class-group_6, class-group_7}
use Rattle.arm_isa.proofs.classes.upper_class.Goals as goal

-- a choice by the opposite
turned : (t : Bool) (a b : Class) → (if not t then a else b) ≡ (if t then b else a)
turned true a b = refl
turned false a b = refl

pub returns-in-4 : goal.returns-in-4
returns-in-4 c = sym (class-group_4 c.args.word (sym c.bits.ensures ∙ c.in-4.is))

pub returns-in-5 : goal.returns-in-5
returns-in-5 c = sym (class-group_5 c.args.word (sym c.bits.ensures ∙ c.in-5.is))

pub returns-in-6 : goal.returns-in-6
returns-in-6 c = sym (class-group_6 c.args.word (sym c.bits.ensures ∙ c.in-6.is))

pub returns-in_default : goal.returns-in_default
returns-in_default c =
    let group : bits c.args.word 27 25 ≡ 7 = omega (arith, c.bits.ensures, c.requires) in
    c.undefined_if.ensures ∙ ap (λ t. if not t then Undefined else Swi) c.bit.ensures
    ∙ turned _ Undefined Swi ∙ sym (class-group_7 c.args.word group)
