use Rattle.std.proofs.Common.{◌≡◌, ◌/◌, ◌%◌, ◌^◌, sym, ◌∙◌, arith, eqb-true}
use Rattle.std.proofs.lemmas.Bool.{eqb-false}
use Rattle.arm_isa.specs.Fields.{bits}
use Rattle.arm_isa.proofs.ClassBits.{class-group_1}
use Rattle.arm_isa.proofs.classes.data_class.Goals as goal

pub returns-then-bit : goal.returns-then-bit
returns-then-bit c =
    let one = eqb-true (c.args.word / 2 ^ 25 % 2) 1 (sym c.bit.ensures ∙ c.if-bit.true) in
    let group : bits c.args.word 27 25 ≡ 1 = omega (arith, one, c.requires) in
    sym (class-group_1 c.args.word group)

pub register_class-requires : goal.register_class-requires
register_class-requires c =
    let zero = eqb-false (c.args.word / 2 ^ 25 % 2) 1 (sym c.bit.ensures ∙ c.if-bit.false) in
    omega (arith, zero, c.requires)
