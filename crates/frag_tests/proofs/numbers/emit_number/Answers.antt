use Rattle.std.proofs.Common.{◌≡◌, nat_lt, true, false, refl, arith, lt-ltb}
use Rattle.arm_isa.specs.declared.instruction.Instr.TheVariants.{Data}
use Rattle.arm_isa.proofs.ValidTest.{valid_by_test}
use Rattle.frag_tests.proofs.numbers.emit_number.Goals as goal

pub emit-requires : goal.emit-requires
emit-requires c =
    let register : nat_lt c.args.rd 16 ≡ true = lt-ltb c.args.rd 16 (omega arith) in
    let field : nat_lt c.args.n 4096 ≡ true = lt-ltb c.args.n 4096 (omega arith) in
    valid_by_test (Data 14 true 13 false 0 c.args.rd c.args.n) (rw (register, field) refl)
