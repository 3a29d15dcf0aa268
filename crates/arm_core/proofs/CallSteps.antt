-- The steps of the board's calls, and the end of a run.
use Rattle.std.proofs.Common.{◌≡◌, ℕ, suc, ◌+◌, ◌-◌, ◌%◌, ◌^◌, ◌<◌, ◌==◌, ◌||◌, not, Bool, true, false, if◌then◌else◌, List, [], ◌∷◌, ◌++◌, slice_index, Some, None, refl, sym, ap, subst, ◌∙◌, arith, eqb-true, append-nil}
use Rattle.std.proofs.lemmas.Bool.{false≢true}
use Rattle.std.specs.Int.{w32, cast_signed}
use Rattle.bv_run.specs.declared.report.Report.{Report}
use Rattle.bv_run.specs.declared.report.Report.TheVariants as reports
use Rattle.bv_run.specs.Runs.{Goes}
use Rattle.arm_isa.specs.declared.instruction.Instr.TheVariants.{Swi}
use Rattle.arm2_alu.specs.declared.regs.Regs.{Regs}
use Rattle.arm2_alu.specs.Registers.{with_register, with_banked, at_next, banked}
use Rattle.arm2_cpu.proofs.StepLaws.{step-swi}
use Rattle.arm2_machine.specs.Machine.{Machine, board_space, with_low}
use Rattle.arm2_machine.specs.Reports.{stray_of, trap_of, report_of}
use Rattle.arm2_machine.specs.Step.{board_step}
use Rattle.arm2_machine.specs.Swi.{called, called_by_user, with_input, reported}
use Rattle.arm_core.specs.Core.{Core, put, IsAt}
use Rattle.arm_core.specs.Effects.{takes_input, board_call, report_in, is_plain_call}
use Rattle.arm_core.specs.Made.{Makes, AtInstruction, EndsRun}
use Rattle.arm_core.proofs.States.{reads, reads-condition, fetches, supervised, is-next, is-put, is-written}

-- the board after a call, before what it does
abbrev after : Machine → Machine
after m = record m { regs = at_next m.regs }

made_call : (s : Core) (pc : ℕ) (m : Machine) (number : ℕ) → AtInstruction s pc m (Swi 14 number) → board_step m ≡ called (after m) m.regs.pc number
made_call s pc m number at = supervised s pc m _ at.is (step-swi board_space m.regs m.ram 14 number (fetches s pc m _ at) (reads-condition s m.regs at.is.psr 14))

-- R0 to R3 as they stand in the list
low_0 : (s : Core) (pc : ℕ) (m : Machine) → IsAt s pc m → slice_index m.regs.low 0 ≡ s.regs 0
unfolding banked
low_0 s pc m is = reads s pc m is 0 (omega arith)

low_1 : (s : Core) (pc : ℕ) (m : Machine) → IsAt s pc m → slice_index m.regs.low 1 ≡ s.regs 1
unfolding banked
low_1 s pc m is = reads s pc m is 1 (omega arith)

low_2 : (s : Core) (pc : ℕ) (m : Machine) → IsAt s pc m → slice_index m.regs.low 2 ≡ s.regs 2
unfolding banked
low_2 s pc m is = reads s pc m is 2 (omega arith)

low_3 : (s : Core) (pc : ℕ) (m : Machine) → IsAt s pc m → slice_index m.regs.low 3 ≡ s.regs 3
unfolding banked
low_3 s pc m is = reads s pc m is 3 (omega arith)

-- &00
write_made : (s : Core) (pc : ℕ) (m : Machine) → AtInstruction s pc m (Swi 14 0) → Makes s m (pc + 4) (board_call 0 s)
write_made s pc m at = record {
  machine = after m;
  bytes = (s.regs 0 % 2 ^ 8) ∷ [];
  goes = made_call s pc m 0 at ∙ ap (λ x. Goes (after m) ((x % 256) ∷ [])) (low_0 s pc m at.is);
  out = refl;
  is = is-written s (pc + 4) (after m) (s.out ++ ((s.regs 0 % 2 ^ 8) ∷ [])) (is-next s pc m at.is at.inside);
}

-- &03
line_made : (s : Core) (pc : ℕ) (m : Machine) → AtInstruction s pc m (Swi 14 3) → Makes s m (pc + 4) (board_call 3 s)
line_made s pc m at = record {
  machine = after m;
  bytes = 10 ∷ 13 ∷ [];
  goes = made_call s pc m 3 at;
  out = refl;
  is = is-written s (pc + 4) (after m) (s.out ++ (10 ∷ 13 ∷ [])) (is-next s pc m at.is at.inside);
}

-- &04
low_register : (r : Regs) (value : ℕ) → with_low r 0 value ≡ with_register r 0 value
unfolding with_banked
low_register r value = refl

input_is : (s : Core) (pc : ℕ) (m : Machine) → IsAt s pc m → (input : List ℕ) → s.input ≡ input → IsAt (takes_input input s) pc (with_input m input)
input_is s pc m is [] here = subst (λ r. IsAt (put 0 (2 ^ 32 - 1) s) pc (record m { regs = r })) (sym (low_register m.regs (2 ^ 32 - 1))) (is-put s pc m 0 (2 ^ 32 - 1) (2 ^ 32 - 1) is (omega arith) refl (omega arith))
input_is s pc m is (byte ∷ rest) here =
    let small = is.good.input 0 in
    let first : slice_index s.input 0 ≡ byte = ap (λ l. slice_index l 0) here in
    let p = is-put s pc m 0 byte byte is (omega arith) refl (omega (arith, small, first)) in
    let q : IsAt (takes_input (byte ∷ rest) s) pc (record m { regs = with_register m.regs 0 byte; input = rest }) = record {
      good = record { regs = p.good.regs; mem = is.good.mem; input = λ k. subst (λ l. slice_index l (suc k) < 2 ^ 8) here (is.good.input (suc k)) };
      regs = p.regs;
      psr = p.psr;
      mem = p.mem;
      input = refl;
      pc = p.pc;
      svc = p.svc;
      low = p.low;
      ram = p.ram;
    } in
    subst (λ r. IsAt (takes_input (byte ∷ rest) s) pc (record m { regs = r; input = rest })) (sym (low_register m.regs byte)) q

input_out : (input : List ℕ) (s : Core) → (takes_input input s).out ≡ s.out
input_out [] s = refl
input_out (byte ∷ rest) s = refl

read_made : (s : Core) (pc : ℕ) (m : Machine) → AtInstruction s pc m (Swi 14 4) → Makes s m (pc + 4) (board_call 4 s)
read_made s pc m at = record {
  machine = with_input (after m) s.input;
  bytes = [];
  goes = made_call s pc m 4 at ∙ (λ i. if not (at.is.svc i) then called_by_user (after m) m.regs.pc 4 else Goes (with_input (after m) (at.is.input i)) []);
  out = input_out s.input s ∙ sym (append-nil s.out);
  is = input_is s (pc + 4) (after m) (is-next s pc m at.is at.inside) s.input refl;
}

pub call-made : (s : Core) (pc : ℕ) (m : Machine) (number : ℕ) → AtInstruction s pc m (Swi 14 number) → is_plain_call number ≡ true → Makes s m (pc + 4) (board_call number s)
call-made s pc m number at plain = each (number == 0) refl (number == 3) refl (number == 4) refl
  where
    each : (a : Bool) → (number == 0) ≡ a → (b : Bool) → (number == 3) ≡ b → (c : Bool) → (number == 4) ≡ c → Makes s m (pc + 4) (board_call number s)
    each true e b f c g = subst (λ k. AtInstruction s pc m (Swi 14 k) → Makes s m (pc + 4) (board_call k s)) (sym (eqb-true number 0 e)) (write_made s pc m) at
    each false e true f c g = subst (λ k. AtInstruction s pc m (Swi 14 k) → Makes s m (pc + 4) (board_call k s)) (sym (eqb-true number 3 f)) (line_made s pc m) at
    each false e false f true g = subst (λ k. AtInstruction s pc m (Swi 14 k) → Makes s m (pc + 4) (board_call k s)) (sym (eqb-true number 4 g)) (read_made s pc m) at
    each false e false f false g = absurd (false≢true (sym (λ i. e i || (f i || g i)) ∙ plain))

-- the end of the run
report_is : (s : Core) (pc : ℕ) (m : Machine) → IsAt s pc m → report_of m.regs.low ≡ report_in s
report_is s pc m is =
    (λ i. if low_0 s pc m is i == 0 then Some reports.Done
    else if low_0 s pc m is i == 1 then Some (reports.Failed (cast_signed w32 (low_1 s pc m is i)) (low_2 s pc m is i % 65536))
    else if low_0 s pc m is i == 2 then stray_of (trap_of (low_1 s pc m is i)) (low_3 s pc m is i) (low_2 s pc m is i % 65536)
    else if low_0 s pc m is i == 3 then Some (reports.InputEnded (low_2 s pc m is i % 65536))
    else None)

pub end-made : (s : Core) (pc : ℕ) (m : Machine) (report : Report) → AtInstruction s pc m (Swi 14 0x11) → report_in s ≡ Some report → EndsRun s m report
end-made s pc m report at is = record {
  machine = after m;
  ends =
      made_call s pc m 0x11 at
      ∙ (λ i. if not (at.is.svc i) then called_by_user (after m) m.regs.pc 0x11 else reported (after m) m.regs.pc (report_is s pc m at.is i))
      ∙ ap (reported (after m) m.regs.pc) is;
  ram = refl;
}
