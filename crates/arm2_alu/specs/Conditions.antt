-- Flags and conditions (VL86C010 (ARM2) data manual, the condition field).
use Rattle.std.specs.Prelude.{ℕ, ◌+◌, ◌*◌, ◌/◌, ◌%◌, ◌^◌, ◌==◌, ◌&&◌, not, Bool, true, if◌then◌else◌}
use Rattle.std.specs.Int.{from_bool}
use Rattle.arm_isa.specs.Fields.{bit}
use Rattle.arm_isa.specs.Numbers.{EQ, CS, MI, VS, HI, GE, GT}
use Rattle.arm2_alu.specs.declared.regs.Regs.{Regs}

-- the flags: N Z C V I F are bits 5 to 0
abbrev pub negative : Regs → Bool
negative r = bit r.psr 5

abbrev pub zero_flag : Regs → Bool
zero_flag r = bit r.psr 4

abbrev pub carry : Regs → Bool
carry r = bit r.psr 3

abbrev pub overflow : Regs → Bool
overflow r = bit r.psr 2

-- whether two flags are the same
abbrev pub same : Bool → Bool → Bool
same a b = if a then b else not b

-- the conditions EQ, CS, MI, VS, HI, GE, GT and AL, which are the even ones
unfoldable pub even_condition : ℕ → Regs → Bool
even_condition cond r =
    if cond == EQ then zero_flag r
    else if cond == CS then carry r
    else if cond == MI then negative r
    else if cond == VS then overflow r
    else if cond == HI then carry r && not (zero_flag r)
    else if cond == GE then same (negative r) (overflow r)
    else if cond == GT then not (zero_flag r) && same (negative r) (overflow r)
    else true

-- each odd condition (NE, CC, PL, VC, LS, LT, LE, NV) is the contrary of the one before it
unfoldable pub holds : ℕ → Regs → Bool
holds cond r = if cond % 2 == 0 then even_condition cond r else not (even_condition (cond / 2 * 2) r)

-- the registers with these flags N, Z, C and V
unfoldable pub with_flags : Bool → Bool → Bool → Bool → Regs → Regs
with_flags n z c v r = record r { psr = from_bool n * 2 ^ 5 + from_bool z * 2 ^ 4 + from_bool c * 2 ^ 3 + from_bool v * 2 ^ 2 + r.psr % 4 }
