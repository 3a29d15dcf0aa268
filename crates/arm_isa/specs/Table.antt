-- The table of classes (VL86C010 (ARM2) data manual, instruction set).
use Rattle.std.specs.Prelude.{ℕ, Bool, ◌==◌, ◌&&◌, if◌then◌else◌}
use Rattle.arm_isa.specs.declared.classes.Class.{Class}
use Rattle.arm_isa.specs.declared.classes.Class.TheVariants.{Data, Multiply, Single, Block, Branch, Swi, Undefined}
use Rattle.arm_isa.specs.Fields.{bits, bit, has_bits_7_and_4}

-- a multiplication by its bits
abbrev pub is_multiply : ℕ → Bool
is_multiply w = (bits w 27 22 == 0) && (bits w 7 4 == 9)

-- The class of a word: the first line that its bits fit. That what looks like data with a register operand that has bits 7
-- and 4, or like a transfer with a register offset that has bit 4, is undefined, is this project's own.
unfoldable pub class_of : ℕ → Class
class_of w =
    if is_multiply w then Multiply
    else if (bits w 27 25 == 0) && has_bits_7_and_4 w then Undefined
    else if bits w 27 26 == 0 then Data
    else if (bits w 27 25 == 3) && bit w 4 then Undefined
    else if bits w 27 26 == 1 then Single
    else if bits w 27 25 == 4 then Block
    else if bits w 27 25 == 5 then Branch
    else if bits w 27 24 == 15 then Swi
    else Undefined
