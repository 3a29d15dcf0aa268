-- The items of DATA in the board's memory, and what the routines on them ask and leave (BBC BASIC Reference Manual: DATA, READ). How
-- they stand in memory is this project's own: one after another, each as a text, which is its length and its bytes, and then a byte
-- that is no item's length.
use Rattle.std.specs.Prelude.{◌≡◌, ◌≢◌, ℕ, ◌+◌, ◌≤◌}
use Rattle.bas_value.specs.Errors.{out_of_data}
use Rattle.bv_base.specs.MemoryMap.{ram_end}
use Rattle.arm_core.specs.Core.{Core, word}
use Rattle.code_frag.specs.Demands.{Out, Falls}
use Rattle.code_frag.specs.Regions.{residents_start, next_item_at, texts_register, base_register, stack_register}
use Rattle.runtime_lib.specs.Opened.{IsApart, Fails}

-- the byte after the last item
abbrev pub end_mark : ℕ
end_mark = 255

-- the address of the next item, or of the byte after the last one
abbrev pub next_address : (ℕ → ℕ) → ℕ
next_address m = word m next_item_at

-- the residents' address is in its register, and the next item is whole in memory
pub record CanTakeItem (s : Core) : Type 0 where
  pub base : s.regs base_register ≡ residents_start
  pub inside : next_address s.mem + 256 ≤ ram_end

-- The next item is taken: its address is in R0, and the one after it is next. All other memory is as it was.
pub record TakesItem (s t : Core) : Type 0 where
  pub no_error : t.regs 1 ≡ 0
  pub item : t.regs 0 ≡ next_address s.mem
  pub next : next_address t.mem ≡ next_address s.mem + 1 + s.mem (next_address s.mem)
  pub mem : (a : ℕ) → IsApart next_item_at 4 a → t.mem a ≡ s.mem a

-- where there is one, and else there is an error
pub record TakesNext (s : Core) (o : Out) (t : Core) : Type 0 where
  pub falls : o ≡ Falls
  pub kept : (k : ℕ) → texts_register ≤ k → k ≤ stack_register → t.regs k ≡ s.regs k
  pub out : t.out ≡ s.out
  pub input : t.input ≡ s.input
  pub takes : s.mem (next_address s.mem) ≢ end_mark → TakesItem s t
  pub none : s.mem (next_address s.mem) ≡ end_mark → Fails out_of_data s t
