-- What a block's bytes are once a `&mut` to them has ended. This project's own.
use Rattle.std.specs.Prelude.{ℕ, List}
use Rattle.std.specs.Borrow.{Fml, MutBor, Array, Lends, u8}
use Rattle.bv_ram.specs.declared.block.Block.{Block}
use Rattle.bv_ram.specs.contracts.block.Block.{the_row}

-- the block with other bytes
abbrev pub with_bytes : Block → List ℕ → Block
with_bytes block bytes = record { start = block.start; room = block.room; bytes = bytes }

-- it has those that were written through the `&mut`
abbrev pub lends_bytes : MutBor Block → MutBor (List ℕ) → Fml
lends_bytes block r = Lends the_row (Array u8 0) block r (λ bytes. with_bytes block.now bytes)
