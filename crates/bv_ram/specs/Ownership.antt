-- What a block of bytes owns and lends. This project's own.
use Rattle.std.specs.Prelude.{ℕ, suc, ◌+◌, ◌-◌, ◌^◌, List, length}
use Rattle.std.specs.Borrow.{u8}
use base.Fraction.{full_share}
use base.Fml.{Lft, Fml, ffalse, fsep, flt, froom}
use mir.Syntax.{Ty, w8, ty_int, ty_array}
use denote.RawPtr.{Ptr, block_ptr, null_ptr}
use denote.RawPtr.Bytes.{bytes}
use denote.Sharing.{said, beside}
use denote.Slice.{elements_shared}

-- the type of n bytes, as an allocator is asked for them
abbrev pub bytes_type : ℕ → Ty
bytes_type n = ty_array (ty_int w8) n

-- n bytes fit an object, and those that are written fit n
abbrev pub fits : ℕ → List ℕ → Fml
fits n bs = fsep (flt n (2 ^ 63)) (flt (length bs) (suc n))

-- from the pointer on lie the bytes that are written, and room for the rest of n
abbrev pub block_owns : Ptr → ℕ → List ℕ → Fml
block_owns (block_ptr b o) n bs = fsep (fits n bs) (fsep (bytes full_share bs b o) (froom (bytes_type (n - length bs)) b (o + length bs)))
block_owns null_ptr n bs = ffalse

-- a shared block shows the bytes that are written
abbrev pub block_lent : Ptr → ℕ → List ℕ → Lft → Fml
block_lent (block_ptr b o) n bs = beside (said (fits n bs)) (elements_shared u8 bs b o)
block_lent null_ptr n bs = said ffalse

-- the right to free n bytes, in the allocator's words
abbrev pub lease_owns : (Ty → Ptr → Fml) → Ptr → ℕ → Fml
lease_owns token p n = token (bytes_type n) p
