-- A `&` to a block is made where one to a byte is.
use Rattle.std.proofs.Common.{ℕ, ◌+◌, List, [], ◌∷◌}
use seplogic.Ra.Ura.{Ura}
use base.Fraction.{full_share}
use base.Fml.{Lft, ftrue, ffalse}
use types.Logic.{Logic}
use denote.Builtin.{u8}
use denote.Memory.{mem, part_at, shared_of}
use denote.RawPtr.{Ptr, block_ptr, null_ptr}
use denote.RawPtr.Bytes.{bytes}
use denote.Sharing.{ShrLaws, said}
use denote.SharingLaws.{beside_shr_laws, said_shr_laws}
use denote.Slice.{elements_shared, elements_shr_laws}
use denote.Struct.Laws.{u8-copy}
use denote.Struct.Lending.{Lends, Lends-both, Lends-first, Lends-nothing, Lends-said, Lends-false}
use Rattle.bv_ram.specs.Ownership.{fits, block_owns, block_lent}

pub block_lent_laws : (p : Ptr) (n : ℕ) (bs : List ℕ) → ShrLaws (block_lent p n bs)
block_lent_laws (block_ptr b o) n bs = beside_shr_laws (said (fits n bs)) (elements_shared u8 bs b o) (said_shr_laws (fits n bs) (tt, tt)) (elements_shr_laws u8 u8-copy.shr_laws bs b o)
block_lent_laws null_ptr n bs = said_shr_laws ffalse tt

module _ {M : Type 1} {𝓤 : Ura M} (𝓛 : Logic 𝓤) (l : Lft) where
  Lends-bytes : (bs : List ℕ) (b o : ℕ) → Lends 𝓛 (bytes full_share bs b o) (elements_shared u8 bs b o) l
  Lends-bytes [] b o = Lends-nothing 𝓛 ftrue l
  Lends-bytes (x ∷ bs) b o =
      Lends-both 𝓛 (part_at u8 full_share x b o) (bytes full_share bs b (o + (mem u8).size)) (shared_of u8 x b o) (elements_shared u8 bs b (o + (mem u8).size)) l
      (λ κ ts. (u8-copy.copied M 𝓤 𝓛).shares full_share l x κ ts b o) (Lends-bytes bs b (o + (mem u8).size))

  pub Lends-block : (p : Ptr) (n : ℕ) (bs : List ℕ) → Lends 𝓛 (block_owns p n bs) (block_lent p n bs) l
  Lends-block (block_ptr b o) n bs = Lends-both 𝓛 (fits n bs) _ (said (fits n bs)) (elements_shared u8 bs b o) l (Lends-said 𝓛 (fits n bs) (tt, tt) l)
      (Lends-first 𝓛 (bytes full_share bs b o) _ (elements_shared u8 bs b o) l (Lends-bytes bs b o))
  Lends-block null_ptr n bs = Lends-false 𝓛 (said ffalse) l
