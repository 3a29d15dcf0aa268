-- What a `&` to a block shows of the pointer in it.
use Rattle.std.proofs.Common.{ℕ, ◌+◌, [], ◌∷◌}
use seplogic.Ra.Ura.{Ura}
use base.Logic.{ent, sep}
use base.Fml.{Lft, Fml}
use types.Logic.{Logic, sem}
use types.Kit.{‵, ◌$◌, ◌∵◌, !, qed, keep, fsplit, done}
use denote.Memory.{hidden_shr}
use denote.Opens.{shr_dup, unhide, hide}
use denote.RattleType.{RattleType, RowLaws}
use denote.RawPtr.{RawPtr, Ptr, ptr_row_laws}
use denote.Struct.Struct.{Struct, Struct-row_laws}
use denote.Struct.Owning.{shape}
use Rattle.bv_ram.specs.contracts.block.Block.{the_type}

abbrev pub Fields : RattleType
Fields = Struct (shape the_type)

laws : RowLaws Fields
laws = Struct-row_laws (shape the_type) (ptr_row_laws, tt)

module _ {M : Type 1} {𝓤 : Ura M} (𝓛 : Logic 𝓤) (κ : Lft) (b o : ℕ) (p : Ptr) where
  abbrev Shared : Fml
  Shared = hidden_shr Fields κ (p, tt) b o

  pub shows_start : ent 𝓤 (sem 𝓛 Shared) (sep 𝓤 (sem 𝓛 (hidden_shr RawPtr κ p b (o + 0))) (sem 𝓛 Shared))
  shows_start = qed 𝓛 (‵ Shared ∷ []) ∵ shr_dup ! Fields laws (p, tt) b o κ $ unhide ! $ fsplit ! $ fsplit ! $ hide ! $ keep ! (0 ∷ 3 ∷ []) $ done !
