-- What is promised of the routine language: for every piece, wherever its items stand, and for every demand. This project's
-- own.
use Rattle.std.specs.Prelude.{◌≡◌, ℕ, ◌+◌, ◌*◌, ◌^◌, ◌<◌, ◌≤◌, Bool, true, false, [], ◌∷◌, ◌++◌, length, slice_get, Some}
use Rattle.arm2_machine.specs.Machine.{Machine}
use Rattle.arm_core.specs.Core.{Core, IsGood, IsAt}
use Rattle.code_frag.specs.Demands.{Out, Post, on_falls, at_return, Owes}
use Rattle.code_frag.specs.Language.{Piece, Seq, While, Repeat, size, items, jump_to, is_well_formed, is_flat, calls}
use Rattle.code_frag.specs.Runs.{Stands, IsCode, SameCode, EndsAt, Meets, MeetEach}
use Rattle.code_frag.specs.Words.{FragState, IsFrag, most_words, words_of, joined, HasWords, label_address}
use Rattle.code_frag.specs.Within.{IsOwn, words_at, EndsWithin, MeetsWithin, MeetEachWithin}
use Rattle.code_frag.specs.Turns.{Round, Turn}
use Rattle.code_frag.specs.Unnamed.{writes_in, stores_in}

-- the board is a core at the first word of a piece, whose items stand there
pub record AtPiece (code entry : ℕ → ℕ) (p : Piece) (place : ℕ) (s : Core) (m : Machine) : Type 0 where
  pub lies : IsCode place (size p)
  pub stands : Stands (items p) code entry place
  pub same : SameCode code s.mem
  pub is : IsAt s place m

-- the items of an entry's body, and MOV PC,R14 after them, stand at the entry
pub record EntryStands (code entry : ℕ → ℕ) (e : ℕ) (body : Piece) : Type 0 where
  pub lies : IsCode (entry e) (size body + 1)
  pub stands : Stands (items body ++ (jump_to 14 ∷ [])) code entry (entry e)

-- Where entries have the contracts Asks and Does, and Q is asked at the end of a piece.
pub record LanguageIsSound (Asks : ℕ → Core → Type 0) (Does : ℕ → Core → Out → Core → Type 0) (Q : Post) : Type 0 where
  -- from a core for which a piece owes Q, its words come to its end in finitely many steps, and Q holds there
  pub pieces : (p : Piece) (code entry : ℕ → ℕ) (place : ℕ) (s : Core) (m : Machine) → is_well_formed p ≡ true → MeetEach code entry Asks Does (calls p) → AtPiece code entry p place s m
      → Owes Asks Does p Q s → EndsAt code entry (is_flat p) Q place (place + 4 * size p) s m
  -- and each of these steps is made at an address of any set that has the piece's words, and the steps of the entries that it calls
  pub own_words : (own : ℕ → Bool) (p : Piece) (code entry : ℕ → ℕ) (place : ℕ) (s : Core) (m : Machine) → is_well_formed p ≡ true → MeetEachWithin code entry own Asks Does (calls p)
      → IsOwn own place (size p) → AtPiece code entry p place s m → Owes Asks Does p Q s → EndsWithin code entry own (is_flat p) Q place (place + 4 * size p) s m
  -- so a piece that calls no entry is made in its own words alone, until it leaves them or comes to its end
  pub alone : (p : Piece) (code entry : ℕ → ℕ) (place : ℕ) (s : Core) (m : Machine) → is_well_formed p ≡ true → calls p ≡ [] → AtPiece code entry p place s m → Owes Asks Does p Q s
      → EndsWithin code entry (words_at place (size p)) (is_flat p) Q place (place + 4 * size p) s m
  -- an entry whose body owes its contract meets it
  pub entries : (e : ℕ) (body : Piece) (code entry : ℕ → ℕ) → is_well_formed body ≡ true → MeetEach code entry Asks Does (calls body) → EntryStands code entry e body
      → ((s : Core) → IsGood s → Asks e s → Owes Asks Does body (at_return (Does e s) s) s) → Meets code entry Asks Does e
  -- and its steps are made at addresses of any set that has its words, and the steps of the entries that it calls
  pub own_entries : (own : ℕ → Bool) (e : ℕ) (body : Piece) (code entry : ℕ → ℕ) → is_well_formed body ≡ true → MeetEachWithin code entry own Asks Does (calls body)
      → IsOwn own (entry e) (size body + 1) → EntryStands code entry e body → ((s : Core) → IsGood s → Asks e s → Owes Asks Does body (at_return (Does e s) s) s) → MeetsWithin code entry own Asks Does e
  -- pieces run in order
  pub in_order : (a b : Piece) (s : Core) → Owes Asks Does a (on_falls (Owes Asks Does b Q) Q) s → Owes Asks Does (Seq a b) Q s
  -- without calls, a register that no instruction of a piece writes, and the memory where none stores, stay as they were
  pub register_stays : (p : Piece) (k : ℕ) (s : Core) → writes_in k p ≡ false → Owes Asks Does p Q s → Owes Asks Does p (λ o t. Q o t × (t.regs k ≡ s.regs k)) s
  pub memory_stays : (p : Piece) (s : Core) → stores_in p ≡ false → Owes Asks Does p Q s → Owes Asks Does p (λ o t. Q o t × (t.mem ≡ s.mem)) s

-- A loop at each turn of which the number of an invariant falls comes to its end.
pub record LoopsEnd (Asks : ℕ → Core → Type 0) (Does : ℕ → Core → Out → Core → Type 0) (Q : Post) (I : ℕ → Core → Type 0) : Type 0 where
  -- with its test first
  pub test_first : (test body rest : Piece) (k n : ℕ) (s : Core) → ((j : ℕ) (t : Core) → I j t → Owes Asks Does test (on_falls (Turn Asks Does k body rest Q I j) Q) t)
      → I n s → Owes Asks Does (Seq (While test k body) rest) Q s
  -- and last
  pub test_last : (body rest : Piece) (k n : ℕ) (s : Core) → ((j : ℕ) (t : Core) → I j t → Owes Asks Does body (on_falls (Round Asks Does k rest Q I j) Q) t)
      → I n s → Owes Asks Does (Seq (Repeat body k) rest) Q s

-- Where the words of fragments stand in a memory, their items do, and so do those of fragments that were joined.
pub record FragmentsStand : Type 0 where
  -- the words of a fragment are its items, whose labels are at their places
  pub words : (f : FragState) (code : ℕ → ℕ) (base : ℕ) → IsFrag f → length f.items ≤ most_words → base + 4 * most_words < 2 ^ 26 → HasWords (words_of f) code base
      → Stands f.items code (label_address f.places base) base
  -- one after the other, the second's labels after the first's
  pub joins : (a b : FragState) (code entry : ℕ → ℕ) (base : ℕ) → Stands (joined a b).items code entry base
      → Stands a.items code entry base × Stands b.items code (λ l. entry (l + length a.places)) (base + 4 * length a.items)
  -- a label of the first keeps its address, and one of the second has its own from where that begins
  pub first_labels : (a b : FragState) (base l : ℕ) → l < length a.places → label_address (joined a b).places base l ≡ label_address a.places base l
  pub second_labels : (a b : FragState) (base l p : ℕ) → slice_get b.places l ≡ Some (Some p) → label_address (joined a b).places base (l + length a.places) ≡ base + 4 * length a.items + 4 * p
