-- Fragments: items with labels, and the words that they are. This project's own, but for the words of instructions, which are
-- the ARM2's (VL86C010 (ARM2) data manual).
use Rattle.std.specs.Prelude.{◌≡◌, ℕ, ◌+◌, ◌*◌, ◌%◌, ◌^◌, ◌&&◌, nat_lt, nat_le, Bool, true, false, List, [], ◌∷◌, ◌++◌, length, map, slice_get, Option, Some, None, ℤ, pos, ◌-ℤ◌}
use Rattle.std.specs.List.{list_all}
use Rattle.arm_isa.specs.declared.instruction.Instr.TheVariants.{Branch}
use Rattle.arm_isa.specs.Fields.{offset_field}
use Rattle.arm_isa.specs.Valid.{is_valid}
use Rattle.arm_isa.specs.Words.{word_of}
use Rattle.arm_core.specs.Core.{word}
use Rattle.arm_core.specs.Made.{target_of}
use Rattle.code_frag.specs.declared.item.Item.{Item}
use Rattle.code_frag.specs.declared.item.Item.TheVariants.{Ins, Jump}

-- a fragment as its callers see it: its items, and for each label the number of items before its place, once it has one
pub record FragState : Type 0 where
  pub items : List Item
  pub places : List (Option ℕ)

-- the greatest number of words of a fragment that becomes code
abbrev pub most_words : ℕ
most_words = 6815744

-- ---- which items and places a fragment can have

-- an instruction that has a word, or a branch under a condition to one of n labels
abbrev pub item_fits : ℕ → Item → Bool
item_fits n (Ins i) = is_valid i
item_fits n (Jump k link to) = nat_lt k 16 && nat_lt to.number n

-- a place among k items, or after them
abbrev pub place_fits : ℕ → Option ℕ → Bool
place_fits k None = true
place_fits k (Some p) = nat_le p k

-- the items and places of a fragment fit one another
pub record IsFrag (f : FragState) : Type 0 where
  pub items : list_all (item_fits (length f.places)) f.items ≡ true
  pub places : list_all (place_fits (length f.items)) f.places ≡ true

-- a label of the fragment that has no place yet
abbrev pub IsOpen : FragState → ℕ → Type 0
IsOpen f l = slice_get f.places l ≡ Some None

-- a label has a place
abbrev pub is_placed : Option ℕ → Bool
is_placed None = false
is_placed (Some p) = true

-- every label of a fragment has a place
abbrev pub AllPlaced : FragState → Type 0
AllPlaced f = list_all is_placed f.places ≡ true

-- ---- words

-- the place that a look-up gives, and 0 where it gives none
abbrev pub place_in : Option (Option ℕ) → ℕ
place_in None = 0
place_in (Some None) = 0
place_in (Some (Some p)) = p

-- the place of a label
abbrev pub place_of : List (Option ℕ) → ℕ → ℕ
place_of places l = place_in (slice_get places l)

-- the distance in words of a branch at an item to another, from two words after it
abbrev pub distance : ℕ → ℕ → ℤ
distance at to = pos to -ℤ pos (at + 2)

-- the word of an item
abbrev pub item_word : List (Option ℕ) → ℕ → Item → ℕ
item_word places at (Ins i) = word_of i
item_word places at (Jump k link to) = word_of (Branch k link (distance at (place_of places to.number)))

-- the words of items from one on
abbrev pub words_from : List Item → List (Option ℕ) → ℕ → List ℕ
words_from [] places at = []
words_from (i ∷ is) places at = item_word places at i ∷ words_from is places (at + 1)

-- the words of a fragment. They stay closed, so that no goal shows them.
unfoldable pub words_of : FragState → List ℕ
words_of f = words_from f.items f.places 0

-- A word is its item's, and a branch to a label leads to the label's address, where the words stand from a base on.
abbrev pub ReachesItem : List (Option ℕ) → ℕ → ℕ → Item → ℕ → Type 0
ReachesItem places base at (Ins i) w = w ≡ word_of i
ReachesItem places base at (Jump k link to) w =
    (words : ℤ) × (w ≡ word_of (Branch k link words)) × (target_of (base + 4 * at) (offset_field words) ≡ (base + 4 * place_of places to.number) % 2 ^ 26)

-- the same of each item and its word
abbrev pub ReachesFrom : List Item → List ℕ → List (Option ℕ) → ℕ → ℕ → Type 0
ReachesFrom [] ws places base at = ws ≡ []
ReachesFrom (i ∷ is) [] places base at = ⊥
ReachesFrom (i ∷ is) (w ∷ ws) places base at = ReachesItem places base at i w × ReachesFrom is ws places base (at + 1)

-- each branch of a fragment reaches its label
pub record Reaches (f : FragState) (base : ℕ) (words : List ℕ) : Type 0 where
  pub each : ReachesFrom f.items words f.places base 0

-- ---- joins

-- an item whose label comes after n others
abbrev pub shifted_item : ℕ → Item → Item
shifted_item n (Ins i) = Ins i
shifted_item n (Jump k link to) = Jump k link (record { number = to.number + n })

-- a place that comes after k items
abbrev pub shifted_place : ℕ → Option ℕ → Option ℕ
shifted_place k None = None
shifted_place k (Some p) = Some (p + k)

-- one fragment after another: the second's labels come after the first's
abbrev pub joined : FragState → FragState → FragState
joined a b = record {
  items = a.items ++ map (shifted_item (length a.places)) b.items;
  places = a.places ++ map (shifted_place (length a.items)) b.places;
}

-- ---- in a memory

-- words stand in a memory from an address on
abbrev pub HasWords : List ℕ → (ℕ → ℕ) → ℕ → Type 0
HasWords [] m a = Unit {0}
HasWords (w ∷ ws) m a = (word m a ≡ w) × HasWords ws m (a + 4)

-- the address of a label, where the words stand from a base on
abbrev pub label_address : List (Option ℕ) → ℕ → ℕ → ℕ
label_address places base l = base + 4 * place_of places l
