-- The entries at the end of a room.
use Rattle.std.proofs.Common.{◌≡◌, ℕ, zero, suc, ◌+◌, ◌-◌, ◌<◌, ◌≤◌, List, [], ◌∷◌, Some, refl, sym, ap, ◌∙◌, length, get_or, drop, set, arith, length-drop}
use Rattle.std.specs.Prelude.{true}
use Rattle.std.proofs.lemmas.List.{drop-set, drop_more, drop-drop}
use Rattle.bas_store.specs.declared.opened.FoundEntry.{FoundEntry}
use Rattle.bas_store.specs.declared.opened.OpenEntry.{OpenEntry}
use Rattle.bas_store.specs.Opened.{Closer, closes, nearest}
use Rattle.bas_store.specs.Stored.{Entry}
use Rattle.bas_store.specs.Entries.{entry_of, entries_of, lowest}

entries_drop : (n : ℕ) (es : List OpenEntry) → drop n (entries_of es) ≡ entries_of (drop n es)
entries_drop zero es = refl
entries_drop (suc n) [] = refl
entries_drop (suc n) (e ∷ es) = entries_drop n es

entries_long : (es : List OpenEntry) → length (entries_of es) ≡ length es
entries_long [] = refl
entries_long (e ∷ es) = ap suc (entries_long es)

-- the number of entries from a place on
pub height_is : (k : ℕ) (room : List OpenEntry) → length (entries_of (drop k room)) ≡ length room - k
height_is k room = entries_long (drop k room) ∙ length-drop k room

-- an entry is put before them
pub one_opened : (room : List OpenEntry) (k : ℕ) (e : OpenEntry) → k < length room → entries_of (drop k (set room k e)) ≡ entry_of e ∷ entries_of (drop (k + 1) room)
one_opened room k e within = ap entries_of (drop-set room k e within)

-- the lowest of them
pub lowest_is : (k h : ℕ) (room : List OpenEntry) → k + h ≤ length room → lowest h (entries_of (drop k room)) ≡ entries_of (drop (length room - h) room)
lowest_is k h room within =
    let there : k + (length room - k - h) ≡ length room - h = omega (arith, within) in
    ap (λ n. drop (n - h) (entries_of (drop k room))) (height_is k room)
    ∙ entries_drop (length room - k - h) (drop k room)
    ∙ ap entries_of (drop-drop (length room - k - h) k room ∙ ap (λ n. drop n room) there)

-- the entry at a place, and those after it
pub one_entry : (room : List OpenEntry) (i : ℕ) (d : OpenEntry) → i < length room → entries_of (drop i room) ≡ entry_of (get_or room i d) ∷ entries_of (drop (i + 1) room)
one_entry room i d within = ap entries_of (drop_more room i d within)

-- the search ends at an entry of its call that the word closes
pub finds : (depth : ℕ) (closer : Closer) (e : Entry) (es : List Entry) → e.call ≡ depth → closes closer e.opening ≡ true
    → nearest depth closer (e ∷ es) ≡ Some (record { entry = e; below = es })
finds depth closer e es same closed = grind (arith)

-- an entry that was found at a place
pub record FoundAt (depth : ℕ) (closer : Closer) (es : List Entry) (f : FoundEntry) : Type 0 where
  pub found : Some (record { entry = entry_of f.entry; below = lowest f.below es }) ≡ nearest depth closer es
  pub within : f.below < length es
  pub whole : lowest (f.below + 1) es ≡ entry_of f.entry ∷ lowest f.below es

pub found_at : (depth : ℕ) (closer : Closer) (room : List OpenEntry) (last k i : ℕ) (entry : OpenEntry) (es : List Entry) → length room ≡ last + 1
    → entries_of (drop k room) ≡ es → k ≤ i → i ≤ last → entry ≡ get_or room i entry
    → nearest depth closer es ≡ nearest depth closer (entries_of (drop i room)) → entry.call ≡ depth → closes closer (entry_of entry).opening ≡ true
    → FoundAt depth closer es (record { entry = entry; below = last - i })
found_at depth closer room last k i entry es size is after within here passed same closed =
    let long : length es ≡ length room - k = ap length (sym is) ∙ height_is k room in
    let one : entries_of (drop i room) ≡ entry_of entry ∷ entries_of (drop (i + 1) room) =
    one_entry room i entry (omega (arith, size, within)) ∙ ap (λ e. entry_of e ∷ entries_of (drop (i + 1) room)) (sym here) in
    let under : length room - (last - i) ≡ i + 1 = omega (arith, size, within) in
    let at : length room - (last - i + 1) ≡ i = omega (arith, size, within) in
    let below : lowest (last - i) es ≡ entries_of (drop (i + 1) room) =
    ap (lowest (last - i)) (sym is) ∙ lowest_is k (last - i) room (omega (arith, size, after, within)) ∙ ap (λ n. entries_of (drop n room)) under in
    let kept : lowest (last - i + 1) es ≡ entries_of (drop i room) =
    ap (lowest (last - i + 1)) (sym is) ∙ lowest_is k (last - i + 1) room (omega (arith, size, after, within)) ∙ ap (λ n. entries_of (drop n room)) at in
    record {
      found = sym (passed ∙ ap (nearest depth closer) one ∙ finds depth closer (entry_of entry) (entries_of (drop (i + 1) room)) same closed
          ∙ ap (λ b. Some (record { entry = entry_of entry; below = b })) (sym below));
      within = omega (arith, long, size, after, within);
      whole = kept ∙ one ∙ ap (λ b. entry_of entry ∷ b) (sym below);
    }
