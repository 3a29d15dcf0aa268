use Rattle.std.proofs.Common.{◌≡◌, ℕ, ◌-◌, ◌^◌, ◌≤◌, false, List, ◌++◌, length, map, Option, Result, Ok, Err, OnOk, sym, ap, subst, ◌∙◌, arith}
use Rattle.std.proofs.lemmas.Bool.{true≢false}
use Rattle.std.specs.Result.{is_err}
use Rattle.code_frag.specs.declared.item.Item.{Item}
use Rattle.std.specs.List.{list_all}
use Rattle.code_frag.specs.Words.{FragState, IsFrag, item_fits, place_fits, shifted_item, shifted_place}
use Rattle.code_frag.proofs.FragLaws.{all_implies, item_fits-more, place_fits-more, frag-joined}
use Rattle.code_frag.proofs.frag.Frag.join.Goals as goal

pub push_items-requires : goal.push_items-requires
push_items-requires c =
    let labels = rw (← c.self.view_is, ← c.other.view_is) at c.requires.labels in
    let more : length c.other.inside.places.items ≤ 2 ^ 32 - c.len-labels.result = omega arith in
    ap (list_all (item_fits (2 ^ 32 - c.len-labels.result))) c.deref.ensures.value
    ∙ all_implies (item_fits (length c.other.inside.places.items)) (item_fits (2 ^ 32 - c.len-labels.result)) (item_fits-more (length c.other.inside.places.items) (2 ^ 32 - c.len-labels.result) more) c.other.inside.items.items c.other.invariant.items

pub push_places-requires : goal.push_places-requires
push_places-requires c =
    let bound = 2 ^ 64 - 1 - c.len-items.result in
    let more : length c.other.inside.items.items ≤ bound = omega arith in
    ap (list_all (place_fits bound)) c.deref-2.ensures.value
    ∙ all_implies (place_fits (length c.other.inside.items.items)) (place_fits bound) (place_fits-more (length c.other.inside.items.items) bound more) c.other.inside.places.items c.other.invariant.places

-- what follows where a call succeeded
where_ok : {A E : Type 0} (r : Result A E) (P : Type 0) → is_err r ≡ false → OnOk r P → P
where_ok (Ok x) P fine p = p
where_ok (Err e) P failed p = absurd (true≢false failed)

-- the second list of items, and of places, as the fields have them
joined_there : (a b : FragState) (items : List Item) (places : List (Option ℕ)) (number count : ℕ) (more : List Item) (also : List (Option ℕ)) → IsFrag a → IsFrag b → number ≡ length a.places → count ≡ length a.items → more ≡ b.items → also ≡ b.places
    → items ≡ a.items ++ map (shifted_item number) more → places ≡ a.places ++ map (shifted_place count) also → IsFrag (record { items = items; places = places })
joined_there a b items places number count more also good other labels before items_is places_is items_made places_made =
    subst IsFrag
    (sym (λ i. record {
      items = (items_made ∙ (λ j. a.items ++ map (shifted_item (labels j)) (items_is j))) i;
      places = (places_made ∙ (λ j. a.places ++ map (shifted_place (before j)) (places_is j))) i;
    }))
    (frag-joined a b good other)

pub invariant_of-self-else-is_err-2 : goal.invariant_of-self-else-is_err-2
invariant_of-self-else-is_err-2 c =
    joined_there (record { items = c.self.inside.items.items; places = c.self.inside.places.items }) (record { items = c.other.inside.items.items; places = c.other.inside.places.items })
    c.push_items.new.items.items c.push_places.new.places.items c.len-labels.result c.len-items.result c.deref.result.now c.deref-2.result.now c.self.invariant c.other.invariant
    (omega arith) (omega arith) c.deref.ensures.value c.deref-2.ensures.value
    (where_ok c.push_items.result _ (sym c.if-is_err.ensures.value) c.push_items.ensures.ok)
    (where_ok c.push_places.result _ (sym c.if-is_err-2.ensures.value) c.push_places.ensures.ok)
