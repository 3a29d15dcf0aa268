-- Labels and entries where fragments are put together: places that stay, and a library's entries under other labels.
use Rattle.std.proofs.Common.{◌≡◌, ◌≢◌, ℕ, zero, suc, ◌+◌, ◌*◌, ◌<◌, false, List, [], ◌∷◌, ◌++◌, length, map, slice_get, slice_set, Option, Some, None, refl, sym, ap, subst, ◌∙◌, arith}
use Rattle.std.specs.List.{list_all}
use Rattle.arm2_machine.specs.Machine.{Machine}
use Rattle.arm_core.specs.Core.{Core, IsAt}
use Rattle.arm_core.specs.Effects.{return_place}
use Rattle.code_frag.specs.declared.item.Item.{Item}
use Rattle.code_frag.specs.declared.item.Item.TheVariants.{Ins, Jump}
use Rattle.code_frag.specs.Demands.{ToLabel, ToPlace, ToEnd, Out, Falls, Leaves}
use Rattle.code_frag.specs.Runs.{Stands, SameCode, Comes, EndsAt, Meets}
use Rattle.code_frag.specs.Words.{FragState, is_placed, place_in, place_of, shifted_item, shifted_place, joined}
use Rattle.code_frag.proofs.Branches.{stands_front, stands_after}
use Rattle.code_frag.proofs.WordLaws.{label_address}

-- ---- places

-- a label keeps its place where others come after it
pub place-front : (ps qs : List (Option ℕ)) (l : ℕ) → l < length ps → place_of (ps ++ qs) l ≡ place_of ps l
place-front [] qs l within = absurd (omega (arith, within))
place-front (p ∷ ps) qs zero within = refl
place-front (p ∷ ps) qs (suc l) within = place-front ps qs l (omega (arith, within))

place_after : (ps qs : List (Option ℕ)) (l : ℕ) → place_of (ps ++ qs) (length ps + l) ≡ place_of qs l
place_after [] qs l = ap (place_of qs) (let e : 0 + l ≡ l = omega arith in e)
place_after (p ∷ ps) qs l = ap (place_of ((p ∷ ps) ++ qs)) (let e : length (p ∷ ps) + l ≡ suc (length ps + l) = omega arith in e) ∙ place_after ps qs l

-- the place that a label was given, and other labels
pub place-set : (ps : List (Option ℕ)) (l p : ℕ) → l < length ps → place_of (slice_set ps l (Some p)) l ≡ p
place-set [] l p within = absurd (omega (arith, within))
place-set (q ∷ qs) zero p within = refl
place-set (q ∷ qs) (suc l) p within = place-set qs l p (omega (arith, within))

pub place-set_other : (ps : List (Option ℕ)) (l k : ℕ) (p : Option ℕ) → k ≢ l → place_of (slice_set ps l p) k ≡ place_of ps k
place-set_other [] l k p apart = refl
place-set_other (q ∷ qs) zero zero p apart = absurd (apart refl)
place-set_other (q ∷ qs) zero (suc k) p apart = refl
place-set_other (q ∷ qs) (suc l) zero p apart = refl
place-set_other (q ∷ qs) (suc l) (suc k) p apart = place-set_other qs l k p (λ e. apart (ap suc e))

-- labels that have places have them after a join
pub placed-shifted : (count : ℕ) (qs : List (Option ℕ)) → list_all is_placed (map (shifted_place count) qs) ≡ list_all is_placed qs
placed-shifted count [] = refl
placed-shifted count (None ∷ qs) = refl
placed-shifted count (Some p ∷ qs) = placed-shifted count qs

pub shifted_there : (qs : List (Option ℕ)) (count l p : ℕ) → slice_get qs l ≡ Some (Some p) → place_of (map (shifted_place count) qs) l ≡ p + count
shifted_there [] count l p there = cc
shifted_there (q ∷ qs) count zero p there =
    let is : q ≡ Some p = cc in
    ap (λ x. place_in (Some (shifted_place count x))) is
shifted_there (q ∷ qs) count (suc l) p there = shifted_there qs count l p there

-- the address of a label of the second fragment
pub address-joined : (ps qs : List (Option ℕ)) (count base l p : ℕ) → slice_get qs l ≡ Some (Some p)
    → label_address (ps ++ map (shifted_place count) qs) base (l + length ps) ≡ base + 4 * count + 4 * p
address-joined ps qs count base l p there =
    let place = ap (place_of (ps ++ map (shifted_place count) qs)) (let e : l + length ps ≡ length ps + l = omega arith in e) ∙ place_after ps (map (shifted_place count) qs) l ∙ shifted_there qs count l p there in
    omega (arith, place)

-- ---- items under other labels

-- the items of a joined fragment are its own items, where labels are counted from those before it
pub stands_shifted : (is : List Item) (n : ℕ) (code entry : ℕ → ℕ) (pc : ℕ) → Stands (map (shifted_item n) is) code entry pc → Stands is code (λ l. entry (l + n)) pc
unfolding Stands
stands_shifted [] n code entry pc h = tt
stands_shifted (Ins i ∷ is) n code entry pc h = (h.0, stands_shifted is n code entry (pc + 4) h.1)
stands_shifted (Jump k link to ∷ is) n code entry pc h = (h.0, stands_shifted is n code entry (pc + 4) h.1)

-- where the items of a joined fragment stand, those of its parts do, one after the other
pub stands-joined : (a b : FragState) (code entry : ℕ → ℕ) (base : ℕ) → Stands (joined a b).items code entry base
    → Stands a.items code entry base × Stands b.items code (λ l. entry (l + length a.places)) (base + 4 * length a.items)
stands-joined a b code entry base h = (
  stands_front a.items (map (shifted_item (length a.places)) b.items) code entry base h,
  stands_shifted b.items (length a.places) code entry (base + 4 * length a.items) (stands_after a.items (map (shifted_item (length a.places)) b.items) code entry base h),
)

-- ---- contracts under other labels

moved_comes : (first second : ℕ → ℕ) (o : Out) (next : ℕ) (t : Core) (m : Machine) → ((k : ℕ) → o ≡ Leaves (ToLabel k) → ⊥) → Comes first o next t m → Comes second o next t m
moved_comes first second Falls next t m none c = c
moved_comes first second (Leaves (ToLabel k)) next t m none c = absurd (none k refl)
moved_comes first second (Leaves (ToPlace a)) next t m none c = c
moved_comes first second (Leaves (ToEnd report)) next t m none c = c

-- An entry that leaves to no label meets a contract under any other label of its address, and under one that asks more and
-- says less.
pub meets-moved : (code first second : ℕ → ℕ) (A B : ℕ → Core → Type 0) (D E : ℕ → Core → Out → Core → Type 0) (i j : ℕ) → first i ≡ second j
    → ((s : Core) → B j s → A i s) → ((s : Core) (o : Out) (t : Core) → D i s o t → E j s o t) → ((s : Core) (k : ℕ) (t : Core) → D i s (Leaves (ToLabel k)) t → ⊥)
    → Meets code first A D i → Meets code second B E j
meets-moved code first second A B D E i j same asks does none meets = record { runs = runs }
  where
    moved : (s : Core) (m : Machine) (place : ℕ) → EndsAt code first false (D i s) place (return_place (s.regs 14)) s m → EndsAt code second false (E j s) place (return_place (s.regs 14)) s m
    moved s m place x = record {
      out = x.out;
      end = x.end;
      machine = x.machine;
      places = x.places;
      bytes = x.bytes;
      holds = does s x.out x.end x.holds;
      same = x.same;
      row = x.row;
      writes = x.writes;
      comes = moved_comes first second x.out (return_place (s.regs 14)) x.end x.machine (λ k is. none s k x.end (subst (λ o. D i s o x.end) is x.holds)) x.comes;
      rises = x.rises;
      moved = x.moved;
    }

    runs : (s : Core) (m : Machine) → SameCode code s.mem → IsAt s (second j) m → B j s → EndsAt code second false (E j s) (second j) (return_place (s.regs 14)) s m
    runs s m kept is asked =
        let x = moved s m (first i) (meets.runs s m kept (subst (λ a. IsAt s a m) (sym same) is) (asks s asked)) in
        subst (λ a. EndsAt code second false (E j s) a (return_place (s.regs 14)) s m) same x
