-- A map from texts to bytes, seen as contents by their names.
use Rattle.std.proofs.Common.{◌≡◌, ◌≢◌, ℕ, Bool, true, false, cond, List, [], ◌∷◌, map, Option, Some, String, string_bytes, Vec, option_map, BTreeMap, Global, refl, sym, ap, ◌∙◌, bytes_eq, nat_cmp, is_eq, string_cmp}
use Rattle.std.specs.Cmp.{eq_by_cmp_equiv}
use Rattle.std.specs.Map.{lookup}
use Rattle.std.specs.Cmp.Lexicographic.{slice_cmp, nat_list_cmp_total}
use Rattle.std.specs.FinMap.{get, find, insert, get-from_entries, get-insert, same_map, slice_cmp-IsAntisymmetric, nat_cmp-IsAntisymmetric}
use Rattle.std.specs.BTreeMap.{get_by_text, UpdatesBy, is_at}
use Rattle.std.proofs.lemmas.Map.Text.{is_eq-slice_cmp, btree_map_updates_text}
use Rattle.std.proofs.lemmas.Slice.Eq.{bytes_eq-Decides}
use Rattle.std.proofs.lemmas.Bool.{false_from_ne_true}
use Rattle.bv_io.specs.Files.{file_of, files_of, Held}

-- finding a name among the files is looking its text up among the entries
find-file_of : (q : List ℕ) (es : List (String Global × Vec ℕ Global)) → find (slice_cmp nat_cmp) q (map file_of es) ≡ option_map (λ v. v.items) (lookup (is_at (λ k. slice_cmp nat_cmp q (string_bytes k))) es)
find-file_of q [] = refl
find-file_of q (e ∷ es) =
    elim (is_eq (slice_cmp nat_cmp q (string_bytes e.0))) as (λ b. cond b (Some e.1.items) (find (slice_cmp nat_cmp) q (map file_of es)) ≡ option_map (λ v. v.items) (cond b (Some e.1) (lookup (is_at (λ k. slice_cmp nat_cmp q (string_bytes k))) es))) [
      | true ↦ refl
      | false ↦ find-file_of q es
    ]

-- reading a name among the files is reading its text in the map
pub get-files_of : (q : List ℕ) (m : BTreeMap (String Global) (Vec ℕ Global)) → get (files_of m.entries) q ≡ option_map (λ v. v.items) (get_by_text m q)
get-files_of q m = get-from_entries nat_list_cmp_total (map file_of m.entries) q ∙ find-file_of q m.entries

-- setting a text in the map sets a name among the files
pub files_of-insert : (m n : BTreeMap (String Global) (Vec ℕ Global)) (k : List ℕ) (v : Vec ℕ Global) → UpdatesBy string_cmp (λ x. slice_cmp nat_cmp k (string_bytes x)) m n (Some v) → files_of n.entries ≡ insert (files_of m.entries) k v.items
files_of-insert m n k v updates =
    same_map nat_list_cmp_total (slice_cmp-IsAntisymmetric nat_cmp-IsAntisymmetric) _ _ (λ q.
    get-files_of q n
    ∙ ap (option_map (λ x. x.items)) (btree_map_updates_text k m n (Some v) updates q)
    ∙ at_test (bytes_eq k q) (is_eq (slice_cmp nat_cmp q k)) (sym (is_eq-slice_cmp k q) ∙ (eq_by_cmp_equiv nat_list_cmp_total).symm k q) (Some v) (get_by_text m q)
    ∙ ap (cond (is_eq (slice_cmp nat_cmp q k)) (Some v.items)) (sym (get-files_of q m))
    ∙ sym (get-insert nat_list_cmp_total (files_of m.entries) k v.items q))
  where
    at_test : (a b : Bool) → a ≡ b → (x y : Option (Vec ℕ Global)) → option_map (λ z. z.items) (cond a x y) ≡ cond b (option_map (λ z. z.items) x) (option_map (λ z. z.items) y)
    at_test a true e x y = ap (λ t. option_map (λ z. z.items) (cond t x y)) e
    at_test a false e x y = ap (λ t. option_map (λ z. z.items) (cond t x y)) e

-- what is set is held
pub get-insert_same : (files : Held) (k v : List ℕ) → get (insert files k v) k ≡ Some v
get-insert_same files k v = get-insert nat_list_cmp_total files k v k ∙ ap (λ b. cond b (Some v) (get files k)) (is_eq-slice_cmp k k ∙ bytes_eq_self k)
  where
    bytes_eq_self : (k : List ℕ) → bytes_eq k k ≡ true
    bytes_eq_self k = (bytes_eq-Decides k k).1 refl

-- the other names hold what they held
pub get-insert_other : (files : Held) (k v n : List ℕ) → n ≢ k → get (insert files k v) n ≡ get files n
get-insert_other files k v n apart =
    get-insert nat_list_cmp_total files k v n
    ∙ ap (λ b. cond b (Some v) (get files n)) (is_eq-slice_cmp n k ∙ false_from_ne_true (bytes_eq n k) (λ e. apart ((bytes_eq-Decides n k).0 e)))
