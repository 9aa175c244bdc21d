-- A tree and the value that it is.
use Rattle.std.proofs.Common.{◌≡◌, ℕ, zero, suc, ◌<◌, ◌+◌, List, [], ◌∷◌, map, take, length, get_or, false, Less, Greater, pos, negsuc, refl, sym, ap, ap₂, ◌∙◌, subst, arith, nat_cmp, add-one, string_bytes, string_cmp, ◌++◌}
use Rattle.serde_json.proofs.Views.{Entry}
use Rattle.std.proofs.lemmas.List.{map-append, take_more}
use Rattle.std.proofs.lemmas.Cmp.{nat_list_cmp_total}
use Rattle.std.specs.Cmp.Lexicographic.{slice_cmp}
use Rattle.std.specs.List.{AllByRecursion}
use Rattle.std.specs.List.Sorted.{IsStrictlySortedBy}
use Rattle.std.specs.Map.{keys_of}
use Rattle.std.specs.Ordering.{ordering_reverse}
use Rattle.serde_json.specs.Data as json
use Rattle.serde_json.specs.Data.{put}
use Rattle.serde_json.specs.View as view
use Rattle.serde_json.specs.Written.{has_float, items_have_float, members_have_float}
use Rattle.jm_json.specs.Tree.{Tree, null, boolean, number, text, list, object, Trees, no_trees, tree, Fields, no_fields, field, trees_of, fields_of}
use Rattle.jm_json.specs.Order.{KeysRise}
use Rattle.jm_json.specs.Reading.{tree_from, trees_from, fields_from}
use Rattle.jm_json.specs.Json.{tree_of, member_of}
use Rattle.jm_json.specs.JsonValues.{data_of, items_of, members_of}
use Rattle.jm_json.specs.declared.tree.Member.{Member}

below_at : (k : List ℕ) (ms : List Member) (i : ℕ) (d : Member) → i < length ms → AllByRecursion (λ y. slice_cmp nat_cmp k y ≡ Less) (keys_of (map member_of ms)) → slice_cmp nat_cmp k (get_or ms i d).name ≡ Less
below_at k [] i d h all = absurd (omega arith)
below_at k (m ∷ ms) zero d h all = all.0
below_at k (m ∷ ms) (suc i) d h all = below_at k ms i d (omega arith) all.1

-- a key that is past those before it goes last
pub put_next : (ms : List Member) (i : ℕ) (d : Member) → i < length ms → KeysRise (map member_of ms)
    → put (get_or ms i d).name (data_of (tree_of (get_or ms i d).value)) (members_of (fields_of (map member_of (take i ms)))) ≡ members_of (fields_of (map member_of (take (suc i) ms)))
unfolding IsStrictlySortedBy
put_next [] i d h rise = absurd (omega arith)
put_next (m ∷ ms) zero d h rise = refl
put_next (m ∷ ms) (suc i) d h rise =
    let above : slice_cmp nat_cmp (get_or ms i d).name m.name ≡ Greater =
    nat_list_cmp_total.antisymm (get_or ms i d).name m.name ∙ ap ordering_reverse (below_at m.name ms i d (omega arith) rise.0) in
    rw above (ap (json.member m.name (data_of (tree_of m.value))) (put_next ms i d (omega arith) rise.1))

-- a key that is past those before it goes last, at a member that the loop names
pub put_member : (ms : List Member) (i : ℕ) (m : Member) → m ≡ get_or ms i m → i < length ms → KeysRise (map member_of ms)
    → put m.name (data_of (tree_of m.value)) (members_of (fields_of (map member_of (take i ms)))) ≡ members_of (fields_of (map member_of (take (i + 1) ms)))
put_member ms i m is h rise = rw (add-one, is) (put_next ms i m h rise)

mutual
  pub no_float : (t : Tree) → has_float (data_of t) ≡ false
  no_float null = refl
  no_float (boolean b) = refl
  no_float (number (pos n)) = refl
  no_float (number (negsuc n)) = refl
  no_float (text s) = refl
  no_float (list ts) = no_float_items ts
  no_float (object fs) = no_float_members fs

  pub no_float_items : (ts : Trees) → items_have_float (items_of ts) ≡ false
  no_float_items no_trees = refl
  no_float_items (tree t ts) = rw (no_float t) (no_float_items ts)

  pub no_float_members : (fs : Fields) → members_have_float (members_of fs) ≡ false
  no_float_members no_fields = refl
  no_float_members (field k t fs) = rw (no_float t) (no_float_members fs)

abbrev pub pair_of : List ℕ × Tree → List ℕ × json.Data
pair_of m = (m.0, data_of m.1)

abbrev pub entry_pair : Entry → List ℕ × json.Data
entry_pair e = (string_bytes e.0, view.view e.1)

pub items_as_list : (ts : List Tree) → items_of (trees_of ts) ≡ view.items_of (map data_of ts)
items_as_list [] = refl
items_as_list (t ∷ ts) = ap (json.item (data_of t)) (items_as_list ts)

abbrev pub of_pairs : List (List ℕ × json.Data) → json.Members
of_pairs [] = json.no_members
of_pairs (p ∷ ps) = json.member p.0 p.1 (of_pairs ps)

members_as_pairs : (ms : List (List ℕ × Tree)) → members_of (fields_of ms) ≡ of_pairs (map pair_of ms)
members_as_pairs [] = refl
members_as_pairs (m ∷ ms) = ap (json.member m.0 (data_of m.1)) (members_as_pairs ms)

entries_as_pairs : (es : List Entry) → view.members_view es ≡ of_pairs (map entry_pair es)
entries_as_pairs [] = refl
entries_as_pairs (e ∷ es) = ap (json.member (string_bytes e.0) (view.view e.1)) (entries_as_pairs es)

pub same_members : (ms : List (List ℕ × Tree)) (es : List Entry) → map pair_of ms ≡ map entry_pair es → members_of (fields_of ms) ≡ view.members_view es
same_members ms es e = members_as_pairs ms ∙ ap of_pairs e ∙ sym (entries_as_pairs es)

-- the keys rise as those of a map's entries do
below_all : (k : List ℕ) (ms : List (List ℕ × Tree)) (es more : List Entry) → map pair_of ms ≡ map entry_pair es
    → AllByRecursion (λ y. slice_cmp nat_cmp k (string_bytes y) ≡ Less) (keys_of (es ++ more)) → AllByRecursion (λ y. slice_cmp nat_cmp k y ≡ Less) (keys_of ms)
below_all k [] es more e all = tt
below_all k (m ∷ ms) [] more e all = absurd (cc)
below_all k (m ∷ ms) (x ∷ es) more e all =
    let head : pair_of m ≡ entry_pair x = cc in
    let same : m.0 ≡ string_bytes x.0 = ap (λ (p : List ℕ × json.Data). p.0) head in
    (rw same all.0, below_all k ms es more (cc) all.1)

pub rises : (ms : List (List ℕ × Tree)) (es more : List Entry) → map pair_of ms ≡ map entry_pair es → IsStrictlySortedBy string_cmp (keys_of (es ++ more)) → KeysRise ms
unfolding IsStrictlySortedBy
rises [] es more e sorted = tt
rises (m ∷ ms) [] more e sorted = absurd (cc)
rises (m ∷ ms) (x ∷ es) more e sorted =
    let head : pair_of m ≡ entry_pair x = cc in
    let same : m.0 ≡ string_bytes x.0 = ap (λ (p : List ℕ × json.Data). p.0) head in
    (rw same (below_all (string_bytes x.0) ms es more (cc) sorted.0), rises ms es more (cc) sorted.1)

pub pairs_more : (ms : List (List ℕ × Tree)) (es : List Entry) (k : List ℕ) (t : Tree) (e : Entry) → map pair_of ms ≡ map entry_pair es → k ≡ string_bytes e.0 → data_of t ≡ view.view e.1
    → map pair_of (ms ++ (k, t) ∷ []) ≡ map entry_pair (es ++ e ∷ [])
pairs_more ms es k t e h named same =
    let p : pair_of (k, t) ≡ entry_pair e = ap₂ (λ (x : List ℕ) (d : json.Data). (x, d)) named same in
    map-append pair_of ms ((k, t) ∷ []) ∙ ap₂ (λ (ps : List (List ℕ × json.Data)) (q : List ℕ × json.Data). ps ++ q ∷ []) h p ∙ sym (map-append entry_pair es (e ∷ []))

-- a tree is the tree of its value
mutual
  pub from_data : (t : Tree) → tree_from (data_of t) ≡ t
  from_data null = refl
  from_data (boolean b) = refl
  from_data (number (pos n)) = refl
  from_data (number (negsuc n)) = refl
  from_data (text s) = refl
  from_data (list ts) = ap list (from_items ts)
  from_data (object fs) = ap object (from_members fs)

  from_items : (ts : Trees) → trees_from (items_of ts) ≡ ts
  from_items no_trees = refl
  from_items (tree t ts) = ap₂ tree (from_data t) (from_items ts)

  from_members : (fs : Fields) → fields_from (members_of fs) ≡ fs
  from_members no_fields = refl
  from_members (field k t fs) = ap₂ (field k) (from_data t) (from_members fs)

-- the prefix of keys that rise rises
below_front : (k : List ℕ) (ms : List Member) (n : ℕ) → AllByRecursion (λ y. slice_cmp nat_cmp k y ≡ Less) (keys_of (map member_of ms)) → AllByRecursion (λ y. slice_cmp nat_cmp k y ≡ Less) (keys_of (map member_of (take n ms)))
below_front k ms zero all = tt
below_front k [] (suc n) all = tt
below_front k (m ∷ ms) (suc n) all = (all.0, below_front k ms n all.1)

rise_front : (ms : List Member) (n : ℕ) → KeysRise (map member_of ms) → KeysRise (map member_of (take n ms))
unfolding IsStrictlySortedBy
rise_front ms zero h = tt
rise_front [] (suc n) h = tt
rise_front (m ∷ ms) (suc n) h = (below_front m.name ms n h.0, rise_front ms n h.1)

pub rise_next : (ms : List Member) (i : ℕ) (d : Member) → i < length ms → KeysRise (map member_of ms) → KeysRise (map member_of (take i ms) ++ member_of (get_or ms i d) ∷ [])
rise_next ms i d h rise = subst KeysRise (ap (map member_of) (take_more ms i d h) ∙ map-append member_of (take i ms) (get_or ms i d ∷ [])) (rise_front ms (i + 1) rise)
