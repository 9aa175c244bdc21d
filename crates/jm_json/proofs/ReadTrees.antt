-- A tree that was read nests no deeper than its text may, and its numbers are integers within the limits.
use Rattle.std.proofs.Common.{◌≡◌, ◌≤◌, ℕ, zero, suc, ◌+◌, pos, negsuc, neg_ℤ, List, Bool, true, false, cond, ◌&&◌, nat_lt, nat_le, ◌==◌, ◌^◌, slice_index, drop, if◌then◌else◌, Option, Some, None, option_map, option_and_then, Ordering, Less, Equal, Greater, decimal, refl, sym, ap, ap₂, ◌∙◌, subst}
use Rattle.std.specs.Prelude.{⊤}
use Rattle.std.specs.Option.{option_or}
use Rattle.std.specs.Ordering.{match_ordering}
use Rattle.std.specs.Str.{is_utf8}
use Rattle.json.specs.Json as json
use Rattle.json.specs.Token.{Token}
use Rattle.json.specs.Lex.{tokens}
use Rattle.serde_json.specs.Data.{Num, unsigned, negative, float, Data, null, boolean, number, string, array, object, Items, no_items, item, Members, no_members, member, put, depth}
use Rattle.serde_json.specs.Read as json_text
use Rattle.serde_json.specs.Read.{max_depth, number_of, number_from, float_of, is_integer, of_json, of_items, of_members}
use Rattle.serde_json.proofs.Nesting.{depth-read}
use Rattle.fast_float.specs.Text.{Parts, minus, scan, digits_of}
use Rattle.jm_json.specs.Tree.{Tree}
use Rattle.jm_json.specs.JsonValues.{data_of, items_of, members_of}
use Rattle.jm_json.specs.Integers.{first_invalid, first_invalid_item, first_invalid_member, under, pointer_part}
use Rattle.jm_json.specs.Reading.{not_json, whole, by_number, by_value, reading_of, tree_from, trees_from, fields_from}

abbrev Each : {A : Type 0} → (A → Type 0) → Option A → Type 0
Each P None = ⊤
Each P (Some a) = P a

each_map : {A B : Type 0} (P : A → Type 0) (Q : B → Type 0) (f : A → B) → ((a : A) → P a → Q (f a)) → (o : Option A) → Each P o → Each Q (option_map f o)
each_map P Q f h None x = tt
each_map P Q f h (Some a) x = h a x

each_then : {A B : Type 0} (P : A → Type 0) (Q : B → Type 0) (f : A → Option B) → ((a : A) → P a → Each Q (f a)) → (o : Option A) → Each P o → Each Q (option_and_then f o)
each_then P Q f h None x = tt
each_then P Q f h (Some a) x = h a x

each_if : {A : Type 0} (P : A → Type 0) (b : Bool) (a : A) (o : Option A) → P a → Each P o → Each P (if b then Some a else o)
each_if P true a o x y = x
each_if P false a o x y = y

-- ---- a negative number that was read is below 0

abbrev IsSigned : Num → Type 0
IsSigned (unsigned n) = ⊤
IsSigned (negative (pos n)) = ⊥
IsSigned (negative (negsuc n)) = ⊤
IsSigned (float x) = ⊤

signed_float : (sign : Bool) (p : Parts) → Each IsSigned (float_of sign p)
signed_float sign p = each_if IsSigned _ (float _) None tt tt

signed_negative : (a c : Bool) (n : ℕ) (o : Option Num) → Each IsSigned o → Each IsSigned (if a && nat_lt 0 n && c then Some (negative (neg_ℤ (pos n))) else o)
signed_negative true c zero o h = h
signed_negative false c zero o h = h
signed_negative a c (suc n) o h = each_if IsSigned _ (negative (negsuc n)) o tt h

signed_from : (sign : Bool) (p : Parts) → Each IsSigned (number_from sign p)
signed_from true p = signed_negative (is_integer p) (nat_le (digits_of p) (2 ^ 63)) (digits_of p) (float_of true p) (signed_float true p)
signed_from false p = each_if IsSigned (is_integer p && nat_lt (digits_of p) (2 ^ 64)) (unsigned (digits_of p)) (float_of false p) tt (signed_float false p)

signed_either : (b : Bool) (p q : Parts) → Each IsSigned (if b then number_from true p else number_from false q)
signed_either true p q = signed_from true p
signed_either false p q = signed_from false q

signed_number : (s : List ℕ) → Each IsSigned (number_of s)
unfolding number_of
signed_number s = signed_either (slice_index s 0 == minus) (scan (drop 1 s)) (scan s)

-- ---- each negative number of a value is below 0

abbrev mutual
  Signed : Data → Type 0
  Signed null = ⊤
  Signed (boolean b) = ⊤
  Signed (number n) = IsSigned n
  Signed (string s) = ⊤
  Signed (array ds) = ItemsSigned ds
  Signed (object ms) = MembersSigned ms

  ItemsSigned : Items → Type 0
  ItemsSigned no_items = ⊤
  ItemsSigned (item d ds) = Signed d × ItemsSigned ds

  MembersSigned : Members → Type 0
  MembersSigned no_members = ⊤
  MembersSigned (member k d ms) = Signed d × MembersSigned ms

signed_ordering : (o : Ordering) (a b c : Members) → MembersSigned a → MembersSigned b → MembersSigned c → MembersSigned (match_ordering o a b c)
signed_ordering Less a b c x y z = x
signed_ordering Equal a b c x y z = y
signed_ordering Greater a b c x y z = z

signed_put : (k : List ℕ) (d : Data) (ms : Members) → Signed d → MembersSigned ms → MembersSigned (put k d ms)
signed_put k d no_members x h = (x, tt)
signed_put k d (member l e ms) x h =
    signed_ordering _ (member k d (member l e ms)) (member l d ms) (member l e (put k d ms)) (x, h) (x, h.1) (h.0, signed_put k d ms x h.1)

mutual
  signed_json : (j : json.Json) → Each Signed (of_json j)
  signed_json json.null = tt
  signed_json (json.boolean b) = tt
  signed_json (json.number s) = each_map IsSigned Signed number (λ n x. x) (number_of s) (signed_number s)
  signed_json (json.string s) = tt
  signed_json (json.array js) = each_map ItemsSigned Signed array (λ ds x. x) (of_items js) (signed_items js)
  signed_json (json.object ms) = each_map MembersSigned Signed object (λ ds x. x) (of_members ms no_members) (signed_members ms no_members tt)

  signed_items : (js : json.Items) → Each ItemsSigned (of_items js)
  signed_items json.no_items = tt
  signed_items (json.item j js) =
      each_then Signed ItemsSigned _ (λ d x. each_map ItemsSigned ItemsSigned (item d) (λ ds y. (x, y)) (of_items js) (signed_items js)) (of_json j) (signed_json j)

  signed_members : (ms : json.Members) (found : Members) → MembersSigned found → Each MembersSigned (of_members ms found)
  signed_members json.no_members found h = h
  signed_members (json.member k j ms) found h =
      each_then Signed MembersSigned _ (λ d x. signed_members ms (put k d found) (signed_put k d found x h)) (of_json j) (signed_json j)

signed_of : (o : Option json.Json) → Each Signed (option_and_then of_json o)
signed_of None = tt
signed_of (Some j) = signed_json j

signed_read : (text : List ℕ) → Each Signed (json_text.read text)
signed_read text = signed_of (option_and_then (λ (p : json.Json × List Token). json.if_last p.0 p.1) (json.value max_depth (tokens text)))

-- ---- the tree of a value whose numbers are integers within the limits is that value

both_none : (f : List ℕ → List ℕ) (a b : Option (List ℕ)) → option_or (option_map f a) b ≡ None → (a ≡ None) × (b ≡ None)
both_none f None b e = (refl, e)
both_none f (Some x) b e = absurd (cc)

mutual
  same_data : (d : Data) → Signed d → first_invalid d ≡ None → data_of (tree_from d) ≡ d
  same_data null s e = refl
  same_data (boolean b) s e = refl
  same_data (number (unsigned n)) s e = refl
  same_data (number (negative (pos n))) s e = absurd s
  same_data (number (negative (negsuc n))) s e = refl
  same_data (number (float x)) s e = absurd (cc)
  same_data (string t) s e = refl
  same_data (array ds) s e = ap array (same_items 0 ds s e)
  same_data (object ms) s e = ap object (same_members ms s e)

  same_items : (i : ℕ) (ds : Items) → ItemsSigned ds → first_invalid_item i ds ≡ None → items_of (trees_from ds) ≡ ds
  same_items i no_items s e = refl
  same_items i (item d ds) s e =
      let parts = both_none (under (decimal i)) (first_invalid d) (first_invalid_item (i + 1) ds) e in
      ap₂ item (same_data d s.0 parts.0) (same_items (i + 1) ds s.1 parts.1)

  same_members : (ms : Members) → MembersSigned ms → first_invalid_member ms ≡ None → members_of (fields_from ms) ≡ ms
  same_members no_members s e = refl
  same_members (member k d ms) s e =
      let parts = both_none (under (pointer_part k)) (first_invalid d) (first_invalid_member ms) e in
      ap₂ (member k) (same_data d s.0 parts.0) (same_members ms s.1 parts.1)

-- ---- what was read

record IsReadAs (o : Option Data) (t : Tree) : Type 0 where
  value : Data
  read : o ≡ Some value
  valid : first_invalid value ≡ None
  same : tree_from value ≡ t

by_number_whole : (o : Option (List ℕ)) (d : Data) (t : Tree) → by_number o d ≡ whole t → (o ≡ None) × (tree_from d ≡ t)
by_number_whole None d t e = (refl, cc)
by_number_whole (Some path) d t e = absurd (cc)

by_value_whole : (o : Option Data) (t : Tree) → by_value o ≡ whole t → IsReadAs o t
by_value_whole None t e = absurd (cc)
by_value_whole (Some d) t e =
    let h = by_number_whole (first_invalid d) d t e in
    record { value = d; read = refl; valid = h.0; same = h.1 }

read_as_at : (u : Bool) (o : Option Data) (t : Tree) → cond u (by_value o) not_json ≡ whole t → IsReadAs o t
read_as_at true o t e = by_value_whole o t e
read_as_at false o t e = absurd (cc)

read_as : (text : List ℕ) (t : Tree) → reading_of text ≡ whole t → IsReadAs (json_text.read text) t
read_as text t e = read_as_at (is_utf8 text) (json_text.read text) t e

data_is : (text : List ℕ) (t : Tree) (r : IsReadAs (json_text.read text) t) → data_of t ≡ r.value
data_is text t r = ap data_of (sym r.same) ∙ same_data r.value (subst (Each Signed) r.read (signed_read text)) r.valid

pub read_depth : (text : List ℕ) (t : Tree) → reading_of text ≡ whole t → depth (data_of t) ≤ max_depth
read_depth text t e =
    let r = read_as text t e in
    subst (λ d. depth d ≤ max_depth) (sym (data_is text t r)) (depth-read text r.value r.read)

pub read_valid : (text : List ℕ) (t : Tree) → reading_of text ≡ whole t → first_invalid (data_of t) ≡ None
read_valid text t e =
    let r = read_as text t e in
    ap first_invalid (data_is text t r) ∙ r.valid
