-- What is written of a value is read back as it.
use Rattle.std.proofs.Common.{◌≡◌, ◌≤◌, ℕ, ℤ, pos, negsuc, suc, max, List, [], ◌∷◌, ◌++◌, Some, None, option_map, option_and_then, IsUtf8, SFits, w64, Result, Ok, Err, OnOk, OnErr, refl, sym, ap, ap₂, ◌∙◌, subst, arith, append_assoc, append-nil}
use Rattle.std.specs.Fmt.{signed_decimal}
use Rattle.json.specs.Json as json
use Rattle.json.specs.Print.{print}
use Rattle.json.specs.Token.{Token}
use Rattle.json.specs.Tree as tree
use Rattle.json.specs.Tree.{json_tokens}
use Rattle.json.specs.Lex.{tokens}
use Rattle.json.proofs.Printed.Trees.{value-json_tokens}
use Rattle.serde_json.specs.Data.{Data, number, array, object, Items, no_items, item, Members, no_members, member, put, null, boolean, string, depth, items_depth, members_depth}
use Rattle.serde_json.specs.Find.{of_integer}
use Rattle.serde_json.specs.Read.{max_depth, number_of, of_items, of_members}
use Rattle.serde_json.specs.Written.{number_text, outline, items_outline, members_outline, compact_text}
use Rattle.serde_json.proofs.Numbers.{number_of-decimal, number_of-negative}
use Rattle.serde_json.proofs.Texts.{print-outline}
use Rattle.jm_base.specs.declared.memory.NoMemory.{NoMemory}
use Rattle.jm_json.specs.Integers.{first_invalid}
use Rattle.jm_json.specs.JsonValues.{data_of}
use Rattle.jm_json.specs.Reading.{reading_of, whole}
use Rattle.jm_json.specs.RoundTrips.{IsReadBack, AreReadBack, MembersReadBack}
use Rattle.jm_json.specs.Tree.{Tree}
use Rattle.jm_json.proofs.Readings.{read_from, taken_whole}

-- ---- tokens that are added one after another

-- the first part of what is left was added
pub moved : {A : Type 0} (out new part rest all : List A) → new ≡ out ++ part → out ++ (part ++ rest) ≡ all → new ++ rest ≡ all
moved out new part rest all added e = ap (λ t. t ++ rest) added ∙ append_assoc out part rest ∙ e

-- five parts were added, of which the third is many tokens
pub five_added : {A : Type 0} (old t u v w new part : List A) (a b c d : A) → t ≡ old ++ a ∷ [] → u ≡ t ++ b ∷ [] → v ≡ u ++ part → w ≡ v ++ c ∷ [] → new ≡ w ++ d ∷ []
    → new ≡ old ++ (a ∷ b ∷ (part ++ (c ∷ d ∷ [])))
five_added old t u v w new part a b c d e f g h i =
    i ∙ ap (λ x. x ++ d ∷ []) h ∙ append_assoc v (c ∷ []) (d ∷ []) ∙ ap (λ x. x ++ (c ∷ d ∷ [])) g ∙ append_assoc u part (c ∷ d ∷ []) ∙ ap (λ x. x ++ (part ++ (c ∷ d ∷ []))) f
    ∙ append_assoc t (b ∷ []) (part ++ (c ∷ d ∷ [])) ∙ ap (λ x. x ++ (b ∷ (part ++ (c ∷ d ∷ [])))) e ∙ append_assoc old (a ∷ []) (b ∷ (part ++ (c ∷ d ∷ [])))

-- an opening, a key with its value, another key with its value, and a closing
pub members_added : {A : Type 0} (old t u v w x new first second : List A) (a b c d : A) → t ≡ old ++ a ∷ [] → u ≡ t ++ b ∷ [] → v ≡ u ++ first → w ≡ v ++ c ∷ [] → x ≡ w ++ second → new ≡ x ++ d ∷ []
    → new ≡ old ++ (a ∷ b ∷ (first ++ c ∷ (second ++ d ∷ [])))
members_added old t u v w x new first second a b c d e f g h i j =
    let last = second ++ d ∷ [] in
    let more = first ++ c ∷ last in
    j ∙ ap (λ y. y ++ d ∷ []) i ∙ append_assoc w second (d ∷ []) ∙ ap (λ y. y ++ last) h ∙ append_assoc v (c ∷ []) last ∙ ap (λ y. y ++ c ∷ last) g ∙ append_assoc u first (c ∷ last)
    ∙ ap (λ y. y ++ more) f ∙ append_assoc t (b ∷ []) more ∙ ap (λ y. y ++ b ∷ more) e ∙ append_assoc old (a ∷ []) (b ∷ more)

-- ---- values

pub text_of_integer : (z : ℤ) → number_text (of_integer z) ≡ signed_decimal z
text_of_integer (pos n) = refl
text_of_integer (negsuc n) = refl

number_of-signed_decimal : (z : ℤ) → SFits w64 z → number_of (signed_decimal z) ≡ Some (of_integer z)
number_of-signed_decimal (pos n) fits = number_of-decimal n (grind arith)
number_of-signed_decimal (negsuc n) fits = number_of-negative n (grind arith)

pub integer_back : (z : ℤ) → SFits w64 z → IsReadBack (number (of_integer z))
integer_back z fits = ap (option_map number) (ap number_of (text_of_integer z) ∙ number_of-signed_decimal z fits)

pub item_back : (d : Data) (ds : Items) → IsReadBack d → AreReadBack ds → AreReadBack (item d ds)
item_back d ds one more = ap (option_and_then (λ x. option_map (item x) (of_items (items_outline ds)))) one ∙ ap (option_map (item d)) more

pub array_back : (ds : Items) → AreReadBack ds → IsReadBack (array ds)
array_back ds all = ap (option_map array) all

pub member_back : (k : List ℕ) (d : Data) (found ms all : Members) → IsReadBack d → MembersReadBack (put k d found) ms all → MembersReadBack found (member k d ms) all
member_back k d found ms all one more = ap (option_and_then (λ x. of_members (members_outline ms) (put k x found))) one ∙ more

pub object_back : (ms : Members) → MembersReadBack no_members ms ms → IsReadBack (object ms)
object_back ms all = ap (option_map object) all

-- ---- they are read back

mutual
  depth_outline : (d : Data) → tree.depth (outline d) ≡ depth d
  depth_outline null = refl
  depth_outline (boolean b) = refl
  depth_outline (number n) = refl
  depth_outline (string s) = refl
  depth_outline (array ds) = ap suc (depth_items ds)
  depth_outline (object ms) = ap suc (depth_members ms)

  depth_items : (ds : Items) → tree.items_depth (items_outline ds) ≡ items_depth ds
  depth_items no_items = refl
  depth_items (item d ds) = ap₂ max (depth_outline d) (depth_items ds)

  depth_members : (ms : Members) → tree.members_depth (members_outline ms) ≡ members_depth ms
  depth_members no_members = refl
  depth_members (member k d ms) = ap₂ max (depth_outline d) (depth_members ms)

-- the text of tokens that were written
pub text_written : (before out : List ℕ) (ts : List Token) (d : Data) → out ≡ before ++ print ts → ts ≡ json_tokens (outline d) → out ≡ before ++ compact_text d
text_written before out ts d e f = e ∙ ap (λ t. before ++ t) (ap print f ∙ print-outline d)

-- what is given back of a writer that wrote this, and where it did not
pub given_if_ok : (r w : Result (Unit {0}) NoMemory) (out before old : List ℕ) (ts start : List Token) (d : Data) → r ≡ w → OnOk r (out ≡ before ++ print ts)
    → OnOk w (ts ≡ start ++ json_tokens (outline d)) → before ≡ old → start ≡ [] → OnOk r (out ≡ old ++ compact_text d)
given_if_ok (Ok u) w out before old ts start d e text is same none =
    let added : ts ≡ start ++ json_tokens (outline d) = subst (λ x. OnOk x (ts ≡ start ++ json_tokens (outline d))) (sym e) is in
    text_written old out ts d (text ∙ ap (λ b. b ++ print ts) same) (added ∙ ap (λ s. s ++ json_tokens (outline d)) none)
given_if_ok (Err e) w out before old ts start d f text is same none = tt

pub given_if_err : (r : Result (Unit {0}) NoMemory) (out before old : List ℕ) → OnErr r (out ≡ before) → before ≡ old → OnErr r (out ≡ old)
given_if_err (Ok u) out before old h same = tt
given_if_err (Err e) out before old h same = h ∙ same

-- what a writer that began with nothing has written is read back as the tree
pub written_back : (t : Tree) (out : List ℕ) (ts : List Token) → out ≡ compact_text (data_of t) → ts ≡ json_tokens (outline (data_of t)) → tokens (print ts) ≡ ts → IsUtf8 (print ts)
    → IsReadBack (data_of t) → depth (data_of t) ≤ max_depth → first_invalid (data_of t) ≡ None → reading_of out ≡ whole t
written_back t out ts text is again utf8 back shallow good =
    let d = data_of t in
    let all = json_tokens (outline d) in
    let printed : print ts ≡ out = ap print is ∙ print-outline d ∙ sym text in
    let same : tokens out ≡ all = ap tokens (sym printed) ∙ again ∙ is in
    let within : tree.depth (outline d) ≤ max_depth = omega (arith, depth_outline d, shallow) in
    let read = read_from out (outline d) d (ap (json.value max_depth) (same ∙ sym (append-nil all)) ∙ value-json_tokens (outline d) max_depth [] within) back in
    taken_whole out d t (subst IsUtf8 printed utf8) read good refl
