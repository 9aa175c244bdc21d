-- What a reference makes has at most the bytes that the reference takes.
use Rattle.std.proofs.Common.{◌≡◌, ◌≤◌, ◌+◌, ℕ, Bool, true, false, cond, ◌==◌, List, [], ◌∷◌, ◌++◌, Option, Some, None, option_map, option_and_then, refl, sym, ap, ◌∙◌, arith}
use Rattle.std.specs.Prelude.{bytes_eq, codes}
use Rattle.jm_json.specs.Tree.{Tree, null, boolean, number, text, list, object, Trees, no_trees, tree, trees_of}
use Rattle.jm_json.specs.Find.{list_of, as_object}
use Rattle.jm_json.specs.Call.{Call}
use Rattle.jm_json.specs.Pointer.{cut, child}
use Rattle.result_refs.specs.References.{own_items, gathered, step, walked, picked, response_of, taken, text_at, asked, referred}
use Rattle.result_refs.specs.Room.{value_bytes, items_bytes}
use Rattle.result_refs.specs.Costs.{bytes_if, sum_bytes, gathered_bytes, scan_bytes, step_bytes, parts_bytes, path_bytes, taken_bytes, asked_bytes, referred_bytes}
use Rattle.result_refs.specs.declared.room.TheConstants.{VALUE_BYTES}

items_bytes_append : (xs ys : List Tree) → items_bytes (trees_of (xs ++ ys)) ≡ items_bytes (trees_of xs) + items_bytes (trees_of ys)
items_bytes_append [] ys = omega arith
items_bytes_append (x ∷ xs) ys = omega (arith, items_bytes_append xs ys)

listed : (ts : Trees) → items_bytes (trees_of (list_of ts)) ≡ items_bytes ts
listed no_trees = refl
listed (tree t ts) = ap (λ n. value_bytes t + n) (listed ts)

own_bytes : (t : Tree) → items_bytes (trees_of (own_items t)) ≤ value_bytes t
own_bytes null = omega arith
own_bytes (boolean b) = omega arith
own_bytes (number z) = omega arith
own_bytes (text s) = omega arith
own_bytes (list ts) = omega (arith, listed ts)
own_bytes (object fs) = omega arith

-- ---- choices

chained : {A : Type 0} (o : Option A) (f : A → Option Tree) (n : A → ℕ) → ((x : A) (r : Tree) → f x ≡ Some r → value_bytes r ≤ n x) → (r : Tree) → option_and_then f o ≡ Some r → value_bytes r ≤ bytes_if n o
chained None f n h r e = absurd (cc)
chained (Some x) f n h r e = h x r e

chosen : (b : Bool) (o : Option Tree) (n : ℕ) (r : Tree) → (o ≡ Some r → value_bytes r ≤ n) → cond b o None ≡ Some r → value_bytes r ≤ cond b n 0
chosen true o n r h e = h e
chosen false o n r h e = absurd (cc)

-- ---- the items of a list

one_more : (o : Option Tree) (g : Option (List Tree)) (n m : ℕ) (rs : List Tree) → ((r : Tree) → o ≡ Some r → value_bytes r ≤ n) → ((qs : List Tree) → g ≡ Some qs → items_bytes (trees_of qs) ≤ m) → option_and_then (λ r. option_map (λ qs. own_items r ++ qs) g) o ≡ Some rs → items_bytes (trees_of rs) ≤ n + m
one_more None g n m rs h k e = absurd (cc)
one_more (Some r) None n m rs h k e = absurd (cc)
one_more (Some r) (Some qs) n m rs h k e =
    let same : own_items r ++ qs ≡ rs = cc in
    let sum = sym (ap (λ ts. items_bytes (trees_of ts)) same) ∙ items_bytes_append (own_items r) qs in
    omega (arith, sum, own_bytes r, h r refl, k qs refl)

gathered_made : (f : Tree → Option Tree) (n : Tree → ℕ) → ((t r : Tree) → f t ≡ Some r → value_bytes r ≤ n t) → (ts rs : List Tree) → gathered f ts ≡ Some rs → items_bytes (trees_of rs) ≤ sum_bytes n ts
gathered_made f n h [] rs e =
    let same : [] ≡ rs = cc in
    omega (arith, sym (ap (λ (ts : List Tree). items_bytes (trees_of ts)) same))
gathered_made f n h (t ∷ ts) rs e = one_more (f t) (gathered f ts) (n t) (sum_bytes n ts) rs (h t) (gathered_made f n h ts) e

list_made : (g : Option (List Tree)) (n k : ℕ) (r : Tree) → ((rs : List Tree) → g ≡ Some rs → items_bytes (trees_of rs) ≤ n) → VALUE_BYTES + n ≤ k → option_map (λ rs. list (trees_of rs)) g ≡ Some r → value_bytes r ≤ k
list_made None n k r h le e = absurd (cc)
list_made (Some rs) n k r h le e =
    let same : list (trees_of rs) ≡ r = cc in
    omega (arith, sym (ap value_bytes same), h rs refl, le)

list_step : (b : Bool) (f : Tree → Option Tree) (n : Tree → ℕ) → ((t r : Tree) → f t ≡ Some r → value_bytes r ≤ n t) → (ts : List Tree) (o : Option Tree) (scan : ℕ) (r : Tree) → cond b (option_map (λ rs. list (trees_of rs)) (gathered f ts)) (option_and_then f o) ≡ Some r → value_bytes r ≤ cond b (gathered_bytes n ts) (scan + bytes_if n o)
list_step true f n h ts o scan r e = list_made (gathered f ts) (sum_bytes n ts) (gathered_bytes n ts) r (gathered_made f n h ts) (omega arith) e
list_step false f n h ts o scan r e = omega (arith, chained o f n h r e)

-- ---- a path

step_made : (p : List ℕ) (f : Tree → Option Tree) (n : Tree → ℕ) → ((t r : Tree) → f t ≡ Some r → value_bytes r ≤ n t) → (t r : Tree) → step p f t ≡ Some r → value_bytes r ≤ step_bytes p n t
step_made p f n h null r e = absurd (cc)
step_made p f n h (boolean b) r e = absurd (cc)
step_made p f n h (number z) r e = absurd (cc)
step_made p f n h (text s) r e = absurd (cc)
step_made p f n h (list ts) r e = list_step (bytes_eq p (42 ∷ [])) f n h (list_of ts) (child p (list ts)) (scan_bytes p (list ts)) r e
step_made p f n h (object fs) r e = omega (arith, chained (child p (object fs)) f n h r e)

whole_made : (t r : Tree) → Some t ≡ Some r → value_bytes r ≤ value_bytes t
whole_made t r e =
    let same : t ≡ r = cc in
    omega (arith, ap value_bytes same)

parts_made : (ps : List (List ℕ)) (t r : Tree) → walked ps t ≡ Some r → value_bytes r ≤ parts_bytes ps t
parts_made [] t r e = whole_made t r e
parts_made (p ∷ ps) t r e = step_made p (walked ps) (parts_bytes ps) (parts_made ps) t r e

path_made : (path : List ℕ) (t r : Tree) → picked path t ≡ Some r → value_bytes r ≤ path_bytes path t
path_made [] t r e = whole_made t r e
path_made (x ∷ path) t r e = chosen (x == 47) (walked (cut path) t) (parts_bytes (cut path) t) r (parts_made (cut path) t r) e

-- ---- a reference

taken_made : (id name path : List ℕ) (cs : List Call) (r : Tree) → taken id name path cs ≡ Some r → value_bytes r ≤ taken_bytes id name path cs
taken_made id name path cs r e =
    chained (response_of id cs) (λ c. cond (bytes_eq c.name name) (picked path c.args) None) (λ c. cond (bytes_eq c.name name) (path_bytes path c.args) 0)
    (λ c q. chosen (bytes_eq c.name name) (picked path c.args) (path_bytes path c.args) q (path_made path c.args q)) r e

asked_made : (ms : List (List ℕ × Tree)) (cs : List Call) (r : Tree) → asked ms cs ≡ Some r → value_bytes r ≤ asked_bytes ms cs
asked_made ms cs r e =
    chained (text_at (codes "resultOf") ms) (λ id. option_and_then (λ name. option_and_then (λ path. taken id name path cs) (text_at (codes "path") ms)) (text_at (codes "name") ms)) (λ id. bytes_if (λ name. bytes_if (λ path. taken_bytes id name path cs) (text_at (codes "path") ms)) (text_at (codes "name") ms))
    (λ id.
    chained (text_at (codes "name") ms) (λ name. option_and_then (λ path. taken id name path cs) (text_at (codes "path") ms)) (λ name. bytes_if (λ path. taken_bytes id name path cs) (text_at (codes "path") ms))
    (λ name. chained (text_at (codes "path") ms) (λ path. taken id name path cs) (λ path. taken_bytes id name path cs) (λ path. taken_made id name path cs))) r e

pub referred_made : (t : Tree) (cs : List Call) (r : Tree) → referred t cs ≡ Some r → value_bytes r ≤ referred_bytes t cs
referred_made t cs r e = chained (as_object t) (λ ms. asked ms cs) (λ ms. asked_bytes ms cs) (λ ms. asked_made ms cs) r e
