-- Members that rise still rise where some are left out.
use Rattle.std.proofs.Common.{◌≡◌, ℕ, ◌+◌, ◌<◌, get_or, length, drop, append_assoc, Bool, true, false, List, [], ◌∷◌, ◌++◌, map, filter, refl, sym, ap, ◌∙◌, subst, ⊎_elim}
use Rattle.std.specs.List.{AllByRecursion}
use Rattle.std.specs.List.Sorted.{IsStrictlySortedBy}
use Rattle.std.specs.Map.{keys_of}
use Rattle.std.specs.Ordering.{nat_cmp}
use Rattle.std.specs.declared.cmp.Ordering.TheVariants.{Less}
use Rattle.std.specs.Cmp.Lexicographic.{slice_cmp}
use Rattle.std.proofs.lemmas.Bool.{cases_Bool}
use Rattle.std.proofs.lemmas.List.{drop_more}
use Rattle.jm_json.specs.Tree.{Tree, null}
use Rattle.jm_json.specs.Json.{member_of}
use Rattle.jm_json.specs.declared.tree.Member.{Member}
use Rattle.jm_json.specs.Order.{KeysRise}
use Rattle.mailbox_creates.specs.Creates.{property}

abbrev Pairs : Type 0
Pairs = List (List ℕ × Tree)

abbrev Above : List ℕ → List ℕ → Type 0
Above k j = slice_cmp nat_cmp k j ≡ Less

keys_kept : (P : List ℕ → Type 0) (p : List ℕ × Tree → Bool) (ms : Pairs) → AllByRecursion P (keys_of ms) → AllByRecursion P (keys_of (filter p ms))
keys_kept P p [] all = tt
keys_kept P p (m ∷ ms) all =
    ⊎_elim
    (λ (k : p m ≡ true). rw k (all.0, keys_kept P p ms all.1))
    (λ (k : p m ≡ false). rw k (keys_kept P p ms all.1))
    (cases_Bool (p m))

pub rise_kept : (p : List ℕ × Tree → Bool) (ms : Pairs) → KeysRise ms → KeysRise (filter p ms)
unfolding IsStrictlySortedBy
rise_kept p [] rise = tt
rise_kept p (m ∷ ms) rise =
    ⊎_elim
    (λ (k : p m ≡ true). rw k (keys_kept (Above m.0) p ms rise.0, rise_kept p ms rise.1))
    (λ (k : p m ≡ false). rw k (rise_kept p ms rise.1))
    (cases_Bool (p m))

keys_front : (P : List ℕ → Type 0) (xs ys : Pairs) → AllByRecursion P (keys_of (xs ++ ys)) → AllByRecursion P (keys_of xs)
keys_front P [] ys all = tt
keys_front P (x ∷ xs) ys all = (all.0, keys_front P xs ys all.1)

pub rise_before : (xs ys : Pairs) → KeysRise (xs ++ ys) → KeysRise xs
unfolding IsStrictlySortedBy
rise_before [] ys rise = tt
rise_before (x ∷ xs) ys rise = (keys_front (Above x.0) xs ys rise.0, rise_before xs ys rise.1)

keys_of_properties : (ms : Pairs) → keys_of (map property ms) ≡ keys_of ms
keys_of_properties [] = refl
keys_of_properties (m ∷ ms) = ap (λ ks. m.0 ∷ ks) (keys_of_properties ms)

pub rise_properties : (ms : Pairs) → KeysRise ms → KeysRise (map property ms)
rise_properties ms rise = subst (IsStrictlySortedBy (slice_cmp nat_cmp)) (sym (keys_of_properties ms)) rise

-- a member that passes may be put after those that passed before it
pub rise_pushed : (p : List ℕ × Tree → Bool) (sent : List Member) (i : ℕ) (m : Member) (bad : Pairs) (name : List ℕ) → i < length sent → m ≡ get_or sent i m → p (member_of m) ≡ true → name ≡ m.name
    → bad ++ map property (filter p (map member_of (drop i sent))) ≡ map property (filter p (map member_of sent)) → KeysRise (map member_of sent) → KeysRise (bad ++ (name, null) ∷ [])
rise_pushed p sent i m bad name lt is passes same all rise =
    let rest : Pairs = map property (filter p (map member_of (drop (i + 1) sent))) in
    let here : drop i sent ≡ m ∷ drop (i + 1) sent = drop_more sent i m lt ∙ ap (λ x. x ∷ drop (i + 1) sent) (sym is) in
    let first : map property (filter p (map member_of (m ∷ drop (i + 1) sent))) ≡ (m.name, null) ∷ rest = rw passes refl in
    let split : map property (filter p (map member_of (drop i sent))) ≡ (m.name, null) ∷ rest = ap (λ xs. map property (filter p (map member_of xs))) here ∙ first in
    let whole : (bad ++ (m.name, null) ∷ []) ++ rest ≡ map property (filter p (map member_of sent)) =
    append_assoc bad ((m.name, null) ∷ []) rest ∙ (ap (λ xs. bad ++ xs) (sym split) ∙ all) in
    rw same (rise_before (bad ++ (m.name, null) ∷ []) rest (subst KeysRise (sym whole) (rise_properties (filter p (map member_of sent)) (rise_kept p (map member_of sent) rise))))

-- a member that passes may be put after those before it, where members are moved
pub rise_moved : (p : List ℕ × Tree → Bool) (all told rest : Pairs) (m : List ℕ × Tree) → p m ≡ true → told ++ filter p (m ∷ rest) ≡ filter p all → KeysRise all → KeysRise (told ++ m ∷ [])
rise_moved p all told rest m passes is rise =
    let first : filter p (m ∷ rest) ≡ m ∷ filter p rest = rw passes refl in
    let whole : (told ++ m ∷ []) ++ filter p rest ≡ filter p all = append_assoc told (m ∷ []) (filter p rest) ∙ (ap (λ xs. told ++ xs) (sym first) ∙ is) in
    rise_before (told ++ m ∷ []) (filter p rest) (subst KeysRise (sym whole) (rise_kept p all rise))

-- a member that passes is moved after those before it, and another is left out
pub moved_more : (p : List ℕ × Tree → Bool) (told rest all : Pairs) (m : List ℕ × Tree) → p m ≡ true → told ++ filter p (m ∷ rest) ≡ all → (told ++ m ∷ []) ++ filter p rest ≡ all
moved_more p told rest all m passes is =
    let first : filter p (m ∷ rest) ≡ m ∷ filter p rest = rw passes refl in
    append_assoc told (m ∷ []) (filter p rest) ∙ (ap (λ xs. told ++ xs) (sym first) ∙ is)

pub left_more : (p : List ℕ × Tree → Bool) (told rest all : Pairs) (m : List ℕ × Tree) → p m ≡ false → told ++ filter p (m ∷ rest) ≡ all → told ++ filter p rest ≡ all
left_more p told rest all m fails is =
    let first : filter p (m ∷ rest) ≡ filter p rest = rw fails refl in
    ap (λ xs. told ++ xs) (sym first) ∙ is
