-- Arguments without a reference are resolved to themselves.
use Rattle.std.proofs.Common.{◌≡◌, arith, ℕ, List, [], ◌∷◌, ◌++◌, ◌&&◌, ◌||◌, Bool, true, false, Some, Less, Greater, option_map, option_and_then, is_some, cond, drop, refl, sym, ap, ◌∙◌, subst, append_assoc, append-nil}
use Rattle.std.specs.List.{list_any}
use Rattle.std.specs.Ordering.{nat_cmp, ordering_reverse}
use Rattle.std.specs.Cmp.Lexicographic.{slice_cmp, nat_list_cmp_total}
use Rattle.jm_json.specs.Tree.{Tree, null, boolean, number, text, list, object, Fields, no_fields, field, fields_of}
use Rattle.jm_json.specs.Find.{find, as_object, pairs_of}
use Rattle.jm_json.specs.Call.{Call}
use Rattle.jm_json.specs.Order.{KeysRise, put}
use Rattle.jm_json.specs.KeyIndices.{AllBelow}
use Rattle.jm_json.proofs.Puts.{below_of}
use Rattle.result_refs.specs.Costs.{argument_bytes, referred_bytes, arguments_bytes, reference_bytes}
use Rattle.result_refs.specs.References.{is_marked, referred, arguments, clashes, by_arguments, resolved, resolution}

abbrev Pairs : Type 0
Pairs = List (List ℕ × Tree)

not_below_itself : (k : List ℕ) → slice_cmp nat_cmp k k ≡ Less → ⊥
not_below_itself k h =
    let e : Less ≡ Greater = sym h ∙ (nat_list_cmp_total.antisymm k k ∙ ap ordering_reverse h) in
    cc

put_past : (k : List ℕ) (t : Tree) (xs : Pairs) → AllBelow k xs → put k t xs ≡ xs ++ (k, t) ∷ []
put_past k t [] all = refl
put_past k t (x ∷ xs) all = rw (all.0) (ap (λ zs. x ∷ zs) (put_past k t xs all.1))

put_next : (before : Pairs) (m : List ℕ × Tree) (ms : Pairs) → KeysRise (before ++ m ∷ ms) → put m.0 m.1 before ≡ before ++ m ∷ []
put_next before m ms rise = put_past m.0 m.1 before (below_of m.0 before m ms rise (not_below_itself m.0))

or_false : (a b : Bool) → (a || b) ≡ false → (a ≡ false) × (b ≡ false)
or_false true b h = absurd (cc)
or_false false b h = (refl, h)

plain_on : (before ms : Pairs) (cs : List Call) → KeysRise (before ++ ms) → list_any (λ m. is_marked m.0) ms ≡ false → arguments before ms cs ≡ Some (before ++ ms)
plain_on before [] cs rise h = ap Some (sym (append-nil before))
plain_on before (m ∷ ms) cs rise h =
    let none = or_false (is_marked m.0) (list_any (λ x. is_marked x.0) ms) h in
    ap (λ b. option_and_then (λ a. arguments (put a.0 a.1 before) ms cs) (cond b (option_map (λ t. (drop 1 m.0, t)) (referred m.1 cs)) (Some m))) none.0
    ∙ ap (λ xs. arguments xs ms cs) (put_next before m ms rise)
    ∙ plain_on (before ++ m ∷ []) ms cs (subst KeysRise (sym (append_assoc before (m ∷ []) ms)) rise) none.1
    ∙ ap Some (append_assoc before (m ∷ []) ms)

none_twice : (ms all : Pairs) → list_any (λ m. is_marked m.0) ms ≡ false → clashes ms all ≡ false
none_twice [] all h = refl
none_twice (m ∷ ms) all h =
    let none = or_false (is_marked m.0) (list_any (λ x. is_marked x.0) ms) h in
    ap (λ b. (b && is_some (find (drop 1 m.0) all)) || clashes ms all) none.0 ∙ none_twice ms all none.1

plain_members : (ms : Pairs) (cs : List Call) → KeysRise ms → list_any (λ m. is_marked m.0) ms ≡ false → by_arguments (arguments [] ms cs) (clashes ms ms) ≡ resolved (object (fields_of ms))
plain_members ms cs rise h = rw (plain_on [] ms cs rise h, none_twice ms ms h) refl

-- the arguments that these members are
pub plain_arguments : (args : Tree) (ms slice : Pairs) (cs : List Call) → Some ms ≡ as_object args → slice ≡ ms → KeysRise slice → list_any (λ m. is_marked m.0) slice ≡ false
    → resolution args cs ≡ resolved args
plain_arguments null ms slice cs e is rise h = refl
plain_arguments (boolean b) ms slice cs e is rise h = refl
plain_arguments (number z) ms slice cs e is rise h = refl
plain_arguments (text s) ms slice cs e is rise h = refl
plain_arguments (list ts) ms slice cs e is rise h = refl
plain_arguments (object fs) ms slice cs e is rise h =
    let same : slice ≡ pairs_of fs = cc in
    plain_members (pairs_of fs) cs (subst KeysRise same rise) (subst (λ xs. list_any (λ m. is_marked m.0) xs ≡ false) same h) ∙ ap (λ gs. resolved (object gs)) (fields_of-pairs_of fs)
  where
    fields_of-pairs_of : (gs : Fields) → fields_of (pairs_of gs) ≡ gs
    fields_of-pairs_of no_fields = refl
    fields_of-pairs_of (field k t gs) = ap (λ hs. field k t hs) (fields_of-pairs_of gs)

nothing_taken : (ms : Pairs) (cs : List Call) → list_any (λ m. is_marked m.0) ms ≡ false → arguments_bytes ms cs ≡ 0
nothing_taken [] cs h = refl
nothing_taken (m ∷ ms) cs h =
    let none = or_false (is_marked m.0) (list_any (λ x. is_marked x.0) ms) h in
    let first : argument_bytes m cs ≡ 0 = ap (λ b. cond b (referred_bytes m.1 cs) 0) none.0 in
    let rest = nothing_taken ms cs none.1 in
    omega (arith, first, rest)

-- arguments without a reference take nothing
pub nothing_of : (args : Tree) (ms slice : Pairs) (cs : List Call) → Some ms ≡ as_object args → slice ≡ ms → list_any (λ m. is_marked m.0) slice ≡ false → reference_bytes args cs ≡ 0
nothing_of null ms slice cs e is h = refl
nothing_of (boolean b) ms slice cs e is h = refl
nothing_of (number z) ms slice cs e is h = refl
nothing_of (text s) ms slice cs e is h = refl
nothing_of (list ts) ms slice cs e is h = refl
nothing_of (object fs) ms slice cs e is h =
    let same : slice ≡ pairs_of fs = cc in
    nothing_taken (pairs_of fs) cs (subst (λ xs. list_any (λ m. is_marked m.0) xs ≡ false) same h)
