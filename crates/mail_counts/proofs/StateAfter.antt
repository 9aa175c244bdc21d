-- The position of the last edit of a kind, as edits are added at the end.
use Rattle.std.proofs.Common.{◌≡◌, ℕ, ◌+◌, ◌<◌, Bool, true, false, cond, List, [], ◌∷◌, ◌++◌, Option, Some, None, map, take, length, get_or, refl, sym, ap, ◌∙◌, arith, length-take-le, length-append, append_assoc}
use Rattle.std.proofs.lemmas.List.{take_more, length-map, map-append, take_all}
use Rattle.jm_base.specs.declared.identifiers.Id.{Id}
use Rattle.jm_base.specs.declared.identifiers.Kind.{Kind}
use Rattle.mail_records.specs.Edits.{id_of}
use Rattle.mail_records.specs.Histories.{History, Committed, edits_of, floor_of, grown}
use Rattle.mail_records.specs.States.{is_kind_of, last_place, last_position, place_with, placed_above, state_of}
use Rattle.mail_records.specs.declared.edits.Commit.{Commit}
use Rattle.mail_records.specs.declared.edits.Edit.{Edit}
use Rattle.mail_records.proofs.Prefixes.{edits_of-grown}
use Rattle.mail_counts.specs.Plans.{Ground, ground_of_history, present_end, present_state, state_after}

with_found : (first here : Bool) (n : ℕ) (rest : Option ℕ) → place_with first (cond here (Some (n + 1)) rest) ≡ cond here (Some (n + 1 + 1)) (place_with first rest)
with_found first true n rest = refl
with_found first false n rest = refl

alone : (here : Bool) → place_with here None ≡ cond here (Some 1) None
alone true = refl
alone false = refl

last_place-push : {A : Type 0} (test : A → Bool) (xs : List A) (x : A) → last_place test (xs ++ x ∷ []) ≡ cond (test x) (Some (length xs + 1)) (last_place test xs)
last_place-push test [] x = alone (test x)
last_place-push test (y ∷ ys) x =
    ap (place_with (test y)) (last_place-push test ys x) ∙ (with_found (test y) (test x) (length ys) (last_place test ys)
    ∙ ap (λ n. cond (test x) (Some n) (place_with (test y) (last_place test ys))) (let e : length ys + 1 + 1 ≡ length (y ∷ ys) + 1 = omega arith in e))

placed_cond : (floor otherwise : ℕ) (here : Bool) (n : ℕ) (rest : Option ℕ) → placed_above floor otherwise (cond here (Some n) rest) ≡ cond here (floor + n) (placed_above floor otherwise rest)
placed_cond floor otherwise true n rest = refl
placed_cond floor otherwise false n rest = refl

-- the state with one record more
last_position-push : (kind : Kind) (g : Ground) (ids : List Id) (i : Id)
    → last_position kind g.floor g.floors (ids ++ i ∷ []) ≡ cond (is_kind_of kind i) (g.floor + (length ids + 1)) (last_position kind g.floor g.floors ids)
last_position-push kind g ids i =
    ap (placed_above g.floor (floor_of g.floors kind)) (last_place-push (is_kind_of kind) ids i)
    ∙ placed_cond g.floor (floor_of g.floors kind) (is_kind_of kind i) (length ids + 1) (last_place (is_kind_of kind) ids)

-- before the first edit the state is the present one
pub state_after-none : (kind : Kind) (g : Ground) (edits : List Edit) → state_after kind g (take 0 edits) ≡ present_state kind g
state_after-none kind g edits = ap (last_position kind g.floor g.floors) (append_nil g.ids)
  where
    append_nil : (xs : List Id) → xs ++ [] ≡ xs
    append_nil [] = refl
    append_nil (x ∷ xs) = ap (λ ys. x ∷ ys) (append_nil xs)

-- one edit more
pub state_after-more : (kind : Kind) (g : Ground) (edits : List Edit) (n last : ℕ) (e : Edit) → present_end g ≡ last → n < length edits → e ≡ get_or edits n e
    → state_after kind g (take (n + 1) edits) ≡ cond (is_kind_of kind (id_of e)) (last + n + 1) (state_after kind g (take n edits))
state_after-more kind g edits n last e end lt is =
    let front : List Edit = take n edits in
    let more : take (n + 1) edits ≡ front ++ e ∷ [] = take_more edits n e lt ∙ ap (λ x. front ++ x ∷ []) (sym is) in
    let ids : g.ids ++ map id_of (take (n + 1) edits) ≡ (g.ids ++ map id_of front) ++ id_of e ∷ [] =
    ap (λ xs. g.ids ++ map id_of xs) more ∙ (ap (λ ys. g.ids ++ ys) (map-append id_of front (e ∷ [])) ∙ sym (append_assoc g.ids (map id_of front) (id_of e ∷ []))) in
    let many : length (map id_of front) ≡ n = length-map front id_of ∙ length-take-le n edits (omega arith) in
    let position : g.floor + (length (g.ids ++ map id_of front) + 1) ≡ last + n + 1 = omega (arith, many, end, length-append g.ids (map id_of front)) in
    ap (last_position kind g.floor g.floors) ids
    ∙ (last_position-push kind g (g.ids ++ map id_of front) (id_of e)
    ∙ ap (λ k. cond (is_kind_of kind (id_of e)) k (state_after kind g front)) position)

-- all edits
pub state_after-all : (kind : Kind) (g : Ground) (edits : List Edit) (n : ℕ) → length edits ≡ n → state_after kind g (take n edits) ≡ state_after kind g edits
state_after-all kind g edits n is = ap (state_after kind g) (take_all n edits (omega arith))

-- the state is that of the history that has grown by the edits' commit
pub state_of-grown : (kind : Kind) (h : History) (c : Commit) → state_after kind (ground_of_history h) c.edits ≡ state_of (grown h (Committed c)) kind
state_of-grown kind h c =
    ap (last_position kind h.floor h.floors) (sym (map-append id_of (edits_of h) c.edits) ∙ ap (map id_of) (sym (edits_of-grown h (Committed c))))
