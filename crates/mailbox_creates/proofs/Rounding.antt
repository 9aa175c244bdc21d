-- Creates in rounds, one round at a time.
use Rattle.std.proofs.Common.{◌≡◌, ℕ, zero, suc, ◌+◌, ◌<◌, ◌≤◌, Bool, true, false, List, [], ◌∷◌, ◌++◌, map, length, get_or, take, drop, Option, Some, None, is_some, option_map, refl, sym, ap, ◌∙◌, arith, append_assoc, add-one, length-append, length-take, length-drop}
use Rattle.std.specs.List.{remove}
use Rattle.std.proofs.lemmas.List.{drop_more, drop_all, take_more, map-append}
use Rattle.mailbox_creates.specs.Views.{IsFirst}
use Rattle.set_parts.specs.Views.{IsIdFor, create_of}
use Rattle.set_parts.specs.Creates.{Creating}
use Rattle.mailbox_creates.specs.Creates.{after_create}
use Rattle.set_parts.specs.Arguments.{Create}
use Rattle.mailbox_creates.specs.Rounds.{after_each, after_round, in_rounds, stands, taken_out}
use Rattle.set_parts.specs.declared.arguments.SentCreate.{SentCreate}

-- something is known at a creation id if and only if something was made under it
pub id_some : (o : Option (List ℕ)) (k : Option (Option ℕ)) → IsIdFor o k → is_some k ≡ is_some o
id_some None None h = refl
id_some None (Some n) h = absurd h
id_some (Some s) None h = absurd h
id_some (Some s) (Some n) h = refl

abbrev pub behind : List Create → Create × List Create → Create × List Create
behind front r = (r.0, front ++ r.1)

-- what was taken out of a list, with more before it that don't pass
abbrev pub Searched : (Create → Bool) → List SentCreate → ℕ → Type 0
Searched p ds i = taken_out p (map create_of ds) ≡ option_map (behind (map create_of (take i ds))) (taken_out p (map create_of (drop i ds)))

behind_nothing : (o : Option (Create × List Create)) → option_map (behind []) o ≡ o
behind_nothing None = refl
behind_nothing (Some r) = refl

pub searched_none : (p : Create → Bool) (ds : List SentCreate) → Searched p ds 0
searched_none p ds = sym (behind_nothing (taken_out p (map create_of ds)))

behind_one : (front : List Create) (x : Create) (o : Option (Create × List Create)) → option_map (behind front) (option_map (λ r. (r.0, x ∷ r.1)) o) ≡ option_map (behind (front ++ x ∷ [])) o
behind_one front x None = refl
behind_one front x (Some r) = ap (λ xs. Some (r.0, xs)) (sym (append_assoc front (x ∷ []) r.1))

front_more : (ds : List SentCreate) (i : ℕ) (d : SentCreate) → i < length ds → map create_of (take (i + 1) ds) ≡ map create_of (take i ds) ++ create_of (get_or ds i d) ∷ []
front_more ds i d lt = ap (map create_of) (take_more ds i d lt) ∙ map-append create_of (take i ds) (get_or ds i d ∷ [])

pub searched_more : (p : Create → Bool) (ds : List SentCreate) (i : ℕ) (d : SentCreate) → i < length ds → p (create_of (get_or ds i d)) ≡ false → Searched p ds i → Searched p ds (i + 1)
searched_more p ds i d lt fails so =
    let x = create_of (get_or ds i d) in
    let rest = map create_of (drop (i + 1) ds) in
    let first : taken_out p (x ∷ rest) ≡ option_map (λ r. (r.0, x ∷ r.1)) (taken_out p rest) = rw fails refl in
    so
    ∙ (ap (λ xs. option_map (behind (map create_of (take i ds))) (taken_out p (map create_of xs))) (drop_more ds i d lt)
    ∙ (ap (option_map (behind (map create_of (take i ds)))) first
    ∙ (behind_one (map create_of (take i ds)) x (taken_out p rest)
    ∙ ap (λ front. option_map (behind front) (taken_out p rest)) (sym (front_more ds i d lt)))))

pub searched_here : (p : Create → Bool) (ds : List SentCreate) (i : ℕ) (e : SentCreate) → i < length ds → e ≡ get_or ds i e → p (create_of e) ≡ true → Searched p ds i → IsFirst p ds (Some i)
searched_here p ds i e lt is passes so = (
  lt,
  λ d.
      let x = create_of (get_or ds i d) in
      let same : get_or ds i d ≡ e = get_any ds i d e lt ∙ sym is in
      let here : p x ≡ true = ap (λ k. p (create_of k)) same ∙ passes in
      let rest = map create_of (drop (i + 1) ds) in
      let first : taken_out p (x ∷ rest) ≡ Some (x, rest) = rw here refl in
      so
      ∙ (ap (λ xs. option_map (behind (map create_of (take i ds))) (taken_out p (map create_of xs))) (drop_more ds i d lt)
      ∙ (ap (option_map (behind (map create_of (take i ds)))) first
      ∙ (ap (λ n. Some (x, map create_of (take i ds) ++ map create_of (drop n ds))) (add-one i)
      ∙ ap (λ xs. Some (x, xs)) (sym (map-append create_of (take i ds) (drop (suc i) ds)))))),
)
  where
    get_any : (xs : List SentCreate) (k : ℕ) (a b : SentCreate) → k < length xs → get_or xs k a ≡ get_or xs k b
    get_any [] k a b l = absurd (omega arith)
    get_any (y ∷ xs) zero a b l = refl
    get_any (y ∷ xs) (suc k) a b l = get_any xs k a b (omega arith)

pub searched_all : (p : Create → Bool) (ds : List SentCreate) (i : ℕ) → length ds ≡ i → Searched p ds i → IsFirst p ds None
searched_all p ds i e so = so ∙ ap (λ xs. option_map (behind (map create_of (take i ds))) (taken_out p (map create_of xs))) (drop_all i ds (omega arith))

-- rounds end where no create's reference is resolved
pub rounds_end : (n : ℕ) (s : Creating) (xs : List Create) → taken_out (stands s.made) xs ≡ None → in_rounds n s xs ≡ after_each s xs
rounds_end zero s xs none = refl
rounds_end (suc n) s xs none = ap (after_round (in_rounds n) s xs) none

-- a round
pub rounds_step : (n k : ℕ) (s : Creating) (xs ys : List Create) (x : Create) → n ≡ suc k → taken_out (stands s.made) xs ≡ Some (x, ys) → in_rounds n s xs ≡ in_rounds k (after_create s x) ys
rounds_step n k s xs ys x e some = ap (λ m. in_rounds m s xs) e ∙ ap (after_round (in_rounds k) s xs) some

-- one create after the other, one further
pub each_step : (s : Creating) (ds : List SentCreate) (i : ℕ) (e : SentCreate) → i < length ds → e ≡ get_or ds i e → after_each s (map create_of (drop i ds)) ≡ after_each (after_create s (create_of e)) (map create_of (drop (i + 1) ds))
each_step s ds i e lt is =
    ap (λ xs. after_each s (map create_of xs)) (drop_more ds i e lt) ∙ ap (λ d. after_each (after_create s (create_of d)) (map create_of (drop (i + 1) ds))) (sym is)

pub each_end : (s : Creating) (ds : List SentCreate) (i : ℕ) → length ds ≤ i → after_each s (map create_of (drop i ds)) ≡ s
each_end s ds i le = ap (λ xs. after_each s (map create_of xs)) (drop_all i ds le)

-- one draft less
pub length_removed : (ds : List SentCreate) (i : ℕ) → i < length ds → length ds ≡ suc (length (remove ds i))
length_removed ds i lt = omega (arith, length-append (take i ds) (drop (suc i) ds), length-take i ds, length-drop (suc i) ds)

-- a round, by the draft that was taken out
pub round_by_draft : (ds rest : List SentCreate) (i : ℕ) (d : SentCreate) (t : Creating) → IsFirst (stands t.made) ds (Some i) → d ≡ get_or ds i d → rest ≡ remove ds i
    → in_rounds (length ds) t (map create_of ds) ≡ in_rounds (length rest) (after_create t (create_of d)) (map create_of rest)
round_by_draft ds rest i d t first is removed =
    rounds_step (length ds) (length (remove ds i)) t (map create_of ds) (map create_of (remove ds i)) (create_of (get_or ds i d)) (length_removed ds i first.0) (first.1 d)
    ∙ (ap (λ e. in_rounds (length (remove ds i)) (after_create t (create_of e)) (map create_of (remove ds i))) (sym is)
    ∙ ap (λ r. in_rounds (length r) (after_create t (create_of d)) (map create_of r)) (sym removed))
