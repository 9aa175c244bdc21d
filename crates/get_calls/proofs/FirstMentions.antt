-- The first mentions of strings, and what they name, as the list grows.
use Rattle.std.proofs.Common.{◌≡◌, ℕ, ◌+◌, ◌<◌, Bor, length, get_or, map, take, is_none, Option, List, [], ◌∷◌, ◌++◌, Bool, true, false, not, ◌||◌, cond, refl, sym, ap, ◌∙◌}
use Rattle.std.specs.List.{filter}
use Rattle.std.specs.Str.{bytes_eq}
use Rattle.std.proofs.lemmas.List.{append-nil, take_more, map-append}
use Rattle.std.proofs.lemmas.List.Elements.{filter-append, filter_map-append}
use Rattle.std.proofs.lemmas.Bool.Decides.{same_from_decides, Decides-like}
use Rattle.std.proofs.lemmas.Slice.Eq.{bytes_eq-Decides}
use Rattle.get_args.specs.Selection.{is_among}
use Rattle.jm_json.specs.Tree.{Tree, text}
use Rattle.mail_view.specs.Records.{first_mentions, records_named, naming_none}

abbrev Texts : Type 0
Texts = List (List ℕ)

-- the texts but this one
abbrev but : List ℕ → Texts → Texts
but t ts = filter (λ s. not (bytes_eq s t)) ts

more_at : (among same : Bool) (t s : List ℕ) (firsts : Texts) → bytes_eq s t ≡ same
    → t ∷ but t (cond among firsts (firsts ++ s ∷ [])) ≡ cond (same || among) (t ∷ but t firsts) ((t ∷ but t firsts) ++ s ∷ [])
more_at true true t s firsts e = refl
more_at true false t s firsts e = refl
more_at false true t s firsts e =
    ap (λ ys. t ∷ ys) (filter-append (λ s. not (bytes_eq s t)) firsts (s ∷ []) ∙ rw e (append-nil (but t firsts)))
more_at false false t s firsts e =
    ap (λ ys. t ∷ ys) (filter-append (λ s. not (bytes_eq s t)) firsts (s ∷ []) ∙ rw e refl)

-- one more text is a first mention if and only if it is not among those before
pub mentions_more : (ts : Texts) (s : List ℕ) → first_mentions (ts ++ s ∷ []) ≡ cond (is_among ts s) (first_mentions ts) (first_mentions ts ++ s ∷ [])
mentions_more [] s = refl
mentions_more (t ∷ ts) s = ap (λ ys. t ∷ but t ys) (mentions_more ts s) ∙ more_at (is_among ts s) _ t s (first_mentions ts) refl

pub mentions_stay : (ts : Texts) (s : List ℕ) → is_among ts s ≡ true → first_mentions (ts ++ s ∷ []) ≡ first_mentions ts
mentions_stay ts s e = mentions_more ts s ∙ ap (λ b. cond b (first_mentions ts) (first_mentions ts ++ s ∷ [])) e

pub mentions_grow : (ts : Texts) (s : List ℕ) → is_among ts s ≡ false → first_mentions (ts ++ s ∷ []) ≡ first_mentions ts ++ s ∷ []
mentions_grow ts s e = mentions_more ts s ∙ ap (λ b. cond b (first_mentions ts) (first_mentions ts ++ s ∷ [])) e

same_turned : (s q : List ℕ) → bytes_eq s q ≡ bytes_eq q s
same_turned s q = same_from_decides _ _ (bytes_eq-Decides s q) (Decides-like _ sym sym (bytes_eq-Decides q s))

among_at : (b : Bool) (ts : Texts) (s q : List ℕ) → bytes_eq q s ≡ b → cond b true (is_among ts q) ≡ is_among (ts ++ s ∷ []) q
among_at true [] s q e = rw e refl
among_at false [] s q e = rw e refl
among_at true (t ∷ ts) s q e = elim (bytes_eq q t) as (λ b. true ≡ (b || is_among (ts ++ s ∷ []) q)) [ true ↦ refl | false ↦ among_at true ts s q e ]
among_at false (t ∷ ts) s q e = ap (λ b. bytes_eq q t || b) (among_at false ts s q e)

-- a set that has each of the texts, and one more
pub seen_more : (old new : List ℕ → Bool) (ts : Texts) (s : List ℕ) → ((q : List ℕ) → new q ≡ cond (bytes_eq s q) true (old q)) → ((q : List ℕ) → old q ≡ is_among ts q)
    → (q : List ℕ) → new q ≡ is_among (ts ++ s ∷ []) q
seen_more old new ts s updates before q =
    updates q ∙ ap (λ b. cond b true (old q)) (same_turned s q) ∙ ap (cond (bytes_eq q s) true) (before q) ∙ among_at _ ts s q refl

-- the texts that a loop has come to, with the next one
pub texts_more : (ids : List (Bor (List ℕ))) (i : ℕ) (d : Bor (List ℕ)) → i < length ids → map (λ t. t.now) (take (i + 1) ids) ≡ map (λ t. t.now) (take i ids) ++ (get_or ids i d).now ∷ []
texts_more ids i d h = ap (map (λ t. t.now)) (take_more ids i d h) ∙ map-append (λ t. t.now) (take i ids) (get_or ids i d ∷ [])

pub stood : (added there : Bool) → added ≡ not there → added ≡ false → there ≡ true
stood added true e f = refl
stood added false e f = absurd (cc)

pub stood_not : (added there : Bool) → added ≡ not there → added ≡ true → there ≡ false
stood_not added false e f = refl
stood_not added true e f = absurd (cc)

-- what one more id names comes last, and so does one that names none
named_more : {A : Type 0} (named : List ℕ → Option A) (view : A → Tree) (ts : Texts) (s : List ℕ) → map view (records_named named (ts ++ s ∷ [])) ≡ map view (records_named named ts) ++ map view (records_named named (s ∷ []))
named_more named view ts s = ap (map view) (filter_map-append named ts (s ∷ [])) ∙ map-append view (records_named named ts) (records_named named (s ∷ []))

none_more : {A : Type 0} (named : List ℕ → Option A) (ts : Texts) (s : List ℕ) → map text (naming_none named (ts ++ s ∷ [])) ≡ map text (naming_none named ts) ++ map text (naming_none named (s ∷ []))
none_more named ts s =
    ap (map text) (filter-append (λ id. is_none (named id)) ts (s ∷ [])) ∙ map-append text (naming_none named ts) (naming_none named (s ∷ []))

pub objects_more : {A : Type 0} (named : List ℕ → Option A) (view : A → Tree) (ts all : Texts) (s : List ℕ) (old new : List Tree) → all ≡ ts ++ s ∷ []
    → old ≡ map view (records_named named ts) → new ≡ old ++ map view (records_named named (s ∷ [])) → new ≡ map view (records_named named all)
objects_more named view ts all s old new more before step =
    step ∙ ap (λ xs. xs ++ map view (records_named named (s ∷ []))) before ∙ sym (named_more named view ts s) ∙ ap (λ xs. map view (records_named named xs)) (sym more)

pub unknown_more : {A : Type 0} (named : List ℕ → Option A) (ts all : Texts) (s : List ℕ) (old new : List Tree) → all ≡ ts ++ s ∷ []
    → old ≡ map text (naming_none named ts) → new ≡ old ++ map text (naming_none named (s ∷ [])) → new ≡ map text (naming_none named all)
unknown_more named ts all s old new more before step =
    step ∙ ap (λ xs. xs ++ map text (naming_none named (s ∷ []))) before ∙ sym (none_more named ts s) ∙ ap (λ xs. map text (naming_none named xs)) (sym more)
