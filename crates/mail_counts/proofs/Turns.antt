-- One turn of a loop that adds what is listed of one item after another.
use Rattle.std.proofs.Common.{◌≡◌, ℕ, List, ◌∷◌, ◌++◌, Option, refl, sym, ap, ◌∙◌}
use Rattle.std.specs.List.{flat_map}
use Rattle.std.proofs.lemmas.List.{append_assoc}
use Rattle.mail_records.specs.Tables.{lookup}
use Rattle.mail_counts.specs.Overlay.{all_listed, listed_at}

-- what is added first, and then the rest
pub turned : {B : Type 0} (xs ys zs first rest all : List B) → ys ≡ xs ++ first → zs ≡ first ++ rest → xs ++ zs ≡ all → ys ++ rest ≡ all
turned xs ys zs first rest all added split inv =
    ap (λ l. l ++ rest) added ∙ (append_assoc xs first rest ∙ (ap (λ l. xs ++ l) (sym split) ∙ inv))

-- a loop over numbers, whose records are looked up
pub number_turned : {R B : Type 0} (number : R → ℕ) (f : R → List B) (rows : List R) (n : ℕ) (ns rest : List ℕ) (o : Option R) (xs ys all : List B)
    → ns ≡ n ∷ rest → o ≡ lookup number n rows → ys ≡ xs ++ listed_at f o → xs ++ all_listed number f rows ns ≡ all
    → ys ++ all_listed number f rows rest ≡ all
number_turned number f rows n ns rest o xs ys all split is added inv =
    turned xs ys (all_listed number f rows ns) (listed_at f o) (all_listed number f rows rest) all added
    (ap (all_listed number f rows) split ∙ ap (λ p. listed_at f p ++ all_listed number f rows rest) (sym is)) inv

-- a loop over items, for each of which `f` lists some
pub item_turned : {A B : Type 0} (f : A → List B) (a : A) (items rest : List A) (one : List B) (xs ys all : List B)
    → items ≡ a ∷ rest → one ≡ f a → ys ≡ xs ++ one → xs ++ flat_map f items ≡ all → ys ++ flat_map f rest ≡ all
item_turned f a items rest one xs ys all split is added inv =
    turned xs ys (flat_map f items) one (flat_map f rest) all added (ap (flat_map f) split ∙ ap (λ l. l ++ flat_map f rest) (sym is)) inv
