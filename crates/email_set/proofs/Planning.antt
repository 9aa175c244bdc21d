-- The creates of a set of emails, each of which is forbidden.
use Rattle.std.proofs.Common.{◌≡◌, ℕ, ◌+◌, ◌≤◌, List, [], ◌∷◌, drop, length, map, refl, sym, ap, ◌∙◌}
use Rattle.std.proofs.lemmas.List.{at_drop_all}
use Rattle.set_parts.specs.Arguments.{Create}
use Rattle.set_parts.specs.Creates.{Creating, after_create, after_creates}
use Rattle.set_parts.specs.Views.{create_of}
use Rattle.set_parts.specs.declared.arguments.SentCreate.{SentCreate}
use Rattle.email_set.specs.Plans.{create_email}

-- they change nothing but what is reported of creates that are rejected
pub forbidden_all : (xs : List Create) (s : Creating) → after_creates create_email s xs ≡ record s { not_created = (after_creates create_email s xs).not_created }
forbidden_all [] s = refl
forbidden_all (x ∷ xs) s = forbidden_all xs (after_create x.creation s (create_email s x))

-- what is left of them, after some of them
abbrev pub creates_from : Creating → List SentCreate → Creating
creates_from s xs = after_creates create_email s (map create_of xs)

pub create_more : (s t : Creating) (xs : List SentCreate) (i : ℕ) (x : SentCreate) → drop i xs ≡ x ∷ drop (i + 1) xs → creates_from t (drop i xs) ≡ creates_from s xs
    → creates_from (after_create x.creation.now t (create_email t (create_of x))) (drop (i + 1) xs) ≡ creates_from s xs
create_more s t xs i x is known = ap (creates_from t) (sym is) ∙ known

pub creates_end : (s t : Creating) (xs : List SentCreate) (i : ℕ) → length xs ≤ i → creates_from t (drop i xs) ≡ creates_from s xs → t ≡ creates_from s xs
creates_end s t xs i end known = sym (at_drop_all (creates_from t) xs i end) ∙ known
