-- One or two strings are a test of a header field, and no other list is.
use Rattle.std.proofs.Common.{◌≡◌, ℕ, Bool, false, ◌&&◌, List, [], ◌∷◌, Option, Some, None, is_some, option_map, option_and_then, refl}
use Rattle.jm_json.specs.Tree.{Tree}
use Rattle.jm_json.specs.Find.{as_text, texts_from}
use Rattle.filter_terms.specs.Values.{field_test}

abbrev tested : Option (List (List ℕ)) → Bool
tested o = is_some (option_and_then field_test o)

abbrev put_first : Option (List (List ℕ)) → Option (List ℕ) → Option (List (List ℕ))
put_first rest o = option_and_then (λ s. option_map (λ ss. s ∷ ss) rest) o

one_by : (o : Option (List ℕ)) → is_some o ≡ tested (put_first (Some []) o)
one_by None = refl
one_by (Some s) = refl

two_by : (o p : Option (List ℕ)) → (is_some o && is_some p) ≡ tested (put_first (put_first (Some []) p) o)
two_by None p = refl
two_by (Some s) None = refl
two_by (Some s) (Some t) = refl

three_by : (o p q : Option (List ℕ)) (r : Option (List (List ℕ))) → false ≡ tested (put_first (put_first (put_first r q) p) o)
three_by None p q r = refl
three_by (Some s) None q r = refl
three_by (Some s) (Some t) None r = refl
three_by (Some s) (Some t) (Some u) None = refl
three_by (Some s) (Some t) (Some u) (Some rest) = refl

pub one_test : (t : Tree) → is_some (as_text t) ≡ is_some (option_and_then field_test (texts_from (t ∷ [])))
one_test t = one_by (as_text t)

pub two_test : (t u : Tree) → (is_some (as_text t) && is_some (as_text u)) ≡ is_some (option_and_then field_test (texts_from (t ∷ u ∷ [])))
two_test t u = two_by (as_text t) (as_text u)

pub three_test : (t u v : Tree) (ts : List Tree) → false ≡ is_some (option_and_then field_test (texts_from (t ∷ u ∷ v ∷ ts)))
three_test t u v ts = three_by (as_text t) (as_text u) (as_text v) (texts_from ts)

pub ruleset field_tests = (one_test, two_test, three_test)
