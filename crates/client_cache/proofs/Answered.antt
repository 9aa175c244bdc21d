-- Places in an answer by what it is.
use Rattle.std.proofs.Common.{◌≡◌, ℕ, Bool, List, ap, ◌∙◌}
use Rattle.jm_json.specs.Tree.{Tree}
use Rattle.client_cache.specs.Caches.{Cached}
use Rattle.client_cache.specs.ReplyForms.{answered_places}
use Rattle.client_cache.specs.Rounds.{Round}

pub same_answered : (c : Cached) (r : Round) (t : Tree) (e x f y : Bool) (p q : List ℕ) → e ≡ x → f ≡ y → p ≡ q → answered_places c r e f p t ≡ answered_places c r x y q t
same_answered c r t e x f y p q is_error is_called place =
    ap (λ b. answered_places c r b f p t) is_error ∙ ap (λ b. answered_places c r x b p t) is_called ∙ ap (λ z. answered_places c r x y z t) place
