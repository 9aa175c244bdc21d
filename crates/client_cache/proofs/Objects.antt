-- Members of an object of which others were taken away.
use Rattle.std.proofs.Common.{◌≡◌, ℕ, List, [], ◌∷◌, Bool, true, false, cond, Option, Some, option_and_then, unwrap_or, refl, ap, ◌∙◌}
use Rattle.std.specs.Str.{bytes_eq}
use Rattle.std.proofs.lemmas.Slice.Eq.{bytes_eq-Decides}
use Rattle.jm_json.specs.Find.{as_object, find}
use Rattle.jm_json.specs.Patch.{take_away}
use Rattle.jm_json.specs.Tree.{Tree}
use Rattle.client_cache.specs.Caches.{Cached, KindView, ListView}
use Rattle.client_cache.specs.CacheReading.{members_at}

found_at : (b : Bool) (j k : List ℕ) (m : List ℕ × Tree) (ms : List (List ℕ × Tree)) → bytes_eq m.0 j ≡ b → bytes_eq j k ≡ false → find k (take_away j ms) ≡ find k ms
    → find k (take_away j (m ∷ ms)) ≡ find k (m ∷ ms)
found_at true j k m ms e other more =
    let differs : bytes_eq m.0 k ≡ false = ap (λ a. bytes_eq a k) ((bytes_eq-Decides m.0 j).0 e) ∙ other in
    rw (e, differs) refl
found_at false j k m ms e other more = rw e (ap (cond (bytes_eq m.0 k) (Some m.1)) more)

-- a member of another name stays
pub find_others : (j k : List ℕ) (ms : List (List ℕ × Tree)) → bytes_eq j k ≡ false → find k (take_away j ms) ≡ find k ms
find_others j k [] other = refl
find_others j k (m ∷ ms) other = found_at _ j k m ms refl other (find_others j k ms other)

pub members_after : (j k : List ℕ) (ms rest : List (List ℕ × Tree)) → bytes_eq j k ≡ false → rest ≡ take_away j ms → members_at k rest ≡ members_at k ms
members_after j k ms rest other is = ap (λ o. unwrap_or (option_and_then as_object o) []) (ap (find k) is ∙ find_others j k ms other)

-- what is kept, by its parts
abbrev pub cached_with : Option (List ℕ) → KindView → KindView → KindView → List ListView → Cached
cached_with account mailboxes emails threads lists = record { account = account; mailboxes = mailboxes; emails = emails; threads = threads; lists = lists }

pub same_cached : (a b : Option (List ℕ)) (m n e f t u : KindView) (ls ks : List ListView) → a ≡ b → m ≡ n → e ≡ f → t ≡ u → ls ≡ ks
    → cached_with a m e t ls ≡ cached_with b n f u ks
same_cached a b m n e f t u ls ks p q r s v =
    ap (λ x. cached_with x m e t ls) p ∙ ap (λ x. cached_with b x e t ls) q ∙ ap (λ x. cached_with b n x t ls) r ∙ ap (λ x. cached_with b n f x ls) s ∙ ap (λ x. cached_with b n f u x) v
