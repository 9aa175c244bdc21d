-- The keys of links by index.
use Rattle.std.proofs.Common.{◌≡◌, ℕ, ◌+◌, ◌<◌, List, [], ◌∷◌, length, get_or, None, pos, zero, suc, refl, ap, arith}
use Rattle.mail_records.specs.Orders.{Key, link_keys_from}

pub link_count : (n p : ℕ) (links : List (List ℕ)) → length (link_keys_from n p links) ≡ length links
link_count n p [] = refl
link_count n p (l ∷ ls) = ap suc (link_count n (p + 1) ls)

pub link_at : (n p i q : ℕ) (links : List (List ℕ)) (d : Key) → i < length links → p + i ≡ q
    → record { group = None; text = get_or links i []; received = pos 0; number = n; place = q } ≡ get_or (link_keys_from n p links) i d
link_at n p i q [] d lt e = absurd (omega arith)
link_at n p zero q (l ∷ ls) d lt e = let same : q ≡ p = omega arith in ap (λ (x : ℕ). record { group = None; text = l; received = pos 0; number = n; place = x }) same
link_at n p (suc i) q (l ∷ ls) d lt e = link_at n (p + 1) i q ls d (omega arith) (omega arith)
