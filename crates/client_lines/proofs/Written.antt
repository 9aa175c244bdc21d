-- Pieces of a text that are written one after the other.
use Rattle.std.proofs.Common.{◌≡◌, ◌⊎◌, ◌<◌, ◌≤◌, ◌+◌, ℕ, List, [], ◌∷◌, ◌++◌, length, take, Option, Result, Ok, Err, OnErr, inl, inr, refl, sym, ap, ◌∙◌, subst, arith, append_assoc, append-nil}
use Rattle.std.proofs.lemmas.Bool.{cases_lt}
use Rattle.std.proofs.lemmas.List.{take-append-le, take_all}
use Rattle.std.proofs.Math.Seq.{take-append-add, take-append_seam}
use Rattle.std.specs.Io.KnownBytes.{Appends}
use Rattle.jm_edge.proofs.Known.{appends_on, appends_none}
use Rattle.client_lines.specs.Pieces.{HasBegun, HasPut}

-- a prefix of the first of two pieces is one of both
begun_first : (xs ys : List ℕ) (a b : Option (List ℕ)) → HasBegun xs a b → HasBegun (xs ++ ys) a b
begun_first xs ys a b h = as_prefix h.0 h.1 (cases_lt h.0 (length xs))
  where
    as_prefix : (n : ℕ) → Appends a b (take n xs) → (n < length xs) ⊎ (length xs ≤ n) → (m : ℕ) × Appends a b (take m (xs ++ ys))
    as_prefix n g (inl l) = (n, subst (λ (z : List ℕ). Appends a b z) (sym (take-append-le n xs ys (omega arith))) g)
    as_prefix n g (inr l) = (length xs, subst (λ (z : List ℕ). Appends a b z) (take_all n xs l ∙ sym (take-append_seam xs ys)) g)

-- the first of two pieces and a prefix of the second
begun_later : (xs ys : List ℕ) (a b c : Option (List ℕ)) → Appends a b xs → HasBegun ys b c → HasBegun (xs ++ ys) a c
begun_later xs ys a b c g h =
    (length xs + h.0, subst (λ (z : List ℕ). Appends a c z) (sym (take-append-add xs ys h.0)) (appends_on a b c xs (take h.0 ys) g h.1))

-- nothing was written, and all waits
pub put_none : (text : List ℕ) (a : Option (List ℕ)) → HasPut text text a a
put_none text a = ([], appends_none a, refl)

-- nothing was written, and a text that is all of it waits
pub put_as : (text waits : List ℕ) (a : Option (List ℕ)) → text ≡ waits → HasPut text waits a a
put_as text waits a same = ([], appends_none a, same)

-- a line more was added to what waits, and some of that written
pub puts_on : (all w line rest w' : List ℕ) (a b c : Option (List ℕ)) → HasPut all (w ++ (line ++ rest)) a b → HasPut (w ++ line) w' b c → HasPut all (w' ++ rest) a c
puts_on all w line rest w' a b c h k = (
  h.0 ++ k.0,
  appends_on a b c h.0 k.0 h.1 k.1,
  h.2 ∙ ap (λ (z : List ℕ). h.0 ++ z) (sym (append_assoc w line rest) ∙ ap (λ (z : List ℕ). z ++ rest) k.2 ∙ append_assoc k.0 w' rest)
      ∙ sym (append_assoc h.0 k.0 (w' ++ rest)),
)

-- a line more was added to what waits, and a prefix of that written
pub begins_on : (all w line rest : List ℕ) (a b c : Option (List ℕ)) → HasPut all (w ++ (line ++ rest)) a b → HasBegun (w ++ line) b c → HasBegun all a c
begins_on all w line rest a b c h k =
    subst (λ (z : List ℕ). HasBegun z a c) (sym (h.2 ∙ ap (λ (z : List ℕ). h.0 ++ z) (sym (append_assoc w line rest))))
    (begun_later h.0 ((w ++ line) ++ rest) a b c h.1 (begun_first (w ++ line) rest b c k))

-- nothing follows what waits, and a prefix of that was written
pub begins_last : (all w : List ℕ) (a b c : Option (List ℕ)) → HasPut all (w ++ []) a b → HasBegun w b c → HasBegun all a c
begins_last all w a b c h k =
    subst (λ (z : List ℕ). HasBegun z a c) (sym (h.2 ∙ ap (λ (z : List ℕ). h.0 ++ z) (append-nil w))) (begun_later h.0 w a b c h.1 k)

pub none_left : {X : Type 0} (xs : List X) → length xs ≡ 0 → xs ≡ []
none_left [] h = refl
none_left (x ∷ xs) h = absurd (omega (arith, h))

-- more is known of an error
pub on_err : {T E : Type 0} (r : Result T E) (A B : Type 0) → (A → B) → OnErr r A → OnErr r B
on_err (Ok x) A B f h = tt
on_err (Err e) A B f h = f h

-- nothing follows what waits, and if that failed, a prefix of it was written
pub fails_last : {T E : Type 0} (r : Result T E) (all w shown rest : List ℕ) (a b c : Option (List ℕ)) → HasPut all (w ++ rest) a b → rest ≡ [] → shown ≡ w
    → OnErr r (HasBegun shown b c) → OnErr r (HasBegun all a c)
fails_last r all w shown rest a b c h none same k =
    on_err r (HasBegun shown b c) (HasBegun all a c)
    (λ g. begins_last all w a b c (subst (λ (z : List ℕ). HasPut all (w ++ z) a b) none h) (subst (λ (z : List ℕ). HasBegun z b c) same g)) k
