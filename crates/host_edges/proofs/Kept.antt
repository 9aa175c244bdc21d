-- What is known of a reader or a writer stays through calls that a signal ended.
use Rattle.std.proofs.Common.{ℕ, List, Option, Some, None, Result, Ok, Err, take, refl, subst}
use Rattle.std.specs.Io.KnownBytes.{Keeps, Consumes, Appends, ReadConsumes, WriteAppends}

-- what holds where nothing is known, and after, holds before
back : (a b : Option (List ℕ)) → Keeps a b → (P : Option (List ℕ) → Type 0) → P None → P b → P a
back None b k P none h = none
back (Some xs) None k P none h = absurd k
back (Some xs) (Some ys) k P none h = subst (λ zs. P (Some zs)) k h

pub keeps_itself : (a : Option (List ℕ)) → Keeps a a
keeps_itself None = tt
keeps_itself (Some xs) = refl

pub keeps_on : (a b c : Option (List ℕ)) → Keeps a b → Keeps b c → Keeps a c
keeps_on a b c k h = back a b k (λ o. Keeps o c) tt h

pub reads_on : {E : Type 0} (a b c : Option (List ℕ)) (r : Result ℕ E) (buf : List ℕ) → Keeps a b → ReadConsumes b c r buf → ReadConsumes a c r buf
reads_on a b c (Ok n) buf k h = (back a b k (λ o. Consumes o c (take n buf)) tt h.0, h.1)
reads_on a b c (Err e) buf k h = keeps_on a b c k h

pub writes_on : {E : Type 0} (a b c : Option (List ℕ)) (r : Result ℕ E) (buf : List ℕ) → Keeps a b → WriteAppends b c r buf → WriteAppends a c r buf
writes_on a b c (Ok n) buf k h = back a b k (λ o. Appends o c (take n buf)) tt h
writes_on a b c (Err e) buf k h = keeps_on a b c k h
