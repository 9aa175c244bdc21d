-- The entries under a name, and beginnings of a list.
use Rattle.std.proofs.Common.{◌≡◌, ◌≢◌, ℕ, Bool, true, false, List, [], ◌∷◌, ◌++◌, eqb, eq-eqb, ne_eqb, sym, refl, ap, ◌∙◌, subst, if◌then◌else◌}
use Rattle.std.proofs.lemmas.List.{append-nil, append_assoc}
use Rattle.mail_records.specs.Histories.{Entry, entry_pass}
use Rattle.account_lock.specs.Entries.{under, AreUnder, StartsWith, longer_of}

chosen : (b : Bool) (e : Entry) (xs ys : List Entry) → (if b then e ∷ (xs ++ ys) else (xs ++ ys)) ≡ (if b then e ∷ xs else xs) ++ ys
chosen true e xs ys = refl
chosen false e xs ys = refl

pub under-append : (n : ℕ) (xs ys : List Entry) → under n (xs ++ ys) ≡ under n xs ++ under n ys
under-append n [] ys = refl
under-append n (e ∷ es) ys = ap (λ (zs : List Entry). if eqb (entry_pass e) n then e ∷ zs else zs) (under-append n es ys) ∙ chosen (eqb (entry_pass e) n) e (under n es) (under n ys)

pub under_same : (n : ℕ) (xs : List Entry) → AreUnder n xs → under n xs ≡ xs
under_same n [] all = refl
under_same n (e ∷ es) all = ap (λ (b : Bool). if b then e ∷ under n es else under n es) (eq-eqb (entry_pass e) n all.0) ∙ ap (λ (zs : List Entry). e ∷ zs) (under_same n es all.1)

pub under_other : (n m : ℕ) (xs : List Entry) → AreUnder m xs → n ≢ m → under n xs ≡ []
under_other n m [] all apart = refl
under_other n m (e ∷ es) all apart = ap (λ (b : Bool). if b then e ∷ under n es else under n es) (ne_eqb (entry_pass e) n (λ h. apart (sym h ∙ all.0))) ∙ under_other n m es all.1 apart

-- the entries under another name stay
pub under_stays : (n m : ℕ) (xs ys : List Entry) → AreUnder m ys → n ≢ m → under n (xs ++ ys) ≡ under n xs
under_stays n m xs ys all apart = under-append n xs ys ∙ (ap (λ (zs : List Entry). under n xs ++ zs) (under_other n m ys all apart) ∙ append-nil (under n xs))

pub starts_here : (log seen : List Entry) → log ≡ seen → StartsWith log seen
starts_here log seen e = ([], e ∙ sym (append-nil seen))

pub starts_longer : (log seen more : List Entry) → StartsWith log seen → StartsWith (log ++ more) seen
starts_longer log seen more s = (s.0 ++ more, ap (λ (xs : List Entry). xs ++ more) s.1 ∙ append_assoc seen s.0 more)

pub longer_starts : (log xs ys : List Entry) → StartsWith log xs → StartsWith log ys → StartsWith log (longer_of xs ys)
longer_starts log [] ys s t = t
longer_starts log (x ∷ xs) [] s t = s
longer_starts [] (x ∷ xs) (y ∷ ys) s t = absurd (cc (s.1))
longer_starts (e ∷ log) (x ∷ xs) (y ∷ ys) s t =
    let a : e ≡ x = cc (s.1) in let b : log ≡ xs ++ s.0 = cc (s.1) in let c : log ≡ ys ++ t.0 = cc (t.1) in
    let h = longer_starts log xs ys (s.0, b) (t.0, c) in (h.0, λ i. a i ∷ h.1 i)

-- the whole list is longer than a beginning
pub longer_whole : (log ys : List Entry) → StartsWith log ys → longer_of log ys ≡ log
longer_whole [] [] s = refl
longer_whole [] (y ∷ ys) s = absurd (cc (s.1))
longer_whole (e ∷ log) [] s = refl
longer_whole (e ∷ log) (y ∷ ys) s = let c : log ≡ ys ++ s.0 = cc (s.1) in ap (λ (zs : List Entry). e ∷ zs) (longer_whole log ys (s.0, c))

pub longer_more : (xs ys : List Entry) → StartsWith (longer_of xs ys) xs
longer_more [] ys = (ys, refl)
longer_more (x ∷ xs) [] = ([], ap (λ (zs : List Entry). x ∷ zs) (sym (append-nil xs)))
longer_more (x ∷ xs) (y ∷ ys) = let h = longer_more xs ys in (h.0, ap (λ (zs : List Entry). x ∷ zs) h.1)

pub starts_trans : (xs ys zs : List Entry) → StartsWith xs ys → StartsWith ys zs → StartsWith xs zs
starts_trans xs ys zs s t = (t.0 ++ s.0, s.1 ∙ (ap (λ (l : List Entry). l ++ s.0) t.1 ∙ append_assoc zs t.0 s.0))

pub longer_other : (log xs ys : List Entry) → StartsWith log xs → StartsWith log ys → StartsWith (longer_of xs ys) ys
longer_other log [] ys s t = ([], sym (append-nil ys))
longer_other log (x ∷ xs) [] s t = (x ∷ xs, refl)
longer_other [] (x ∷ xs) (y ∷ ys) s t = absurd (cc (s.1))
longer_other (e ∷ log) (x ∷ xs) (y ∷ ys) s t =
    let a : e ≡ x = cc (s.1) in let a' : e ≡ y = cc (t.1) in let b : log ≡ xs ++ s.0 = cc (s.1) in let c : log ≡ ys ++ t.0 = cc (t.1) in
    let h = longer_other log xs ys (s.0, b) (t.0, c) in let q : x ≡ y = sym a ∙ a' in (h.0, λ i. q i ∷ h.1 i)

-- What is seen once a pass was joined: what it was, where b is true, and else the longer list.
abbrev pub seen_then : Bool → List Entry → List Entry → List Entry
seen_then b xs ys = if b then xs else longer_of xs ys

-- where the whole history was seen, it continues from there
pub then_whole : (b : Bool) (log xs ys : List Entry) → xs ≡ log → StartsWith log ys → seen_then b xs ys ≡ log
then_whole true log xs ys whole s = whole
then_whole false log xs ys whole s = ap (λ (zs : List Entry). longer_of zs ys) whole ∙ longer_whole log ys s

pub then_starts : (b : Bool) (log xs ys : List Entry) → StartsWith log xs → StartsWith log ys → StartsWith log (seen_then b xs ys)
then_starts true log xs ys s t = s
then_starts false log xs ys s t = longer_starts log xs ys s t

pub then_more : (b : Bool) (xs ys : List Entry) → StartsWith (seen_then b xs ys) xs
then_more true xs ys = ([], sym (append-nil xs))
then_more false xs ys = longer_more xs ys

pub then_other : (b : Bool) (log xs ys : List Entry) → (b ≡ true → xs ≡ log) → StartsWith log xs → StartsWith log ys → StartsWith (seen_then b xs ys) ys
then_other true log xs ys whole s t = let e = whole refl in subst (λ (zs : List Entry). StartsWith zs ys) (sym e) t
then_other false log xs ys whole s t = longer_other log xs ys s t

-- where it begins with what the other had seen, it is the longer list in any case
pub then_longer : (b : Bool) (xs ys : List Entry) → StartsWith (seen_then b xs ys) ys → seen_then b xs ys ≡ longer_of xs ys
then_longer true xs ys s = sym (longer_whole xs ys s)
then_longer false xs ys s = refl

pub then_same : (b : Bool) (xs ys : List Entry) → b ≡ true → seen_then b xs ys ≡ xs
then_same true xs ys is = refl
then_same false xs ys is = absurd (cc is)
