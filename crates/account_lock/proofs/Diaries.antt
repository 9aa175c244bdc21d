-- What one turn at a diary adds, which enters a stamp or finds no memory.
use Rattle.std.proofs.Common.{◌≡◌, ℕ, List, [], ◌∷◌, ◌++◌, sym, ap, ◌∙◌, Result, Ok, Err, OnOk, OnErr}
use Rattle.std.proofs.lemmas.List.{append-nil}
use Rattle.mail_records.specs.Histories.{Entry, entry_pass}
use Rattle.account_lock.specs.Entries.{under, ExtendsUnder}
use Rattle.account_lock.proofs.Entries.{under-append, under_same}

module _ {T E : Type 0} where
  -- in both cases the list continues with entries of the stamp's name alone
  pub extends : (r : Result T E) (n : ℕ) (e : Entry) (old new : List Entry) → entry_pass e ≡ n → OnOk r (new ≡ old ++ e ∷ []) → OnErr r (new ≡ old) → ExtendsUnder n old new
  extends (Ok x) n e old new by ok err = (e ∷ [], ok, (by, tt))
  extends (Err x) n e old new by ok err = ([], err ∙ sym (append-nil old), tt)

  -- one more of this name
  pub one_more : (r : Result T E) (n : ℕ) (e : Entry) (old new own own' : List Entry) → entry_pass e ≡ n → under n old ≡ own → own' ≡ under n new
      → OnOk r (new ≡ old ++ e ∷ []) → OnOk r (own' ≡ own ++ e ∷ [])
  one_more (Err x) n e old new own own' by was is ok = tt
  one_more (Ok x) n e old new own own' by was is ok = is ∙ (ap (under n) ok ∙ (under-append n old (e ∷ []) ∙ (λ i. was i ++ under_same n (e ∷ []) (by, tt) i)))

  -- or as many as before
  pub no_more : (r : Result T E) (n : ℕ) (old new own own' : List Entry) → under n old ≡ own → own' ≡ under n new → OnErr r (new ≡ old) → OnErr r (own' ≡ own)
  no_more (Ok x) n old new own own' was is err = tt
  no_more (Err x) n old new own own' was is err = is ∙ (ap (under n) err ∙ was)
