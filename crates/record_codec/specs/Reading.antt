-- Reading of fields, by which the readers are known. What is read so is a value's one encoding, and
-- where it stops no encoding continues (proofs/Whole.antt).
use Rattle.std.specs.Prelude.{◌≡◌, ℕ, zero, suc, List, [], ◌∷◌, Result, Ok, Err, ⊤}
use Rattle.record_codec.specs.declared.faults.Misread.{Misread}
use Rattle.record_codec.specs.declared.faults.Misread.TheVariants as faults

-- a value and the bytes after it, or how many bytes are left where nothing continues
abbrev pub Read : Type 0 → Type 0
Read A = Result (A × List ℕ) ℕ

infixl 10 ◌>>=◌
abbrev pub ◌>>=◌ : {A B : Type 0} → Result A ℕ → (A → Result B ℕ) → Result B ℕ
(Ok x) >>= f = f x
(Err left) >>= f = Err left

-- what a reader answered is what reading gives, unless memory ran out
abbrev pub Fails : {Y : Type 0} → Misread → Result Y ℕ → Type 0
Fails faults.NoMemory read = ⊤
Fails (faults.Stuck left) read = read ≡ Err left

abbrev pub Gives : {X Y : Type 0} → (X → Y) → Result X Misread → Result Y ℕ → Type 0
Gives view (Ok x) read = read ≡ Ok (view x)
Gives view (Err e) read = Fails e read

-- one field, and then another that may depend on it
abbrev pub then : {A B : Type 0} → (List ℕ → Read A) → (A → List ℕ → Read B) → List ℕ → Read (A × B)
then first second bytes = first bytes >>= λ a. second a.0 a.1 >>= λ b. Ok ((a.0, b.0), b.1)

abbrev pub both : {A B : Type 0} → (List ℕ → Read A) → (List ℕ → Read B) → List ℕ → Read (A × B)
both first second = then first (λ _. second)

-- the value that is made of what is read
abbrev pub made : {A B : Type 0} → (A → B) → (List ℕ → Read A) → List ℕ → Read B
made make read bytes = read bytes >>= λ a. Ok (make a.0, a.1)

-- as many items as are counted; the state says what the items up to here ask of the next
abbrev pub items_at : {S A : Type 0} → (S → ℕ → List ℕ → Read A) → (S → A → S) → S → ℕ → List ℕ
    → Read (List A)
items_at item next s zero bytes = Ok ([], bytes)
items_at item next s (suc n) bytes = item s n bytes >>=
    λ a. items_at item next (next s a.0) n a.1 >>= λ more. Ok (a.0 ∷ more.0, more.1)
