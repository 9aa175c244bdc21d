-- What no error leaves of the tests of a create.
use Rattle.std.proofs.Common.{◌≡◌, ℕ, ◌<◌, ◌≤◌, Bool, true, false, not, cond, List, [], ◌∷◌, ◌++◌, length, Option, Some, None, is_some, unwrap_or, refl, sym, ap, ◌∙◌, arith, true≢false, eqb-true, ltb-false, leb-false, length-append, codes}
use Rattle.std.specs.Option.{option_or}
use Rattle.std.proofs.lemmas.Option.{none-some}
use Rattle.jm_base.specs.declared.limits.TheConstants.{MAX_MAILBOXES_PER_EMAIL}
use Rattle.mail_counts.specs.declared.limits.TheConstants.{MAX_EMAILS_PER_ACCOUNT, MAX_KEYWORDS_PER_EMAIL}
use Rattle.set_parts.specs.declared.set_errors.SetError.{SetError}
use Rattle.email_creates.specs.Errors.{Test, first_error, error_of, name_if, with_invalid}
use Rattle.email_creates.specs.declared.properties.Sent.{Sent}

-- ---- tests one after the other

pub first_error-append : (xs ys : List Test) → first_error (xs ++ ys) ≡ option_or (first_error xs) (first_error ys)
first_error-append [] ys = refl
first_error-append (t ∷ ts) ys = step t.fails (first_error-append ts ys)
  where
    step : (b : Bool) → first_error (ts ++ ys) ≡ option_or (first_error ts) (first_error ys) → cond b (Some t.error) (first_error (ts ++ ys)) ≡ option_or (cond b (Some t.error) (first_error ts)) (first_error ys)
    step true e = refl
    step false e = e

pub record Passes (b : Bool) (o : Option SetError) : Type 0 where
  pub this : b ≡ false
  pub others : o ≡ None

passes : (b : Bool) (r : SetError) (o : Option SetError) → cond b (Some r) o ≡ None → Passes b o
passes true r o e = absurd (none-some r (sym e))
passes false r o e = record { this = refl; others = e }

given : (b : Bool) → not b ≡ false → b ≡ true
given true e = refl
given false e = absurd (true≢false e)

-- ---- names

no_name : (b : Bool) (name : List ℕ) → length (name_if b name) ≡ 0 → b ≡ false
no_name true name e = absurd (omega (arith, e))
no_name false name e = refl

pub record NoneNamed (names : List (List ℕ)) (b : Bool) : Type 0 where
  pub before : length names ≡ 0
  pub this : b ≡ false

pub none_named : (names : List (List ℕ)) (b : Bool) (name : List ℕ) → length (names ++ name_if b name) ≡ 0 → NoneNamed names b
none_named names b name e =
    let both = length-append names (name_if b name) in
    let own : length (name_if b name) ≡ 0 = omega (arith, both, e) in
    record { before = omega (arith, both, e); this = no_name b name own }

-- ---- all of them

-- The properties are valid and within the limits, and there is room. No other names are invalid.
pub record IsAccepted (others : List (List ℕ)) (a : Sent) (emails : ℕ) (fits : Bool) : Type 0 where
  pub names : length others ≡ 0
  pub keywords : is_some a.keywords ≡ true
  pub mailboxes : is_some a.mailboxes ≡ true
  pub received : is_some a.received ≡ true
  pub few_keywords : length (unwrap_or a.keywords []) ≤ MAX_KEYWORDS_PER_EMAIL
  pub few_mailboxes : length (unwrap_or a.mailboxes []) ≤ MAX_MAILBOXES_PER_EMAIL
  pub room : emails < MAX_EMAILS_PER_ACCOUNT
  pub blob_room : fits ≡ true

pub accepted : (names : List (List ℕ)) (a : Sent) (emails : ℕ) (room : Bool) → error_of (with_invalid names a) a emails room ≡ None → IsAccepted names a emails room
accepted names a emails room e =
    let invalid : List (List ℕ) = with_invalid names a in
    let form = passes _ _ _ e in
    let words = passes _ _ _ form.others in
    let boxes = passes _ _ _ words.others in
    let count = passes _ _ _ boxes.others in
    let blob = passes _ _ _ count.others in
    let none : length invalid ≡ 0 = eqb-true (length invalid) 0 (given _ form.this) in
    let date = none_named ((names ++ name_if (not (is_some a.keywords)) (codes "keywords")) ++ name_if (not (is_some a.mailboxes)) (codes "mailboxIds")) (not (is_some a.received)) (codes "receivedAt") none in
    let box = none_named (names ++ name_if (not (is_some a.keywords)) (codes "keywords")) (not (is_some a.mailboxes)) (codes "mailboxIds") date.before in
    let word = none_named names (not (is_some a.keywords)) (codes "keywords") box.before in
    let few = ltb-false MAX_KEYWORDS_PER_EMAIL (length (unwrap_or a.keywords [])) words.this in
    let within = ltb-false MAX_MAILBOXES_PER_EMAIL (length (unwrap_or a.mailboxes [])) boxes.this in
    let low = leb-false MAX_EMAILS_PER_ACCOUNT emails count.this in
    record {
      names = word.before;
      keywords = given (is_some a.keywords) word.this;
      mailboxes = given (is_some a.mailboxes) box.this;
      received = given (is_some a.received) date.this;
      few_keywords = omega (arith, few);
      few_mailboxes = omega (arith, within);
      room = omega (arith, low);
      blob_room = given room blob.this;
    }

-- by the names that were collected
pub accepted_given : (names invalid : List (List ℕ)) (a : Sent) (emails : ℕ) (room : Bool) → invalid ≡ with_invalid names a → error_of invalid a emails room ≡ None → IsAccepted names a emails room
accepted_given names invalid a emails room is e = accepted names a emails room (ap (λ (xs : List (List ℕ)). error_of xs a emails room) (sym is) ∙ e)
