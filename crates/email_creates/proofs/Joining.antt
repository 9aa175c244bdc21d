-- The thread that a new email joins, among emails with one more.
use Rattle.std.proofs.Common.{◌≡◌, ℕ, Bool, true, false, cond, ◌&&◌, List, [], ◌∷◌, ◌++◌, find, Option, Some, None, option_map, refl, ap, ◌∙◌, subst, bytes_eq}
use Rattle.std.specs.List.{AllByRecursion}
use Rattle.std.specs.Option.{option_or}
use Rattle.std.proofs.lemmas.Option.{none-some, same_Some}
use Rattle.mail_records.specs.declared.records.Email.{Email}
use Rattle.mail_records.specs.declared.records.Summary.{Summary}
use Rattle.thread_assign.specs.Threads.{is_related, joined_thread, share_link}
use Rattle.email_creates.specs.NewEmails.{thread_if_related}

last_one : (e : Email) (b : Bool) → option_map (λ (x : Email). x.thread) (cond b (Some e) None) ≡ cond b (Some e.thread) None
last_one e true = refl
last_one e false = refl

first_one : (x : Email) (b : Bool) (o p : Option Email) (t : Option ℕ) → option_map (λ (y : Email). y.thread) o ≡ option_or (option_map (λ (y : Email). y.thread) p) t
    → option_map (λ (y : Email). y.thread) (cond b (Some x) o) ≡ option_or (option_map (λ (y : Email). y.thread) (cond b (Some x) p)) t
first_one x true o p t e = refl
first_one x false o p t e = e

pub joined_append : (u : Summary) (xs : List Email) (e : Email) → joined_thread (xs ++ e ∷ []) u ≡ option_or (joined_thread xs u) (thread_if_related u e.thread e.summary)
joined_append u [] e = last_one e (is_related u e)
joined_append u (x ∷ xs) e =
    first_one x (is_related u x) (find (is_related u) (xs ++ e ∷ [])) (find (is_related u) xs) (thread_if_related u e.thread e.summary) (joined_append u xs e)

pub or_assoc : {A : Type 0} (a b c : Option A) → option_or (option_or a b) c ≡ option_or a (option_or b c)
or_assoc None b c = refl
or_assoc (Some x) b c = refl

pub related_same : (u : Summary) (t r : ℕ) (s v : Summary) → t ≡ r → s.links ≡ v.links → s.subject ≡ v.subject → thread_if_related u t s ≡ thread_if_related u r v
related_same u t r s v thread links subject =
    ap (λ (n : ℕ). thread_if_related u n s) thread
    ∙ (ap (λ (ls : List (List ℕ)). cond (share_link u.links ls && bytes_eq s.subject u.subject) (Some r) None) links
    ∙ ap (λ (t : List ℕ). cond (share_link u.links v.links && bytes_eq t u.subject) (Some r) None) subject)

-- a thread that is joined is one of the emails' threads
in_first : (P : ℕ → Type 0) (x : Email) (b : Bool) (o : Option Email) (t : ℕ) → P x.thread → (option_map (λ (y : Email). y.thread) o ≡ Some t → P t) → option_map (λ (y : Email). y.thread) (cond b (Some x) o) ≡ Some t → P t
in_first P x true o t p rest e = subst P (same_Some x.thread t e) p
in_first P x false o t p rest e = rest e

pub joined_known : (P : ℕ → Type 0) (u : Summary) (t : ℕ) (xs : List Email) → AllByRecursion (λ (e : Email). P e.thread) xs → joined_thread xs u ≡ Some t → P t
joined_known P u t [] all e = absurd (none-some t e)
joined_known P u t (x ∷ xs) all e = in_first P x (is_related u x) (find (is_related u) xs) t all.0 (joined_known P u t xs all.1) e
