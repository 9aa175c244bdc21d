-- What terms say, by their kind.
use Rattle.std.proofs.Common.{◌≡◌, ℕ, List, [], ◌∷◌, map, Bool, true, Vec, Global, refl, sym, ap, ◌∙◌}
use Rattle.jm_json.specs.Tree.{Tree}
use Rattle.filter_terms.specs.EmailTerms.{email_term_holds}
use Rattle.filter_terms.specs.Filters.{joined, term_holds}
use Rattle.filter_terms.specs.Texts.{MessageTexts}
use Rattle.filter_terms.specs.declared.terms.EmailTerm.{EmailTerm}
use Rattle.filter_terms.specs.declared.terms.Term.TheVariants.{OfEmail as EmailTermOf}
use Rattle.filter_terms.specs.Compiled.{condition_matches, email_matches, mailbox_condition_matches, message_condition_matches, match_step, terms_match, match_each}
use Rattle.filter_terms.specs.Targets.{AMailbox, AnEmail, EmailInThread, Target}
use Rattle.filter_terms.specs.declared.terms.Operator.{Operator}
use Rattle.filter_terms.specs.declared.conditions.EmailCondition.{EmailCondition}
use Rattle.filter_terms.specs.declared.conditions.MailboxCondition.{MailboxCondition}
use Rattle.filter_terms.specs.declared.message_conditions.MessageCondition.{MessageCondition}
use Rattle.filter_terms.specs.declared.compiled.Terms.{Terms}
use Rattle.filter_terms.specs.declared.compiled.Terms.TheVariants.{Always, OfEmail, OfMessage, OfMailbox, Join, rolls-Always, rolls-OfEmail, rolls-OfMessage, rolls-OfMailbox, rolls-Join}
use Rattle.filter_terms.specs.declared.compiled.Terms.TheOpen.{Always as Always-F, OfEmail as OfEmail-F, OfMessage as OfMessage-F, OfMailbox as OfMailbox-F, Join as Join-F}
use Rattle.filter_terms.specs.declared.compiled.Terms.TheFolds.{fold-roll-Terms}

matched_each : (x : Target) (ts : List Terms) → map (λ (f : Target → Bool). f x) (map terms_match ts) ≡ match_each ts x
matched_each x [] = refl
matched_each x (t ∷ ts) = ap (λ bs. terms_match t x ∷ bs) (matched_each x ts)

pub match_always : (x : Target) → terms_match Always x ≡ true
match_always x =
    ap (λ t. terms_match t x) (sym rolls-Always) ∙ ap (λ (g : Target → Bool). g x) (fold-roll-Terms (Target → Bool) match_step Always-F)

pub match_email : (c : EmailCondition) (x : Target) → terms_match (OfEmail c) x ≡ condition_matches x c
match_email c x =
    ap (λ t. terms_match t x) (sym (rolls-OfEmail c)) ∙ ap (λ (g : Target → Bool). g x) (fold-roll-Terms (Target → Bool) match_step (OfEmail-F c))

pub match_message : (c : MessageCondition) (x : Target) → terms_match (OfMessage c) x ≡ message_condition_matches x c
match_message c x =
    ap (λ t. terms_match t x) (sym (rolls-OfMessage c)) ∙ ap (λ (g : Target → Bool). g x) (fold-roll-Terms (Target → Bool) match_step (OfMessage-F c))

pub match_mailbox : (c : MailboxCondition) (x : Target) → terms_match (OfMailbox c) x ≡ mailbox_condition_matches x c
match_mailbox c x =
    ap (λ t. terms_match t x) (sym (rolls-OfMailbox c)) ∙ ap (λ (g : Target → Bool). g x) (fold-roll-Terms (Target → Bool) match_step (OfMailbox-F c))

pub match_join : (operator : Operator) (ts : Vec Terms Global) (x : Target) → terms_match (Join operator ts) x ≡ joined operator (match_each ts.items x)
match_join operator ts x =
    ap (λ t. terms_match t x) (sym (rolls-Join operator ts))
    ∙ (ap (λ (g : Target → Bool). g x) (fold-roll-Terms (Target → Bool) match_step (Join-F operator ts)) ∙ ap (joined operator) (matched_each x ts.items))

-- a condition on emails that says what a term does, and its value
email_means : (c : EmailCondition) (term : EmailTerm) (t : Tree) → ((texts : ℕ → MessageTexts) (s : EmailInThread) → email_matches s c ≡ email_term_holds texts s term t) → (x : Target) → terms_match (OfEmail c) x ≡ term_holds x (EmailTermOf term) t
email_means c term t h (AnEmail texts s) = match_email c (AnEmail texts s) ∙ h texts s
email_means c term t h (AMailbox m) = match_email c (AMailbox m)

pub email_term_means : (c : EmailCondition) (given term : EmailTerm) (t : Tree) → given ≡ term → ((texts : ℕ → MessageTexts) (s : EmailInThread) → email_matches s c ≡ email_term_holds texts s term t)
    → (x : Target) → terms_match (OfEmail c) x ≡ term_holds x (EmailTermOf given) t
email_term_means c given term t is h x = email_means c term t h x ∙ ap (λ k. term_holds x (EmailTermOf k) t) (sym is)

pub ruleset by_kind = (match_always, match_email, match_message, match_mailbox, match_join)
