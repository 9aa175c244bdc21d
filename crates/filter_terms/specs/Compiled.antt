-- What the terms of a compiled filter match: its conditions, with their values read once.
use Rattle.std.specs.Prelude.{◌≡◌, ℕ, List, Bool, true, false, not, ◌==◌, nat_le, nat_lt, int_le, int_lt, Option, Some, None, map}
use Rattle.std.specs.List.{list_any, list_all}
use Rattle.jm_base.specs.declared.identifiers.Kind.{Kind}
use Rattle.jm_json.specs.Tree.{Tree, Trees, Fields}
use Rattle.mail_counts.specs.Counts.{is_in}
use Rattle.mail_records.specs.declared.records.Mailbox.{Mailbox}
use Rattle.method_args.specs.Arguments.{passes}
use Rattle.std.specs.Prelude.{is_some}
use Rattle.filter_terms.specs.Contains.{contains}
use Rattle.filter_terms.specs.EmailTerms.{is_same, keyword_holds}
use Rattle.filter_terms.specs.MailboxTerms.{has_role}
use Rattle.filter_terms.specs.Filters.{conditions_match, holds, if_term_holds, items_match, joined, list_matches, members_hold}
use Rattle.filter_terms.specs.Targets.{EmailInThread, Target, AnEmail, AMailbox}
use Rattle.filter_terms.specs.Texts.{IsRequired, MessageTexts, has_field, has_text}
use Rattle.filter_terms.specs.declared.texts.Place.{Place}
use Rattle.filter_terms.specs.declared.conditions.EmailCondition.{EmailCondition}
use Rattle.filter_terms.specs.declared.conditions.EmailCondition.TheVariants.{Never, InMailbox, InMailboxOtherThan, Before, After, MinSize, MaxSize, Keyword, HasAttachment}
use Rattle.filter_terms.specs.declared.message_conditions.MessageCondition.{MessageCondition}
use Rattle.filter_terms.specs.declared.message_conditions.MessageCondition.TheVariants.{Never as NeverMessage, Contains, HasField, FieldContains}
use Rattle.filter_terms.specs.declared.conditions.MailboxCondition.{MailboxCondition}
use Rattle.filter_terms.specs.declared.conditions.MailboxCondition.TheVariants.{Never as NeverMailbox, HasParent, HasNoParent, Name, Role, HasAnyRole, IsSubscribed}
use Rattle.filter_terms.specs.declared.compiled.Terms.{Terms}
use Rattle.filter_terms.specs.declared.compiled.Terms.TheOpen.{Terms-F, Always, OfEmail, OfMessage, OfMailbox, Join}
use Rattle.filter_terms.specs.declared.compiled.Terms.TheFolds.{fold-Terms}
use Rattle.filter_terms.specs.declared.terms.Term.{Term}

-- none of these is the number
abbrev pub is_other_than : List ℕ → ℕ → Bool
is_other_than numbers m = not (list_any (λ n. n == m) numbers)

abbrev pub email_matches : EmailInThread → EmailCondition → Bool
email_matches s Never = false
email_matches s (InMailbox n) = is_in n s.email
email_matches s (InMailboxOtherThan numbers) = list_any (is_other_than numbers) s.email.mailboxes
email_matches s (Before date) = int_lt s.email.received.seconds date
email_matches s (After date) = int_le date s.email.received.seconds
email_matches s (MinSize n) = nat_le n s.email.size
email_matches s (MaxSize n) = nat_lt s.email.size n
email_matches s (Keyword test k) = keyword_holds s test k
email_matches s (HasAttachment b) = is_same b s.email.summary.attachment

abbrev pub message_matches : MessageTexts → MessageCondition → Bool
message_matches m NeverMessage = false
message_matches m (Contains place needle) = has_text m place needle
message_matches m (HasField name) = has_field m name None
message_matches m (FieldContains name needle) = has_field m name (Some needle)

abbrev pub mailbox_matches : Mailbox → MailboxCondition → Bool
mailbox_matches m NeverMailbox = false
mailbox_matches m (HasParent n) = passes (λ p. p == n) m.parent
mailbox_matches m HasNoParent = not (is_some m.parent)
mailbox_matches m (Name needle) = contains needle m.name
mailbox_matches m (Role role) = has_role role m.role
mailbox_matches m (HasAnyRole b) = is_same b (is_some m.role)
mailbox_matches m (IsSubscribed b) = is_same b m.subscribed

-- a condition on emails matches no mailbox, and one on mailboxes no email
abbrev pub condition_matches : Target → EmailCondition → Bool
condition_matches (AnEmail texts s) c = email_matches s c
condition_matches (AMailbox m) c = false

abbrev pub message_condition_matches : Target → MessageCondition → Bool
message_condition_matches (AnEmail texts s) c = message_matches (texts s.email.blob) c
message_condition_matches (AMailbox m) c = false

abbrev pub mailbox_condition_matches : Target → MailboxCondition → Bool
mailbox_condition_matches (AnEmail texts s) c = false
mailbox_condition_matches (AMailbox m) c = mailbox_matches m c

abbrev pub match_step : Terms-F (Target → Bool) → Target → Bool
match_step Always x = true
match_step (OfEmail c) x = condition_matches x c
match_step (OfMessage c) x = message_condition_matches x c
match_step (OfMailbox c) x = mailbox_condition_matches x c
match_step (Join operator terms) x =
    joined operator (map (λ (f : Target → Bool). f x) terms.items)

abbrev pub terms_match : Terms → Target → Bool
terms_match = fold-Terms (Target → Bool) match_step

abbrev pub match_each : List Terms → Target → List Bool
match_each ts x = map (λ t. terms_match t x) ts

-- Whether the terms match an email in each store in which its message has these texts; and whether
-- they match it whatever the texts of messages are.
abbrev pub IsMatch : Terms → EmailInThread → MessageTexts → Bool → Type 0
IsMatch terms s m b =
    (texts : ℕ → MessageTexts) → texts s.email.blob ≡ m → b ≡ terms_match terms (AnEmail texts s)

abbrev pub IsAlwaysMatch : Terms → EmailInThread → Bool → Type 0
IsAlwaysMatch terms s b = (texts : ℕ → MessageTexts) → b ≡ terms_match terms (AnEmail texts s)

-- Whether a test passes of the list that says of each of these terms whether it matches, in each
-- such store; and whether it passes whatever the texts of messages are.
abbrev pub IsMatchOf
    : (List Bool → Bool) → List Terms → EmailInThread → MessageTexts → Bool → Type 0
IsMatchOf test ts s m b =
    (texts : ℕ → MessageTexts) → texts s.email.blob ≡ m → b ≡ test (match_each ts (AnEmail texts s))

abbrev pub IsAlwaysMatchOf : (List Bool → Bool) → List Terms → EmailInThread → Bool → Type 0
IsAlwaysMatchOf test ts s b =
    (texts : ℕ → MessageTexts) → b ≡ test (match_each ts (AnEmail texts s))

abbrev pub all_true : List Bool → Bool
all_true bs = list_all (λ b. b) bs

abbrev pub some_true : List Bool → Bool
some_true bs = list_any (λ b. b) bs

-- Whether these terms, or a test of the list that says of each of these terms whether it matches,
-- ask for a text at a place.
abbrev pub IsRequiredIn : Terms → Place → List ℕ → Bool → Type 0
IsRequiredIn terms place needle alone =
    (texts : ℕ → MessageTexts) (s : EmailInThread)
    → IsRequired alone (has_text (texts s.email.blob) place needle)
    (terms_match terms (AnEmail texts s))

abbrev pub IsRequiredOf : (List Bool → Bool) → List Terms → Place → List ℕ → Bool → Type 0
IsRequiredOf test ts place needle alone =
    (texts : ℕ → MessageTexts) (s : EmailInThread)
    → IsRequired alone (has_text (texts s.email.blob) place needle)
    (test (match_each ts (AnEmail texts s)))

-- the terms match what the tree, the list, the conditions or the members match
abbrev pub Means : Kind → Terms → Tree → Type 0
Means kind terms t = (x : Target) → terms_match terms x ≡ holds kind x t

abbrev pub MeanItems : Kind → List Terms → Trees → Type 0
MeanItems kind terms ts = (x : Target) → match_each terms x ≡ items_match kind x ts

abbrev pub MeanList : Kind → List Terms → Tree → Type 0
MeanList kind terms t = (x : Target) → match_each terms x ≡ list_matches kind x t

abbrev pub MeanConditions : Kind → List Terms → Fields → Type 0
MeanConditions kind terms fs = (x : Target) → match_each terms x ≡ conditions_match kind x fs

abbrev pub MeansTerm : Terms → Option Term → Tree → Type 0
MeansTerm terms term t = (x : Target) → terms_match terms x ≡ if_term_holds x term t

abbrev pub MeanMembers : Kind → List Terms → Fields → Type 0
MeanMembers kind terms fs =
    (x : Target) → list_all (λ b. b) (match_each terms x) ≡ members_hold kind x fs
