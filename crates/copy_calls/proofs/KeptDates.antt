-- The date of receipt of an original is kept.
use Rattle.std.proofs.Common.{◌≡◌, ℕ, Bool, true, false, not, cond, ◌&&◌, pos, ℤ, ◌≤ℤ◌, int_lt, Option, Some, None, option_and_then, option_map, unwrap_or, refl, sym, ap, ◌∙◌, arith, List}
use Rattle.std.specs.Str.{bytes_eq}
use Rattle.std.proofs.lemmas.Slice.Eq.{bytes_eq-Decides}
use Rattle.jiff_core.proofs.SignedLemmas.{signed_arith}
use Rattle.jm_base.specs.UtcDates.{IsUtcDate, utc_text}
use Rattle.jm_base.specs.UtcSeconds.{utc_seconds}
use Rattle.jm_base.specs.declared.identifiers.UtcDate.{UtcDate}
use Rattle.jm_base.specs.declared.utc_dates.TheConstants.{FIRST_TIMESTAMP, LAST_TIMESTAMP}
use Rattle.jm_base.proofs.DateTests.{dated}
use Rattle.jm_base.proofs.WrittenDates.{date_reads_back}
use Rattle.jm_json.specs.Tree.{null, text}
use Rattle.jm_json.specs.Find.{as_text}
use Rattle.mail_records.specs.declared.records.Email.{Email}
use Rattle.email_creates.specs.Properties.{date_of}
use Rattle.mail_view.specs.View.{has_date_text, received_tree}
use Rattle.set_parts.specs.Names.{only_if}
use Rattle.mail_copies.specs.Carried.{carried_date, kept_date}
use Rattle.copy_calls.specs.Fetches.{item_of}

not_below : (a b : ℤ) (t : Bool) → int_lt a b ≡ t → b ≤ℤ a → not t ≡ true
not_below a b true is le = absurd (omega (arith, signed_arith, is, le))
not_below a b false is le = refl

both_true : (a b : Bool) → a ≡ true → b ≡ true → (a && b) ≡ true
both_true true b e f = f
both_true false b e f = e

shown : (d : UtcDate) → IsUtcDate d → has_date_text d ≡ true
shown d is =
    both_true _ _ (not_below d.seconds FIRST_TIMESTAMP (int_lt d.seconds FIRST_TIMESTAMP) refl is.not_before)
    (not_below (pos LAST_TIMESTAMP) d.seconds (int_lt (pos LAST_TIMESTAMP) d.seconds) refl is.not_after)

read : (d : UtcDate) → IsUtcDate d → kept_date (utc_text d) ≡ Some d
read d is =
    let seconds : utc_seconds (utc_text d) ≡ Some d.seconds = sym (dated (utc_text d) d (date_reads_back d is)) in
    ap (λ (o : Option ℤ). option_and_then (only_if (λ (x : UtcDate). bytes_eq (utc_text d) (utc_text x))) (option_map date_of o)) seconds
    ∙ ap (λ b. cond b (Some d) None) ((bytes_eq-Decides (utc_text d) (utc_text d)).1 refl)

pub dates_kept : (e : Email) (moment : ℕ) → IsUtcDate e.received → carried_date moment (item_of (Some e)) ≡ e.received
dates_kept e moment is =
    let tree : as_text (received_tree e) ≡ Some (utc_text e.received) =
    ap (λ b. as_text (cond b (text (utc_text e.received)) null)) (shown e.received is) in
    ap (λ (o : Option (List ℕ)). unwrap_or (option_and_then kept_date o) (date_of (pos moment))) tree
    ∙ ap (λ (o : Option UtcDate). unwrap_or o (date_of (pos moment))) (read e.received is)
