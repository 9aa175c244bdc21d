-- One edit more of a list of edits that fit.
use Rattle.std.proofs.Common.{◌≡◌, ◌↔◌, ℕ, ◌+◌, ◌<◌, ◌^◌, Bool, true, false, IsTrue, List, ◌∷◌, length, is_some, suc, refl, sym, subst, arith}
use Rattle.mail_records.specs.Contents.{Content, mailbox_at, email_at, thread_at}
use Rattle.mail_records.specs.Edits.{after_edit, after_edits, next_after, Fits, AllFit, PutFits, KeepsThread, AllKeepThread, HasNumbers}
use Rattle.mail_records.specs.declared.edits.Edit.{Edit}
use Rattle.mail_records.specs.declared.edits.Edit.TheVariants.{PutMailbox, DropMailbox, PutEmail, DropEmail, PutThread, DropThread}

next_one : (present was : Bool) (number next n : ℕ) → PutFits present was number next → next + suc n < 2 ^ 64 → next_after was number next + n < 2 ^ 64
next_one present true number next n fit lt = omega arith
next_one present false number next n fit lt = let is : number ≡ next = fit.1 refl in omega arith

-- an edit that fits leaves numbers for one record less
pub numbers_left : (n : ℕ) (c : Content) (e : Edit) → Fits c e → HasNumbers (suc n) c → HasNumbers n (after_edit c e)
numbers_left n c (PutMailbox item was counts) fit has =
    record { mailbox = next_one (is_some (mailbox_at c item.number)) was item.number c.next_mailbox n fit has.mailbox; email = omega (arith, has.email); thread = omega (arith, has.thread) }
numbers_left n c (DropMailbox number) fit has = record { mailbox = omega (arith, has.mailbox); email = omega (arith, has.email); thread = omega (arith, has.thread) }
numbers_left n c (PutEmail item was) fit has =
    record { mailbox = omega (arith, has.mailbox); email = next_one (is_some (email_at c item.number)) was item.number c.next_email n fit has.email; thread = omega (arith, has.thread) }
numbers_left n c (DropEmail number thread) fit has = record { mailbox = omega (arith, has.mailbox); email = omega (arith, has.email); thread = omega (arith, has.thread) }
numbers_left n c (PutThread item was) fit has =
    record { mailbox = omega (arith, has.mailbox); email = omega (arith, has.email); thread = next_one (is_some (thread_at c item.number)) was item.number c.next_thread n fit has.thread }
numbers_left n c (DropThread number) fit has = record { mailbox = omega (arith, has.mailbox); email = omega (arith, has.email); thread = omega (arith, has.thread) }

-- what a loop over edits has come to: the rest from here is all from the beginning
pub record HasCome (start now : Content) (all rest : List Edit) (keeps : Bool) : Type 0 where
  pub made : after_edits now rest ≡ after_edits start all
  pub fits : AllFit now rest ↔ AllFit start all
  pub threads : (IsTrue keeps × AllKeepThread now rest) ↔ AllKeepThread start all
  pub next : HasNumbers (length rest) now

pub come_further : (start now then : Content) (all from rest : List Edit) (e : Edit) (before after : Bool) → from ≡ e ∷ rest → then ≡ after_edit now e → Fits now e
    → (IsTrue after ↔ (IsTrue before × KeepsThread now e)) → HasCome start now all from before → HasCome start then all rest after
come_further start now then all from rest e before after is made fit keep come =
    let here : HasCome start now all (e ∷ rest) before = subst (λ (es : List Edit). HasCome start now all es before) is come in
    let next : HasCome start (after_edit now e) all rest after = record {
      made = here.made;
      fits = ((λ (f : AllFit (after_edit now e) rest). here.fits.0 (fit, f)), λ (f : AllFit start all). (here.fits.1 f).1);
      threads = (
        (λ (p : IsTrue after × AllKeepThread (after_edit now e) rest).
            let k = keep.0 p.0 in here.threads.0 (k.0, (k.1, p.1))),
        (λ (k : AllKeepThread start all).
            let p = here.threads.1 k in (keep.1 (p.0, p.1.0), p.1.1)),
      );
      next = numbers_left (length rest) now e fit here.next;
    } in
    subst (λ (c : Content). HasCome start c all rest after) (sym made) next
