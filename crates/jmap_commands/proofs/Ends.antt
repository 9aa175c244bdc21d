-- What a status says of a run.
use Rattle.std.proofs.Common.{◌≡◌, ℕ, Option, None, Some, Result, Ok, Err, OnOk, IfErr, refl, sym, ap, ◌∙◌, subst, arith}
use Rattle.jm_edge.specs.Causes.{Rose}
use Rattle.mail_records.specs.Histories.{History, empty_history}
use Rattle.batch_lines.specs.Input.{Seen, HasAnsweredInput}
use Rattle.batch_lines.specs.Faults.{ExplainsFault}
use Rattle.batch_lines.specs.declared.fault.LinesFault.{LinesFault}
use Rattle.batch_lines.specs.declared.fault.LinesFault.TheVariants as lines
use Rattle.jmap_commands.specs.AccountAnswers.{account_answers, account_uploads}
use Rattle.jmap_commands.specs.Run.{HasAnsweredBy, HasAnsweredBeforeFaultBy, HasAnsweredBeforeLimitBy}
use Rattle.jmap_commands.specs.Status.{status_of}
use Rattle.jmap_commands.specs.Endings.{Explains, ExplainsBy, ending_of, ending_of_fault}
use Rattle.jmap_commands.specs.declared.arguments.Command.{Command}
use Rattle.jmap_commands.specs.declared.arguments.Command.TheVariants.{Batch}
use Rattle.jmap_commands.specs.declared.ending.Ending.{Ending}
use Rattle.jmap_commands.specs.declared.ending.Ending.TheVariants.{Done, Usage, ReadFault, WriteFault, TooLong}

pub done_of : (w : Option Command) (e : Ending) (v : Seen) (n : ℕ) → n ≡ status_of e → ExplainsBy w e v → n ≡ 0 → HasAnsweredBy w v
done_of None e v n is h same = absurd (omega (arith, is, ap status_of h))
done_of (Some c) Done v n is h same = h
done_of (Some c) other v n is h same = absurd (omega arith)

pub fault_of : (w : Option Command) (e : Ending) (v : Seen) (n : ℕ) → n ≡ status_of e → ExplainsBy w e v → n ≡ 3 → HasAnsweredBeforeFaultBy w v
fault_of None e v n is h same = absurd (omega (arith, is, ap status_of h))
fault_of (Some c) ReadFault v n is h same = h.1
fault_of (Some c) other v n is h same = absurd (omega arith)

pub read_of : (w : Option Command) (e : Ending) (v : Seen) (n : ℕ) → n ≡ status_of e → ExplainsBy w e v → n ≡ 3 → Rose v.reads v.reads_after
read_of None e v n is h same = absurd (omega (arith, is, ap status_of h))
read_of (Some c) ReadFault v n is h same = h.0
read_of (Some c) other v n is h same = absurd (omega arith)

pub write_of : (w : Option Command) (e : Ending) (v : Seen) (n : ℕ) → n ≡ status_of e → ExplainsBy w e v → n ≡ 4 → Rose v.writes v.writes_after
write_of None e v n is h same = absurd (omega (arith, is, ap status_of h))
write_of (Some c) WriteFault v n is h same = h
write_of (Some c) other v n is h same = absurd (omega arith)

pub limit_of : (w : Option Command) (e : Ending) (v : Seen) (n : ℕ) → n ≡ status_of e → ExplainsBy w e v → n ≡ 14 → HasAnsweredBeforeLimitBy w v
limit_of None e v n is h same = absurd (omega (arith, is, ap status_of h))
limit_of (Some c) TooLong v n is h same = h
limit_of (Some c) other v n is h same = absurd (omega arith)

pub usage_of : (w : Option Command) (e : Ending) (v : Seen) (n : ℕ) → n ≡ status_of e → ExplainsBy w e v → (n ≡ 2 → w ≡ None) × (w ≡ None → n ≡ 2)
usage_of None e v n is h = (λ two. refl, λ same. is ∙ ap status_of h)
usage_of (Some c) Usage v n is h = absurd h
usage_of (Some c) other v n is h = (λ two. absurd (omega arith), λ same. cc)

-- the run over the account of `batch`

batch_fault : (f : LinesFault) (v : Seen) (h : History) → ExplainsFault account_answers account_uploads empty_history h f v → Explains Batch (ending_of_fault f) v
batch_fault lines.ReadFault v h is = (is.0, (h, is.1))
batch_fault lines.WriteFault v h is = is
batch_fault lines.NoMemory v h is = tt
batch_fault lines.TooLong v h is = (h, is)

batch_ending : (r : Result (Unit {0}) LinesFault) (v : Seen) (h : History) → OnOk r (HasAnsweredInput account_answers account_uploads empty_history h v) → IfErr r (λ f. ExplainsFault account_answers account_uploads empty_history h f v) → Explains Batch (ending_of r) v
batch_ending (Ok u) v h ok err = (h, ok)
batch_ending (Err f) v h ok err = batch_fault f v h err

pub batch_cause : (r : Result (Unit {0}) LinesFault) (e : Ending) (v : Seen) (h : History) → e ≡ ending_of r → OnOk r (HasAnsweredInput account_answers account_uploads empty_history h v) → IfErr r (λ f. ExplainsFault account_answers account_uploads empty_history h f v)
    → Explains Batch e v
batch_cause r e v h same ok err = subst (λ (x : Ending). Explains Batch x v) (sym same) (batch_ending r v h ok err)
