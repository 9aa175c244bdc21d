-- Runs that read nothing of the input and write a text, or a prefix of it.
use Rattle.std.proofs.Common.{ℕ, List, [], take, drop, refl, sym, append-nil}
use Rattle.std.proofs.lemmas.List.{take-append-drop}
use Rattle.batch_lines.specs.Input.{Seen, HasRead, HasWritten}
use Rattle.jmap_commands.specs.Run.{HasBegunPrinting}

pub all_printed : (text : List ℕ) (v : Seen) → HasRead v [] → HasWritten v text → HasBegunPrinting text v
all_printed text v none h = (text, [], none, h, sym (append-nil text))

pub some_printed : (text : List ℕ) (n : ℕ) (v : Seen) → HasRead v [] → HasWritten v (take n text) → HasBegunPrinting text v
some_printed text n v none h = (take n text, drop n text, none, h, sym (take-append-drop n text))

pub none_printed : (text : List ℕ) (v : Seen) → HasRead v [] → HasWritten v [] → HasBegunPrinting text v
none_printed text v none h = ([], text, none, h, refl)
