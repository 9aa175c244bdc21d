-- What a run of `read` has done once its message is taken.
use Rattle.std.proofs.Common.{◌≡◌, inl, inr, ℕ, ◌≤◌, List, [], Option, take, drop, length, refl, sym, append-nil, subst}
use Rattle.std.proofs.lemmas.List.{take-append-drop}
use Rattle.std.specs.Io.KnownBytes.{Consumes, Appends, IsAtEnd}
use Rattle.jm_edge.proofs.Known.{appends_none}
use Rattle.jmap_commands.specs.Read.{read_out}
use Rattle.batch_lines.specs.Input.{Seen}
use Rattle.jmap_commands.specs.Run.{HasBegunMessage}
use Rattle.jmap_commands.specs.Endings.{Explains, Unread, Written}
use Rattle.jmap_commands.specs.declared.arguments.Command.TheVariants.{Read}
use Rattle.jmap_commands.specs.declared.read.TheConstants.{MAX_MESSAGE_BYTES}
use Rattle.jmap_commands.specs.declared.ending.Ending.{Ending}
use Rattle.jmap_commands.specs.declared.ending.Ending.TheVariants.{Done, ReadFault, WriteFault, NoMemory, TooLong}

-- nothing was written
pub begun_untold : (v : Seen) (bytes : List ℕ) → Consumes v.left v.left_after bytes → Appends v.held v.held_after [] → HasBegunMessage v
begun_untold v bytes c w = (bytes, [], c, w, inl refl)

pub written_begun : (e : Ending) (v : Seen) (bytes : List ℕ) → Consumes v.left v.left_after bytes → IsAtEnd v.left_after → Written e v.held v.held_after v.writes v.writes_after (read_out bytes) → HasBegunMessage v
written_begun Done v bytes c end w = (bytes, read_out bytes, c, w, inr (end, ([], sym (append-nil (read_out bytes)))))
written_begun WriteFault v bytes c end w = (bytes, take w.1.0 (read_out bytes), c, w.1.1, inr (end, (drop w.1.0 (read_out bytes), sym (take-append-drop w.1.0 (read_out bytes)))))
written_begun NoMemory v bytes c end w = begun_untold v bytes c w
written_begun other v bytes c end w = absurd w

pub written_cause : (e : Ending) (v : Seen) (bytes : List ℕ) → Consumes v.left v.left_after bytes → length bytes ≤ MAX_MESSAGE_BYTES → IsAtEnd v.left_after → Written e v.held v.held_after v.writes v.writes_after (read_out bytes) → Explains Read e v
written_cause Done v bytes c small end w = (bytes, c, small, end, w)
written_cause WriteFault v bytes c small end w = w.0
written_cause NoMemory v bytes c small end w = tt
written_cause other v bytes c small end w = absurd w

pub unread_cause : (e : Ending) (v : Seen) (bytes : List ℕ) → v.held_after ≡ v.held → Consumes v.left v.left_after bytes → Unread e v.left v.left_after v.reads v.reads_after → Explains Read e v
unread_cause ReadFault v bytes same c u = (u, (bytes, c, subst (λ (x : Option (List ℕ)). Appends v.held x []) (sym same) (appends_none v.held)))
unread_cause NoMemory v bytes same c u = tt
unread_cause TooLong v bytes same c u = (u.0, u.1, u.2, subst (λ (x : Option (List ℕ)). Appends v.held x []) (sym same) (appends_none v.held))
unread_cause other v bytes same c u = absurd u
