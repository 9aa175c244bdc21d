-- How the writing of a draft ends.
use Rattle.std.proofs.Common.{◌≡◌, ℕ, ◌≤◌, List, length, Result, Ok, Err, refl, sym, subst}
use Rattle.jm_base.specs.declared.limits.TheConstants.{MAX_UPLOAD_BYTES}
use Rattle.jm_json.specs.Tree.{Tree}
use Rattle.draft_form.specs.declared.read.DraftFault.{DraftFault}
use Rattle.draft_form.specs.declared.read.DraftFault.TheVariants.{Invalid, TooLarge, NoMemory}
use Rattle.draft_writer.specs.Messages.{IsDraftText}
use Rattle.draft_writer.specs.Outcomes.{IsEnding, IsWriting}

pub ending_is : (ms : List (List ℕ × Tree)) (blobs : List (List ℕ)) (number moment : ℕ) (r : Result (List ℕ) DraftFault) (text : List ℕ)
    → ((t : List ℕ) → t ≡ text → IsDraftText ms blobs number moment t) → IsEnding r text → IsWriting r ms blobs number moment
ending_is ms blobs number moment (Ok bytes) text f h = (f bytes h.0, subst (λ t. length t ≤ MAX_UPLOAD_BYTES) (sym h.0) h.1)
ending_is ms blobs number moment (Err (Invalid names)) text f h = absurd h
ending_is ms blobs number moment (Err TooLarge) text f h = (text, f text refl, h)
ending_is ms blobs number moment (Err NoMemory) text f h = tt
