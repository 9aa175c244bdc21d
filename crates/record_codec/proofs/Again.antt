-- What is encoded is read back, and is encoded of one commit.
use Rattle.std.proofs.Common.{◌≡◌, ℕ, List, [], Result, Ok, Err, refl, sym, ap, ◌∙◌, ◌⊎◌, inl, inr}
use Rattle.std.proofs.lemmas.List.{append-nil}
use Rattle.mail_records.specs.declared.edits.Commit.{Commit}
use Rattle.record_codec.specs.declared.faults.CodecFault.{CodecFault}
use Rattle.record_codec.specs.declared.faults.CodecFault.TheVariants.{NotACommit, NoMemory}
use Rattle.record_codec.specs.Offsets.{IsRead, IsEncodingOf}
use Rattle.record_codec.specs.Encoding.{encoding}
use Rattle.record_codec.proofs.OfCommits.{commit_one}

pub one_commit : (bytes : List ℕ) (a b : Commit) → IsEncodingOf bytes a → IsEncodingOf bytes b → a ≡ b
one_commit bytes a b p q =
    (commit_one a b [] [] (p.has.wide, p.has.formed) (q.has.wide, q.has.formed) (append-nil (encoding a) ∙ sym p.is ∙ q.is ∙ sym (append-nil (encoding b)))).0

pub same_bytes : (one other : List ℕ) (c : Commit) → IsEncodingOf one c → IsEncodingOf other c → one ≡ other
same_bytes one other c p q = p.is ∙ sym q.is

pub again : (bytes : List ℕ) (c : Commit) (answer : Result Commit CodecFault) → IsEncodingOf bytes c → IsRead bytes answer → (answer ≡ Ok c) ⊎ (answer ≡ Err NoMemory)
again bytes c (Ok d) encoded read = inl (ap (λ e. Ok e) (one_commit bytes d c read encoded))
again bytes c (Err (NotACommit place)) encoded read = absurd (read.is_none c encoded)
again bytes c (Err NoMemory) encoded read = inr refl
