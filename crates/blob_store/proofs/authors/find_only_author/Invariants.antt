use Rattle.std.proofs.Common.{◌≡◌, ◌∷◌, MatchOption, drop}
use Rattle.blob_store.specs.Authors.{author_values}
use Rattle.blob_store.proofs.authors.find_only_author.Given as goal

abbrev pub invariant-loop-field : goal.invariant-loop-field
invariant-loop-field l =
    MatchOption l.only (author_values l.bytes l.fields ≡ author_values l.bytes (drop l.field-index l.fields))
    (λ v. author_values l.bytes l.fields ≡ v.now ∷ author_values l.bytes (drop l.field-index l.fields))
