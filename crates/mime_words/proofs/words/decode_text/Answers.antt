use Rattle.std.proofs.Common.{◌≡◌, ◌++◌, Option, None, Some, option_map, string_bytes, refl, sym, ap, ◌∙◌, lit<}
use Rattle.std.proofs.lemmas.Str.Pattern.{split_parts}
use Rattle.mime_words.specs.declared.words.Word.{Word as Word'}
use Rattle.mime_words.specs.Words.{Cut, cut}
use Rattle.mime_words.specs.Views.{word_of, said_with, meaning_of}
use Rattle.mime_words.proofs.Cuts.{said_maybe, meaning_maybe, plain_all}
use Rattle.mime_words.proofs.words.decode_text.Goals as goal

pub push_piece-requires : goal.push_piece-requires
push_piece-requires c = (split_parts 61 c.loop-front.rest.now (Some (c.in-Some.front, c.in-Some.inner)) c.in-Some.ensures.cases (lit< tt)).1

maybe_said : (o : Option Word') (c : Cut) → said_with o c ≡ said_maybe (option_map word_of o) c
maybe_said None c = refl
maybe_said (Some w) c = refl

maybe_meaning : (o : Option Word') → meaning_of o ≡ meaning_maybe (option_map word_of o)
maybe_meaning None = refl
maybe_meaning (Some w) = refl

pub returns : goal.returns
returns c =
    let out = string_bytes c.loop-front.out in
    let rest = c.loop-front.rest.now in
    let last = c.loop-front.last in
    let o = option_map word_of last in
    let none = split_parts 61 rest None c.in_default.ensures.cases (lit< tt) in
    c.from_string.ensures ∙ c.in_ok-push_text.ensures
    ∙ ap (λ t. out ++ t) (ap (λ t. t ++ rest) (maybe_meaning last) ∙ sym (maybe_said last (cut rest) ∙ plain_all o rest none)) ∙ c.loop-front.invariant.said
