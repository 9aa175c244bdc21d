use Rattle.std.proofs.Common.{◌≡◌, [], ◌∷◌, ◌++◌, Option, Some, None, option_map, string_bytes, refl, sym, ap, ◌∙◌, append_assoc, lit<}
use Rattle.mime_words.specs.declared.words.Word.{Word as Word'}
use Rattle.mime_words.specs.Words.{Cut, word_at, cut, joined, said}
use Rattle.mime_words.specs.Views.{word_of, found_of, said_with, meaning_of}
use Rattle.mime_words.proofs.Cuts.{said_maybe, meaning_maybe, sign_all, word_cut}
use Rattle.mime_words.proofs.words.push_piece.Goals as goal

pub returns-in-Some-clause-value : goal.returns-in-Some-clause-value
returns-in-Some-clause-value c =
    let front = c.args.front.now in
    let inner = c.args.inner.now in
    let w = word_of c.in-Some.found.word in
    let rest = c.in-Some.found.rest.now in
    let is : word_at (61 ∷ inner) ≡ Some (w, rest) = sym c.in_ok-found.ensures.value ∙ ap (option_map found_of) c.in-Some.is in
    c.in_ok-last-in-Some.ensures (cut rest)
    ∙ ap (λ k. string_bytes c.args.out.now ++ said_with c.args.last k) (sym (word_cut front inner w rest c.requires is))

maybe_said : (o : Option Word') (c : Cut) → said_with o c ≡ said_maybe (option_map word_of o) c
maybe_said None c = refl
maybe_said (Some w) c = refl

maybe_meaning : (o : Option Word') → meaning_of o ≡ meaning_maybe (option_map word_of o)
maybe_meaning None = refl
maybe_meaning (Some w) = refl

pub returns-clause-value : goal.returns-clause-value
returns-clause-value c =
    let out = string_bytes c.args.out.now in
    let front = c.args.front.now in
    let inner = c.args.inner.now in
    let o = option_map word_of c.args.last in
    let later = said _ (joined (cut inner)) in
    let is : word_at (61 ∷ inner) ≡ None = sym c.in_ok-found.ensures.value ∙ ap (option_map found_of) c.in-None.is in
    let bytes : string_bytes c.push.new.self ≡ (out ++ (meaning_maybe o ++ front)) ++ (61 ∷ []) =
    c.in_ok-push-in-None.ensures.bytes ∙ ap (λ t. string_bytes c.push_text.new.out ++ t) (c.in_ok-push-in-None.ensures.ascii (lit< tt))
    ∙ ap (λ t. t ++ (61 ∷ [])) (c.in_ok-push_text-in-None.ensures ∙ ap (λ t. out ++ (t ++ front)) (maybe_meaning c.args.last)) in
    ap (λ t. t ++ later) bytes ∙ append_assoc (out ++ (meaning_maybe o ++ front)) (61 ∷ []) later ∙ append_assoc out (meaning_maybe o ++ front) (61 ∷ later)
    ∙ ap (λ t. out ++ t) (sym (maybe_said c.args.last (cut (front ++ 61 ∷ inner)) ∙ sign_all o front inner c.requires is))
