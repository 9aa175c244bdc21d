use Rattle.std.proofs.Common.{◌≡◌, ◌++◌, [], ℕ, List, OnOk, length, string_bytes, subst, sym, ap, ◌∙◌, arith}
use Rattle.std.specs.Str.{IsUtf8, chars}
use Rattle.std.proofs.lemmas.Str.{chars_past_char, IsUtf8-past_char}
use Rattle.mime_words.specs.WrittenWords.{word_text}
use Rattle.mime_writer.specs.Pieces.{words_from}
use Rattle.mime_writer.proofs.WordPieces.{empty, words_begin, words_end}
use Rattle.mime_writer.proofs.words.push_words.Goals as goal

pub loop-c-init : goal.loop-c-init
loop-c-init c =
    let start : c.into_iter-c-iterator.result.rest.now ≡ c.args.text.now =
    ap (λ r. r.rest.now) c.into_iter-c-iterator.ensures.into_iter_gives ∙ c.chars-c-items.ensures.rest in
    let out = c.args.out.now.items in
    let between = c.args.between.now in
    record {
      utf8 = subst IsUtf8 (sym start) c.utf8.text;
      within = omega (arith, ap length c.new-piece.ensures.bytes);
      same = ap (λ p. out ++ words_from between p (chars c.into_iter-c-iterator.result.rest.now)) c.new-piece.ensures.bytes
          ∙ ap (λ r. out ++ words_from between [] (chars r)) start
          ∙ ap (λ t. out ++ t) (words_begin between c.args.text.now);
    }

pub loop-c-preserved : goal.loop-c-preserved
loop-c-preserved c =
    let held = c.loop-c.invariant in
    let parts = c.in-Some.ensures.steps.0 in
    let past = chars_past_char _ _ c.in-Some.c held.utf8 parts in
    record {
      utf8 = IsUtf8-past_char _ _ c.in-Some.c held.utf8 parts;
      within = c.in_ok-push_character.ensures.within;
      same = c.in_ok-push_character.ensures.text (chars c.next.new.self.rest.now)
          ∙ ap (λ cs. c.loop-c.out.items ++ words_from c.args.between.now (string_bytes c.loop-c.piece) cs) (sym past)
          ∙ held.same;
    }

pub returns : goal.returns
unfolding chars
returns c =
    let between = c.args.between.now in
    let piece = string_bytes c.loop-c.piece in
    let done : c.loop-c.c-iterator.rest.now ≡ [] = empty c.loop-c.c-iterator.rest.now c.in-None.ensures.steps.0.0 in
    let last : word_text c.as_bytes.result.now ≡ words_from between piece (chars c.loop-c.c-iterator.rest.now) =
    ap word_text c.as_bytes.ensures.value ∙ sym (words_end between piece) ∙ ap (λ r. words_from between piece (chars r)) (sym done) in
    subst (λ (t : List ℕ). OnOk c.push_word.result (c.push_word.new.out.items ≡ t)) (ap (λ t. c.loop-c.out.items ++ t) last ∙ c.loop-c.invariant.same) c.push_word.ensures
