use Rattle.std.proofs.Common.{◌≡◌, ℕ, List, Option, ◌&&◌, sym, ap, ◌∙◌, bytes_eq}
use Rattle.mail_counts.specs.Tidy.{same_parent}
use Rattle.set_parts.specs.Views.{holds}
use Rattle.set_parts.specs.declared.text_set.Key.{Key}
use Rattle.set_parts.proofs.Texts.{any_same, key_tested, added_key, same_parent_flip, texts_flip}
use Rattle.set_parts.proofs.text_set.add_text.Goals as goal

pub returns : goal.returns
returns c =
    λ (g : Option ℕ) (s : List ℕ).
    let k : Key = record { group = g; text = record { ref_ptr = (0, 0); now = s } } in
    let found : (keys : List Key) → _ ≡ holds keys g s = λ keys. any_same _ _ (λ (x : Key). key_tested g x.group s x.text.now) keys in
    sym (found c.insert.new.self.keys) ∙ (c.in_ok-_was_new.ensures.updates.0 k
    ∙ added_key _ _ _ _
    (key_tested c.args.group g c.args.text.now s
    ∙ (ap (λ b. b && bytes_eq s c.args.text.now) (same_parent_flip g c.args.group) ∙ ap (λ b. same_parent c.args.group g && b) (texts_flip s c.args.text.now)))
    (found c.args.set.now.keys.keys))
