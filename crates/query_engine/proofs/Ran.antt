-- What a page that a query went over comes to.
use Rattle.std.proofs.Common.{◌≡◌, ℕ, if◌then◌else◌, List, [], ◌∷◌, ◌++◌, Option, refl, ap, ap₂, ◌∙◌}
use Rattle.mail_records.specs.Contents.{Content, email_number}
use Rattle.mail_records.specs.Tables.{IsTable}
use Rattle.filter_terms.specs.Texts.{MessageTexts}
use Rattle.query_engine.specs.Queries.{result_list}
use Rattle.query_engine.specs.Threads.{first_of_threads}
use Rattle.query_engine.specs.Views.{QueryTree}
use Rattle.query_engine.specs.Walks.{Follows, at_most, collapses, goes_on, matches_list}
use Rattle.query_engine.specs.declared.page.Page.{Page}
use Rattle.query_engine.proofs.Collapsed.{result_is}

append_none : (xs : List ℕ) → xs ++ [] ≡ xs
append_none [] = refl
append_none (x ∷ xs) = ap (λ ys. x ∷ ys) (append_none xs)

pub ran : (q : QueryTree) (c : Content) (texts : ℕ → MessageTexts) (max : Option ℕ) (first last : Page) (result : List ℕ) → IsTable email_number c.emails
    → first.numbers.items ≡ [] → first.threads.keys ≡ [] → first.collapse ≡ collapses q → first.max ≡ max
    → Follows c first last (matches_list q c texts) → result ≡ goes_on c last [] → result ≡ at_most max (result_list q c texts)
ran q c texts max first last result table numbers threads collapse most follows is =
    let all = matches_list q c texts in
    is
    ∙ (follows []
    ∙ (ap (goes_on c first) (append_none all)
    ∙ (ap₂ (λ m ns. at_most m (ns ++ (if first.collapse then first_of_threads c first.threads.keys all else all))) most numbers
    ∙ ap (at_most max) (ap₂ (λ b ks. if b then first_of_threads c ks all else all) collapse threads ∙ result_is q c texts table))))
