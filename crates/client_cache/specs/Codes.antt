-- By what a proof tells the values apart that contracts see.
use Rattle.std.specs.Prelude.{ℕ, List, Bool, Option, refl}
use Rattle.std.specs.Coded.{Coded, code_by, coded×, coded_bool, coded_list, coded_option, coded_ℕ}
use Rattle.jm_json.specs.Tree.{Tree}
use Rattle.jm_json.specs.TreeCodes.{tree_code}
use Rattle.client_cache.specs.Caches.{Cached, KindView, ListView}

abbrev pub text_code : Coded (List ℕ)
text_code = coded_list coded_ℕ

abbrev pub records_code : Coded (List (List ℕ × Tree))
records_code = coded_list (coded× text_code tree_code)

abbrev pub kind_view_code : Coded KindView
kind_view_code =
    code_by (List (List ℕ × Tree) × Option ℕ)
    (coded× records_code (coded_option coded_ℕ))
    (λ k. (k.records, k.state)) (λ p. record { records = p.0; state = p.1 }) (λ _. refl)

abbrev pub list_view_code : Coded ListView
list_view_code =
    code_by (List ℕ × (Tree × (Tree × (Bool × (List ℕ × Option ℕ)))))
    (coded× text_code
    (coded× tree_code
    (coded× tree_code
    (coded× coded_bool (coded× (coded_list coded_ℕ) (coded_option coded_ℕ))))))
    (λ l. (l.name, (l.filter, (l.sort, (l.collapse, (l.ids, l.state))))))
    (λ p. record {
      name = p.0;
      filter = p.1.0;
      sort = p.1.1.0;
      collapse = p.1.1.1.0;
      ids = p.1.1.1.1.0;
      state = p.1.1.1.1.1;
    })
    (λ _. refl)

abbrev pub cached_code : Coded Cached
cached_code =
    code_by (Option (List ℕ) × (KindView × (KindView × (KindView × List ListView))))
    (coded× (coded_option text_code)
    (coded× kind_view_code
    (coded× kind_view_code (coded× kind_view_code (coded_list list_view_code)))))
    (λ c. (c.account, (c.mailboxes, (c.emails, (c.threads, c.lists)))))
    (λ p. record {
      account = p.0;
      mailboxes = p.1.0;
      emails = p.1.1.0;
      threads = p.1.1.1.0;
      lists = p.1.1.1.1;
    })
    (λ _. refl)
