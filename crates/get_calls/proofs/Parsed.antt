-- The response to an Email/parse, from its parts.
use Rattle.std.proofs.Common.{◌≡◌, ℕ, ◌≤◌, ◌+◌, List, [], ◌∷◌, ◌++◌, length, map, true, false, Option, Some, unwrap_or, refl, sym, ap, ap₂, ◌∙◌, arith}
use Rattle.std.specs.Prelude.{nat_lt, if◌then◌else◌, filter_map}
use Rattle.std.proofs.lemmas.List.Elements.{filter_map-append}
use Rattle.std.proofs.lemmas.Bool.Decides.{nat_tests}
use Rattle.jm_json.specs.Tree.{Tree, text}
use Rattle.jm_json.specs.Order.{put}
use Rattle.method_args.specs.Arguments.{account_in}
use Rattle.method_args.specs.declared.TheConstants.{MAX_OBJECTS_PER_CALL}
use Rattle.get_args.specs.Wanted.{asked}
use Rattle.get_args.specs.declared.wanted.Wanted.{Wanted}
use Rattle.mail_view.specs.Objects.{put_all}
use Rattle.mail_view.specs.Gets.{got, too_large}
use Rattle.mail_view.specs.Records.{first_mentions, naming_none}
use Rattle.method_args.specs.Wrapped.{list_or_null, object_or_null}
use Rattle.mail_view.specs.Parses.{parse_asked, parse_reply, parse_tree, parsed_member, parsed_view}

put_append : (xs ys ms : List (List ℕ × Tree)) → put_all (xs ++ ys) ms ≡ put_all ys (put_all xs ms)
put_append [] ys ms = refl
put_append (x ∷ xs) ys ms = put_append xs ys (put x.0 x.1 ms)

-- what one more id names is put in last
pub views_more : (member : List ℕ → Option (List ℕ × Tree)) (ts all : List (List ℕ)) (s : List ℕ) (old new : List (List ℕ × Tree)) → all ≡ ts ++ s ∷ []
    → old ≡ put_all (filter_map member ts) [] → new ≡ put_all (filter_map member (s ∷ [])) old → new ≡ put_all (filter_map member all) []
views_more member ts all s old new more before step =
    step ∙ ap (put_all (filter_map member (s ∷ []))) before ∙ sym (put_append (filter_map member ts) (filter_map member (s ∷ [])) [])
    ∙ ap (λ xs. put_all xs []) (sym (filter_map-append member ts (s ∷ []))) ∙ ap (λ xs. put_all (filter_map member xs) []) (sym more)

few : (n : ℕ) → n ≤ MAX_OBJECTS_PER_CALL → nat_lt MAX_OBJECTS_PER_CALL n ≡ false
few n h = grind (arith, nat_tests)

many : (n : ℕ) → MAX_OBJECTS_PER_CALL + 1 ≤ n → nat_lt MAX_OBJECTS_PER_CALL n ≡ true
many n h = grind (arith, nat_tests)

asked_few : (blobs : List (List ℕ)) (wanted : Wanted) (args : List (List ℕ × Tree)) (ids : List (List ℕ)) → nat_lt MAX_OBJECTS_PER_CALL (length ids) ≡ false
    → parse_asked blobs args ids (asked wanted) ≡ got (parse_reply blobs wanted args ids)
asked_few blobs wanted args ids e = rw e refl

asked_many : (blobs : List (List ℕ)) (wanted : Wanted) (args : List (List ℕ × Tree)) (ids : List (List ℕ)) → nat_lt MAX_OBJECTS_PER_CALL (length ids) ≡ true
    → parse_asked blobs args ids (asked wanted) ≡ too_large
asked_many blobs wanted args ids e = rw e refl

pub too_many : (blobs : List (List ℕ)) (wanted : Wanted) (args : List (List ℕ × Tree)) (ids : List (List ℕ)) → MAX_OBJECTS_PER_CALL + 1 ≤ length ids
    → parse_asked blobs args ids (asked wanted) ≡ too_large
too_many blobs wanted args ids h = asked_many blobs wanted args ids (many (length ids) h)

-- the parts of a response make the answer, if few messages are asked for
pub parsed : (blobs : List (List ℕ)) (wanted : Wanted) (args : List (List ℕ × Tree)) (ids firsts : List (List ℕ)) (account : List ℕ) (views : List (List ℕ × Tree)) (unknown : List Tree)
    → account_in args ≡ Some account → length ids ≤ MAX_OBJECTS_PER_CALL → firsts ≡ first_mentions ids
    → views ≡ put_all (filter_map (parsed_member blobs wanted) firsts) [] → unknown ≡ map text (naming_none (parsed_view blobs wanted) firsts)
    → parse_asked blobs args ids (asked wanted) ≡ got (parse_tree account (list_or_null unknown) (object_or_null views))
parsed blobs wanted args ids firsts account views unknown known count same shown nothing =
    let views_are : put_all (filter_map (parsed_member blobs wanted) (first_mentions ids)) [] ≡ views =
    sym (shown ∙ ap (λ xs. put_all (filter_map (parsed_member blobs wanted) xs) []) same) in
    let unknown_is : map text (naming_none (parsed_view blobs wanted) (first_mentions ids)) ≡ unknown = sym (nothing ∙ ap (λ xs. map text (naming_none (parsed_view blobs wanted) xs)) same) in
    asked_few blobs wanted args ids (few (length ids) count)
    ∙ ap (λ o. got (parse_tree (unwrap_or o []) (list_or_null (map text (naming_none (parsed_view blobs wanted) (first_mentions ids)))) (object_or_null (put_all (filter_map (parsed_member blobs wanted) (first_mentions ids)) [])))) known
    ∙ ap₂ (λ xs ys. got (parse_tree account (list_or_null xs) (object_or_null ys))) unknown_is views_are
