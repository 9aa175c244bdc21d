-- The entries of a link: their emails are those that have the link, in number order.
use Rattle.std.proofs.Common.{◌≡◌, ℕ, pos, ◌+◌, ◌≤◌, Bool, true, false, ◌||◌, ◌&&◌, List, [], ◌∷◌, Option, Some, None, refl, sym, ap, ap₂, ◌∙◌, subst, arith, ⊎_elim, bytes_eq}
use Rattle.std.specs.declared.cmp.Ordering.{Ordering}
use Rattle.std.specs.declared.cmp.Ordering.TheVariants.{Less, Equal, Greater}
use Rattle.std.specs.Ordering.{is_eq, is_lt, ordering_then, nat_cmp, int_cmp}
use Rattle.std.specs.Option.{option_cmp}
use Rattle.std.specs.Cmp.{tied_itself, nat_cmp_total, int_cmp_total}
use Rattle.std.specs.Cmp.Lexicographic.{slice_cmp, options_total, nat_list_cmp_total}
use Rattle.std.proofs.lemmas.Bool.{true≢false, or_cases}
use Rattle.std.proofs.lemmas.Slice.Eq.{bytes_eq-Decides}
use Rattle.mail_records.specs.Orders.{Key, has_key, has_text, key_cmp, link_keys_from, linked_key}
use Rattle.mail_records.specs.declared.records.Email.{Email}
use Rattle.mail_records.specs.declared.entries.Linked.{Linked}
use Rattle.mail_records.proofs.KeyOrder.{key_total}
use Rattle.mail_records.proofs.KeyTables.{then_first, then_second, nat_equal}
use Rattle.mail_records.proofs.Unique.{key_equal}
use Rattle.thread_assign.specs.Threads.{has_link}

-- ---- booleans

pub or_left : (a b : Bool) → a ≡ true → (a || b) ≡ true
or_left a b e = rw e refl

pub or_right : (a b : Bool) → b ≡ true → (a || b) ≡ true
or_right true b e = refl
or_right false b e = e

pub and_left : (a b : Bool) → (a && b) ≡ true → a ≡ true
and_left true b e = refl
and_left false b e = e

pub and_right : (a b : Bool) → (a && b) ≡ true → b ≡ true
and_right true b e = e
and_right false b e = absurd (true≢false (sym e))

-- ---- texts of keys

pub text_equal : (a b : List ℕ) → is_eq (slice_cmp nat_cmp a b) ≡ true → a ≡ b
text_equal [] [] e = refl
text_equal [] (y ∷ ys) e = absurd (true≢false (sym e))
text_equal (x ∷ xs) [] e = absurd (true≢false (sym e))
text_equal (x ∷ xs) (y ∷ ys) e =
    ap₂ (λ z zs. z ∷ zs) (nat_equal x y (then_first (nat_cmp x y) (slice_cmp nat_cmp xs ys) e))
    (text_equal xs ys (then_second (nat_cmp x y) (slice_cmp nat_cmp xs ys) e))

pub same_text : (text : List ℕ) → is_eq (slice_cmp nat_cmp text text) ≡ true
same_text text = ap is_eq (tied_itself nat_list_cmp_total text)

-- the key of a link
abbrev pub at_link : List ℕ → ℕ → ℕ → Key
at_link link number place = record { group = None; text = link; received = pos 0; number = number; place = place }

-- a link of a list has a key
pub has_link_key : (link : List ℕ) (n q : ℕ) (links : List (List ℕ)) → has_link links link ≡ true → (p : ℕ) × (has_key (at_link link n p) (link_keys_from n q links) ≡ true)
has_link_key link n q [] h = absurd (true≢false (sym h))
has_link_key link n q (l ∷ ls) h =
    ⊎_elim
    (λ (t : bytes_eq l link ≡ true).
    let same : l ≡ link = (bytes_eq-Decides l link).0 t in
    let here : is_eq (key_cmp (at_link l n q) (at_link link n q)) ≡ true =
    subst (λ x. is_eq (key_cmp (at_link x n q) (at_link link n q)) ≡ true) (sym same) (ap is_eq (tied_itself key_total (at_link link n q))) in
    (q, or_left (is_eq (key_cmp (at_link l n q) (at_link link n q))) (has_key (at_link link n q) (link_keys_from n (q + 1) ls)) here))
    (λ (t : has_link ls link ≡ true).
    let rest = has_link_key link n (q + 1) ls t in
    (rest.0, or_right (is_eq (key_cmp (at_link l n q) (at_link link n rest.0))) (has_key (at_link link n rest.0) (link_keys_from n (q + 1) ls)) rest.1))
    (or_cases (bytes_eq l link) (has_link ls link) h)

-- a key with the text is of that link
pub key_link : (link : List ℕ) (k : Key) (n q : ℕ) (links : List (List ℕ)) → has_text link k ≡ true → has_key k (link_keys_from n q links) ≡ true → has_link links link ≡ true
key_link link k n q [] text h = absurd (true≢false (sym h))
key_link link k n q (l ∷ ls) text h =
    ⊎_elim
    (λ (t : is_eq (key_cmp (at_link l n q) k) ≡ true).
    let one : at_link l n q ≡ k = key_equal (at_link l n q) k t in
    let same : l ≡ link = ap (λ x. x.text) one ∙ text_equal k.text link text in
    or_left (bytes_eq l link) (has_link ls link) ((bytes_eq-Decides l link).1 same))
    (λ (t : has_key k (link_keys_from n (q + 1) ls) ≡ true). or_right (bytes_eq l link) (has_link ls link) (key_link link k n (q + 1) ls text t))
    (or_cases (is_eq (key_cmp (at_link l n q) k)) (has_key k (link_keys_from n (q + 1) ls)) h)

-- ---- keys of entries

pub entry_number : (o : Option Email) (l : Linked) → (linked_key o l).number ≡ l.email
entry_number (Some e) l = refl
entry_number None l = refl

pub entry_time : (o : Option Email) (l : Linked) → (linked_key o l).received ≡ pos 0
entry_time (Some e) l = refl
entry_time None l = refl

pub entry_group : (o : Option Email) (l : Linked) → (linked_key o l).group ≡ None
entry_group (Some e) l = refl
entry_group None l = refl

-- keys that differ in number and place alone rise by number
then_less : (r s : Ordering) → r ≡ Equal → ordering_then r s ≡ Less → s ≡ Less
then_less r s e h = subst (λ x. ordering_then x s ≡ Less) e h

number_le : (m n : ℕ) (s : Ordering) → ordering_then (nat_cmp m n) s ≡ Less → m ≤ n
number_le m n s e = decide (nat_cmp m n) refl e
  where
    decide : (r : Ordering) → nat_cmp m n ≡ r → ordering_then r s ≡ Less → m ≤ n
    decide Less is h = grind (arith, is)
    decide Equal is h = grind (arith, is)
    decide Greater is h = absurd (true≢false (sym (ap is_lt h)))

pub rises_number : (x y : Key) → x.group ≡ y.group → x.text ≡ y.text → x.received ≡ y.received → key_cmp x y ≡ Less → x.number ≤ y.number
rises_number x y group text time less =
    let places = nat_cmp x.place y.place in
    let numbers = ordering_then (nat_cmp x.number y.number) places in
    let times = ordering_then (int_cmp x.received y.received) numbers in
    let texts = ordering_then (slice_cmp nat_cmp x.text y.text) times in
    let same_group : option_cmp nat_cmp x.group y.group ≡ Equal = subst (λ z. option_cmp nat_cmp x.group z ≡ Equal) group (tied_itself (options_total nat_cmp_total) x.group) in
    let same_texts : slice_cmp nat_cmp x.text y.text ≡ Equal = subst (λ z. slice_cmp nat_cmp x.text z ≡ Equal) text (tied_itself nat_list_cmp_total x.text) in
    let same_time : int_cmp x.received y.received ≡ Equal = subst (λ z. int_cmp x.received z ≡ Equal) time (tied_itself int_cmp_total x.received) in
    let one = then_less (option_cmp nat_cmp x.group y.group) texts same_group less in
    let two = then_less (slice_cmp nat_cmp x.text y.text) times same_texts one in
    let three = then_less (int_cmp x.received y.received) numbers same_time two in
    number_le x.number y.number places three
