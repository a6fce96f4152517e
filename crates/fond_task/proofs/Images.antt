-- Changing what is known of atoms entry by entry: the deletes, and then the adds, make the image.
use Rattle.std.proofs.Common.{◌≡◌, ℕ, ◌<◌, List, [], ◌∷◌, Bool, true, false, not, Option, Some, None, length, map, cond, refl, sym, ap, ◌∙◌, arith}
use Rattle.std.specs.Prelude.{◌&&◌, ◌==◌, fold, filter, if◌then◌else◌}
use Rattle.std.proofs.lemmas.List.{ext_get_or}
use Rattle.fond_text.specs.Bools.{is_same}
use Rattle.fond_state.specs.Cubes.{literal_at}
use Rattle.fond_task.specs.declared.form.Kleene.{Kleene}
use Rattle.fond_task.specs.declared.form.Kleene.TheVariants.{No, Unknown, Yes}
use Rattle.fond_task.specs.declared.task.Entry.{Entry}
use Rattle.fond_task.specs.Values.{lesser, greater, value}
use Rattle.fond_task.specs.Images.{added_value, deleted_value, changed_value, after_deletes, after_adds, after_changes, image}
use Rattle.fond_task.proofs.Indices.{length-by_index, get_or-by_index}

-- the least of No and other values is No, and the greatest of Yes and other values is Yes
pub least_no : (values : List Kleene) → fold lesser No values ≡ No
least_no [] = refl
least_no (value ∷ values) = least_no values

pub greatest_yes : (values : List Kleene) → fold greater Yes values ≡ Yes
greatest_yes [] = refl
greatest_yes (value ∷ values) = greatest_yes values

greater_assoc : (a b c : Kleene) → greater (greater a b) c ≡ greater a (greater b c)
greater_assoc No b c = refl
greater_assoc Unknown No c = refl
greater_assoc Unknown Unknown No = refl
greater_assoc Unknown Unknown Unknown = refl
greater_assoc Unknown Unknown Yes = refl
greater_assoc Unknown Yes c = refl
greater_assoc Yes b c = refl

greater_no : (a : Kleene) → greater a No ≡ a
greater_no No = refl
greater_no Unknown = refl
greater_no Yes = refl

-- the greatest of a value and others is the greater of it and their greatest
greater_first : (a : Kleene) (values : List Kleene) → fold greater a values ≡ greater a (fold greater No values)
greater_first a [] = sym (greater_no a)
greater_first a (value ∷ values) =
    greater_first (greater a value) values ∙ greater_assoc a value (fold greater No values) ∙ ap (greater a) (sym (greater_first value values))

-- changes of two values, one after the other, are a change of the greater
after_both : (adds : Bool) (a b : Kleene) (known : Option Bool) → after_changes adds b (after_changes adds a known) ≡ after_changes adds (greater a b) known
after_both true No b known = refl
after_both true Unknown No None = refl
after_both true Unknown No (Some true) = refl
after_both true Unknown No (Some false) = refl
after_both true Unknown Unknown None = refl
after_both true Unknown Unknown (Some true) = refl
after_both true Unknown Unknown (Some false) = refl
after_both true Unknown Yes None = refl
after_both true Unknown Yes (Some true) = refl
after_both true Unknown Yes (Some false) = refl
after_both true Yes No known = refl
after_both true Yes Unknown known = refl
after_both true Yes Yes known = refl
after_both false No b known = refl
after_both false Unknown No None = refl
after_both false Unknown No (Some true) = refl
after_both false Unknown No (Some false) = refl
after_both false Unknown Unknown None = refl
after_both false Unknown Unknown (Some true) = refl
after_both false Unknown Unknown (Some false) = refl
after_both false Unknown Yes None = refl
after_both false Unknown Yes (Some true) = refl
after_both false Unknown Yes (Some false) = refl
after_both false Yes No known = refl
after_both false Yes Unknown known = refl
after_both false Yes Yes known = refl

module _ (adds : Bool) (cube : List (Option Bool)) (known : Option Bool) where
  abbrev most : Kleene → List Entry → Kleene
  most a entries = fold greater a (map (λ entry. value cube entry.cond) entries)

  one_more : (entry : Entry) (entries : List Entry) (b : Bool) →
      after_changes adds (most No entries) (if b then after_changes adds (value cube entry.cond) known else known)
      ≡ after_changes adds (most No (cond b (entry ∷ entries) entries)) known
  one_more entry entries true =
      after_both adds (value cube entry.cond) (most No entries) known
      ∙ ap (λ a. after_changes adds a known) (sym (greater_first (value cube entry.cond) (map (λ entry. value cube entry.cond) entries)))
  one_more entry entries false = refl

same_true : (x : Bool) → is_same x true ≡ x
same_true true = refl
same_true false = refl

same_false : (x : Bool) → is_same x false ≡ not x
same_false true = refl
same_false false = refl

-- the change by an entry, and then that by the rest, are that by both
pub put_more : (adds : Bool) (cube : List (Option Bool)) (entry : Entry) (entries : List Entry) (atom : ℕ) (known : Option Bool) →
    after_changes adds (changed_value adds cube entries atom) (if is_same entry.add adds && entry.atom == atom then after_changes adds (value cube entry.cond) known else known)
    ≡ after_changes adds (changed_value adds cube (entry ∷ entries) atom) known
put_more true cube entry entries atom known =
    ap (λ b. after_adds (added_value cube entries atom) (if b && entry.atom == atom then after_adds (value cube entry.cond) known else known)) (same_true entry.add)
    ∙ one_more true cube known entry (filter (λ entry. entry.add && entry.atom == atom) entries) (entry.add && entry.atom == atom)
put_more false cube entry entries atom known =
    ap (λ b. after_deletes (deleted_value cube entries atom) (if b && entry.atom == atom then after_deletes (value cube entry.cond) known else known)) (same_false entry.add)
    ∙ one_more false cube known entry (filter (λ entry. not entry.add && entry.atom == atom) entries) (not entry.add && entry.atom == atom)

-- deletes that are followed by adds make the image
pub image_by_puts : (cube copy between out : List (Option Bool)) (entries : List Entry) → copy ≡ cube → length between ≡ length copy → length out ≡ length between →
    ((k : ℕ) → k < length copy → literal_at between k ≡ after_deletes (deleted_value cube entries k) (literal_at copy k)) →
    ((k : ℕ) → k < length between → literal_at out k ≡ after_adds (added_value cube entries k) (literal_at between k)) →
    out ≡ image cube entries
image_by_puts cube copy between out entries same first second deleted added =
    let change = λ (atom : ℕ) (known : Option Bool). after_adds (added_value cube entries atom) (after_deletes (deleted_value cube entries atom) known) in
    let long : length copy ≡ length cube = ap length same in
    ext_get_or None out (image cube entries) (omega (arith, length-by_index change cube)) (λ k within.
    let before : k < length copy = omega arith in
    let here : k < length cube = omega arith in
    added k (omega arith)
    ∙ ap (after_adds (added_value cube entries k)) (deleted k before ∙ ap (λ w. after_deletes (deleted_value cube entries k) (literal_at w k)) same)
    ∙ sym (get_or-by_index change cube k None here))
