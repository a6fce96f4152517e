-- On the full cube of a state, values are truth, and the image is the full cube of the next state.
use Rattle.std.proofs.Common.{◌≡◌, ℕ, ◌<◌, List, [], ◌∷◌, Bool, true, false, not, Some, None, length, map, cond, refl, ap, ◌∙◌, subst}
use Rattle.std.specs.Prelude.{◌&&◌, ◌||◌, ◌==◌, fold, filter, IsTrue, if◌then◌else◌}
use Rattle.std.specs.List.{list_all, list_any}
use Rattle.std.proofs.lemmas.Bool.{and_parts, ltb-true}
use Rattle.std.proofs.lemmas.List.{get_or-map}
use Rattle.fond_state.specs.Cubes.{full_cube, truth_at, literal_at}
use Rattle.fond_task.specs.declared.form.Form.{Form}
use Rattle.fond_task.specs.declared.form.Form.TheOpen.{Form-F, Truth, Lit, And, Or}
use Rattle.fond_task.specs.declared.form.Form.TheFolds.{fold-roll-Form, ind-Form, map-Form}
use Rattle.fond_task.specs.declared.form.Kleene.{Kleene}
use Rattle.fond_task.specs.declared.form.Kleene.TheVariants.{No, Yes}
use Rattle.fond_task.specs.declared.task.Entry.{Entry}
use Rattle.fond_task.specs.Within.{is_form_within, is_entry_within, within_step}
use Rattle.fond_task.specs.Truth.{is_true, is_true_step}
use Rattle.fond_text.specs.Bools.{is_same}
use Rattle.fond_task.specs.Steps.{adds, deletes, next_state}
use Rattle.fond_task.specs.Values.{lesser, greater, literal_value, value, value_step}
use Rattle.fond_task.specs.Images.{added_value, deleted_value, after_deletes, after_adds, image}
use Rattle.fond_task.proofs.Indices.{map-by_index_from}
use Rattle.fond_task.proofs.Tells.{and_assoc, or_assoc}

abbrev known : Bool → Kleene
known b = if b then Yes else No

known-and : (x y : Bool) → lesser (known x) (known y) ≡ known (x && y)
known-and true true = refl
known-and true false = refl
known-and false y = refl

known-or : (x y : Bool) → greater (known x) (known y) ≡ known (x || y)
known-or true y = refl
known-or false true = refl
known-or false false = refl

module _ (state : List Bool) where
  abbrev IsExact : Form → Type 0
  IsExact form = is_form_within (length state) form ≡ true → value (full_cube state) form ≡ known (is_true state form)

  abbrev forms : List ((form : Form) × IsExact form) → List Form
  forms parts = map (λ e. e.0) parts

  exact-least : (parts : List ((form : Form) × IsExact form)) (x : Bool) → list_all (λ part. part) (map (is_form_within (length state)) (forms parts)) ≡ true →
      fold lesser (known x) (map (value (full_cube state)) (forms parts)) ≡ known (x && list_all (λ part. part) (map (is_true state) (forms parts)))
  exact-least [] true within = refl
  exact-least [] false within = refl
  exact-least (part ∷ parts) x within =
      let each = and_parts _ _ within in
      let here : lesser (known x) (value (full_cube state) part.0) ≡ known (x && is_true state part.0) = ap (lesser (known x)) (part.1 each.0) ∙ known-and x (is_true state part.0) in
      ap (λ a. fold lesser a (map (value (full_cube state)) (forms parts))) here ∙ exact-least parts (x && is_true state part.0) each.1 ∙ ap known (and_assoc x (is_true state part.0) _)

  exact-greatest : (parts : List ((form : Form) × IsExact form)) (x : Bool) → list_all (λ part. part) (map (is_form_within (length state)) (forms parts)) ≡ true →
      fold greater (known x) (map (value (full_cube state)) (forms parts)) ≡ known (x || list_any (λ part. part) (map (is_true state) (forms parts)))
  exact-greatest [] true within = refl
  exact-greatest [] false within = refl
  exact-greatest (part ∷ parts) x within =
      let each = and_parts _ _ within in
      let here : greater (known x) (value (full_cube state) part.0) ≡ known (x || is_true state part.0) = ap (greater (known x)) (part.1 each.0) ∙ known-or x (is_true state part.0) in
      ap (λ a. fold greater a (map (value (full_cube state)) (forms parts))) here ∙ exact-greatest parts (x || is_true state part.0) each.1 ∙ ap known (or_assoc x (is_true state part.0) _)

  exact-literal : (atom : ℕ) (sign : Bool) → atom < length state → literal_value (literal_at (full_cube state) atom) sign ≡ known (is_same (truth_at state atom) sign)
  exact-literal atom sign small = ap (λ known. literal_value known sign) (get_or-map (λ value. Some value) state atom false None small)

  exact-layer : (y : Form-F ((form : Form) × IsExact form)) →
      within_step (length state) (map-Form Form Bool (is_form_within (length state)) (map-Form ((form : Form) × IsExact form) Form (λ e. e.0) y)) ≡ true →
      value_step (full_cube state) (map-Form Form Kleene (value (full_cube state)) (map-Form ((form : Form) × IsExact form) Form (λ e. e.0) y)) ≡ known (is_true_step state (map-Form Form Bool (is_true state) (map-Form ((form : Form) × IsExact form) Form (λ e. e.0) y)))
  exact-layer (Truth b) within = refl
  exact-layer (Lit atom sign) within = exact-literal atom sign (ltb-true _ _ within)
  exact-layer (And parts) within = exact-least parts.items true within
  exact-layer (Or parts) within = exact-greatest parts.items false within

  abbrev IsExactLayer : Form-F Form → Type 0
  IsExactLayer x = within_step (length state) (map-Form Form Bool (is_form_within (length state)) x) ≡ true →
      value_step (full_cube state) (map-Form Form Kleene (value (full_cube state)) x) ≡ known (is_true_step state (map-Form Form Bool (is_true state) x))

  -- on the full cube, a value is the truth
  pub exact-value : (form : Form) → IsExact form
  exact-value = ind-Form IsExact (λ x y is.
      rw (fold-roll-Form Kleene (value_step (full_cube state)) x, fold-roll-Form Bool (is_true_step state) x, fold-roll-Form Bool (within_step (length state)) x)
      (subst IsExactLayer is (exact-layer y)))

  module _ (passes : Entry → Bool) where
    abbrev some_true : List Entry → Bool
    some_true entries = list_any (λ entry. passes entry && is_true state entry.cond) entries

    abbrev most : Kleene → List Entry → Kleene
    most a entries = fold greater a (map (λ entry. value (full_cube state) entry.cond) entries)

    exact_one : (entry : Entry) (entries : List Entry) (b x : Bool) → is_entry_within (length state) entry ≡ true → ((x : Bool) → most (known x) (filter passes entries) ≡ known (x || some_true entries)) →
        most (known x) (cond b (entry ∷ filter passes entries) (filter passes entries)) ≡ known (x || ((b && is_true state entry.cond) || some_true entries))
    exact_one entry entries false x within rest = rest x
    exact_one entry entries true x within rest =
        let truth = exact-value entry.cond (and_parts _ _ within).1 in
        ap (λ a. most a (filter passes entries)) (ap (greater (known x)) truth ∙ known-or x (is_true state entry.cond)) ∙ rest (x || is_true state entry.cond) ∙ ap known (or_assoc x (is_true state entry.cond) _)

    exact_among : (entries : List Entry) (x : Bool) → list_all (is_entry_within (length state)) entries ≡ true → most (known x) (filter passes entries) ≡ known (x || some_true entries)
    exact_among [] true within = refl
    exact_among [] false within = refl
    exact_among (entry ∷ entries) x within =
        let each = and_parts _ _ within in
        exact_one entry entries (passes entry) x each.0 (λ x. exact_among entries x each.1)

exact_table : (adds deletes was : Bool) → after_adds (known adds) (after_deletes (known deletes) (Some was)) ≡ Some (adds || (was && not deletes))
exact_table true deletes was = refl
exact_table false true true = refl
exact_table false true false = refl
exact_table false false true = refl
exact_table false false false = refl

-- the image of the full cube is the full cube of the next state
pub exact-image : (state : List Bool) (outcome : List Entry) → IsTrue (list_all (is_entry_within (length state)) outcome) → image (full_cube state) outcome ≡ full_cube (next_state state outcome)
exact-image state outcome within = map-by_index_from (λ value. Some value) (λ atom value. adds state outcome atom || (value && not (deletes state outcome atom)))
    (λ atom known. after_adds (added_value (full_cube state) outcome atom) (after_deletes (deleted_value (full_cube state) outcome atom) known))
    (λ atom was.
    let added : added_value (full_cube state) outcome atom ≡ known (adds state outcome atom) = exact_among state (λ entry. entry.add && entry.atom == atom) outcome false within in
    let deleted : deleted_value (full_cube state) outcome atom ≡ known (deletes state outcome atom) = exact_among state (λ entry. not entry.add && entry.atom == atom) outcome false within in
    rw (added, deleted) (exact_table (adds state outcome atom) (deletes state outcome atom) was))
    0 state
