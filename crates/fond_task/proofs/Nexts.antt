-- The next state lies in the image.
use Rattle.std.proofs.Common.{◌≡◌, ℕ, ◌<◌, ◌≤◌, List, [], ◌∷◌, Bool, true, false, not, Option, Some, None, length, map, cond, refl, sym, ap, ◌∙◌, arith, ⊎_elim}
use Rattle.std.specs.Prelude.{◌&&◌, ◌||◌, ◌==◌, fold, filter, IsTrue}
use Rattle.std.specs.List.{list_all, list_any}
use Rattle.std.proofs.lemmas.Bool.{and_right, or_right, and_parts, ltb-true, cases_lt, ne_eqb}
use Rattle.std.proofs.lemmas.List.{get_or_past}
use Rattle.std.proofs.lemmas.Option.{none-some, same_Some}
use Rattle.fond_state.specs.Cubes.{LiesIn, truth_at, literal_at}
use Rattle.fond_task.specs.declared.form.Kleene.{Kleene}
use Rattle.fond_task.specs.declared.form.Kleene.TheVariants.{No, Unknown, Yes}
use Rattle.fond_task.specs.declared.task.Entry.{Entry}
use Rattle.fond_task.specs.Within.{is_entry_within}
use Rattle.fond_task.specs.Truth.{is_true}
use Rattle.fond_task.specs.Steps.{adds, deletes, next_state}
use Rattle.fond_task.specs.Values.{greater, value}
use Rattle.fond_task.specs.Images.{added_value, deleted_value, after_deletes, after_adds, image}
use Rattle.fond_task.proofs.Indices.{get_or-by_index, by_index_past}
use Rattle.fond_task.proofs.Tells.{Tells, Tells_here, Tells-greater, Tells-value, or_assoc, or_none}

-- the greatest value among the entries that pass tells whether one of them passes and is true
module _ (state : List Bool) (cube : List (Option Bool)) (lies : LiesIn state cube) (passes : Entry → Bool) where
  abbrev some_true : List Entry → Bool
  some_true entries = list_any (λ entry. passes entry && is_true state entry.cond) entries

  abbrev most : Kleene → List Entry → Kleene
  most a entries = fold greater a (map (λ entry. value cube entry.cond) entries)

  Tells_one : (entry : Entry) (entries : List Entry) (b : Bool) (a : Kleene) (x : Bool) → Tells a x → ((a : Kleene) (x : Bool) → Tells a x → Tells (most a (filter passes entries)) (x || some_true entries)) →
      Tells (most a (cond b (entry ∷ filter passes entries) (filter passes entries))) (x || ((b && is_true state entry.cond) || some_true entries))
  Tells_one entry entries false a x of_x rest = rest a x of_x
  Tells_one entry entries true a x of_x rest =
      Tells_here _ _ _ (or_assoc x (is_true state entry.cond) _) (rest (greater a (value cube entry.cond)) (x || is_true state entry.cond) (Tells-greater a _ x _ of_x (Tells-value state cube lies entry.cond)))

  pub Tells_among : (entries : List Entry) (a : Kleene) (x : Bool) → Tells a x → Tells (most a (filter passes entries)) (x || some_true entries)
  Tells_among [] a x of_x = Tells_here a x (x || false) (or_none x) of_x
  Tells_among (entry ∷ entries) a x of_x = Tells_one entry entries (passes entry) a x of_x (Tells_among entries)

-- an atom that no entry can change stays as it is
none_changes : (state : List Bool) (passes : Entry → Bool) (atom : ℕ) (entries : List Entry) → ((entry : Entry) → is_entry_within (length state) entry ≡ true → passes entry ≡ false) → list_all (is_entry_within (length state)) entries ≡ true →
    list_any (λ entry. passes entry && is_true state entry.cond) entries ≡ false
none_changes state passes atom [] misses within = refl
none_changes state passes atom (entry ∷ entries) misses within =
    let parts = and_parts _ _ within in
    rw (misses entry parts.0) (none_changes state passes atom entries misses parts.1)

misses_adds : (n atom : ℕ) → n ≤ atom → (entry : Entry) → is_entry_within n entry ≡ true → (entry.add && entry.atom == atom) ≡ false
misses_adds n atom past entry within =
    let small : entry.atom < n = ltb-true _ _ (and_parts _ _ within).0 in
    and_right entry.add _ (ne_eqb entry.atom atom (λ same. absurd (omega arith)))

pub next_truth : (state : List Bool) (outcome : List Entry) (atom : ℕ) → IsTrue (list_all (is_entry_within (length state)) outcome) →
    truth_at (next_state state outcome) atom ≡ (adds state outcome atom || (truth_at state atom && not (deletes state outcome atom)))
next_truth state outcome atom within = ⊎_elim
    (λ small. get_or-by_index (λ atom value. adds state outcome atom || (value && not (deletes state outcome atom))) state atom false small)
    (λ past.
    let gone = by_index_past (λ atom value. adds state outcome atom || (value && not (deletes state outcome atom))) state atom false past in
    let added : adds state outcome atom ≡ false = none_changes state (λ entry. entry.add && entry.atom == atom) atom outcome (misses_adds (length state) atom past) within in
    let was : truth_at state atom ≡ false = get_or_past state atom false past in
    gone ∙ sym (ap (λ b. b || (truth_at state atom && not (deletes state outcome atom))) added ∙ ap (λ b. b && not (deletes state outcome atom)) was))
    (cases_lt atom (length state))

-- the two tables, beside what happens to an atom that is or is not true
table : (added deleted : Kleene) (known : Option Bool) (adds deletes was sign : Bool) → Tells added adds → Tells deleted deletes → ((said : Bool) → known ≡ Some said → was ≡ said) →
    after_adds added (after_deletes deleted known) ≡ Some sign → (adds || (was && not deletes)) ≡ sign
table Yes deleted known adds deletes was sign of_adds of_deletes told is = rw of_adds (same_Some _ _ is)
table No No known adds deletes was sign of_adds of_deletes told is = rw (of_adds, of_deletes) (and_true was ∙ told sign is)
  where
    and_true : (x : Bool) → (x && true) ≡ x
    and_true true = refl
    and_true false = refl
table No Yes known adds deletes was sign of_adds of_deletes told is = rw (of_adds, of_deletes) (and_right was false refl ∙ same_Some _ _ is)
table No Unknown None adds deletes was sign of_adds of_deletes told is = absurd (none-some _ is)
table No Unknown (Some true) adds deletes was sign of_adds of_deletes told is = absurd (none-some _ is)
table No Unknown (Some false) adds deletes was sign of_adds of_deletes told is = rw (of_adds, told false refl) (same_Some _ _ is)
table Unknown No None adds deletes was sign of_adds of_deletes told is = absurd (none-some _ is)
table Unknown No (Some false) adds deletes was sign of_adds of_deletes told is = absurd (none-some _ is)
table Unknown No (Some true) adds deletes was sign of_adds of_deletes told is = rw (of_deletes, told true refl) (or_right adds true refl ∙ same_Some _ _ is)
table Unknown Yes known adds deletes was sign of_adds of_deletes told is = absurd (none-some _ is)
table Unknown Unknown None adds deletes was sign of_adds of_deletes told is = absurd (none-some _ is)
table Unknown Unknown (Some true) adds deletes was sign of_adds of_deletes told is = absurd (none-some _ is)
table Unknown Unknown (Some false) adds deletes was sign of_adds of_deletes told is = absurd (none-some _ is)

-- if a state lies in a cube, the next state lies in the image
pub image_holds_next : (state : List Bool) (cube : List (Option Bool)) (outcome : List Entry) → IsTrue (list_all (is_entry_within (length state)) outcome) → LiesIn state cube → LiesIn (next_state state outcome) (image cube outcome)
image_holds_next state cube outcome within lies atom sign is = ⊎_elim
    (λ small.
    let here = get_or-by_index (λ atom known. after_adds (added_value cube outcome atom) (after_deletes (deleted_value cube outcome atom) known)) cube atom None small in
    next_truth state outcome atom within
    ∙ table (added_value cube outcome atom) (deleted_value cube outcome atom) (literal_at cube atom) (adds state outcome atom) (deletes state outcome atom) (truth_at state atom) sign
    (Tells_among state cube lies (λ entry. entry.add && entry.atom == atom) outcome No false refl)
    (Tells_among state cube lies (λ entry. not entry.add && entry.atom == atom) outcome No false refl)
    (lies atom) (sym here ∙ is))
    (λ past. absurd (none-some _ (sym (by_index_past (λ atom known. after_adds (added_value cube outcome atom) (after_deletes (deleted_value cube outcome atom) known)) cube atom None past) ∙ is)))
    (cases_lt atom (length cube))
