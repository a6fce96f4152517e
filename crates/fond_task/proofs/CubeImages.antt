-- The image of a cube with more literals lies in the image of the cube.
use Rattle.std.proofs.Common.{◌≡◌, ℕ, List, [], ◌∷◌, Bool, true, false, not, Option, Some, None, length, map, cond, refl, sym, ap, ◌∙◌, ⊎_elim, arith}
use Rattle.std.specs.Prelude.{◌&&◌, ◌==◌, fold, filter}
use Rattle.std.proofs.lemmas.Bool.{cases_lt}
use Rattle.std.proofs.lemmas.Option.{none-some}
use Rattle.fond_state.specs.Cubes.{CubeLiesIn, literal_at}
use Rattle.fond_task.specs.declared.form.Kleene.{Kleene}
use Rattle.fond_task.specs.declared.form.Kleene.TheVariants.{No, Unknown, Yes}
use Rattle.fond_task.specs.declared.task.Entry.{Entry}
use Rattle.fond_task.specs.Values.{greater, value}
use Rattle.fond_task.specs.Images.{added_value, deleted_value, after_deletes, after_adds, image}
use Rattle.fond_task.proofs.Indices.{get_or-by_index, by_index_past}
use Rattle.fond_task.proofs.Values.{Keeps, Keeps-greater, Keeps-value}

-- what is known of an atom is known still
abbrev Says : Option Bool → Option Bool → Type 0
Says known other = (said : Bool) → known ≡ Some said → other ≡ Some said

false_stays : (a : Kleene) → after_deletes a (Some false) ≡ Some false
false_stays No = refl
false_stays Unknown = refl
false_stays Yes = refl

true_stays : (a : Kleene) → after_adds a (Some true) ≡ Some true
true_stays No = refl
true_stays Unknown = refl
true_stays Yes = refl

says_deletes : (a x : Kleene) (known other : Option Bool) → Keeps a x → Says known other → Says (after_deletes a known) (after_deletes x other)
says_deletes No x known other of_x says said is = ap (λ v. after_deletes v other) of_x ∙ says said is
says_deletes Unknown x None other of_x says said is = absurd (none-some said is)
says_deletes Unknown x (Some true) other of_x says said is = absurd (none-some said is)
says_deletes Unknown x (Some false) other of_x says said is = ap (after_deletes x) (says false refl) ∙ false_stays x ∙ is
says_deletes Yes x known other of_x says said is = ap (λ v. after_deletes v other) of_x ∙ is

says_adds : (a x : Kleene) (known other : Option Bool) → Keeps a x → Says known other → Says (after_adds a known) (after_adds x other)
says_adds No x known other of_x says said is = ap (λ v. after_adds v other) of_x ∙ says said is
says_adds Unknown x None other of_x says said is = absurd (none-some said is)
says_adds Unknown x (Some false) other of_x says said is = absurd (none-some said is)
says_adds Unknown x (Some true) other of_x says said is = ap (after_adds x) (says true refl) ∙ true_stays x ∙ is
says_adds Yes x known other of_x says said is = ap (λ v. after_adds v other) of_x ∙ is

module _ (cube more : List (Option Bool)) (lies : CubeLiesIn more cube) where
  module _ (passes : Entry → Bool) where
    abbrev most : List (Option Bool) → Kleene → List Entry → Kleene
    most on a entries = fold greater a (map (λ entry. value on entry.cond) entries)

    keeps_one : (entry : Entry) (entries : List Entry) (b : Bool) (a x : Kleene) → Keeps a x → ((a x : Kleene) → Keeps a x → Keeps (most cube a (filter passes entries)) (most more x (filter passes entries))) →
        Keeps (most cube a (cond b (entry ∷ filter passes entries) (filter passes entries))) (most more x (cond b (entry ∷ filter passes entries) (filter passes entries)))
    keeps_one entry entries false a x of_x rest = rest a x of_x
    keeps_one entry entries true a x of_x rest = rest (greater a (value cube entry.cond)) (greater x (value more entry.cond)) (Keeps-greater a _ x _ of_x (Keeps-value cube more lies entry.cond))

    keeps_among : (entries : List Entry) (a x : Kleene) → Keeps a x → Keeps (most cube a (filter passes entries)) (most more x (filter passes entries))
    keeps_among [] a x of_x = of_x
    keeps_among (entry ∷ entries) a x of_x = keeps_one entry entries (passes entry) a x of_x (keeps_among entries)

  module _ (outcome : List Entry) where
    abbrev change : List (Option Bool) → ℕ → Option Bool → Option Bool
    change on atom known = after_adds (added_value on outcome atom) (after_deletes (deleted_value on outcome atom) known)

    -- what is known of an atom after an outcome, from more literals
    says_changed : (atom : ℕ) → Says (change cube atom (literal_at cube atom)) (change more atom (literal_at more atom))
    says_changed atom = says_adds (added_value cube outcome atom) (added_value more outcome atom) _ _
        (keeps_among (λ entry. entry.add && entry.atom == atom) outcome No No refl)
        (says_deletes (deleted_value cube outcome atom) (deleted_value more outcome atom) _ _
        (keeps_among (λ entry. not entry.add && entry.atom == atom) outcome No No refl)
        (lies atom))

    pub image_more : length more ≡ length cube → CubeLiesIn (image more outcome) (image cube outcome)
    image_more long atom sign is = ⊎_elim
        (λ small.
        let here = get_or-by_index (change cube) cube atom None small in
        let there = get_or-by_index (change more) more atom None (omega (arith, small, long)) in
        there ∙ says_changed atom sign (sym here ∙ is))
        (λ past. absurd (none-some sign (sym (by_index_past (change cube) cube atom None past) ∙ is)))
        (cases_lt atom (length cube))
