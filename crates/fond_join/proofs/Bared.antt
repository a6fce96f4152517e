-- Predicates that are static and have no initial atom.
use Rattle.std.proofs.Common.{◌≡◌, ℕ, zero, suc, ◌+◌, ◌<◌, ◌&&◌, ◌||◌, Bool, true, false, not, List, [], ◌∷◌, ◌++◌, Some, inl, inr, length, map, drop, set, get_or, slice_get, refl, sym, ap, ◌∙◌, true≢false, arith}
use Rattle.std.specs.Prelude.{if◌then◌else◌, nat_eq}
use Rattle.std.specs.FinSet as sets
use Rattle.std.specs.Str.{bytes_eq}
use Rattle.std.proofs.lemmas.Bool.{cases_eq}
use Rattle.std.proofs.lemmas.Bool.Decides.{nat_tests}
use Rattle.std.proofs.lemmas.List.{append_assoc, get_or-set_same, get_or-set_other}
use Rattle.std.proofs.lemmas.Option.{slice_get_within, get_or_from_slice_get}
use Rattle.fond_text.specs.declared.atom.Atom.{Atom}
use Rattle.fond_ast.specs.Solutions.{initial}
use Rattle.fond_ast.specs.States.{atoms_of}
use Rattle.fond_ast.specs.Within.{is_fluent}
use Rattle.fond_ast.specs.declared.task.LPredicate.{LPredicate}
use Rattle.fond_ast.specs.declared.task.LiftedTask.{LiftedTask}
use Rattle.fond_ast.proofs.Atoms.{atom_cmp_total}
use Rattle.fond_task.specs.declared.form.Kleene.TheVariants.{No, Unknown, Yes}
use Rattle.fond_join.specs.Kept.{open_value, static_value}
use Rattle.fond_join.proofs.Items.{drop_item}
use Rattle.fond_join.proofs.Tables.{tied}

-- one more item is mapped
pub mapped_next : {X Y : Type 0} (f : X → Y) (xs : List X) (i : ℕ) (x : X) (before after : List Y) → slice_get xs i ≡ Some x → after ≡ before ++ f x ∷ [] → after ++ map f (drop (i + 1) xs) ≡ before ++ map f (drop i xs)
mapped_next f xs i x before after at is =
    ap (λ ys. ys ++ map f (drop (i + 1) xs)) is
    ∙ append_assoc before (f x ∷ []) (map f (drop (i + 1) xs))
    ∙ ap (λ rest. before ++ map f rest) (sym (drop_item xs i x (slice_get_within xs i x at) (sym (get_or_from_slice_get xs i x x at))))

-- a predicate with a true test is static
pub static_if : (predicates : List LPredicate) (number : ℕ) → get_or (map (λ predicate. not predicate.fluent) predicates) number false ≡ true → is_fluent predicates number ≡ false
static_if [] number h = absurd (true≢false (sym h))
static_if (predicate ∷ predicates) zero h = by predicate.fluent h
  where
    by : (b : Bool) → not b ≡ true → b ≡ false
    by true h = absurd (true≢false (sym h))
    by false h = refl
static_if (predicate ∷ predicates) (suc number) h = static_if predicates number h

-- a predicate that is still bare after an atom was before, and the atom is not one of its
pub bare_next : (bare : List Bool) (atom : Atom) (rest : List Atom) → atom.predicate < length bare → (predicate : ℕ) (objects : List ℕ) → get_or (set bare atom.predicate false) predicate false ≡ true →
    (get_or bare predicate false ≡ true) × (sets.contains (atoms_of (atom ∷ rest)) (record { predicate = predicate; objects = objects }) ≡ sets.contains (atoms_of rest) (record { predicate = predicate; objects = objects }))
bare_next bare atom rest within predicate objects h =
    elim (cases_eq predicate atom.predicate) [
      | inl same ↦ absurd (true≢false (sym h ∙ ap (λ p. get_or (set bare atom.predicate false) p false) same ∙ get_or-set_same bare atom.predicate false false within))
      | inr other ↦
          (let test : nat_eq predicate atom.predicate ≡ false = grind (arith, nat_tests) in (
            sym (get_or-set_other bare atom.predicate predicate false false other) ∙ h,
            sets.contains-insert atom_cmp_total (atoms_of rest) atom (record { predicate = predicate; objects = objects })
                ∙ ap (λ b. b || sets.contains (atoms_of rest) (record { predicate = predicate; objects = objects })) (tied predicate objects atom ∙ ap (λ b. b && bytes_eq objects atom.objects) test),
          ))
    ]

-- a static atom that is not initial has the value No
pub bare_value : (task : LiftedTask) (atom : Atom) → is_fluent task.predicates atom.predicate ≡ false → sets.contains (initial task) atom ≡ false → open_value task atom ≡ No
bare_value task atom static none = ap (λ b. if b then Unknown else static_value task atom) static ∙ ap (λ b. if b then Yes else No) none
