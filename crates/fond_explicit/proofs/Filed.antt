-- Atoms that forms need, and actions filed under them.
use Rattle.std.proofs.Common.{◌≡◌, ◌≢◌, ℕ, zero, suc, ◌+◌, ◌<◌, List, [], ◌∷◌, ◌++◌, Bool, true, false, Option, Some, None, length, get_or, set, slice_get, refl, sym, ap, ◌∙◌, subst, ⊎_elim, inl, inr, arith}
use Rattle.std.specs.Prelude.{◌⊎◌, Contains, IfSome, if◌then◌else◌}
use Rattle.std.specs.List.{list_all, dedup}
use Rattle.std.specs.List.Sorted.{IsPermutation, IsSorted}
use Rattle.std.specs.Ordering.{nat_cmp}
use Rattle.std.specs.declared.vec.Vec.{Vec}
use Rattle.std.specs.declared.alloc.Global.{Global}
use lib.Dec.{eqb}
use Rattle.std.proofs.lemmas.Bool.{false≢true, cases_eq, cases_lt}
use Rattle.std.proofs.lemmas.List.{get_or-set_same, get_or-set_other, get_or_past}
use Rattle.std.proofs.lemmas.List.Elements.{Contains-get_or, Contains-append_left, Contains-append_right, Contains-append_cases, Contains-push, Contains-push_cases}
use Rattle.std.proofs.lemmas.List.Folds.{list_all-map}
use Rattle.std.proofs.lemmas.List.Sorted.{Contains-permutation, IsPermutation-sym}
use Rattle.std.proofs.lemmas.List.Kept.{Contains-dedup_nat, Contains-from_dedup}
use Rattle.std.proofs.lemmas.Map.Keys.{IsStrictlyIncreasing-dedup}
use Rattle.std.proofs.lemmas.Option.{same_Some, slice_get_within}
use Rattle.fond_state.specs.Cubes.{truth_at}
use Rattle.fond_task.specs.declared.form.Form.{Form}
use Rattle.fond_task.specs.declared.form.Form.TheVariants.{And, rolls-And}
use Rattle.fond_task.specs.declared.form.Form.TheOpen.{And as AndOf}
use Rattle.fond_task.specs.declared.form.Form.TheFolds.{fold-roll-Form}
use Rattle.fond_task.specs.declared.task.Act.{Act}
use Rattle.fond_task.specs.declared.task.Task.{Task}
use Rattle.fond_task.specs.Truth.{is_true, is_true_step}
use Rattle.fond_task.proofs.Found.{all_at}
use Rattle.fond_task.proofs.Lists.{number_of}
use Rattle.fond_explicit.specs.declared.act_index.ActIndex.{ActIndex}
use Rattle.fond_explicit.specs.Filings.{Needs, filed_under, FilesOne, AreFiled, IsIndexOf, AreCollected, AreCandidates}
use Rattle.fond_explicit.proofs.Distinct.{nothing_in}

is_true-And : (state : List Bool) (parts : Vec Form Global) → is_true state (And parts) ≡ list_all (is_true state) parts.items
is_true-And state parts = ap (is_true state) (sym (rolls-And parts)) ∙ fold-roll-Form Bool (is_true_step state) (AndOf parts) ∙ list_all-map (λ part. part) (is_true state) parts.items

-- some part needs an atom
abbrev pub IsNeededByPart : List Form → ℕ → Type 0
IsNeededByPart parts atom = (part : Form) × Contains parts part × Needs part atom

-- what a part of a conjunction needs, the conjunction needs
pub needs_part : (form : Form) (parts : Vec Form Global) → form ≡ And parts → (atom : Option ℕ) → IfSome atom (IsNeededByPart parts.items) → IfSome atom (Needs form)
needs_part form parts is None needs = tt
needs_part form parts is (Some atom) needs = λ state holds.
    let each = sym (is_true-And state parts) ∙ ap (is_true state) (sym is) ∙ holds in
    let at = number_of parts.items needs.0 needs.1 in
    needs.2 state (all_at (is_true state) parts.items at.0 needs.0 each at.1)

pub part_needs : (parts : List Form) (part : Form) → Contains parts part → (atom : Option ℕ) → IfSome atom (Needs part) → IfSome atom (IsNeededByPart parts)
part_needs parts part has None needs = tt
part_needs parts part has (Some atom) needs = (part, has, needs)

-- filing an action among those that are always tried
pub files_always : (old : ActIndex) (always : Vec ℕ Global) (atom : Option ℕ) (number : ℕ) → always.items ≡ old.always.items ++ number ∷ [] → FilesOne old (record { by_atom = old.by_atom; always = always }) atom number
files_always old always atom number more = record {
  keeps_under = λ other n has. has;
  keeps_always = λ n has. subst (λ ns. Contains ns n) (sym more) (Contains-append_left old.always.items (number ∷ []) n has);
  only_under = λ other n has. inl has;
  only_always = λ n has. Contains-push_cases old.always.items number n (subst (λ ns. Contains ns n) more has);
  here = inl (subst (λ ns. Contains ns number) (sym more) (Contains-push old.always.items number));
}

-- filing an action under an atom
pub files_under : (old new : ActIndex) (atom : Option ℕ) (under number : ℕ) (list : List ℕ) → atom ≡ Some under → under < length old.by_atom.items → list ≡ filed_under old.by_atom.items under ++ number ∷ [] →
    new.by_atom.items ≡ set old.by_atom.items under list → new.always.items ≡ old.always.items → FilesOne old new atom number
files_under old new atom under number list is within more changed same = record {
  keeps_under = λ other n. by_atom (λ a xs. Contains (filed_under old.by_atom.items a) n → Contains xs n) (λ has. Contains-append_left (filed_under old.by_atom.items under) (number ∷ []) n has) (λ a has. has) other;
  keeps_always = λ n has. subst (λ ns. Contains ns n) (sym same) has;
  only_under = λ other n. by_atom (λ a xs. Contains xs n → Contains (filed_under old.by_atom.items a) n ⊎ (number ≡ n)) (λ has. Contains-push_cases (filed_under old.by_atom.items under) number n has) (λ a has. inl has) other;
  only_always = λ n has. inl (subst (λ ns. Contains ns n) same has);
  here = inr (under, is, subst (λ xs. Contains xs number) (sym (at_under under refl)) (Contains-push (filed_under old.by_atom.items under) number));
}
  where
    at_under : (a : ℕ) → a ≡ under → filed_under new.by_atom.items a ≡ filed_under old.by_atom.items under ++ number ∷ []
    at_under a e = ap (λ n. filed_under new.by_atom.items n) e ∙ ap (λ lists. filed_under lists under) changed ∙ get_or-set_same old.by_atom.items under list [] within ∙ more

    at_other : (a : ℕ) → a ≢ under → filed_under new.by_atom.items a ≡ filed_under old.by_atom.items a
    at_other a differs = ap (λ lists. filed_under lists a) changed ∙ get_or-set_other old.by_atom.items under a list [] differs

    by_atom : (P : ℕ → List ℕ → Type 0) → P under (filed_under old.by_atom.items under ++ number ∷ []) → ((a : ℕ) → P a (filed_under old.by_atom.items a)) → (a : ℕ) → P a (filed_under new.by_atom.items a)
    by_atom P here other a = ⊎_elim
        (λ e. subst (P a) (sym (at_under a e)) (subst (λ n. P n (filed_under old.by_atom.items under ++ number ∷ [])) (sym e) here))
        (λ differs. subst (P a) (sym (at_other a differs)) (other a))
        (cases_eq a under)

pub filed_none : (task : Task) (index : ActIndex) → ((atom : ℕ) → filed_under index.by_atom.items atom ≡ []) → index.always.items ≡ [] → AreFiled task 0 index
filed_none task index none empty = record {
  all = λ number act small. absurd (omega (arith, small));
  under_within = λ atom number has. absurd (nothing_in number (subst (λ ns. Contains ns number) (none atom) has));
  always_within = λ number has. absurd (nothing_in number (subst (λ ns. Contains ns number) empty has));
}

-- one more action is filed
pub filed_more : (task : Task) (number : ℕ) (old new : ActIndex) (act : Act) (atom : Option ℕ) → slice_get task.acts number ≡ Some act → IfSome atom (Needs act.pre) → FilesOne old new atom number → AreFiled task number old → AreFiled task (number + 1) new
filed_more task number old new act atom at needs files before = record {
  all = λ n other small is. ⊎_elim
      (λ early. ⊎_elim
      (λ under. inl (record { atom = under.atom; needs = under.needs; has = files.keeps_under under.atom n under.has }))
      (λ always. inr (files.keeps_always n always))
      (before.all n other early is))
      (λ late.
      let same : number ≡ n = omega arith in
      let same_act : act ≡ other = same_Some act other (sym at ∙ ap (slice_get task.acts) same ∙ is) in
      ⊎_elim
      (λ always. inr (subst (Contains new.always.items) same always))
      (λ under. inl (record {
        atom = under.0;
        needs = subst (λ (a : Act). Needs a.pre under.0) same_act (subst (λ o. IfSome o (Needs act.pre)) under.1 needs);
        has = subst (Contains (filed_under new.by_atom.items under.0)) same under.2;
      }))
      files.here)
      (cases_lt n number);
  under_within = λ a n has. ⊎_elim (λ early. before.under_within a n early) (λ same. subst (λ k. k < length task.acts) same there) (files.only_under a n has);
  always_within = λ n has. ⊎_elim (λ early. before.always_within n early) (λ same. subst (λ k. k < length task.acts) same there) (files.only_always n has);
}
  where
    there : number < length task.acts
    there = slice_get_within task.acts number act at

pub empty_more : (lists : List (List ℕ)) → ((atom : ℕ) → filed_under lists atom ≡ []) → (atom : ℕ) → filed_under (lists ++ [] ∷ []) atom ≡ []
empty_more [] none zero = refl
empty_more [] none (suc atom) = refl
empty_more (list ∷ lists) none zero = none zero
empty_more (list ∷ lists) none (suc atom) = empty_more lists (λ a. none (suc a)) atom

pub collected_none : (lists : List (List ℕ)) (state : List Bool) (old : List ℕ) → AreCollected lists state 0 old old
collected_none lists state old = record { keeps = λ n has. has; all = λ atom n small. absurd (omega (arith, small)); only = λ n has. inl has }

pub collected_more : (lists : List (List ℕ)) (state : List Bool) (atom : ℕ) (old between new : List ℕ) → AreCollected lists state atom old between → new ≡ between ++ (if truth_at state atom then filed_under lists atom else []) → AreCollected lists state (atom + 1) old new
collected_more lists state atom old between new before more = by (truth_at state atom) refl
  where
    by : (b : Bool) → truth_at state atom ≡ b → AreCollected lists state (atom + 1) old new
    by true is =
        let longer : new ≡ between ++ filed_under lists atom = more ∙ ap (λ b. between ++ (if b then filed_under lists atom else [])) is in
        let wider : (n : ℕ) → Contains between n → Contains new n = λ n has. subst (λ ns. Contains ns n) (sym longer) (Contains-append_left between (filed_under lists atom) n has) in
        record {
          keeps = λ n has. wider n (before.keeps n has);
          all = λ other n small truth has. ⊎_elim
              (λ early. wider n (before.all other n early truth has))
              (λ late. let same : other ≡ atom = omega arith in subst (λ ns. Contains ns n) (sym longer) (Contains-append_right between (filed_under lists atom) n (subst (λ a. Contains (filed_under lists a) n) same has)))
              (cases_lt other atom);
          only = λ n has. ⊎_elim (λ early. before.only n early) (λ late. inr (atom, late)) (Contains-append_cases between (filed_under lists atom) n (subst (λ ns. Contains ns n) longer has));
        }
    by false is =
        let longer : new ≡ between ++ [] = more ∙ ap (λ b. between ++ (if b then filed_under lists atom else [])) is in
        let wider : (n : ℕ) → Contains between n → Contains new n = λ n has. subst (λ ns. Contains ns n) (sym longer) (Contains-append_left between [] n has) in
        record {
          keeps = λ n has. wider n (before.keeps n has);
          all = λ other n small truth has. ⊎_elim
              (λ early. wider n (before.all other n early truth has))
              (λ late. let same : other ≡ atom = omega arith in absurd (false≢true (sym is ∙ ap (truth_at state) (sym same) ∙ truth)))
              (cases_lt other atom);
          only = λ n has. ⊎_elim (λ early. before.only n early) (λ late. absurd (nothing_in n late)) (Contains-append_cases between [] n (subst (λ ns. Contains ns n) longer has));
        }

true_within : (state : List Bool) (atom : ℕ) → truth_at state atom ≡ true → atom < length state
true_within state atom is = ⊎_elim (λ lt. lt) (λ ge. absurd (false≢true (sym (get_or_past state atom false ge) ∙ is))) (cases_lt atom (length state))

-- the collected actions, in order and each once, are candidates
pub are_candidates : (task : Task) (index : ActIndex) (state : List Bool) (found sorted : List ℕ) → IsIndexOf task index → AreCollected index.by_atom.items state (length state) index.always.items found →
    IsPermutation found sorted → IsSorted nat_cmp sorted → AreCandidates task state (dedup eqb sorted)
are_candidates task index state found sorted filed collected moved ordered = record {
  within = λ k d small. (
      let n = get_or (dedup eqb sorted) k d in
      let in_sorted = Contains-from_dedup eqb sorted n (Contains-get_or (dedup eqb sorted) k d small) in
      let in_found = Contains-permutation sorted found n (IsPermutation-sym found sorted moved) in_sorted in
      ⊎_elim (λ always. filed.always_within n always) (λ under. filed.under_within under.0 n under.1) (collected.only n in_found)
      );
  rising = IsStrictlyIncreasing-dedup sorted ordered;
  all = λ number act is holds. Contains-dedup_nat sorted number (Contains-permutation found sorted number moved (⊎_elim
      (λ under. let truth = under.needs state holds in collected.all under.atom number (true_within state under.atom truth) truth under.has)
      (λ always. collected.keeps number always)
      (filed.all number act (slice_get_within task.acts number act is) is)));
}
