-- The outcomes of an action lead to states that stand for those to which the outcomes of its effect lead.
use Rattle.std.proofs.Common.{◌≡◌, ℕ, ◌<◌, inl, inr, List, [], ◌∷◌, Bool, true, false, not, ◌&&◌, ◌||◌, Some, None, map, length, refl, sym, ap, ◌∙◌, subst, arith}
use Rattle.std.specs.Prelude.{◌==◌, slice_get, IsTrue, filter}
use Rattle.std.specs.List.{AllZip, list_any}
use Rattle.std.specs.FinSet as set
use Rattle.std.proofs.lemmas.Bool.{and_parts, and_from, eqb-true, eq-eqb, false_from_ne_true}
use Rattle.std.proofs.lemmas.Option.{none-some, same_Some, slice_get_within}
use Rattle.fond_text.specs.Bools.{is_same}
use Rattle.fond_text.specs.declared.atom.Atom.{Atom}
use Rattle.fond_ast.specs.declared.task.LiftedTask.{LiftedTask}
use Rattle.fond_ast.specs.States.{State}
use Rattle.fond_ast.specs.Outcomes.{Literal, changed_atoms, state_after, takes_place}
use Rattle.fond_ast.specs.Solutions.{initial}
use Rattle.fond_ast.proofs.Atoms.{atom_cmp_total}
use Rattle.fond_ast.proofs.Members.{Member, Member-map, Member-from_map}
use Rattle.fond_state.specs.Cubes.{truth_at}
use Rattle.fond_task.specs.declared.task.Entry.{Entry}
use Rattle.fond_task.specs.Distinct.{are_distinct_atoms}
use Rattle.fond_task.specs.Steps.{adds, deletes, next_state}
use Rattle.fond_task.specs.Truth.{is_true}
use Rattle.fond_task.proofs.Indices.{get_or-by_index}
use Rattle.fond_ground.specs.Atoms.{atom_number, fluent_atoms}
use Rattle.fond_ground.specs.Grounds.{AreOutcomesOf, IsEntryOf}
use Rattle.fond_succ.specs.Stands.{stands}
use Rattle.fond_succ.proofs.Firsts.{same_tests, any-Member, Member-any, Member-filter, Member-from_filter}
use Rattle.fond_succ.proofs.Atoms.{atom-at, in_atoms_of, number-at}
use Rattle.fond_succ.proofs.States.{numbered_stands, stands_for, static_stands}
use Rattle.fond_succ.proofs.Truths.{entry_holds}

-- whether a literal of this sign takes place in a state
abbrev counts : State → Bool → Literal → Bool
counts state sign literal = is_same literal.add sign && takes_place state literal

-- what is in the state after an outcome
in_after : (state : State) (outcome : List Literal) (atom : Atom)
    → set.contains (state_after state outcome) atom ≡ ((set.contains state atom && not (set.contains (changed_atoms state false outcome) atom)) || set.contains (changed_atoms state true outcome) atom)
in_after state outcome atom =
    set.contains-union atom_cmp_total (set.difference state (changed_atoms state false outcome)) (changed_atoms state true outcome) atom
    ∙ ap (λ b. b || set.contains (changed_atoms state true outcome) atom) (set.contains-difference atom_cmp_total state (changed_atoms state false outcome) atom)

-- the literal that changes an atom
changing : (state : State) (sign : Bool) (outcome : List Literal) (atom : Atom) → IsTrue (set.contains (changed_atoms state sign outcome) atom) → (literal : Literal) × Member outcome literal × (literal.atom ≡ atom) × IsTrue (counts state sign literal)
changing state sign outcome atom has =
    let from = Member-from_map (λ (literal : Literal). literal.atom) (filter (counts state sign) outcome) atom ((in_atoms_of _ atom).0 has) in
    let one = Member-from_filter (counts state sign) outcome from.0 from.1 in
    (from.0, one.0, sym from.2, one.1)

changes : (state : State) (sign : Bool) (outcome : List Literal) (literal : Literal) → Member outcome literal → IsTrue (counts state sign literal) → IsTrue (set.contains (changed_atoms state sign outcome) literal.atom)
changes state sign outcome literal m is = (in_atoms_of _ literal.atom).1 (Member-map (λ (literal : Literal). literal.atom) (filter (counts state sign) outcome) literal (Member-filter (counts state sign) outcome literal m is))

-- each item of one of two lists that agree place by place has a partner in the other
partner-left : {X Y : Type 0} (R : X → Y → Type 0) (xs : List X) (ys : List Y) → AllZip R xs ys → (x : X) → Member xs x → (y : Y) × Member ys y × R x y
partner-left R [] ys all x none = absurd none
partner-left R (one ∷ xs) [] all x m = absurd all
partner-left R (one ∷ xs) (other ∷ ys) all x (inl e) = (other, inl refl, subst (λ z. R z other) (sym e) all.0)
partner-left R (one ∷ xs) (other ∷ ys) all x (inr m) = let later = partner-left R xs ys all.1 x m in (later.0, inr later.1, later.2)

partner-right : {X Y : Type 0} (R : X → Y → Type 0) (xs : List X) (ys : List Y) → AllZip R xs ys → (y : Y) → Member ys y → (x : X) × Member xs x × R x y
partner-right R [] [] all y none = absurd none
partner-right R [] (other ∷ ys) all y m = absurd all
partner-right R (one ∷ xs) [] all y none = absurd none
partner-right R (one ∷ xs) (other ∷ ys) all y (inl e) = (one, inl refl, subst (R one) (sym e) all.0)
partner-right R (one ∷ xs) (other ∷ ys) all y (inr m) = let later = partner-right R xs ys all.1 y m in (later.0, inr later.1, later.2)

same_true : (x : Bool) → is_same x true ≡ x
same_true true = refl
same_true false = refl

same_false : (x : Bool) → is_same x false ≡ not x
same_false true = refl
same_false false = refl

or_swap : (a b : Bool) → (a || b) ≡ (b || a)
or_swap true true = refl
or_swap true false = refl
or_swap false true = refl
or_swap false false = refl

and_not_none : (a : Bool) → ((a && not false) || false) ≡ a
and_not_none true = refl
and_not_none false = refl

-- whether an entry gives an atom a truth value in a state
abbrev does : List Bool → ℕ → Bool → Entry → Bool
does values n true entry = entry.add && entry.atom == n && is_true values entry.cond
does values n false entry = not entry.add && entry.atom == n && is_true values entry.cond

does_from : (values : List Bool) (n : ℕ) (sign : Bool) (entry : Entry) → IsTrue (is_same entry.add sign) → entry.atom ≡ n → IsTrue (is_true values entry.cond) → IsTrue (does values n sign entry)
does_from values n true entry signed atom is = and_from (entry.add && entry.atom == n) _ (and_from entry.add _ (sym (same_true entry.add) ∙ signed) (eq-eqb entry.atom n atom)) is
does_from values n false entry signed atom is = and_from (not entry.add && entry.atom == n) _ (and_from (not entry.add) _ (sym (same_false entry.add) ∙ signed) (eq-eqb entry.atom n atom)) is

does_parts : (values : List Bool) (n : ℕ) (sign : Bool) (entry : Entry) → IsTrue (does values n sign entry) → IsTrue (is_same entry.add sign) × (entry.atom ≡ n) × IsTrue (is_true values entry.cond)
does_parts values n true entry is =
    let both = and_parts (entry.add && entry.atom == n) _ is in
    let first = and_parts entry.add _ both.0 in
    (same_true entry.add ∙ first.0, eqb-true entry.atom n first.1, both.1)
does_parts values n false entry is =
    let both = and_parts (not entry.add && entry.atom == n) _ is in
    let first = and_parts (not entry.add) _ both.0 in
    (same_false entry.add ∙ first.0, eqb-true entry.atom n first.1, both.1)

module _ (task : LiftedTask) (distinct : IsTrue (are_distinct_atoms (fluent_atoms task))) (values : List Bool) (long : length values ≡ length (fluent_atoms task)) where
  abbrev state : State
  state = stands task values

  module _ (outcome : List Literal) (entries : List Entry) (all : AllZip (IsEntryOf task) outcome entries) where
    -- a numbered atom is changed by the literals if and only if it is by the entries
    changed_alike : (sign : Bool) (atom : Atom) (n : ℕ) → slice_get (fluent_atoms task) n ≡ Some atom → set.contains (changed_atoms state sign outcome) atom ≡ list_any (does values n sign) entries
    changed_alike sign atom n at = same_tests _ _
        (λ has.
        let literal = changing state sign outcome atom has in
        let entry = partner-left (IsEntryOf task) outcome entries all literal.0 literal.1 in
        let counted = and_parts (is_same literal.0.add sign) (takes_place state literal.0) literal.3 in
        let place : entry.0.atom ≡ n = same_Some _ _ (sym entry.2.numbered ∙ ap (atom_number task) literal.2 ∙ number-at task distinct atom n at) in
        Member-any (does values n sign) entries entry.0 entry.1
        (does_from values n sign entry.0 (ap (λ add. is_same add sign) entry.2.signed ∙ counted.0) place (entry_holds task distinct values long literal.0 entry.0 entry.2 ∙ counted.1)))
        (λ some.
        let entry = any-Member (does values n sign) entries some in
        let parts = does_parts values n sign entry.0 entry.2 in
        let literal = partner-right (IsEntryOf task) outcome entries all entry.0 entry.1 in
        let counted : IsTrue (counts state sign literal.0) = and_from (is_same literal.0.add sign) (takes_place state literal.0) (ap (λ add. is_same add sign) (sym literal.2.signed) ∙ parts.0)
        (sym (entry_holds task distinct values long literal.0 entry.0 literal.2) ∙ parts.2) in
        let named : literal.0.atom ≡ atom = same_Some _ _ (sym (atom-at task literal.0.atom n (literal.2.numbered ∙ ap Some parts.1)) ∙ at) in
        subst (λ other. IsTrue (set.contains (changed_atoms state sign outcome) other)) named (changes state sign outcome literal.0 literal.1 counted))

    -- an atom without a number is not changed
    unchanged : (sign : Bool) (atom : Atom) → atom_number task atom ≡ None → set.contains (changed_atoms state sign outcome) atom ≡ false
    unchanged sign atom none = false_from_ne_true _ (λ has.
        let literal = changing state sign outcome atom has in
        let entry = partner-left (IsEntryOf task) outcome entries all literal.0 literal.1 in
        none-some entry.0.atom (sym none ∙ ap (atom_number task) (sym literal.2) ∙ entry.2.numbered))

    after_numbered : (atom : Atom) (n : ℕ) → slice_get (fluent_atoms task) n ≡ Some atom → set.contains (state_after state outcome) atom ≡ truth_at (next_state values entries) n
    after_numbered atom n at =
        let below : n < length (fluent_atoms task) = slice_get_within (fluent_atoms task) n atom at in
        in_after state outcome atom
        ∙ ap (λ b. (set.contains state atom && not b) || set.contains (changed_atoms state true outcome) atom) (changed_alike false atom n at)
        ∙ ap (λ b. (set.contains state atom && not (deletes values entries n)) || b) (changed_alike true atom n at)
        ∙ ap (λ b. (b && not (deletes values entries n)) || adds values entries n) (numbered_stands task distinct values atom n at)
        ∙ or_swap (truth_at values n && not (deletes values entries n)) (adds values entries n)
        ∙ sym (get_or-by_index (λ place value. adds values entries place || (value && not (deletes values entries place))) values n false (omega (arith, below, long)))

    after_static : (atom : Atom) → atom_number task atom ≡ None → set.contains (state_after state outcome) atom ≡ set.contains (initial task) atom
    after_static atom none =
        in_after state outcome atom
        ∙ ap (λ b. (set.contains state atom && not b) || set.contains (changed_atoms state true outcome) atom) (unchanged false atom none)
        ∙ ap (λ b. (set.contains state atom && not false) || b) (unchanged true atom none)
        ∙ and_not_none (set.contains state atom)
        ∙ static_stands task distinct values atom none

    -- the next state stands for the one to which the outcome leads
    pub leads_alike : stands task (next_state values entries) ≡ state_after (stands task values) outcome
    leads_alike = stands_for task distinct (next_state values entries) (state_after state outcome) after_numbered after_static

  -- the outcomes lead to states that stand for those to which the outcomes of the effect lead, one by one
  pub all_lead_alike : (choices : List (List Literal)) (outcomes : List (List Entry)) → AreOutcomesOf task choices outcomes
      → map (λ outcome. stands task (next_state values outcome)) outcomes ≡ map (state_after (stands task values)) choices
  all_lead_alike [] [] all = refl
  all_lead_alike [] (entries ∷ outcomes) all = absurd all
  all_lead_alike (outcome ∷ choices) [] all = absurd all
  all_lead_alike (outcome ∷ choices) (entries ∷ outcomes) all = λ k. leads_alike outcome entries all.0 k ∷ all_lead_alike choices outcomes all.1 k
