-- Conditions that are the same are the same over numbers.
use Rattle.std.proofs.Common.{◌≡◌, ◌∙◌, true, List, ◌∷◌, sym, ap, subst}
use Rattle.fond_text.specs.Lists.{are_distinct_texts}
use Rattle.fond_ast.specs.Ranges.{RangeList, objects_of}
use Rattle.fond_ast.specs.declared.names.ReadAtom.{ReadAtom}
use Rattle.fond_ast.specs.declared.names.Term.{Term}
use Rattle.fond_ast.specs.declared.names.TypedName.{TypedName}
use Rattle.fond_ast.specs.declared.form.LAtom.{LAtom}
use Rattle.fond_ast.specs.declared.form.LTerm.{LTerm}
use Rattle.fond_ast.specs.declared.syntax.Cond.{Cond, Truth, Holds, Equal, And', Or', Not', Imply', Forall', Exists', Row_of-Cond, end_of-Cond, more_of-Cond}
use Rattle.fond_ast.specs.declared.form.LCond.{LCond, Row_of-LCond, end_of-LCond, more_of-LCond}
use Rattle.fond_ast.specs.declared.form.LCond as form
use Rattle.fond_types.specs.Resolves.{Meanings, is_term, is_atom, are_ranges, is_condition}
use Rattle.fond_names.specs.Sites.{Scope}
use Rattle.fond_laws.specs.Read.{IsSameCond, AreSameConds}
use Rattle.fond_laws.specs.Lifted.{IsSameCondition, AreSameConditions}
use Rattle.fond_laws.proofs.OneTaskNumbers.{one_atom, one_range, one_term}
use Rattle.fond_laws.proofs.OneTaskReads.{Reads, ReadsEach, reads}

module _ (meanings : Meanings) (predicates : are_distinct_texts meanings.predicates ≡ true) (objects : are_distinct_texts meanings.objects ≡ true) where
  -- an atom has one atom over numbers
  pub same_atoms : (around : Scope) (atom read : ReadAtom) (one other : LAtom) → atom ≡ read → is_atom meanings around atom one ≡ true → is_atom meanings around read other ≡ true → one ≡ other
  same_atoms around atom read one other e h k = one_atom meanings predicates objects around atom one other h (ap (λ some. is_atom meanings around some other) e ∙ k)

  -- a term has one number
  same_terms : (around : Scope) (term read : Term) (one other : LTerm) → term ≡ read → is_term meanings around term one ≡ true → is_term meanings around read other ≡ true → one ≡ other
  same_terms around term read one other e h k = one_term meanings predicates objects around term one other h (ap (λ some. is_term meanings around some other) e ∙ k)

  -- variables have one list of the objects of their ranges
  pub same_ranges : (names read : List TypedName) (ranges others : RangeList) → names ≡ read → are_ranges meanings names ranges ≡ true → are_ranges meanings read others ≡ true → objects_of ranges ≡ objects_of others
  same_ranges names read ranges others e h k = one_range meanings names ranges others h (ap (λ some. are_ranges meanings some others) e ∙ k)

  mutual
    -- conditions with the forms and parts of conditions that are the same are the same
    same_numbers : (condition other : Cond) (around : Scope) (number next : LCond) → IsSameCond condition other → Reads meanings condition around number → Reads meanings other around next → IsSameCondition number next
    same_numbers Truth Truth around form.Truth form.Truth e h k = tt
    same_numbers Truth Truth around form.Truth next e h k = absurd k
    same_numbers Truth Truth around number next e h k = absurd h
    same_numbers (Holds atom) (Holds read) around (form.Holds number) (form.Holds next) e h k = same_atoms around atom read number next e h k
    same_numbers (Holds atom) (Holds read) around (form.Holds number) next e h k = absurd k
    same_numbers (Holds atom) (Holds read) around number next e h k = absurd h
    same_numbers (Equal term over) (Equal first second) around (form.Equal one two) (form.Equal number next) e h k = (same_terms around term first one number e.0 h.0 k.0, same_terms around over second two next e.1 h.1 k.1)
    same_numbers (Equal term over) (Equal first second) around (form.Equal one two) next e h k = absurd k
    same_numbers (Equal term over) (Equal first second) around number next e h k = absurd h
    same_numbers (And' shape parts) (And' over others) around (form.And' inner numbers) (form.And' outer nexts) e h k = same_each parts others around numbers nexts e h k
    same_numbers (And' shape parts) (And' over others) around (form.And' inner numbers) next e h k = absurd k
    same_numbers (And' shape parts) (And' over others) around number next e h k = absurd h
    same_numbers (Or' shape parts) (Or' over others) around (form.Or' inner numbers) (form.Or' outer nexts) e h k = same_each parts others around numbers nexts e h k
    same_numbers (Or' shape parts) (Or' over others) around (form.Or' inner numbers) next e h k = absurd k
    same_numbers (Or' shape parts) (Or' over others) around number next e h k = absurd h
    same_numbers (Not' shape part) (Not' over other) around (form.Not' inner number) (form.Not' outer next) e h k = same_numbers part other around number next e h k
    same_numbers (Not' shape part) (Not' over other) around (form.Not' inner number) next e h k = absurd k
    same_numbers (Not' shape part) (Not' over other) around number next e h k = absurd h
    same_numbers (Imply' shape part after then) (Imply' over other later more) around (form.Imply' inner number behind goal) (form.Imply' outer next beyond end) e h k = (same_numbers part other around number next e.0 h.0 k.0, same_numbers then more around goal end e.1 h.1 k.1)
    same_numbers (Imply' shape part after then) (Imply' over other later more) around (form.Imply' inner number behind goal) next e h k = absurd k
    same_numbers (Imply' shape part after then) (Imply' over other later more) around number next e h k = absurd h
    same_numbers (Forall' names shape part) (Forall' read over other) around (form.Forall' ranges inner number) (form.Forall' others outer next) e h k =
        (same_ranges names read ranges others e.0 h.0 k.0, same_numbers part other (names ∷ around) number next e.1 h.1 (subst (λ some. Reads meanings other (some ∷ around) next) (sym e.0) k.1))
    same_numbers (Forall' names shape part) (Forall' read over other) around (form.Forall' ranges inner number) next e h k = absurd k
    same_numbers (Forall' names shape part) (Forall' read over other) around number next e h k = absurd h
    same_numbers (Exists' names shape part) (Exists' read over other) around (form.Exists' ranges inner number) (form.Exists' others outer next) e h k =
        (same_ranges names read ranges others e.0 h.0 k.0, same_numbers part other (names ∷ around) number next e.1 h.1 (subst (λ some. Reads meanings other (some ∷ around) next) (sym e.0) k.1))
    same_numbers (Exists' names shape part) (Exists' read over other) around (form.Exists' ranges inner number) next e h k = absurd k
    same_numbers (Exists' names shape part) (Exists' read over other) around number next e h k = absurd h
    same_numbers condition other around number next e h k = absurd e

    -- and so are the members of rows
    same_each : {a b m n : _} (parts : Row_of-Cond a) (others : Row_of-Cond b) (around : Scope) (numbers : Row_of-LCond m) (nexts : Row_of-LCond n) → AreSameConds parts others → ReadsEach meanings parts around numbers → ReadsEach meanings others around nexts → AreSameConditions numbers nexts
    same_each end_of-Cond end_of-Cond around end_of-LCond end_of-LCond e h k = tt
    same_each end_of-Cond end_of-Cond around end_of-LCond nexts e h k = absurd k
    same_each end_of-Cond end_of-Cond around numbers nexts e h k = absurd h
    same_each (more_of-Cond part parts) (more_of-Cond other others) around (more_of-LCond number numbers) (more_of-LCond next nexts) e h k = (same_numbers part other around number next e.0 h.0 k.0, same_each parts others around numbers nexts e.1 h.1 k.1)
    same_each (more_of-Cond part parts) (more_of-Cond other others) around (more_of-LCond number numbers) nexts e h k = absurd k
    same_each (more_of-Cond part parts) (more_of-Cond other others) around numbers nexts e h k = absurd h
    same_each parts others around numbers nexts e h k = absurd e

  -- conditions over numbers that are those of conditions that are the same are the same
  pub same_condition : (condition other : Cond) (around : Scope) (number next : LCond) → IsSameCond condition other → is_condition meanings condition around number ≡ true → is_condition meanings other around next ≡ true → IsSameCondition number next
  same_condition condition other around number next e h k = same_numbers condition other around number next e (reads meanings condition around number h) (reads meanings other around next k)
