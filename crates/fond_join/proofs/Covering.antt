-- The rows that have the objects of parameters.
use Rattle.std.proofs.Common.{◌≡◌, ◌⊎◌, ◌<◌, Bor, IfOk, IfSome, IsSomeAnd, Result, Ok, Err, Vec, Global, inl, inr, ℕ, zero, suc, Bool, true, false, List, [], ◌∷◌, Option, Some, None, map, length, get_or, slice_get, refl, sym, ap, subst, ◌∙◌, true≢false, arith}
use Rattle.std.specs.Prelude.{filter, fold, if◌then◌else◌, nat_eq}
use Rattle.std.specs.FinSet as sets
use Rattle.std.specs.List.{list_all, list_any}
use Rattle.std.specs.Ordering.{eq_by_cmp}
use Rattle.std.specs.Str.{bytes_eq}
use Rattle.std.specs.Cmp.Lexicographic.{bytes_decides}
use Rattle.std.proofs.lemmas.Bool.Decides.{nat_tests}
use Rattle.fond_text.specs.declared.atom.Atom.{Atom}
use Rattle.fond_ast.specs.Ranges.{is_among, is_rising}
use Rattle.fond_ast.specs.Within.{is_fluent}
use Rattle.fond_ast.specs.declared.form.LAtom.{LAtom}
use Rattle.fond_ast.specs.declared.form.LTerm.{LTerm}
use Rattle.fond_ast.specs.declared.form.LTerm.TheVariants.{Variable}
use Rattle.fond_ast.specs.declared.task.LiftedTask.{LiftedTask}
use Rattle.fond_ast.specs.Conditions.{object_of, ground_atom}
use Rattle.fond_ast.specs.Solutions.{initial}
use Rattle.fond_ast.specs.States.{atom_cmp}
use Rattle.fond_ast.proofs.Atoms.{atom_cmp_total}
use Rattle.fond_ast.proofs.Bools.{and-parts, or-cases}
use Rattle.fond_ast.specs.declared.form.LCond.{LCond}
use Rattle.fond_ast.specs.declared.form.LCond.TheVariants.{Holds, And, rolls-Holds, rolls-And}
use Rattle.fond_ast.specs.declared.form.LCond.TheOpen as open_condition
use Rattle.fond_ast.specs.declared.form.LCond.TheFolds.{fold-roll-LCond}
use Rattle.fond_task.specs.declared.form.Kleene.{Kleene}
use Rattle.fond_task.specs.declared.form.Kleene.TheVariants.{No, Unknown, Yes}
use Rattle.fond_task.specs.Values.{least, lesser}
use Rattle.fond_join.specs.Agree.{Covers, CoversAtom, TellsObject}
use Rattle.fond_join.specs.Kept.{is_no, open_value, static_value}
use Rattle.fond_join.specs.Partial.{known_object}
use Rattle.fond_join.specs.Values.{condition_step, condition_value}
use Rattle.fond_join.proofs.Joined.{map_map}
use Rattle.fond_join.proofs.Sound.{object_told}
use Rattle.fond_join.proofs.Tables.{tied}

-- an atom that ties with another is the other
same_atom : (atom other : Atom) → eq_by_cmp atom_cmp atom other ≡ true → atom ≡ other
same_atom atom other tie =
    let parts = and-parts (nat_eq atom.predicate other.predicate) (bytes_eq atom.objects other.objects) (sym (tied atom.predicate atom.objects other) ∙ tie) in
    let test = parts.0 in
    let predicates : atom.predicate ≡ other.predicate = grind (arith, nat_tests) in
    let objects : atom.objects ≡ other.objects = (bytes_decides atom.objects other.objects).0 parts.1 in
    λ i. record { predicate = predicates i; objects = objects i }

listed : (atoms : List Atom) (atom : Atom) → list_any (eq_by_cmp atom_cmp atom) atoms ≡ true → (k : ℕ) × (slice_get atoms k ≡ Some atom)
listed [] atom h = cc
listed (first ∷ atoms) atom h = elim (or-cases (eq_by_cmp atom_cmp atom first) (list_any (eq_by_cmp atom_cmp atom) atoms) h) [
  | inl tie ↦ (0, ap Some (sym (same_atom atom first tie)))
  | inr later ↦ (let rest = listed atoms atom later in (suc rest.0, rest.1))
]

-- an initial atom is in the list of them
pub initial_at : (task : LiftedTask) (atom : Atom) → sets.contains (initial task) atom ≡ true → (k : ℕ) × (slice_get task.init k ≡ Some atom)
initial_at task atom has = listed task.init atom (sym (sets.contains-from_list atom_cmp_total task.init atom) ∙ has)

pub term_at : (objects : List ℕ) (terms : List LTerm) (i : ℕ) (term : LTerm) → slice_get terms i ≡ Some term → (i < length (map (object_of objects) terms)) × (get_or (map (object_of objects) terms) i 0 ≡ object_of objects term)
term_at objects [] i term is = cc
term_at objects (first ∷ terms) zero term is = let same : first ≡ term = cc in (omega arith, ap (object_of objects) same)
term_at objects (first ∷ terms) (suc i) term is = let rest = term_at objects terms i term is in ((let within = rest.0 in omega arith), rest.1)

-- a row has the objects at a place of the initial atoms of a predicate that have this object at another place
abbrev pub HasBeside : LiftedTask → LAtom → List ℕ → ℕ → ℕ → ℕ → Type 0
HasBeside task atom row other object position =
    (k : ℕ) (a : Atom) → slice_get task.init k ≡ Some a → a.predicate ≡ atom.predicate → other < length a.objects → get_or a.objects other 0 ≡ object → position < length a.objects → is_among row (get_or a.objects position 0) ≡ true

-- a row that has the objects beside a known object covers an atom
pub beside_covers : (task : LiftedTask) (atom : LAtom) (env : List (Option ℕ)) (parameter position other object : ℕ) (term : LTerm) (row : List ℕ) →
    slice_get atom.terms position ≡ Some (Variable parameter) → slice_get atom.terms other ≡ Some term → known_object env term ≡ Some object →
    HasBeside task atom row other object position →
    CoversAtom task atom env parameter row
beside_covers task atom env parameter position other object term row here there known beside objects agree has =
    let found = initial_at task (ground_atom objects atom) has in
    let at = term_at objects atom.terms position (Variable parameter) here in
    let second = term_at objects atom.terms other term there in
    let own : object ≡ object_of objects term = subst (λ k. TellsObject false k (object_of objects term)) known (object_told false env objects agree term) in
    sym (ap (is_among row) at.1) ∙ beside found.0 (ground_atom objects atom) found.1 refl second.0 (second.1 ∙ sym own) at.0

-- what holds of two rows holds of the one that is chosen
pub chosen : (P : List ℕ → Type 0) (row other best : Option (Bor (List ℕ))) → IfSome best (λ list. IsSomeAnd row (λ own. own.now ≡ list.now) ⊎ IsSomeAnd other (λ own. own.now ≡ list.now)) →
    IfSome row (λ list. P list.now) → IfSome other (λ list. P list.now) → IfSome best (λ list. P list.now)
chosen P row other None from one two = tt
chosen P row other (Some list) (inl own) one two = of row own one
  where
    of : (row : Option (Bor (List ℕ))) → IsSomeAnd row (λ own. own.now ≡ list.now) → IfSome row (λ list. P list.now) → P list.now
    of None own has = absurd own
    of (Some own) same has = subst P same has
chosen P row other (Some list) (inr own) one two = of other own two
  where
    of : (row : Option (Bor (List ℕ))) → IsSomeAnd row (λ own. own.now ≡ list.now) → IfSome row (λ list. P list.now) → P list.now
    of None own has = absurd own
    of (Some own) same has = subst P same has

no_lesser : (a b : Kleene) → is_no (lesser a b) ≡ false → (is_no a ≡ false) × (is_no b ≡ false)
no_lesser No b h = absurd (true≢false h)
no_lesser Unknown No h = absurd (true≢false h)
no_lesser Unknown Unknown h = (refl, refl)
no_lesser Unknown Yes h = (refl, refl)
no_lesser Yes No h = absurd (true≢false h)
no_lesser Yes Unknown h = (refl, refl)
no_lesser Yes Yes h = (refl, refl)

first_not_no : (a : Kleene) (values : List Kleene) → is_no (fold lesser a values) ≡ false → is_no a ≡ false
first_not_no a [] h = h
first_not_no a (value ∷ values) h = (no_lesser a value (first_not_no (lesser a value) values h)).0

-- if the least of some values is not No, the value of each part is not
each_not_no : {X : Type 0} (of : X → Kleene) (a : Kleene) (parts : List X) (i : ℕ) (part : X) → i < length parts → part ≡ get_or parts i part → is_no (fold lesser a (map of parts)) ≡ false → is_no (of part) ≡ false
each_not_no of a [] i part within is h = absurd (omega arith)
each_not_no of a (first ∷ parts) zero part within is h = ap (λ p. is_no (of p)) is ∙ (no_lesser a (of first) (first_not_no (lesser a (of first)) (map of parts) h)).1
each_not_no of a (first ∷ parts) (suc i) part within is h = each_not_no of (lesser a (of first)) parts i part (omega arith) is h

module _ (task : LiftedTask) where
  -- the value of an atom and of a conjunction, by their forms
  at_holds : (objects : List ℕ) (atom : LAtom) → condition_value (open_value task) objects (Holds atom) ≡ open_value task (ground_atom objects atom)
  at_holds objects atom =
      ap (condition_value (open_value task) objects) (sym (rolls-Holds atom)) ∙ ap (λ value. value objects) (fold-roll-LCond (List ℕ → Kleene) (condition_step (open_value task)) (open_condition.Holds atom))

  at_and : (objects : List ℕ) (parts : Vec LCond Global) → condition_value (open_value task) objects (And parts) ≡ least (map (condition_value (open_value task) objects) parts.items)
  at_and objects parts =
      ap (condition_value (open_value task) objects) (sym (rolls-And parts)) ∙ ap (λ value. value objects) (fold-roll-LCond (List ℕ → Kleene) (condition_step (open_value task)) (open_condition.And parts))
      ∙ ap least (map_map (λ (part : List ℕ → Kleene). part objects) (λ (part : LCond) (around : List ℕ). condition_value (open_value task) around part) parts.items)

  -- a static atom is covered as a condition
  pub atom_covers : (condition : LCond) (atom : LAtom) (env : List (Option ℕ)) (parameter : ℕ) (row : List ℕ) → condition ≡ Holds atom → is_fluent task.predicates atom.predicate ≡ false →
      CoversAtom task atom env parameter row → Covers task condition env parameter row
  atom_covers condition atom env parameter row is static covers objects agree may =
      covers objects agree (by (sets.contains (initial task) (ground_atom objects atom)) (
      sym (ap (λ b. is_no (if b then Unknown else static_value task (ground_atom objects atom))) static) ∙ sym (ap is_no (ap (condition_value (open_value task) objects) is ∙ at_holds objects atom)) ∙ may))
    where
      by : (b : Bool) → is_no (if b then Yes else No) ≡ false → b ≡ true
      by true h = refl
      by false h = absurd (true≢false h)

  -- what covers a part covers the conjunction
  pub part_covers : (condition : LCond) (parts : Vec LCond Global) (i : ℕ) (part : LCond) (env : List (Option ℕ)) (parameter : ℕ) (row : List ℕ) → condition ≡ And parts → i < length parts.items → part ≡ get_or parts.items i part →
      Covers task part env parameter row → Covers task condition env parameter row
  part_covers condition parts i part env parameter row is within at covers objects agree may =
      covers objects agree (each_not_no (condition_value (open_value task) objects) Yes parts.items i part within at (sym (ap is_no (ap (condition_value (open_value task) objects) is ∙ at_and objects parts)) ∙ may))

-- what follows for a row follows for the row that is found, if there is one
pub some_row : (P Q : List ℕ → Type 0) → ((row : List ℕ) → P row → Q row) → (found : Option (Bor (List ℕ))) → IfSome found (λ row. P row.now) → IfSome found (λ row. Q row.now)
some_row P Q to None has = tt
some_row P Q to (Some row) has = to row.now has

-- what follows for a value follows for the value that is returned, if there is one
pub ok_value : {T E : Type 0} (P Q : T → Type 0) → ((value : T) → P value → Q value) → (result : Result T E) → IfOk result P → IfOk result Q
ok_value P Q to (Ok value) has = to value has
ok_value P Q to (Err fault) has = tt

pub filter_all : (xs : List ℕ) → filter (λ x. true) xs ≡ xs
filter_all [] = refl
filter_all (x ∷ xs) = ap (λ rest. x ∷ rest) (filter_all xs)

pub rising_at : (ranges : List (List ℕ)) (k : ℕ) → list_all is_rising ranges ≡ true → is_rising (get_or ranges k []) ≡ true
rising_at [] k h = refl
rising_at (range ∷ ranges) zero h = (and-parts (is_rising range) (list_all is_rising ranges) h).0
rising_at (range ∷ ranges) (suc k) h = rising_at ranges k (and-parts (is_rising range) (list_all is_rising ranges) h).1
