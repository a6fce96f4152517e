-- The texts of a task's atoms and actions have one number each.
use Rattle.std.proofs.Common.{◌≡◌, ℕ, zero, suc, ◌+◌, ◌<◌, ◌&&◌, ◌||◌, ◌∙◌, nat_lt, nat_le, Bool, true, false, not, cond, IsTrue, List, [], ◌∷◌, ◌++◌, All, Some, length, map, get_or, position, refl, sym, ap, arith}
use Rattle.std.specs.List.{list_all, list_any, position_from}
use Rattle.std.specs.Option.{option_map_or}
use Rattle.std.specs.Str.{bytes_eq}
use Rattle.std.proofs.lemmas.Bool.{and_parts}
use Rattle.std.proofs.lemmas.Bool.Decides.{nat_tests}
use Rattle.std.proofs.lemmas.Iterator.Adapters.{position_from-zero}
use Rattle.std.proofs.lemmas.List.{get_or-map, length-map}
use Rattle.std.proofs.lemmas.List.Elements.{All-head, All-tail, All-cons, All-nil}
use Rattle.std.proofs.lemmas.Option.{slice_get-get_or}
use Rattle.std.proofs.lemmas.Slice.Eq.{bytes_eq-Decides}
use Rattle.fond_text.specs.Bytes.{is_leaf_byte, lower}
use Rattle.fond_text.specs.Lists.{are_distinct_texts}
use Rattle.fond_text.specs.Name.{IsName}
use Rattle.fond_text.specs.declared.atom.Atom.{Atom}
use Rattle.fond_task.specs.Distinct.{atom_numbers, action_numbers}
use Rattle.fond_task.specs.Named.{is_named_atom, is_named_action}
use Rattle.fond_task.specs.Numbers.{act_number, atom_number}
use Rattle.fond_task.specs.Texts.{atom_text, action_text, name_at}
use Rattle.fond_task.specs.declared.task.Act.{Act}
use Rattle.fond_task.specs.declared.task.Task.{Task}
use Rattle.fond_form.specs.Lines.{is_plain_byte, IsPlainLeaf, IsGroup, group_text}
use Rattle.fond_cert.specs.Spellings.{atom_leaves, action_leaves, act_leaves}
use Rattle.fond_cert.proofs.Acts.{no_act, leaves_text as action_leaves_text}
use Rattle.fond_cert.proofs.CubeTexts.{no_atom, leaves_text}
use Rattle.fond_form.proofs.Sames.{same_group}

plain_by : (b : ℕ) (capital : Bool) → nat_le 65 b && nat_le b 90 ≡ capital → cond capital (b + 32) b ≡ b → not capital ≡ true
plain_by b true is same = absurd (omega (arith, same))
plain_by b false is same = refl

-- a leaf byte that is no capital
plain_byte : (b : ℕ) → is_leaf_byte b ≡ true → lower b ≡ b → is_plain_byte b ≡ true
plain_byte b leaf low = rw leaf (plain_by b (nat_le 65 b && nat_le b 90) refl low)

plain_bytes : (text : List ℕ) → All (λ b. IsTrue (is_leaf_byte b)) text → All (λ b. lower b ≡ b) text → list_all is_plain_byte text ≡ true
plain_bytes [] h k = refl
plain_bytes (b ∷ text) h k =
    let P = λ (b : ℕ). IsTrue (is_leaf_byte b) in
    let Q = λ (b : ℕ). lower b ≡ b in
    rw (plain_byte b (All-head P b text h) (All-head Q b text k)) (plain_bytes text (All-tail P b text h) (All-tail Q b text k))

-- a name is a leaf of certificates
name_leaf : (name : List ℕ) → IsName name → IsPlainLeaf name
name_leaf name h = (h.0.0, plain_bytes name h.0.1 h.1)

passes_at : {X : Type 0} (test : X → Bool) (xs : List X) (k : ℕ) (d : X) → list_all test xs ≡ true → k < length xs → test (get_or xs k d) ≡ true
passes_at test [] k d h lt = absurd (omega (arith, lt))
passes_at test (x ∷ xs) zero d h lt = (and_parts (test x) (list_all test xs) h).0
passes_at test (x ∷ xs) (suc k) d h lt = passes_at test xs k d (and_parts (test x) (list_all test xs) h).1 (omega (arith, lt))

or_right : (a b : Bool) → b ≡ true → (a || b) ≡ true
or_right true b h = refl
or_right false b h = h

any_at : (text : List ℕ) (texts : List (List ℕ)) (k : ℕ) (d : List ℕ) → k < length texts → text ≡ get_or texts k d → list_any (bytes_eq text) texts ≡ true
any_at text [] k d lt e = absurd (omega (arith, lt))
any_at text (one ∷ texts) zero d lt e = rw ((bytes_eq-Decides text one).1 e) refl
any_at text (one ∷ texts) (suc k) d lt e = or_right (bytes_eq text one) (list_any (bytes_eq text) texts) (any_at text texts k d (omega (arith, lt)) e)

-- equal texts of a list without repetition are at one place
one_place : (texts : List (List ℕ)) (j k : ℕ) (d : List ℕ) → are_distinct_texts texts ≡ true → j < length texts → k < length texts → get_or texts j d ≡ get_or texts k d → j ≡ k
one_place [] j k d h lt lu e = absurd (omega (arith, lt))
one_place (text ∷ texts) zero zero d h lt lu e = refl
one_place (text ∷ texts) zero (suc k) d h lt lu e =
    let none = (and_parts (not (list_any (bytes_eq text) texts)) (are_distinct_texts texts) h).0 in
    let clash : not true ≡ true = ap not (sym (any_at text texts k d (omega (arith, lu)) e)) ∙ none in
    absurd (cc)
one_place (text ∷ texts) (suc j) zero d h lt lu e =
    let none = (and_parts (not (list_any (bytes_eq text) texts)) (are_distinct_texts texts) h).0 in
    let clash : not true ≡ true = ap not (sym (any_at text texts j d (omega (arith, lt)) (sym e))) ∙ none in
    absurd (cc)
one_place (text ∷ texts) (suc j) (suc k) d h lt lu e =
    ap (λ n. suc n) (one_place texts j k d (and_parts (not (list_any (bytes_eq text) texts)) (are_distinct_texts texts) h).1 (omega (arith, lt)) (omega (arith, lu)) e)

abbrev all_below : List (List ℕ) → List ℕ → Bool
all_below names numbers = list_all (λ number. nat_lt number (length names)) numbers

names_at : (names : List (List ℕ)) → All IsName names → (numbers : List ℕ) → all_below names numbers ≡ true → All IsPlainLeaf (map (name_at names) numbers)
names_at names are [] h = All-nil IsPlainLeaf
names_at names are (number ∷ numbers) h =
    let parts = and_parts (nat_lt number (length names)) (all_below names numbers) h in
    let test : nat_lt number (length names) ≡ true = parts.0 in
    let below : number < length names = grind (arith, nat_tests, test) in
    All-cons IsPlainLeaf (name_at names number) (map (name_at names) numbers) (name_leaf (name_at names number) (are number [] below)) (names_at names are numbers parts.1)

same_name : (names : List (List ℕ)) → are_distinct_texts names ≡ true → (m n : ℕ) → nat_lt m (length names) ≡ true → nat_lt n (length names) ≡ true → name_at names m ≡ name_at names n → m ≡ n
same_name names distinct m n h k e =
    let lt : m < length names = grind (arith, nat_tests, h) in
    let lu : n < length names = grind (arith, nat_tests, k) in
    one_place names m n [] distinct lt lu e

same_names : (names : List (List ℕ)) → are_distinct_texts names ≡ true → (a b : List ℕ) → all_below names a ≡ true → all_below names b ≡ true → map (name_at names) a ≡ map (name_at names) b → a ≡ b
same_names names distinct [] [] h k e = refl
same_names names distinct [] (y ∷ b) h k e = absurd (cc)
same_names names distinct (x ∷ a) [] h k e = absurd (cc)
same_names names distinct (x ∷ a) (y ∷ b) h k e =
    let left = and_parts (nat_lt x (length names)) (all_below names a) h in
    let right = and_parts (nat_lt y (length names)) (all_below names b) k in
    let first : name_at names x ≡ name_at names y = cc in
    let rest : map (name_at names) a ≡ map (name_at names) b = cc in
    let head = same_name names distinct x y left.0 right.0 first in
    let tail = same_names names distinct a b left.1 right.1 rest in
    λ i. head i ∷ tail i

-- atoms or actions by the names of their predicates or schemas and of their objects
module _ (names objects : List (List ℕ)) (are_names : All IsName names) (are_objects : All IsName objects) (distinct_names : are_distinct_texts names ≡ true) (distinct_objects : are_distinct_texts objects ≡ true) where
  abbrev is_named : ℕ → List ℕ → Bool
  is_named number args = nat_lt number (length names) && all_below objects args

  abbrev leaves : ℕ → List ℕ → List (List ℕ)
  leaves number args = name_at names number ∷ map (name_at objects) args

  leaves_group : (number : ℕ) (args : List ℕ) → is_named number args ≡ true → IsGroup (leaves number args)
  leaves_group number args h =
      let parts = and_parts (nat_lt number (length names)) (all_below objects args) h in
      let test : nat_lt number (length names) ≡ true = parts.0 in
      let below : number < length names = grind (arith, nat_tests, test) in
      (omega arith, All-cons IsPlainLeaf (name_at names number) (map (name_at objects) args) (name_leaf (name_at names number) (are_names number [] below)) (names_at objects are_objects args parts.1))

  same_numbers : (m n : ℕ) (a b : List ℕ) → is_named m a ≡ true → is_named n b ≡ true → leaves m a ≡ leaves n b → m ∷ a ≡ n ∷ b
  same_numbers m n a b h k e =
      let left = and_parts (nat_lt m (length names)) (all_below objects a) h in
      let right = and_parts (nat_lt n (length names)) (all_below objects b) k in
      let first : name_at names m ≡ name_at names n = cc in
      let rest : map (name_at objects) a ≡ map (name_at objects) b = cc in
      let head = same_name names distinct_names m n left.0 right.0 first in
      let tail = same_names objects distinct_objects a b left.1 right.1 rest in
      λ i. head i ∷ tail i

-- the first item that passes a test is the only one
only_first : {X : Type 0} (test : X → Bool) (xs : List X) (from k : ℕ) (d : X) → k < length xs → test (get_or xs k d) ≡ true → ((j : ℕ) → j < length xs → test (get_or xs j d) ≡ true → j ≡ k) →
    position_from test from xs ≡ Some (from + k)
only_first test [] from k d lt here only = absurd (omega (arith, lt))
only_first test (x ∷ xs) from zero d lt here only = let none : from + 0 ≡ from = omega arith in rw (here, none) refl
only_first test (x ∷ xs) from (suc k) d lt here only =
    by (test x) refl
    (only_first test xs (from + 1) k d (omega (arith, lt)) here (λ j less passes. let same = only (suc j) (omega (arith, less)) passes in omega (arith, same))
    ∙ ap (λ n. Some n) (omega arith))
  where
    by : (b : Bool) → test x ≡ b → position_from test (from + 1) xs ≡ Some (from + suc k) → cond b (Some from) (position_from test (from + 1) xs) ≡ Some (from + suc k)
    by true is later = let clash = only 0 (omega arith) is in absurd (omega (arith, clash))
    by false is later = later

-- of items with different numbers, the one with a text is found by the text, if items with one text have one list of numbers
found : {X : Type 0} (written numbers : X → List ℕ) (xs : List X) (k : ℕ) (d : X) (text : List ℕ) → are_distinct_texts (map numbers xs) ≡ true →
    ((j : ℕ) → j < length xs → written (get_or xs j d) ≡ written (get_or xs k d) → numbers (get_or xs j d) ≡ numbers (get_or xs k d)) → k < length xs → written (get_or xs k d) ≡ text →
    position (λ x. bytes_eq (written x) text) xs ≡ Some k
found written numbers xs k d text distinct same lt is =
    let long = length-map xs numbers in
    position_from-zero (λ x. bytes_eq (written x) text) xs
    ∙ only_first (λ x. bytes_eq (written x) text) xs 0 k d lt ((bytes_eq-Decides (written (get_or xs k d)) text).1 is)
    (λ j less passes. one_place (map numbers xs) j k [] distinct (omega (arith, less, long)) (omega (arith, lt, long))
    (get_or-map numbers xs j d [] less ∙ same j less ((bytes_eq-Decides (written (get_or xs j d)) text).0 passes ∙ sym is) ∙ sym (get_or-map numbers xs k d [] lt)))
    ∙ ap (λ n. Some n) (omega arith)

module _ (task : Task) where
  abbrev atom_at : ℕ → Atom
  atom_at k = get_or task.atoms k no_atom

  named_atom : (k : ℕ) → k < length task.atoms → is_named_atom task.labels (atom_at k) ≡ true
  named_atom k lt = passes_at (is_named_atom task.labels) task.atoms k no_atom task.named_atoms lt

  pub atom_group : (k : ℕ) → k < length task.atoms → IsGroup (atom_leaves task.labels (atom_at k))
  atom_group k lt =
      leaves_group task.labels.predicates task.labels.objects task.predicate_names task.object_names task.distinct_predicates task.distinct_objects (atom_at k).predicate (atom_at k).objects (named_atom k lt)

  -- the text of an atom has the atom's number
  pub atom_found : (k : ℕ) → k < length task.atoms → atom_number task (group_text (atom_leaves task.labels (atom_at k))) ≡ Some k
  atom_found k lt =
      found (atom_text task.labels) atom_numbers task.atoms k no_atom (group_text (atom_leaves task.labels (atom_at k))) task.distinct_atoms
      (λ j less e.
      let texts = sym (leaves_text task.labels (atom_at j)) ∙ e ∙ leaves_text task.labels (atom_at k) in
      same_numbers task.labels.predicates task.labels.objects task.predicate_names task.object_names task.distinct_predicates task.distinct_objects
      (atom_at j).predicate (atom_at k).predicate (atom_at j).objects (atom_at k).objects (named_atom j less) (named_atom k lt)
      (same_group (atom_leaves task.labels (atom_at j)) (atom_leaves task.labels (atom_at k)) [] [] (atom_group j less) (atom_group k lt) (ap (λ t. t ++ []) texts)).0)
      lt (leaves_text task.labels (atom_at k))

  abbrev act_at : ℕ → Act
  act_at k = get_or task.acts k no_act

  named_act : (k : ℕ) → k < length task.acts → is_named_action task.labels (act_at k).ground ≡ true
  named_act k lt = passes_at (λ (act : Act). is_named_action task.labels act.ground) task.acts k no_act task.named_acts lt

  at_group : (k : ℕ) → k < length task.acts → IsGroup (action_leaves task.labels (act_at k).ground)
  at_group k lt =
      leaves_group task.labels.schemas task.labels.objects task.schema_names task.object_names task.distinct_schemas task.distinct_objects (act_at k).ground.schema (act_at k).ground.objects (named_act k lt)

  act_leaves_at : (k : ℕ) → k < length task.acts → action_leaves task.labels (act_at k).ground ≡ act_leaves task k
  act_leaves_at k lt = ap (λ o. option_map_or (λ (act : Act). action_leaves task.labels act.ground) o []) (sym (slice_get-get_or task.acts k no_act lt))

  pub act_group : (k : ℕ) → k < length task.acts → IsGroup (act_leaves task k)
  act_group k lt = rw (sym (act_leaves_at k lt)) (at_group k lt)

  -- the text of an action has the action's number
  pub act_found : (k : ℕ) → k < length task.acts → act_number task (group_text (act_leaves task k)) ≡ Some k
  act_found k lt =
      found (λ (act : Act). action_text task.labels act.ground) (λ (act : Act). action_numbers act.ground) task.acts k no_act (group_text (act_leaves task k)) task.distinct_acts
      (λ j less e.
      let texts = sym (action_leaves_text task.labels (act_at j).ground) ∙ e ∙ action_leaves_text task.labels (act_at k).ground in
      same_numbers task.labels.schemas task.labels.objects task.schema_names task.object_names task.distinct_schemas task.distinct_objects
      (act_at j).ground.schema (act_at k).ground.schema (act_at j).ground.objects (act_at k).ground.objects (named_act j less) (named_act k lt)
      (same_group (action_leaves task.labels (act_at j).ground) (action_leaves task.labels (act_at k).ground) [] [] (at_group j less) (at_group k lt) (ap (λ t. t ++ []) texts)).0)
      lt (action_leaves_text task.labels (act_at k).ground ∙ ap group_text (act_leaves_at k lt))
