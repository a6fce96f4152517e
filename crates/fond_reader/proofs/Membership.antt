-- Trees of a list, and sections with a head.
use Rattle.std.proofs.Common.{◌≡◌, ◌⊎◌, inl, inr, ℕ, ◌≤◌, ◌||◌, Bool, true, false, List, [], ◌∷◌, length, Option, Some, None, refl, sym, ap, subst, ◌∙◌, arith, append-nil, if◌then◌else◌, Contains}
use Rattle.std.specs.List.{AllByRecursion, flat_map, list_any, list_all, filter_map}
use Rattle.std.specs.Str.{bytes_eq}
use Rattle.std.proofs.lemmas.Slice.Eq.{bytes_eq-Decides}
use Rattle.fond_tree.specs.declared.tree.Tree.{Tree}
use Rattle.fond_tree.specs.Trees.{members_of, leaf_of, head_of}
use Rattle.fond_ast.specs.declared.files.Schema.{Schema}
use Rattle.fond_tree.specs.Roles.{is_headed_by}
use Rattle.fond_tree.specs.Words.{has_head, is_one_of, is_word}
use Rattle.fond_tree.proofs.Again.{any_headed}
use Rattle.fond_tree.proofs.Heads.{HasHead}
use Rattle.fond_reader.specs.Files.{headed, content, contents, IsSchemaOf, AreSchemasOf}
use Rattle.fond_reader.proofs.Through.{first_of_both, second_of_both, true_is_false}

-- a tree is one of these
abbrev pub In : Tree → List Tree → Type 0
In tree [] = ⊥
In tree (t ∷ ts) = (t ≡ tree) ⊎ In tree ts

-- what holds of each tree of a list
pub all_in : (P : Tree → Type 0) (trees : List Tree) → ((tree : Tree) → In tree trees → P tree) → AllByRecursion P trees
all_in P [] each = tt
all_in P (t ∷ ts) each = (each t (inl refl), all_in P ts (λ tree later. each tree (inr later)))

-- what passes a test in a list in which all trees do
pub passes_in : (test : Tree → Bool) (trees : List Tree) (tree : Tree) → list_all test trees ≡ true → In tree trees → test tree ≡ true
passes_in test [] tree all here = absurd here
passes_in test (t ∷ ts) tree all (inl same) = ap test (sym same) ∙ first_of_both (test t) _ all
passes_in test (t ∷ ts) tree all (inr later) = passes_in test ts tree (second_of_both (test t) _ all) later

module _ (word : List ℕ) (tree : Tree) (has : has_head word tree ≡ true) where
  pub in_headed : (trees : List Tree) → In tree trees → In tree (headed word trees)
  in_headed [] here = here
  in_headed (t ∷ ts) (inl same) = subst (λ (b : Bool). In tree (if b then t ∷ headed word ts else headed word ts)) (sym (ap (has_head word) same ∙ has)) (inl same)
  in_headed (t ∷ ts) (inr later) = step (has_head word t) (in_headed ts later) where
    step : (b : Bool) → In tree (headed word ts) → In tree (if b then t ∷ headed word ts else headed word ts)
    step true rest = inr rest
    step false rest = rest

  -- a section whose head occurs once is the only one with it
  pub alone : (trees : List Tree) → In tree trees → length (headed word trees) ≤ 1 → contents word trees ≡ content tree
  alone trees here few = from (headed word trees) (in_headed trees here) few where
    from : (those : List Tree) → In tree those → length those ≤ 1 → flat_map content those ≡ content tree
    from [] none few = absurd none
    from (t ∷ []) (inl same) few = append-nil (content t) ∙ ap content same
    from (t ∷ []) (inr none) few = absurd none
    from (t ∷ u ∷ us) any few = absurd (omega arith)

pub schema_in : (tree : Tree) (trees : List Tree) (schemas : List Schema) → AreSchemasOf trees schemas → In tree trees → (schema : Schema) × IsSchemaOf tree schema
schema_in tree [] schemas are here = absurd here
schema_in tree (t ∷ ts) [] are here = absurd are
schema_in tree (t ∷ ts) (s ∷ ss) are (inl same) = (s, subst (λ (u : Tree). IsSchemaOf u s) same are.0)
schema_in tree (t ∷ ts) (s ∷ ss) are (inr later) = schema_in tree ts ss are.1 later

-- a node with a head that is one of some words
pub record HasKnown (words : List (List ℕ)) (tree : Tree) : Type 0 where
  pub word : List ℕ
  pub after : List Tree
  pub has : HasHead tree word after
  pub known : is_one_of words word ≡ true
  pub head_is : head_of tree ≡ Some word

pub known_there : (words : List (List ℕ)) (tree : Tree) → is_headed_by words (head_of tree) ≡ true → HasKnown words tree
known_there words tree is = from (members_of tree) refl where
  found : (head : Option (List ℕ)) → head_of tree ≡ head → is_headed_by words head ≡ true
  found head same = ap (is_headed_by words) (sym same) ∙ is

  with_head : (head : Tree) (after : List Tree) → members_of tree ≡ Some (head ∷ after) → (leaf : Option (List ℕ)) → leaf_of head ≡ leaf → HasKnown words tree
  with_head head after whole None leaf = absurd (true_is_false (sym (found None (head_is_front ∙ leaf)))) where
    head_is_front : head_of tree ≡ leaf_of head
    head_is_front = rw whole refl
  with_head head after whole (Some word) leaf =
      let head_is : head_of tree ≡ Some word = (let front_is : head_of tree ≡ leaf_of head = rw whole refl in front_is ∙ leaf) in
      record { word = word; after = after; has = record { head = head; whole = whole; leaf = leaf }; known = found (Some word) head_is; head_is = head_is }

  from : (members : Option (List Tree)) → members_of tree ≡ members → HasKnown words tree
  from None whole = absurd (true_is_false (sym (found None (rw whole refl))))
  from (Some []) whole = absurd (true_is_false (sym (found None (rw whole refl))))
  from (Some (head ∷ after)) whole = with_head head after whole (leaf_of head) refl

-- two words that a test tells apart
pub other_word : (word other : List ℕ) → bytes_eq word other ≡ false → ¬ word ≡ other
other_word word other apart same = true_is_false (sym ((bytes_eq-Decides word other).1 same) ∙ apart)

pub has_this : (words : List (List ℕ)) (tree : Tree) (k : HasKnown words tree) (word : List ℕ) → bytes_eq k.word word ≡ true → has_head word tree ≡ true
has_this words tree k word same = ap (is_word word) k.head_is ∙ same

-- a head of some section is not lacking
headed_any : (word : List ℕ) (sections : List Tree) → (¬ headed word sections ≡ []) → list_any (has_head word) sections ≡ true
headed_any word [] some = absurd (some refl)
headed_any word (t ∷ ts) some = step (has_head word t) (headed_any word ts) some where
  step : (b : Bool) → ((¬ headed word ts ≡ []) → list_any (has_head word) ts ≡ true) → (¬ (if b then t ∷ headed word ts else headed word ts) ≡ []) → (b || list_any (has_head word) ts) ≡ true
  step true rest some = refl
  step false rest some = rest some

pub occurs : (word : List ℕ) (sections : List Tree) → (¬ contents word sections ≡ []) → Contains (filter_map head_of sections) word
occurs word sections some = (any_headed head_of word sections).0 (headed_any word sections (λ none. some (ap (flat_map content) none)))
