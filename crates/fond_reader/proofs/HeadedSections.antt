-- The sections of a file that fits, by their heads, and their contents.
use Rattle.std.proofs.Common.{◌≡◌, ◌⊎◌, inl, inr, ℕ, zero, suc, ◌≤◌, ◌<◌, Bool, true, false, List, [], ◌∷◌, length, Option, Some, None, refl, sym, ap, subst, ◌∙◌, arith, append-nil, if◌then◌else◌, Contains, slice_index_or}
use Rattle.std.specs.List.{AllByRecursion, flat_map, list_all, filter_map}
use Rattle.std.proofs.lemmas.Slice.Eq.{bytes_eq-Decides}
use Rattle.fond_tree.specs.declared.tree.Tree.{Tree}
use Rattle.fond_tree.specs.Trees.{head_of}
use Rattle.fond_tree.specs.declared.role.Role.{Role}
use Rattle.fond_tree.specs.Words.{is_word, has_head}
use Rattle.fond_tree.specs.FormFaults.{Fits, Lacks}
use Rattle.fond_tree.proofs.Heads.{HasHead}
use Rattle.fond_reader.specs.Files.{headed, content, contents, but_first}
use Rattle.fond_reader.proofs.Through.{both_hold, true_is_false}

-- the members after the head of a node
pub content_is : (tree : Tree) (word : List ℕ) (after : List Tree) → HasHead tree word after → content tree ≡ after
content_is tree word after has = ap but_first has.whole

module _ (word : List ℕ) (of : Role) where
  -- a section with the head fits, and its content is that of all
  pub record OneSection (sections : List Tree) : Type 0 where
    pub section : Tree
    pub fits : Fits of section
    pub has : has_head word section ≡ true
    pub contents_are : contents word sections ≡ content section

  -- the sections with the head fit
  pub headed_fit : (sections : List Tree) → AllByRecursion (Fits of) sections → AllByRecursion (λ section. Fits of section × (has_head word section ≡ true)) (headed word sections)
  headed_fit [] fit = tt
  headed_fit (t ∷ ts) fit = from (has_head word t) refl (headed_fit ts fit.1) where
    from : (b : Bool) → has_head word t ≡ b → AllByRecursion (λ section. Fits of section × (has_head word section ≡ true)) (headed word ts) →
        AllByRecursion (λ section. Fits of section × (has_head word section ≡ true)) (if b then t ∷ headed word ts else headed word ts)
    from true has rest = ((fit.0, has), rest)
    from false has rest = rest

  -- at most one section has the head
  pub one_section : (sections : List Tree) → AllByRecursion (Fits of) sections → length (headed word sections) ≤ 1 → ((headed word sections ≡ []) × (contents word sections ≡ [])) ⊎ OneSection sections
  one_section sections fit few = from (headed word sections) refl few (headed_fit sections fit) where
    from : (trees : List Tree) → headed word sections ≡ trees → length trees ≤ 1 → AllByRecursion (λ section. Fits of section × (has_head word section ≡ true)) trees →
        ((headed word sections ≡ []) × (contents word sections ≡ [])) ⊎ OneSection sections
    from [] is small all = inl (is, ap (flat_map content) is)
    from (t ∷ []) is small all = inr (record { section = t; fits = all.0.0; has = all.0.1; contents_are = ap (flat_map content) is ∙ append-nil (content t) })
    from (t ∷ u ∷ us) is small all = absurd (omega arith)

  -- what holds of no trees, and of the content of each fitting section with the head, holds of all contents
  pub contents_hold : (P : List Tree → Type 0) → P [] → ((section : Tree) → Fits of section → has_head word section ≡ true → P (content section)) →
      (sections : List Tree) → AllByRecursion (Fits of) sections → length (headed word sections) ≤ 1 → P (contents word sections)
  contents_hold P none each sections fit few = elim (one_section sections fit few) [
    | inl nothing ↦ subst P (sym nothing.1) none
    | inr one ↦ subst P (sym one.contents_are) (each one.section one.fits one.has)
  ]

-- a head that no section has is lacking
lacking : (word : List ℕ) (sections : List Tree) → headed word sections ≡ [] → Lacks word sections
lacking word [] none found = absurd (omega (arith, found.1))
lacking word (t ∷ ts) none found = step (head_of t) refl (λ n f. lacking word ts n f) where
  apart : (xs : List Tree) → ¬ t ∷ xs ≡ []
  apart xs is = cc

  headed_rest : (b : Bool) → (if b then t ∷ headed word ts else headed word ts) ≡ [] → headed word ts ≡ []
  headed_rest true is = absurd (apart (headed word ts) is)
  headed_rest false is = is

  unheaded : (b : Bool) → (if b then t ∷ headed word ts else headed word ts) ≡ [] → ¬ b ≡ true
  unheaded true is same = apart (headed word ts) is
  unheaded false is same = true_is_false (sym same)

  later : (h : List ℕ) (xs : List (List ℕ)) → (¬ h ≡ word) → (k : ℕ) → k < length (h ∷ xs) → slice_index_or (h ∷ xs) k word ≡ word → Contains xs word
  later h xs other zero below is = absurd (other is)
  later h xs other (suc k) below is = (k, omega arith, is)

  step : (head : Option (List ℕ)) → head_of t ≡ head → ¬ (headed word ts ≡ [] → ¬ Contains (filter_map head_of ts) word)
  step None is rest = rest (headed_rest (has_head word t) none) (rw is at found)
  step (Some h) is rest =
      let known : Contains (h ∷ filter_map head_of ts) word = rw is at found in
      let other : ¬ h ≡ word = λ same. unheaded (has_head word t) none (ap (λ head. is_word word head) is ∙ (bytes_eq-Decides h word).1 same) in
      rest (headed_rest (has_head word t) none) (later h (filter_map head_of ts) other known.0 known.1 known.2)

-- what holds of the content of each fitting section with a head that is not lacking holds of the contents
pub contents_there : (word : List ℕ) (of : Role) (P : List Tree → Type 0) → ((section : Tree) → Fits of section → has_head word section ≡ true → P (content section)) →
    (sections : List Tree) → AllByRecursion (Fits of) sections → length (headed word sections) ≤ 1 → (¬ Lacks word sections) → P (contents word sections)
contents_there word of P each sections fit few there = elim (one_section word of sections fit few) [
  | inl nothing ↦ absurd (there (lacking word sections nothing.0))
  | inr one ↦ subst P (sym one.contents_are) (each one.section one.fits one.has)
]

-- each fitting tree passes a test that all fitting trees pass
pub all_pass : (of : Role) (test : Tree → Bool) → ((tree : Tree) → Fits of tree → test tree ≡ true) → (trees : List Tree) → AllByRecursion (Fits of) trees → list_all test trees ≡ true
all_pass of test passes [] fit = refl
all_pass of test passes (t ∷ ts) fit = both_hold _ _ (passes t fit.0) (all_pass of test passes ts fit.1)
