-- Domains and problems that are read fit.
use Rattle.std.proofs.Common.{◌≡◌, ◌⊎◌, inl, inr, ℕ, ◌≤◌, true, false, List, [], ◌∷◌, length, map, Option, Some, None, codes, refl, sym, ap, subst, ◌∙◌, arith, Contains}
use Rattle.std.specs.List.{AllByRecursion, AllZip}
use Rattle.std.specs.Str.{bytes_eq}
use Rattle.std.proofs.lemmas.Slice.Eq.{bytes_eq-Decides}
use Rattle.fond_text.specs.Lists.{each_passes}
use Rattle.fond_text.specs.declared.place.Place.{Place}
use Rattle.fond_tree.specs.declared.tree.Tree.{Tree}
use Rattle.fond_tree.specs.Trees.{members_of, leaf_of, head_of}
use Rattle.fond_ast.specs.declared.files.Domain.{Domain}
use Rattle.fond_ast.specs.declared.files.Problem.{Problem}
use Rattle.fond_tree.specs.declared.role.Role.{Role}
use Rattle.fond_tree.specs.declared.role.Role.TheVariants as role
use Rattle.fond_tree.specs.declared.role.FixedWord.{FixedWord}
use Rattle.fond_tree.specs.declared.role.FixedWord.TheVariants as fixed
use Rattle.fond_tree.specs.declared.role.Rest.TheVariants.{NoMore, Each, Typed, Unread}
use Rattle.fond_tree.specs.Words.{is_word, is_one_of}
use Rattle.fond_tree.specs.Roles.{Shape, shape, Members, section, domain_section, problem_section, passed_over, word}
use Rattle.fond_tree.specs.FormFaults.{Fits, after_header, Repeats, Lacks, single_in_domain, single_in_problem}
use Rattle.fond_tree.proofs.Again.{or_cases}
use Rattle.fond_tree.proofs.Fitting.{IsShaped, node_fits, all_of_each, shaped_of_zip}
use Rattle.fond_tree.proofs.FittingLeaves.{fits_name, fits_head, fits_word}
use Rattle.fond_tree.proofs.FormFits.{shaped_each, shaped_fixed}
use Rattle.fond_tree.proofs.Heads.{HasHead}
use Rattle.fond_tree.proofs.Once.{repeats_twice}
use Rattle.fond_reader.specs.Bodies.{is_condition, is_initial}
use Rattle.fond_reader.specs.Files.{is_name_leaf, are_header, IsFile, headed, contents, AreSingle, is_declared, IsDomainOf, IsProblemOf}
use Rattle.fond_reader.specs.Forms.{is_only}
use Rattle.fond_reader.specs.Sorts.{FitsTyped}
use Rattle.fond_reader.specs.declared.typed.Sort.TheVariants.{Names}
use Rattle.fond_reader.proofs.HeadedSections.{content_is}
use Rattle.fond_reader.proofs.Lengths.{empty}
use Rattle.fond_reader.proofs.Membership.{In, all_in, passes_in, in_headed, alone, schema_in, HasKnown, known_there, has_this, other_word, occurs}
use Rattle.fond_reader.proofs.ReadForms.{condition_fits, initial_fits}
use Rattle.fond_reader.proofs.ReadLeaves.{list_fits}
use Rattle.fond_reader.proofs.ReadSections.{predicate_fits, schema_fits}
use Rattle.fond_tree.proofs.Again.{word_is as leaf_is}
use Rattle.fond_reader.proofs.Through.{first_of_both, second_of_both, true_is_false}

-- a leaf that is a name fits
name_leaf_fits : (tree : Tree) → is_name_leaf tree ≡ true → Fits role.Name tree
name_leaf_fits tree is = from (leaf_of tree) refl where
  from : (leaf : Option (List ℕ)) → leaf_of tree ≡ leaf → Fits role.Name tree
  from None same = absurd (true_is_false (sym (rw same at is)))
  from (Some leaf) same = fits_name tree (record { leaf = leaf; is = same; passes = rw same at is })

word_read : (kind : FixedWord) (tree : Tree) → is_word (word kind) (leaf_of tree) ≡ true → Fits (role.Word kind) tree
word_read kind tree is =
    let leaf = leaf_is (word kind) (leaf_of tree) is in
    fits_word kind tree (record { leaf = word kind; is = leaf; passes = (bytes_eq-Decides (word kind) (word kind)).1 refl })

only_name : (trees : List Tree) → is_only is_name_leaf (Some trees) ≡ true → AllZip Fits (role.Name ∷ []) trees
only_name [] is = absurd (cc)
only_name (t ∷ ts) is = subst (λ us. AllZip Fits (role.Name ∷ []) (t ∷ us)) (sym (empty ts (second_of_both (is_name_leaf t) _ is))) (name_leaf_fits t (first_of_both _ _ is), tt)

header_fits : (kind : FixedWord) (tree : Tree) → are_header (word kind) (members_of tree) ≡ true → Fits (role.Header kind) tree
header_fits kind tree is = from (members_of tree) refl is where
  from : (members : Option (List Tree)) → members_of tree ≡ members → are_header (word kind) members ≡ true → Fits (role.Header kind) tree
  from None whole h = absurd (cc)
  from (Some []) whole h = absurd (cc)
  from (Some (first ∷ after)) whole h =
      let zip = shaped_of_zip (role.Name ∷ []) after (only_name after (second_of_both (is_word (word kind) (leaf_of first)) _ h)) in
      node_fits (role.Header kind) tree (λ place again. again) (λ place lacks. lacks) (first ∷ after) (shape (role.Word kind ∷ role.Name ∷ []) NoMore) whole refl
      (record { counted = zip.0; inner = (word_read kind first (first_of_both _ _ h), zip.1) })

-- no head of the sections of a file is repeated if each that counts occurs once
unrepeated : (single : List (List ℕ)) (sections : List Tree) (place : Place) → AreSingle single sections → ¬ Repeats head_of single sections place
unrepeated single sections place once repeats = let twice = repeats_twice head_of single sections place repeats in omega (arith, twice.2, once twice.0 twice.1)

sections_shape : (kind : FixedWord) (of : Role) (tree : Tree) (sections : List Tree) (file : IsFile (word kind) tree sections) → AllByRecursion (Fits of) sections →
    IsShaped (shape (role.Word fixed.Define ∷ role.Header kind ∷ []) (Each of)) (file.define ∷ file.header ∷ sections)
sections_shape kind of tree sections file fit = record { counted = refl; inner = (word_read fixed.Define file.define file.defined, (header_fits kind file.header file.headed, all_of_each of sections fit)) }

-- ---- sections of a domain

module _ (tree : Tree) (w : List ℕ) (after : List Tree) (has : HasHead tree w after) where
  -- a section other than an action has no keys
  domain_section_fits : (asked : Shape) → domain_section w ≡ Members asked → head_of tree ≡ Some w → bytes_eq w (codes ":action") ≡ false → IsShaped asked (has.head ∷ after) → Fits role.DomainSection tree
  domain_section_fits asked asks head apart s =
      node_fits role.DomainSection tree
      (λ place again. let both : Some w ≡ Some (codes ":action") = sym head ∙ again.2 in let same : w ≡ codes ":action" = cc in other_word w (codes ":action") apart same)
      (λ place lacks. lacks) (has.head ∷ after) asked has.whole (ap (λ leaf. Some (section domain_section leaf)) has.leaf ∙ ap (λ e. Some e) asks) s

  problem_section_fits : (asked : Shape) → problem_section w ≡ Members asked → IsShaped asked (has.head ∷ after) → Fits role.ProblemSection tree
  problem_section_fits asked asks s =
      node_fits role.ProblemSection tree (λ place again. again) (λ place lacks. lacks) (has.head ∷ after) asked has.whole (ap (λ leaf. Some (section problem_section leaf)) has.leaf ∙ ap (λ e. Some e) asks) s

  shaped_typed : FitsTyped Names after → IsShaped (shape (role.Head ∷ []) (Typed role.Name role.Name)) (has.head ∷ after)
  shaped_typed fit = record { counted = refl; inner = (fits_head has.head w has.leaf, fit) }

  shaped_unread : IsShaped (shape (role.Head ∷ []) Unread) (has.head ∷ after)
  shaped_unread = record { counted = refl; inner = (fits_head has.head w has.leaf, tt) }

-- a known word is one of these
module _ (words : List (List ℕ)) (tree : Tree) (k : HasKnown words tree) (w : List ℕ) (same : bytes_eq k.word w ≡ true) where
  this_word : k.word ≡ w
  this_word = (bytes_eq-Decides k.word w).0 same

  this_head : HasHead tree w k.after
  this_head = subst (λ (v : List ℕ). HasHead tree v k.after) this_word k.has

  this_head_of : head_of tree ≡ Some w
  this_head_of = k.head_is ∙ ap (λ v. Some v) this_word

  -- what follows the head is what all sections with it contain
  this_content : (sections : List Tree) → In tree sections → length (headed w sections) ≤ 1 → contents w sections ≡ k.after
  this_content sections here few = alone w tree (has_this words tree k w same) sections here few ∙ content_is tree w k.after this_head

predicates_fit : (declared : List _) (trees : List Tree) → each_passes (map is_declared declared) trees ≡ true → AllByRecursion (Fits role.Predicate) trees
predicates_fit [] [] is = tt
predicates_fit [] (t ∷ ts) is = absurd (cc)
predicates_fit (d ∷ ds) [] is = absurd (cc)
predicates_fit (d ∷ ds) (t ∷ ts) is = (predicate_fits d t (first_of_both _ _ is), predicates_fit ds ts (second_of_both (is_declared d t) _ is))

abbrev DomainHeads : List (List ℕ)
DomainHeads = codes ":requirements" ∷ codes ":types" ∷ codes ":constants" ∷ codes ":predicates" ∷ codes ":action" ∷ []

module _ (tree : Tree) (domain : Domain) (is : IsDomainOf tree domain) (t : Tree) (here : In t is.sections) (k : HasKnown DomainHeads t) where
  domain_names_fit : (w : List ℕ) → bytes_eq k.word w ≡ true → domain_section w ≡ Members (shape (role.Head ∷ []) (Typed role.Name role.Name)) → bytes_eq w (codes ":action") ≡ false → Contains single_in_domain w →
      FitsTyped Names (contents w is.sections) → Fits role.DomainSection t
  domain_names_fit w same asks apart counts fit =
      let has = this_head DomainHeads t k w same in
      domain_section_fits t w k.after has (shape (role.Head ∷ []) (Typed role.Name role.Name)) asks (this_head_of DomainHeads t k w same) apart
      (shaped_typed t w k.after has (subst (FitsTyped Names) (this_content DomainHeads t k w same is.sections here (is.single w counts)) fit))

  requirements_fit : bytes_eq k.word (codes ":requirements") ≡ true → Fits role.DomainSection t
  requirements_fit same =
      let w = codes ":requirements" in
      let has = this_head DomainHeads t k w same in
      domain_section_fits t w k.after has (shape (role.Head ∷ []) Unread) refl (this_head_of DomainHeads t k w same) refl (shaped_unread t w k.after has)

  declared_fit : bytes_eq k.word (codes ":predicates") ≡ true → Fits role.DomainSection t
  declared_fit same =
      let w = codes ":predicates" in
      let has = this_head DomainHeads t k w same in
      let fit = predicates_fit domain.predicates (contents w is.sections) is.predicates in
      domain_section_fits t w k.after has (shape (role.Head ∷ []) (Each role.Predicate)) refl (this_head_of DomainHeads t k w same) refl
      (shaped_each role.Predicate has.head w k.after has.leaf (subst (AllByRecursion (Fits role.Predicate)) (this_content DomainHeads t k w same is.sections here (is.single w (3, omega arith, refl))) fit))

  action_fits : bytes_eq k.word (codes ":action") ≡ true → Fits role.DomainSection t
  action_fits same =
      let has = has_this DomainHeads t k (codes ":action") same in
      let schema = schema_in t (headed (codes ":action") is.sections) domain.schemas is.schemas (in_headed (codes ":action") t has is.sections here) in
      schema_fits t schema.0 schema.1 has

  domain_part_fits : Fits role.DomainSection t
  domain_part_fits = elim (or_cases (bytes_eq k.word (codes ":requirements")) _ k.known) [
    | inl same ↦ requirements_fit same
    | inr more ↦ elim (or_cases (bytes_eq k.word (codes ":types")) _ more) [
      | inl same ↦ domain_names_fit (codes ":types") same refl refl (1, omega arith, refl) (list_fits Names domain.kinds _ is.types)
      | inr more ↦ elim (or_cases (bytes_eq k.word (codes ":constants")) _ more) [
        | inl same ↦ domain_names_fit (codes ":constants") same refl refl (2, omega arith, refl) (list_fits Names domain.constants _ is.constants)
        | inr more ↦ elim (or_cases (bytes_eq k.word (codes ":predicates")) _ more) [
          | inl same ↦ declared_fit same
          | inr more ↦ elim (or_cases (bytes_eq k.word (codes ":action")) false more) [ inl same ↦ action_fits same | inr none ↦ absurd (cc) ]
        ]
      ]
    ]
  ]

-- the members after the header
sections_again : (tree define header : Tree) (sections members : List Tree) → members_of tree ≡ Some (define ∷ header ∷ sections) → members_of tree ≡ Some members → after_header members ≡ sections
sections_again tree define header sections members whole other =
    let both : Some members ≡ Some (define ∷ header ∷ sections) = sym other ∙ whole in
    let same : members ≡ define ∷ header ∷ sections = cc in
    ap after_header same

-- a tree that is read as a domain fits
pub domain_fits : (tree : Tree) (domain : Domain) → IsDomainOf tree domain → Fits role.DomainFile tree
domain_fits tree domain is =
    let fit = all_in (Fits role.DomainSection) is.sections (λ t here. domain_part_fits tree domain is t here (known_there DomainHeads t (passes_in _ is.sections t is.known here))) in
    node_fits role.DomainFile tree
    (λ place again.
    unrepeated single_in_domain is.sections place is.single
    (subst (λ ts. Repeats head_of single_in_domain ts place) (sections_again tree is.file.define is.file.header is.sections again.0 is.file.whole again.1) again.2))
    (λ place lacks. lacks) (is.file.define ∷ is.file.header ∷ is.sections) (shape (role.Word fixed.Define ∷ role.Header fixed.Domain ∷ []) (Each role.DomainSection)) is.file.whole refl
    (sections_shape fixed.Domain role.DomainSection tree is.sections is.file fit)

-- ---- problems

abbrev ProblemHeads : List (List ℕ)
ProblemHeads = codes ":requirements" ∷ codes ":domain" ∷ codes ":objects" ∷ codes ":init" ∷ codes ":goal" ∷ passed_over

initials_fit : (initials : List _) (trees : List Tree) → each_passes (map is_initial initials) trees ≡ true → AllByRecursion (Fits role.Initial) trees
initials_fit [] [] is = tt
initials_fit [] (t ∷ ts) is = absurd (cc)
initials_fit (x ∷ xs) [] is = absurd (cc)
initials_fit (x ∷ xs) (t ∷ ts) is = (initial_fits x t (first_of_both _ _ is), initials_fit xs ts (second_of_both (is_initial x t) _ is))

goal_zip : (goal : _) (trees : List Tree) → each_passes (is_condition goal ∷ []) trees ≡ true → AllZip Fits (role.Condition ∷ []) trees
goal_zip goal [] is = absurd (cc)
goal_zip goal (t ∷ []) is = (condition_fits goal t (first_of_both _ _ is), tt)
goal_zip goal (t ∷ u ∷ us) is = let none = second_of_both (is_condition goal t) false is in absurd (cc)

module _ (tree : Tree) (problem : Problem) (is : IsProblemOf tree problem) (t : Tree) (here : In t is.sections) (k : HasKnown ProblemHeads t) where
  unread_fits : (w : List ℕ) → bytes_eq k.word w ≡ true → problem_section w ≡ Members (shape (role.Head ∷ []) Unread) → Fits role.ProblemSection t
  unread_fits w same asks = let has = this_head ProblemHeads t k w same in problem_section_fits t w k.after has (shape (role.Head ∷ []) Unread) asks (shaped_unread t w k.after has)

  fixed_fits : (w : List ℕ) (of : Role) → bytes_eq k.word w ≡ true → problem_section w ≡ Members (shape (role.Head ∷ of ∷ []) NoMore) → Contains single_in_problem w → AllZip Fits (of ∷ []) (contents w is.sections) →
      Fits role.ProblemSection t
  fixed_fits w of same asks counts fit =
      let has = this_head ProblemHeads t k w same in
      problem_section_fits t w k.after has (shape (role.Head ∷ of ∷ []) NoMore) asks
      (shaped_fixed (of ∷ []) has.head w k.after has.leaf (subst (AllZip Fits (of ∷ [])) (this_content ProblemHeads t k w same is.sections here (is.single w counts)) fit))

  objects_fit : bytes_eq k.word (codes ":objects") ≡ true → Fits role.ProblemSection t
  objects_fit same =
      let w = codes ":objects" in
      let has = this_head ProblemHeads t k w same in
      problem_section_fits t w k.after has (shape (role.Head ∷ []) (Typed role.Name role.Name)) refl
      (shaped_typed t w k.after has (subst (FitsTyped Names) (this_content ProblemHeads t k w same is.sections here (is.single w (2, omega arith, refl))) (list_fits Names problem.objects _ is.objects)))

  init_fits : bytes_eq k.word (codes ":init") ≡ true → Fits role.ProblemSection t
  init_fits same =
      let w = codes ":init" in
      let has = this_head ProblemHeads t k w same in
      problem_section_fits t w k.after has (shape (role.Head ∷ []) (Each role.Initial)) refl
      (shaped_each role.Initial has.head w k.after has.leaf
      (subst (AllByRecursion (Fits role.Initial)) (this_content ProblemHeads t k w same is.sections here (is.single w (3, omega arith, refl))) (initials_fit problem.init (contents w is.sections) is.init)))

  passed_fits : is_one_of passed_over k.word ≡ true → Fits role.ProblemSection t
  passed_fits passed = elim (or_cases (bytes_eq k.word (codes ":metric")) _ passed) [
    | inl same ↦ unread_fits (codes ":metric") same refl
    | inr more ↦ elim (or_cases (bytes_eq k.word (codes ":goal-reward")) _ more) [
      | inl same ↦ unread_fits (codes ":goal-reward") same refl
      | inr more ↦ elim (or_cases (bytes_eq k.word (codes ":length")) false more) [ inl same ↦ unread_fits (codes ":length") same refl | inr none ↦ absurd (cc) ]
    ]
  ]

  problem_part_fits : Fits role.ProblemSection t
  problem_part_fits = elim (or_cases (bytes_eq k.word (codes ":requirements")) _ k.known) [
    | inl same ↦ unread_fits (codes ":requirements") same refl
    | inr more ↦ elim (or_cases (bytes_eq k.word (codes ":domain")) _ more) [
      | inl same ↦ fixed_fits (codes ":domain") role.Name same refl (1, omega arith, refl) (only_name (contents (codes ":domain") is.sections) is.domain)
      | inr more ↦ elim (or_cases (bytes_eq k.word (codes ":objects")) _ more) [
        | inl same ↦ objects_fit same
        | inr more ↦ elim (or_cases (bytes_eq k.word (codes ":init")) _ more) [
          | inl same ↦ init_fits same
          | inr more ↦ elim (or_cases (bytes_eq k.word (codes ":goal")) _ more) [
            | inl same ↦ fixed_fits (codes ":goal") role.Condition same refl (4, omega arith, refl) (goal_zip problem.goal (contents (codes ":goal") is.sections) is.goal)
            | inr passed ↦ passed_fits passed
          ]
        ]
      ]
    ]
  ]

-- contents that are read are there
domain_occurs : (trees : List Tree) → is_only is_name_leaf (Some trees) ≡ true → ¬ trees ≡ []
domain_occurs [] is none = true_is_false (sym is)
domain_occurs (t ∷ ts) is none = cc

goal_occurs : (goal : _) (trees : List Tree) → each_passes (is_condition goal ∷ []) trees ≡ true → ¬ trees ≡ []
goal_occurs goal [] is none = true_is_false (sym is)
goal_occurs goal (t ∷ ts) is none = cc

-- a tree that is read as a problem fits
pub problem_fits : (tree : Tree) (problem : Problem) → IsProblemOf tree problem → Fits role.ProblemFile tree
problem_fits tree problem is =
    let fit = all_in (Fits role.ProblemSection) is.sections (λ t here. problem_part_fits tree problem is t here (known_there ProblemHeads t (passes_in _ is.sections t is.known here))) in
    node_fits role.ProblemFile tree
    (λ place again.
    unrepeated single_in_problem is.sections place is.single
    (subst (λ ts. Repeats head_of single_in_problem ts place) (sections_again tree is.file.define is.file.header is.sections again.0 is.file.whole again.1) again.2))
    (λ place lacks. there (sections_again tree is.file.define is.file.header is.sections lacks.0 is.file.whole lacks.1) lacks.3)
    (is.file.define ∷ is.file.header ∷ is.sections) (shape (role.Word fixed.Define ∷ role.Header fixed.Problem ∷ []) (Each role.ProblemSection)) is.file.whole refl
    (sections_shape fixed.Problem role.ProblemSection tree is.sections is.file fit) where
      there : {ts : List Tree} → ts ≡ is.sections → Lacks (codes ":domain") ts ⊎ Lacks (codes ":goal") ts → ⊥
      there same (inl lacks) = (subst (Lacks (codes ":domain")) same lacks) (occurs (codes ":domain") is.sections (domain_occurs (contents (codes ":domain") is.sections) is.domain))
      there same (inr lacks) = (subst (Lacks (codes ":goal")) same lacks) (occurs (codes ":goal") is.sections (goal_occurs problem.goal (contents (codes ":goal") is.sections) is.goal))
