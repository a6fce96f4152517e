-- The sections of a domain and of a problem that fit.
use Rattle.std.proofs.Common.{◌≡◌, inl, inr, ℕ, true, List, [], ◌∷◌, Some, codes, refl, sym, ap, subst, ◌∙◌, arith}
use Rattle.std.specs.List.{AllByRecursion, AllZip, list_all}
use Rattle.fond_text.specs.declared.place.Place.{Place}
use Rattle.fond_tree.specs.declared.tree.Tree.{Tree}
use Rattle.fond_tree.specs.Trees.{members_of, head_of, place_of}
use Rattle.fond_tree.specs.declared.role.Role.{Role}
use Rattle.fond_tree.specs.declared.role.Role.TheVariants as role
use Rattle.fond_tree.specs.declared.role.FixedWord.{FixedWord}
use Rattle.fond_tree.specs.declared.role.FixedWord.TheVariants as fixed
use Rattle.fond_tree.specs.declared.role.Rest.TheVariants.{NoMore, Each, Typed}
use Rattle.fond_tree.specs.Words.{is_word, has_head}
use Rattle.fond_tree.specs.Roles.{shape, Members, node_expected, leaf_code, domain_section, problem_section, word}
use Rattle.fond_tree.specs.FormFaults.{Fits, Repeats, single_in_domain, single_in_problem}
use Rattle.fond_tree.proofs.Fitting.{IsShaped, node_there, shaped, unrepeated, complete, each_fits, zip_fits}
use Rattle.fond_tree.proofs.FittingLeaves.{name_fits, word_fits}
use Rattle.fond_tree.proofs.FittingNodes.{header_there}
use Rattle.fond_tree.proofs.Once.{at_most_one}
use Rattle.fond_tree.proofs.Sections.{section_of_word, known_in_domain, known_in_problem}
use Rattle.fond_reader.specs.Files.{is_name_leaf, are_header, IsFile, content, contents, AreSingle, is_domain_section, is_problem_section}
use Rattle.fond_reader.specs.Forms.{is_only}
use Rattle.fond_reader.specs.Nodes.{sections_of}
use Rattle.fond_reader.specs.Sorts.{FitsTyped}
use Rattle.fond_reader.specs.declared.typed.Sort.TheVariants.{Names}
use Rattle.fond_reader.proofs.HeadedSections.{content_is, contents_hold, contents_there, all_pass}
use Rattle.fond_reader.proofs.Through.{both_hold}

-- a name that fits is a leaf that is a name
pub name_leaf : (tree : Tree) → Fits role.Name tree → is_name_leaf tree ≡ true
name_leaf tree fits = let l = name_fits tree fits in rw l.is l.passes

header_read : (kind : FixedWord) (tree : Tree) → Fits (role.Header kind) tree → are_header (word kind) (members_of tree) ≡ true
header_read kind tree fits =
    let there = header_there kind tree fits in
    let first = word_fits kind there.0 there.3 in
    ap (are_header (word kind)) there.2 ∙ both_hold _ _ (ap (is_word (word kind)) first.is ∙ first.passes) (both_hold _ _ (name_leaf there.1 there.4) refl)

-- a file that fits has the form of its kind, and its sections fit
pub record FitsFile (kind : List ℕ) (of : Role) (tree : Tree) (sections : List Tree) : Type 0 where
  pub file : IsFile kind tree sections
  pub fit : AllByRecursion (Fits of) sections

module _ (kind : FixedWord) (of inner : Role) (tree : Tree) (fits : Fits of tree) (no_leaf : (leaf : List ℕ) → leaf_code of leaf ≡ Some 7)
    (expects : (members : List Tree) → node_expected of members ≡ Some (Members (shape (role.Word fixed.Define ∷ role.Header kind ∷ []) (Each inner)))) where
  pub file_fits : FitsFile (word kind) inner tree (sections_of tree)
  file_fits = let node = node_there of tree fits no_leaf in from node.0 node.1 (shaped of tree fits node.0 (shape (role.Word fixed.Define ∷ role.Header kind ∷ []) (Each inner)) node.1 (expects node.0)) where
    sections_are : (define header : Tree) (sections : List Tree) → members_of tree ≡ Some (define ∷ header ∷ sections) → sections_of tree ≡ sections
    sections_are define header sections is = rw is refl

    from : (members : List Tree) → members_of tree ≡ Some members → IsShaped (shape (role.Word fixed.Define ∷ role.Header kind ∷ []) (Each inner)) members → FitsFile (word kind) inner tree (sections_of tree)
    from [] is s = let counted = s.counted in absurd (cc)
    from (define ∷ []) is s = let counted = s.counted in absurd (cc)
    from (define ∷ header ∷ sections) is s =
        let P : List Tree → Type 0 = λ ts. FitsFile (word kind) inner tree ts in
        let first = word_fits fixed.Define define s.inner.0 in
        subst P (sym (sections_are define header sections is)) (record {
          file = record { define = define; header = header; whole = is; defined = ap (is_word (codes "define")) first.is ∙ first.passes; headed = header_read kind header s.inner.1.0 };
          fit = each_fits inner sections s.inner.1.1;
        })

are_single : (single : List (List ℕ)) (sections : List Tree) → ((place : Place) → ¬ Repeats head_of single sections place) → AreSingle single sections
are_single single sections none = λ word counts. at_most_one head_of single sections none word counts

-- ---- domains

domain_typed : (w : List ℕ) → domain_section w ≡ Members (shape (role.Head ∷ []) (Typed role.Name role.Name)) → (section : Tree) → Fits role.DomainSection section → has_head w section ≡ true → FitsTyped Names (content section)
domain_typed w asks section fits has =
    let s = section_of_word role.DomainSection domain_section (λ _. refl) (λ _. refl) section fits w (shape (role.Head ∷ []) (Typed role.Name role.Name)) asks has in
    subst (FitsTyped Names) (sym (content_is section w s.0 s.1)) s.2.inner.1

predicates_fit : (section : Tree) → Fits role.DomainSection section → has_head (codes ":predicates") section ≡ true → AllByRecursion (Fits role.Predicate) (content section)
predicates_fit section fits has =
    let s = section_of_word role.DomainSection domain_section (λ _. refl) (λ _. refl) section fits (codes ":predicates") (shape (role.Head ∷ []) (Each role.Predicate)) refl has in
    subst (AllByRecursion (Fits role.Predicate)) (sym (content_is section (codes ":predicates") s.0 s.1)) (each_fits role.Predicate s.0 s.2.inner.1)

pub record FitsDomain (tree : Tree) (sections : List Tree) : Type 0 where
  pub file : IsFile (codes "domain") tree sections
  pub fit : AllByRecursion (Fits role.DomainSection) sections
  pub known : list_all is_domain_section sections ≡ true
  pub single : AreSingle single_in_domain sections
  pub types : FitsTyped Names (contents (codes ":types") sections)
  pub constants : FitsTyped Names (contents (codes ":constants") sections)
  pub predicates : AllByRecursion (Fits role.Predicate) (contents (codes ":predicates") sections)

pub domain_fits : (tree : Tree) → Fits role.DomainFile tree → FitsDomain tree (sections_of tree)
domain_fits tree fits =
    let f = file_fits fixed.Domain role.DomainFile role.DomainSection tree fits (λ _. refl) (λ _. refl) in
    let sections : List Tree = sections_of tree in
    let single : AreSingle single_in_domain sections = are_single single_in_domain sections (λ place repeats. unrepeated role.DomainFile tree fits place (f.file.define ∷ f.file.header ∷ sections, f.file.whole, repeats)) in
    record {
      file = f.file;
      fit = f.fit;
      known = all_pass role.DomainSection is_domain_section (λ section fit. let k = known_in_domain section fit in rw k.1 k.2) sections f.fit;
      single = single;
      types = contents_hold (codes ":types") role.DomainSection (FitsTyped Names) tt (domain_typed (codes ":types") refl) sections f.fit (single (codes ":types") (1, omega arith, refl));
      constants = contents_hold (codes ":constants") role.DomainSection (FitsTyped Names) tt (domain_typed (codes ":constants") refl) sections f.fit (single (codes ":constants") (2, omega arith, refl));
      predicates = contents_hold (codes ":predicates") role.DomainSection (AllByRecursion (Fits role.Predicate)) tt predicates_fit sections f.fit (single (codes ":predicates") (3, omega arith, refl));
    }

-- ---- problems

module _ (section : Tree) (fits : Fits role.ProblemSection section) where
  objects_fit : has_head (codes ":objects") section ≡ true → FitsTyped Names (content section)
  objects_fit has =
      let s = section_of_word role.ProblemSection problem_section (λ _. refl) (λ _. refl) section fits (codes ":objects") (shape (role.Head ∷ []) (Typed role.Name role.Name)) refl has in
      subst (FitsTyped Names) (sym (content_is section (codes ":objects") s.0 s.1)) s.2.inner.1

  init_fits : has_head (codes ":init") section ≡ true → AllByRecursion (Fits role.Initial) (content section)
  init_fits has =
      let s = section_of_word role.ProblemSection problem_section (λ _. refl) (λ _. refl) section fits (codes ":init") (shape (role.Head ∷ []) (Each role.Initial)) refl has in
      subst (AllByRecursion (Fits role.Initial)) (sym (content_is section (codes ":init") s.0 s.1)) (each_fits role.Initial s.0 s.2.inner.1)

  goal_fits : has_head (codes ":goal") section ≡ true → AllZip Fits (role.Condition ∷ []) (content section)
  goal_fits has =
      let s = section_of_word role.ProblemSection problem_section (λ _. refl) (λ _. refl) section fits (codes ":goal") (shape (role.Head ∷ role.Condition ∷ []) NoMore) refl has in
      subst (AllZip Fits (role.Condition ∷ [])) (sym (content_is section (codes ":goal") s.0 s.1)) (zip_fits (role.Condition ∷ []) s.0 s.2.counted s.2.inner.1)

  domain_named : has_head (codes ":domain") section ≡ true → is_only is_name_leaf (Some (content section)) ≡ true
  domain_named has =
      let s = section_of_word role.ProblemSection problem_section (λ _. refl) (λ _. refl) section fits (codes ":domain") (shape (role.Head ∷ role.Name ∷ []) NoMore) refl has in
      ap (λ trees. is_only is_name_leaf (Some trees)) (content_is section (codes ":domain") s.0 s.1) ∙ named s.0 (zip_fits (role.Name ∷ []) s.0 s.2.counted s.2.inner.1) where
        named : (trees : List Tree) → AllZip Fits (role.Name ∷ []) trees → is_only is_name_leaf (Some trees) ≡ true
        named [] fit = absurd fit
        named (t ∷ []) fit = both_hold _ _ (name_leaf t fit.0) refl
        named (t ∷ u ∷ us) fit = absurd fit.1

pub record FitsProblem (tree : Tree) (sections : List Tree) : Type 0 where
  pub file : IsFile (codes "problem") tree sections
  pub fit : AllByRecursion (Fits role.ProblemSection) sections
  pub known : list_all is_problem_section sections ≡ true
  pub single : AreSingle single_in_problem sections
  pub domain : is_only is_name_leaf (Some (contents (codes ":domain") sections)) ≡ true
  pub objects : FitsTyped Names (contents (codes ":objects") sections)
  pub init : AllByRecursion (Fits role.Initial) (contents (codes ":init") sections)
  pub goal : AllZip Fits (role.Condition ∷ []) (contents (codes ":goal") sections)

pub problem_fits : (tree : Tree) → Fits role.ProblemFile tree → FitsProblem tree (sections_of tree)
problem_fits tree fits =
    let f = file_fits fixed.Problem role.ProblemFile role.ProblemSection tree fits (λ _. refl) (λ _. refl) in
    let sections : List Tree = sections_of tree in
    let members : List Tree = f.file.define ∷ f.file.header ∷ sections in
    let single : AreSingle single_in_problem sections = are_single single_in_problem sections (λ place repeats. unrepeated role.ProblemFile tree fits place (members, f.file.whole, repeats)) in
    record {
      file = f.file;
      fit = f.fit;
      known = all_pass role.ProblemSection is_problem_section (λ section fit. let k = known_in_problem section fit in rw k.1 k.2) sections f.fit;
      single = single;
      domain = contents_there (codes ":domain") role.ProblemSection (λ trees. is_only is_name_leaf (Some trees) ≡ true) domain_named sections f.fit (single (codes ":domain") (1, omega arith, refl))
          (λ lacks. complete role.ProblemFile tree fits (place_of tree) (members, f.file.whole, refl, inl lacks));
      objects = contents_hold (codes ":objects") role.ProblemSection (FitsTyped Names) tt objects_fit sections f.fit (single (codes ":objects") (2, omega arith, refl));
      init = contents_hold (codes ":init") role.ProblemSection (AllByRecursion (Fits role.Initial)) tt init_fits sections f.fit (single (codes ":init") (3, omega arith, refl));
      goal = contents_there (codes ":goal") role.ProblemSection (AllZip Fits (role.Condition ∷ [])) goal_fits sections f.fit (single (codes ":goal") (4, omega arith, refl))
          (λ lacks. complete role.ProblemFile tree fits (place_of tree) (members, f.file.whole, refl, inr lacks));
    }

-- the facts of sections that are those of the file
pub domain_fits_at : (tree : Tree) (sections : List Tree) → Fits role.DomainFile tree → sections ≡ sections_of tree → FitsDomain tree sections
domain_fits_at tree sections fits same = subst (FitsDomain tree) (sym same) (domain_fits tree fits)

pub problem_fits_at : (tree : Tree) (sections : List Tree) → Fits role.ProblemFile tree → sections ≡ sections_of tree → FitsProblem tree sections
problem_fits_at tree sections fits same = subst (FitsProblem tree) (sym same) (problem_fits tree fits)
