-- Actions that fit: a name, and pairs of a known key and a value, each key at most once.
use Rattle.std.proofs.Common.{◌≡◌, ℕ, ◌≤◌, ◌&&◌, true, List, [], ◌∷◌, filter, length, Some, codes, refl, ap, ◌∙◌, Contains}
use Rattle.std.specs.List.{list_all}
use Rattle.fond_tree.specs.declared.tree.Tree.{Tree}
use Rattle.fond_tree.specs.Trees.{members_of, leaf_of}
use Rattle.fond_tree.specs.declared.role.Role.TheVariants as role
use Rattle.fond_tree.specs.declared.role.Rest.TheVariants.{Pairs}
use Rattle.fond_tree.specs.Words.{is_word, has_head}
use Rattle.fond_tree.specs.Roles.{shape, domain_section, action_keys, is_headed_by}
use Rattle.fond_tree.specs.Parts.{value, pairs, are_pairs}
use Rattle.fond_tree.specs.FormFaults.{Fits, keys}
use Rattle.fond_tree.proofs.Fitting.{IsShaped, AllFit, unrepeated}
use Rattle.fond_tree.proofs.FittingLeaves.{key_fits}
use Rattle.fond_tree.proofs.Heads.{HasHead}
use Rattle.fond_tree.proofs.Once.{at_most_one}
use Rattle.fond_tree.proofs.Sections.{section_of_word, head_is}
use Rattle.fond_tree.proofs.TypedLists.{all_fit_split}

-- the keys of pairs that fit are known
pub keys_known : (trees : List Tree) → AllFit (pairs trees) → list_all (λ key. is_headed_by action_keys (leaf_of key)) (keys trees) ≡ true
keys_known [] all = refl
keys_known (key ∷ []) all = let l = key_fits key all.0 in ap (λ b. b && true) (ap (is_headed_by action_keys) l.is ∙ l.passes)
keys_known (key ∷ tree ∷ trees) all =
    let l = key_fits key all.0 in
    ap (λ b. b && list_all (λ k. is_headed_by action_keys (leaf_of k)) (keys trees)) (ap (is_headed_by action_keys) l.is ∙ l.passes)
    ∙ keys_known trees (all_fit_split (value (leaf_of key) tree) (pairs trees) all.1).1

-- an action that fits
pub record IsAction (tree : Tree) : Type 0 where
  pub head : Tree
  pub name : Tree
  pub rest : List Tree
  pub whole : members_of tree ≡ Some (head ∷ name ∷ rest)
  pub leaf : leaf_of head ≡ Some (codes ":action")
  pub name_fits : Fits role.Name name
  pub paired : are_pairs rest ≡ true
  pub pairs_fit : AllFit (pairs rest)
  pub once : (word : List ℕ) → Contains action_keys word → length (filter (λ key. is_word word (leaf_of key)) (keys rest)) ≤ 1

pub action_there : (tree : Tree) → Fits role.DomainSection tree → has_head (codes ":action") tree ≡ true → IsAction tree
action_there tree fits has =
    let s = section_of_word role.DomainSection domain_section (λ _. refl) (λ _. refl) tree fits (codes ":action") (shape (role.Head ∷ role.Name ∷ []) Pairs) refl has in
    from s.0 s.1 s.2 where
      from : (after : List Tree) (headed : HasHead tree (codes ":action") after) → IsShaped (shape (role.Head ∷ role.Name ∷ []) Pairs) (headed.head ∷ after) → IsAction tree
      from [] headed s = let counted = s.counted in absurd (cc)
      from (name ∷ rest) headed s = record {
        head = headed.head;
        name = name;
        rest = rest;
        whole = headed.whole;
        leaf = headed.leaf;
        name_fits = s.inner.1.0;
        paired = s.counted;
        pairs_fit = s.inner.1.1;
        once = λ word known. at_most_one leaf_of action_keys (keys rest)
            (λ place repeats. unrepeated role.DomainSection tree fits place (headed.head ∷ name ∷ rest, headed.whole, head_is tree (codes ":action") (name ∷ rest) headed, repeats)) word known;
      }
