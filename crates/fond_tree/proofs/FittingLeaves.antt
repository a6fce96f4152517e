-- Leaves that fit their roles.
use Rattle.std.proofs.Common.{◌≡◌, Bool, true, false, ℕ, List, Option, Some, None, codes, refl, sym, ap, ◌∙◌, if◌then◌else◌}
use Rattle.std.specs.Str.{bytes_eq}
use Rattle.std.proofs.lemmas.Slice.Eq.{bytes_eq-Decides}
use Rattle.fond_tree.specs.declared.tree.Tree.{Tree}
use Rattle.fond_tree.specs.Trees.{leaf_of}
use Rattle.fond_tree.specs.declared.role.Role.TheVariants as role
use Rattle.fond_tree.specs.declared.role.FixedWord.{FixedWord}
use Rattle.fond_tree.specs.Words.{is_name, is_variable, is_one_of}
use Rattle.fond_tree.specs.Roles.{is_term, word, action_keys}
use Rattle.fond_tree.specs.Parts.{is_dash}
use Rattle.fond_tree.specs.FormFaults.{Fits}
use Rattle.fond_tree.proofs.Fitting.{some_is_none, leaf_there, leaf_fits}

-- a tree is a leaf that passes a test
pub record IsLeafOf (test : List ℕ → Bool) (tree : Tree) : Type 0 where
  pub leaf : List ℕ
  pub is : leaf_of tree ≡ Some leaf
  pub passes : test leaf ≡ true

pub passes_if : (passes : Bool) (code : ℕ) → if◌then◌else◌ {A = Option ℕ} passes None (Some code) ≡ None → passes ≡ true
passes_if true code is = refl
passes_if false code is = absurd (some_is_none code is)

pub name_fits : (tree : Tree) → Fits role.Name tree → IsLeafOf is_name tree
name_fits tree fits = let l = leaf_there role.Name tree fits (λ _. refl) in record { leaf = l.0; is = l.1; passes = passes_if (is_name l.0) 7 l.2 }

pub variable_fits : (tree : Tree) → Fits role.Variable tree → IsLeafOf is_variable tree
variable_fits tree fits = let l = leaf_there role.Variable tree fits (λ _. refl) in record { leaf = l.0; is = l.1; passes = passes_if (is_variable l.0) 7 l.2 }

pub term_fits : (tree : Tree) → Fits role.Term tree → IsLeafOf is_term tree
term_fits tree fits = let l = leaf_there role.Term tree fits (λ _. refl) in record { leaf = l.0; is = l.1; passes = passes_if (is_term l.0) 7 l.2 }

pub word_fits : (kind : FixedWord) (tree : Tree) → Fits (role.Word kind) tree → IsLeafOf (λ leaf. bytes_eq leaf (word kind)) tree
word_fits kind tree fits = let l = leaf_there (role.Word kind) tree fits (λ _. refl) in record { leaf = l.0; is = l.1; passes = passes_if (bytes_eq l.0 (word kind)) 7 l.2 }

pub key_fits : (tree : Tree) → Fits role.Key tree → IsLeafOf (is_one_of action_keys) tree
key_fits tree fits = let l = leaf_there role.Key tree fits (λ _. refl) in record { leaf = l.0; is = l.1; passes = passes_if (is_one_of action_keys l.0) 8 l.2 }

-- and leaves that pass fit
pub fits_name : (tree : Tree) → IsLeafOf is_name tree → Fits role.Name tree
fits_name tree l = leaf_fits role.Name tree (λ place again. again) (λ place lacks. lacks) l.leaf l.is (ap (λ b. if◌then◌else◌ {A = Option ℕ} b None (Some 7)) l.passes)

pub fits_type_name : (tree : Tree) → IsLeafOf is_name tree → Fits role.VariableType tree
fits_type_name tree l = leaf_fits role.VariableType tree (λ place again. again) (λ place lacks. lacks) l.leaf l.is (ap (λ b. if◌then◌else◌ {A = Option ℕ} b None (Some 7)) l.passes)

pub fits_variable : (tree : Tree) → IsLeafOf is_variable tree → Fits role.Variable tree
fits_variable tree l = leaf_fits role.Variable tree (λ place again. again) (λ place lacks. lacks) l.leaf l.is (ap (λ b. if◌then◌else◌ {A = Option ℕ} b None (Some 7)) l.passes)

pub fits_term : (tree : Tree) → IsLeafOf is_term tree → Fits role.Term tree
fits_term tree l = leaf_fits role.Term tree (λ place again. again) (λ place lacks. lacks) l.leaf l.is (ap (λ b. if◌then◌else◌ {A = Option ℕ} b None (Some 7)) l.passes)

pub fits_word : (kind : FixedWord) (tree : Tree) → IsLeafOf (λ leaf. bytes_eq leaf (word kind)) tree → Fits (role.Word kind) tree
fits_word kind tree l = leaf_fits (role.Word kind) tree (λ place again. again) (λ place lacks. lacks) l.leaf l.is (ap (λ b. if◌then◌else◌ {A = Option ℕ} b None (Some 7)) l.passes)

pub fits_key : (tree : Tree) → IsLeafOf (is_one_of action_keys) tree → Fits role.Key tree
fits_key tree l = leaf_fits role.Key tree (λ place again. again) (λ place lacks. lacks) l.leaf l.is (ap (λ b. if◌then◌else◌ {A = Option ℕ} b None (Some 8)) l.passes)

pub fits_head : (tree : Tree) (leaf : List ℕ) → leaf_of tree ≡ Some leaf → Fits role.Head tree
fits_head tree leaf is = leaf_fits role.Head tree (λ place again. again) (λ place lacks. lacks) leaf is refl

-- a leaf of a sort that `-` is not of is no `-`
pub no_dash : (test : List ℕ → Bool) (tree : Tree) → test (codes "-") ≡ false → IsLeafOf test tree → is_dash tree ≡ false
no_dash test tree other l = from (is_dash tree) refl where
  same : is_dash tree ≡ bytes_eq l.leaf (codes "-")
  same = rw l.is refl

  from : (dash : Bool) → is_dash tree ≡ dash → dash ≡ false
  from false is = refl
  from true is =
      let leaf : l.leaf ≡ codes "-" = (bytes_eq-Decides l.leaf (codes "-")).0 (sym same ∙ is) in
      let none : true ≡ false = sym l.passes ∙ ap test leaf ∙ other in
      none
