-- A problem without a domain or a goal.
use Rattle.std.proofs.Common.{◌≡◌, ◌⊎◌, Bool, true, List, Option, Some, subst}
use Rattle.std.specs.Prelude.{codes}
use Rattle.std.specs.Bool.{Decides}
use Rattle.fond_text.specs.declared.place.Place.{Place}
use Rattle.fond_tree.specs.declared.tree.Tree.{Tree}
use Rattle.fond_tree.specs.Trees.{members_of, place_of}
use Rattle.fond_tree.specs.declared.role.Role.TheVariants.{ProblemFile}
use Rattle.fond_text.specs.declared.first.Found.{Found}
use Rattle.fond_tree.specs.FormFaults.{Lacks, IsIncomplete, after_header}
use Rattle.fond_text.specs.Firsts.{IsFirst}
use Rattle.fond_text.proofs.Earliest.{first_along}

abbrev LacksSome : List Tree → Type 0
LacksSome members = Lacks (codes ":domain") (after_header members) ⊎ Lacks (codes ":goal") (after_header members)

pub incomplete_where_lacking : (tree : Tree) (members : List Tree) → members_of tree ≡ Some members → (lacking : Bool) →
    Decides lacking (Lacks (codes ":domain") (after_header members) ⊎ Lacks (codes ":goal") (after_header members)) → (place : Place) → place ≡ place_of tree → (first : Option Found) →
    IsFirst (λ at number. (lacking ≡ true) × (at ≡ place) × (number ≡ 10)) first → IsFirst (λ at number. IsIncomplete ProblemFile tree at × (number ≡ 10)) first
incomplete_where_lacking tree members are lacking decides place there first h =
    first_along (λ at number. (lacking ≡ true) × (at ≡ place) × (number ≡ 10)) (λ at number. IsIncomplete ProblemFile tree at × (number ≡ 10))
    (λ at number found. ((members, are, (cc), decides.0 found.0), found.2))
    (λ at number stands.
    let same : stands.0.0 ≡ members = cc (are, stands.0.1) in
    (decides.1 (subst (λ (ms : List Tree). LacksSome ms) same stands.0.3), (cc), stands.1))
    first h
