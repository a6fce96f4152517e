-- What is read from trees that are alike is one, up to addresses and capacities: domains, problems and side lists.
use Rattle.std.proofs.Common.{◌≡◌, ℕ, Bool, true, false, cond, not, List, [], ◌∷◌, Option, Some, None, is_some, codes, refl, sym, ap, ◌∙◌, subst}
use Rattle.std.specs.Prelude.{filter}
use Rattle.fond_tree.specs.Alike.{IsAlike}
use Rattle.fond_tree.specs.Trees.{is_node, members_of}
use Rattle.fond_tree.specs.declared.tree.Tree.{Tree}
use Rattle.fond_ast.specs.declared.files.Pattern.{Pattern}
use Rattle.fond_ast.specs.declared.files.Side.{Side}
use Rattle.fond_ast.specs.declared.names.ReadAtom.{ReadAtom}
use Rattle.fond_ast.specs.declared.files.Domain.{Domain}
use Rattle.fond_ast.specs.declared.files.Problem.{Problem}
use Rattle.fond_reader.specs.Bodies.{is_condition, is_initial}
use Rattle.fond_reader.specs.Files.{IsFile, headed, contents, is_declared, IsDomainOf, IsProblemOf}
use Rattle.fond_reader.specs.Sides.{is_leaf, is_pattern, leaves_of, nodes_of, IsSideOf}
use Rattle.fond_laws.specs.Read.{IsSameDomain, IsSameProblem}
use Rattle.fond_laws.proofs.OneReadingAlike.{AreAlikeMembers, AreAlikeTrees, members_alike, members_there, place_alike}
use Rattle.fond_laws.proofs.OneReadingConditions.{one_condition}
use Rattle.fond_laws.proofs.OneReadingForms.{one_each}
use Rattle.fond_laws.proofs.OneReadingLeaves.{IsReadOnce, atom_once, sorted_once}
use Rattle.fond_laws.proofs.OneReadingLists.{declared_once, initial_once}
use Rattle.fond_laws.proofs.OneReadingMoved.{Respects, atom_alike, declared_alike, initial_alike, sorted_alike}
use Rattle.fond_laws.proofs.OneReadingSchemas.{schemas_of}
use Rattle.fond_laws.proofs.OneReadingSections.{headed_alike, contents_alike, items_once, names_of_alike}

-- trees of one sort are alike among trees that are alike
sort_alike : (sort : Tree → Bool) → Respects sort → (trees others : List Tree) → AreAlikeTrees trees others → AreAlikeTrees (filter sort trees) (filter sort others)
sort_alike sort same [] [] are = tt
sort_alike sort same [] (other ∷ others) are = absurd are
sort_alike sort same (tree ∷ trees) [] are = absurd are
sort_alike sort same (tree ∷ trees) (other ∷ others) are =
    subst (λ b. AreAlikeTrees (filter sort (tree ∷ trees)) (cond b (other ∷ filter sort others) (filter sort others))) (same tree other are.0) (from (sort tree) (sort_alike sort same trees others are.1))
  where
    from : (b : Bool) → AreAlikeTrees (filter sort trees) (filter sort others) → AreAlikeTrees (cond b (tree ∷ filter sort trees) (filter sort trees)) (cond b (other ∷ filter sort others) (filter sort others))
    from true rest = (are.0, rest)
    from false rest = rest

-- trees that are alike are both nodes, or both leaves
node_alike : Respects is_node
node_alike tree other alike = from (members_of tree) (members_of other) (members_alike tree other alike)
  where
    from : (members others : Option (List Tree)) → AreAlikeMembers members others → is_some members ≡ is_some others
    from None None are = refl
    from None (Some others) are = absurd are
    from (Some members) None are = absurd are
    from (Some members) (Some others) are = refl

-- the nodes among trees that are alike are alike
pub nodes_alike : (trees others : List Tree) → AreAlikeTrees trees others → AreAlikeTrees (nodes_of trees) (nodes_of others)
nodes_alike = sort_alike is_node node_alike

-- a tree is read as at most one leaf
leaf_once : IsReadOnce is_leaf
leaf_once leaf other tree is also =
    let one = sorted_once (λ bytes. true) (λ bytes. true) leaf.place other.place leaf.name other.name tree is also in
    λ i. record { place = one.0 i; name = one.1 i }

-- a pattern as an atom
abbrev atom_of : Pattern → ReadAtom
atom_of pattern = record { place = pattern.place; head = pattern.schema.place; name = pattern.schema.name; terms = pattern.terms }

-- a tree is read as at most one pattern
pattern_once : IsReadOnce is_pattern
pattern_once pattern other tree is also =
    let one : atom_of pattern ≡ atom_of other = atom_once (atom_of pattern) (atom_of other) tree is also in
    λ i. record { place = (one i).place; schema = record { place = (one i).head; name = (one i).name }; terms = (one i).terms }

-- trees that are alike are read as at most one side list
pub one_side : (trees others : List Tree) (side other : Side) → AreAlikeTrees trees others → IsSideOf trees side → IsSideOf others other → side ≡ other
one_side trees others side other like is also =
    let names = items_once is_leaf leaf_once (λ leaf. sorted_alike (λ bytes. true) leaf.place leaf.name) side.names other.names (leaves_of trees) (leaves_of others)
    (sort_alike (λ tree. not (is_node tree)) (λ tree twin alike. ap not (node_alike tree twin alike)) trees others like) is.names also.names in
    let patterns = items_once is_pattern pattern_once (λ pattern. atom_alike (atom_of pattern)) side.patterns other.patterns (nodes_of trees) (nodes_of others) (nodes_alike trees others like) is.patterns also.patterns in
    λ i. record { names = names i; patterns = patterns i }

-- the sections of files that are alike are alike
sections_alike : (kind : List ℕ) (tree alike : Tree) (sections others : List Tree) → IsAlike tree alike → IsFile kind tree sections → IsFile kind alike others → AreAlikeTrees sections others
sections_alike kind tree alike sections others like one two = (members_there tree alike (one.define ∷ one.header ∷ sections) (two.define ∷ two.header ∷ others) like one.whole two.whole).1.1

-- trees that are alike are read as at most one domain
pub one_domain : (tree alike : Tree) (domain other : Domain) → IsAlike tree alike → IsDomainOf tree domain → IsDomainOf alike other → IsSameDomain domain other
one_domain tree alike domain other like is also =
    let sections = sections_alike (codes "domain") tree alike is.sections also.sections like is.file also.file in
    let content_of = λ (word : List ℕ). contents_alike word is.sections also.sections sections in
    record {
      place = is.place ∙ place_alike tree alike like ∙ sym also.place;
      kinds = names_of_alike domain.kinds other.kinds (contents (codes ":types") is.sections) (contents (codes ":types") also.sections) (content_of (codes ":types")) is.types also.types;
      constants = names_of_alike domain.constants other.constants (contents (codes ":constants") is.sections) (contents (codes ":constants") also.sections) (content_of (codes ":constants")) is.constants also.constants;
      predicates = items_once is_declared declared_once declared_alike domain.predicates other.predicates (contents (codes ":predicates") is.sections) (contents (codes ":predicates") also.sections) (content_of (codes ":predicates")) is.predicates also.predicates;
      schemas = schemas_of (headed (codes ":action") is.sections) (headed (codes ":action") also.sections) domain.schemas other.schemas (headed_alike (codes ":action") is.sections also.sections sections) is.schemas also.schemas;
    }

-- trees that are alike are read as at most one problem
pub one_problem : (tree alike : Tree) (problem other : Problem) → IsAlike tree alike → IsProblemOf tree problem → IsProblemOf alike other → IsSameProblem problem other
one_problem tree alike problem other like is also =
    let sections = sections_alike (codes "problem") tree alike is.sections also.sections like is.file also.file in
    let content_of = λ (word : List ℕ). contents_alike word is.sections also.sections sections in
    let goal = one_each (is_condition problem.goal) (is_condition other.goal) (contents (codes ":goal") is.sections) (contents (codes ":goal") also.sections) (content_of (codes ":goal")) is.goal also.goal in
    record {
      place = is.place ∙ place_alike tree alike like ∙ sym also.place;
      objects = names_of_alike problem.objects other.objects (contents (codes ":objects") is.sections) (contents (codes ":objects") also.sections) (content_of (codes ":objects")) is.objects also.objects;
      init = items_once is_initial initial_once initial_alike problem.init other.init (contents (codes ":init") is.sections) (contents (codes ":init") also.sections) (content_of (codes ":init")) is.init also.init;
      goal = one_condition problem.goal other.goal goal.one goal.two goal.alike goal.read_one goal.read_two;
    }
