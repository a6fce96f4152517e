-- What is read from pieces in order: leaves, nodes, and members along the way.
use Rattle.std.proofs.Common.{◌≡◌, ℕ, ◌-◌, ◌≤◌, ◌<◌, List, [], ◌∷◌, ◌++◌, refl, sym, ◌∙◌, ap, arith, Vec, Global, append_assoc, append-nil, subst, length}
use Rattle.std.specs.List.{flat_map}
use Rattle.std.proofs.lemmas.List.{length-append, length-map, map-append}
use Rattle.std.proofs.lemmas.List.Concat.{flat_map-append}
use Rattle.fond_text.specs.declared.place.Place.{Place}
use Rattle.fond_tree.specs.Marks.{Mark, marked, tokens_of}
use Rattle.fond_tree.specs.Reading.{AreWithin, ReadsTree, ReadsForest}
use Rattle.fond_tree.specs.Spelling.{spelling}
use Rattle.fond_tree.specs.Tokens.{Opens, Closes, Names}
use Rattle.fond_tree.specs.declared.tree.Tree.{Tree}
use Rattle.fond_tree.specs.declared.tree.Tree.TheVariants as made
use Rattle.fond_tree.proofs.Trees.{spelling-Leaf, spelling-Node, depth-Leaf, depth-Node, within_from, within_push, spelling_some}

pub leaf_read : (left : ℕ) (place : Place) (name : List ℕ) (old new : List Mark) → old ≡ marked place (Names place name) ∷ new → ReadsTree left old (made.Leaf place name) new
leaf_read left place name old new e = record {
  front = marked place (Names place name) ∷ [];
  split = e;
  spelled = sym (spelling-Leaf place name);
  deep = subst (λ d. d ≤ left) (sym (depth-Leaf place name)) (omega arith);
}

pub node_read : (left : ℕ) (place : Place) (members : Vec Tree Global) (old mid new : List Mark) → 0 < left → old ≡ marked place (Opens place) ∷ mid → ReadsForest (left - 1) mid members.items new →
    ReadsTree left old (made.Node place members) new
node_read left place members old mid new some opened r = record {
  front = marked place (Opens place) ∷ r.front;
  split = opened ∙ ap (λ ms. marked place (Opens place) ∷ ms) r.split;
  spelled = ap (λ ts. Opens place ∷ ts) r.spelled ∙ sym (spelling-Node place members);
  deep = subst (λ d. d ≤ left) (sym (depth-Node place members)) (omega (arith, within_from (left - 1) 0 members.items (omega arith) r.deep));
}

-- some trees were read, and the tokens after them are left
pub record Along (left : ℕ) (old : List Mark) (trees : List Tree) (now : List Mark) : Type 0 where
  pub front : List Mark
  pub split : old ≡ front ++ now
  pub spelled : tokens_of front ≡ flat_map spelling trees
  pub deep : AreWithin left trees

pub along_start : (left : ℕ) (old : List Mark) → Along left old [] old
along_start left old = record { front = []; split = refl; spelled = refl; deep = tt }

pub along_more : (left : ℕ) (old now new : List Mark) (trees : List Tree) (tree : Tree) → Along left old trees now → ReadsTree left now tree new → Along left old (trees ++ tree ∷ []) new
along_more left old now new trees tree a r = record {
  front = a.front ++ r.front;
  split = a.split ∙ ap (λ ms. a.front ++ ms) r.split ∙ sym (append_assoc a.front r.front new);
  spelled = map-append (λ mark. mark.token) a.front r.front ∙ ap (λ ts. ts ++ tokens_of r.front) a.spelled ∙ ap (λ ts. flat_map spelling trees ++ ts) (r.spelled ∙ sym (append-nil (spelling tree)))
      ∙ sym (flat_map-append spelling trees (tree ∷ []));
  deep = within_push left trees tree a.deep r.deep;
}

pub along_done : (left : ℕ) (place : Place) (old now new : List Mark) (trees : List Tree) → Along left old trees now → now ≡ marked place Closes ∷ new → ReadsForest left old trees new
along_done left place old now new trees a closed = record {
  front = a.front ++ marked place Closes ∷ [];
  split = a.split ∙ ap (λ ms. a.front ++ ms) closed ∙ sym (append_assoc a.front (marked place Closes ∷ []) new);
  spelled = map-append (λ mark. mark.token) a.front (marked place Closes ∷ []) ∙ ap (λ ts. ts ++ Closes ∷ []) a.spelled;
  deep = a.deep;
}

-- a tree that was read makes what is left shorter
pub read_shortens : (left : ℕ) (old new : List Mark) (tree : Tree) → ReadsTree left old tree new → length new < length old
read_shortens left old new tree r =
    let long : length r.front ≡ length (spelling tree) = sym (length-map r.front (λ mark. mark.token)) ∙ ap length r.spelled in
    omega (arith, ap length r.split, length-append r.front new, spelling_some tree, long)
