-- Two spellings that begin one list of tokens are those of trees that are alike.
use Rattle.std.proofs.Common.{◌≡◌, ℕ, List, [], ◌∷◌, ◌++◌, length, refl, sym, ◌∙◌, ap, append_assoc, arith}
use Rattle.std.specs.List.{flat_map, AllZip}
use Rattle.std.proofs.lemmas.List.{length-append}
use Rattle.std.proofs.lemmas.List.Folds.{flat_map-map}
use Rattle.fond_text.specs.declared.place.Place.{Place}
use Rattle.fond_tree.specs.Alike.{IsAlike, AreAlike, EachTextSpellsOneForest, EachTextSpellsOneTree}
use Rattle.fond_tree.specs.Spelling.{spelling, spelling_step}
use Rattle.fond_tree.specs.Tokens.{Token, Opens, Closes, Names}
use Rattle.fond_tree.specs.declared.tree.Tree.{Tree, Leaf, Node', Row_of-Tree, end_of-Tree, more_of-Tree, items-the_row-Tree, items_shown-the_row-Tree-0}
use Rattle.fond_tree.specs.declared.tree.Tree.TheVariants.{outs-Node'}
use Rattle.fond_tree.specs.declared.tree.Tree.TheFolds.{fold_out-Tree, map-Tree}
use Rattle.fond_tree.proofs.Trees.{spelling-Leaf, spelling_some, no_closing}

-- the tokens of the members of a node
abbrev pub row_spelling : {n : _} → Row_of-Tree n → List Token
row_spelling end_of-Tree = []
row_spelling (more_of-Tree tree rest) = spelling tree ++ row_spelling rest

pub row_spelling_is : {n : _} (row : Row_of-Tree n) → row_spelling row ≡ flat_map spelling (items-the_row-Tree n row)
row_spelling_is end_of-Tree = refl
row_spelling_is (more_of-Tree tree rest) = ap (λ ts. spelling tree ++ ts) (row_spelling_is rest)

pub spelling-Node' : (place : Place) (shape : _) (row : Row_of-Tree _) → spelling (Node' place shape row) ≡ Opens place ∷ (row_spelling row ++ Closes ∷ [])
spelling-Node' place shape row =
    fold_out-Tree (List Token) spelling_step (Node' place shape row) ∙ ap (λ x. spelling_step (map-Tree Tree (List Token) spelling x)) (outs-Node' place shape row)
    ∙ ap (λ ts. Opens place ∷ (ts ++ Closes ∷ [])) (flat_map-map (λ x. x) spelling _ ∙ ap (flat_map spelling) (items_shown-the_row-Tree-0 shape row) ∙ sym (row_spelling_is row))

leaves : (place at : Place) (name other : List ℕ) (more rest : List Token) → Names place name ∷ more ≡ Names at other ∷ rest → ((place ≡ at) × (name ≡ other)) × (more ≡ rest)
leaves place at name other more rest e = ((cc, cc), cc)

nodes : (place at : Place) (more rest : List Token) → Opens place ∷ more ≡ Opens at ∷ rest → (place ≡ at) × (more ≡ rest)
nodes place at more rest e = (cc, cc)

apart : (place at : Place) (name : List ℕ) (more rest : List Token) → ¬ Names place name ∷ more ≡ Opens at ∷ rest
apart place at name more rest e = cc

ends : (more rest : List Token) → Closes ∷ more ≡ Closes ∷ rest → more ≡ rest
ends more rest e = cc

-- an equation between two spellings and what follows them, at their first tokens
at_spellings : {one two spelled_one spelled_two : List Token} (more rest : List Token) → one ≡ spelled_one → two ≡ spelled_two → one ++ more ≡ two ++ rest → spelled_one ++ more ≡ spelled_two ++ rest
at_spellings more rest p q e = sym (ap (λ ts. ts ++ more) p) ∙ e ∙ ap (λ ts. ts ++ rest) q

regroup : (a b c d x y : List Token) → (a ++ b) ++ x ≡ (c ++ d) ++ y → a ++ (b ++ x) ≡ c ++ (d ++ y)
regroup a b c d x y e = sym (append_assoc a b x) ∙ e ∙ append_assoc c d y

mutual
  alike : (tree other : Tree) (more rest : List Token) → spelling tree ++ more ≡ spelling other ++ rest → IsAlike tree other × (more ≡ rest)
  alike (Leaf place name) (Leaf at other) more rest e = leaves place at name other more rest (at_spellings more rest (spelling-Leaf place name) (spelling-Leaf at other) e)
  alike (Leaf place name) (Node' at form others) more rest e = absurd (apart place at name more _ (at_spellings more rest (spelling-Leaf place name) (spelling-Node' at form others) e))
  alike (Node' place shape members) (Leaf at other) more rest e = absurd (apart at place other rest _ (sym (at_spellings more rest (spelling-Node' place shape members) (spelling-Leaf at other) e)))
  alike (Node' place shape members) (Node' at form others) more rest e =
      let inner = nodes place at _ _ (at_spellings more rest (spelling-Node' place shape members) (spelling-Node' at form others) e) in
      let after = all_alike members others more rest (regroup (row_spelling members) (Closes ∷ []) (row_spelling others) (Closes ∷ []) more rest inner.1) in
      ((inner.0, after.0), after.1)

  all_alike : {m n : _} (row : Row_of-Tree m) (others : Row_of-Tree n) (more rest : List Token) → row_spelling row ++ Closes ∷ more ≡ row_spelling others ++ Closes ∷ rest → AreAlike row others × (more ≡ rest)
  all_alike end_of-Tree end_of-Tree more rest e = (tt, ends more rest e)
  all_alike end_of-Tree (more_of-Tree other others) more rest e =
      absurd (no_closing other (row_spelling others ++ Closes ∷ rest) more (sym (e ∙ append_assoc (spelling other) (row_spelling others) (Closes ∷ rest))))
  all_alike (more_of-Tree tree row) end_of-Tree more rest e =
      absurd (no_closing tree (row_spelling row ++ Closes ∷ more) rest (sym (append_assoc (spelling tree) (row_spelling row) (Closes ∷ more)) ∙ e))
  all_alike (more_of-Tree tree row) (more_of-Tree other others) more rest e =
      let first = alike tree other (row_spelling row ++ Closes ∷ more) (row_spelling others ++ Closes ∷ rest)
      (regroup (spelling tree) (row_spelling row) (spelling other) (row_spelling others) (Closes ∷ more) (Closes ∷ rest) e) in
      let after = all_alike row others more rest first.1 in
      ((first.0, after.0), after.1)

pub one_tree_lem : EachTextSpellsOneTree
one_tree_lem text tree other spelled also = (alike tree other [] [] (ap (λ ts. ts ++ []) (sym spelled ∙ also))).0

-- a tree spells a token, so it does not spell the same as no tree
some_spelled : (tree : Tree) (more : List Token) → ¬ spelling tree ++ more ≡ []
some_spelled tree more e = absurd (omega (arith, spelling_some tree, length-append (spelling tree) more, ap length e))

-- forests with one spelling are alike, tree by tree
each_alike : (trees others : List Tree) → flat_map spelling trees ≡ flat_map spelling others → AllZip IsAlike trees others
each_alike [] [] e = tt
each_alike [] (other ∷ others) e = absurd (some_spelled other (flat_map spelling others) (sym e))
each_alike (tree ∷ trees) [] e = absurd (some_spelled tree (flat_map spelling trees) e)
each_alike (tree ∷ trees) (other ∷ others) e = let first = alike tree other (flat_map spelling trees) (flat_map spelling others) e in (first.0, each_alike trees others first.1)

pub one_forest_lem : EachTextSpellsOneForest
one_forest_lem text trees others spelled also = each_alike trees others (sym spelled ∙ also)
