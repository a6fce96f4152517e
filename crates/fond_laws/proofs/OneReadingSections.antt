-- Sections, their contents and values of keys: they are alike in lists of trees that are alike.
use Rattle.std.proofs.Common.{◌≡◌, ℕ, ◌++◌, Bool, true, false, List, [], ◌∷◌, map, cond, Option, Some, None, ap, ◌∙◌, subst, if◌then◌else◌}
use Rattle.std.specs.List.{flat_map}
use Rattle.fond_text.specs.Lists.{each_passes}
use Rattle.fond_tree.specs.Alike.{IsAlike}
use Rattle.fond_tree.specs.declared.tree.Tree.{Tree}
use Rattle.fond_tree.specs.Trees.{members_of, leaf_of}
use Rattle.fond_ast.specs.declared.names.TypedName.{TypedName}
use Rattle.fond_tree.specs.Words.{is_word, has_head}
use Rattle.fond_reader.specs.Files.{but_first, content, headed, contents, values}
use Rattle.fond_reader.specs.Typed.{are_names}
use Rattle.fond_laws.proofs.OneReadingAlike.{AreAlikeTrees, AreAlikeMembers, leaf_alike, head_alike, members_alike}
use Rattle.fond_laws.proofs.OneReadingLeaves.{IsReadOnce, lists_once}
use Rattle.fond_laws.proofs.OneReadingLists.{names_once}
use Rattle.fond_laws.proofs.OneReadingMoved.{Respects, passes_alike, names_alike}

-- concatenations of lists that are alike are alike
append_alike : (trees others more next : List Tree) → AreAlikeTrees trees others → AreAlikeTrees more next → AreAlikeTrees (trees ++ more) (others ++ next)
append_alike [] [] more next first rest = rest
append_alike [] (u ∷ us) more next first rest = absurd first
append_alike (t ∷ ts) [] more next first rest = absurd first
append_alike (t ∷ ts) (u ∷ us) more next first rest = (first.0, append_alike ts us more next first.1 rest)

-- the sections with one head are alike in lists that are alike
pub headed_alike : (word : List ℕ) (trees others : List Tree) → AreAlikeTrees trees others → AreAlikeTrees (headed word trees) (headed word others)
headed_alike word [] [] are = tt
headed_alike word [] (u ∷ us) are = absurd are
headed_alike word (t ∷ ts) [] are = absurd are
headed_alike word (t ∷ ts) (u ∷ us) are =
    subst (λ b. AreAlikeTrees (headed word (t ∷ ts)) (cond b (u ∷ headed word us) (headed word us))) (ap (is_word word) (head_alike t u are.0)) (from (has_head word t) are.0 (headed_alike word ts us are.1))
  where
    from : (b : Bool) → IsAlike t u → AreAlikeTrees (headed word ts) (headed word us) → AreAlikeTrees (cond b (t ∷ headed word ts) (headed word ts)) (cond b (u ∷ headed word us) (headed word us))
    from true first rest = (first, rest)
    from false first rest = rest

-- the members after the heads of two trees that are alike
content_alike : (tree other : Tree) → IsAlike tree other → AreAlikeTrees (content tree) (content other)
content_alike tree other alike = from (members_of tree) (members_of other) (members_alike tree other alike) where
  from : (members others : Option (List Tree)) → AreAlikeMembers members others → AreAlikeTrees (but_first members) (but_first others)
  from None None are = tt
  from None (Some others) are = absurd are
  from (Some members) None are = absurd are
  from (Some []) (Some []) are = tt
  from (Some []) (Some (u ∷ us)) are = absurd are
  from (Some (t ∷ ts)) (Some []) are = absurd are
  from (Some (t ∷ ts)) (Some (u ∷ us)) are = are.1

-- the members after the heads of trees that are alike one by one
contents_of : (trees others : List Tree) → AreAlikeTrees trees others → AreAlikeTrees (flat_map content trees) (flat_map content others)
contents_of [] [] are = tt
contents_of [] (u ∷ us) are = absurd are
contents_of (t ∷ ts) [] are = absurd are
contents_of (t ∷ ts) (u ∷ us) are = append_alike (content t) (content u) (flat_map content ts) (flat_map content us) (content_alike t u are.0) (contents_of ts us are.1)

-- the contents of the sections with one head are alike in lists that are alike
pub contents_alike : (word : List ℕ) (trees others : List Tree) → AreAlikeTrees trees others → AreAlikeTrees (contents word trees) (contents word others)
contents_alike word trees others are = contents_of (headed word trees) (headed word others) (headed_alike word trees others are)

-- the values of one key are alike among pairs that are alike
pub values_alike : (word : List ℕ) (pairs others : List Tree) → AreAlikeTrees pairs others → AreAlikeTrees (values word pairs) (values word others)
values_alike word [] [] are = tt
values_alike word [] (u ∷ us) are = absurd are
values_alike word (t ∷ ts) [] are = absurd are
values_alike word (t ∷ []) (u ∷ []) are = tt
values_alike word (t ∷ []) (u ∷ v ∷ us) are = absurd are.1
values_alike word (t ∷ s ∷ ts) (u ∷ []) are = absurd are.1
values_alike word (t ∷ s ∷ ts) (u ∷ v ∷ us) are =
    subst (λ b. AreAlikeTrees (values word (t ∷ s ∷ ts)) (if b then v ∷ values word us else values word us)) (ap (is_word word) (leaf_alike t u are.0)) (from (is_word word (leaf_of t)) are.1.0 (values_alike word ts us are.1.1))
  where
    from : (b : Bool) → IsAlike s v → AreAlikeTrees (values word ts) (values word us) → AreAlikeTrees (if b then s ∷ values word ts else values word ts) (if b then v ∷ values word us else values word us)
    from true first rest = (first, rest)
    from false first rest = rest

-- what is read from trees one by one is one list, also from trees that are alike
pub items_once : {X : Type 0} (read : X → Tree → Bool) → IsReadOnce read → ((x : X) → Respects (read x)) → (xs ys : List X) (trees others : List Tree) → AreAlikeTrees trees others → each_passes (map read xs) trees ≡ true → each_passes (map read ys) others ≡ true → xs ≡ ys
items_once read once same xs ys trees others are is also = lists_once read once xs ys trees is (passes_alike IsAlike read same ys trees others are ∙ also)

-- typed lists that are alike are read as at most one list of names
pub names_of_alike : (names next : List TypedName) (trees others : List Tree) → AreAlikeTrees trees others → are_names names trees ≡ true → are_names next others ≡ true → names ≡ next
names_of_alike names next trees others are is also = names_once names next trees is (names_alike next trees others are ∙ also)
