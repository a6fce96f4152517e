-- Blocks of consecutive cubes: what more cubes leave of them, and one block more.
use Rattle.std.proofs.Common.{◌≡◌, ℕ, zero, suc, ◌+◌, ◌-◌, ◌^◌, ◌<◌, ◌≤◌, List, [], ◌∷◌, ◌++◌, Bool, Option, length, map, take, drop, sym, ap, ◌∙◌, subst, arith, length-append, length-drop}
use Rattle.std.proofs.lemmas.List.{drop-append-le, drop-drop, drop-map, length-map, take-append-le, take-map, take_rest}
use Rattle.fond_match.specs.declared.index.Index.{Index}
use Rattle.fond_match.specs.declared.matcher.Matcher.{Matcher}
use Rattle.fond_match.specs.Blocks.{AreBlocksOf, AreHeavy, HasFewBlocks, IsIndexOf, covered}
use Rattle.fond_match.specs.Matchers.{HasAll, Indexes, IsMatcherOf}

block_more : (cubes more : List (List (Option Bool))) (block : Matcher) → IsMatcherOf cubes block → IsMatcherOf (cubes ++ more) block
block_more cubes more block is =
    let P : List (List (Option Bool)) → Type 0 = λ front. Indexes front block in
    (omega (arith, is.0, length-append cubes more), subst P (sym (take-append-le block.count cubes more is.0)) is.1)

blocks_more : (cubes more : List (List (Option Bool))) (blocks : List Matcher) → AreBlocksOf cubes blocks → AreBlocksOf (cubes ++ more) blocks
blocks_more cubes more [] are = tt
blocks_more cubes more (block ∷ blocks) are =
    let P : List (List (Option Bool)) → Type 0 = λ rest. AreBlocksOf rest blocks in
    (block_more cubes more block are.0, are.1, subst P (sym (drop-append-le block.count cubes more are.0.0)) (blocks_more (drop block.count cubes) more blocks are.2))

-- an index of some cubes is one of these and any more after them
pub index_more : (cubes more : List (List (Option Bool))) (index : Index) → IsIndexOf cubes index → IsIndexOf (cubes ++ more) index
index_more cubes more index is = (is.0, blocks_more cubes more index.blocks.items is.1)

-- blocks have no more cubes than there are
pub covered_within : (cubes : List (List (Option Bool))) (blocks : List Matcher) → AreBlocksOf cubes blocks → covered blocks ≤ length cubes
covered_within cubes [] are = omega arith
covered_within cubes (block ∷ blocks) are = omega (arith, are.0.0, covered_within (drop block.count cubes) blocks are.2, length-drop block.count cubes)

-- each block doubles the cubes of those after it
doubled : (n own rest count : ℕ) → 2 ^ n ≤ rest + 1 → rest < own → own + rest ≤ count → 2 ^ suc n ≤ count + 1
doubled n own rest count small large within = omega (arith, small, large, within)

few_blocks : (blocks : List Matcher) (cubes : List (List (Option Bool))) → AreBlocksOf cubes blocks → 2 ^ length blocks ≤ covered blocks + 1
few_blocks [] cubes are = omega arith
few_blocks (block ∷ blocks) cubes are = doubled (length blocks) block.count (covered blocks) (block.count + covered blocks) (few_blocks blocks (drop block.count cubes) are.2) are.1 (omega arith)

-- an index has few blocks
pub index_few : {X : Type 0} (cube : X → List (Option Bool)) (items : List X) (index : Index) → IsIndexOf (map cube items) index → HasFewBlocks (length items) index
index_few cube items index is =
    let few = few_blocks index.blocks.items (map cube items) is.1 in
    omega (arith, few, covered_within (map cube items) index.blocks.items is.1, length-map items cube)

pub covered_front : (n : ℕ) (blocks : List Matcher) → covered (take n blocks) ≤ covered blocks
covered_front zero blocks = omega arith
covered_front (suc n) [] = omega arith
covered_front (suc n) (block ∷ blocks) = omega (arith, covered_front n blocks)

-- the first of some blocks
pub blocks_front : (n : ℕ) (cubes : List (List (Option Bool))) (blocks : List Matcher) → AreBlocksOf cubes blocks → AreBlocksOf cubes (take n blocks)
blocks_front zero cubes blocks are = tt
blocks_front (suc n) cubes [] are = tt
blocks_front (suc n) cubes (block ∷ blocks) are = (are.0, omega (arith, are.1, covered_front n blocks), blocks_front n (drop block.count cubes) blocks are.2)

pub covered_push : (blocks : List Matcher) (last : Matcher) → covered (blocks ++ last ∷ []) ≡ covered blocks + last.count
covered_push [] last = omega arith
covered_push (block ∷ blocks) last = omega (arith, covered_push blocks last)

-- blocks, each of which has more cubes than there are after its own, and one over all those cubes
pub blocks_push : (cubes : List (List (Option Bool))) (blocks : List Matcher) (last : Matcher) → AreBlocksOf cubes blocks → AreHeavy (length cubes) blocks → covered blocks < length cubes →
    IsMatcherOf (drop (covered blocks) cubes) last → last.count ≡ length cubes - covered blocks → AreBlocksOf cubes (blocks ++ last ∷ [])
blocks_push cubes [] last are heavy some is all = (is, omega (arith, some, all), tt)
blocks_push cubes (block ∷ blocks) last are heavy some is all =
    let rest : length (drop block.count cubes) ≡ length cubes - block.count = length-drop block.count cubes in
    let P : ℕ → Type 0 = λ count. AreHeavy count blocks in
    let Q : List (List (Option Bool)) → Type 0 = λ own. IsMatcherOf own last in (
      are.0,
      omega (arith, covered_push blocks last, heavy.0, some, all, are.0.0),
      blocks_push (drop block.count cubes) blocks last are.2 (subst P (sym rest) heavy.1)
          (omega (arith, rest, some, are.0.0)) (subst Q (sym (drop-drop (covered blocks) block.count cubes)) is) (omega (arith, rest, some, all, are.0.0)),
    )

module _ {X : Type 0} (cube : X → List (Option Bool)) (items : List X) (block : Matcher) (all rest : List Matcher) (split : all ≡ block ∷ rest) (are : AreBlocksOf (map cube items) all) where
  first_and_rest : AreBlocksOf (map cube items) (block ∷ rest)
  first_and_rest = let P : List Matcher → Type 0 = λ blocks. AreBlocksOf (map cube items) blocks in subst P split are

  -- the first block has no more items than there are
  pub first_within : block.count ≤ length items
  first_within = omega (arith, first_and_rest.0.0, length-map items cube)

  -- the first block is an index of the first items
  pub first_indexes : (front : List X) → front ≡ take block.count items → Indexes (map cube front) block
  first_indexes front is =
      let P : List (List (Option Bool)) → Type 0 = λ cubes. Indexes cubes block in
      subst P (take-map cube block.count items ∙ ap (map cube) (sym is)) first_and_rest.0.1

  -- the other blocks are of the items after those
  pub rest_blocks : (back : List X) → back ≡ drop block.count items → AreBlocksOf (map cube back) rest
  rest_blocks back is =
      let P : List (List (Option Bool)) → Type 0 = λ cubes. AreBlocksOf cubes rest in
      subst P (drop-map cube block.count items ∙ ap (map cube) (sym is)) first_and_rest.2

-- the first of some blocks, and one block over all items after those
module _ {X : Type 0} (cube : X → List (Option Bool)) (items : List X) (old cut new : List Matcher) (keep from : ℕ) (last : Matcher)
    (are : AreBlocksOf (map cube items) old) (heavy : AreHeavy (length items) (take keep old)) (is_from : from ≡ covered (take keep old)) (some : from < length items)
    (is : IsMatcherOf (map cube (take (length items - from) (drop from items))) last) (all : HasAll (length (take (length items - from) (drop from items))) last)
    (is_cut : cut ≡ take keep old) (pushed : new ≡ cut ++ last ∷ []) where
  whole : new ≡ take keep old ++ last ∷ []
  whole = pushed ∙ ap (λ blocks. blocks ++ last ∷ []) is_cut

  last_count : last.count ≡ length items - from
  last_count = all ∙ ap length (take_rest items from) ∙ length-drop from items

  last_is : IsMatcherOf (drop (covered (take keep old)) (map cube items)) last
  last_is =
      let P : List X → Type 0 = λ own. IsMatcherOf (map cube own) last in
      let Q : List (List (Option Bool)) → Type 0 = λ cubes. IsMatcherOf cubes last in
      let R : ℕ → Type 0 = λ n. IsMatcherOf (drop n (map cube items)) last in
      subst R is_from (subst Q (sym (drop-map cube from items)) (subst P (take_rest items from) is))

  pub rebuilt_count : covered new ≡ length items
  rebuilt_count = ap covered whole ∙ omega (arith, covered_push (take keep old) last, last_count, is_from, some)

  pub rebuilt_blocks : AreBlocksOf (map cube items) new
  rebuilt_blocks =
      let P : List Matcher → Type 0 = λ blocks. AreBlocksOf (map cube items) blocks in
      let Q : ℕ → Type 0 = λ count. AreHeavy count (take keep old) in
      let count : length (map cube items) ≡ length items = length-map items cube in
      subst P (sym whole) (blocks_push (map cube items) (take keep old) last (blocks_front keep (map cube items) old are) (subst Q (sym count) heavy)
      (omega (arith, count, is_from, some)) last_is (omega (arith, last_count, count, is_from)))
