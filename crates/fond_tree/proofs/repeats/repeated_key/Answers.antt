use Rattle.std.proofs.Common.{◌≡◌, ◌≤◌, ◌<◌, ◌-◌, ◌||◌, false, List, [], ◌∷◌, length, take, drop, get_or, ap, refl, sym, ◌∙◌, subst, arith}
use Rattle.std.proofs.lemmas.Grind.{common_steps}
use Rattle.fond_tree.specs.declared.tree.Tree.{Tree}
use Rattle.fond_tree.specs.FormFaults.{keys}
use Rattle.fond_tree.specs.Trees.{leaf_of}
use Rattle.fond_tree.proofs.Again.{Again, again_step, all_repeated}
use Rattle.fond_text.proofs.Earliest.{IsFirstSoFar}
use Rattle.fond_tree.proofs.repeats.repeated_key.Goals as goal
use Rattle.fond_tree.proofs.repeats.repeated_key.Goals.{then-seen, else-seen}

none_left : (trees : List Tree) → length trees < 1 → keys trees ≡ []
none_left [] short = refl
none_left (tree ∷ trees) short = absurd (omega arith)

key_in_front : (trees : List Tree) (one : Tree) → 1 ≤ length trees → one ≡ get_or trees 0 one → keys trees ≡ one ∷ keys (drop 1 (drop 1 trees))
key_in_front [] one some is = absurd (omega arith)
key_in_front (key ∷ []) one some is = ap (λ k. k ∷ []) (sym is)
key_in_front (key ∷ tree ∷ trees) one some is = ap (λ k. k ∷ keys trees) (sym is)

pub loop-rest-preserved : goal.loop-rest-preserved
loop-rest-preserved c =
    let more : c.if-seen.seen ≡ (c.loop-rest.seen || c.is_leaf-headed.result) = elim c.if-seen.branch [ then-seen w ↦ cc | else-seen w ↦ cc ] in
    let front = key_in_front c.loop-rest.rest.now c.one-item.result (omega arith) c.one-item.is in
    let all : take (length c.loop-rest.rest.now - 1) (drop 1 c.loop-rest.rest.now) ≡ drop 1 c.loop-rest.rest.now = grind (arith, common_steps) in
    let after : c.after_first-rest.result.now ≡ drop 1 (drop 1 c.loop-rest.rest.now) = c.after_first-rest.ensures ∙ ap (drop 1) all in
    let left = front ∙ ap (λ ts. c.one-item.result ∷ keys ts) (sym after) in
    let before =
    subst (λ (ts : List Tree). IsFirstSoFar (Again leaf_of c.args.key.now false (keys c.args.pairs.now)) (Again leaf_of c.args.key.now c.loop-rest.seen ts) c.loop-rest.first) left
    c.loop-rest.invariant in
    again_step leaf_of c.args.key.now (Again leaf_of c.args.key.now false (keys c.args.pairs.now)) c.one-item.result (keys c.after_first-rest.result.now) c.loop-rest.seen c.is_leaf-headed.result
    c.if-seen.seen c.is_leaf-headed.ensures more c.loop-rest.first c.again.result c.earlier-first.result before c.again.ensures c.earlier-first.ensures

pub returns : goal.returns
returns c =
    let ended = none_left c.loop-rest.rest.now (omega arith) in
    all_repeated leaf_of c.args.key.now (keys c.args.pairs.now) (keys c.loop-rest.rest.now) c.loop-rest.seen c.loop-rest.first ended c.loop-rest.invariant
