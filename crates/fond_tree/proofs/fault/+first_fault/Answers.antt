use Rattle.std.proofs.Common.{◌≡◌, ◌∙◌, ◌+◌, ◌-◌, ◌++◌, ◌∷◌, [], Some, length, take, drop, ap, sym, arith}
use Rattle.std.proofs.lemmas.Grind.{common_steps}
use Rattle.fond_tree.specs.Trees.{members_of}
use Rattle.fond_tree.specs.Parts.{expected_parts}
use Rattle.fond_tree.specs.Walks.{part_if, parts_left}
use Rattle.fond_tree.specs.FormFaults.{Stands}
use Rattle.fond_text.proofs.Earliest.{least_found, clean_if_none}
use Rattle.fond_tree.proofs.Steps.{node_members, leaf_members, all_left, none_left, nothing_left, leaf_first, part_looked_at, member_passed_over}
use Rattle.fond_tree.proofs.fault.+first_fault.Goals as goal
use Rattle.fond_tree.proofs.fault.+first_fault.Goals.{in-Some, in_default-inner}

pub loop-i-init : goal.loop-i-init
loop-i-init t c =
    let trees = c.as_slice-trees.result.now in
    let are : members_of c.args.tree.now ≡ Some trees = node_members c.args.tree.now _ _ c.in-Node.is ∙ ap (λ ts. Some ts) (sym c.as_slice-trees.ensures.value) in
    let same = c.over-walk.ensures trees ∙ ap (λ e. expected_parts e trees) c.expected_of.ensures in
    all_left c.args.role c.args.tree.now trees are _ same c.own_fault-first.result c.own_fault-first.ensures

pub loop-i-preserved : goal.loop-i-preserved
loop-i-preserved t c =
    let trees = c.as_slice-trees.result.now in
    let i = c.loop-i.i in
    let member = c.index-trees-i.result in
    let at : drop i trees ≡ member ∷ take (length trees - (i + 1)) (drop (i + 1) trees) = grind (arith, common_steps) in
    let after : take (length trees - (i + 1)) (drop (i + 1) trees) ≡ drop (i + 1) trees = grind (arith, common_steps) in
    let split : parts_left c.loop-i.walk (drop i trees) ≡ part_if c.next-inner.result member ++ parts_left c.next-inner.new.self (drop (i + 1) trees) =
    ap (parts_left c.loop-i.walk) at ∙ c.next-inner.ensures ∙ ap (λ ts. part_if c.next-inner.result member ++ parts_left c.next-inner.new.self ts) after in
    elim c.match-inner.branch [
      | in-Some w ↦
          let splits = split ∙ ap (λ role. part_if role member ++ parts_left c.next-inner.new.self (drop (i + 1) trees)) w.in-Some.is in
          rw w.first-is
          (part_looked_at c.args.role c.args.tree.now _ _ w.in-Some.inner member splits c.loop-i.first w.first_fault.result w.earlier-first.result c.loop-i.invariant w.first_fault.ensures.some
          w.first_fault.ensures.none w.earlier-first.ensures)
      | in_default-inner w ↦
          let splits = split ∙ ap (λ role. part_if role member ++ parts_left c.next-inner.new.self (drop (i + 1) trees)) w.in_default-inner.is in
          rw w.first-is (member_passed_over c.args.role c.args.tree.now _ _ member splits c.loop-i.first c.loop-i.invariant)
    ]

pub returns-after-loop-i-clause-some : goal.returns-after-loop-i-clause-some
returns-after-loop-i-clause-some t c =
    let ended : drop c.loop-i.i c.as_slice-trees.result.now ≡ [] = grind (arith, common_steps) in
    let all = none_left c.args.role c.args.tree.now _ (nothing_left c.loop-i.walk _ ended) c.loop-i.first c.loop-i.invariant in
    least_found (Stands c.args.role c.args.tree.now) c.loop-i.first all

pub returns-after-loop-i-clause-none : goal.returns-after-loop-i-clause-none
returns-after-loop-i-clause-none t c =
    let ended : drop c.loop-i.i c.as_slice-trees.result.now ≡ [] = grind (arith, common_steps) in
    let all = none_left c.args.role c.args.tree.now _ (nothing_left c.loop-i.walk _ ended) c.loop-i.first c.loop-i.invariant in
    clean_if_none (Stands c.args.role c.args.tree.now) c.loop-i.first all

pub returns-in_default-clause-some : goal.returns-in_default-clause-some
returns-in_default-clause-some t c =
    let leaf = leaf_members c.args.tree.now _ _ c.in_default.is in
    least_found (Stands c.args.role c.args.tree.now) c.own_fault-first.result (leaf_first c.args.role c.args.tree.now leaf c.own_fault-first.result c.own_fault-first.ensures)

pub returns-in_default-clause-none : goal.returns-in_default-clause-none
returns-in_default-clause-none t c =
    let leaf = leaf_members c.args.tree.now _ _ c.in_default.is in
    clean_if_none (Stands c.args.role c.args.tree.now) c.own_fault-first.result (leaf_first c.args.role c.args.tree.now leaf c.own_fault-first.result c.own_fault-first.ensures)
