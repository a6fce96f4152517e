use Rattle.std.proofs.Common.{◌≡◌, ◌++◌, List, ℕ, length, sym, ap, ◌∙◌, subst}
use Rattle.std.proofs.lemmas.List.Filters.{dedup_is}
use Rattle.fond_explicit.specs.Filings.{AreCollected, AreCandidates}
use Rattle.fond_explicit.proofs.Filed.{are_candidates}
use Rattle.fond_explicit.proofs.filing.candidates.Goals as goal
use lib.Dec.{eqb}

pub returns : goal.returns
returns c =
    let lists = c.args.index.now.by_atom.items in
    let state = c.args.state.now in
    let always = c.args.index.now.always.items in
    let begun : c.extend_from_slice.new.self.items ≡ always
    = c.in_ok-extend_from_slice.ensures.items ∙ ap (λ xs. xs ++ c.as_slice.result.now) c.clear.ensures.items ∙ c.as_slice.ensures.value in
    let P : List ℕ → Type 0 = λ old. AreCollected lists state (length state) old c.collect.new.out.items in
    let Q : List ℕ → Type 0 = λ numbers. AreCandidates c.args.t.now state numbers in
    subst Q (sym (dedup_is eqb c.sort_unstable.new.self.items c.dedup.new.self.items c.dedup.ensures.filtered))
    (are_candidates c.args.t.now c.args.index.now state c.collect.new.out.items c.sort_unstable.new.self.items c.requires (subst P begun c.in_ok-collect.ensures) c.sort_unstable.ensures.permutation c.sort_unstable.ensures.sorted)
