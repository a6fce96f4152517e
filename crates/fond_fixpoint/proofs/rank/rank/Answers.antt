use Rattle.std.proofs.Common.{◌≡◌, ◌+◌, ℕ, sym, subst, arith, vec_len}
use Rattle.fond_fixpoint.specs.declared.fate.Fate.TheVariants.{Ranked}
use Rattle.std.specs.Prelude.{slice_set}
use Rattle.fond_fixpoint.specs.Rounds.{IsSearch}
use Rattle.fond_fixpoint.proofs.Ranked.{is_search}
use Rattle.fond_fixpoint.proofs.rank.rank.Goals as goal

pub returns-clause-search : goal.returns-clause-search
returns-clause-search c =
    let moves = c.args.moves.now in
    let fates = c.args.fates.now in
    let number = c.args.number in
    let rank = c.len.result + 1 in
    let before = vec_len c.args.queue.now in
    let is_rank : rank ≡ before + 1 = omega (arith, c.len.ensures) in
    let done = is_search moves fates number rank c.requires.there (c.requires.within number c.requires.there).0 c.requires.«open» c.requires.wins before is_rank in
    let P : ℕ → Type 0 = λ node. IsSearch moves fates (slice_set fates node (Ranked rank number)) before (before + 1) in
    let Q : ℕ → Type 0 = λ after. IsSearch moves fates (slice_set fates c.source-node.result (Ranked rank number)) before after in
    let long : before + 1 ≡ vec_len c.push.new.self = sym c.in_ok-push.ensures.len in
    subst Q long (subst P (sym c.source-node.ensures) done)
