-- The rules of a correct certificate have its rank, and no solution has a smaller one.
use Rattle.std.proofs.Common.{◌≡◌, ℕ, zero, suc, ◌<◌, ◌≤◌, List, [], Bool, Some, length, refl, sym, ap, ◌∙◌, subst, arith}
use Rattle.std.specs.Prelude.{slice_get}
use Rattle.fond_task.specs.declared.task.Task.{Task}
use Rattle.fond_task.specs.Policies.{IsGoal, Policy, game, selected, start}
use Rattle.fond_task.specs.Solutions.{IsSolution}
use Rattle.fond_policy.specs.declared.best.BestCert.{BestCert}
use Rattle.fond_policy.proofs.Covered.{covers_solve}
use Rattle.fond_games.specs.Rankings.{IsRanking}
use Rattle.fond_best.specs.Certificates.{IsRightBest}
use Rattle.fond_games.specs.Ranks.{IsBest}
use Rattle.fond_best.proofs.Beyond.{IsAmong, open_in, ranked_high}
use Rattle.fond_best.proofs.Nearest.{rank_by, ranked_at_most, is_ranking}

module _ (task : Task) (cert : BestCert) (rank : ℕ) (right : IsRightBest task cert rank) where
  -- a goal as the first state has rank 0
  at_goal : IsGoal task task.init → rank ≡ 0
  at_goal goal = by rank refl
    where
      by : (n : ℕ) → n ≡ rank → n ≡ 0
      by zero is = refl
      by (suc n) is =
          let last = right.met.reached (omega (arith, is)) in
          absurd (open_in task cert.layers cert.far last.number last.cubes task.init right.lists_far last.numbered (record { cube = last.cube; has = last.has; lies = last.lies }) goal)

  -- each solution has at least this rank
  at_least : (policy : Policy) → IsSolution task policy → (ranking : List Bool → ℕ) → IsRanking (game task) policy ranking → rank ≤ ranking task.init
  at_least policy solution ranking is = by rank refl
    where
      by : (n : ℕ) → n ≡ rank → n ≤ ranking task.init
      by zero same = omega arith
      by (suc n) same =
          let last = right.met.reached (omega (arith, same)) in
          let high = ranked_high task cert.layers cert.far right.cover.sure.layers_sure right.lists_far policy solution ranking is last.number last.cubes task.init last.numbered start (record { cube = last.cube; has = last.has; lies = last.lies }) in
          omega (arith, high, last.is_last, right.met.counted, same)

  solves : IsSolution task (selected cert.rules)
  solves = covers_solve task cert.layers [] cert.rules cert.items cert.start right.cover

  ranking : IsRanking (game task) (selected cert.rules) (rank_by cert.items cert.ranks)
  ranking = is_ranking task cert.rules cert.items cert.ranks cert.start right.cover.items_sure right.cover.starts solves right.ranked

  exact : rank_by cert.items cert.ranks task.init ≡ rank
  exact =
      let starts = right.cover.starts in
      let most = ranked_at_most cert.items cert.ranks task.init cert.start starts.item rank starts.numbered right.met.starts starts.lies in
      let least = at_least (selected cert.rules) solves (rank_by cert.items cert.ranks) ranking in
      omega (arith, most, least)

  is_best : IsBest (game task) (selected cert.rules) rank
  is_best = record {
    solves = solves;
    ranked = record {
      at_goal = at_goal;
      given = λ open_. (rank_by cert.items cert.ranks, ranking, exact);
      least = λ other open_ is. at_least (selected cert.rules) solves other is;
    };
    least = λ policy ranking finite solution open_ is. at_least policy solution ranking is;
  }

pub best_by : (task : Task) (cert : BestCert) (rank : ℕ) → IsRightBest task cert rank → IsBest (game task) (selected cert.rules) rank
best_by = is_best
