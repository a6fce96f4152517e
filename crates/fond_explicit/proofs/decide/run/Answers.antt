use Rattle.std.proofs.Common.{◌≡◌, ℕ, List, Bool, length, sym, ap, ◌∙◌, subst}
use Rattle.fond_fixpoint.specs.Fates.{AreWithin, AreSettled}
use Rattle.fond_explicit.proofs.Runs.{moves_within}
use Rattle.fond_explicit.proofs.decide.run.Goals as goal

pub settle-requires-clause-within : goal.settle-requires-clause-within
settle-requires-clause-within c =
    let long : length c.deref.result.now ≡ length c.args.space.now.states = ap length c.deref.ensures.value ∙ c.in_ok-goals.ensures.whole in
    let P : ℕ → Type 0 = λ nodes. AreWithin nodes c.args.space.now.moves in
    subst P (sym long) (moves_within c.args.t.now c.requires.space.0 c.args.space.now c.requires.space.1)

pub returns : goal.returns
returns c =
    let P : List Bool → Type 0 = λ goals. AreSettled goals c.args.space.now.moves c.in_ok-fates.fates.items in
    record {
      goals = c.in_ok-goals.goals.items;
      whole = c.in_ok-goals.ensures.whole;
      goals_are = c.in_ok-goals.ensures.goals;
      settled = subst P c.deref.ensures.value c.in_ok-fates.ensures;
    }
