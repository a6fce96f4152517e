use Rattle.std.proofs.Common.{refl, ◌≡◌, ◌∙◌, get_or, sym, ap, subst, arith}
use Rattle.std.specs.Prelude.{Contains}
use Rattle.std.proofs.lemmas.Option.{same_Some, slice_get-get_or, slice_get_within}
use Rattle.fond_task.proofs.Lists.{Contains_numbered}
use Rattle.fond_explicit.specs.Answers.{ChoiceView}
use Rattle.fond_draft.specs.declared.order.Place.{Place}
use Rattle.fond_draft.proofs.Made.{placed_more}
use Rattle.fond_draft.proofs.Ready.{ready_next}
use Rattle.fond_draft.proofs.make.place_all.Goals as goal

abbrev no_place : Place
no_place = record { rank = 0; number = 0 }

pub loop-entry-init : goal.loop-entry-init
loop-entry-init c = record {
  next_long = c.requires.next_long;
  draft = c.requires.draft;
  pairs = refl;
  kept = λ state has. has;
  placed = λ number place choice small. absurd (omega (arith, small));
}

pub place-requires-clause-there : goal.place-requires-clause-there
place-requires-clause-there c =
    let places = c.args.places.now in
    let own = get_or places c.loop-entry.entry-index no_place in
    let at = slice_get-get_or places c.loop-entry.entry-index no_place c.loop-entry-test.true in
    let its = c.requires.places.ordered.each own (Contains_numbered places c.loop-entry.entry-index own at) in
    slice_get_within c.args.plan.now.choices own.number its.choice its.numbered

pub place-requires-clause-ready : goal.place-requires-clause-ready
place-requires-clause-ready c = λ choice numbered.
    let plan = c.args.plan.now in
    let places = c.args.places.now in
    let own = get_or places c.loop-entry.entry-index no_place in
    let at = slice_get-get_or places c.loop-entry.entry-index no_place c.loop-entry-test.true in
    let given = c.requires.places in
    let its = given.ordered.each own (Contains_numbered places c.loop-entry.entry-index own at) in
    let same : its.choice ≡ choice = same_Some its.choice choice (sym its.numbered ∙ numbered) in
    ready_next c.args.t.now plan c.requires.plan given.states c.args.draft.now.rules given.below places given.ordered c.loop-entry.draft.rules c.loop-entry.invariant.kept c.loop-entry.entry-index c.loop-entry.invariant.placed
    own at choice (its.ranked ∙ ap (λ (x : ChoiceView). x.rank) same) (Contains_numbered plan.choices own.number choice numbered) (subst (λ (x : ChoiceView). Contains given.states x.state) same its.here)

pub loop-entry-preserved : goal.loop-entry-preserved
loop-entry-preserved c =
    let places = c.args.places.now in
    let choices = c.args.plan.now.choices in
    let own = get_or places c.loop-entry.entry-index no_place in
    let at = slice_get-get_or places c.loop-entry.entry-index no_place c.loop-entry-test.true in
    let its = c.requires.places.ordered.each own (Contains_numbered places c.loop-entry.entry-index own at) in
    let ruled = c.in_ok-place.ensures.ruled its.choice its.numbered in
    record {
      next_long = c.in_ok-place.ensures.same_length ∙ c.loop-entry.invariant.next_long;
      draft = ruled.draft;
      pairs = c.in_ok-place.ensures.pairs ∙ c.loop-entry.invariant.pairs;
      kept = λ state has. ruled.kept state (c.loop-entry.invariant.kept state has);
      placed = placed_more choices places c.loop-entry.entry-index c.loop-entry.draft.rules c.place.new.draft.rules c.loop-entry.invariant.placed ruled.kept own its.choice at its.numbered ruled.has;
    }

pub returns-clause-draft : goal.returns-clause-draft
returns-clause-draft c = c.loop-entry.invariant.draft

pub returns-clause-kept : goal.returns-clause-kept
returns-clause-kept c = c.loop-entry.invariant.kept

pub returns-clause-placed : goal.returns-clause-placed
returns-clause-placed c = λ number place choice small. c.loop-entry.invariant.placed number place choice (omega (arith, small, c.loop-entry-test.false))

pub returns-clause-pairs : goal.returns-clause-pairs
returns-clause-pairs c = c.loop-entry.invariant.pairs
