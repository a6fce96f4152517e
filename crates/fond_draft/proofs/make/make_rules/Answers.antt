use Rattle.std.proofs.Common.{◌<◌, ◌∙◌, List, length, ap, subst, sym}
use Rattle.std.proofs.lemmas.Option.{slice_get_within}
use Rattle.fond_task.proofs.Lists.{number_of}
use Rattle.fond_draft.specs.declared.order.Place.{Place}
use Rattle.fond_draft.specs.Places.{ArePlacesBelow, HavePlaced}
use Rattle.fond_draft.proofs.make.make_rules.Goals as goal

pub place_all-requires-clause-places : goal.place_all-requires-clause-places
place_all-requires-clause-places c = subst (λ (places : List Place). ArePlacesBelow c.args.t.now c.args.draft.now.rules c.args.plan.now places) (sym c.as_slice.ensures.value) c.in_ok-places.ensures.places

pub place_all-requires-clause-next_long : goal.place_all-requires-clause-next_long
place_all-requires-clause-next_long c = ap length c.in_ok-next.ensures ∙ c.args.t.now.init_long

pub returns : goal.returns
returns c = record {
  ruled = λ choice numbered.
      let places = c.in_ok-places.places.items in
      let place : Place = record { rank = choice.rank; number = c.args.number } in
      let there = number_of places place (c.in_ok-places.ensures.has choice numbered) in
      let within : there.0 < length places = slice_get_within places there.0 place there.1 in
      let told = c.in_ok-place_all.ensures in
      let placed = subst (λ (xs : List Place). HavePlaced c.args.plan.now.choices xs (length xs) c.place_all.new.draft.rules) c.as_slice.ensures.value told.placed in
      record {
        has = placed there.0 place choice within there.1 numbered;
        kept = told.kept;
        draft = told.draft;
      };
  pairs = c.in_ok-place_all.ensures.pairs;
}
