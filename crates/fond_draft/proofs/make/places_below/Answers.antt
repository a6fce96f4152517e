use Rattle.fond_draft.proofs.make.places_below.Goals as goal

pub in_order-requires-clause-listed : goal.in_order-requires-clause-listed
in_order-requires-clause-listed c = c.in_ok-states.ensures.below.each

pub returns-clause-places : goal.returns-clause-places
returns-clause-places c = record { states = c.in_ok-states.states; below = c.in_ok-states.ensures.below; ordered = c.in_ok-places.ensures }

pub returns-clause-has : goal.returns-clause-has
returns-clause-has c = λ choice numbered. c.in_ok-places.ensures.all c.args.number choice numbered (c.in_ok-states.ensures.has choice numbered)
