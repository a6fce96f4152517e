use Rattle.std.proofs.Common.{◌≡◌, ◌∙◌, ◌<◌, ℕ, List, ◌++◌, get_or, length, map, take, refl, sym, ap, subst, arith}
use Rattle.std.proofs.lemmas.List.{take_all}
use Rattle.fond_state.specs.Cubes.{literal_at}
use Rattle.fond_match.specs.Runs.{picked}
use Rattle.fond_match.specs.Visits.{Keeps}
use Rattle.fond_match.proofs.Found.{cube_read}
use Rattle.fond_match.proofs.Kept.{Keeps-entry_read, Keeps-rest_read}
use Rattle.fond_match.proofs.part.entries_of.Goals as goal
use Rattle.fond_match.proofs.part.entries_of.Goals.{in-Some+in_ok-push-in-Some, in-None+in_ok-push-in-None}

pub loop-number-preserved : goal.loop-number-preserved
loop-number-preserved g c =
    let items = c.args.items.now in
    let numbers = c.args.numbers.now in
    let i = c.loop-number.number-index in
    let number = get_or numbers i 0 in
    let item = c.index-items-number.result in
    let cube = g.T.HasCube.cube in
    let within : i < length numbers = c.loop-number-test.true in
    let own = cube_read cube items number item (c.requires i 0 within) c.index-items-number.is in
    elim c.match-sorting_literal.branch [
      | in-Some+in_ok-push-in-Some w ↦ Keeps-entry_read (map cube items) numbers i c.loop-number.rest.items _ c.loop-number.entries.items _ (record { literal = w.in-Some.literal; number = number }) (cube item) within refl own
          (ap (λ x. literal_at x w.in-Some.literal.atom) (sym c.cube.ensures) ∙ w.in-Some.ensures) (rw w.rest-is refl) (rw w.entries-is w.in_ok-push-in-Some.ensures.items) c.loop-number.invariant
      | in-None+in_ok-push-in-None w ↦ Keeps-rest_read (map cube items) numbers i c.loop-number.rest.items _ c.loop-number.entries.items _ within (rw w.rest-is w.in_ok-push-in-None.ensures.items) (rw w.entries-is refl) c.loop-number.invariant
    ]

pub returns : goal.returns
returns g c =
    let numbers = c.args.numbers.now in
    let i = c.loop-number.number-index in
    let all : take i numbers ≡ numbers = take_all i numbers (omega (arith, c.loop-number-test.false)) in
    let P : List ℕ → Type 0 = λ ns. Keeps (map g.T.HasCube.cube c.args.items.now) (λ _. ns) (λ has. c.loop-number.rest.items ++ picked has c.loop-number.entries.items) in
    subst P all c.loop-number.invariant
