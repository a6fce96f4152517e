use Rattle.std.proofs.Common.{◌*◌, ◌∙◌, subst, sym, ⊎_elim, arith}
use Rattle.std.proofs.lemmas.Bool.{cases_lt, cases_eq}
use Rattle.fond_matrix.specs.Rivals.{IsNoted, rival_at}
use Rattle.fond_matrix.proofs.Noted.{noted_absent}
use Rattle.fond_matrix.proofs.rows.Rows.note_all.Goals as goal

pub loop-atom-preserved : goal.loop-atom-preserved
loop-atom-preserved c =
    let rows = c.args.self.now in
    let cube = c.args.cube.now in
    let next = c.in-Some.ensures.some in
    record {
      within = omega (arith, next.within);
      long = c.note.ensures.long ∙ c.loop-atom.invariant.long;
      done = λ a small lt. ⊎_elim
          (λ is. subst (λ n. IsNoted rows cube c.args.end n (rival_at c.note.new.rivals n)) (sym is) c.note.ensures.noted)
          (λ differs. subst (IsNoted rows cube c.args.end a) (sym (c.note.ensures.other a differs)) (⊎_elim
          (λ early. c.loop-atom.invariant.done a small early)
          (λ from. noted_absent rows cube a (64 * c.args.start) c.args.end (rival_at c.loop-atom.rivals a) (next.none a from (omega (arith, lt, differs))) (c.loop-atom.invariant.rest a small from))
          (cases_lt a c.loop-atom.from)))
          (cases_eq a c.in-Some.atom);
      rest = λ a small past. subst (IsNoted rows cube (64 * c.args.start) a) (sym (c.note.ensures.other a (λ is. omega (arith, is, past)))) (c.loop-atom.invariant.rest a small (omega (arith, past, next.after)));
    }

pub returns-clause-noted : goal.returns-clause-noted
returns-clause-noted c = λ a small. ⊎_elim
    (λ early. c.loop-atom.invariant.done a small early)
    (λ from. noted_absent c.args.self.now c.args.cube.now a (64 * c.args.start) c.args.end (rival_at c.loop-atom.rivals a) (c.in_default.ensures.none a from) (c.loop-atom.invariant.rest a small from))
    (cases_lt a c.loop-atom.from)
