use Rattle.std.proofs.Common.{◌≡◌, ◌++◌, ◌∷◌, [], ℕ, Some, map, slice_get, take, sym, ap, ◌∙◌}
use Rattle.std.specs.List.{list_all}
use Rattle.std.proofs.lemmas.List.{map-append}
use Rattle.std.proofs.lemmas.List.Folds.{list_all-map}
use Rattle.fond_ast.specs.Within.{is_initial_within}
use Rattle.fond_ast.specs.declared.files.InitAtom.{InitAtom}
use Rattle.fond_ast.specs.declared.files.Problem.{Problem}
use Rattle.fond_text.specs.Lists.{each_passes}
use Rattle.fond_types.specs.Meanings.{meanings}
use Rattle.fond_types.specs.Resolves.{is_ground_atom, positive}
use Rattle.fond_names.specs.Sites.{AnAtom}
use Rattle.fond_types.specs.Sound.{is_sound}
use Rattle.fond_types.proofs.GroundLemmas.{positive_put, positive_passed}
use Rattle.fond_names.proofs.Members.{all_got}
use Rattle.fond_types.proofs.Passing.{passes_more}
use Rattle.fond_types.proofs.WithinLemmas.{all_more}
use Rattle.fond_types.proofs.initial.numbered_init.Goals as goal
use Rattle.fond_types.proofs.initial.numbered_init.Goals.{then-initial+in_ok-ground_atom+in_ok-push, else-initial}

atom_got : (problem other : Problem) (i : ℕ) (initial : InitAtom) → other ≡ problem → slice_get other.init i ≡ Some initial → slice_get problem.init i ≡ Some initial
atom_got problem other i initial same got = ap (λ (one : Problem). slice_get one.init i) (sym same) ∙ got

pub ground_atom-requires : goal.ground_atom-requires
ground_atom-requires c =
    let files = c.args.context.now.files in
    all_got (λ (initial : InitAtom). is_sound files (AnAtom [] initial.atom)) files.problem.init c.loop-i.i c.get-initial.result.now (atom_got c.args.context.now.files.problem c.problem.result.now c.loop-i.i c.get-initial.result.now c.problem.ensures c.get-initial.ensures)
    (sym (list_all-map (is_sound files) (λ (initial : InitAtom). AnAtom [] initial.atom) files.problem.init) ∙ c.requires)

pub loop-i-preserved : goal.loop-i-preserved
loop-i-preserved c =
    let files = c.args.context.now.files in
    let test = is_ground_atom (meanings files) in
    let within = is_initial_within c.args.context.now.predicates in
    let init = files.problem.init in
    let i = c.loop-i.i in
    let one = c.get-initial.result.now in
    let before = c.loop-i.invariant in
    elim c.if-initial.branch [
      | then-initial+in_ok-ground_atom+in_ok-push w ↦
          (let atom = w.in_ok-ground_atom.field-0 in
          let put : c.if-initial.all ≡ c.loop-i.all ++ atom ∷ [] = w.all-is ∙ w.in_ok-push.ensures.ok in
          record {
            resolved = (λ k. each_passes (map test (positive_put init i one (atom_got c.args.context.now.files.problem c.problem.result.now c.loop-i.i c.get-initial.result.now c.problem.ensures c.get-initial.ensures) w.if-initial.true k)) (put k))
                ∙ ap (λ tests. each_passes tests (c.loop-i.all ++ atom ∷ [])) (map-append test (positive (take i init)) (one.atom ∷ []))
                ∙ passes_more (map test (positive (take i init))) c.loop-i.all (test one.atom) atom before.resolved w.in_ok-ground_atom.ensures.resolved;
            within = ap (list_all within) put ∙ all_more within c.loop-i.all atom before.within w.in_ok-ground_atom.ensures.within;
          })
      | else-initial w ↦ record {
        resolved = (λ k. each_passes (map test (positive_passed init i one (atom_got c.args.context.now.files.problem c.problem.result.now c.loop-i.i c.get-initial.result.now c.problem.ensures c.get-initial.ensures) w.if-initial.false k)) (w.all-is k)) ∙ before.resolved;
        within = ap (list_all within) w.all-is ∙ before.within;
      }
    ]
