-- Why the least stable cube decides whether a state is hopeless, and why a stable cube without goals is a sure layer.
use Rattle.std.proofs.Common.{◌≡◌, ℕ, ◌<◌, ◌≤◌, List, [], ◌∷◌, Bool, true, false, Some, length, get_or, refl, sym, ap, ◌∙◌, subst, ⊎_elim, inl, inr, arith}
use Rattle.std.specs.Prelude.{slice_get, Contains, ◌&&◌, nat_lt, IsTrue}
use Rattle.std.proofs.lemmas.Bool.{cases_Bool, and_parts, ltb-true}
use Rattle.std.proofs.lemmas.Option.{slice_get-get_or}
use Rattle.fond_state.specs.Cubes.{CubeLiesIn, LiesIn}
use Rattle.fond_task.specs.declared.form.Form.{Form}
use Rattle.fond_task.specs.declared.form.Kleene.{Kleene}
use Rattle.fond_task.specs.declared.form.Kleene.TheVariants.{No}
use Rattle.fond_task.specs.declared.task.Act.{Act}
use Rattle.fond_task.specs.declared.task.Entry.{Entry}
use Rattle.fond_task.specs.declared.task.Task.{Task}
use Rattle.fond_task.specs.Values.{value}
use Rattle.fond_task.specs.Images.{image}
use Rattle.fond_task.specs.Within.{is_act_within, is_form_within}
use Rattle.fond_task.proofs.Found.{all_at}
use Rattle.fond_task.specs.Layers.{CubeView, Forces, IsSureCube, IsSureLayer, AreSureLayers}
use Rattle.fond_task.proofs.Lists.{number_of, Contains_numbered, Contains-here, Contains-cases}
use Rattle.fond_task.proofs.Stacked.{AreSureLayers-none, AreSureLayers-push}
use Rattle.fond_task.proofs.Values.{Keeps, Keeps-value}
use Rattle.fond_task.proofs.CubeImages.{image_more}
use Rattle.fond_regress.specs.Stable.{AllStay, DoesStay, IsStable, IsHopeless, IsHopelessBy}

-- each stable cube in which the state lies is around this one
abbrev pub IsLeast : Task → List Bool → CubeView → Type 0
IsLeast task state cube = (around : CubeView) → length around ≡ length task.atoms → IsStable task around → LiesIn state around → CubeLiesIn cube around

-- a form that is No on a cube is No with more literals
pub no_stays : (cube more : CubeView) → CubeLiesIn more cube → (form : Form) → value cube form ≡ No → value more form ≡ No
no_stays cube more lies form is = let P : Kleene → Type 0 = λ a. Keeps a (value more form) in subst P is (Keeps-value cube more lies form)

-- from a cube that lies in a stable one, no possible outcome leaves that one
pub stays_around : (cube around : CubeView) (act : Act) → length cube ≡ length around → CubeLiesIn cube around → DoesStay around act → ¬ value cube act.pre ≡ No →
    (at : ℕ) (outcome : List Entry) → slice_get act.outcomes at ≡ Some outcome → CubeLiesIn (image cube outcome) around
stays_around cube around act long lies stays may at outcome is atom sign has =
    let all = stays (λ no. may (no_stays around cube lies act.pre no)) in
    image_more around cube lies outcome long atom sign (all at outcome is atom sign has)

-- if the least stable cube has a goal that is not No, the state is not hopeless
pub not_hopeless : (task : Task) (state : List Bool) (cube : CubeView) → IsLeast task state cube → ¬ value cube task.goal ≡ No → ¬ IsHopeless task state
not_hopeless task state cube least may hopeless =
    let by = hopeless.1 in
    may (no_stays hopeless.0 cube (least hopeless.0 by.over by.stable by.lies) task.goal by.no_goal)

-- what a stable cube does with an action
forces_itself : (task : Task) (cube : CubeView) (act : Act) → (0 < length act.outcomes) → AllStay cube act.outcomes → Forces [] (cube ∷ []) cube act
forces_itself task cube act some all = ⊎_elim
    (λ unfair.
    let first : List Entry = get_or act.outcomes 0 [] in
    let is : slice_get act.outcomes 0 ≡ Some first = slice_get-get_or act.outcomes 0 [] some in
    inr (inr (unfair, (first, Contains_numbered act.outcomes 0 first is, record { other = cube; one = Contains-here cube []; lies = all 0 first is }))))
    (λ fair. inr (inl (
      fair,
      λ outcome one.
          let at = number_of act.outcomes outcome one in
          record { other = cube; one = Contains-here cube []; lies = all at.0 outcome at.1 },
    )))
    (cases_Bool act.unfair)

has_outcome : (atoms : ℕ) (act : Act) → is_act_within atoms act ≡ true → 0 < length act.outcomes
has_outcome atoms act within = ltb-true 0 (length act.outcomes) (and_parts _ _ (and_parts _ _ (and_parts _ _ within).0).0).1

-- a stable cube without goals is a sure layer by itself
pub stable_sure : (task : Task) (cube : CubeView) → IsStable task cube → value cube task.goal ≡ No → AreSureLayers task ((cube ∷ []) ∷ [])
stable_sure task cube stable no_goal = AreSureLayers-push task [] (cube ∷ []) (AreSureLayers-none task) sure
  where
    here : IsSureCube task [] (cube ∷ []) cube
    here = record {
      no_goal = no_goal;
      forced = λ act one may.
          let at = number_of task.acts act one in
          let within : is_act_within (length task.atoms) act ≡ true = all_at (is_act_within (length task.atoms)) task.acts at.0 act task.acts_within at.1 in
          let some = has_outcome (length task.atoms) act within in
          forces_itself task cube act some (stable at.0 act at.1 may);
    }

    sure : IsSureLayer task [] (cube ∷ [])
    sure one has = ⊎_elim
        (λ same. subst (IsSureCube task [] (cube ∷ [])) same here)
        (λ more. absurd (omega (arith, more.1)))
        (Contains-cases one cube [] has)
