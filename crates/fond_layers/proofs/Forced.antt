-- An action leads into layers by what is known of its outcomes.
use Rattle.std.proofs.Common.{◌≡◌, ℕ, ◌≤◌, List, [], Bool, true, false, length, get_or, sym, ◌∙◌, subst, arith, inl, inr, ⊎_elim}
use Rattle.std.specs.Prelude.{Contains, Decides}
use Rattle.std.proofs.lemmas.Bool.{false≢true}
use Rattle.std.proofs.lemmas.List.Elements.{Contains-get_or}
use Rattle.fond_task.specs.declared.task.Act.{Act}
use Rattle.fond_task.specs.declared.task.Entry.{Entry}
use Rattle.fond_task.specs.Images.{image}
use Rattle.fond_task.specs.Layers.{CubeView, Leads, EachLeads, SomeLeads, Forces}
use Rattle.fond_layers.specs.Leads.{LiesInSome}
use Rattle.fond_layers.proofs.Tried.{AllBefore, SomeBefore, all_of, some_of, some_before}

module _ (cube : CubeView) (act : Act) (outcomes : List (List Entry)) (same : outcomes ≡ act.outcomes) where
  among : (outcome : List Entry) → Contains act.outcomes outcome → Contains outcomes outcome
  among outcome has = let P : List (List Entry) → Type 0 = λ os. Contains os outcome in subst P (sym same) has

  among_act : (outcome : List Entry) → Contains outcomes outcome → Contains act.outcomes outcome
  among_act outcome has = let P : List (List Entry) → Type 0 = λ os. Contains os outcome in subst P same has

-- no outcome leads into an earlier layer if the image of none lies in one
pub none_earlier : (earlier : List (List CubeView)) (cube : CubeView) (act : Act) (outcomes : List (List Entry)) → outcomes ≡ act.outcomes → (i : ℕ) → length outcomes ≤ i →
    AllBefore outcomes (λ outcome. ¬ LiesInSome (image cube outcome) earlier) i → ¬ ((before : List CubeView) × Contains earlier before × SomeLeads cube act before)
none_earlier earlier cube act outcomes same i end misses one =
    let outcome = one.2.0 in
    all_of outcomes (λ outcome. ¬ LiesInSome (image cube outcome) earlier) i end misses outcome (among cube act outcomes same outcome one.2.1) (one.0, one.1, one.2.2)

no_layer : (cube : CubeView) (act : Act) → ¬ ((before : List CubeView) × Contains [] before × SomeLeads cube act before)
no_layer cube act one = omega (arith, one.1.1)

module _ (layer : List CubeView) (cube : CubeView) (act : Act) (outcomes : List (List Entry)) (same : outcomes ≡ act.outcomes) (i : ℕ) (begun : i ≤ length outcomes) (end : length outcomes ≤ i) where
  abbrev InLayer : List Entry → Type 0
  InLayer outcome = Leads cube outcome layer

  -- an unfair action leads into the layer again if one of its outcomes does
  pub again_by_some : (some : Bool) → act.unfair ≡ true → Decides some (SomeBefore outcomes InLayer i) → Decides some (Forces [] layer cube act)
  again_by_some some unfair tried = (
    λ e.
        let one = some_of outcomes InLayer i end (tried.0 e) in
        inr (inr (unfair, (one.0, among_act cube act outcomes same one.0 one.1, one.2))),
    λ forced. ⊎_elim
        (λ one. absurd (no_layer cube act one))
        (λ here. ⊎_elim
        (λ fair. absurd (false≢true (sym fair.0 ∙ unfair)))
        (λ one. tried.1 (some_before outcomes InLayer i end (one.1.0, among cube act outcomes same one.1.0 one.1.1, one.1.2)))
        here)
        forced,
  )

  each_before : EachLeads cube act layer → AllBefore outcomes InLayer i
  each_before each = λ k d small. each (get_or outcomes k d) (among_act cube act outcomes same (get_or outcomes k d) (Contains-get_or outcomes k d (omega arith)))

  -- a fair action leads into the layer again if each of its outcomes does
  pub again_by_each : (each : Bool) → act.unfair ≡ false → Decides each (AllBefore outcomes InLayer i) → Decides each (Forces [] layer cube act)
  again_by_each each fair tried = (
    λ e. inr (inl (fair, λ outcome has. all_of outcomes InLayer i end (tried.0 e) outcome (among cube act outcomes same outcome has))),
    λ forced. ⊎_elim
        (λ one. absurd (no_layer cube act one))
        (λ here. ⊎_elim
        (λ all. tried.1 (each_before all.1))
        (λ unfair. absurd (false≢true (sym fair ∙ unfair.0)))
        here)
        forced,
  )

-- what leads into the layer again does so whatever the earlier layers are
pub forced_again : (earlier : List (List CubeView)) (layer : List CubeView) (cube : CubeView) (act : Act) → Forces [] layer cube act → Forces earlier layer cube act
forced_again earlier layer cube act again = ⊎_elim (λ one. absurd (no_layer cube act one)) (λ here. inr here) again

-- what does not lead into the layer again has to lead into an earlier one
pub forced_or_earlier : (earlier : List (List CubeView)) (layer : List CubeView) (cube : CubeView) (act : Act) (leads : Bool) → ¬ Forces [] layer cube act →
    Decides leads ((before : List CubeView) × Contains earlier before × SomeLeads cube act before) → Decides leads (Forces earlier layer cube act)
forced_or_earlier earlier layer cube act leads none tried = (λ e. inl (tried.0 e), λ forced. ⊎_elim (λ one. tried.1 one) (λ here. absurd (none (inr here))) forced)
