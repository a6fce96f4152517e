-- Layers stay sure when cubes that lie in earlier layers are left out of them.
use Rattle.std.proofs.Common.{inl, inr, ◌≡◌, ℕ, zero, suc, ◌<◌, List, [], ◌∷◌, ◌++◌, Bool, Option, Some, None, length, length-append, refl, sym, ap, ◌∙◌, subst, ⊎_elim, arith}
use Rattle.std.specs.Prelude.{◌⊎◌, Contains}
use Rattle.std.proofs.lemmas.List.{length-map}
use Rattle.std.proofs.lemmas.List.Elements.{All-contains, All-push, Contains-append_left, Contains-push, Contains-push_cases}
use Rattle.fond_state.proofs.Tested.{LiesIn-through}
use Rattle.fond_state.specs.Cubes.{CubeLiesIn, LiesIn}
use Rattle.fond_task.specs.Images.{image}
use Rattle.fond_task.specs.declared.task.Act.{Act}
use Rattle.fond_task.specs.declared.task.Entry.{Entry}
use Rattle.fond_task.specs.declared.task.Task.{Task}
use Rattle.fond_task.proofs.Lists.{Contains-cases, Contains-here, Contains-later, Contains_numbered}
use Rattle.fond_task.proofs.Stacked.{AreSureLayers-push}
use Rattle.fond_task.specs.Certificates.{LiesInLayers}
use Rattle.fond_task.specs.Layers.{CubeView, Forces, IsSureLayer, Leads, SomeLeads}
use Rattle.fond_layers.specs.Leads.{LiesInSome}
use Rattle.fond_layers.specs.Over.{AreOver, IsOver}
use Rattle.fond_explicit.specs.Answers.{AreStuck}
use Rattle.fond_draft.specs.Appends.{AreFresh, HaveGrown, IsAppended}
use Rattle.fond_draft.proofs.Lists.{all_numbered, push_keeps}
use Rattle.fond_draft.proofs.Ready.{reachable_long}

abbrev pub LayerList : Type 0
LayerList = List (List CubeView)

-- no element is in the empty list
nothing_in : {X : Type 0} (x : X) → ¬ Contains [] x
nothing_in x has = omega (arith, has.1)

-- if this holds of each element of a list or that holds, this holds of all elements, or that holds
each_or : {X : Type 0} (P : X → Type 0) (That : Type 0) (xs : List X) → ((x : X) → Contains xs x → P x ⊎ That) → ((x : X) → Contains xs x → P x) ⊎ That
each_or P That [] each = inl (λ x has. absurd (nothing_in x has))
each_or P That (y ∷ xs) each = both (each y (Contains-here y xs)) (each_or P That xs (λ x has. each x (Contains-later x y xs has)))
  where
    both : P y ⊎ That → ((x : _) → Contains xs x → P x) ⊎ That → ((x : _) → Contains (y ∷ xs) x → P x) ⊎ That
    both (inr that) rest = inr that
    both (inl here) (inr that) = inr that
    both (inl here) (inl rest) = inl (λ x has. ⊎_elim (λ same. subst P same here) (rest x) (Contains-cases x y xs has))

-- a cube that lies in another one lies in each layer in which that one lies
some_through : (layers : LayerList) (cube other : CubeView) → CubeLiesIn cube other → LiesInSome other layers → LiesInSome cube layers
some_through layers cube other inner some =
    (some.0, some.1, record { other = some.2.other; one = some.2.one; lies = λ atom sign is. inner atom sign (some.2.lies atom sign is) })

-- a cube that lies in one of some layers lies in one of more layers
some_more : (layers more : LayerList) (cube : CubeView) → LiesInSome cube layers → LiesInSome cube (layers ++ more)
some_more layers more cube some = (some.0, Contains-append_left layers more some.0 some.1, some.2)

-- a state that lies in a cube lies in a layer in which the cube lies
pub state_through : (layers : LayerList) (state : List Bool) (cube : CubeView) → LiesIn state cube → LiesInSome cube layers → LiesInLayers state layers
state_through layers state cube lies some =
    record { layer = some.0; one = some.1; cube = some.2.other; has = some.2.one; lies = LiesIn-through state cube some.2.other lies some.2.lies }

module _ (layers : LayerList) (layer fresh : List CubeView) (last : CubeView) (are : AreFresh layers layer fresh) where
  -- a cube that lies in one of the layers is left out
  pub fresh_same : LiesInSome last layers → AreFresh layers (layer ++ last ∷ []) fresh
  fresh_same some = record {
    few = omega (arith, are.few, length-append layer (last ∷ []));
    part = λ cube has. Contains-append_left layer (last ∷ []) cube (are.part cube has);
    apart = are.apart;
    rest = λ cube has. ⊎_elim (are.rest cube) (λ same. inr (subst (λ (c : CubeView). LiesInSome c layers) same some)) (Contains-push_cases layer last cube has);
  }

  -- a cube that lies in none of the layers is one of the fresh cubes
  pub fresh_more : ¬ LiesInSome last layers → AreFresh layers (layer ++ last ∷ []) (fresh ++ last ∷ [])
  fresh_more free = record {
    few = omega (arith, are.few, length-append layer (last ∷ []), length-append fresh (last ∷ []));
    part = λ cube has. ⊎_elim
        (λ early. Contains-append_left layer (last ∷ []) cube (are.part cube early))
        (λ same. subst (λ (c : CubeView). Contains (layer ++ last ∷ []) c) same (Contains-push layer last))
        (Contains-push_cases fresh last cube has);
    apart = λ cube has. ⊎_elim (are.apart cube) (λ same some. free (subst (λ (c : CubeView). LiesInSome c layers) (sym same) some)) (Contains-push_cases fresh last cube has);
    rest = λ cube has. ⊎_elim
        (λ early. ⊎_elim (λ one. inl (Contains-append_left fresh (last ∷ []) cube one)) (λ some. inr some) (are.rest cube early))
        (λ same. inl (subst (λ (c : CubeView). Contains (fresh ++ last ∷ []) c) same (Contains-push fresh last)))
        (Contains-push_cases layer last cube has);
  }

-- each cube of some layers lies in one of others
abbrev pub Holds : LayerList → LayerList → Type 0
Holds layers done = (one : List CubeView) → Contains done one → (cube : CubeView) → Contains one cube → LiesInSome cube layers

module _ (done layers : LayerList) (layer fresh : List CubeView) (held : Holds layers done) (are : AreFresh layers layer fresh) where
  module _ (cube : CubeView) (act : Act) where
    -- some outcome leads into an earlier layer
    abbrev LeadsBefore : Type 0
    LeadsBefore = (before : List CubeView) × Contains layers before × SomeLeads cube act before

    -- an outcome whose image lies in one of the layers leads into an earlier layer
    leads_before : (outcome : List Entry) → Contains act.outcomes outcome → LiesInSome (image cube outcome) layers → LeadsBefore
    leads_before outcome one some = (some.0, some.1, (outcome, one, some.2))

    -- an outcome that leads into the layer leads into its fresh cubes, or into an earlier layer
    leads_fresh : (outcome : List Entry) → Contains act.outcomes outcome → Leads cube outcome layer → Leads cube outcome fresh ⊎ LeadsBefore
    leads_fresh outcome one leads = ⊎_elim
        (λ has. inl (record { other = leads.other; one = has; lies = leads.lies }))
        (λ some. inr (leads_before outcome one (some_through layers (image cube outcome) leads.other leads.lies some)))
        (are.rest leads.other leads.one)

    -- an action that leads into the layer or one before it leads into the fresh cubes or one of the layers
    forces_fresh : Forces done layer cube act → Forces layers fresh cube act
    forces_fresh (inl early) =
        let outcome = early.2.0 in
        let leads = early.2.2 in
        inl (leads_before outcome early.2.1 (some_through layers (image cube outcome) leads.other leads.lies (held early.0 early.1 leads.other leads.one)))
    forces_fresh (inr (inl fair)) = ⊎_elim
        (λ each. inr (inl (fair.0, each)))
        (λ before. inl before)
        (each_or (λ (outcome : List Entry). Leads cube outcome fresh) LeadsBefore act.outcomes (λ outcome one. leads_fresh outcome one (fair.1 outcome one)))
    forces_fresh (inr (inr unfair)) = ⊎_elim
        (λ leads. inr (inr (unfair.0, (unfair.1.0, unfair.1.1, leads))))
        (λ before. inl before)
        (leads_fresh unfair.1.0 unfair.1.1 unfair.1.2)

  -- the fresh cubes of a sure layer are a sure layer
  sure_fresh : (task : Task) → IsSureLayer task done layer → IsSureLayer task layers fresh
  sure_fresh task sure cube has =
      let its = sure cube (are.part cube has) in
      record { no_goal = its.no_goal; forced = λ act one may. forces_fresh cube act (its.forced act one may) }

  -- each cube of the layer lies in one of the layers, or in one of the fresh cubes
  held_more : (cube : CubeView) → Contains layer cube → LiesInSome cube (layers ++ fresh ∷ [])
  held_more cube has = ⊎_elim
      (λ one. (fresh, Contains-push layers fresh, record { other = cube; one = one; lies = λ atom sign is. is }))
      (λ some. some_more layers (fresh ∷ []) cube some)
      (are.rest cube has)

module _ (task : Task) (old done layers : LayerList) (layer : List CubeView) (grown : HaveGrown task old done layers) (sure : IsSureLayer task done layer) (layer_over : IsOver (length task.atoms) layer) where
  -- layers that have grown stay as they are at a layer of which no cube is fresh
  grown_same : AreFresh layers layer [] → HaveGrown task old (done ++ layer ∷ []) layers
  grown_same are = record {
    over = grown.over;
    sure = grown.sure;
    kept = grown.kept;
    has = λ one has cube in_one. ⊎_elim
        (λ early. grown.has one early cube in_one)
        (λ same. ⊎_elim (λ none. absurd (nothing_in cube none)) (λ some. some) (are.rest cube (subst (λ (l : List CubeView). Contains l cube) (sym same) in_one)))
        (Contains-push_cases done layer one has);
  }

  -- layers that have grown grow by the fresh cubes of one more layer
  grown_push : (fresh : List CubeView) → AreFresh layers layer fresh → HaveGrown task old (done ++ layer ∷ []) (layers ++ fresh ∷ [])
  grown_push fresh are = record {
    over = All-push (IsOver (length task.atoms)) layers fresh grown.over
        (all_numbered (λ (cube : CubeView). length cube ≡ length task.atoms) fresh (λ i cube at. All-contains (λ (one : CubeView). length one ≡ length task.atoms) layer cube layer_over (are.part cube (Contains_numbered fresh i cube at))));
    sure = AreSureLayers-push task layers fresh grown.sure (sure_fresh done layers layer fresh grown.has are task sure);
    kept = λ number one at. push_keeps layers (fresh ∷ []) number one (grown.kept number one at);
    has = λ one has cube in_one. ⊎_elim
        (λ early. some_more layers (fresh ∷ []) cube (grown.has one early cube in_one))
        (λ same. held_more done layers layer fresh grown.has are cube (subst (λ (l : List CubeView). Contains l cube) (sym same) in_one))
        (Contains-push_cases done layer one has);
  }

  -- layers that have grown grow by what is appended of one more layer
  pub grown_more : (next : LayerList) → IsAppended layers layer next → HaveGrown task old (done ++ layer ∷ []) next
  grown_more next appended = ⊎_elim
      (λ none. subst (λ (ls : LayerList). HaveGrown task old (done ++ layer ∷ []) ls) (sym none.1) (grown_same (subst (λ (f : List CubeView). AreFresh layers layer f) none.0 appended.are)))
      (λ last. subst (λ (ls : LayerList). HaveGrown task old (done ++ layer ∷ []) ls) (sym last.1) (grown_push appended.fresh appended.are))
      appended.appended

-- stuck layers are over the atoms of the task
pub stuck_over : (task : Task) (from : List Bool) (layers : LayerList) → length from ≡ length task.atoms → AreStuck task from layers → AreOver (length task.atoms) layers
stuck_over task from layers long stuck = all_numbered (IsOver (length task.atoms)) layers (λ number layer at. all_numbered (λ (cube : CubeView). length cube ≡ length task.atoms) layer (λ i cube is.
    let its = stuck.each layer (Contains_numbered layers number layer at) cube (Contains_numbered layer i cube is) in
    ap length its.full ∙ length-map its.state (λ value. Some value) ∙ reachable_long task from long its.state its.reachable))
