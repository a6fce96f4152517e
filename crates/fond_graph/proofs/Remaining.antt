-- What is left to draw.
use Rattle.std.proofs.Common.{◌≡◌, ℕ, zero, suc, ◌+◌, ◌<◌, List, [], ◌∷◌, ◌++◌, Bool, true, false, Option, Some, drop, get_or, length, map, refl, slice_get, sym, ap, ◌∙◌, append-nil, arith}
use Rattle.std.specs.Prelude.{if◌then◌else◌, option_map}
use Rattle.std.specs.List.{enumerate_from, flat_map}
use Rattle.std.proofs.lemmas.List.{at_drop_more, length-map, map-append}
use Rattle.std.proofs.lemmas.Option.{get_or_from_slice_get, slice_get-map, slice_get_within}
use Rattle.json.specs.Print.{quoted}
use Rattle.serde_json.specs.Data.{Data, string}
use Rattle.serde_json.specs.Written.{comma_if}
use Rattle.fond_state.specs.Cubes.{truth_at}
use Rattle.fond_text.specs.Text.{Adds}
use Rattle.fond_text.specs.declared.atom.Atom.{Atom}
use Rattle.fond_text.proofs.Adding.{adds_same}
use Rattle.fond_task.specs.declared.rule.Rule.{Rule}
use Rattle.fond_task.specs.declared.task.Task.{Task}
use Rattle.fond_task.specs.Texts.{atom_text}
use Rattle.fond_reach.specs.declared.node.Node.{Node}
use Rattle.fond_graph.specs.Drawings.{node_data, nodes_data}
use Rattle.fond_graph.specs.Parts.{atom_strings, comes_after, listed}
use Rattle.fond_graph.proofs.Listing.{Listing, listing_more}

-- an element at each number below the length
item_at : {X : Type 0} (xs : List X) (k : ℕ) → k < length xs → (x : X) × (slice_get xs k ≡ Some x)
item_at [] k within = absurd (omega (arith, within))
item_at (x ∷ xs) zero within = (x, refl)
item_at (x ∷ xs) (suc k) within = item_at xs k (omega (arith, within))

module _ (task : Task) (state : List Bool) where
  -- the text of an atom, if it is true
  abbrev text_if : Bool → Atom → List (List ℕ)
  text_if is_true atom = if is_true then atom_text task.labels atom ∷ [] else []

  -- the texts of the atoms that are true in a state, from an atom of this number on
  abbrev pub texts_from : ℕ → List Atom → List (List ℕ)
  texts_from number atoms = flat_map (λ item. if truth_at state item.0 then atom_text task.labels item.1 ∷ [] else []) (enumerate_from number atoms)

  -- the string of an atom, if it is true
  part_if : (is_true later : Bool) (atom : Atom) → (if is_true then comma_if later ++ quoted (atom_text task.labels atom) else []) ≡ listed later (map string (text_if is_true atom))
  part_if true later atom = ap (λ (t : List ℕ). comma_if later ++ t) (sym (append-nil (quoted (atom_text task.labels atom))))
  part_if false later atom = refl

  later_if : (is_true later : Bool) (atom : Atom) → (if is_true then true else later) ≡ comes_after later (map string (text_if is_true atom))
  later_if true later atom = refl
  later_if false later atom = refl

  module _ (before : Option (List ℕ)) (whole : List Data) (later : Bool) (now : Option (List ℕ)) (k : ℕ) (strings : List (List ℕ)) (one : List ℕ) where
    -- one atom more
    pub atoms_more : (then_later : Bool) (after : Option (List ℕ)) → Listing false before whole later now (map string (texts_from k (drop k task.atoms))) → strings ≡ atom_strings task → k < length strings → one ≡ get_or strings k one
        → Adds now after (if truth_at state k then comma_if later ++ one else []) → then_later ≡ (if truth_at state k then true else later) → Listing false before whole then_later after (map string (texts_from (k + 1) (drop (k + 1) task.atoms)))
    atoms_more then_later after so_far are within is added then_is =
        let counted : length strings ≡ length task.atoms = ap length are ∙ length-map task.atoms _ in
        let atom = item_at task.atoms k (omega (arith, within, counted)) in
        let found : slice_get strings k ≡ Some (quoted (atom_text task.labels atom.0)) =
        ap (λ (s : List (List ℕ)). slice_get s k) are ∙ slice_get-map (λ (a : Atom). quoted (atom_text task.labels a)) task.atoms k ∙ ap (option_map (λ (a : Atom). quoted (atom_text task.labels a))) atom.1 in
        let one_is : one ≡ quoted (atom_text task.labels atom.0) = is ∙ get_or_from_slice_get strings k _ one found in
        let left : List Atom → List Data = λ atoms. map string (texts_from k atoms) in
        let step : left (drop k task.atoms) ≡ left (atom.0 ∷ drop (k + 1) task.atoms) =
        at_drop_more left task.atoms k atom.0 (omega (arith, within, counted)) ∙ ap (λ (a : Atom). left (a ∷ drop (k + 1) task.atoms)) (get_or_from_slice_get task.atoms k atom.0 atom.0 atom.1) in
        let split : left (drop k task.atoms) ≡ map string (text_if (truth_at state k) atom.0) ++ map string (texts_from (k + 1) (drop (k + 1) task.atoms)) =
        step ∙ map-append string (text_if (truth_at state k) atom.0) (texts_from (k + 1) (drop (k + 1) task.atoms)) in
        let own : List ℕ → List ℕ = λ t. if truth_at state k then comma_if later ++ t else [] in
        listing_more false before whole later now (left (drop k task.atoms)) so_far (map string (text_if (truth_at state k) atom.0)) (map string (texts_from (k + 1) (drop (k + 1) task.atoms))) then_later after split
        (adds_same now after _ _ (ap own one_is ∙ part_if (truth_at state k) later atom.0) added)
        (then_is ∙ later_if (truth_at state k) later atom.0)

-- one node more
pub nodes_step : (task : Task) (rules : List Rule) (states : List (List Bool)) (nodes : List Node) (k : ℕ) (state : List Bool) (node : Node) → slice_get states k ≡ Some state → k < length nodes → node ≡ get_or nodes k node
    → nodes_data task rules (drop k states) (drop k nodes) ≡ node_data task rules state node ∷ nodes_data task rules (drop (k + 1) states) (drop (k + 1) nodes)
nodes_step task rules states nodes k state node at within is =
    at_drop_more (λ (more : List (List Bool)). nodes_data task rules more (drop k nodes)) states k state (slice_get_within states k state at)
    ∙ ap (λ (s : List Bool). nodes_data task rules (s ∷ drop (k + 1) states) (drop k nodes)) (get_or_from_slice_get states k state state at)
    ∙ at_drop_more (λ (more : List Node). nodes_data task rules (state ∷ drop (k + 1) states) more) nodes k node within
    ∙ ap (λ (n : Node). nodes_data task rules (state ∷ drop (k + 1) states) (n ∷ drop (k + 1) nodes)) (sym is)
