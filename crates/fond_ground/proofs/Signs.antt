-- Values with a sign: the opposite of a least value is the greatest of the opposites, and vice versa.
use Rattle.std.proofs.Common.{◌≡◌, ℕ, ◌∙◌, Bool, true, false, not, List, [], ◌∷◌, ◌++◌, Vec, Box, Global, Option, Result, Ok, Err, IfOk, map, length, get_or, drop, refl, sym, ap, ◌+◌, ◌<◌}
use Rattle.std.specs.List.{fold}
use Rattle.std.proofs.lemmas.List.{at_drop_more}
use Rattle.std.specs.Prelude.{if◌then◌else◌, ◌==◌}
use Rattle.fond_text.specs.declared.atom.Atom.{Atom}
use Rattle.fond_task.specs.declared.form.Form.{Form}
use Rattle.fond_task.specs.declared.form.Junction.{Junction}
use Rattle.fond_task.specs.declared.form.Junction.TheVariants.{All, Any}
use Rattle.fond_task.specs.declared.form.Kleene.{Kleene}
use Rattle.fond_task.specs.declared.form.Kleene.TheVariants.{No, Unknown, Yes}
use Rattle.fond_task.specs.Junctions.{dual, joined, joined_all, neutral}
use Rattle.fond_task.specs.Values.{least, greatest, lesser, greater, opposite, value}
use Rattle.fond_ast.specs.Ranges.{RangeList, objects_of}
use Rattle.fond_ast.specs.declared.form.LAtom.{LAtom}
use Rattle.fond_ast.specs.declared.form.LTerm.{LTerm}
use Rattle.fond_ast.specs.declared.form.LCond.{LCond, Holds, Equal, And, Or, Not, Imply, Forall, Exists}
use Rattle.fond_ast.specs.declared.form.LCond.TheOpen as open_condition
use Rattle.fond_ast.specs.declared.form.LCond.TheViews.{rolls-Holds, rolls-Equal, rolls-And, rolls-Or, rolls-Not, rolls-Imply, rolls-Forall, rolls-Exists}
use Rattle.fond_ast.specs.declared.form.LCond.TheFolds.{fold-LCond, fold-roll-LCond}
use Rattle.fond_join.specs.Values.{condition_value, condition_step}
use Rattle.fond_join.proofs.Joined.{decided_stays, joined_first}
use Rattle.fond_ast.specs.Conditions.{ground_atom, object_of, tuples}
use Rattle.fond_ground.specs.Signs.{signed, signed_junction, junction_value}
use Rattle.fond_ground.specs.declared.junction.JunctionForm.{JunctionForm}

opposite-lesser : (v w : Kleene) → greater (opposite v) (opposite w) ≡ opposite (lesser v w)
opposite-lesser No w = refl
opposite-lesser Unknown No = refl
opposite-lesser Unknown Unknown = refl
opposite-lesser Unknown Yes = refl
opposite-lesser Yes w = refl

opposite-greater : (v w : Kleene) → lesser (opposite v) (opposite w) ≡ opposite (greater v w)
opposite-greater No w = refl
opposite-greater Unknown No = refl
opposite-greater Unknown Unknown = refl
opposite-greater Unknown Yes = refl
opposite-greater Yes w = refl

opposite_twice : (v : Kleene) → v ≡ opposite (opposite v)
opposite_twice No = refl
opposite_twice Unknown = refl
opposite_twice Yes = refl

opposite-least : {X : Type 0} (g : X → Kleene) (xs : List X) (before : Kleene) → fold greater (opposite before) (map (λ x. opposite (g x)) xs) ≡ opposite (fold lesser before (map g xs))
opposite-least g [] before = refl
opposite-least g (x ∷ xs) before = ap (λ v. fold greater v (map (λ y. opposite (g y)) xs)) (opposite-lesser before (g x)) ∙ opposite-least g xs (lesser before (g x))

opposite-greatest : {X : Type 0} (g : X → Kleene) (xs : List X) (before : Kleene) → fold lesser (opposite before) (map (λ x. opposite (g x)) xs) ≡ opposite (fold greater before (map g xs))
opposite-greatest g [] before = refl
opposite-greatest g (x ∷ xs) before = ap (λ v. fold lesser v (map (λ y. opposite (g y)) xs)) (opposite-greater before (g x)) ∙ opposite-greatest g xs (greater before (g x))

signed-least : {X : Type 0} (sign : Bool) (g : X → Kleene) (xs : List X) → joined_all (signed_junction sign All) (map (λ x. signed sign (g x)) xs) ≡ signed sign (least (map g xs))
signed-least true g xs = refl
signed-least false g xs = opposite-least g xs Yes

signed-greatest : {X : Type 0} (sign : Bool) (g : X → Kleene) (xs : List X) → joined_all (signed_junction sign Any) (map (λ x. signed sign (g x)) xs) ≡ signed sign (greatest (map g xs))
signed-greatest true g xs = refl
signed-greatest false g xs = opposite-greatest g xs No

not-signed : (sign : Bool) (v : Kleene) → signed (not sign) v ≡ signed sign (opposite v)
not-signed true v = refl
not-signed false v = opposite_twice v

signed-greater : (sign : Bool) (v w : Kleene) → joined (signed_junction sign Any) (signed (not sign) v) (signed sign w) ≡ signed sign (greater (opposite v) w)
signed-greater true v w = refl
signed-greater false v w = ap (λ u. lesser u (opposite w)) (opposite_twice v) ∙ opposite-greater (opposite v) w

pub map-map : {X Y Z : Type 0} (f : X → Y) (g : Y → Z) (xs : List X) → map g (map f xs) ≡ map (λ x. g (f x)) xs
map-map f g [] = refl
map-map f g (x ∷ xs) = ap (λ rest. g (f x) ∷ rest) (map-map f g xs)

module _ (known : Atom → Kleene) (env : List ℕ) where
  abbrev at : LCond → Kleene
  at condition = condition_value known env condition

  pub at-Holds : (atom : LAtom) → at (Holds atom) ≡ known (ground_atom env atom)
  at-Holds atom = ap at (sym (rolls-Holds atom)) ∙ ap (λ f. f env) (fold-roll-LCond (List ℕ → Kleene) (condition_step known) (open_condition.Holds atom))

  pub at-Equal : (term other : LTerm) → at (Equal term other) ≡ (if object_of env term == object_of env other then Yes else No)
  at-Equal term other = ap at (sym (rolls-Equal term other)) ∙ ap (λ f. f env) (fold-roll-LCond (List ℕ → Kleene) (condition_step known) (open_condition.Equal term other))

  pub at-And : (members : Vec LCond Global) → at (And members) ≡ least (map at members.items)
  at-And members =
      ap at (sym (rolls-And members)) ∙ ap (λ f. f env) (fold-roll-LCond (List ℕ → Kleene) (condition_step known) (open_condition.And members))
      ∙ ap least (map-map (fold-LCond (List ℕ → Kleene) (condition_step known)) (λ part. part env) members.items)

  pub at-Or : (members : Vec LCond Global) → at (Or members) ≡ greatest (map at members.items)
  at-Or members =
      ap at (sym (rolls-Or members)) ∙ ap (λ f. f env) (fold-roll-LCond (List ℕ → Kleene) (condition_step known) (open_condition.Or members))
      ∙ ap greatest (map-map (fold-LCond (List ℕ → Kleene) (condition_step known)) (λ part. part env) members.items)

  pub at-Not : (part : Box LCond Global) → at (Not part) ≡ opposite (at part.value)
  at-Not part = ap at (sym (rolls-Not part)) ∙ ap (λ f. f env) (fold-roll-LCond (List ℕ → Kleene) (condition_step known) (open_condition.Not part))

  pub at-Imply : (part other : Box LCond Global) → at (Imply part other) ≡ greater (opposite (at part.value)) (at other.value)
  at-Imply part other = ap at (sym (rolls-Imply part other)) ∙ ap (λ f. f env) (fold-roll-LCond (List ℕ → Kleene) (condition_step known) (open_condition.Imply part other))

  pub at-Forall : (ranges : RangeList) (part : Box LCond Global) → at (Forall ranges part) ≡ least (map (λ objects. condition_value known (env ++ objects) part.value) (tuples (objects_of ranges)))
  at-Forall ranges part = ap at (sym (rolls-Forall ranges part)) ∙ ap (λ f. f env) (fold-roll-LCond (List ℕ → Kleene) (condition_step known) (open_condition.Forall ranges part))

  pub at-Exists : (ranges : RangeList) (part : Box LCond Global) → at (Exists ranges part) ≡ greatest (map (λ objects. condition_value known (env ++ objects) part.value) (tuples (objects_of ranges)))
  at-Exists ranges part = ap at (sym (rolls-Exists ranges part)) ∙ ap (λ f. f env) (fold-roll-LCond (List ℕ → Kleene) (condition_step known) (open_condition.Exists ranges part))

  module _ (sign : Bool) where
    abbrev pub signed_at : LCond → Kleene
    signed_at condition = signed sign (at condition)

    pub signed-And : (members : Vec LCond Global) → joined_all (signed_junction sign All) (map signed_at members.items) ≡ signed_at (And members)
    signed-And members = signed-least sign at members.items ∙ ap (signed sign) (sym (at-And members))

    pub signed-Or : (members : Vec LCond Global) → joined_all (signed_junction sign Any) (map signed_at members.items) ≡ signed_at (Or members)
    signed-Or members = signed-greatest sign at members.items ∙ ap (signed sign) (sym (at-Or members))

    pub signed-Not : (part : Box LCond Global) → signed (not sign) (at part.value) ≡ signed_at (Not part)
    signed-Not part = not-signed sign (at part.value) ∙ ap (signed sign) (sym (at-Not part))

    pub signed-Imply : (part other : Box LCond Global) → joined (signed_junction sign Any) (joined (signed_junction sign Any) (neutral (signed_junction sign Any)) (signed (not sign) (at part.value))) (signed_at other.value) ≡ signed_at (Imply part other)
    signed-Imply part other =
        ap (λ v. joined (signed_junction sign Any) v (signed_at other.value)) (joined_first (signed_junction sign Any) (signed (not sign) (at part.value)))
        ∙ signed-greater sign (at part.value) (at other.value) ∙ ap (signed sign) (sym (at-Imply part other))

    pub signed-Forall : (ranges : RangeList) (part : Box LCond Global) → joined_all (signed_junction sign All) (map (λ objects. signed sign (condition_value known (env ++ objects) part.value)) (tuples (objects_of ranges))) ≡ signed_at (Forall ranges part)
    signed-Forall ranges part = signed-least sign (λ objects. condition_value known (env ++ objects) part.value) (tuples (objects_of ranges)) ∙ ap (signed sign) (sym (at-Forall ranges part))

    pub signed-Exists : (ranges : RangeList) (part : Box LCond Global) → joined_all (signed_junction sign Any) (map (λ objects. signed sign (condition_value known (env ++ objects) part.value)) (tuples (objects_of ranges))) ≡ signed_at (Exists ranges part)
    signed-Exists ranges part = signed-greatest sign (λ objects. condition_value known (env ++ objects) part.value) (tuples (objects_of ranges)) ∙ ap (signed sign) (sym (at-Exists ranges part))

-- a form with one value on each cube has another that is the same there
pub same_form : {E : Type 0} (r : Result Form E) (g h : List (Option Bool) → Kleene) → ((cube : List (Option Bool)) → g cube ≡ h cube)
    → IfOk r (λ form. (cube : List (Option Bool)) → value cube form ≡ g cube) → IfOk r (λ form. (cube : List (Option Bool)) → value cube form ≡ h cube)
same_form (Ok form) g h same is = λ cube. is cube ∙ same cube
same_form (Err e) g h same is = is

-- one more part of those that are left
pub next_joined : {X : Type 0} (junction : Junction) (f : X → Kleene) (xs : List X) (x : X) (rest : List X) (v next w whole : Kleene) → xs ≡ x ∷ rest → next ≡ joined junction v w → w ≡ f x
    → fold (joined junction) v (map f xs) ≡ whole → fold (joined junction) next (map f rest) ≡ whole
next_joined junction f xs x rest v next w whole split grown same before =
    ap (λ u. fold (joined junction) u (map f rest)) (grown ∙ ap (joined junction v) same) ∙ ap (λ list. fold (joined junction) v (map f list)) (sym split) ∙ before

-- the rest of a list from an index on
pub drop_here : {X : Type 0} (xs : List X) (i : ℕ) (x : X) → i < length xs → x ≡ get_or xs i x → drop i xs ≡ x ∷ drop (i + 1) xs
drop_here xs i x lt at = at_drop_more (λ rest. rest) xs i x lt ∙ ap (λ y. y ∷ drop (i + 1) xs) (sym at)

-- a junction that is decided has the value of the dual one without parts
pub decided_value : (cube : List (Option Bool)) (form : JunctionForm) (junction : Junction) → form.decided ≡ true → form.junction ≡ junction → junction_value cube form ≡ neutral (dual junction)
decided_value cube form junction decided kind =
    ap (λ b. if b then neutral (dual form.junction) else joined_all form.junction (map (value cube) form.parts.items)) decided ∙ ap (λ j. neutral (dual j)) kind

-- a junction that is not decided and has no parts has the value of no parts
pub neutral_value : (cube : List (Option Bool)) (form : JunctionForm) → form.decided ≡ false → form.parts.items ≡ [] → junction_value cube form ≡ neutral form.junction
neutral_value cube form undecided none = λ i. if undecided i then neutral (dual form.junction) else joined_all form.junction (map (value cube) (none i))

-- a decided junction has the value of the whole
pub decided_whole : {X : Type 0} (cube : List (Option Bool)) (form : JunctionForm) (junction : Junction) (f : X → Kleene) (xs : List X) (whole : Kleene) → form.decided ≡ true → form.junction ≡ junction
    → fold (joined junction) (junction_value cube form) (map f xs) ≡ whole → junction_value cube form ≡ whole
decided_whole cube form junction f xs whole decided kind before =
    let here = decided_value cube form junction decided kind in
    here ∙ sym (decided_stays junction (map f xs)) ∙ ap (λ v. fold (joined junction) v (map f xs)) (sym here) ∙ before
