-- Ground tasks that differ in the forms of their conditions alone, and are the same to certificates.
use Rattle.std.specs.Prelude.{◌≡◌, List, Bool, Option}
use Rattle.std.specs.List.{AllZip}
use Rattle.fond_task.specs.declared.form.Form.{Form}
use Rattle.fond_task.specs.declared.task.Act.{Act}
use Rattle.fond_task.specs.declared.task.Entry.{Entry}
use Rattle.fond_task.specs.declared.task.Task.{Task}
use Rattle.fond_task.specs.Values.{value}
use Rattle.fond_task.specs.declared.rule.Pair.{Pair}
use Rattle.fond_task.specs.declared.rule.Rule.{Rule}
use Rattle.fond_task.specs.Layers.{CubeView}
use Rattle.fond_policy.specs.Belongs.{Belongs}
use Rattle.fond_cert.specs.Spellings.{spelling}
use Rattle.fond_policy.specs.declared.cert.Cert.{Cert}
use Rattle.fond_policy.specs.Parts.{AreAllLean, AreLean, IsRight}
use Rattle.fond_policy.specs.declared.item.Item.{Item}
use Rattle.fond_regress.specs.Stable.{IsHopeless}

-- two forms have the same value on every cube
abbrev pub HaveSameValues : Form → Form → Type 0
HaveSameValues form other = (cube : List (Option Bool)) → value cube form ≡ value cube other

-- two entries set the same atom alike, under conditions of the same values
pub record IsSameEntry (entry other : Entry) : Type 0 where
  pub atom : entry.atom ≡ other.atom
  pub add : entry.add ≡ other.add
  pub cond : HaveSameValues entry.cond other.cond

-- two actions have the same name and fairness, preconditions of the same values, and the same outcomes, entry by entry
pub record IsSameAct (act other : Act) : Type 0 where
  pub named : act.ground ≡ other.ground
  pub unfair : act.unfair ≡ other.unfair
  pub pre : HaveSameValues act.pre other.pre
  pub outcomes : AllZip (AllZip IsSameEntry) act.outcomes other.outcomes

-- two ground tasks are the same but for the forms of their conditions
pub record IsSameTask (game other : Task) : Type 0 where
  pub atoms : game.atoms ≡ other.atoms
  pub acts : AllZip IsSameAct game.acts other.acts
  pub init : game.init ≡ other.init
  pub goal : HaveSameValues game.goal other.goal
  pub labels : game.labels ≡ other.labels

-- each certificate has the same text in both ground tasks; if it belongs to the first, is correct there or lean there, it is so in
-- the second; and if the initial state of the first is hopeless, so is that of the second
pub record AreAlike (game other : Task) : Type 0 where
  pub spelled : (cert : Cert) → spelling game cert ≡ spelling other cert
  pub belongs : (cert : Cert) → Belongs game cert → Belongs other cert
  pub right : (cert : Cert) → IsRight game cert → IsRight other cert
  pub lean : (layers : List (List CubeView)) (pairs : List Pair) (rules : List Rule) → AreLean game layers pairs rules → AreLean other layers pairs rules
  pub items_lean : (layers : List (List CubeView)) (pairs : List Pair) (rules : List Rule) (items : List Item) → AreAllLean game layers pairs rules items → AreAllLean other layers pairs rules items
  pub hopeless : IsHopeless game game.init → IsHopeless other other.init
