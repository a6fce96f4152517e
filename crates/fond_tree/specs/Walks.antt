-- A walk over the members of a node: what the code expects, and the parts that are left.
use Rattle.std.specs.Prelude.{false, List, [], ◌∷◌, ◌++◌, Option, map, option_map, option_to_list}
use Rattle.fond_tree.specs.declared.tree.Tree.{Tree}
use Rattle.fond_tree.specs.declared.role.Role.{Role}
use Rattle.fond_tree.specs.Roles.{Expected, Members, Refused, shape}
use Rattle.fond_tree.specs.Parts.{Part, part, typed, pairs}
use Rattle.fond_tree.specs.declared.expected.Expected.{Expected as Known}
use Rattle.fond_tree.specs.declared.expected.Expected.TheVariants.{Members as KnownMembers, Refused as KnownRefused}
use Rattle.fond_tree.specs.declared.walk.Pending.{Pending}
use Rattle.fond_tree.specs.declared.walk.Pending.TheVariants.{Unread, Each, Typed, TypeNext, Key, Value}
use Rattle.fond_tree.specs.declared.walk.Walk.{Walk}

-- an expectation of the code, as the one that it stands for
abbrev pub seen : Known → Expected
seen (KnownMembers members) = Members (shape members.first.now members.rest)
seen (KnownRefused code) = Refused code

-- the parts of a typed list after a `-`
abbrev pub after_dash : Role → Role → List Tree → List Part
after_dash leaf type [] = []
after_dash leaf type (tree ∷ trees) = part type tree ∷ typed leaf type false trees

-- the part that a tree is, if a role is expected of it
abbrev pub part_if : Option Role → Tree → List Part
part_if role tree = option_to_list (option_map (λ r. part r tree) role)

-- the parts after a key whose value is of this role, if it is read
abbrev pub after_key : Option Role → List Tree → List Part
after_key role [] = []
after_key role (tree ∷ trees) = part_if role tree ++ pairs trees

-- the parts of the trees after the first members
abbrev pub rest_left : Pending → List Tree → List Part
rest_left Unread trees = []
rest_left (Each role) trees = map (part role) trees
rest_left (Typed leaf type untyped) trees = typed leaf type untyped trees
rest_left (TypeNext leaf type) trees = after_dash leaf type trees
rest_left Key trees = pairs trees
rest_left (Value role) trees = after_key role trees

-- the parts of the trees that are left, of which the first have these roles
abbrev pub roles_left : List Role → Pending → List Tree → List Part
roles_left [] left trees = rest_left left trees
roles_left (role ∷ roles) left [] = []
roles_left (role ∷ roles) left (tree ∷ trees) = part role tree ∷ roles_left roles left trees

-- the parts of the trees that are left
abbrev pub parts_left : Walk → List Tree → List Part
parts_left walk trees = roles_left walk.first.now walk.left trees
