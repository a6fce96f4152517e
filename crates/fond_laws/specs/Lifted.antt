-- Tasks with the same names, numbers, places and objects of ranges, part by part; addresses and capacities may differ.
use Rattle.std.specs.Prelude.{◌≡◌, ⊤}
use Rattle.std.specs.List.{AllZip}
use Rattle.fond_ast.specs.Ranges.{objects_of}
use Rattle.fond_ast.specs.declared.form.LCond.{LCond, Truth, Holds, Equal, And', Or', Not', Imply', Forall', Exists', Row_of-LCond, end_of-LCond, more_of-LCond}
use Rattle.fond_ast.specs.declared.form.LEffect.{LEffect, Row_of-LEffect, end_of-LEffect, more_of-LEffect}
use Rattle.fond_ast.specs.declared.form.LEffect as effect
use Rattle.fond_ast.specs.declared.task.LPredicate.{LPredicate}
use Rattle.fond_ast.specs.declared.task.LSchema.{LSchema}
use Rattle.fond_ast.specs.declared.task.LiftedTask.{LiftedTask}

-- two conditions have the same form, with the same atoms, terms and objects of ranges, and parts that are alike in the same order
abbrev mutual
  pub IsSameCondition : LCond → LCond → Type 0
  IsSameCondition Truth Truth = ⊤
  IsSameCondition (Holds atom) (Holds number) = atom ≡ number
  IsSameCondition (Equal one two) (Equal first second) = (one ≡ first) × (two ≡ second)
  IsSameCondition (And' shape parts) (And' form others) = AreSameConditions parts others
  IsSameCondition (Or' shape parts) (Or' form others) = AreSameConditions parts others
  IsSameCondition (Not' shape part) (Not' form other) = IsSameCondition part other
  IsSameCondition (Imply' shape part next over) (Imply' form other after more) = IsSameCondition part other × IsSameCondition over more
  IsSameCondition (Forall' ranges shape part) (Forall' others form other) = (objects_of ranges ≡ objects_of others) × IsSameCondition part other
  IsSameCondition (Exists' ranges shape part) (Exists' others form other) = (objects_of ranges ≡ objects_of others) × IsSameCondition part other
  IsSameCondition condition other = ⊥

  pub AreSameConditions : {m n : _} → Row_of-LCond m → Row_of-LCond n → Type 0
  AreSameConditions end_of-LCond end_of-LCond = ⊤
  AreSameConditions (more_of-LCond part rest) (more_of-LCond other others) = IsSameCondition part other × AreSameConditions rest others
  AreSameConditions parts others = ⊥

-- two effects have the same form, with the same atoms and objects of ranges, and conditions and parts that are alike in the same order
abbrev mutual
  pub IsSameEffect : LEffect → LEffect → Type 0
  IsSameEffect effect.Nothing effect.Nothing = ⊤
  IsSameEffect (effect.Add atom) (effect.Add number) = atom ≡ number
  IsSameEffect (effect.Delete atom) (effect.Delete number) = atom ≡ number
  IsSameEffect (effect.And' shape parts) (effect.And' form others) = AreSameEffects parts others
  IsSameEffect (effect.Forall' ranges shape part) (effect.Forall' others form other) = (objects_of ranges ≡ objects_of others) × IsSameEffect part other
  IsSameEffect (effect.When' condition shape part) (effect.When' over form other) = IsSameCondition condition over × IsSameEffect part other
  IsSameEffect (effect.OneOf' shape parts) (effect.OneOf' form others) = AreSameEffects parts others
  IsSameEffect part other = ⊥

  pub AreSameEffects : {m n : _} → Row_of-LEffect m → Row_of-LEffect n → Type 0
  AreSameEffects end_of-LEffect end_of-LEffect = ⊤
  AreSameEffects (more_of-LEffect part rest) (more_of-LEffect other others) = IsSameEffect part other × AreSameEffects rest others
  AreSameEffects parts others = ⊥

-- two predicates have the same name, objects of ranges and fluency
pub record IsSamePredicate (predicate other : LPredicate) : Type 0 where
  pub named : predicate.name ≡ other.name
  pub ranges : objects_of predicate.ranges ≡ objects_of other.ranges
  pub fluent : predicate.fluent ≡ other.fluent

-- two schemas have the same place, name, objects of ranges, fairness and patterns, and a precondition and an effect that are
-- alike
pub record IsSameSchema (schema other : LSchema) : Type 0 where
  pub place : schema.place ≡ other.place
  pub named : schema.name ≡ other.name
  pub ranges : objects_of schema.ranges ≡ objects_of other.ranges
  pub pre : IsSameCondition schema.pre other.pre
  pub effect : IsSameEffect schema.effect other.effect
  pub unfair : schema.unfair ≡ other.unfair
  pub patterns : schema.patterns ≡ other.patterns

-- two tasks are the same part by part
pub record IsSameLifted (task other : LiftedTask) : Type 0 where
  pub place : task.place ≡ other.place
  pub objects : task.objects ≡ other.objects
  pub predicates : AllZip IsSamePredicate task.predicates other.predicates
  pub schemas : AllZip IsSameSchema task.schemas other.schemas
  pub init : task.init ≡ other.init
  pub goal : IsSameCondition task.goal other.goal
