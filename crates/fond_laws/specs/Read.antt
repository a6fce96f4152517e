-- What is read from trees, up to addresses and capacities: the same names, places and numbers, part by part.
use Rattle.std.specs.Prelude.{◌≡◌, ⊤}
use Rattle.std.specs.List.{AllZip}
use Rattle.fond_ast.specs.declared.files.Domain.{Domain}
use Rattle.fond_ast.specs.declared.files.Problem.{Problem}
use Rattle.fond_ast.specs.declared.files.Schema.{Schema}
use Rattle.fond_ast.specs.declared.syntax.Cond.{Cond, Truth, Holds, Equal, And', Or', Not', Imply', Forall', Exists', Row_of-Cond, end_of-Cond, more_of-Cond}
use Rattle.fond_ast.specs.declared.syntax.Effect.{Effect, Row_of-Effect, end_of-Effect, more_of-Effect}
use Rattle.fond_ast.specs.declared.syntax.Effect as effect
use Rattle.fond_names.specs.Names.{Declarations}

-- two conditions have the same form, with the same atoms, terms and variables, and parts that are alike in the same order
abbrev mutual
  pub IsSameCond : Cond → Cond → Type 0
  IsSameCond Truth Truth = ⊤
  IsSameCond (Holds atom) (Holds read) = atom ≡ read
  IsSameCond (Equal one two) (Equal first second) = (one ≡ first) × (two ≡ second)
  IsSameCond (And' shape parts) (And' form others) = AreSameConds parts others
  IsSameCond (Or' shape parts) (Or' form others) = AreSameConds parts others
  IsSameCond (Not' shape part) (Not' form other) = IsSameCond part other
  IsSameCond (Imply' shape part next over) (Imply' form other after more) = IsSameCond part other × IsSameCond over more
  IsSameCond (Forall' names shape part) (Forall' others form other) = (names ≡ others) × IsSameCond part other
  IsSameCond (Exists' names shape part) (Exists' others form other) = (names ≡ others) × IsSameCond part other
  IsSameCond condition other = ⊥

  pub AreSameConds : {m n : _} → Row_of-Cond m → Row_of-Cond n → Type 0
  AreSameConds end_of-Cond end_of-Cond = ⊤
  AreSameConds (more_of-Cond part rest) (more_of-Cond other others) = IsSameCond part other × AreSameConds rest others
  AreSameConds parts others = ⊥

-- two effects have the same form, with the same atoms and variables, and conditions and parts that are alike in the same order
abbrev mutual
  pub IsSameRead : Effect → Effect → Type 0
  IsSameRead effect.Nothing effect.Nothing = ⊤
  IsSameRead (effect.Add atom) (effect.Add read) = atom ≡ read
  IsSameRead (effect.Delete atom) (effect.Delete read) = atom ≡ read
  IsSameRead (effect.And' shape parts) (effect.And' form others) = AreSameReads parts others
  IsSameRead (effect.Forall' names shape part) (effect.Forall' others form other) = (names ≡ others) × IsSameRead part other
  IsSameRead (effect.When' condition shape part) (effect.When' over form other) = IsSameCond condition over × IsSameRead part other
  IsSameRead (effect.OneOf' shape parts) (effect.OneOf' form others) = AreSameReads parts others
  IsSameRead part other = ⊥

  pub AreSameReads : {m n : _} → Row_of-Effect m → Row_of-Effect n → Type 0
  AreSameReads end_of-Effect end_of-Effect = ⊤
  AreSameReads (more_of-Effect part rest) (more_of-Effect other others) = IsSameRead part other × AreSameReads rest others
  AreSameReads parts others = ⊥

-- two written schemas are the same
pub record IsSameWritten (schema other : Schema) : Type 0 where
  pub place : schema.place ≡ other.place
  pub named : schema.name ≡ other.name
  pub parameters : schema.parameters ≡ other.parameters
  pub pre : IsSameCond schema.pre other.pre
  pub effect : IsSameRead schema.effect other.effect

-- two domains are the same
pub record IsSameDomain (domain other : Domain) : Type 0 where
  pub place : domain.place ≡ other.place
  pub kinds : domain.kinds ≡ other.kinds
  pub constants : domain.constants ≡ other.constants
  pub predicates : domain.predicates ≡ other.predicates
  pub schemas : AllZip IsSameWritten domain.schemas other.schemas

-- two problems are the same
pub record IsSameProblem (problem other : Problem) : Type 0 where
  pub place : problem.place ≡ other.place
  pub objects : problem.objects ≡ other.objects
  pub init : problem.init ≡ other.init
  pub goal : IsSameCond problem.goal other.goal

-- three files are the same
pub record AreSameFiles (files others : Declarations) : Type 0 where
  pub domain : IsSameDomain files.domain others.domain
  pub problem : IsSameProblem files.problem others.problem
  pub side : files.side ≡ others.side
