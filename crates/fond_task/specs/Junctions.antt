-- Conjunctions and disjunctions, and the values of their parts.
use Rattle.std.specs.Prelude.{List, fold}
use Rattle.fond_task.specs.declared.form.Junction.{Junction}
use Rattle.fond_task.specs.declared.form.Junction.TheVariants.{All, Any}
use Rattle.fond_task.specs.declared.form.Kleene.{Kleene}
use Rattle.fond_task.specs.declared.form.Kleene.TheVariants.{No, Yes}
use Rattle.fond_task.specs.Values.{greater, lesser}

-- the dual of a junction, under which its negation joins the negated parts (De Morgan)
abbrev pub dual : Junction → Junction
dual All = Any
dual Any = All

-- the value of a junction without parts
abbrev pub neutral : Junction → Kleene
neutral All = Yes
neutral Any = No

-- the value of a junction of two parts: a conjunction is the lesser, and a disjunction the greater
abbrev pub joined : Junction → Kleene → Kleene → Kleene
joined All = lesser
joined Any = greater

-- the value of a junction whose parts have these values, where No < Unknown < Yes: their least for a conjunction, and Yes if there are
-- none; their greatest for a disjunction, and No if there are none
abbrev pub joined_all : Junction → List Kleene → Kleene
joined_all junction values = fold (joined junction) (neutral junction) values
