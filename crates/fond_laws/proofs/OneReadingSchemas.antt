-- Two trees that are alike are read as at most one schema, up to addresses and capacities.
use Rattle.std.proofs.Common.{◌≡◌, List, [], ◌∷◌, codes, sym, ◌∙◌, subst}
use Rattle.std.specs.List.{AllZip}
use Rattle.fond_tree.specs.Alike.{IsAlike}
use Rattle.fond_tree.specs.declared.tree.Tree.{Tree}
use Rattle.fond_ast.specs.declared.files.Schema.{Schema}
use Rattle.fond_ast.specs.declared.names.TypedName.{TypedName}
use Rattle.fond_ast.specs.declared.syntax.Cond.{Cond, Truth}
use Rattle.fond_ast.specs.declared.syntax.Effect.{Effect, Nothing}
use Rattle.fond_tree.specs.Words.{is_name}
use Rattle.fond_reader.specs.Files.{values, AreParameters, IsPrecondition, IsKeyedEffect, IsSchemaOf, AreSchemasOf}
use Rattle.fond_laws.specs.Read.{IsSameCond, IsSameRead, IsSameWritten}
use Rattle.fond_laws.proofs.OneReadingAlike.{AreAlikeTrees, members_there}
use Rattle.fond_laws.proofs.OneReadingConditions.{one_condition}
use Rattle.fond_laws.proofs.OneReadingEffects.{one_effect}
use Rattle.fond_laws.proofs.OneReadingLeaves.{sorted_once}
use Rattle.fond_laws.proofs.OneReadingLists.{variable_list_once}
use Rattle.fond_laws.proofs.OneReadingMoved.{sorted_alike, variable_list_alike}
use Rattle.fond_laws.proofs.OneReadingSections.{values_alike}
use Rattle.fond_laws.proofs.SameLists.{zip-square}

-- trees that are alike are read as one list of parameters
parameters_of : (trees others : List Tree) (names next : List TypedName) → AreAlikeTrees trees others → AreParameters trees names → AreParameters others next → names ≡ next
parameters_of [] [] names next are is also = is ∙ sym also
parameters_of [] (u ∷ us) names next are is also = absurd are
parameters_of (t ∷ ts) [] names next are is also = absurd are
parameters_of (t ∷ ts) (u ∷ us) names next are is also = variable_list_once names next t is.0 (variable_list_alike next t u are.0 ∙ also.0)

-- trees that are alike are read as one precondition
pre_of : (trees others : List Tree) (pre next : Cond) → AreAlikeTrees trees others → IsPrecondition trees pre → IsPrecondition others next → IsSameCond pre next
pre_of [] [] pre next are is also = subst (λ c. IsSameCond c next) (sym is) (subst (λ c. IsSameCond Truth c) (sym also) tt)
pre_of [] (u ∷ us) pre next are is also = absurd are
pre_of (t ∷ ts) [] pre next are is also = absurd are
pre_of (t ∷ ts) (u ∷ us) pre next are is also = one_condition pre next t u are.0 is.0 also.0

-- trees that are alike are read as one effect of a schema
effect_of : (trees others : List Tree) (effect next : Effect) → AreAlikeTrees trees others → IsKeyedEffect trees effect → IsKeyedEffect others next → IsSameRead effect next
effect_of [] [] effect next are is also = subst (λ e. IsSameRead e next) (sym is) (subst (λ e. IsSameRead Nothing e) (sym also) tt)
effect_of [] (u ∷ us) effect next are is also = absurd are
effect_of (t ∷ ts) [] effect next are is also = absurd are
effect_of (t ∷ ts) (u ∷ us) effect next are is also = one_effect effect next t u are.0 is.0 also.0

-- trees that are alike are read as at most one schema
pub one_schema : (tree alike : Tree) (schema other : Schema) → IsAlike tree alike → IsSchemaOf tree schema → IsSchemaOf alike other → IsSameWritten schema other
one_schema tree alike schema other like is also =
    let members = members_there tree alike (is.head ∷ is.name ∷ is.pairs) (also.head ∷ also.name ∷ also.pairs) like is.whole also.whole in
    let pairs = members.1.1 in
    let moved = sorted_alike is_name other.place other.name is.name also.name members.1.0 ∙ also.named in
    let leaf = sorted_once is_name is_name schema.place other.place schema.name other.name is.name is.named moved in
    record {
      place = leaf.0;
      named = leaf.1;
      parameters = parameters_of (values (codes ":parameters") is.pairs) (values (codes ":parameters") also.pairs) schema.parameters other.parameters (values_alike (codes ":parameters") is.pairs also.pairs pairs) is.parameters also.parameters;
      pre = pre_of (values (codes ":precondition") is.pairs) (values (codes ":precondition") also.pairs) schema.pre other.pre (values_alike (codes ":precondition") is.pairs also.pairs pairs) is.pre also.pre;
      effect = effect_of (values (codes ":effect") is.pairs) (values (codes ":effect") also.pairs) schema.effect other.effect (values_alike (codes ":effect") is.pairs also.pairs pairs) is.effect also.effect;
    }

-- trees that are alike one by one are read as at most one list of schemas
pub schemas_of : (trees others : List Tree) (schemas next : List Schema) → AreAlikeTrees trees others → AreSchemasOf trees schemas → AreSchemasOf others next → AllZip IsSameWritten schemas next
schemas_of = zip-square IsAlike IsSchemaOf IsSchemaOf IsSameWritten one_schema
