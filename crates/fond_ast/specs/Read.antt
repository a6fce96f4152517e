-- Declarations: one type for each name, choices that have members, and the number of variables.
use Rattle.std.specs.Prelude.{ℕ, ◌+◌, ◌==◌, ◌&&◌, nat_le, Bool, true, not, length, sum}
use Rattle.std.specs.List.{list_all}
use Rattle.fond_text.specs.declared.code.TheConstants.{LONGEST_TEXT}
use Rattle.fond_ast.specs.declared.names.TypedName.{TypedName}
use Rattle.fond_ast.specs.declared.files.Schema.{Schema}
use Rattle.fond_ast.specs.declared.syntax.Cond.{Cond}
use Rattle.fond_ast.specs.declared.syntax.Cond.TheOpen as condition
use Rattle.fond_ast.specs.declared.syntax.Cond.TheFolds.{fold-Cond}
use Rattle.fond_ast.specs.declared.syntax.Effect.{Effect}
use Rattle.fond_ast.specs.declared.syntax.Effect.TheOpen as effect
use Rattle.fond_ast.specs.declared.syntax.Effect.TheFolds.{fold-Effect}

-- whether a declared name has exactly one type
abbrev pub has_one_kind : TypedName → Bool
has_one_kind name = length name.kinds == 1

abbrev pub chooses_step : effect.Effect-F Bool → Bool
chooses_step effect.Nothing = true
chooses_step (effect.Add atom) = true
chooses_step (effect.Delete atom) = true
chooses_step (effect.And parts) = list_all (λ part. part) parts.items
chooses_step (effect.Forall names part) = part.value
chooses_step (effect.When condition part) = part.value
chooses_step (effect.OneOf parts) = not (length parts.items == 0) && list_all (λ part. part) parts.items

-- whether each choice in an effect has a member
abbrev pub has_choices : Effect → Bool
has_choices = fold-Effect Bool chooses_step

-- whether each choice in a schema has a member
abbrev pub is_schema_with_choices : Schema → Bool
is_schema_with_choices schema = has_choices schema.effect

abbrev pub condition_variables_step : condition.Cond-F ℕ → ℕ
condition_variables_step condition.Truth = 0
condition_variables_step (condition.Holds atom) = 0
condition_variables_step (condition.Equal term other) = 0
condition_variables_step (condition.And parts) = sum parts.items
condition_variables_step (condition.Or parts) = sum parts.items
condition_variables_step (condition.Not part) = part.value
condition_variables_step (condition.Imply part other) = part.value + other.value
condition_variables_step (condition.Forall names part) = length names + part.value
condition_variables_step (condition.Exists names part) = length names + part.value

-- the number of variables that the quantifiers of a condition declare
abbrev pub condition_variables : Cond → ℕ
condition_variables = fold-Cond ℕ condition_variables_step

abbrev pub effect_variables_step : effect.Effect-F ℕ → ℕ
effect_variables_step effect.Nothing = 0
effect_variables_step (effect.Add atom) = 0
effect_variables_step (effect.Delete atom) = 0
effect_variables_step (effect.And parts) = sum parts.items
effect_variables_step (effect.Forall names part) = length names + part.value
effect_variables_step (effect.When condition part) = condition_variables condition + part.value
effect_variables_step (effect.OneOf parts) = sum parts.items

-- the number of variables that the quantifiers of an effect declare, those of its conditions among them
abbrev pub effect_variables : Effect → ℕ
effect_variables = fold-Effect ℕ effect_variables_step

-- the number of variables that a schema declares: its parameters, and the variables of its quantifiers
abbrev pub schema_variables : Schema → ℕ
schema_variables schema = length schema.parameters + condition_variables schema.pre + effect_variables schema.effect

-- whether a schema declares no more variables than a text may have bytes
abbrev pub has_few_variables : Schema → Bool
has_few_variables schema = nat_le (schema_variables schema) LONGEST_TEXT
