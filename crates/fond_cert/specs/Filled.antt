-- The values of a line, as they are read one after the other, and what a line makes of them.
use Rattle.std.specs.Prelude.{◌≡◌, ℕ, List, [], ◌∷◌, ◌++◌, Some, None}
use Rattle.fond_task.specs.declared.rule.Pair.{Pair}
use Rattle.fond_task.specs.declared.rule.Rule.{Rule}
use Rattle.fond_task.specs.declared.rule.Targets.TheVariants.{One, All}
use Rattle.fond_policy.specs.declared.item.Item.{Item}
use Rattle.fond_policy.specs.declared.item.Way.TheVariants.{Goal as ToGoal, Rule as ByRule}
use Rattle.fond_rules.specs.declared.table.TableRow.{TableRow}
use Rattle.fond_cert.specs.declared.values.LineValues.{LineValues}
use Rattle.fond_cert.specs.Spellings.{Meaning, Meanings}
use Rattle.fond_form.specs.declared.table.LineKind.{LineKind}
use Rattle.fond_form.specs.declared.table.LineKind.TheVariants as k
use Rattle.fond_form.specs.declared.table.Sort.{Sort}
use Rattle.fond_form.specs.declared.table.Sort.TheVariants.{Nothing, Action, Short, Long, Target, Shorts, Targets, Literals}
use Rattle.fond_form.specs.Forms.{Field, form}

-- no values
abbrev pub no_values : LineValues
no_values = record { act = 0; numbers = []; targets = []; items = []; cube = None }

-- values with the meaning of one more field
abbrev pub with_meaning : LineValues → (sort : Sort) → Meaning sort → LineValues
with_meaning values Nothing meaning = values
with_meaning values Action act = record values { act = act }
with_meaning values Short number = record values { numbers = values.numbers ++ (number ∷ []) }
with_meaning values Long number = record values { numbers = values.numbers ++ (number ∷ []) }
with_meaning values Target target = record values { targets = values.targets ++ (target ∷ []) }
with_meaning values Shorts numbers = record values { items = numbers }
with_meaning values Targets targets = record values { targets = targets }
with_meaning values Literals cube = record values { cube = Some cube }

-- values with the meanings of further fields
abbrev pub with_meanings : LineValues → (fields : List Field) → Meanings fields → LineValues
with_meanings values [] meanings = values
with_meanings values (field ∷ fields) meanings = with_meanings (with_meaning values field.1 meanings.0) fields meanings.1

-- these are the values of a line of a kind with these meanings
abbrev pub Hold : (kind : LineKind) → LineValues → Meanings (form kind) → Type 0
Hold kind values meanings = values ≡ with_meanings no_values (form kind) meanings

-- the pair that these meanings give
abbrev pub pair_of : Meanings (form k.Pair) → Pair
pair_of (act, (outcome, (layer, (cube, (cond, end))))) = record { cond = cond; act = act; outcome = outcome; layer = layer; cube = cube }

-- the rule of a fair action that these meanings give
abbrev pub fair_of : Meanings (form k.FairRule) → Rule
fair_of (act, (outcome, (target, (cond, end)))) = record { cond = cond; act = act; targets = One outcome target }

-- the rule of an unfair action that these meanings give
abbrev pub unfair_of : Meanings (form k.UnfairRule) → Rule
unfair_of (act, (targets, (cond, end))) = record { cond = cond; act = act; targets = All targets }

-- the item of goals that these meanings give
abbrev pub goal_item_of : Meanings (form k.GoalItem) → Item
goal_item_of (cube, end) = record { cube = cube; way = ToGoal }

-- the item with a rule that these meanings give
abbrev pub rule_item_of : Meanings (form k.RuleItem) → Item
rule_item_of (rule, (numbers, (cube, end))) = record { cube = cube; way = ByRule rule numbers }

-- the item with its rank that these meanings give
abbrev pub ranked_item_of : Meanings (form k.RankedItem) → Item × ℕ
ranked_item_of (rule, (rank, (numbers, (cube, end)))) = (record { cube = cube; way = ByRule rule numbers }, rank)

-- the row that these meanings give
abbrev pub row_of : Meanings (form k.Row) → TableRow
row_of (act, (cond, end)) = record { cond = cond; act = act }
