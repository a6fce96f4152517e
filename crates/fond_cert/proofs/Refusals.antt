-- The bytes of refusals, and errors that are handed on.
use Rattle.std.proofs.Common.{Result, Ok, Err, IfErr, IsErrAnd, subst, sym, ◌≡◌, ℕ, ◌+◌, ◌≤◌, Bool, true, false, List, [], ◌∷◌, ◌++◌, Option, Some, None, length, ap, arith, length-append}
use Rattle.fond_task.specs.declared.task.Task.{Task}
use Rattle.fond_form.specs.declared.table.Sort.{Sort}
use Rattle.fond_form.specs.declared.table.Sort.TheVariants.{Nothing, Action, Short, Long, Target, Shorts, Targets, Literals}
use Rattle.fond_form.specs.Lines.{spaced, group_text, sign_text, WrittenLiteral, literal_text, literals_text}
use Rattle.fond_form.specs.Forms.{Field, text_of, form, Value, value_text, Values, fields_text, Line, line_text}
use Rattle.fond_form.proofs.Nexts.{sign_long}
use Rattle.fond_cert.specs.Words.{Refused, or_else, refused_or, words_refusal, literals_refusal, value_refusal, values_refusal, are_ordered, refusal_or_order, line_refusal}

abbrev at_of : Option Refused → ℕ
at_of None = 0
at_of (Some refused) = refused.at

-- a refusal at a byte below a bound, or one that follows and is
code_within : (code : Option ℕ) (at bound : ℕ) (more : Option Refused) (refused : Refused) → at ≤ bound → (more ≡ Some refused → refused.at ≤ bound) → refused_or code at more ≡ Some refused → refused.at ≤ bound
code_within (Some code) at bound more refused le further e = let same : at ≡ refused.at = ap at_of e in omega (arith, same, le)
code_within None at bound more refused le further e = further e

or_within : (first more : Option Refused) (bound : ℕ) (refused : Refused) → (first ≡ Some refused → refused.at ≤ bound) → (more ≡ Some refused → refused.at ≤ bound) → or_else first more ≡ Some refused → refused.at ≤ bound
or_within (Some found) more bound refused here further e = here e
or_within None more bound refused here further e = further e

no_more : (refused : Refused) (bound : ℕ) → None ≡ Some refused → refused.at ≤ bound
no_more refused bound e = absurd (cc)

words_within : (code : List ℕ → Option ℕ) (at : ℕ) (words : List (List ℕ)) (refused : Refused) → words_refusal code at words ≡ Some refused → refused.at ≤ at + length (spaced words)
words_within code at [] refused e = absurd (cc)
words_within code at (word ∷ words) refused e =
    let long = length-append word (spaced words) in
    code_within (code word) (at + 1) (at + length (spaced (word ∷ words))) (words_refusal code (at + 1 + length word) words) refused (omega (arith, long))
    (λ f. let h = words_within code (at + 1 + length word) words refused f in omega (arith, h, long)) e

literal_long : (literal : WrittenLiteral) → length (literal_text literal) ≡ 2 + length (group_text literal.leaves)
literal_long literal = omega (arith, sign_long literal.sign, length-append (sign_text literal.sign) (group_text literal.leaves))

literals_within : (task : Task) (at : ℕ) (literals : List WrittenLiteral) (refused : Refused) → literals_refusal task at literals ≡ Some refused → refused.at ≤ at + length (literals_text literals)
literals_within task at [] refused e = absurd (cc)
literals_within task at (literal ∷ literals) refused e =
    let long = length-append (literal_text literal) (literals_text literals) in
    let own = literal_long literal in
    code_within _ (at + 2) (at + length (literals_text (literal ∷ literals))) (literals_refusal task (at + length (literal_text literal)) literals) refused (omega (arith, long, own))
    (λ f. let h = literals_within task (at + length (literal_text literal)) literals refused f in omega (arith, h, long)) e

value_within : (task : Task) (at : ℕ) (sort : Sort) (value : Value sort) (refused : Refused) → value_refusal task at sort value ≡ Some refused → refused.at ≤ at + length (value_text sort value)
value_within task at Nothing value refused e = absurd (cc)
value_within task at Action value refused e = code_within _ at (at + length (group_text value)) None refused (omega arith) (no_more refused (at + length (group_text value))) e
value_within task at Short value refused e = code_within _ at (at + length value) None refused (omega arith) (no_more refused (at + length value)) e
value_within task at Long value refused e = code_within _ at (at + length value) None refused (omega arith) (no_more refused (at + length value)) e
value_within task at Target value refused e = code_within _ at (at + length value) None refused (omega arith) (no_more refused (at + length value)) e
value_within task at Shorts value refused e = words_within _ at value refused e
value_within task at Targets value refused e = words_within _ at value refused e
value_within task at Literals value refused e = literals_within task at value refused e

values_within : (task : Task) (at : ℕ) (fields : List Field) (values : Values fields) (refused : Refused) → values_refusal task at fields values ≡ Some refused → refused.at ≤ at + length (fields_text fields values)
values_within task at [] values refused e = absurd (cc)
values_within task at (field ∷ fields) values refused e =
    let start = at + length (text_of field.0) in
    let own = value_text field.1 values.0 in
    let rest = fields_text fields values.1 in
    let long = length-append (text_of field.0) (own ++ rest) in
    let own_long = length-append own rest in
    or_within (value_refusal task start field.1 values.0) (values_refusal task (start + length own) fields values.1) (at + length (fields_text (field ∷ fields) values)) refused
    (λ f. let h = value_within task start field.1 values.0 refused f in omega (arith, h, long, own_long))
    (λ f. let h = values_within task (start + length own) fields values.1 refused f in omega (arith, h, long, own_long)) e

order_within : (first : Option Refused) (ordered : Bool) (refused : Refused) (bound : ℕ) → (first ≡ Some refused → refused.at ≤ bound) → refusal_or_order first ordered ≡ Some refused → refused.at ≤ bound
order_within (Some found) ordered refused bound h e = h e
order_within None true refused bound h e = absurd (cc)
order_within None false refused bound h e = let same : 0 ≡ refused.at = ap at_of e in omega (arith, same)

-- the byte of a refusal is within its line
pub refusal_within : (task : Task) (line : Line) (refused : Refused) → line_refusal task line ≡ Some refused → refused.at ≤ length (line_text line)
refusal_within task line refused e =
    order_within (values_refusal task 0 (form line.kind) line.values) (are_ordered task (form line.kind) line.values) refused (length (line_text line))
    (λ first. let h = values_within task 0 (form line.kind) line.values refused first in omega (arith, h)) e

-- an error that a call hands on has what it had
pub handed_on : {T E : Type 0} (r : Result T E) (error : E) (P : E → Type 0) → IsErrAnd r (λ e. e ≡ error) → P error → IfErr r P
handed_on (Ok x) error P same holds = tt
handed_on (Err e) error P same holds = subst P (sym same) holds
