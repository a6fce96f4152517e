-- The kinds of lines, one by one.
use Rattle.std.proofs.Common.{◌≡◌, ◌≢◌, ℕ, Bool, true, false, List, ◌∷◌, Option, Some, None, All, arith, sym, subst}
use Rattle.std.specs.Prelude.{MatchOption}
use Rattle.std.proofs.lemmas.List.Elements.{All-get_or, All-cons}
use Rattle.fond_form.specs.Forms.{form, kinds, HasForm, Line, line_text, IsProper}
use Rattle.fond_form.specs.declared.table.LineKind.{LineKind}
use Rattle.fond_form.specs.declared.table.LineKind.TheVariants as k

-- what holds of all kinds in the list holds of each
each_kind : (P : LineKind → Type 0) → All P kinds → (kind : LineKind) → P kind
each_kind P h k.Cube = All-get_or P kinds 0 k.End (omega arith) h
each_kind P h k.FairRule = All-get_or P kinds 1 k.End (omega arith) h
each_kind P h k.RuleItem = All-get_or P kinds 2 k.End (omega arith) h
each_kind P h k.RankedItem = All-get_or P kinds 3 k.End (omega arith) h
each_kind P h k.UnfairRule = All-get_or P kinds 4 k.End (omega arith) h
each_kind P h k.Row = All-get_or P kinds 5 k.End (omega arith) h
each_kind P h k.Pair = All-get_or P kinds 6 k.End (omega arith) h
each_kind P h k.GoalItem = All-get_or P kinds 7 k.End (omega arith) h
each_kind P h k.Layer = All-get_or P kinds 8 k.End (omega arith) h
each_kind P h k.Far = All-get_or P kinds 9 k.End (omega arith) h
each_kind P h k.Reach = All-get_or P kinds 10 k.End (omega arith) h
each_kind P h k.Start = All-get_or P kinds 11 k.End (omega arith) h
each_kind P h k.PolicyHeader = All-get_or P kinds 12 k.End (omega arith) h
each_kind P h k.RefusalHeader = All-get_or P kinds 13 k.End (omega arith) h
each_kind P h k.CoverHeader = All-get_or P kinds 14 k.End (omega arith) h
each_kind P h k.TableHeader = All-get_or P kinds 15 k.End (omega arith) h
each_kind P h k.BestHeader = All-get_or P kinds 16 k.End (omega arith) h
each_kind P h k.End = All-get_or P kinds 17 k.End (omega arith) h

-- a text that has the form of no kind is no line
pub no_line : (text : List ℕ) → All (λ (kind : LineKind). ¬ HasForm (form kind) text) kinds → (line : Line) → IsProper line → text ≢ line_text line
no_line text none line right e = each_kind (λ (kind : LineKind). ¬ HasForm (form kind) text) none line.kind (line.values, right, e)

-- none of the kinds of a list, or the one that was found
abbrev Among : List ℕ → List LineKind → Option LineKind → Type 0
Among text list found = MatchOption found (All (λ (kind : LineKind). ¬ HasForm (form kind) text) list) (λ kind. HasForm (form kind) text)

pub kind_or_no_line : (text : List ℕ) (list : List LineKind) → list ≡ kinds → (found : Option LineKind) → Among text list found →
    MatchOption found ((line : Line) → IsProper line → text ≢ line_text line) (λ kind. HasForm (form kind) text)
kind_or_no_line text list all None h = no_line text (subst (All (λ (kind : LineKind). ¬ HasForm (form kind) text)) all h)
kind_or_no_line text list all (Some kind) h = h

pub none_by_first : (text : List ℕ) (all : List LineKind) (kind : LineKind) (list : List LineKind) (r : Bool) (found : Option LineKind) → all ≡ kind ∷ list →
    ((r ≡ true → HasForm (form kind) text) × (HasForm (form kind) text → r ≡ true)) → r ≡ false → Among text list found → Among text all found
none_by_first text all kind list r None e tells wrong h =
    subst (All (λ (kind : LineKind). ¬ HasForm (form kind) text)) (sym e) (All-cons (λ (kind : LineKind). ¬ HasForm (form kind) text) kind list (λ has. let yes = tells.1 has in absurd (cc)) h)
none_by_first text all kind list r (Some one) e tells wrong h = h
