-- Lines that lead from what is due before them to what is due after them.
use Rattle.std.proofs.Common.{◌≡◌, ℕ, ◌<◌, ◌^◌, nat_lt, true, List, [], ◌∷◌, ◌++◌, Some, codes, refl, sym, ap, ◌∙◌, arith, append_assoc}
use Rattle.std.proofs.lemmas.Bool.Decides.{nat_tests}
use Rattle.std.proofs.lemmas.Grind.{flat_map-append}
use Rattle.std.proofs.lemmas.List.{append-nil}
use Rattle.fond_task.specs.declared.task.Task.{Task}
use Rattle.fond_form.specs.declared.table.LineKind.{LineKind}
use Rattle.fond_form.specs.Forms.{Line, line_text}
use Rattle.fond_cert.specs.declared.due.Due.{Due}
use Rattle.fond_cert.specs.declared.due.Due.TheVariants.{Nothing as NothingDue}
use Rattle.fond_cert.specs.Faults.{Lead}
use Rattle.fond_cert.specs.Sections.{if_few, due_after}
use Rattle.fond_cert.specs.Spellings.{lines_text}

-- lines that lead to where others lead on
pub lead_more : (task : Task) (lines more : List Line) (due between end : Due) → Lead task due lines between → Lead task between more end → Lead task due (lines ++ more) end
lead_more task [] more due between end h k = rw (sym h) k
lead_more task (line ∷ lines) more due between end h k = (h.0, h.1, (h.2.0, h.2.1, lead_more task lines more h.2.0 between end h.2.2 k))

pub lines_append : (lines more : List Line) → lines_text (lines ++ more) ≡ lines_text lines ++ lines_text more
lines_append lines more = flat_map-append (λ (line : Line). line_text line ++ codes "\n") lines more

-- the text of lines with one more, followed by a rest
pub text_more : (lines : List Line) (line : Line) (further : List ℕ) → lines_text lines ++ (line_text line ++ (codes "\n" ++ further)) ≡ lines_text (lines ++ (line ∷ [])) ++ further
text_more lines line further =
    ap (λ t. lines_text lines ++ t) (sym (append_assoc (line_text line) (codes "\n") further) ∙ ap (λ t. t ++ further) (sym (append-nil (line_text line ++ codes "\n"))))
    ∙ sym (append_assoc (lines_text lines) (lines_text (line ∷ [])) further)
    ∙ ap (λ t. t ++ further) (sym (lines_append lines (line ∷ [])))

-- no line is allowed after the last one
pub nothing_allowed : (kind : LineKind) (next : Due) → ¬ due_after NothingDue kind ≡ Some next
nothing_allowed kind next e = absurd (cc)

-- what is due is not refused while there are fewer than 2^32
pub few : (count : ℕ) (due : Due) → count < 2 ^ 32 → if_few count due ≡ Some due
few count due below = let test : nat_lt count (2 ^ 32) ≡ true = grind (arith, nat_tests, below) in rw test refl
