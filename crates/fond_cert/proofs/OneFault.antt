-- A text has one fault at most, and none if it is the text of lines after which nothing is due.
use Rattle.std.proofs.Common.{◌≡◌, inl, inr, ℕ, ◌+◌, List, [], ◌∷◌, ◌++◌, Option, Some, None, length, codes, sym, ap, subst, ◌∙◌, arith, append_assoc, length-append}
use Rattle.std.proofs.lemmas.List.{append-nil}
use Rattle.fond_task.specs.declared.task.Task.{Task}
use Rattle.fond_cert.specs.declared.due.Document.{Document}
use Rattle.fond_cert.specs.declared.due.Document.TheVariants.{Certificate}
use Rattle.fond_cert.specs.declared.due.Due.{Due}
use Rattle.fond_cert.specs.declared.due.Due.TheVariants.{Header as HeaderDue, Nothing as NothingDue}
use Rattle.fond_cert.specs.Sections.{due_after}
use Rattle.fond_cert.specs.Faults.{Lead, IsRefusedLine, IsRefusedRest, IsRefusedAt, IsFaultAs, IsCertFault}
use Rattle.fond_form.specs.Feeds.{HasNoFeed}
use Rattle.fond_form.specs.Forms.{Line, line_text, IsProper}
use Rattle.fond_cert.specs.Spellings.{lines_text}
use Rattle.fond_cert.specs.Words.{Refused, line_refusal}
use Rattle.fond_form.proofs.FeedSplits.{line_no_feed, same_split, feed_inside}
use Rattle.fond_form.proofs.Apart.{same_line}
use Rattle.fond_cert.proofs.Leads.{nothing_allowed}

abbrev code_of : Option Refused → ℕ
code_of None = 0
code_of (Some refused) = refused.code

abbrev at_of : Option Refused → ℕ
at_of None = 0
at_of (Some refused) = refused.at

-- a text is refused by its rest if some line is allowed
refused_rest : (task : Task) (due next : Due) (line : Line) (rest : List ℕ) (code at : ℕ) → due_after due line.kind ≡ Some next → IsRefusedAt task due rest code at → IsRefusedRest task due rest code at
refused_rest task NothingDue next line rest code at allowed h = absurd (nothing_allowed line.kind next allowed)
refused_rest task due next line rest code at allowed h = h

-- a line that is allowed and has no refusal is not refused
line_stands : (task : Task) (due next : Due) (line : Line) (piece : List ℕ) (code at : ℕ) → IsProper line → line_refusal task line ≡ None → due_after due line.kind ≡ Some next → piece ≡ line_text line →
    ¬ IsRefusedLine task due piece code at
line_stands task due next line piece code at proper right allowed is (inl h) = h.0 line next proper allowed is
line_stands task due next line piece code at proper right allowed is (inr h) =
    let same : h.0 ≡ line = same_line h.0 line h.2 proper (sym h.4 ∙ is) in
    let wrong : line_refusal task line ≡ Some (record { code = code; at = at }) = ap (line_refusal task) (sym same) ∙ h.5 in
    absurd (cc)

rest_stands : (task : Task) (due next : Due) (line : Line) (rest more : List ℕ) (code at : ℕ) → IsProper line → line_refusal task line ≡ None → due_after due line.kind ≡ Some next → rest ≡ line_text line ++ (10 ∷ more) →
    ¬ IsRefusedRest task due rest code at
rest_stands task due next line rest more code at proper right allowed is (inl h) = feed_inside (line_text line) more (subst HasNoFeed is h.0)
rest_stands task due next line rest more code at proper right allowed is (inr h) =
    line_stands task due next line h.0 code at proper right allowed (same_split h.0 (line_text line) h.1 more h.3 (line_no_feed line proper) (sym h.2 ∙ is)).0 h.4

lines_apart : (line : Line) (lines : List Line) (rest : List ℕ) → lines_text (line ∷ lines) ++ rest ≡ line_text line ++ (10 ∷ (lines_text lines ++ rest))
lines_apart line lines rest = append_assoc (line_text line ++ codes "\n") (lines_text lines) rest ∙ append_assoc (line_text line) (codes "\n") (lines_text lines ++ rest)

-- a text that begins with a right line is not refused at its beginning
stands : (task : Task) (due end : Due) (line : Line) (lines : List Line) (text rest : List ℕ) (code at : ℕ) → Lead task due (line ∷ lines) end → text ≡ lines_text (line ∷ lines) ++ rest → ¬ IsRefusedAt task due text code at
stands task due end line lines text rest code at lead is h =
    rest_stands task due lead.2.0 line text (lines_text lines ++ rest) code at lead.0 lead.1 lead.2.1 (is ∙ lines_apart line lines rest)
    (refused_rest task due lead.2.0 line text code at lead.2.1 h)

-- one line is the first of two leads to equal texts, and the rests are equal
pub record SameFirst (task : Task) (due end other_end : Due) (line other : Line) (lines others : List Line) (rest other_rest : List ℕ) : Type 0 where
  pub same : line ≡ other
  pub next : Due
  pub lead : Lead task next lines end
  pub other_lead : Lead task next others other_end
  pub texts : lines_text lines ++ rest ≡ lines_text others ++ other_rest

pub same_first : (task : Task) (due end other_end : Due) (line other : Line) (lines others : List Line) (rest other_rest : List ℕ) → Lead task due (line ∷ lines) end → Lead task due (other ∷ others) other_end →
    lines_text (line ∷ lines) ++ rest ≡ lines_text (other ∷ others) ++ other_rest → SameFirst task due end other_end line other lines others rest other_rest
same_first task due end other_end line other lines others rest other_rest lead other_lead e =
    let split = same_split (line_text line) (line_text other) (lines_text lines ++ rest) (lines_text others ++ other_rest) (line_no_feed line lead.0) (line_no_feed other other_lead.0)
    (sym (lines_apart line lines rest) ∙ e ∙ lines_apart other others other_rest) in
    let same = same_line line other lead.0 other_lead.0 split.0 in
    let some : Some other_lead.2.0 ≡ Some lead.2.0 = sym other_lead.2.1 ∙ ap (λ (line : Line). due_after due line.kind) (sym same) ∙ lead.2.1 in
    let dues : other_lead.2.0 ≡ lead.2.0 = cc in
    record {
      same = same;
      next = lead.2.0;
      lead = lead.2.2;
      other_lead = subst (λ due. Lead task due others other_end) dues other_lead.2.2;
      texts = split.1;
    }

one_line : (task : Task) (due : Due) (piece : List ℕ) (code at other other_at : ℕ) → IsRefusedLine task due piece code at → IsRefusedLine task due piece other other_at → (code ≡ other) × (at ≡ other_at)
one_line task due piece code at other other_at (inl h) (inl k) = (h.1 ∙ sym k.1, h.2 ∙ sym k.2)
one_line task due piece code at other other_at (inl h) (inr k) = absurd (h.0 k.0 k.1 k.2 k.3 k.4)
one_line task due piece code at other other_at (inr h) (inl k) = absurd (k.0 h.0 h.1 h.2 h.3 h.4)
one_line task due piece code at other other_at (inr h) (inr k) =
    let same : h.0 ≡ k.0 = same_line h.0 k.0 h.2 k.2 (sym h.4 ∙ k.4) in
    let refusals : Some (record { code = code; at = at }) ≡ Some (record { code = other; at = other_at }) = sym h.5 ∙ ap (line_refusal task) same ∙ k.5 in
    (ap code_of refusals, ap at_of refusals)

one_rest : (task : Task) (due : Due) (rest : List ℕ) (code at other other_at : ℕ) → IsRefusedRest task due rest code at → IsRefusedRest task due rest other other_at → (code ≡ other) × (at ≡ other_at)
one_rest task due rest code at other other_at (inl h) (inl k) = (h.1 ∙ sym k.1, h.2 ∙ sym k.2)
one_rest task due rest code at other other_at (inl h) (inr k) = absurd (feed_inside k.0 k.1 (subst HasNoFeed k.2 h.0))
one_rest task due rest code at other other_at (inr h) (inl k) = absurd (feed_inside h.0 h.1 (subst HasNoFeed h.2 k.0))
one_rest task due rest code at other other_at (inr h) (inr k) =
    let piece : h.0 ≡ k.0 = (same_split h.0 k.0 h.1 k.1 h.3 k.3 (sym h.2 ∙ k.2)).0 in
    one_line task due k.0 code at other other_at (subst (λ piece. IsRefusedLine task due piece code at) piece h.4) k.4

one_refusal : (task : Task) (due : Due) (rest : List ℕ) (code at other other_at : ℕ) → IsRefusedAt task due rest code at → IsRefusedAt task due rest other other_at → (code ≡ other) × (at ≡ other_at)
one_refusal task NothingDue rest code at other other_at h k = (h.1 ∙ sym k.1, h.2 ∙ sym k.2)
one_refusal task due rest code at other other_at h k = one_rest task due rest code at other other_at h k

one_fault_by : (task : Task) (due end other_end : Due) (lines others : List Line) (rest other_rest : List ℕ) (code at other other_at : ℕ) → Lead task due lines end → Lead task due others other_end →
    lines_text lines ++ rest ≡ lines_text others ++ other_rest → IsRefusedAt task end rest code at → IsRefusedAt task other_end other_rest other other_at →
    (code ≡ other) × (length (lines_text lines) + at ≡ length (lines_text others) + other_at)
one_fault_by task due end other_end [] [] rest other_rest code at other other_at lead other_lead e h k =
    let first : IsRefusedAt task due rest code at = subst (λ due. IsRefusedAt task due rest code at) lead h in
    let second : IsRefusedAt task due rest other other_at = subst (λ due. IsRefusedAt task due rest other other_at) other_lead (subst (λ rest. IsRefusedAt task other_end rest other other_at) (sym e) k) in
    let same = one_refusal task due rest code at other other_at first second in
    (same.0, omega (arith, same.1))
one_fault_by task due end other_end [] (line ∷ others) rest other_rest code at other other_at lead other_lead e h k =
    absurd (stands task due other_end line others rest other_rest code at other_lead e (subst (λ due. IsRefusedAt task due rest code at) lead h))
one_fault_by task due end other_end (line ∷ lines) [] rest other_rest code at other other_at lead other_lead e h k =
    absurd (stands task due end line lines other_rest rest other other_at lead (sym e) (subst (λ due. IsRefusedAt task due other_rest other other_at) other_lead k))
one_fault_by task due end other_end (line ∷ lines) (next ∷ others) rest other_rest code at other other_at lead other_lead e h k =
    let first = same_first task due end other_end line next lines others rest other_rest lead other_lead e in
    let more = one_fault_by task first.next end other_end lines others rest other_rest code at other other_at first.lead first.other_lead first.texts h k in
    let long = ap (λ line. length (line_text line ++ codes "\n")) first.same in
    (more.0, omega (arith, more.1, long, length-append (line_text line ++ codes "\n") (lines_text lines), length-append (line_text next ++ codes "\n") (lines_text others)))

-- two faults of a text are the same
pub one_fault : (document : Document) (task : Task) (text : List ℕ) (code byte other other_byte : ℕ) → IsFaultAs document task text code byte → IsFaultAs document task text other other_byte → (code ≡ other) × (byte ≡ other_byte)
one_fault document task text code byte other other_byte h k =
    let same = one_fault_by task (HeaderDue document) h.due k.due h.lines k.lines h.rest k.rest code h.at other k.at h.lead k.lead (sym h.split ∙ k.split) h.refused k.refused in
    (same.0, h.byte_is ∙ same.1 ∙ sym k.byte_is)

no_fault_by : (task : Task) (due end : Due) (lines others : List Line) (rest : List ℕ) (code at : ℕ) → Lead task due lines NothingDue → Lead task due others end →
    lines_text lines ++ [] ≡ lines_text others ++ rest → ¬ IsRefusedAt task end rest code at
no_fault_by task due end [] [] rest code at lead other_lead e h =
    let last : IsRefusedAt task NothingDue rest code at = subst (λ due. IsRefusedAt task due rest code at) (other_lead ∙ sym lead) h in
    last.0 (sym e)
no_fault_by task due end [] (line ∷ others) rest code at lead other_lead e h =
    nothing_allowed line.kind other_lead.2.0 (subst (λ due. due_after due line.kind ≡ Some other_lead.2.0) (sym lead) other_lead.2.1)
no_fault_by task due end (line ∷ lines) [] rest code at lead other_lead e h =
    stands task due NothingDue line lines rest [] code at lead (sym e) (subst (λ due. IsRefusedAt task due rest code at) other_lead h)
no_fault_by task due end (line ∷ lines) (next ∷ others) rest code at lead other_lead e h =
    let first = same_first task due NothingDue end line next lines others [] rest lead other_lead e in
    no_fault_by task first.next end lines others rest code at first.lead first.other_lead first.texts h

-- the text of lines after which nothing is due has no fault as a document
pub no_fault_as : (document : Document) (task : Task) (lines : List Line) (code byte : ℕ) → Lead task (HeaderDue document) lines NothingDue → ¬ IsFaultAs document task (lines_text lines) code byte
no_fault_as document task lines code byte lead h = no_fault_by task (HeaderDue document) h.due lines h.lines h.rest code h.at lead h.lead (append-nil (lines_text lines) ∙ h.split) h.refused

-- the text of lines after which nothing is due has no fault as a certificate
pub no_fault : (task : Task) (lines : List Line) (code byte : ℕ) → Lead task (HeaderDue Certificate) lines NothingDue → ¬ IsCertFault task (lines_text lines) code byte
no_fault = no_fault_as Certificate
