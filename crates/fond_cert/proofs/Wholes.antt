-- Texts that were read line by line.
use Rattle.std.proofs.Common.{◌≡◌, ◌≢◌, inl, inr, ℕ, ◌+◌, ◌-◌, ◌≤◌, ◌<◌, ◌^◌, true, List, [], ◌∷◌, ◌++◌, All, Some, None, length, map, codes, refl, sym, ap, ◌∙◌, subst, arith, length-append}
use Rattle.std.specs.Prelude.{slice_get}
use Rattle.std.specs.List.{zip}
use Rattle.std.proofs.lemmas.List.{append-nil, length-map}
use Rattle.std.proofs.lemmas.List.Elements.{All-head, All-nil, All-map}
use Rattle.std.proofs.lemmas.Option.{get_or_from_slice_get, slice_get_within}
use Rattle.fond_task.specs.declared.task.Task.{Task}
use Rattle.fond_task.specs.Layers.{CubeView}
use Rattle.fond_task.specs.declared.rule.Pair.{Pair}
use Rattle.fond_task.specs.declared.rule.Rule.{Rule}
use Rattle.fond_policy.specs.declared.item.Item.{Item}
use Rattle.fond_cert.specs.declared.draft.Draft.{Draft}
use Rattle.fond_cert.specs.declared.code.TheConstants.{OUT_OF_FORM}
use Rattle.fond_cert.specs.declared.due.Document.{Document}
use Rattle.fond_cert.specs.declared.due.Document.TheVariants.{Certificate, Table, Best}
use Rattle.fond_cert.specs.declared.due.Due.{Due}
use Rattle.fond_cert.specs.declared.error.CertError.{CertError}
use Rattle.fond_cert.specs.declared.error.LineError.{LineError}
use Rattle.fond_cert.specs.declared.error.LineError.TheVariants.{Refused as RefusedLine, NoMemory}
use Rattle.fond_form.specs.declared.table.LineKind.{LineKind}
use Rattle.fond_form.specs.Forms.{form, HasForm, Line, line_text}
use Rattle.fond_policy.specs.declared.best.BestCert.{BestCert}
use Rattle.fond_policy.specs.declared.cert.Cert.{Cert}
use Rattle.fond_policy.specs.declared.cert.Cert.TheVariants.{Policy, Refusal, Covered}
use Rattle.fond_rules.specs.declared.table.TableRow.{TableRow}
use Rattle.fond_rules.specs.Tables.{BelongAsRows}
use Rattle.fond_policy.specs.Belongs.{Belongs, BelongAsLayers, BelongAsPairs, BelongAsRules, BelongAsItems, BelongsAsBest}
use Rattle.fond_cert.specs.Made.{IsRefusedBy}
use Rattle.fond_cert.specs.Drafts.{is_plain, IsEntryOf, AreEntriesOf, IsDraftOf, FitsDue}
use Rattle.fond_cert.specs.declared.due.Group.{Group}
use Rattle.fond_cert.specs.declared.due.Group.TheVariants as g
use Rattle.fond_cert.specs.declared.due.Due.TheVariants.{Header as HeaderDue, Nothing as NothingDue}
use Rattle.fond_cert.specs.Sections.{sections, due_after}
use Rattle.fond_cert.specs.Faults.{HasNoForm, Lead, IsRefusedLine, IsRefusedAt, IsFaultAs}
use Rattle.fond_form.specs.Feeds.{HasNoFeed}
use Rattle.fond_cert.specs.Items.{IsReadPair, IsReadItem, IsReadRanked}
use Rattle.fond_cert.specs.Progress.{IsReady, IsTaken, IsWhole, cert_of, best_of, IsPlaced}
use Rattle.fond_cert.specs.Refusals.{LineRefuses, CertRefuses}
use Rattle.fond_cert.specs.Spellings.{spelled_line, end_line, all_layers, entries, lines_then, header, no_parts, Content, parts_of, lines_text, spelling, table_spelling, best_spelling}
use Rattle.fond_policy.specs.Sizes.{HasSmallNumbers}
use Rattle.fond_cert.specs.Words.{Refused}
use Rattle.fond_cert.proofs.Leads.{lead_more, lines_append, text_more, nothing_allowed}
use Rattle.fond_cert.proofs.Refusals.{refusal_within}
use Rattle.fond_cert.specs.Smalls.{HasSmallBest}
use Rattle.fond_cert.specs.declared.due.Kind.TheVariants.{Best as OfBest}
use Rattle.fond_cert.proofs.Befores.{both_parts}
use Rattle.fond_cert.proofs.Zipped.{all_paired}
use Rattle.fond_cert.proofs.Steps.{step}
use Rattle.fond_form.proofs.Apart.{same_kind}

-- the lines before a rest, and the draft that they make
pub record IsReadTo (document : Document) (task : Task) (text rest : List ℕ) (due : Due) (draft : Draft) : Type 0 where
  pub lines : List Line
  pub own : List Line
  pub lead : Lead task (HeaderDue document) lines due
  pub split : text ≡ lines_text lines ++ rest
  pub same : lines_text lines ≡ lines_text own
  pub fits : FitsDue document task due draft own
  pub belongs : IsDraftOf task draft

pub nothing_of : (task : Task) (group : Group) → is_plain group ≡ true → AreEntriesOf task group (entries group no_parts)
nothing_of task g.Layer after = absurd (cc)
nothing_of task g.Far after = absurd (cc)
nothing_of task group after = (All-nil (IsEntryOf task group), λ is. omega arith)

pub no_layers_of : (task : Task) → BelongAsLayers task (all_layers no_parts)
no_layers_of task = record {
  few = omega arith;
  few_cubes = All-nil (λ (layer : List CubeView). length layer < 2 ^ 32);
  over = All-nil (λ (layer : List CubeView). All (λ (cube : CubeView). length cube ≡ length task.atoms) layer);
}

pub nothing_read : (document : Document) (task : Task) (text : List ℕ) (draft : Draft) → draft ≡ no_parts → IsReadTo document task text text (HeaderDue document) draft
nothing_read document task text draft e = record {
  lines = [];
  own = [];
  lead = refl;
  split = refl;
  same = refl;
  fits = (e, refl, refl);
  belongs = rw e (record { layers = no_layers_of task; far = no_layers_of task; parts = nothing_of task });
}

pub is_ready : (document : Document) (task : Task) (text rest : List ℕ) (due : Due) (draft : Draft) → IsReadTo document task text rest due draft → IsReady task due draft
is_ready document task text rest due draft h = (h.belongs, (document, h.own, h.fits))

pub rest_short : (document : Document) (task : Task) (text rest : List ℕ) (due : Due) (draft : Draft) → IsReadTo document task text rest due draft → length rest ≤ length text
rest_short document task text rest due draft h = omega (arith, ap length h.split, length-append (lines_text h.lines) rest)

pub one_more_line : (document : Document) (task : Task) (text rest piece further : List ℕ) (due next : Due) (before after : Draft) → IsReadTo document task text rest due before → rest ≡ piece ++ (codes "\n" ++ further) →
    IsTaken task due before piece next after → IsReadTo document task text further next after
one_more_line document task text rest piece further due next before after h e taken =
    let kind = taken.0 in
    let m = taken.2.0 in
    let made = taken.2.1 in
    let own = spelled_line task kind m in
    let s = step document task due next before after h.own h.fits h.belongs kind m taken.1 made.of taken.2.2 in
    let w : Line = record { kind = kind; values = made.values } in
    let same : line_text w ≡ line_text own = sym made.text_is ∙ made.same in record {
      lines = h.lines ++ (w ∷ []);
      own = h.own ++ (own ∷ []);
      lead = lead_more task h.lines (w ∷ []) (HeaderDue document) due next h.lead (made.right, made.clean, (next, taken.1, refl));
      split = h.split ∙ ap (λ t. lines_text h.lines ++ t) (e ∙ ap (λ t. t ++ (codes "\n" ++ further)) made.text_is) ∙ text_more h.lines w further;
      same =
          lines_append h.lines (w ∷ []) ∙ ap (λ t. t ++ lines_text (w ∷ [])) h.same
          ∙ ap (λ t. lines_text h.own ++ ((t ++ codes "\n") ++ [])) same ∙ sym (lines_append h.own (own ∷ []));
      fits = s.fits;
      belongs = s.draft;
    }

at_byte : (text front rest : List ℕ) (at : ℕ) → text ≡ front ++ rest → length text - length rest + at ≡ length front + at
at_byte text front rest at e = omega (arith, ap length e, length-append front rest)

fault_at : (document : Document) (task : Task) (text rest : List ℕ) (due : Due) (draft : Draft) (code at : ℕ) → IsReadTo document task text rest due draft → IsRefusedAt task due rest code at →
    IsFaultAs document task text code (length text - length rest + at)
fault_at document task text rest due draft code at h refused = record {
  lines = h.lines;
  due = due;
  lead = h.lead;
  rest = rest;
  split = h.split;
  at = at;
  refused = refused;
  byte_is = at_byte text (lines_text h.lines) rest at h.split;
}

line_within : (task : Task) (due : Due) (piece : List ℕ) (code at : ℕ) → IsRefusedLine task due piece code at → at ≤ length piece
line_within task due piece code at (inl h) = omega (arith, h.2)
line_within task due piece code at (inr h) = let within = refusal_within task h.0 (record { code = code; at = at }) h.5 in omega (arith, within, ap length h.4)

pub within_rest : (task : Task) (rest piece further : List ℕ) (due : Due) (error : LineError) → rest ≡ piece ++ (codes "\n" ++ further) →
    LineRefuses (λ (refused : Refused). IsRefusedLine task due piece refused.code refused.at) error → LineRefuses (λ (refused : Refused). refused.at ≤ length rest) error
within_rest task rest piece further due NoMemory e h = tt
within_rest task rest piece further due (RefusedLine code at) e h = omega (arith, line_within task due piece code at h, ap length e, length-append piece (codes "\n" ++ further))

some_bytes : (rest piece further : List ℕ) → rest ≡ piece ++ (codes "\n" ++ further) → rest ≢ []
some_bytes rest piece further e f = omega (arith, ap length e, ap length f, length-append piece (codes "\n" ++ further))

refused_line : (task : Task) (due : Due) (rest piece further : List ℕ) (code at : ℕ) → HasNoFeed piece → rest ≡ piece ++ (codes "\n" ++ further) → IsRefusedLine task due piece code at →
    IsRefusedAt task due rest code at
refused_line task NothingDue rest piece further code at whole e (inl h) = (some_bytes rest piece further e, h.1, h.2)
refused_line task NothingDue rest piece further code at whole e (inr h) = absurd (nothing_allowed h.0.kind h.1 h.3)
refused_line task due rest piece further code at whole e h = inr (piece, further, e, whole, h)

pub line_fault : (document : Document) (task : Task) (text rest piece further : List ℕ) (due : Due) (draft : Draft) (error : LineError) (result : CertError) → IsReadTo document task text rest due draft → HasNoFeed piece →
    rest ≡ piece ++ (codes "\n" ++ further) → LineRefuses (λ (refused : Refused). IsRefusedLine task due piece refused.code refused.at) error →
    IsPlaced (length text - length rest) error result → CertRefuses (IsFaultAs document task text) result
line_fault document task text rest piece further due draft (RefusedLine code at) result h whole e refused placed =
    rw placed (fault_at document task text rest due draft code at h (refused_line task due rest piece further code at whole e refused))
line_fault document task text rest piece further due draft NoMemory result h whole e refused placed = rw placed tt

no_rest : (task : Task) (due : Due) (rest : List ℕ) → HasNoFeed rest → ¬ ((due ≡ NothingDue) × (rest ≡ [])) → IsRefusedAt task due rest OUT_OF_FORM 0
no_rest task NothingDue rest none not_over = ((λ e. not_over (refl, e)), refl, refl)
no_rest task due rest none not_over = inl (none, refl, refl)

pub end_fault : (document : Document) (task : Task) (text rest : List ℕ) (due : Due) (draft : Draft) → IsReadTo document task text rest due draft → HasNoFeed rest → ¬ ((due ≡ NothingDue) × (rest ≡ [])) →
    IsFaultAs document task text OUT_OF_FORM (length text - length rest + 0)
end_fault document task text rest due draft h none not_over = fault_at document task text rest due draft OUT_OF_FORM 0 h (no_rest task due rest none not_over)

pub whole_read : (document : Document) (task : Task) (text rest : List ℕ) (due : Due) (draft : Draft) → IsReadTo document task text rest due draft → due ≡ NothingDue → rest ≡ [] → IsDraftOf task draft × IsWhole document task text draft
whole_read document task text rest due draft h e f =
    let fits : FitsDue document task NothingDue draft h.own = rw e at h.fits in
    let is : text ≡ lines_text h.own = h.split ∙ ap (λ t. lines_text h.lines ++ t) f ∙ append-nil (lines_text h.lines) ∙ h.same in
    (h.belongs, (fits.0, fits.1, is ∙ ap lines_text fits.2, fits.3))

-- a certificate whose parts belong to a task belongs to it, and its numbers are small
module _ (task : Task) where
  as_pairs : (pairs : List Pair) → All (IsReadPair task) pairs → BelongAsPairs task pairs
  as_pairs pairs h = record { over = λ k d lt. (h k d lt).0; there = λ k d lt. (h k d lt).1 }

  as_rules : (rules : List Rule) → AreEntriesOf task g.Rule rules → BelongAsRules task rules
  as_rules rules h = record {
    few = h.1 refl;
    belong = record { over = λ k d lt. (h.0 k d lt).0; there = λ k d lt. (h.0 k d lt).1 };
    targeted = λ k d lt. (h.0 k d lt).2;
  }

  item_at : (items : List Item) → All (IsReadItem task) items → (number : ℕ) (item : Item) → slice_get items number ≡ Some item → IsReadItem task item
  item_at items h number item e = subst (IsReadItem task) (get_or_from_slice_get items number item item e) (h number item (slice_get_within items number item e))

  as_items : (items : List Item) → AreEntriesOf task g.Item items → BelongAsItems task items
  as_items items h = record {
    few = h.1 refl;
    over = λ number item e. (item_at items h.0 number item e).0;
    numbered = λ k d lt. (h.0 k d lt).1;
  }

  belongs : (cert : Cert) → IsDraftOf task (parts_of (Content.certificate cert)) → Belongs task cert × HasSmallNumbers cert
  belongs (Policy layers pairs rules reach) own =
      let of_pairs = own.parts g.Pair refl in
      let of_rules = own.parts g.Rule refl in
      let of_reach = own.parts g.Reach refl in
      ((own.layers, as_pairs pairs of_pairs.0, as_rules rules of_rules), ((λ k d lt. (of_pairs.0 k d lt).2), (λ k d lt. (of_rules.0 k d lt).3), All-head (λ n. n < 2 ^ 64) reach [] of_reach.0))
  belongs (Refusal layers) own = (own.layers, tt)
  belongs (Covered layers pairs rules items start) own =
      let of_pairs = own.parts g.Pair refl in
      let of_rules = own.parts g.Rule refl in
      let of_items = own.parts g.Item refl in
      let of_start = own.parts g.Start refl in (
        (own.layers, as_pairs pairs of_pairs.0, as_rules rules of_rules, as_items items of_items),
        ((λ k d lt. (of_pairs.0 k d lt).2), (λ k d lt. (of_rules.0 k d lt).3), (λ k d lt. (of_items.0 k d lt).2), All-head (λ n. n < 2 ^ 32) start [] of_start.0),
      )

  cert_is : (cert : Cert) → cert_of (parts_of (Content.certificate cert)) ≡ cert
  cert_is (Policy layers pairs rules reach) = refl
  cert_is (Refusal layers) = refl
  cert_is (Covered layers pairs rules items start) = refl

  -- the certificate of a whole draft is read, and its numbers are small
  pub cert_read : (text : List ℕ) (draft : Draft) → IsDraftOf task draft → IsWhole Certificate task text draft → Belongs task (cert_of draft) × (text ≡ spelling task (cert_of draft)) × HasSmallNumbers (cert_of draft)
  cert_read text draft own (Content.certificate cert, parts, spelled, document) =
      let same : cert_of draft ≡ cert = ap cert_of parts ∙ cert_is cert in
      let of = belongs cert (subst (IsDraftOf task) parts own) in
      subst (λ (cert : Cert). Belongs task cert × (text ≡ spelling task cert) × HasSmallNumbers cert) (sym same) (of.0, spelled, of.1)
  cert_read text draft own (Content.table rows, parts, spelled, document) = absurd (cc)
  cert_read text draft own (Content.best cert, parts, spelled, document) = absurd (cc)

  as_table : (rows : List TableRow) → AreEntriesOf task g.Row rows → BelongAsRows task rows
  as_table rows h = record { over = λ k d lt. (h.0 k d lt).0; there = λ k d lt. (h.0 k d lt).1 }

  -- the rows of a whole draft are read
  pub table_read : (text : List ℕ) (draft : Draft) → IsDraftOf task draft → IsWhole Table task text draft → BelongAsRows task draft.rows × (text ≡ table_spelling task draft.rows)
  table_read text draft own (Content.certificate cert, parts, spelled, document) = absurd (cc)
  table_read text draft own (Content.best cert, parts, spelled, document) = absurd (cc)
  table_read text draft own (Content.table rows, parts, spelled, document) =
      let same : draft.rows ≡ rows = ap (λ (d : Draft). d.rows) parts in
      (as_table draft.rows (own.parts g.Row refl), spelled ∙ ap (table_spelling task) (sym same))

  abbrev best_parts : BestCert → Draft
  best_parts cert = parts_of (Content.best cert)

  -- the certificate of least rank of the parts of one, which belong to a task, belongs to it, and its numbers are small
  best_right : (cert : BestCert) → IsDraftOf task (best_parts cert) → BelongsAsBest task (best_of (best_parts cert)) × HasSmallBest (best_of (best_parts cert))
  best_right cert own =
      let entries = zip cert.items cert.ranks in
      let item = λ (entry : Item × ℕ). entry.0 in
      let rank = λ (entry : Item × ℕ). entry.1 in
      let ranked = own.parts g.Ranked refl in
      let of_rules = own.parts g.Rule refl in
      let of_start = own.parts g.Start refl in
      let items : All (IsReadItem task) (map item entries) = All-map (IsReadItem task) item entries (λ k d lt. (ranked.0 k d lt).0) in
      let long = length-map entries item in (
        record {
          as_layers = own.layers;
          as_rules = as_rules cert.rules of_rules;
          as_items = as_items (map item entries) (items, λ is. omega (arith, long, ranked.1 refl));
          counted = omega (arith, long, length-map entries rank);
          goals = λ number goal_item goal_rank there goal rank_there. (all_paired (IsReadRanked task) entries ranked.0 number goal_item goal_rank there rank_there).2 goal;
          as_lists = own.far;
        },
        ((λ k d lt. (of_rules.0 k d lt).3), (λ k d lt. (items k d lt).2), All-map (λ n. n < 2 ^ 64) rank entries (λ k d lt. (ranked.0 k d lt).1), All-head (λ n. n < 2 ^ 32) cert.start [] of_start.0),
      )

  best_parts_same : (cert : BestCert) → best_parts cert ≡ best_parts (best_of (best_parts cert))
  best_parts_same cert = λ i. record (best_parts cert) { ranked = both_parts (zip cert.items cert.ranks) i }

  -- the certificate of least rank of a whole draft is read, and its numbers are small
  pub best_read : (text : List ℕ) (draft : Draft) → IsDraftOf task draft → IsWhole Best task text draft → BelongsAsBest task (best_of draft) × (text ≡ best_spelling task (best_of draft)) × HasSmallBest (best_of draft)
  best_read text draft own (Content.certificate cert, parts, spelled, document) = absurd (cc)
  best_read text draft own (Content.table rows, parts, spelled, document) = absurd (cc)
  best_read text draft own (Content.best cert, parts, spelled, document) =
      let of = best_right cert (subst (IsDraftOf task) parts own) in
      let lines = λ (d : Draft). lines_text (header task OfBest ∷ lines_then task d (sections OfBest) (end_line task ∷ [])) in
      subst (λ (d : Draft). BelongsAsBest task (best_of d) × (text ≡ best_spelling task (best_of d)) × HasSmallBest (best_of d)) (sym parts) (of.0, spelled ∙ ap lines (best_parts_same cert), of.1)

-- a text of a kind that is not allowed has no form
pub not_allowed : (due : Due) (piece : List ℕ) (kind : LineKind) → HasForm (form kind) piece → due_after due kind ≡ None → HasNoForm due piece
not_allowed due piece kind has none line next proper allowed e =
    let same : line.kind ≡ kind = same_kind line kind proper (has.0, has.1, sym e ∙ has.2) in
    let clash : Some next ≡ None = sym allowed ∙ ap (due_after due) same ∙ none in
    absurd (cc)

-- refusals of a line of a kind
pub line_refused : (task : Task) (due next : Due) (piece : List ℕ) (kind : LineKind) (error : LineError) → due_after due kind ≡ Some next → LineRefuses (IsRefusedBy task kind piece) error →
    LineRefuses (λ (refused : Refused). IsRefusedLine task due piece refused.code refused.at) error
line_refused task due next piece kind (RefusedLine code at) e h = inr (record { kind = kind; values = h.values }, next, h.right, e, h.text_is, h.wrong)
line_refused task due next piece kind NoMemory e h = tt
