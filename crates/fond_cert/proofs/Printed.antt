-- What is printed is how certificates are written.
use Rattle.std.proofs.Common.{◌≡◌, ℕ, Bool, List, [], ◌∷◌, ◌++◌, Option, Some, None, map, codes, refl, sym, ap, ◌∙◌, append_assoc}
use Rattle.std.specs.Prelude.{slice_get}
use Rattle.std.specs.List.{filter_map, flat_map, enumerate_from, cons_option}
use Rattle.std.specs.Option.{option_map, option_map_or}
use Rattle.std.proofs.lemmas.Grind.{flat_map-append}
use Rattle.fond_text.specs.declared.atom.Atom.{Atom}
use Rattle.fond_task.specs.declared.task.Act.{Act}
use Rattle.fond_task.specs.declared.task.Labels.{Labels}
use Rattle.fond_task.specs.declared.task.Task.{Task}
use Rattle.fond_task.specs.Texts.{action_text}
use Rattle.fond_state.specs.Cubes.{literal_at}
use Rattle.fond_task.specs.Layers.{CubeView}
use Rattle.fond_policy.specs.declared.best.BestCert.{BestCert}
use Rattle.fond_policy.specs.declared.cert.Cert.{Cert}
use Rattle.fond_cert.specs.declared.draft.Draft.{Draft}
use Rattle.fond_cert.specs.declared.due.Group.{Group}
use Rattle.fond_cert.specs.declared.due.Group.TheVariants as g
use Rattle.fond_cert.specs.declared.due.Kind.TheVariants.{Best as OfBest}
use Rattle.fond_cert.specs.declared.due.Section.{Section}
use Rattle.fond_cert.specs.declared.due.Section.TheVariants.{One as OneOf, Any, Few, Blocks}
use Rattle.fond_cert.specs.Sections.{sections}
use Rattle.fond_form.specs.Lines.{group_text, WrittenLiteral, sign_text, literals_text}
use Rattle.fond_form.specs.Forms.{Line}
use Rattle.fond_cert.specs.Printed.{atom_literal_text, fed, layer_text, far_text}
use Rattle.fond_cert.specs.Spellings.{action_leaves, act_leaves, written_literal, written_cube, layer_lines, far_lines, end_line, Entry, entry_line, all_layers, all_far, entries, lines_then, header, Content, parts_of, kind_of, lines_text, spelling, best_spelling}
use Rattle.fond_cert.proofs.Acts.{leaves_text as action_leaves_text}
use Rattle.fond_cert.proofs.CubeTexts.{leaves_text}
use Rattle.fond_cert.proofs.Leads.{lines_append}

one_item : (labels : Labels) (atom : Atom) (literal : Option Bool) (rest : List WrittenLiteral) →
    atom_literal_text labels atom literal ++ literals_text rest ≡ literals_text (cons_option (option_map (written_literal labels atom) literal) rest)
one_item labels atom None rest = refl
one_item labels atom (Some sign) rest =
    ap (λ t. (codes " " ++ (sign_text sign ++ t)) ++ literals_text rest) (leaves_text labels atom)

cube_items_text : (labels : Labels) (cube : CubeView) (items : List (ℕ × Atom)) →
    flat_map (λ (item : ℕ × Atom). atom_literal_text labels item.1 (literal_at cube item.0)) items
    ≡ literals_text (filter_map (λ (item : ℕ × Atom). option_map (written_literal labels item.1) (literal_at cube item.0)) items)
cube_items_text labels cube [] = refl
cube_items_text labels cube (item ∷ items) =
    ap (λ t. atom_literal_text labels item.1 (literal_at cube item.0) ++ t) (cube_items_text labels cube items)
    ∙ one_item labels item.1 (literal_at cube item.0) (filter_map (λ (item : ℕ × Atom). option_map (written_literal labels item.1) (literal_at cube item.0)) items)

-- the text of a cube's literals, atom by atom
abbrev pub cube_text : Task → CubeView → List ℕ
cube_text task cube = flat_map (λ item. atom_literal_text task.labels item.1 (literal_at cube item.0)) (enumerate_from 0 task.atoms)

pub cube_text_is : (task : Task) (cube : CubeView) → cube_text task cube ≡ literals_text (written_cube task cube)
cube_text_is task cube = cube_items_text task.labels cube (enumerate_from 0 task.atoms)

pub act_text_is : (task : Task) (n : ℕ) (act : Act) → slice_get task.acts n ≡ Some act → action_text task.labels act.ground ≡ group_text (act_leaves task n)
act_text_is task n act e = action_leaves_text task.labels act.ground ∙ ap (λ o. group_text (option_map_or (λ (a : Act). action_leaves task.labels a.ground) o [])) (sym e)

-- lines of which each item makes several, item by item
pub several_lines : {X : Type 0} (f : X → List Line) (xs : List X) → lines_text (flat_map f xs) ≡ flat_map (λ (x : X). lines_text (f x)) xs
several_lines f [] = refl
several_lines f (x ∷ xs) = flat_map-append fed (f x) (flat_map f xs) ∙ ap (λ t. lines_text (f x) ++ t) (several_lines f xs)

-- the text of an entry: that of its line
abbrev entry_text : Task → (group : Group) → Entry group → List ℕ
entry_text task group entry = fed (entry_line task group entry)

-- the texts of items, one by one, and a further text
abbrev texts_then : {X : Type 0} → (X → List ℕ) → List X → List ℕ → List ℕ
texts_then f [] further = further
texts_then f (x ∷ xs) further = f x ++ texts_then f xs further

flat_then : {X : Type 0} (f : X → List ℕ) (xs : List X) (further : List ℕ) → flat_map f xs ++ further ≡ texts_then f xs further
flat_then f [] further = refl
flat_then f (x ∷ xs) further = append_assoc (f x) (flat_map f xs) further ∙ ap (λ t. f x ++ t) (flat_then f xs further)

entries_are : (task : Task) (group : Group) (xs : List (Entry group)) (further : List ℕ) (lines : List Line) → further ≡ lines_text lines → texts_then (entry_text task group) xs further ≡ lines_text (map (entry_line task group) xs ++ lines)
entries_are task group [] further lines same = same
entries_are task group (x ∷ xs) further lines same = ap (λ t. entry_text task group x ++ t) (entries_are task group xs further lines same)

-- the text of sections as it is printed, and the last line
abbrev sections_text : Task → Draft → List Section → List ℕ
sections_text task draft [] = codes "end\n"
sections_text task draft (OneOf group ∷ later) = texts_then (entry_text task group) (entries group draft) (sections_text task draft later)
sections_text task draft (Any group ∷ later) = flat_map (entry_text task group) (entries group draft) ++ sections_text task draft later
sections_text task draft (Few group ∷ later) = flat_map (entry_text task group) (entries group draft) ++ sections_text task draft later
sections_text task draft (Blocks g.Far second ∷ later) = flat_map (far_text task) (all_far draft) ++ sections_text task draft later
sections_text task draft (Blocks first second ∷ later) = flat_map (layer_text task) (all_layers draft) ++ sections_text task draft later

sections_are : (task : Task) (draft : Draft) (sections : List Section) → sections_text task draft sections ≡ lines_text (lines_then task draft sections (end_line task ∷ []))
sections_are task draft [] = refl
sections_are task draft (OneOf group ∷ later) = entries_are task group (entries group draft) _ _ (sections_are task draft later)
sections_are task draft (Any group ∷ later) = flat_then (entry_text task group) (entries group draft) _ ∙ entries_are task group (entries group draft) _ _ (sections_are task draft later)
sections_are task draft (Few group ∷ later) = flat_then (entry_text task group) (entries group draft) _ ∙ entries_are task group (entries group draft) _ _ (sections_are task draft later)
sections_are task draft (Blocks g.Far second ∷ later) =
    let lists = sym (several_lines (far_lines task) (all_far draft)) in
    (λ i. lists i ++ sections_are task draft later i) ∙ sym (lines_append (flat_map (far_lines task) (all_far draft)) (lines_then task draft later (end_line task ∷ [])))
sections_are task draft (Blocks first second ∷ later) =
    let layers = sym (several_lines (layer_lines task) (all_layers draft)) in
    (λ i. layers i ++ sections_are task draft later i) ∙ sym (lines_append (flat_map (layer_lines task) (all_layers draft)) (lines_then task draft later (end_line task ∷ [])))

-- what is printed of a certificate is its text
pub spelling_is : (task : Task) (cert same : Cert) → cert ≡ same →
    fed (header task (kind_of (Content.certificate same))) ++ sections_text task (parts_of (Content.certificate same)) (sections (kind_of (Content.certificate same))) ≡ spelling task cert
spelling_is task cert same is =
    let kind = kind_of (Content.certificate same) in
    ap (λ t. fed (header task kind) ++ t) (sections_are task (parts_of (Content.certificate same)) (sections kind)) ∙ ap (spelling task) (sym is)

-- what is printed of a certificate of least rank is its text
pub best_spelling_is : (task : Task) (cert : BestCert) → fed (header task OfBest) ++ sections_text task (parts_of (Content.best cert)) (sections OfBest) ≡ best_spelling task cert
best_spelling_is task cert = ap (λ t. fed (header task OfBest) ++ t) (sections_are task (parts_of (Content.best cert)) (sections OfBest))
