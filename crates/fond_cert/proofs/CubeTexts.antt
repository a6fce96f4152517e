-- Literals in order have the text of the cube that they make.
use Rattle.std.proofs.Common.{◌≡◌, ◌≢◌, ℕ, ◌+◌, ◌<◌, ◌≤◌, zero, suc, Bool, true, false, List, [], ◌∷◌, ◌++◌, Option, Some, None, length, get_or, set, replicate, map, codes, refl, sym, ap, ◌∙◌, arith, append_assoc}
use Rattle.std.specs.List.{filter_map, flat_map, enumerate_from, cons_option}
use Rattle.std.specs.Option.{option_map}
use Rattle.std.specs.Str.{bytes_eq}
use Rattle.std.proofs.lemmas.Bool.{and_parts}
use Rattle.std.proofs.lemmas.Bool.Decides.{nat_tests}
use Rattle.std.proofs.lemmas.Grind.{flat_map-append}
use Rattle.std.proofs.lemmas.List.{append-nil, length-set, length-replicate, get_or-set_other}
use Rattle.std.proofs.lemmas.List.Quantifiers.{position-Some}
use Rattle.std.proofs.lemmas.Slice.Eq.{bytes_eq-Decides}
use Rattle.fond_text.specs.declared.atom.Atom.{Atom}
use Rattle.fond_task.specs.declared.task.Labels.{Labels}
use Rattle.fond_task.specs.declared.task.Task.{Task}
use Rattle.fond_task.specs.Texts.{atom_text, name_at}
use Rattle.fond_task.specs.Numbers.{atom_number}
use Rattle.fond_state.specs.Cubes.{literal_at}
use Rattle.fond_form.specs.Lines.{group_text, spaced, WrittenLiteral, sign_text, literal_text, literals_text}
use Rattle.fond_cert.specs.declared.code.TheConstants.{OUT_OF_FORM}
use Rattle.fond_cert.specs.Words.{Refused, unknown, refused_or, literals_refusal, atom_numbers, is_increasing}
use Rattle.fond_cert.specs.Spellings.{atom_leaves, written_literal, written_cube}
use Rattle.fond_cert.specs.Checked.{with_literal, cube_of, rises, IsCubeAt, IsLiteralRefused, Means, IsValueRefused}
use Rattle.fond_form.specs.declared.table.Sort.TheVariants.{Literals}
use Rattle.fond_cert.specs.declared.error.LineError.{LineError}
use Rattle.fond_cert.specs.declared.error.LineError.TheVariants.{Refused as RefusedLine, NoMemory}
use Rattle.fond_cert.specs.Refusals.{LineRefuses}
use Rattle.fond_cert.proofs.Cubes.{rises_from, rises_at_first}

-- the literals of a cube, atom by atom
abbrev pub zipped : Labels → List Atom → List (Option Bool) → List WrittenLiteral
zipped labels [] cube = []
zipped labels (atom ∷ atoms) [] = zipped labels atoms []
zipped labels (atom ∷ atoms) (None ∷ cube) = zipped labels atoms cube
zipped labels (atom ∷ atoms) (Some sign ∷ cube) = written_literal labels atom sign ∷ zipped labels atoms cube

abbrev item_literal : Labels → List (Option Bool) → ℕ × Atom → Option WrittenLiteral
item_literal labels cube item = option_map (written_literal labels item.1) (literal_at cube item.0)

first_item : (labels : Labels) (atom : Atom) (atoms : List Atom) (c : Option Bool) (cube : List (Option Bool)) →
    cons_option (option_map (written_literal labels atom) c) (zipped labels atoms cube) ≡ zipped labels (atom ∷ atoms) (c ∷ cube)
first_item labels atom atoms None cube = refl
first_item labels atom atoms (Some sign) cube = refl

by_zip : (labels : Labels) (whole : List (Option Bool)) (k : ℕ) (atoms : List Atom) (cube : List (Option Bool)) → ((j : ℕ) → literal_at whole (k + j) ≡ literal_at cube j) →
    filter_map (item_literal labels whole) (enumerate_from k atoms) ≡ zipped labels atoms cube
by_zip labels whole k [] cube h = refl
by_zip labels whole k (atom ∷ atoms) [] h =
    let here : literal_at whole k ≡ None = let z : k + 0 ≡ k = omega arith in rw z at (h 0) in
    ap (λ c. cons_option (option_map (written_literal labels atom) c) (filter_map (item_literal labels whole) (enumerate_from (k + 1) atoms))) here
    ∙ by_zip labels whole (k + 1) atoms [] (λ j. let z : k + 1 + j ≡ k + suc j = omega arith in rw z (h (suc j)))
by_zip labels whole k (atom ∷ atoms) (c ∷ cube) h =
    let here : literal_at whole k ≡ c = let z : k + 0 ≡ k = omega arith in rw z at (h 0) in
    ap (λ d. cons_option (option_map (written_literal labels atom) d) (filter_map (item_literal labels whole) (enumerate_from (k + 1) atoms))) here
    ∙ ap (λ l. cons_option (option_map (written_literal labels atom) c) l) (by_zip labels whole (k + 1) atoms cube (λ j. let z : k + 1 + j ≡ k + suc j = omega arith in rw z (h (suc j))))
    ∙ first_item labels atom atoms c cube

pub cube_zipped : (task : Task) (cube : List (Option Bool)) → written_cube task cube ≡ zipped task.labels task.atoms cube
cube_zipped task cube = by_zip task.labels cube 0 task.atoms cube (λ j. let z : 0 + j ≡ j = omega arith in rw z refl)

-- a cube has no literal from this atom on
abbrev IsNoneFrom : ℕ → List (Option Bool) → Type 0
IsNoneFrom n cube = (j : ℕ) → n ≤ j → literal_at cube j ≡ None

none_zipped : (labels : Labels) (atoms : List Atom) (cube : List (Option Bool)) → IsNoneFrom 0 cube → zipped labels atoms cube ≡ []
none_zipped labels [] cube h = refl
none_zipped labels (atom ∷ atoms) [] h = none_zipped labels atoms [] (λ j lt. refl)
none_zipped labels (atom ∷ atoms) (None ∷ cube) h = none_zipped labels atoms cube (λ j lt. h (suc j) (omega arith))
none_zipped labels (atom ∷ atoms) (Some sign ∷ cube) h = let f = h 0 (omega arith) in absurd (cc)

set_last : (labels : Labels) (atoms : List Atom) (cube : List (Option Bool)) (n : ℕ) (sign : Bool) (d : Atom) → n < length cube → n < length atoms → IsNoneFrom n cube →
    zipped labels atoms (set cube n (Some sign)) ≡ zipped labels atoms cube ++ (written_literal labels (get_or atoms n d) sign ∷ [])
set_last labels [] cube n sign d lt lu h = absurd (omega (arith, lu))
set_last labels (atom ∷ atoms) [] n sign d lt lu h = absurd (omega (arith, lt))
set_last labels (atom ∷ atoms) (Some s ∷ cube) zero sign d lt lu h = let f = h 0 (omega arith) in absurd (cc)
set_last labels (atom ∷ atoms) (None ∷ cube) zero sign d lt lu h =
    let none = none_zipped labels atoms cube (λ j le. h (suc j) (omega arith)) in
    rw none refl
set_last labels (atom ∷ atoms) (None ∷ cube) (suc n) sign d lt lu h =
    set_last labels atoms cube n sign d (omega (arith, lt)) (omega (arith, lu)) (λ j le. h (suc j) (omega (arith, le)))
set_last labels (atom ∷ atoms) (Some s ∷ cube) (suc n) sign d lt lu h =
    ap (λ l. written_literal labels atom s ∷ l) (set_last labels atoms cube n sign d (omega (arith, lt)) (omega (arith, lu)) (λ j le. h (suc j) (omega (arith, le))))

none_after : (cube : List (Option Bool)) (n k : ℕ) (x : Option Bool) → IsNoneFrom n cube → n ≤ k → IsNoneFrom (k + 1) (set cube k x)
none_after cube n k x h le j lu =
    let differ : j ≢ k = λ e. omega (arith, e, lu) in
    get_or-set_other cube k j x None differ ∙ h j (omega (arith, le, lu))

-- the first atom that may follow the last one
abbrev next_from : Option ℕ → ℕ
next_from None = 0
next_from (Some last) = last + 1

follows : (last : Option ℕ) (n : ℕ) → rises last n ≡ true → next_from last ≤ n
follows None n h = omega arith
follows (Some last) n h = grind (arith, nat_tests)

pub spaced_names : (labels : Labels) (objects : List ℕ) → flat_map (λ object. codes " " ++ name_at labels.objects object) objects ≡ spaced (map (name_at labels.objects) objects)
spaced_names labels [] = refl
spaced_names labels (object ∷ objects) = ap (λ t. (32 ∷ name_at labels.objects object) ++ t) (spaced_names labels objects)

-- the text of an atom is that of its leaves
pub leaves_text : (labels : Labels) (atom : Atom) → atom_text labels atom ≡ group_text (atom_leaves labels atom)
leaves_text labels atom =
    append_assoc (40 ∷ name_at labels.predicates atom.predicate) (flat_map (λ object. codes " " ++ name_at labels.objects object) atom.objects) (codes ")")
    ∙ ap (λ t. 40 ∷ (name_at labels.predicates atom.predicate ++ (t ++ codes ")"))) (spaced_names labels atom.objects)

literal_last : (a : List WrittenLiteral) (wl lit : WrittenLiteral) (lits : List WrittenLiteral) → literal_text wl ≡ literal_text lit →
    literals_text (a ++ (wl ∷ [])) ++ literals_text lits ≡ literals_text a ++ literals_text (lit ∷ lits)
literal_last a wl lit lits same =
    ap (λ t. t ++ literals_text lits) (flat_map-append literal_text a (wl ∷ []) ∙ ap (λ t. literals_text a ++ t) (append-nil (literal_text wl)))
    ∙ append_assoc (literals_text a) (literal_text wl) (literals_text lits)
    ∙ ap (λ t. literals_text a ++ (t ++ literals_text lits)) same

pub no_atom : Atom
no_atom = record { predicate = 0; objects = [] }

-- the atom of this number has this text
atom_there : (task : Task) (text : List ℕ) (n : ℕ) → atom_number task text ≡ Some n → (n < length task.atoms) × (group_text (atom_leaves task.labels (get_or task.atoms n no_atom)) ≡ text)
atom_there task text n e =
    let found = position-Some (λ (a : Atom). bytes_eq (atom_text task.labels a) text) task.atoms n no_atom e in
    (found.0, sym (leaves_text task.labels (get_or task.atoms n no_atom)) ∙ (bytes_eq-Decides (atom_text task.labels (get_or task.atoms n no_atom)) text).0 found.1)

abbrev Grows : Task → List WrittenLiteral → Type 0
Grows task lits =
    (cube : List (Option Bool)) (last : Option ℕ) (at : ℕ) → length cube ≡ length task.atoms → IsNoneFrom (next_from last) cube →
    literals_refusal task at lits ≡ None → rises_from last (atom_numbers task lits) ≡ true →
    literals_text (zipped task.labels task.atoms (cube_of task cube lits)) ≡ literals_text (zipped task.labels task.atoms cube) ++ literals_text lits

by_number : (task : Task) (lit : WrittenLiteral) (lits : List WrittenLiteral) → Grows task lits → (cube : List (Option Bool)) (last : Option ℕ) (p q : ℕ) → length cube ≡ length task.atoms →
    IsNoneFrom (next_from last) cube → (number : Option ℕ) → atom_number task (group_text lit.leaves) ≡ number →
    refused_or (unknown 2 number) p (literals_refusal task q lits) ≡ None → rises_from last (cons_option number (atom_numbers task lits)) ≡ true →
    literals_text (zipped task.labels task.atoms (cube_of task (with_literal cube number lit.sign) lits)) ≡ literals_text (zipped task.labels task.atoms cube) ++ literals_text (lit ∷ lits)
by_number task lit lits grows cube last p q long none None e right up = absurd (cc)
by_number task lit lits grows cube last p q long none (Some n) e right up =
    let two = and_parts (rises last n) (rises_from (Some n) (atom_numbers task lits)) up in
    let there = atom_there task (group_text lit.leaves) n e in
    let wl = written_literal task.labels (get_or task.atoms n no_atom) lit.sign in
    let below : n < length cube = omega (arith, there.0, long) in
    let le = follows last n two.0 in
    grows (set cube n (Some lit.sign)) (Some n) q (length-set cube n (Some lit.sign) ∙ long) (none_after cube (next_from last) n (Some lit.sign) none le) right two.1
    ∙ ap (λ z. literals_text z ++ literals_text lits) (set_last task.labels task.atoms cube n lit.sign no_atom below there.0 (λ j lt. none j (omega (arith, le, lt))))
    ∙ literal_last (zipped task.labels task.atoms cube) wl lit lits (ap (λ t. 32 ∷ (sign_text lit.sign ++ t)) there.1)

grow : (task : Task) (lits : List WrittenLiteral) → Grows task lits
grow task [] cube last at long none right up = sym (append-nil (literals_text (zipped task.labels task.atoms cube)))
grow task (lit ∷ lits) cube last at long none right up = by_number task lit lits (grow task lits) cube last _ _ long none (atom_number task (group_text lit.leaves)) refl right up

none_replicate : (n j : ℕ) → literal_at (replicate n None) j ≡ None
none_replicate zero j = refl
none_replicate (suc n) zero = refl
none_replicate (suc n) (suc j) = none_replicate n j

with_long : (cube : List (Option Bool)) (number : Option ℕ) (sign : Bool) → length (with_literal cube number sign) ≡ length cube
with_long cube None sign = refl
with_long cube (Some number) sign = length-set cube number (Some sign)

cube_long : (task : Task) (cube : List (Option Bool)) (literals : List WrittenLiteral) → length (cube_of task cube literals) ≡ length cube
cube_long task cube [] = refl
cube_long task cube (literal ∷ literals) =
    cube_long task (with_literal cube (atom_number task (group_text literal.leaves)) literal.sign) literals ∙ with_long cube (atom_number task (group_text literal.leaves)) literal.sign

module _ (task : Task) (at : ℕ) (text : List ℕ) (cube : List (Option Bool)) (ordered : Bool) (h : IsCubeAt task at text cube ordered) where
  pub cube_means : ordered ≡ true → Means task at Literals text cube
  cube_means e =
      let up : is_increasing (atom_numbers task h.literals) ≡ true = sym h.order_is ∙ e in
      let empty = replicate (length task.atoms) None in
      let none : IsNoneFrom 0 empty = λ j le. none_replicate (length task.atoms) j in
      let grown = grow task h.literals empty None at (length-replicate (length task.atoms) None) none h.clean (sym (rises_at_first (atom_numbers task h.literals)) ∙ up) in
      let start : literals_text (zipped task.labels task.atoms empty) ≡ [] = ap literals_text (none_zipped task.labels task.atoms empty none) in
      record {
        value = h.literals;
        right = h.proper;
        text_is = h.text_is;
        clean = h.clean;
        ordered = up;
        of = ap length h.cube_is ∙ cube_long task empty h.literals ∙ length-replicate (length task.atoms) None;
        same =
            h.text_is ∙ ap (λ t. t ++ literals_text h.literals) (sym start) ∙ sym grown
            ∙ ap (λ c. literals_text (zipped task.labels task.atoms c)) (sym h.cube_is) ∙ ap literals_text (sym (cube_zipped task cube));
      }

  pub order_refused : ordered ≡ false → IsValueRefused task at Literals text (record { code = OUT_OF_FORM; at = 0 })
  order_refused e =
      let down : is_increasing (atom_numbers task h.literals) ≡ false = sym h.order_is ∙ e in record {
        value = h.literals;
        right = h.proper;
        text_is = h.text_is;
        wrong = rw (h.clean, down) refl;
      }

literal_refused : (task : Task) (at : ℕ) (text : List ℕ) (refused : Refused) → IsLiteralRefused task at text refused → IsValueRefused task at Literals text refused
literal_refused task at text refused h = record { value = h.literals; right = h.proper; text_is = h.text_is; wrong = rw h.wrong refl }

pub literal_error : (task : Task) (at : ℕ) (text : List ℕ) (error : LineError) → LineRefuses (IsLiteralRefused task at text) error → LineRefuses (IsValueRefused task at Literals text) error
literal_error task at text (RefusedLine code byte) h = literal_refused task at text (record { code = code; at = byte }) h
literal_error task at text NoMemory h = tt
