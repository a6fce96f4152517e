-- Literals from left to right, with what they make.
use Rattle.std.proofs.Common.{◌≡◌, ℕ, ◌+◌, ◌-◌, ◌≤◌, ◌<◌, ◌&&◌, Bool, true, false, List, [], ◌∷◌, ◌++◌, Option, Some, None, All, length, replicate, slice_set, refl, sym, ap, ◌∙◌, arith, length-append}
use Rattle.std.specs.List.{flat_map, cons_option}
use Rattle.std.specs.Str.{bytes_eq}
use Rattle.std.proofs.lemmas.List.{length-replicate, length-set}
use Rattle.std.proofs.lemmas.List.Quantifiers.{position-Some}
use Rattle.fond_text.specs.declared.atom.Atom.{Atom}
use Rattle.fond_task.specs.declared.task.Task.{Task}
use Rattle.fond_task.specs.Texts.{atom_text}
use Rattle.fond_task.specs.Numbers.{atom_number}
use Rattle.fond_form.specs.Lines.{IsGroup, group_text, WrittenLiteral, sign_text, literal_text}
use Rattle.fond_form.specs.Parts.{IsGroupText, HasNoLiteral, IsLiteralsText}
use Rattle.fond_cert.specs.declared.code.TheConstants.{UNKNOWN_ATOM}
use Rattle.fond_cert.specs.Words.{unknown, refused_or, literals_refusal, atom_numbers, is_increasing}
use Rattle.fond_cert.specs.Checked.{with_literal, cube_of, IsCubeAt, IsLiteralRefused, rises}
use Rattle.fond_form.proofs.Nexts.{NextLiteral, next_literal, no_literal_left, sign_long}

-- whether numbers rise, the first of them above the one before
abbrev pub rises_from : Option ℕ → List ℕ → Bool
rises_from last [] = true
rises_from last (number ∷ numbers) = rises last number && rises_from (Some number) numbers

rises_behind : (number : ℕ) (numbers : List ℕ) → is_increasing (number ∷ numbers) ≡ rises_from (Some number) numbers
rises_behind number [] = refl
rises_behind number (next ∷ numbers) = ap (λ t. rises (Some number) next && t) (rises_behind next numbers)

pub rises_at_first : (numbers : List ℕ) → is_increasing numbers ≡ rises_from None numbers
rises_at_first [] = refl
rises_at_first (number ∷ numbers) = rises_behind number numbers

and_assoc : (a b c : Bool) → (a && (b && c)) ≡ ((a && b) && c)
and_assoc true b c = refl
and_assoc false b c = refl

and_true : (a : Bool) → (a && true) ≡ a
and_true true = refl
and_true false = refl

-- the literals that are left, after these were read
pub record LeftLiterals (task : Task) (at : ℕ) (text rest : List ℕ) (cube : List (Option Bool)) (last : Option ℕ) (is_ordered : Bool) : Type 0 where
  pub whole : List WrittenLiteral
  pub left : List WrittenLiteral
  pub whole_right : All (λ literal. IsGroup literal.leaves) whole
  pub left_right : All (λ literal. IsGroup literal.leaves) left
  pub whole_is : text ≡ flat_map literal_text whole
  pub left_is : rest ≡ flat_map literal_text left
  pub short : length rest ≤ length text
  pub long : length cube ≡ length task.atoms
  pub refusal : literals_refusal task at whole ≡ literals_refusal task (at + (length text - length rest)) left
  pub cube_is : cube_of task (replicate (length task.atoms) None) whole ≡ cube_of task cube left
  pub order_is : is_increasing (atom_numbers task whole) ≡ (is_ordered && rises_from last (atom_numbers task left))

pub all_left : (task : Task) (at : ℕ) (text : List ℕ) → IsLiteralsText text → (cube : List (Option Bool)) → cube ≡ replicate (length task.atoms) None → LeftLiterals task at text text cube None true
all_left task at text h cube new = record {
  whole = h.0;
  left = h.0;
  whole_right = h.1;
  left_right = h.1;
  whole_is = h.2;
  left_is = h.2;
  short = omega arith;
  long = ap length new ∙ length-replicate (length task.atoms) None;
  refusal = let none : at + (length text - length text) ≡ at = omega arith in rw none refl;
  cube_is = rw new refl;
  order_is = rises_at_first (atom_numbers task h.0);
}

-- a literal that is read of those that are left
abbrev pub IsRead : List ℕ → Bool → List ℕ → List ℕ → Type 0
IsRead rest sign atom further = IsGroupText atom × (rest ≡ 32 ∷ (sign_text sign ++ (atom ++ further)))

module _ (task : Task) (at : ℕ) (text rest : List ℕ) (cube : List (Option Bool)) (last : Option ℕ) (is_ordered : Bool) (h : LeftLiterals task at text rest cube last is_ordered)
    (sign : Bool) (atom further : List ℕ) (read : IsRead rest sign atom further) where
  abbrev p : ℕ
  p = at + (length text - length rest)

  next : NextLiteral h.left sign atom further
  next = next_literal h.left sign atom further h.left_right read.0 (sym read.1 ∙ h.left_is)

  rest_long : length rest ≡ 2 + (length atom + length further)
  rest_long = omega (arith, ap length read.1, length-append (sign_text sign) (atom ++ further), sign_long sign, length-append atom further)

  over_literal : (found : Option ℕ) → found ≡ atom_number task atom →
      literals_refusal task p h.left ≡ refused_or (unknown 2 found) (p + 2) (literals_refusal task (p + 2 + length atom) next.more)
  over_literal found e =
      let past : p + length (literal_text next.first) ≡ p + 2 + length atom = omega (arith, sign_long next.first.sign, length-append (sign_text next.first.sign) (group_text next.first.leaves), ap length next.atom_is) in
      let same : atom_number task (group_text next.first.leaves) ≡ found = ap (λ t. atom_number task t) (sym next.atom_is) ∙ sym e in
      ap (λ l. literals_refusal task p l) next.left_is
      ∙ ap (λ c. refused_or (unknown 2 c) (p + 2) (literals_refusal task (p + length (literal_text next.first)) next.more)) same
      ∙ ap (λ q. refused_or (unknown 2 found) (p + 2) (literals_refusal task q next.more)) past

  pub one_refused : atom_number task atom ≡ None → IsLiteralRefused task at text (record { code = UNKNOWN_ATOM; at = at + (length text - length rest) + 2 })
  one_refused none = record {
    literals = h.whole;
    proper = h.whole_right;
    text_is = h.whole_is;
    wrong = h.refusal ∙ over_literal None (sym none);
  }

  pub is_there : (number : ℕ) → Some number ≡ atom_number task atom → number < length cube
  is_there number some =
      let found = position-Some (λ (a : Atom). bytes_eq (atom_text task.labels a) atom) task.atoms number (record { predicate = 0; objects = [] }) (sym some) in
      omega (arith, found.0, h.long)

  pub one_read : (number : ℕ) → Some number ≡ atom_number task atom → LeftLiterals task at text further (slice_set cube number (Some sign)) (Some number) (is_ordered && rises last number)
  one_read number some =
      let past : p + 2 + length atom ≡ at + (length text - length further) = omega (arith, rest_long, h.short) in
      let named : atom_number task (group_text next.first.leaves) ≡ Some number = ap (λ t. atom_number task t) (sym next.atom_is) ∙ sym some in
      record {
        whole = h.whole;
        left = next.more;
        whole_right = h.whole_right;
        left_right = next.more_right;
        whole_is = h.whole_is;
        left_is = next.behind_is;
        short = omega (arith, rest_long, h.short);
        long = length-set cube number (Some sign) ∙ h.long;
        refusal = h.refusal ∙ over_literal (Some number) some ∙ ap (λ q. literals_refusal task q next.more) past;
        cube_is =
            h.cube_is ∙ ap (λ l. cube_of task cube l) next.left_is
            ∙ ap (λ n. cube_of task (with_literal cube n next.first.sign) next.more) named
            ∙ ap (λ s. cube_of task (slice_set cube number (Some s)) next.more) (sym next.sign_is);
        order_is =
            h.order_is ∙ ap (λ l. is_ordered && rises_from last (atom_numbers task l)) next.left_is
            ∙ ap (λ n. is_ordered && rises_from last (cons_option n (atom_numbers task next.more))) named
            ∙ and_assoc is_ordered (rises last number) (rises_from (Some number) (atom_numbers task next.more));
      }

pub all_read : (task : Task) (at : ℕ) (text rest : List ℕ) (cube : List (Option Bool)) (last : Option ℕ) (is_ordered : Bool) → LeftLiterals task at text rest cube last is_ordered →
    HasNoLiteral rest → IsCubeAt task at text cube is_ordered
all_read task at text rest cube last is_ordered h none =
    let end = no_literal_left h.left rest h.left_right none h.left_is in record {
      literals = h.whole;
      proper = h.whole_right;
      text_is = h.whole_is;
      clean = h.refusal ∙ ap (λ l. literals_refusal task (at + (length text - length rest)) l) end;
      cube_is = sym (h.cube_is ∙ ap (λ l. cube_of task cube l) end);
      order_is = sym (h.order_is ∙ ap (λ l. is_ordered && rises_from last (atom_numbers task l)) end ∙ and_true is_ordered);
    }
