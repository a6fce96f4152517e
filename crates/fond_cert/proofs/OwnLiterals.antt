-- The literals that spell a cube: each has its atom's number, the numbers rise, and they tell the cube.
use Rattle.std.proofs.Common.{◌≡◌, ℕ, suc, ◌+◌, ◌<◌, ◌∙◌, nat_lt, Bool, true, List, [], ◌∷◌, Option, Some, None, All, length, get_or, refl, sym, ap, arith}
use Rattle.std.specs.Prelude.{⊤}
use Rattle.std.specs.List.{cons_option}
use Rattle.std.proofs.lemmas.Bool.{and_parts}
use Rattle.std.proofs.lemmas.Bool.Decides.{nat_tests}
use Rattle.std.proofs.lemmas.List.Elements.{All-tail, All-cons, All-nil}
use Rattle.fond_text.specs.declared.atom.Atom.{Atom}
use Rattle.fond_task.specs.Numbers.{atom_number}
use Rattle.fond_task.specs.declared.task.Task.{Task}
use Rattle.fond_task.specs.Layers.{CubeView}
use Rattle.fond_form.specs.Lines.{IsGroup, group_text, WrittenLiteral, AreProper, literal_text}
use Rattle.fond_cert.specs.declared.code.TheConstants.{UNKNOWN_ATOM}
use Rattle.fond_cert.specs.Checked.{rises}
use Rattle.fond_cert.specs.Spellings.{atom_leaves, written_literal, written_cube}
use Rattle.fond_cert.specs.Words.{unknown, refused_or, literals_refusal, atom_numbers, is_increasing}
use Rattle.fond_cert.proofs.CubeTexts.{no_atom, zipped, cube_zipped}
use Rattle.fond_cert.proofs.Cubes.{rises_from, rises_at_first}
use Rattle.fond_cert.proofs.TaskNames.{atom_found, atom_group}

-- a number is above the last one, if there is one
abbrev IsAbove : Option ℕ → ℕ → Type 0
IsAbove None number = ⊤
IsAbove (Some last) number = last < number

above_later : (last : Option ℕ) (number : ℕ) → IsAbove last number → IsAbove last (number + 1)
above_later None number h = tt
above_later (Some last) number h = omega (arith, h)

above_rises : (last : Option ℕ) (number : ℕ) → IsAbove last number → rises last number ≡ true
above_rises None number h = refl
above_rises (Some last) number h = grind (arith, nat_tests, h)

module _ (task : Task) where
  -- a text of leaves is that of the atom of this number
  abbrev IsFound : ℕ → Atom → Type 0
  IsFound number atom = (atom_number task (group_text (atom_leaves task.labels atom)) ≡ Some number) × IsGroup (atom_leaves task.labels atom)

  -- atoms from this number on have their numbers by their texts
  abbrev AreFoundFrom : ℕ → List Atom → Type 0
  AreFoundFrom from atoms = (k : ℕ) → k < length atoms → IsFound (from + k) (get_or atoms k no_atom)

  all_found : AreFoundFrom 0 task.atoms
  all_found k lt = (atom_found task k lt ∙ ap (λ n. Some n) (omega arith), atom_group task k lt)

  later_found : (from : ℕ) (atom : Atom) (atoms : List Atom) → AreFoundFrom from (atom ∷ atoms) → AreFoundFrom (from + 1) atoms
  later_found from atom atoms h k lt = let found = h (suc k) (omega (arith, lt)) in (found.0 ∙ ap (λ n. Some n) (omega arith), found.1)

  first_found : (from : ℕ) (atom : Atom) (atoms : List Atom) → AreFoundFrom from (atom ∷ atoms) → IsFound from atom
  first_found from atom atoms h = let found = h 0 (omega arith) in (found.0 ∙ ap (λ n. Some n) (omega arith), found.1)

  -- a literal's atom has leaves, and the task has it
  abbrev IsKnown : WrittenLiteral → Type 0
  IsKnown literal = IsGroup literal.leaves × (unknown UNKNOWN_ATOM (atom_number task (group_text literal.leaves)) ≡ None)

  zipped_known : (from : ℕ) (atoms : List Atom) (cube : CubeView) → AreFoundFrom from atoms → All IsKnown (zipped task.labels atoms cube)
  zipped_known from [] cube h = All-nil IsKnown
  zipped_known from (atom ∷ atoms) [] h = zipped_known (from + 1) atoms [] (later_found from atom atoms h)
  zipped_known from (atom ∷ atoms) (None ∷ cube) h = zipped_known (from + 1) atoms cube (later_found from atom atoms h)
  zipped_known from (atom ∷ atoms) (Some sign ∷ cube) h =
      let first = first_found from atom atoms h in
      All-cons IsKnown (written_literal task.labels atom sign) (zipped task.labels atoms cube) (first.1, ap (unknown UNKNOWN_ATOM) first.0)
      (zipped_known (from + 1) atoms cube (later_found from atom atoms h))

  zipped_rise : (last : Option ℕ) (from : ℕ) (atoms : List Atom) (cube : CubeView) → IsAbove last from → AreFoundFrom from atoms → rises_from last (atom_numbers task (zipped task.labels atoms cube)) ≡ true
  zipped_rise last from [] cube above h = refl
  zipped_rise last from (atom ∷ atoms) [] above h = zipped_rise last (from + 1) atoms [] (above_later last from above) (later_found from atom atoms h)
  zipped_rise last from (atom ∷ atoms) (None ∷ cube) above h = zipped_rise last (from + 1) atoms cube (above_later last from above) (later_found from atom atoms h)
  zipped_rise last from (atom ∷ atoms) (Some sign ∷ cube) above h =
      ap (λ number. rises_from last (cons_option number (atom_numbers task (zipped task.labels atoms cube)))) (first_found from atom atoms h).0
      ∙ rw (above_rises last from above) (zipped_rise (Some from) (from + 1) atoms cube (omega arith) (later_found from atom atoms h))

  known : (cube : CubeView) → All IsKnown (written_cube task cube)
  known cube = rw (cube_zipped task cube) (zipped_known 0 task.atoms cube all_found)

  pub cube_proper : (cube : CubeView) → AreProper (written_cube task cube)
  cube_proper cube k d lt = (known cube k d lt).0

  none_refused : (literals : List WrittenLiteral) (at : ℕ) → All IsKnown literals → literals_refusal task at literals ≡ None
  none_refused [] at h = refl
  none_refused (literal ∷ literals) at h =
      ap (λ code. refused_or code (at + 2) (literals_refusal task (at + length (literal_text literal)) literals)) (h 0 literal (omega arith)).1
      ∙ none_refused literals (at + length (literal_text literal)) (All-tail IsKnown literal literals h)

  pub cube_clean : (cube : CubeView) (at : ℕ) → literals_refusal task at (written_cube task cube) ≡ None
  cube_clean cube at = none_refused (written_cube task cube) at (known cube)

  pub cube_ordered : (cube : CubeView) → is_increasing (atom_numbers task (written_cube task cube)) ≡ true
  cube_ordered cube =
      ap (λ literals. is_increasing (atom_numbers task literals)) (cube_zipped task cube)
      ∙ rises_at_first (atom_numbers task (zipped task.labels task.atoms cube)) ∙ zipped_rise None 0 task.atoms cube tt all_found

  -- the literal of an atom is none of those of later atoms
  no_literal : (from : ℕ) (atom : Atom) (atoms : List Atom) (cube other : CubeView) (sign : Bool) → AreFoundFrom from (atom ∷ atoms) → ¬ zipped task.labels atoms cube ≡ zipped task.labels (atom ∷ atoms) (Some sign ∷ other)
  no_literal from atom atoms cube other sign h e =
      let more = atom_numbers task (zipped task.labels atoms other) in
      let rise : rises_from (Some from) (from ∷ more) ≡ true =
      ap (λ number. rises_from (Some from) (cons_option number more)) (sym (first_found from atom atoms h).0)
      ∙ ap (λ literals. rises_from (Some from) (atom_numbers task literals)) (sym e) ∙ zipped_rise (Some from) (from + 1) atoms cube (omega arith) (later_found from atom atoms h) in
      let above : nat_lt from from ≡ true = (and_parts (nat_lt from from) (rises_from (Some from) more) rise).0 in
      absurd (grind (arith, nat_tests, above))

  same_zipped : (from : ℕ) (atoms : List Atom) (cube other : CubeView) → AreFoundFrom from atoms → length cube ≡ length atoms → length other ≡ length atoms → zipped task.labels atoms cube ≡ zipped task.labels atoms other → cube ≡ other
  same_zipped from [] [] [] h long other_long e = refl
  same_zipped from [] [] (y ∷ other) h long other_long e = absurd (omega (arith, other_long))
  same_zipped from [] (x ∷ cube) other h long other_long e = absurd (omega (arith, long))
  same_zipped from (atom ∷ atoms) [] other h long other_long e = absurd (omega (arith, long))
  same_zipped from (atom ∷ atoms) (x ∷ cube) [] h long other_long e = absurd (omega (arith, other_long))
  same_zipped from (atom ∷ atoms) (None ∷ cube) (None ∷ other) h long other_long e =
      ap (λ rest. None ∷ rest) (same_zipped (from + 1) atoms cube other (later_found from atom atoms h) (omega (arith, long)) (omega (arith, other_long)) e)
  same_zipped from (atom ∷ atoms) (None ∷ cube) (Some sign ∷ other) h long other_long e = absurd (no_literal from atom atoms cube other sign h e)
  same_zipped from (atom ∷ atoms) (Some sign ∷ cube) (None ∷ other) h long other_long e = absurd (no_literal from atom atoms other cube sign h (sym e))
  same_zipped from (atom ∷ atoms) (Some sign ∷ cube) (Some other_sign ∷ other) h long other_long e =
      let literal : written_literal task.labels atom sign ≡ written_literal task.labels atom other_sign = cc in
      let rest : zipped task.labels atoms cube ≡ zipped task.labels atoms other = cc in
      let signs : sign ≡ other_sign = ap (λ (one : WrittenLiteral). one.sign) literal in
      let more = same_zipped (from + 1) atoms cube other (later_found from atom atoms h) (omega (arith, long)) (omega (arith, other_long)) rest in
      λ i. Some (signs i) ∷ more i

  pub same_cube : (cube other : CubeView) → length cube ≡ length task.atoms → length other ≡ length task.atoms → written_cube task cube ≡ written_cube task other → cube ≡ other
  same_cube cube other long other_long e = same_zipped 0 task.atoms cube other all_found long other_long (sym (cube_zipped task cube) ∙ e ∙ cube_zipped task other)
