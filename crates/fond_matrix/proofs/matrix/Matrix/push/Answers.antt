use Rattle.std.proofs.Common.{◌≡◌, ◌∙◌, ◌++◌, ◌∷◌, ℕ, ◌<◌, ◌^◌, Bool, [], length, refl, ap, sym, subst, arith}
use Rattle.std.specs.Prelude.{Result, Ok, Err, OnErr}
use Rattle.fond_match.specs.Lies.{is_sign}
use Rattle.fond_state.specs.Cubes.{literal_at}
use Rattle.fond_matrix.specs.Matrices.{IsMatrixOf, cubes_of}
use Rattle.fond_matrix.specs.Rows.{has}
use Rattle.fond_matrix.proofs.Cubes.{next_clear, pushed_bits, pushed_cubes, same_bits, length-cubes_of}
use Rattle.std.proofs.lemmas.List.{length_push}
use Rattle.fond_matrix.proofs.matrix.Matrix.push.Goals as goal

on_err : {X E : Type 0} {P : Type 0} (r : Result X E) → P → OnErr r P
on_err (Ok x) p = tt
on_err (Err e) p = p

pub invariant_of-self : goal.invariant_of-self
invariant_of-self c =
    let counts = c.self.inside.lengths.items in
    let same = same_bits c.self.inside.rows c.make_room.new.self counts counts c.self.invariant.0 c.make_room.ensures.same refl in
    (same.1, c.self.invariant.1, c.self.invariant.2)

pub returns-in_err-make_room-clause-err : goal.returns-in_err-make_room-clause-err
returns-in_err-make_room-clause-err c =
    let counts = c.self.inside.lengths.items in
    let same = same_bits c.self.inside.rows c.make_room.new.self counts counts c.self.invariant.0 c.make_room.ensures.same refl in
    on_err c.from_residual.result (same.0 ∙ c.self.view_is)

pub invariant_of-self-in_err-push : goal.invariant_of-self-in_err-push
invariant_of-self-in_err-push c =
    let counts = c.self.inside.lengths.items in
    let same = same_bits c.self.inside.rows c.make_room.new.self counts c.push.new.self.items c.self.invariant.0 c.make_room.ensures.same c.in_err-push.ensures.items in
    let few : length c.push.new.self.items < 2 ^ 32 = omega (arith, ap length c.in_err-push.ensures.items, c.self.invariant.1) in
    (same.1, few, c.self.invariant.2)

pub returns-in_err-push-clause-err : goal.returns-in_err-push-clause-err
returns-in_err-push-clause-err c =
    let counts = c.self.inside.lengths.items in
    let same = same_bits c.self.inside.rows c.make_room.new.self counts c.push.new.self.items c.self.invariant.0 c.make_room.ensures.same c.in_err-push.ensures.items in
    on_err c.from_residual-in_err-push.result (same.0 ∙ c.self.view_is)

pub mark-requires-clause-fresh : goal.mark-requires-clause-fresh
mark-requires-clause-fresh c = λ s a.
    let rows = c.self.inside.rows in
    let counts = c.self.inside.lengths.items in
    let number : c.len-number.result ≡ length counts = omega (arith, c.len-number.ensures, c.self.inside.lengths.ok.0) in
    c.make_room.ensures.same s a c.len-number.result ∙ ap (λ n. has rows s a n) number ∙ next_clear rows counts c.self.invariant.0 s a

pub invariant_of-self-2 : goal.invariant_of-self-2
invariant_of-self-2 c =
    let rows = c.self.inside.rows in
    let counts = c.self.inside.lengths.items in
    let cube = c.args.cube.now in
    let marked = c.mark.new.self in
    let number : c.len-number.result ≡ length counts = omega (arith, c.len-number.ensures, c.self.inside.lengths.ok.0) in
    let here = subst (λ n. (s : Bool) (a : ℕ) → has marked s a n ≡ is_sign (literal_at cube a) s) number c.mark.ensures.here in
    let other = subst (λ n. (s : Bool) (a k : ℕ) → ¬ k ≡ n → has marked s a k ≡ has rows s a k) number (λ s a k differs. c.mark.ensures.other s a k differs ∙ c.make_room.ensures.same s a k) in
    let pushed : c.push.new.self.items ≡ counts ++ length cube ∷ [] = c.in_ok-push.ensures.items ∙ ap (λ n. counts ++ n ∷ []) c.len.ensures.counted in
    let cubes = ap (cubes_of marked 0) pushed ∙ pushed_cubes rows counts c.self.invariant.0 marked cube here other in
    let counted : length counts ≡ length c.args.self.now = sym (length-cubes_of rows 0 counts) ∙ ap length c.self.view_is in
    let few : length c.push.new.self.items < 2 ^ 32 = omega (arith, ap length pushed, length_push counts (length cube), counted, c.requires) in (
      subst (λ cs. IsMatrixOf cs marked) (sym cubes) (pushed_bits rows counts c.self.invariant.0 marked cube here other),
      few,
      c.self.invariant.2,
    )

pub returns-clause-ok : goal.returns-clause-ok
returns-clause-ok c =
    let rows = c.self.inside.rows in
    let counts = c.self.inside.lengths.items in
    let cube = c.args.cube.now in
    let marked = c.mark.new.self in
    let number : c.len-number.result ≡ length counts = omega (arith, c.len-number.ensures, c.self.inside.lengths.ok.0) in
    let here = subst (λ n. (s : Bool) (a : ℕ) → has marked s a n ≡ is_sign (literal_at cube a) s) number c.mark.ensures.here in
    let other = subst (λ n. (s : Bool) (a k : ℕ) → ¬ k ≡ n → has marked s a k ≡ has rows s a k) number (λ s a k differs. c.mark.ensures.other s a k differs ∙ c.make_room.ensures.same s a k) in
    let pushed : c.push.new.self.items ≡ counts ++ length cube ∷ [] = c.in_ok-push.ensures.items ∙ ap (λ n. counts ++ n ∷ []) c.len.ensures.counted in
    ap (cubes_of marked 0) pushed ∙ pushed_cubes rows counts c.self.invariant.0 marked cube here other ∙ ap (λ cs. cs ++ cube ∷ []) c.self.view_is
