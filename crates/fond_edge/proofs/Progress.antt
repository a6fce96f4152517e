-- How far a loop has come that writes bytes to a sink.
use Rattle.std.proofs.Common.{◌≡◌, ℕ, ◌-◌, ◌<◌, ◌≤◌, List, ◌++◌, length, take, drop, Option, ap, sym, ◌∙◌, arith, append_assoc, length-append}
use Rattle.std.proofs.Math.Seq.{take-append_seam}
use Rattle.std.proofs.lemmas.Grind.{common_steps}
use Rattle.std.proofs.lemmas.List.{take-append-drop}
use Rattle.fond_edge.specs.Written.{Appended, AppendedPart}
use Rattle.fond_edge.specs.WriterLaws.{appended_twice}

-- a front of the bytes was appended, and the rest is left
pub record Progress (old now : Option (List ℕ)) (bytes rest : List ℕ) : Type 0 where
  pub front : List ℕ
  pub split : front ++ rest ≡ bytes
  pub appended : Appended old now front

pub progress_more : (old now new : Option (List ℕ)) (bytes rest : List ℕ) (n : ℕ) → n ≤ length rest → Progress old now bytes rest → Appended now new (take n rest) → Progress old new bytes (take (length rest - n) (drop n rest))
progress_more old now new bytes rest n within progress more =
    let same : take (length rest - n) (drop n rest) ≡ drop n rest = grind (arith, common_steps) in
    rw same (record {
      front = progress.front ++ take n rest;
      split = append_assoc progress.front (take n rest) (drop n rest) ∙ ap (λ r. progress.front ++ r) (take-append-drop n rest) ∙ progress.split;
      appended = appended_twice old now new progress.front (take n rest) progress.appended more;
    })

pub progress_part : (old now : Option (List ℕ)) (bytes rest : List ℕ) → 0 < length rest → Progress old now bytes rest → AppendedPart old now bytes
progress_part old now bytes rest some progress =
    rw (sym progress.split) (record {
      count = length progress.front;
      proper = omega (arith, length-append progress.front rest);
      appended = rw take-append_seam progress.appended;
    })
