-- The digits of a number at the end of 20 bytes.
use Rattle.std.proofs.Common.{◌≡◌, ℕ, ◌+◌, ◌-◌, ◌<◌, ◌≤◌, ◌^◌, List, ◌++◌, length, take, drop, replicate, ◌∙◌, ap, arith, append-nil}
use Rattle.std.specs.Fmt.{decimal}
use Rattle.std.proofs.lemmas.Fmt.{length-decimal-le}
use Rattle.std.proofs.lemmas.List.{take-append-drop, take-replicate}

-- a number below 2^64 has at most 20 digits
pub at_most : (n : ℕ) → n < 2 ^ 64 → length (decimal n) ≤ 20
at_most n small = length-decimal-le 20 n (omega arith) (omega arith) small

module _ (n start : ℕ) (bytes : List ℕ) (begins : start + length (decimal n) ≡ 20) (written : drop start bytes ≡ decimal n ++ drop 20 (replicate 20 0)) (before : take start bytes ≡ take start (replicate 20 0)) where
  place : 20 - (20 - start) ≡ start
  place = omega arith

  pub digits : drop (20 - (20 - start)) bytes ≡ decimal n
  digits = rw place (written ∙ append-nil (decimal n))

  pub count : length (drop (20 - (20 - start)) bytes) ≡ 20 - start
  count = omega (arith, ap length digits)

  -- zeros precede the digits
  pub padded : replicate (20 - length (drop (20 - (20 - start)) bytes)) 0 ++ drop (20 - (20 - start)) bytes ≡ bytes
  padded =
      let room : 20 - length (drop (20 - (20 - start)) bytes) ≡ start = omega (arith, count) in
      let zeros : take start bytes ≡ replicate start 0 = before ∙ take-replicate start 20 0 (omega arith) in
      rw (room, place, ← zeros) (take-append-drop start bytes)
