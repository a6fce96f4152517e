-- Giving truth values entry by entry: what the entries delete, and then what they add, makes the next state.
use Rattle.std.proofs.Common.{◌≡◌, ℕ, ◌<◌, List, Bool, true, false, not, length, refl, sym, ap, ◌∙◌, arith}
use Rattle.std.specs.Prelude.{◌&&◌, ◌||◌, if◌then◌else◌}
use Rattle.std.proofs.lemmas.List.{ext_get_or}
use Rattle.fond_state.specs.Cubes.{truth_at}
use Rattle.fond_task.specs.declared.task.Entry.{Entry}
use Rattle.fond_task.specs.Steps.{adds, deletes, next_state}
use Rattle.fond_task.proofs.Indices.{length-by_index, get_or-by_index}

next_value : (added deleted was : Bool) → (if added then true else (if deleted then false else was)) ≡ (added || (was && not deleted))
next_value true deleted was = refl
next_value false true true = refl
next_value false true false = refl
next_value false false true = refl
next_value false false false = refl

-- deletes that are followed by adds make the next state
pub next_by_puts : (state copy between out : List Bool) (entries : List Entry) → copy ≡ state → length between ≡ length copy → length out ≡ length between →
    ((k : ℕ) → k < length copy → truth_at between k ≡ (if deletes state entries k then false else truth_at copy k)) →
    ((k : ℕ) → k < length between → truth_at out k ≡ (if adds state entries k then true else truth_at between k)) →
    out ≡ next_state state entries
next_by_puts state copy between out entries same first second deleted added =
    let change = λ (atom : ℕ) (value : Bool). adds state entries atom || (value && not (deletes state entries atom)) in
    let long : length copy ≡ length state = ap length same in
    ext_get_or false out (next_state state entries) (omega (arith, length-by_index change state)) (λ k within.
    let before : k < length copy = omega arith in
    let here : k < length state = omega arith in
    added k (omega arith)
    ∙ ap (λ b. if adds state entries k then true else b) (deleted k before ∙ ap (λ w. if deletes state entries k then false else truth_at w k) same)
    ∙ next_value (adds state entries k) (deletes state entries k) (truth_at state k)
    ∙ sym (get_or-by_index change state k false here))
