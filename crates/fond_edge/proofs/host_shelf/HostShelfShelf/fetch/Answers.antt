use Rattle.std.proofs.Common.{◌≡◌, ℕ, ◌^◌, ◌≤◌, List, ◌++◌, true, false, length, take, Result, Ok, Err, OnOk, OnErr, sym, ap, ◌∙◌, arith}
use Rattle.std.specs.Result.{is_err}
use Rattle.std.proofs.lemmas.Bool.{false≢true}
use Rattle.std.proofs.lemmas.List.{take_at}
use Rattle.fond_edge.proofs.host_shelf.HostShelfShelf.fetch.Goals as goal
use Rattle.fond_edge.proofs.host_shelf.HostShelfShelf.fetch.Goals.{then-is_err, else-is_err}

-- after an error, no text is promised
none_after_err : {T E : Type 0} (r : Result T E) (old new : List ℕ) → is_err r ≡ true → OnOk r ((more : List ℕ) × (new ≡ old ++ more) × (length more ≤ 2 ^ 48))
none_after_err (Ok _) old new is = absurd (false≢true is)
none_after_err (Err _) old new is = tt

-- the text that came stays if there is no error
some_if_ok : {T E : Type 0} (r : Result T E) (old new : List ℕ) → ((more : List ℕ) × (new ≡ old ++ more) × (length more ≤ 2 ^ 48)) → OnOk r ((more : List ℕ) × (new ≡ old ++ more) × (length more ≤ 2 ^ 48))
some_if_ok (Ok _) old new further = further
some_if_ok (Err _) old new further = tt

-- what grew is cut back to what it was
cut_back : (old now cut : List ℕ) (n : ℕ) → ((more : List ℕ) × (now ≡ old ++ more) × (length more ≤ 2 ^ 48)) → cut ≡ take n now → length old ≡ n → cut ≡ old
cut_back old now cut n further taken long = taken ∙ ap (take n) further.1 ∙ take_at old further.0 n long

-- the text that was cut back is as before, also after an error
kept : {T E : Type 0} (r : Result T E) (old now : List ℕ) → now ≡ old → OnErr r (now ≡ old)
kept (Ok _) old now same = tt
kept (Err _) old now same = same

-- without an error, nothing is promised for one
none_if_ok : {T E : Type 0} (r : Result T E) (old now : List ℕ) → is_err r ≡ false → OnErr r (now ≡ old)
none_if_ok (Ok _) old now is = tt
none_if_ok (Err _) old now is = absurd (false≢true (sym is))

pub returns-in-Err-Failed-clause-further : goal.returns-in-Err-Failed-clause-further
returns-in-Err-Failed-clause-further g c = rw c.in-Err-Failed.is tt

pub returns-after-is_err-clause-further : goal.returns-after-is_err-clause-further
returns-after-is_err-clause-further g c =
    let rest = c.append_file-outcome.ensures.further in
    elim c.if-is_err.branch [
      | then-is_err w ↦ none_after_err _ _ _ (sym c.is_err.ensures.value ∙ w.if-is_err.true)
      | else-is_err w ↦ some_if_ok _ _ _ (rest.0, ap (λ into. into.items) w.into-is ∙ rest.1, rest.2)
    ]

pub returns-after-is_err-2-clause-further : goal.returns-after-is_err-2-clause-further
returns-after-is_err-2-clause-further g c =
    let rest = c.append_file-outcome.ensures.further in
    elim c.if-is_err.branch [
      | then-is_err w ↦ none_after_err _ _ _ (sym c.is_err.ensures.value ∙ w.if-is_err.true)
      | else-is_err w ↦ some_if_ok _ _ _ (rest.0, ap (λ into. into.items) w.into-is ∙ rest.1, rest.2)
    ]

pub returns-in-Err-Failed-clause-err : goal.returns-in-Err-Failed-clause-err
returns-in-Err-Failed-clause-err g c =
    let long : length c.args.into.now.items ≡ c.len-before.result = omega (arith, c.len-before.ensures, c.args.into.now.ok.0) in
    elim c.if-is_err.branch [
      | then-is_err w ↦ kept c.append_file-outcome.result c.args.into.now.items c.if-is_err.into.items (ap (λ into. into.items) w.into-is ∙ cut_back c.args.into.now.items c.append_file-outcome.new.into.items _ c.len-before.result c.append_file-outcome.ensures.further w.truncate.ensures.items long)
      | else-is_err w ↦ none_if_ok c.append_file-outcome.result c.args.into.now.items c.if-is_err.into.items (sym c.is_err.ensures.value ∙ w.if-is_err.false)
    ]

pub returns-after-is_err-clause-err : goal.returns-after-is_err-clause-err
returns-after-is_err-clause-err g c =
    let long : length c.args.into.now.items ≡ c.len-before.result = omega (arith, c.len-before.ensures, c.args.into.now.ok.0) in
    elim c.if-is_err.branch [
      | then-is_err w ↦ kept c.append_file-outcome.result c.args.into.now.items c.if-is_err.into.items (ap (λ into. into.items) w.into-is ∙ cut_back c.args.into.now.items c.append_file-outcome.new.into.items _ c.len-before.result c.append_file-outcome.ensures.further w.truncate.ensures.items long)
      | else-is_err w ↦ none_if_ok c.append_file-outcome.result c.args.into.now.items c.if-is_err.into.items (sym c.is_err.ensures.value ∙ w.if-is_err.false)
    ]

pub returns-after-is_err-2-clause-err : goal.returns-after-is_err-2-clause-err
returns-after-is_err-2-clause-err g c =
    let long : length c.args.into.now.items ≡ c.len-before.result = omega (arith, c.len-before.ensures, c.args.into.now.ok.0) in
    elim c.if-is_err.branch [
      | then-is_err w ↦ kept c.append_file-outcome.result c.args.into.now.items c.if-is_err.into.items (ap (λ into. into.items) w.into-is ∙ cut_back c.args.into.now.items c.append_file-outcome.new.into.items _ c.len-before.result c.append_file-outcome.ensures.further w.truncate.ensures.items long)
      | else-is_err w ↦ none_if_ok c.append_file-outcome.result c.args.into.now.items c.if-is_err.into.items (sym c.is_err.ensures.value ∙ w.if-is_err.false)
    ]
