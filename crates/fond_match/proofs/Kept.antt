-- What queries still visit after numbers are sorted further.
use Rattle.std.proofs.Common.{◌≡◌, ℕ, ◌+◌, ◌<◌, ◌≤◌, List, [], ◌∷◌, ◌++◌, Bool, true, Option, Some, All, length, cond, take, get_or, append_assoc, refl, sym, ap, ◌∙◌, subst, arith}
use Rattle.std.specs.Prelude.{Contains, nat_le, slice_get}
use Rattle.std.specs.List.{filter}
use Rattle.std.specs.List.Sorted.{IsPermutation}
use Rattle.std.proofs.lemmas.Bool.{le-leb}
use Rattle.std.proofs.lemmas.List.{append-nil, take_more}
use Rattle.std.proofs.lemmas.List.Concat.{flat_map-append}
use Rattle.std.proofs.lemmas.List.Elements.{All-contains, Contains-append_left, Contains-append_right}
use Rattle.std.proofs.lemmas.List.Sorted.{IsPermutation-sym}
use Rattle.std.proofs.lemmas.Option.{same_Some}
use Rattle.fond_state.specs.Cubes.{literal_at}
use Rattle.fond_match.specs.declared.node.Literal.{Literal}
use Rattle.fond_match.specs.declared.node.Node.{Node}
use Rattle.fond_match.specs.declared.node.Node.TheOpen.{Node-F}
use Rattle.fond_match.specs.declared.node.Node.TheViews.{roll-Node}
use Rattle.fond_match.specs.declared.part.Entry.{Entry}
use Rattle.fond_match.specs.declared.part.Run.{Run}
use Rattle.fond_match.specs.Visits.{Keeps, enters, entered, visits, visits_of_all}
use Rattle.fond_match.specs.Runs.{first_visits, picked, run_visits}
use Rattle.fond_match.proofs.Members.{All-from_members, from_filter, in_filter, only_member, both_members, swapped_member, member_if, both_if, permuted}
use Rattle.fond_match.proofs.Searched.{below_node, visits_of_all-push, visits_roll}

-- the numbers that each query visits, by the literals that it has
abbrev Visited : Type 0
Visited = (ℕ → Bool → Bool) → List ℕ

module _ (cubes : List (List (Option Bool))) where
  pub Keeps-refl : (a : Visited) → Keeps cubes a a
  Keeps-refl a = record { complete = λ has number cube at each one. one; within = λ has number one. one }

  pub Keeps-then : (a b c : Visited) → Keeps cubes a b → Keeps cubes b c → Keeps cubes a c
  Keeps-then a b c first second = record {
    complete = λ has number cube at each one. second.complete has number cube at each (first.complete has number cube at each one);
    within = λ has number one. first.within has number (second.within has number one);
  }

  pub Keeps-same : (a b : Visited) → ((has : ℕ → Bool → Bool) → a has ≡ b has) → Keeps cubes a b
  Keeps-same a b same = record {
    complete = λ has number cube at each one. let P : List ℕ → Type 0 = λ numbers. Contains numbers number in subst P (same has) one;
    within = λ has number one. let P : List ℕ → Type 0 = λ numbers. Contains numbers number in subst P (sym (same has)) one;
  }

  pub Keeps-both : (a b c d : Visited) → Keeps cubes a b → Keeps cubes c d → Keeps cubes (λ has. a has ++ c has) (λ has. b has ++ d has)
  Keeps-both a b c d first second = record {
    complete = λ has number cube at each. both_members (a has) (c has) (b has) (d has) number (first.complete has number cube at each) (second.complete has number cube at each);
    within = λ has number. both_members (b has) (d has) (a has) (c has) number (first.within has number) (second.within has number);
  }

  Keeps-swapped : (a b c : Visited) → Keeps cubes (λ has. (a has ++ b has) ++ c has) (λ has. (a has ++ c has) ++ b has)
  Keeps-swapped a b c = record {
    complete = λ has number cube at each. swapped_member (a has) (b has) (c has) number;
    within = λ has number. swapped_member (a has) (c has) (b has) number;
  }

  -- what is kept is kept behind a literal
  pub Keeps-entered : (literal : Option Literal) (a b : Visited) → Keeps cubes a b → Keeps cubes (λ has. entered has literal (a has)) (λ has. entered has literal (b has))
  Keeps-entered literal a b kept = record {
    complete = λ has number cube at each. both_if (enters has literal) (a has) (b has) number (kept.complete has number cube at each);
    within = λ has number. both_if (enters has literal) (b has) (a has) number (kept.within has number);
  }

  -- the entries may be in another order
  pub Keeps-permuted : (rest : List ℕ) (entries sorted : List Entry) → IsPermutation entries sorted → IsPermutation sorted entries →
      Keeps cubes (λ has. rest ++ picked has entries) (λ has. rest ++ picked has sorted)
  Keeps-permuted rest entries sorted there back = Keeps-both (λ _. rest) (λ _. rest) (λ has. picked has entries) (λ has. picked has sorted) (Keeps-refl (λ _. rest))
      (record {
        complete = λ has number cube at each. permuted (first_visits has) entries sorted number there;
        within = λ has number. permuted (first_visits has) sorted entries number back;
      })

  -- one more number, whose cube has no literal left
  pub Keeps-rest : (numbers rest : List ℕ) (entries : List Entry) (number : ℕ) → Keeps cubes (λ _. numbers) (λ has. rest ++ picked has entries) →
      Keeps cubes (λ _. numbers ++ number ∷ []) (λ has. (rest ++ number ∷ []) ++ picked has entries)
  Keeps-rest numbers rest entries number kept =
      Keeps-then (λ _. numbers ++ number ∷ []) (λ has. (rest ++ picked has entries) ++ number ∷ []) (λ has. (rest ++ number ∷ []) ++ picked has entries)
      (Keeps-both (λ _. numbers) (λ has. rest ++ picked has entries) (λ _. number ∷ []) (λ _. number ∷ []) kept (Keeps-refl (λ _. number ∷ [])))
      (Keeps-swapped (λ _. rest) (λ has. picked has entries) (λ _. number ∷ []))

  -- a number may be visited only behind a literal of its cube
  first_kept : (entry : Entry) (own : List (Option Bool)) → slice_get cubes entry.number ≡ Some own → literal_at own entry.literal.atom ≡ Some entry.literal.sign →
      Keeps cubes (λ _. entry.number ∷ []) (λ has. first_visits has entry)
  first_kept entry own at_own literal = record {
    complete = λ has number cube at each one.
        let same : entry.number ≡ number = only_member entry.number number one in
        let is : own ≡ cube = same_Some own cube (sym at_own ∙ ap (slice_get cubes) same ∙ at) in
        let there : has entry.literal.atom entry.literal.sign ≡ true = each entry.literal.atom entry.literal.sign (ap (λ c. literal_at c entry.literal.atom) (sym is) ∙ literal) in
        let P : Bool → Type 0 = λ b. Contains (cond b (entry.number ∷ []) []) number in
        subst P (sym there) one;
    within = λ has number. member_if (has entry.literal.atom entry.literal.sign) (entry.number ∷ []) number;
  }

  picked-push : (has : ℕ → Bool → Bool) (entries : List Entry) (entry : Entry) → picked has (entries ++ entry ∷ []) ≡ picked has entries ++ first_visits has entry
  picked-push has entries entry = flat_map-append (first_visits has) entries (entry ∷ []) ∙ ap (λ one. picked has entries ++ one) (append-nil (first_visits has entry))

  -- one more number, with a literal of its cube
  pub Keeps-entry : (numbers rest : List ℕ) (entries : List Entry) (entry : Entry) (own : List (Option Bool)) → slice_get cubes entry.number ≡ Some own → literal_at own entry.literal.atom ≡ Some entry.literal.sign →
      Keeps cubes (λ _. numbers) (λ has. rest ++ picked has entries) → Keeps cubes (λ _. numbers ++ entry.number ∷ []) (λ has. rest ++ picked has (entries ++ entry ∷ []))
  Keeps-entry numbers rest entries entry own at_own literal kept =
      Keeps-then (λ _. numbers ++ entry.number ∷ []) (λ has. (rest ++ picked has entries) ++ first_visits has entry) (λ has. rest ++ picked has (entries ++ entry ∷ []))
      (Keeps-both (λ _. numbers) (λ has. rest ++ picked has entries) (λ _. entry.number ∷ []) (λ has. first_visits has entry) kept (first_kept entry own at_own literal))
      (Keeps-same _ _ (λ has. append_assoc rest (picked has entries) (first_visits has entry) ∙ ap (λ ns. rest ++ ns) (sym (picked-push has entries entry))))

  -- one more of the numbers of a list was read
  pub Keeps-entry_read : (numbers : List ℕ) (i : ℕ) (rest rests : List ℕ) (entries more : List Entry) (entry : Entry) (own : List (Option Bool)) → i < length numbers → entry.number ≡ get_or numbers i 0 →
      slice_get cubes entry.number ≡ Some own → literal_at own entry.literal.atom ≡ Some entry.literal.sign → rests ≡ rest → more ≡ entries ++ entry ∷ [] →
      Keeps cubes (λ _. take i numbers) (λ has. rest ++ picked has entries) → Keeps cubes (λ _. take (i + 1) numbers) (λ has. rests ++ picked has more)
  Keeps-entry_read numbers i rest rests entries more entry own within is at_own literal same grown kept =
      let taken : take i numbers ++ entry.number ∷ [] ≡ take (i + 1) numbers = ap (λ n. take i numbers ++ n ∷ []) is ∙ sym (take_more numbers i 0 within) in
      let P : List ℕ → Type 0 = λ ns. Keeps cubes (λ _. ns) (λ has. rests ++ picked has more) in
      let Q : List ℕ → Type 0 = λ ns. Keeps cubes (λ _. take i numbers ++ entry.number ∷ []) (λ has. ns ++ picked has more) in
      let R : List Entry → Type 0 = λ es. Keeps cubes (λ _. take i numbers ++ entry.number ∷ []) (λ has. rest ++ picked has es) in
      subst P taken (subst Q (sym same) (subst R (sym grown) (Keeps-entry (take i numbers) rest entries entry own at_own literal kept)))

  pub Keeps-rest_read : (numbers : List ℕ) (i : ℕ) (rest rests : List ℕ) (entries more : List Entry) → i < length numbers → rests ≡ rest ++ get_or numbers i 0 ∷ [] → more ≡ entries →
      Keeps cubes (λ _. take i numbers) (λ has. rest ++ picked has entries) → Keeps cubes (λ _. take (i + 1) numbers) (λ has. rests ++ picked has more)
  Keeps-rest_read numbers i rest rests entries more within grown same kept =
      let P : List ℕ → Type 0 = λ ns. Keeps cubes (λ _. ns) (λ has. rests ++ picked has more) in
      let Q : List ℕ → Type 0 = λ ns. Keeps cubes (λ _. take i numbers ++ get_or numbers i 0 ∷ []) (λ has. ns ++ picked has more) in
      let R : List Entry → Type 0 = λ es. Keeps cubes (λ _. take i numbers ++ get_or numbers i 0 ∷ []) (λ has. (rest ++ get_or numbers i 0 ∷ []) ++ picked has es) in
      subst P (sym (take_more numbers i 0 within)) (subst Q (sym grown) (subst R (sym same) (Keeps-rest (take i numbers) rest entries (get_or numbers i 0) kept)))

  -- numbers that were parted, after the entries are sorted and put into runs
  pub Keeps-parted : (numbers read rest : List ℕ) (entries sorted of_runs : List Entry) (runs : List Run) → read ≡ numbers → IsPermutation entries sorted → of_runs ≡ sorted →
      ((has : ℕ → Bool → Bool) → run_visits has runs ≡ picked has of_runs) → Keeps cubes (λ _. read) (λ has. rest ++ picked has entries) → Keeps cubes (λ _. numbers) (λ has. rest ++ run_visits has runs)
  Keeps-parted numbers read rest entries sorted of_runs runs same moved is in_runs kept =
      Keeps-then (λ _. numbers) (λ has. rest ++ picked has sorted) (λ has. rest ++ run_visits has runs)
      (Keeps-then (λ _. numbers) (λ has. rest ++ picked has entries) (λ has. rest ++ picked has sorted)
      (let P : List ℕ → Type 0 = λ ns. Keeps cubes (λ _. ns) (λ has. rest ++ picked has entries) in subst P same kept)
      (Keeps-permuted rest entries sorted moved (IsPermutation-sym entries sorted moved)))
      (Keeps-same _ _ (λ has. ap (λ ns. rest ++ ns) (sym (in_runs has ∙ ap (picked has) is))))

  run_visits-push : (has : ℕ → Bool → Bool) (runs : List Run) (run : Run) → run_visits has (runs ++ run ∷ []) ≡ run_visits has runs ++ entered has (Some run.literal) run.numbers.items
  run_visits-push has runs run =
      flat_map-append (λ (run : Run). entered has (Some run.literal) run.numbers.items) runs (run ∷ []) ∙ ap (λ one. run_visits has runs ++ one) (append-nil (entered has (Some run.literal) run.numbers.items))

  -- the last run becomes the last branch
  pub Keeps-branch : (rest : List ℕ) (runs : List Run) (run : Run) (nodes : List Node) (node : Node) → Keeps cubes (λ has. entered has (Some run.literal) run.numbers.items) (λ has. visits has node) →
      Keeps cubes (λ has. rest ++ (run_visits has (runs ++ run ∷ []) ++ visits_of_all has nodes)) (λ has. rest ++ (run_visits has runs ++ visits_of_all has (nodes ++ node ∷ [])))
  Keeps-branch rest runs run nodes node grown =
      let front : Visited = λ has. run_visits has runs in
      let own : Visited = λ has. entered has (Some run.literal) run.numbers.items in
      let branches : Visited = λ has. visits_of_all has nodes in
      let grown_last = Keeps-both (λ has. front has ++ branches has) (λ has. front has ++ branches has) own (λ has. visits has node) (Keeps-refl (λ has. front has ++ branches has)) grown in
      let moved = Keeps-then (λ has. (front has ++ own has) ++ branches has) (λ has. (front has ++ branches has) ++ own has) (λ has. (front has ++ branches has) ++ visits has node) (Keeps-swapped front own branches) grown_last in
      let before = Keeps-same (λ has. run_visits has (runs ++ run ∷ []) ++ visits_of_all has nodes) (λ has. (front has ++ own has) ++ branches has) (λ has. ap (λ ns. ns ++ visits_of_all has nodes) (run_visits-push has runs run)) in
      let after = Keeps-same (λ has. (front has ++ branches has) ++ visits has node) (λ has. run_visits has runs ++ visits_of_all has (nodes ++ node ∷ []))
      (λ has. append_assoc (front has) (branches has) (visits has node) ∙ ap (λ ns. run_visits has runs ++ ns) (sym (visits_of_all-push has nodes node))) in
      Keeps-both (λ _. rest) (λ _. rest) (λ has. run_visits has (runs ++ run ∷ []) ++ visits_of_all has nodes) (λ has. run_visits has runs ++ visits_of_all has (nodes ++ node ∷ [])) (Keeps-refl (λ _. rest))
      (Keeps-then _ _ _ (Keeps-then _ _ _ before moved) after)

  -- the numbers of a run are among those that were parted
  pub run_among : (P : ℕ → Type 0) (numbers rest : List ℕ) (all_runs runs : List Run) (run : Run) (nodes : List Node) → all_runs ≡ runs ++ run ∷ [] →
      Keeps cubes (λ _. numbers) (λ has. rest ++ (run_visits has all_runs ++ visits_of_all has nodes)) → All P numbers → All P run.numbers.items
  run_among P numbers rest all_runs runs run nodes split kept all = All-from_members P run.numbers.items (λ number one.
      let any : ℕ → Bool → Bool = λ _ _. true in
      let Q : List ℕ → Type 0 = λ ns. Contains ns number in
      let there : Contains (run_visits any all_runs) number =
      subst Q (sym (ap (run_visits any) split ∙ run_visits-push any runs run)) (Contains-append_right (run_visits any runs) run.numbers.items number one) in
      All-contains P numbers number all (kept.within any number (Contains-append_right rest (run_visits any all_runs ++ visits_of_all any nodes) number
      (Contains-append_left (run_visits any all_runs) (visits_of_all any nodes) number there))))

  -- before the first run becomes a branch
  pub Keeps-begun : (numbers rest : List ℕ) (runs : List Run) (nodes : List Node) → nodes ≡ [] → Keeps cubes (λ _. numbers) (λ has. rest ++ run_visits has runs) →
      Keeps cubes (λ _. numbers) (λ has. rest ++ (run_visits has runs ++ visits_of_all has nodes))
  Keeps-begun numbers rest runs nodes none kept =
      Keeps-then (λ _. numbers) (λ has. rest ++ run_visits has runs) (λ has. rest ++ (run_visits has runs ++ visits_of_all has nodes)) kept
      (Keeps-same _ _ (λ has. ap (λ ns. rest ++ ns) (sym (append-nil (run_visits has runs))) ∙ ap (λ bs. rest ++ (run_visits has runs ++ visits_of_all has bs)) (sym none)))

  -- one more run became a branch
  pub Keeps-branch_more : (numbers rest : List ℕ) (all_runs runs : List Run) (run : Run) (nodes more : List Node) (node : Node) → all_runs ≡ runs ++ run ∷ [] → more ≡ nodes ++ node ∷ [] →
      Keeps cubes (λ has. entered has (Some run.literal) run.numbers.items) (λ has. visits has node) → Keeps cubes (λ _. numbers) (λ has. rest ++ (run_visits has all_runs ++ visits_of_all has nodes)) →
      Keeps cubes (λ _. numbers) (λ has. rest ++ (run_visits has runs ++ visits_of_all has more))
  Keeps-branch_more numbers rest all_runs runs run nodes more node split grown_list grown kept =
      let P : List Run → Type 0 = λ rs. Keeps cubes (λ _. numbers) (λ has. rest ++ (run_visits has rs ++ visits_of_all has nodes)) in
      let Q : List Node → Type 0 = λ bs. Keeps cubes (λ _. numbers) (λ has. rest ++ (run_visits has runs ++ visits_of_all has bs)) in
      subst Q (sym grown_list) (Keeps-then (λ _. numbers) (λ has. rest ++ (run_visits has (runs ++ run ∷ []) ++ visits_of_all has nodes)) (λ has. rest ++ (run_visits has runs ++ visits_of_all has (nodes ++ node ∷ [])))
      (subst P split kept) (Keeps-branch rest runs run nodes node grown))

  no_runs : (runs : List Run) → length runs ≡ 0 → runs ≡ []
  no_runs [] none = refl
  no_runs (run ∷ runs) none = absurd (omega (arith, none))

  -- numbers that are not below the least one pass the filter of a node
  Keeps-filtered : (least : ℕ) (numbers : List ℕ) (a : Visited) → All (λ number. least ≤ number) numbers → Keeps cubes (λ _. numbers) a → Keeps cubes (λ _. numbers) (λ has. filter (λ number. nat_le least number) (a has))
  Keeps-filtered least numbers a all kept = record {
    complete = λ has number cube at each one. in_filter (λ number. nat_le least number) (a has) number (kept.complete has number cube at each one) (le-leb least number (All-contains (λ number. least ≤ number) numbers number all one));
    within = λ has number one. kept.within has number (from_filter (λ number. nat_le least number) (a has) number one);
  }

  -- a node keeps what its numbers and branches do
  Keeps-roll : (numbers : List ℕ) (node : Node-F Node) → All (λ number. node.least ≤ number) numbers → Keeps cubes (λ _. numbers) (λ has. node.numbers.items ++ visits_of_all has node.branches.items) →
      Keeps cubes (λ has. entered has node.literal numbers) (λ has. visits has (roll-Node node))
  Keeps-roll numbers node all kept =
      Keeps-then (λ has. entered has node.literal numbers) (λ has. entered has node.literal (below_node has node)) (λ has. visits has (roll-Node node))
      (Keeps-entered node.literal (λ _. numbers) (λ has. below_node has node) (Keeps-filtered node.least numbers (λ has. node.numbers.items ++ visits_of_all has node.branches.items) all kept))
      (Keeps-same _ _ (λ has. sym (visits_roll has node)))

  -- a node without branches keeps its numbers
  pub Keeps-leaf : (node : Node-F Node) (read : List ℕ) → read ≡ node.numbers.items → All (λ number. node.least ≤ number) read → node.branches.items ≡ [] → Keeps cubes (λ has. entered has node.literal node.numbers.items) (λ has. visits has (roll-Node node))
  Keeps-leaf node read same all none =
      let P : List ℕ → Type 0 = λ numbers. All (λ number. node.least ≤ number) numbers in
      Keeps-roll node.numbers.items node (subst P same all)
      (Keeps-same (λ _. node.numbers.items) (λ has. node.numbers.items ++ visits_of_all has node.branches.items) (λ has. sym (append-nil node.numbers.items) ∙ ap (λ bs. node.numbers.items ++ visits_of_all has bs) (sym none)))

  -- once no run is left, the branches are those of the node
  pub Keeps-node : (numbers : List ℕ) (node : Node-F Node) (runs : List Run) (read : List ℕ) → read ≡ numbers → All (λ number. node.least ≤ number) read → length runs ≡ 0 →
      Keeps cubes (λ _. numbers) (λ has. node.numbers.items ++ (run_visits has runs ++ visits_of_all has node.branches.items)) → Keeps cubes (λ has. entered has node.literal numbers) (λ has. visits has (roll-Node node))
  Keeps-node numbers node runs read same all none kept =
      let P : List Run → Type 0 = λ rs. Keeps cubes (λ _. numbers) (λ has. node.numbers.items ++ (run_visits has rs ++ visits_of_all has node.branches.items)) in
      let Q : List ℕ → Type 0 = λ numbers. All (λ number. node.least ≤ number) numbers in
      Keeps-roll numbers node (subst Q same all) (subst P (no_runs runs none) kept)
