-- How a session ends: what the tests and the orders find is the definition's, and the promise. Assumes nothing.
use Rattle.std.specs.Prelude.{is_err}
use Rattle.std.specs.declared.result.Result.TheVariants.{Err}
use Rattle.definitions.specs.Refusals.{Fault, no_fault, fault_at}
use mathlib.Core.Path.{◌≡◌, refl, sym, ◌∙◌, ap, ap₂, subst}
use mathlib.Core.Logic.{◌⊎◌, inl, inr}
use mathlib.Core.Bool.{Bool, true, false, cond, ◌&&◌}
use mathlib.Core.List.{List, [], ◌++◌}
use Prim.Native.Nat.{ℕ, ◌+◌, ◌≤◌}
use lib.IntN.{ℤ, pos}
use lib.ListN.{length, take, drop}
use Rattle.definitions.specs.declared.Session.{Session}
use Rattle.definitions.specs.Limits.{cells, session_rows}
use Rattle.definitions.specs.Lists.{concat}
use Rattle.definitions.specs.Group.{Exchange}
use Rattle.definitions.specs.Completion.{begun}
use Rattle.definitions.specs.Lent.{Order, filled, generators_of, table_of, vectors_of}
use Rattle.definitions.specs.Refusals.{accepted, refused}
use Rattle.definitions.specs.Session.{Result, SessionEnd, difference_fault, ended, ending_of, first_part, half, half_of}
use Rattle.definitions.specs.Session.{is_refused, result_of, second_part, session_call, session_end, session_fault, shared_fault}
use Rattle.definitions.specs.Session.{started, steps_of, unfinished, unless_met}
use Rattle.theory.proofs.Accepted.{Admitted, admission-none}
use Rattle.theory.proofs.Steps.{steps}
use Rattle.theory.proofs.Tests.{clash}
use Rattle.session_theory.proofs.Tests.{difference-same, fault-none, own-tests, shared-none, shared_same, tables_agree}
use Rattle.session_theory.proofs.Own.{met-refused}
use Rattle.session_theory.proofs.Parts.{first-kept, part-is, result₀, result₁, second-kept, session-is, two-halves}
use Rattle.session_theory.proofs.Areas.{areas-kept}
use Rattle.reduction.specs.Areas.{sequences_in}
use Rattle.moves.specs.Found.{Grouped}
use Rattle.moves.proofs.Tables.{held-grouped, held-table}
use Rattle.sessions.specs.declared.Tests.{Tests}
use Rattle.sessions.specs.Found.{Ends, Finds, any_left, result_by, shape_of}
use Rattle.sessions.specs.Promise.{SessionPromise}
use Rattle.sessions.proofs.Testing.{left-either}

-- neither order is left
pub left-none : (first second : Fault) → any_left first second ≡ false
    → (m : ℕ) × (p : ℕ) × (m' : ℕ) × (p' : ℕ) × (first ≡ fault_at m p) × (second ≡ fault_at m' p')
left-none no_fault second e = clash refl e
left-none (Err r) no_fault e = clash refl e
left-none (Err r) (Err q) e = (r.number, r.place, q.number, q.place, refl, refl)

refused-same : (result : Result) → is_err (ending_of result) ≡ is_refused result
unfolding ending_of is_refused
refused-same (ended (accepted found)) = refl
refused-same (ended (Err r)) = refl
refused-same (unfinished sums) = refl

module _ (first second : Order) (list_size group_size : ℕ) (bytes : List ℕ) where
  abbrev end : SessionEnd
  end = session_call first second list_size group_size bytes

  abbrev table : List Exchange
  table = table_of first group_size

  -- the promise, from the definition
  promise : {answer : Session} {list : List ℤ} {group : List ℕ} → answer.first ≡ end.first → answer.second ≡ end.second
      → list ≡ end.list → group ≡ end.group → SessionPromise first second list_size group_size bytes answer list group
  unfolding first_part second_part
  promise a b l g = record {
    first_answers = a;
    second_answers = b;
    list_holds = l;
    group_holds = g;
    first_gets = part-is (sym a) (ap (take (half first.n)) (sym l));
    first_kept = first-kept first second list_size group_size bytes;
    second_gets = part-is (sym b) (ap (drop (half second.n)) (sym l));
    second_kept = second-kept first second list_size group_size bytes;
    areas_kept = areas-kept first second list_size group_size bytes;
  }

  -- both are refused by tests
  pub promise-shut : {m p m' p' : ℕ} → session_fault first second list_size group_size ≡ fault_at m p
      → session_fault second first list_size group_size ≡ fault_at m' p' → {answer : Session} {list : List ℤ} {group : List ℕ}
      → answer.first ≡ refused m p → answer.second ≡ refused m' p' → list ≡ filled (pos 0) list_size [] → group ≡ filled 0 group_size []
      → SessionPromise first second list_size group_size bytes answer list group
  unfolding session_end ending_of is_refused
  promise-shut {m} {p} {m'} {p'} e f a b l g =
      promise (a ∙ sym (ap (λ (x : SessionEnd). x.first) ends)) (b ∙ sym (ap (λ (x : SessionEnd). x.second) ends))
      (l ∙ sym (ap (λ (x : SessionEnd). x.list) ends)) (g ∙ sym (ap (λ (x : SessionEnd). x.group) ends))
    where
      ends : end ≡ session_end first.n list_size group_size table (ended (refused m p)) (ended (refused m' p'))
      ends =
          session-is first second list_size group_size bytes
          ∙ ap₂ (λ (x y : Result). session_end first.n list_size group_size table x y)
          (met-refused first second list_size group_size table (steps_of 0 bytes) e)
          (met-refused second first list_size group_size table (steps_of 1 bytes) f)

  -- ---- one is left
  module _ {group : List ℕ} {tests : Tests} (F : Finds first second list_size group_size group tests)
      (left : any_left tests.first tests.second ≡ true) (long : length group ≡ group_size) where
    record Open : Type 0 where
      shared : shared_fault first second list_size ≡ no_fault
      same : difference_fault first second ≡ no_fault
      fits : first.n ≤ cells
      sequences : sequences_in (shape_of first.n tests) group ≡ table

    -- an order that meets no test is admitted
    admitted : (order other : Order) → session_fault order other list_size group_size ≡ no_fault → Admitted order group_size true
    admitted order other e =
        let s = fault-none order other list_size group_size e in
        admission-none order group_size true (sym (own-tests order other list_size group_size s.0 s.1) ∙ e)

    -- the table in the area is its own
    own_held : (order other : Order) → session_fault order other list_size group_size ≡ no_fault → order.n ≡ first.n
        → table_of order group_size ≡ table → Grouped (shape_of first.n tests) order.generators group
        × (sequences_in (shape_of first.n tests) group ≡ table)
    own_held order other e n t =
        let A = admitted order other e in
        let h : group ≡ filled 0 group_size (concat (table_of order group_size)) =
        F.held left ∙ ap (λ (x : List Exchange). filled 0 group_size (concat x)) (sym t) in
        let c : tests.members ≡ length (table_of order group_size) = F.counted left ∙ ap length (sym t) in (
          subst (λ (k : ℕ). Grouped (shape_of k tests) order.generators group) n (held-grouped A h long c),
          ap (λ (k : ℕ). sequences_in (shape_of k tests) group) (sym n) ∙ held-table A h long c ∙ t,
        )

    first-held : tests.first ≡ no_fault → Grouped (shape_of first.n tests) first.generators group
        × (sequences_in (shape_of first.n tests) group ≡ table)
    first-held e = own_held first second (sym F.first_met ∙ e) refl refl

    second-held : tests.second ≡ no_fault → Grouped (shape_of first.n tests) second.generators group
        × (sequences_in (shape_of first.n tests) group ≡ table)
    second-held e =
        let f = sym F.second_met ∙ e in
        let s = fault-none second first list_size group_size f in
        own_held second first f (shared-none second first list_size s.0).cells
        (tables_agree second first list_size group_size s.0 s.1)

    pub first-grouped : tests.first ≡ no_fault → Grouped (shape_of first.n tests) first.generators group
    first-grouped e = (first-held e).0

    pub second-grouped : tests.second ≡ no_fault → Grouped (shape_of first.n tests) second.generators group
    second-grouped e = (second-held e).0

    opened : Open
    opened = go (left-either tests.first tests.second left)
      where
        go : (tests.first ≡ no_fault) ⊎ (tests.second ≡ no_fault) → Open
        go (inl e) =
            let s = fault-none first second list_size group_size (sym F.first_met ∙ e) in
            let G = first-held e in
            record { shared = s.0; same = s.1; fits = G.0.table.narrow; sequences = G.1 }
        go (inr e) =
            let s = fault-none second first list_size group_size (sym F.second_met ∙ e) in
            let G = second-held e in
            record {
              shared = shared_same first second list_size ∙ s.0;
              same = difference-same second first s.1;
              fits = G.0.table.narrow;
              sequences = G.1;
            }

    pub left-narrow : first.n ≤ cells
    left-narrow = opened.fits

    pub left-size : list_size ≡ half first.n + half first.n
    left-size = (shared-none first second list_size opened.shared).size

    -- what the code's orders come to is what the definition's do
    result-first : result_by (shape_of first.n tests) group tests.first first.generators (steps_of 0 bytes)
        ≡ result₀ first second list_size group_size bytes
    unfolding started generators_of
    result-first =
        ap₂ (λ (t : List Exchange) (f : Fault).
        result_of t (steps t session_rows (steps_of 0 bytes) (unless_met f (begun t session_rows (generators_of first)))))
        opened.sequences F.first_met

    result-second : result_by (shape_of first.n tests) group tests.second second.generators (steps_of 1 bytes)
        ≡ result₁ first second list_size group_size bytes
    unfolding started generators_of
    result-second =
        ap (λ (n : ℕ).
        result_of sequences (steps sequences session_rows (steps_of 1 bytes)
        (unless_met tests.second (begun sequences session_rows (vectors_of n second.generators)))))
        (shared-none first second list_size opened.shared).cells
        ∙ ap₂ (λ (t : List Exchange) (f : Fault).
        result_of t (steps t session_rows (steps_of 1 bytes) (unless_met f (begun t session_rows (generators_of second)))))
        opened.sequences F.second_met
      where
        sequences : List Exchange
        sequences = sequences_in (shape_of first.n tests) group

    module _ {answer : Session} {list : List ℤ}
        (E : Ends first.n (result_by (shape_of first.n tests) group tests.first first.generators (steps_of 0 bytes))
        (result_by (shape_of first.n tests) group tests.second second.generators (steps_of 1 bytes)) list answer) where
      abbrev R₀ : Result
      R₀ = result₀ first second list_size group_size bytes

      abbrev R₁ : Result
      R₁ = result₁ first second list_size group_size bytes

      first_ends : answer.first ≡ ending_of R₀
      first_ends = E.first_answers ∙ ap ending_of result-first

      second-ends : answer.second ≡ ending_of R₁
      second-ends = E.second_answers ∙ ap ending_of result-second

      list-ends : list ≡ end.list
      list-ends =
          E.holds
          ∙ ap₂ (λ (a b : Result). half_of first.n a ++ half_of first.n b) result-first result-second
          ∙ sym (ap (λ (x : SessionEnd). x.list) (session-is first second list_size group_size bytes)
          ∙ two-halves first.n list_size group_size table R₀ R₁ left-size)

      -- whether both are refused
      both : (b : Bool) → (is_err answer.first && is_err answer.second) ≡ b → (is_refused R₀ && is_refused R₁) ≡ b
      both b e =
          sym (ap₂ ◌&&◌ (ap is_err first_ends ∙ refused-same R₀) (ap is_err second-ends ∙ refused-same R₁)) ∙ e

      ended-with : {group' : List ℕ} (b : Bool) → (is_err answer.first && is_err answer.second) ≡ b
          → group' ≡ filled 0 group_size (cond b [] (concat table))
          → SessionPromise first second list_size group_size bytes answer list group'
      unfolding session_end
      ended-with b e g =
          promise (first_ends ∙ sym (ap (λ (x : SessionEnd). x.first) (session-is first second list_size group_size bytes)))
          (second-ends ∙ sym (ap (λ (x : SessionEnd). x.second) (session-is first second list_size group_size bytes)))
          list-ends
          (g ∙ sym (ap (λ (x : SessionEnd). x.group) (session-is first second list_size group_size bytes)
          ∙ ap (λ (x : Bool). filled 0 group_size (cond x [] (concat table))) (both b e)))

      -- both were refused while they ran, and the group area was cleared
      pub promise-refused : {group' : List ℕ} → (is_err answer.first && is_err answer.second) ≡ true
          → group' ≡ filled 0 group_size [] → SessionPromise first second list_size group_size bytes answer list group'
      promise-refused e g = ended-with true e g

      -- one is left
      pub promise-left : (is_err answer.first && is_err answer.second) ≡ false
          → SessionPromise first second list_size group_size bytes answer list group
      promise-left e = ended-with false e (F.held left)
