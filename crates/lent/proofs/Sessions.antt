-- SESSION FOR C keeps its promise (Specification 1.1, 3.8, 7.4 and 11): ten counts, or zeros in every area. Assumes
-- nothing.
use Rattle.std.specs.declared.result.Result.TheVariants.{Err}
use Rattle.definitions.specs.Refusals.{Outcome, accepted, refused}
use mathlib.Core.Path.{◌≡◌, refl, ap, ap₂, ◌∙◌, subst}
use mathlib.Core.List.{List, [], ◌∷◌, ◌++◌}
use Prim.Native.Nat.{ℕ, ◌≤◌, ◌<◌}
use native.Mathlib.Omega.{arith}
use lib.IntN.{ℤ, pos}
use lib.ListN.{length, get_or, replicate}
use Rattle.definitions.specs.declared.Ending.{Ending}
use Rattle.definitions.specs.declared.Ending.TheVariants as ending
use Rattle.definitions.specs.declared.Session.{Session}
use Rattle.definitions.specs.Lent.{Order, filled}
use Rattle.theory.proofs.Areas.{filled-nothing}
use Rattle.sessions.specs.Promise.{SessionPromise}
use Rattle.lent.specs.Ends.{Reports, ending_counts, finished_in, finished_of, session_counts, session_size}
use Rattle.lent.specs.Promise.{SessionLent}
use Rattle.lent.proofs.Reporting.{returned-refusal}

-- ---- the counts

-- the first five numbers, one by one
abbrev five_of : List ℕ → List ℕ
five_of a = get_or a 0 0 ∷ get_or a 1 0 ∷ get_or a 2 0 ∷ get_or a 3 0 ∷ get_or a 4 0 ∷ []

-- an end has no more
five-all : (end : Outcome Ending) → five_of (ending_counts end) ≡ ending_counts end
five-all (accepted (ending.Moves rows members stored sums)) = refl
five-all (accepted (ending.Unfinished sums)) = refl
five-all (Err r) = refl

-- so the ten numbers of two ends are the counts of the session
pub ten-all : (answer : Session) {a b : List ℕ} → a ≡ ending_counts answer.first → b ≡ ending_counts answer.second
    → five_of a ++ five_of b ≡ session_counts answer
ten-all answer e f = ap₂ ◌++◌ (ap five_of e ∙ five-all answer.first) (ap five_of f ∙ five-all answer.second)

-- an order is finished at most once
pub finished-most : (end : Outcome Ending) → finished_in end ≤ 1
finished-most (accepted (ending.Moves rows members stored sums)) = omega arith
finished-most (accepted (ending.Unfinished sums)) = omega arith
finished-most (Err r) = omega arith

-- ---- the call

-- the same sizes, said otherwise
pub session-sized : {first second : Order} {list_size list_size' group_size group_size' : ℕ} {steps : List ℕ}
    {answer : Session} {list : List ℤ} {group : List ℕ} → list_size ≡ list_size' → group_size ≡ group_size'
    → SessionPromise first second list_size group_size steps answer list group
    → SessionPromise first second list_size' group_size' steps answer list group
session-sized {first} {second} {list_size' = size} {group_size} {steps = steps} {answer} {list} {group} e f P =
    subst (λ (k : ℕ). SessionPromise first second size k steps answer list group) f
    (subst (λ (k : ℕ). SessionPromise first second k group_size steps answer list group) e P)

module _ (first second : Order) (steps : List ℕ) (list : List ℤ) (group counts : List ℕ) {result : ℤ} where
  -- with room for the counts
  pub session-given : {answer : Session} → session_size ≤ length counts
      → SessionPromise first second (length list) (length group) steps answer list group
      → result ≡ pos (finished_of answer) → counts ≡ filled 0 (length counts) (session_counts answer)
      → SessionLent first second steps result list group counts
  session-given {answer} h P e f = record {
    roomy = λ l. record { answer = answer; kept = P; results = e; counts_hold = f };
    short = λ l. absurd (omega arith);
  }

  -- without
  pub session-short : length counts < session_size → Reports (refused 6 0) (length counts) result counts
      → list ≡ replicate (length list) (pos 0) → group ≡ replicate (length group) 0
      → SessionLent first second steps result list group counts
  session-short h R l g =
      let r = returned-refusal R refl in
      record {
        roomy = λ k. absurd (omega arith);
        short = λ k. record {
          results = r.results;
          zeros = (record { list_holds = l; group_holds = g }, r.counts_hold ∙ filled-nothing 0 (length counts));
        };
      }
