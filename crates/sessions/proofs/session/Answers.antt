-- `session` meets its contract: the tests, both orders, and zeros where both refuse. Assumes nothing.
use mathlib.Core.Path.{sym, ◌∙◌, ap, ap₂}
use mathlib.Core.Bool.{◌&&◌}
use mathlib.Core.List.{[]}
use Prim.Native.Nat.{ℕ}
use Rattle.definitions.specs.Lent.{filled}
use Rattle.sessions.proofs.Ends.{first-grouped, left-narrow, left-none, left-size, promise-left, promise-refused}
use Rattle.sessions.proofs.Ends.{promise-shut, second-grouped}
use Rattle.sessions.proofs.session.Goals as goal

pub returns-then-not-is_left : goal.returns-then-not-is_left
returns-then-not-is_left c =
    let F = c.test_both-tests.ensures.found in
    let none = left-none _ _ (sym c.is_left.ensures.told ∙ c.if-not-is_left.true) in
    let e = none.4 in
    let f = none.5 in record {
      kept = promise-shut _ _ _ _ _ (sym F.first_met ∙ e) (sym F.second_met ∙ f)
          (c.refused_by.ensures.refused _ _ e) (c.refused_by-then-not-is_left.ensures.refused _ _ f)
          c.clear.ensures.cleared
          (c.clear-then-not-is_left.ensures.cleared ∙ ap (λ (k : ℕ). filled 0 k []) c.test_both-tests.auto.group);
    }

pub run_both-answer-requires : goal.run_both-answer-requires
run_both-answer-requires c =
    let F = c.test_both-tests.ensures.found in
    let left = sym c.is_left.ensures.told ∙ c.if-not-is_left.false in
    let long = c.test_both-tests.auto.group in
    let bytes = c.args.steps.now in record {
      narrow = left-narrow _ _ _ _ bytes F left long;
      sized = left-size _ _ _ _ bytes F left long;
      first = first-grouped _ _ _ _ bytes F left long;
      second = second-grouped _ _ _ _ bytes F left long;
    }

pub returns-then-is_err : goal.returns-then-is_err
returns-then-is_err c =
    let left = sym c.is_left.ensures.told ∙ c.if-not-is_left.false in
    let long = c.test_both-tests.auto.group in record {
      kept = promise-refused _ _ _ _ _ c.test_both-tests.ensures.found left long c.run_both-answer.ensures.ended
          (sym (ap₂ ◌&&◌ c.is_err.ensures.value c.is_err-2.ensures.value) ∙ c.if-is_err.true)
          (c.clear-then-is_err.ensures.cleared ∙ ap (λ (k : ℕ). filled 0 k []) long);
    }

pub returns-else-is_err : goal.returns-else-is_err
returns-else-is_err c =
    let left = sym c.is_left.ensures.told ∙ c.if-not-is_left.false in record {
      kept = promise-left _ _ _ _ _ c.test_both-tests.ensures.found left c.test_both-tests.auto.group
          c.run_both-answer.ensures.ended
          (sym (ap₂ ◌&&◌ c.is_err.ensures.value c.is_err-2.ensures.value) ∙ c.if-is_err.false);
    }
