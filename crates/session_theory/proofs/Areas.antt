-- WHAT THE AREAS OF A SESSION HOLD. Assumes nothing.
use Rattle.std.specs.declared.result.Result.TheVariants.{Err}
use Rattle.definitions.specs.Refusals.{Fault, no_fault}
use mathlib.Core.Path.{◌≡◌, refl, sym, ◌∙◌, ap, ap₂, subst}
use mathlib.Core.Bool.{Bool, true, false, cond, ◌&&◌}
use mathlib.Core.List.{List, []}
use Prim.Native.Nat.{ℕ}
use lib.IntN.{pos}
use lib.ListN.{replicate}
use Rattle.definitions.specs.Lists.{concat}
use Rattle.definitions.specs.Group.{Exchange}
use Rattle.definitions.specs.Lent.{Order, exchanges_of, filled, rows_of, table_of}
use Rattle.definitions.specs.Refusals.{accepted, refused}
use Rattle.definitions.specs.Session.{Result, SessionEnd, difference_fault, ended, ending_of, is_refused, session_call, session_end}
use Rattle.definitions.specs.Session.{session_fault, shared_fault, steps_of, unfinished}
use Rattle.theory.proofs.Accepted.{admission-none, order-symmetric}
use Rattle.theory.proofs.Areas.{filled-nothing}
use Rattle.definitions.specs.Demands.{AreasKept, IsTable, Left, TableKept}
use Rattle.session_theory.proofs.Tests.{difference-none, difference-same, fault-none, own-tests, shared-none, shared_same}
use Rattle.session_theory.proofs.Tests.{tables_agree}
use Rattle.session_theory.proofs.Own.{met-refused, result_after}
use Rattle.session_theory.proofs.Kept.{refused-of}
use Rattle.session_theory.proofs.Parts.{answer₀, answer₁, result₀, result₁, session-is}

not-refused : (result : Result) → Left (ending_of result) → is_refused result ≡ false
unfolding is_refused ending_of
not-refused (ended (accepted found)) f = refl
not-refused (ended (Err r)) f = absurd (f r.number r.place refl)
not-refused (unfinished sums) f = refl

-- an order that is left meets no test
left-none : (order other : Order) (list_size group_size : ℕ) (table : List Exchange) (k : ℕ)
    → Left (ending_of (result_after order other list_size group_size table k)) → session_fault order other list_size group_size ≡ no_fault
unfolding ending_of
left-none order other list_size group_size table k f = go (session_fault order other list_size group_size) refl
  where
    go : (x : Fault) → session_fault order other list_size group_size ≡ x → session_fault order other list_size group_size ≡ no_fault
    go no_fault p = p
    go (Err r) p =
        absurd (f r.number r.place (ap ending_of (met-refused order other list_size group_size table k p)))

-- .. and has a group
left-table : (order other : Order) (list_size group_size : ℕ) → session_fault order other list_size group_size ≡ no_fault
    → IsTable order.n (exchanges_of order) (table_of order group_size)
left-table order other list_size group_size e =
    let s = fault-none order other list_size group_size e in
    let P = admission-none order group_size true (sym (own-tests order other list_size group_size s.0 s.1) ∙ e) in
    (order-symmetric order group_size P.cells_pass P.tests_pass).is_table

-- the exchanges of both
same-exchanges : (first second : Order) (list_size : ℕ) → shared_fault first second list_size ≡ no_fault
    → difference_fault first second ≡ no_fault → exchanges_of first ≡ exchanges_of second
unfolding exchanges_of difference_fault
same-exchanges first second list_size e f =
    ap₂ rows_of (shared-none first second list_size e).cells
    (difference-none first.n 0 first.exchanges second.exchanges f)

module _ (first second : Order) (list_size group_size : ℕ) (steps : List ℕ) where
  abbrev end : SessionEnd
  end = session_call first second list_size group_size steps

  abbrev table : List Exchange
  table = table_of first group_size

  abbrev R₀ : Result
  R₀ = result₀ first second list_size group_size steps

  abbrev R₁ : Result
  R₁ = result₁ first second list_size group_size steps

  table_kept : shared_fault first second list_size ≡ no_fault → difference_fault first second ≡ no_fault
      → IsTable first.n (exchanges_of first) table → (is_refused R₀ && is_refused R₁) ≡ false
      → TableKept first second list_size group_size end.group
  unfolding session_end
  table_kept e f t b = record {
    size = (shared-none first second list_size e).size;
    one = tables_agree first second list_size group_size e f;
    is_table = t;
    holds = ap (λ (x : SessionEnd). x.group) (session-is first second list_size group_size steps)
        ∙ ap (λ (x : Bool). filled 0 group_size (cond x [] (concat table))) b;
  }

  first-left : Left end.first → TableKept first second list_size group_size end.group
  first-left f =
      let open₀ : Left (ending_of R₀) = λ m p e. f m p (answer₀ first second list_size group_size steps ∙ e) in
      let e = left-none first second list_size group_size table (steps_of 0 steps) open₀ in
      let s = fault-none first second list_size group_size e in
      table_kept s.0 s.1 (left-table first second list_size group_size e)
      (ap (λ (x : Bool). x && is_refused R₁) (not-refused R₀ open₀))

  second-left : Left end.second → TableKept first second list_size group_size end.group
  second-left f =
      let open₁ : Left (ending_of R₁) = λ m p e. f m p (answer₁ first second list_size group_size steps ∙ e) in
      let e = left-none second first list_size group_size table (steps_of 1 steps) open₁ in
      let s = fault-none second first list_size group_size e in
      let shared : shared_fault first second list_size ≡ no_fault = shared_same first second list_size ∙ s.0 in
      let same = difference-same second first s.1 in
      table_kept shared same (moved shared same (left-table second first list_size group_size e))
      (ap (λ (x : Bool). is_refused R₀ && x) (not-refused R₁ open₁) ∙ and-false (is_refused R₀))
    where
      and-false : (b : Bool) → (b && false) ≡ false
      and-false true = refl
      and-false false = refl

      moved : shared_fault first second list_size ≡ no_fault → difference_fault first second ≡ no_fault
          → IsTable second.n (exchanges_of second) (table_of second group_size) → IsTable first.n (exchanges_of first) table
      moved e f t =
          subst (λ (n : ℕ). IsTable n (exchanges_of first) table) (sym (shared-none first second list_size e).cells)
          (subst (λ (x : List Exchange). IsTable second.n x table) (sym (same-exchanges first second list_size e f))
          (subst (IsTable second.n (exchanges_of second)) (sym (tables_agree first second list_size group_size e f)) t))

  both_zero : (m p m' p' : ℕ) → end.first ≡ refused m p → end.second ≡ refused m' p'
      → (end.list ≡ replicate list_size (pos 0)) × (end.group ≡ replicate group_size 0)
  unfolding session_end is_refused
  both_zero m p m' p' e f = (
    ap (λ (x : SessionEnd). x.list) ends ∙ filled-nothing (pos 0) list_size,
    ap (λ (x : SessionEnd). x.group) ends ∙ filled-nothing 0 group_size,
  )
    where
      ends : end ≡ session_end first.n list_size group_size table (ended (refused m p)) (ended (refused m' p'))
      ends =
          session-is first second list_size group_size steps
          ∙ ap₂ (λ (a b : Result). session_end first.n list_size group_size table a b)
          (refused-of R₀ m p (sym (answer₀ first second list_size group_size steps) ∙ e))
          (refused-of R₁ m' p' (sym (answer₁ first second list_size group_size steps) ∙ f))

  pub areas-kept : AreasKept first second list_size group_size end
  areas-kept = record { first_left = first-left; second_left = second-left; zeros = both_zero }
