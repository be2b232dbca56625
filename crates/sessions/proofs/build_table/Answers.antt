-- `build_table` meets its contract: a table is built where an order is left. Assumes nothing.
use Rattle.std.specs.Option.{unwrap_or}
use Rattle.std.specs.declared.option.Option.{Option}
use Rattle.std.specs.declared.option.Option.TheVariants.{Some, None}
use mathlib.Core.Path.{◌≡◌, sym, ◌∙◌, ap, subst}
use mathlib.Core.List.{List, []}
use Prim.Native.Nat.{ℕ, ◌*◌, ◌≤◌, ◌<◌}
use native.Mathlib.Omega.{arith}
use lib.ListN.{length}
use Rattle.definitions.specs.Limits.{group_limit}
use Rattle.definitions.specs.Group.{group_table, identity}
use Rattle.definitions.specs.Lent.{Order, exchanges_of, group_rows, order_of, table_of}
use Rattle.theory.proofs.Closure.{table-unit}
use Rattle.theory.proofs.Lists.{mem_index}
use Rattle.theory.proofs.Tests.{clash}
use Rattle.group.specs.Answer.{area_of, members_of}
use Rattle.group.proofs.Answers.{built-large, built-members}
use Rattle.admission.proofs.Tests.{rows_inside}
use Rattle.sessions.specs.Found.{Tabled}
use Rattle.sessions.proofs.build_table.Goals as goal

-- a group has members
some-members : (order : Order) (size : ℕ) → 0 < length (table_of order size)
unfolding table_of
some-members order size =
    let rows = group_rows order.n size in
    let r = mem_index (identity order.n) (group_table order.n (exchanges_of order) rows) []
    (table-unit order.n (exchanges_of order) rows) in
    omega (arith, r.1)

-- what the answer says: the number of members, or 0 where there are more than the area has rows for
tabled : (order : Order) (size : ℕ) (b : Option ℕ) (group : List ℕ)
    → b ≡ members_of (table_of order size) (group_rows order.n size) → group ≡ area_of size b (table_of order size)
    → Tabled order size group (unwrap_or b 0)
unfolding area_of
tabled order size None group e f = record {
  large = λ h. built-large _ _ (sym e);
  few = λ h. absurd (omega (arith, h));
  counted = λ h. absurd (omega (arith, h));
  held = λ h. absurd (omega (arith, h));
}
tabled order size (Some g) group e f =
    let m = built-members _ _ _ (sym e) in record {
      large = λ h. absurd (omega (arith, h, m.0, some-members order size));
      few = λ h. omega (arith, m.0, m.1);
      counted = λ h. m.0;
      held = λ h. f;
    }

pub returns-then-not-left : goal.returns-then-not-left
returns-then-not-left c = record { built = λ e. clash e c.if-not-left.true }

pub rows_up_to-limit-requires : goal.rows_up_to-limit-requires
rows_up_to-limit-requires c = record { some = (c.requires.valid c.if-not-left.false).some }

pub group_table-requires : goal.group_table-requires
group_table-requires c =
    let d = c.requires.valid c.if-not-left.false in
    let size = length c.args.group.now in record {
      areas = record {
        some = d.some;
        most = d.narrow;
        few = omega (arith, c.rows_up_to-limit.ensures.counted);
        room = subst (λ (l : ℕ). l * c.args.n ≤ size) (sym c.rows_up_to-limit.ensures.counted) (rows_inside group_limit c.args.n size);
      };
      valid = d.valid;
    }

pub returns : goal.returns
unfolding table_of exchanges_of group_rows
returns c =
    let order = order_of c.args.n [] c.args.exchanges.now [] in
    let size = length c.args.group.now in
    let rows : c.rows_up_to-limit.result ≡ group_rows c.args.n size = c.rows_up_to-limit.ensures.counted in
    let table : ℕ → List (List ℕ) = group_table c.args.n (exchanges_of order) in
    let built = c.group_table.ensures.built in
    let answer = built.answer ∙ ap (λ (l : ℕ). members_of (table l) l) rows in
    let area = built.area ∙ ap (λ (l : ℕ). area_of size c.group_table.result (table l)) rows in
    record { built = λ e. subst (Tabled order size c.group_table.new.table) (sym c.unwrap_or.ensures) (tabled order size _ _ answer area) }
