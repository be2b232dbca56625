-- What a session promises, for every input (Specification 3.8, 7.4 and 11). Assumes nothing.
use Rattle.std.specs.Prelude.{◌≡◌, List, ℕ, ℤ, length, take, drop}
use Rattle.definitions.specs.declared.Session.{Session}
use Rattle.definitions.specs.Lent.{Order}
use Rattle.definitions.specs.Session.{first_part, half, second_part, session_call, steps_of}
use Rattle.definitions.specs.Demands.{AreasKept, PartKept}
use Rattle.vectors.specs.Areas.{Lent, LentMut}

-- both answers and both areas by the definition; what each order may conclude from its part, its answer and its half of
-- the list area; and what the areas hold
pub record SessionPromise (first second : Order) (list_size group_size : ℕ) (steps : List ℕ) (answer : Session)
    (list : List ℤ) (group : List ℕ) : Type 0 where
  pub first_answers : answer.first ≡ (session_call first second list_size group_size steps).first
  pub second_answers : answer.second ≡ (session_call first second list_size group_size steps).second
  pub list_holds : list ≡ (session_call first second list_size group_size steps).list
  pub group_holds : group ≡ (session_call first second list_size group_size steps).group
  -- order 0
  pub first_gets : first_part first second list_size group_size steps
      ≡ record { ending = answer.first; rows = take (half first.n) list }
  pub first_kept : PartKept first second list_size group_size (steps_of 0 steps)
      (λ other. first_part first other list_size group_size steps)
  -- order 1
  pub second_gets : second_part second first list_size group_size steps
      ≡ record { ending = answer.second; rows = drop (half second.n) list }
  pub second_kept : PartKept second first list_size group_size (steps_of 1 steps)
      (λ other. second_part second other list_size group_size steps)
  pub areas_kept : AreasKept first second list_size group_size (session_call first second list_size group_size steps)

-- .. of the orders that are sent, in the areas that are lent
abbrev pub KeepsSession : (first second : Order) (list : LentMut ℤ) (group : LentMut ℕ) (steps : Lent ℕ)
    (answer : Session) → Type 0
KeepsSession first second list group steps answer =
    SessionPromise first second (length list.entry.now) (length group.entry.now) steps.entry.now answer
    list.exit.now group.exit.now
